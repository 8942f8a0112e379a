-- Members (the parties of the group's accounts are parties; columns keep their lengths), Parts (the columns made one by one are the value).
pub mod Members
pub mod Parts
