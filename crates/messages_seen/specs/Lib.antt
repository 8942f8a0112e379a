-- What is seen of messages in lent columns.
pub mod Messages
