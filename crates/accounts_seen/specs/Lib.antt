-- What is seen of accounts in lent columns.
pub mod Accounts
