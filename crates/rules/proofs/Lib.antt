-- `Worked` has the check compute the tables of cases. The theorems about the rules stand in crate `demands`.
pub mod Worked
