-- Theorems on a whole fill. Its code is the rules' (CodeRule: `code_is`, `accepted_of`); what its entry and its passes need and leave (PassRule:
-- `may_pass`, `passed`); what its end needs (SettleRule: `may_settle`); and that it does what the rules say (Ruled: `fills_taken`,
-- `fills_refused`). The rest are their parts.
pub mod Tables
pub mod Told
pub mod Known
pub mod CodeRule
pub mod PassRule
pub mod IndexRule
pub mod SettleRule
pub mod SetRule
pub mod GroupRule
pub mod AnswerRule
pub mod Ruled
