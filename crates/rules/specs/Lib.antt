-- The rules of document 01 as a pure model on lists, the calls over it, and what is demanded of them. Read them in this order.
pub mod World
pub mod Queues
pub mod Passes
pub mod Fill
pub mod Demand
pub mod Kept
pub mod Calls
pub mod Scenario
pub mod Cases
pub mod Codes
pub mod Computed
pub mod Made
pub mod Answers
