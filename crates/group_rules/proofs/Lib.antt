-- A join: JoinCode (its code, and a join refused), JoinRule (`join_is`, over JoinOrder, JoinSlots, JoinNumbers and JoinRoom), JoinIndex (the
-- buckets), JoinGood (what it leaves is well formed). FreshRule: a fresh group. GroupLook: what is read off a group's columns. GroupUnique: two
-- groups that mean the same are the same. Behind and Follows are laws of lists, Room is of one group.
pub mod Behind
pub mod Follows
pub mod JoinOrder
pub mod JoinCode
pub mod JoinNumbers
pub mod Room
pub mod JoinRoom
pub mod JoinSlots
pub mod FreshRule
pub mod JoinRule
pub mod JoinIndex
pub mod JoinGood
pub mod GroupLook
pub mod GroupUnique
