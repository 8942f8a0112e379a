-- Laws of what the columns mean that other crates cite: Counts (all messages are counted), Meaning (what the meaning depends on), Seeking
-- (the search for the k-th row of one owner), Indexing (the index made anew, and what a search by it relies on), Copied (cells copied within a
-- column).
pub mod Counts
pub mod Meaning
pub mod Seeking
pub mod Indexing
pub mod Copied
