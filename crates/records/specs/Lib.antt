-- A message record spread over columns.
pub mod Records
