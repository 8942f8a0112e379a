-- A fill with nothing to do changes nothing: of any columns (Columns), of the index (Index), of the passes (Passes), of the buffer (Buffer), and
-- of all of them (Still: `stands_still`).
pub mod Columns
pub mod Index
pub mod Passes
pub mod Buffer
pub mod Still
