-- What contracts say of the columns of a fill as a value: as the entry makes them (`Begin`), and as a run leaves them (`Run`).
pub mod Works
pub mod Begin
pub mod Run
