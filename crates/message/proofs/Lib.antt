-- What holds of the definitions in specs/: the number of a code, the kind byte, and real messages among the rules.
pub mod Codes
pub mod KindByte
pub mod Real
