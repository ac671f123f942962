-- What a reader must believe about the report: its text, as a definition of the file's bytes, and what is promised of a
-- buffer that takes it (`Wrote`, `Printed`) and of the input that a program reads (`InputPrinted`).
pub mod Text
pub mod Report
pub mod Buffer
pub mod Input
-- Laws, and the definitions that only they use; last the closed examples.
pub mod Decimals
pub mod Pieces
pub mod Lines
pub mod Outcomes
pub mod Sample
