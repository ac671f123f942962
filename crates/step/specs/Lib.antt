-- The list step.
--
-- What a reader must believe: what a step promises.
pub mod Stepped
-- Laws:
pub mod Shifting
pub mod EntryLengths
