-- What all other crates share.
--
-- What a reader must believe: the limits, the policies, the refusals and what an answer says, each number once and by name;
-- lists of numbers.
pub mod Limits
pub mod Policies
pub mod Refusals
pub mod Lists
pub mod Told
pub mod AllBelow
pub mod Narrow
-- A marked case, for the table of all cases:
pub mod Case
-- Laws:
pub mod Cases
pub mod AnswerLaws
pub mod FirstBad
pub mod TableLaws
