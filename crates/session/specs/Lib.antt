-- Sessions.
--
-- What a reader must believe: histories, what the memory holds after one, what each call makes of any memory, and what it
-- answers.
pub mod History
pub mod Lent
pub mod Memory
pub mod AnyMemory
pub mod Answers
pub mod Reads
pub mod Tests
-- What the promises give their users, and whoever drives a session:
pub mod Promises
pub mod Driving
-- Laws that proofs/ builds on: which references are accepted, what a start gives, the sums of tables, the tests.
pub mod ReferLaws
pub mod StartLaws
pub mod TotalLaws
pub mod TestLaws
