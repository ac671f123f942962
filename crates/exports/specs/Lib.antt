-- What the exported functions promise: the promises of the proved ones, told in numbers, after a test of the session that is
-- lent. What a reader must believe stands in these:
pub mod Lent
pub mod Told
pub mod Trace
pub mod File
pub mod Session
-- What tests it: memory that nobody started a session in.
pub mod MarkedSessions
-- Laws: that the proved functions' promises give these, of numbers of 32 bits too, and that two answers that meet one are
-- equal. Those of a session's calls stand in proofs/.
pub mod Narrow
pub mod TraceLaws
pub mod FileLaws
pub mod Once
