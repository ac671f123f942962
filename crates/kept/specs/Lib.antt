-- How code keeps a list and its counts.
--
-- What a reader must believe, since promises about memory cite it:
pub mod Entries
pub mod Rankings
pub mod Kept
pub mod Tally
pub mod Filled
pub mod Frequencies
pub mod Nexts
pub mod Memory
pub mod Shown
-- Laws:
pub mod Below
pub mod EntryLaws
pub mod Recency
pub mod KeptPolicies
pub mod PastOnly
pub mod MemoryLaws
