-- References to what is kept of a run.
--
-- What a reader must believe: what one reference does, and references one after the other.
pub mod Referred
pub mod ReferredAll
-- Two answers that meet the promise are equal:
pub mod Promises
-- Laws: the ranks, and a run that is kept in memory, reference by reference.
pub mod RankLaws
pub mod RunLaws
