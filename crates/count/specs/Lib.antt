-- Whole traces, and the list of a trace.
--
-- What a reader must believe: which refusal, which hits, which list.
pub mod Count
pub mod Listing
-- The marked cases, which test it:
pub mod MarkedAnswers
-- What the code's parts promise one another: the checks, a run over a trace.
pub mod Checks
pub mod Runs
-- Laws: the hit table, a run over a trace, OPT's look ahead.
pub mod Table
pub mod RunLaws
pub mod OptLaws
