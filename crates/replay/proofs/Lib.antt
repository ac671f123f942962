-- Laws of the definitions in specs/, apart from them so that a changed definition is refused by what no longer holds.
-- A replay is a count, and its answer is unique:
pub mod Promises
-- The loop over the trace, the hit table, the promise answer by answer:
pub mod ReplayLaws
-- How far a trace was followed, and what a count of it answers there:
pub mod Followed
pub mod Counted
