-- The frame row: what its calls mean, and what any sequence of calls from a fresh row gives.
--
-- What a reader must believe: states, slots, the row, call histories, and what the calls promise.
pub mod States
pub mod Slots
pub mod Row
pub mod History
pub mod Runs
pub mod Promise
pub mod RowTest
-- What the code's own steps ask and leave.
pub mod Lending
pub mod TestSteps
pub mod TestParts
-- What that is said by, each with the first laws of it: lists, states and slots, then one call.
pub mod Counting
pub mod StateLaws
pub mod SlotLaws
pub mod RecentLaws
pub mod Holding
pub mod StepLaws
