-- Laws and theorems of the definitions in specs/, apart from them so that a changed definition is refused by what no longer
-- holds.
--
-- What holds over any calls from a fresh row, and of any answer that meets a promise.
pub mod Theorems
pub mod Answers
-- The laws that these rest on: of all calls, of a call that squeezes, and of the oldest frame.
pub mod GoodStates
pub mod Moments
pub mod SoundRow
pub mod Bound
pub mod SqueezeLaws
pub mod Oldest
pub mod VictimLaws
pub mod PromiseLaws
pub mod Tidy
-- The laws that the code's proofs cite, and what they rest on.
pub mod VerdictLaws
pub mod PlaceLaws
pub mod RebuildCalls
pub mod RebuildSteps
pub mod Rebuilt
pub mod TestStepLaws
pub mod TestCountLaws
pub mod Sums
pub mod TestPartLaws
pub mod TestTidy
pub mod TestLaws
pub mod Packing
pub mod PackingLaws
pub mod LendingLaws
pub mod ShiftLaws
pub mod CallLaws
pub mod Scan
pub mod SlotBySlot
