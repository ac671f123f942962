-- Laws and theorems of the definitions in specs/, apart from them so that a changed definition is refused by what no longer
-- holds.
-- What tests the definitions: the incident, the orders of refusals, and a cut that leaves the front.
pub mod MarkedBanks
-- What holds over any calls from fresh banks, and of any answer that meets a promise.
pub mod BankTheorems
pub mod BankAnswers
-- The laws that these rest on: frames that leave, the row's own calls, moments, and power.
pub mod Leaving
pub mod Dropping
pub mod BankLaws
pub mod UnderBanks
pub mod BankMoments
pub mod Powered
pub mod BankPromiseLaws
-- The laws that the code's proofs cite.
pub mod GateLaws
pub mod Regated
pub mod BankStepLaws
pub mod FrameByFrame
pub mod BankCallLaws
pub mod GateCallLaws
pub mod BankTestLaws
