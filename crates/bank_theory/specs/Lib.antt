-- The row under banks: what its calls mean, and what any sequence of calls from fresh banks gives. This is what a reader must
-- believe: banks, call histories, the whole state, what sequences of calls give, what the calls promise, and the memory's test.
pub mod Banks
pub mod BankHistory
pub mod Gated
pub mod BankRuns
pub mod BankPromise
pub mod BankTest
-- What the code's own steps ask and leave.
pub mod BankLending
