-- Laws and theorems of the definitions in specs/, apart from them: a changed definition is then refused by what no longer holds.
-- The marked cases, which test the definitions:
pub mod MarkedCounts
-- Laws, which antt checks, and the theorems that they lead to:
pub mod Bags
pub mod Order
pub mod PolicyWords
pub mod Lowest
pub mod Carry
pub mod Cut
pub mod Once
pub mod Depth
pub mod SameStep
pub mod Theorem
pub mod VisitLaws
