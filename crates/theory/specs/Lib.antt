-- The theory of one-pass counting (Mattson 1970). Definitions, which a reader must believe:
pub mod Priority
pub mod Policy
pub mod Plain
pub mod OnePass
pub mod Visits
