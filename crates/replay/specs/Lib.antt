-- A trace replayed through a session. What a reader must believe, what a replay answers:
pub mod Replayed
-- What the steps of the code promise each other:
pub mod Steps
