-- What the proofs of several functions use.
pub mod Pages
-- Laws of a session's calls, apart from their definitions so that a changed definition is refused by what no longer holds:
-- that the proved functions' promises give theirs, and that what one call leaves passes the next one's test.
pub mod SessionLaws
pub mod Driving
