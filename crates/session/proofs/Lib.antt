-- Laws and theorems of the definitions in specs/, apart from them so that a changed definition is refused by what no longer
-- holds.
--
-- What the promises give their users:
pub mod Demands
-- Laws: the session over a reference, the promises answer by answer, the tests.
pub mod SessionLaws
pub mod ReferAnswers
pub mod ReadLaws
pub mod SoundLaws
pub mod CountableLaws
