-- Laws and theorems of the definitions in specs/, apart from them so that a changed definition is refused by what no longer
-- holds.
--
-- What the promises give their users:
pub mod Promises
-- Laws: the checks, the promises answer by answer.
pub mod CheckLaws
pub mod CountLaws
pub mod ListLaws
