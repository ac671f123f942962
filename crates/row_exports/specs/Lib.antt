-- What the exported calls of the row and of the row under banks promise, told in numbers, of any lent memory.
pub mod Told
pub mod RowTold
pub mod BanksTold
-- What tests it: memory of zeros, a wild front, a number that is wider than its kind.
pub mod MarkedRows
-- Laws: that the proved functions' promises give these, that two answers that meet one are equal, and that what one call
-- leaves passes the next one's test.
pub mod Narrow
pub mod RowLaws
pub mod BanksLaws
pub mod RowDriving
