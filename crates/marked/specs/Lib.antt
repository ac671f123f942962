-- The marked cases, which test what a reader must believe: P9 to P12 of the row, then all fifteen as one statement.
pub mod MarkedRows
pub mod Marked
