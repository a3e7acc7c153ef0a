pub mod Grid
pub mod Laws
pub mod Range
pub mod Rows
