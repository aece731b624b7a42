pub mod Grid
pub mod Rows
pub mod Checks
pub mod Promise
pub mod OtherRows
pub mod Controls
