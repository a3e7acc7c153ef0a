pub mod Entered
pub mod Left
