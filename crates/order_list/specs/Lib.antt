pub mod Key
pub mod Lending
pub mod Links
pub mod Lists
pub mod Pool
