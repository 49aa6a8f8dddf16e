pub mod Session
pub mod Mixed
pub mod Limits
pub mod Carried
