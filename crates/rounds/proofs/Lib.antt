pub mod Tests
pub mod Mixed
pub mod Session
pub mod Limits
pub mod Carried
