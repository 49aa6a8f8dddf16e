pub mod Results
pub mod Session
