pub mod Accepted
pub mod Results
