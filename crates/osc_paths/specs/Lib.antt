pub mod Texts
pub mod Urls
pub mod ReturnPaths
pub mod Returns
pub mod Paths
pub mod Requests
pub mod Answers
pub mod Making
