pub mod Bounds
pub mod Goes
pub mod Turned
