pub mod Files
pub mod Bodies
