pub mod Acts
pub mod Deeper
pub mod Sim
pub mod Loops
pub mod Further
pub mod Halves
pub mod Follow
pub mod Conclusions
