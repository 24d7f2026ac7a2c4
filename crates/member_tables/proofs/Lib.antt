mod Placed
mod Named
mod Filled
mod Walks
mod Bodied
mod Joined
mod Examples
