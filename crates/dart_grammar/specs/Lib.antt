pub mod Marks
pub mod Shapes
pub mod Trees
pub mod Grammar
pub mod Loads
pub mod Declarations
pub mod Ends
