pub mod Grammar
pub mod Limits
pub mod Taking
pub mod Reading
pub mod Texts
pub mod Printing
pub mod Writable
