pub mod Equality
pub mod Perm
pub mod Bags
pub mod Orders
pub mod Escapes
pub mod Columns
pub mod Reading
pub mod ReadBack
