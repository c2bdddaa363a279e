pub mod Supplied
