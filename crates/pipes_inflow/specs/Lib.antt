pub mod Inflows
