pub mod ByName
pub mod Causes
pub mod HostFiles
pub mod HostSource
pub mod MemFiles
pub mod Memory
pub mod Outside
pub mod SureFiles
