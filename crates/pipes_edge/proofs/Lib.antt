mod ByName
mod Copied
mod FailingReads
