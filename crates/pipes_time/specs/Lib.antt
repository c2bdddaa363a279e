pub mod Interval
pub mod Slides
pub mod Rising
pub mod Results
