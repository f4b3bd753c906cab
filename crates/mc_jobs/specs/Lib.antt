-- What stands for a film together, and what the jobs of a demuxer come to.
pub mod Driving
pub mod Working
pub mod Doing
