pub mod Job
pub mod JobEncoding
pub mod Told
pub mod Printed
pub mod Yielded
pub mod inner
