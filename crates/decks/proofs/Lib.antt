mod Lines
mod Turning
mod Binds
mod Following
