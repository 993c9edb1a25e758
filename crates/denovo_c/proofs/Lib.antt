mod Blocks
mod Handles
mod Sessions
mod Starving
mod Values
