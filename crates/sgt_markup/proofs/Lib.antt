pub mod Clean
mod Controls
mod Growing
