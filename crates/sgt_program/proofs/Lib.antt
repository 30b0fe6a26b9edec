mod Answered
mod Chosen
mod Told
