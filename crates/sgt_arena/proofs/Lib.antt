mod Arenas
mod Laid
mod Lent
mod Parts
mod Places
mod Row
mod Threads
