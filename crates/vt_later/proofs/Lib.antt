mod Calls
mod Forked
mod Judged
mod Layered
mod PastNothing
mod Renamed
mod Rows
mod Walked
