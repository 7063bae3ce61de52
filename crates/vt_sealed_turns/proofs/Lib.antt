pub mod OneTurn
pub mod StillSealed
pub mod StillSeen
