pub mod LeftWorlds
pub mod NumbersHanded
