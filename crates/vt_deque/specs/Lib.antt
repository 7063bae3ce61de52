pub mod SliceDeque
