pub mod AsIfAlone
