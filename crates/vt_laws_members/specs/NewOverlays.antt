pub mod OverlayMounts
