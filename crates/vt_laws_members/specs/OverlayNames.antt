pub mod EachCalls
pub mod OverlayNames
