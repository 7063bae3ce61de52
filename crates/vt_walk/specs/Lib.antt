pub mod PlainWalks
pub mod PendingTexts
pub mod WalkValue
