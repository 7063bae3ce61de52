pub mod LayersApart
pub mod WhatIsShown
pub mod WholeChanges
pub mod WholeStays
pub mod MergedTrees
pub mod TreesSeen
pub mod InOrder
