mod ForkLemmas
mod MountLemmas
mod MoveLemmas
mod PlaceLemmas
mod ReadLemmas
mod Receivers
mod WalkEnds
