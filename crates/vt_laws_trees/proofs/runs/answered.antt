-- What the proofs of src/answered.rt use.
pub mod AlikeAnswered
pub mod AlikeApplied
pub mod AlikeAttached
pub mod AlikeChanges
pub mod AlikeCopies
pub mod AlikeDirected
pub mod AlikeFiles
pub mod AlikeLines
pub mod AlikeListed
pub mod AlikeMounts
pub mod AlikeNamespaces
pub mod AlikeRenamed
pub mod AlikeSettled
pub mod AlikeWorlds
pub mod PlainStays
pub mod TaskChanges
