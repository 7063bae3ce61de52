-- What the proofs of src/sees.rt use.
pub mod SeesFit
pub mod SeesNames
pub mod SeesTasks
