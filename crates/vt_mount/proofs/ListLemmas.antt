-- Mounts that are taken out of a list.
pub use Rattle.vt_mount.proofs.RisingLemmas.{others}
