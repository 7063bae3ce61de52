-- A filesystem that is added to a world changes no parts of an attachment.
use Rattle.std.proofs.Common.{arith, ◌≡◌, ap, true≢false, ℕ, nat_eq, not, ◌&&◌, is_some}
use Rattle.vt_spec.proofs.Common.{Filesystem, IsWorld, Location, Mount, World, and_parts, common_steps, filesystem_numbered, filter_alike, find-append, is_directory_under, mount_at, parts_of, receivers_of, takes_part, with_new_filesystem}
use Rattle.vt_laws_mounts.proofs.letting_go.Lists.{Among, among_from_list_all}
pub use Rattle.vt_laws_mounts.proofs.mounts.Receivers.{receivers_there}

module _ (world : World ℕ) (whole : IsWorld nat_eq world) (added : Filesystem ℕ) where
  abbrev larger : World ℕ
  larger = with_new_filesystem world added

  -- what a mount shows is there, so it is found before what is added
  same_filesystem : (mount : Mount ℕ) → Among mount world.mounts
      → filesystem_numbered nat_eq larger mount.filesystem ≡ filesystem_numbered nat_eq world mount.filesystem
  same_filesystem mount m = grind (arith, common_steps, and_parts, among_from_list_all, true≢false, find-append)

  pub same_parts : (place : Location ℕ)
      → parts_of nat_eq (with_new_filesystem world added) place ≡ parts_of nat_eq world place
  same_parts place = cc (filter_alike (takes_part nat_eq larger place) (takes_part nat_eq world place)
      (receivers_of nat_eq world (mount_at nat_eq world place)) (λ mount m. ap
      (λ (filesystem : Filesystem ℕ). not (nat_eq place.mount mount.number) && is_some mount.namespace && nat_eq
      (mount_at nat_eq world place).filesystem mount.filesystem && is_directory_under nat_eq filesystem.files mount.root
      place.node) (same_filesystem mount (receivers_there world (mount_at nat_eq world place) mount m))))
