-- The parts of an attachment, by the numbers of receivers.
use Rattle.std.proofs.Common.{◌≡◌, ℕ, Bool, true, ◌&&◌, List, ◌∷◌, filter, nat_eq, Some, is_some, not, sym, ap, ◌∙◌, unwrap_or}
use Rattle.vt_spec.proofs.Common.{Location, Mount, World, mount_at, no_mount, parts_of, receivers_of, takes_part}
use Rattle.vt_group.specs.Grouping.{Grouping}
use Rattle.vt_location.specs.declared.numbers.MountId.{MountId}
use Rattle.vt_mount.specs.MountsValue.{MountEntry, are_ascending, mounts_in}
use Rattle.vt_propagate.specs.Seen.{IsSeen, ReachesAs, joins, mounts_numbered}
use Rattle.vt_propagate.proofs.Found.{counts, numbered, numbered_again, passing}
use Rattle.vt_laws_mounts.specs.Mounts.Attaching.{numbers_of}
use Rattle.vt_laws_mounts.proofs.mounts.Receivers.{receivers_there}

module _ {world : World ℕ} {kept : List MountEntry} {grouping : Grouping} (seen : IsSeen world kept grouping) where
  -- the mount at a place
  pub mount_at-found : (place : Location ℕ) {mount : Mount ℕ} → Some mount ≡ numbered (mounts_in kept) place.mount
      → mount_at nat_eq world place ≡ mount
  mount_at-found place found =
      ap (λ mounts. unwrap_or (numbered mounts place.mount) (no_mount place.mount)) (sym seen.mounts)
      ∙ ap (λ o. unwrap_or o (no_mount place.mount)) (sym found)

  -- the receivers of a mount, by their numbers
  pub receivers-numbered : are_ascending (mounts_in kept) ≡ true → (mount : Mount ℕ) (ids : List MountId)
      → counts ids ≡ numbers_of (receivers_of nat_eq world mount)
      → mounts_numbered (mounts_in kept) (counts ids) ≡ receivers_of nat_eq world mount
  receivers-numbered up mount ids told = (λ i. mounts_numbered (seen.mounts i) (told i))
      ∙ numbered_again world.mounts (receivers_of nat_eq world mount) (ap are_ascending (sym seen.mounts) ∙ up)
      (receivers_there world mount)

  -- the parts of an event are its mount and the receivers that code finds
  pub parts-found : (under : ℕ → ℕ → ℕ → Bool) → ReachesAs world under → are_ascending (mounts_in kept) ≡ true
      → (place : Location ℕ) {parent : Mount ℕ} → Some parent ≡ numbered (mounts_in kept) place.mount
      → (ids : List MountId) → counts ids ≡ numbers_of (receivers_of nat_eq world parent)
      → parent ∷ passing (joins under place parent) (mounts_in kept) ids ≡ parts_of nat_eq world place
  parts-found under reaches up place {parent} found ids told =
      ap (λ list. parent ∷ filter (joins under place parent) list) (receivers-numbered up parent ids told)
      ∙ (λ i. at i ∷ filter (λ mount. same mount i) (receivers_of nat_eq world (at i)))
    where
      at : parent ≡ mount_at nat_eq world place
      at = sym (mount_at-found place found)

      same : (mount : Mount ℕ) → joins under place parent mount ≡ takes_part nat_eq world place mount
      same mount = λ i. not (nat_eq place.mount mount.number) && is_some mount.namespace
          && nat_eq (at i).filesystem mount.filesystem && reaches mount.filesystem mount.root place.node i
