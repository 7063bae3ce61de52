-- What the mount of an overlay is handed serves, and may be given: counts, and even numbers for its inodes.
use Rattle.std.proofs.Common.{◌≡◌, ap, ℕ, ◌==◌, ◌%◌, Bool, None, true, false, cond, not, List, [], ◌∷◌, arith, eqb-true, ne_eqb}
use Rattle.vt_spec.proofs.Common.{TaskName, and_parts, inode_count, list_all}
use Rattle.vt_laws_worlds.specs.Given.NumbersHanded.{Placed, handed_at}
use Rattle.vt_world.specs.OverlaysMade.Made.{placed_inodes}
use Rattle.vt_world.proofs.overlays_made.Serves.{births_apart}
use Rattle.vt_laws_rules.specs.Numbers.{IsSuppliedFrom}
use Rattle.vt_laws_trees.specs.Runs.Handed.{may_be_given}
use Rattle.vt_permits.specs.GrantValue.{overlay_of, overlay_permit}
use Rattle.vt_permits.specs.declared.grant.ToMountOverlay.{ToMountOverlay}
use Rattle.vt_mounting.specs.Detach.Events.{overlay_kept}
use Rattle.vt_world.specs.Held.{IsHeld}
use Rattle.vt_world.specs.WorldValue.{WorldValue, world_of}
use Rattle.vt_ns.specs.Grants.{GrantsOverlay}
use Rattle.vt_ns.specs.Vacancy.{NextFilesystemIsNew}
use Rattle.vt_ns.proofs.Granting.{layers_granted, overlay_allotted}
use Rattle.vt_calls.proofs.NumbersLeft.{counts_given}
use Rattle.vt_calls.proofs.Supplies.{AreVacant}

-- even numbers in place of some counts may be given
placed_given : (next : ℕ) (all : List Placed) → list_all (λ (placed : Placed). placed.1 % 2 == 0) all ≡ true
    → IsSuppliedFrom may_be_given (handed_at next all)
placed_given next [] even k = counts_given next k
placed_given next (placed ∷ rest) even k = by (k == placed.0) (placed_given next rest parts.1 k)
  where
    parts : ((placed.1 % 2 == 0) ≡ true) × (list_all (λ (one : Placed). one.1 % 2 == 0) rest ≡ true)
    parts = and_parts (placed.1 % 2 == 0) (list_all (λ (one : Placed). one.1 % 2 == 0) rest) even

    by : (b : Bool) → may_be_given (handed_at next rest k) ≡ true
        → may_be_given (cond b placed.1 (handed_at next rest k)) ≡ true
    by true later =
        let half : placed.1 % 2 ≡ 0 = eqb-true (placed.1 % 2) 0 parts.0 in
        ap not (ne_eqb (placed.1 % 4) 3 (λ e. absurd (omega (arith, half, e))))
    by false later = later

-- The supply of a permit to mount an overlay serves, where nothing has the numbers of its inodes.
pub overlay_is_vacant : (value : WorldValue) → IsHeld value → (name : TaskName) (new : ToMountOverlay)
    (granted : GrantsOverlay value name new) → new.upper ≡ None → NextFilesystemIsNew value
    → AreVacant value (overlay_permit granted.task new)
overlay_is_vacant value held name new granted no_upper is_new =
    let most = inode_count (world_of value) in
    let kept = overlay_kept value.next (overlay_of granted.task new) in
    let layers = layers_granted value held name new granted no_upper in (
      overlay_allotted value held name new granted no_upper is_new,
      placed_given value.next (placed_inodes most value.filesystems kept)
          (births_apart most value.filesystems kept layers.0 layers.1).0,
    )
