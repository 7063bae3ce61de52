-- What `mount overlay` leaves when what nothing uses is gone.
use Rattle.std.proofs.Common.{◌≡◌, refl, sym, subst, ℕ, nat_eq, true, false, not, List, Option, Some, None, is_some}
use Rattle.vt_spec.proofs.Common.{Fresh, IsWorld, LayerLocations, Location, MountFlags, MountOverlay, NoneFails, OverlayInvariants, OverlayWords, Permit, Task, TreeInvariants, World, apply, holds_of, looks_of, overfills, overlay_mounted, settled}
use Rattle.vt_spec.proofs.Tables.{layer_rules, new_mount_rules, overlay_at}
use Rattle.vt_laws_trees.specs.Layers.Layers.Mounting.{AreNewNumbers}
use Rattle.vt_laws_trees.proofs.layers.mounting.Kept.{mounting_keeps_overlays, mounting_keeps_trees}
use Rattle.vt_laws_trees.proofs.layers.mounting.Walked.{AreWalked, are_walked, has_layers, shown_plain}
use Rattle.vt_laws_worlds.proofs.overlays_let_go.mounting.NewOverlays.{new_mounts_of_overlays_keep_all}
use Rattle.vt_laws_worlds.specs.Merging.MountedAnew.{MountingLeavesOverlays, MountingLeavesTrees, MountingLetsNothingGo}
use Rattle.vt_laws_rules.proofs.given.CallsGranted.{call_holds}
use Rattle.vt_laws_rules.proofs.given.Ways.{IsGranted}
use Rattle.vt_laws_rules.proofs.given.Ways.IsGranted.{mounts_overlayfs}

-- M2 has seen that the destination's mount is in the task's namespace
is_own : (namespace : ℕ) (o : Option ℕ) → not (holds_of (nat_eq namespace) o) ≡ false → is_some o ≡ true
is_own namespace None e = cc
is_own namespace (Some other) e = refl

module _ (world : World ℕ) (conditions : IsWorld nat_eq world) (fresh : Fresh ℕ)
    (are_new : AreNewNumbers fresh world) (task : Task ℕ) where
  mounted_keeps : (places : LayerLocations ℕ) → AreWalked world task places
      → NoneFails (layer_rules nat_eq world places (overlay_at nat_eq world task places))
      → (place : Location ℕ) (flags : MountFlags)
      → NoneFails (new_mount_rules nat_eq world task place (overlay_mounted nat_eq fresh world task place places flags))
      → settled nat_eq (overlay_mounted nat_eq fresh world task place places flags)
      ≡ overlay_mounted nat_eq fresh world task place places flags
  mounted_keeps places walked passed place flags free = new_mounts_of_overlays_keep_all fresh world task place
      (overlay_at nat_eq world task places) flags conditions (
        has_layers world task places walked passed,
        shown_plain
            world task places walked passed,
      ) are_new.distinct (is_own _ _ free.0)

  abbrev Keeps : World ℕ → Type 0
  Keeps later = settled nat_eq later ≡ later

  granted_keeps : (path : List ℕ) (options : Option OverlayWords) (flags : MountFlags) (permit : Permit ℕ)
      → IsGranted nat_eq (looks_of nat_eq world) (overfills nat_eq fresh world task) task
      (MountOverlay path options flags) permit → Keeps (apply nat_eq fresh world task permit).world
  granted_keeps path options flags permit (mounts_overlayfs _ words _ here layers admin end walked layered passed) =
      mounted_keeps layers (are_walked world task words layers walked) layered _ flags passed

pub mounting_lets_nothing_go : MountingLetsNothingGo
mounting_lets_nothing_go fresh world task path options flags conditions are_new =
    call_holds (Keeps world conditions fresh are_new task) fresh world task (MountOverlay path options flags)
    conditions.nothing_unused (granted_keeps world conditions fresh are_new task path options flags)

pub mounting_leaves_trees : MountingLeavesTrees
mounting_leaves_trees fresh world task path options flags conditions are_new = subst (TreeInvariants nat_eq) (sym
    (mounting_lets_nothing_go fresh world task path options flags conditions are_new))
    (mounting_keeps_trees fresh world task path options flags conditions are_new)

pub mounting_leaves_overlays : MountingLeavesOverlays
mounting_leaves_overlays fresh world task path options flags conditions are_new = subst (OverlayInvariants nat_eq)
    (sym (mounting_lets_nothing_go fresh world task path options flags conditions are_new))
    (mounting_keeps_overlays fresh world task path options flags conditions are_new)
