-- What a permit leaves of an overlay with an upper layer through which it changes nothing, where what the overlay keeps
-- without a name goes with the last location on it: close(2), umount(2), and the kernel's overlayfs document, "upper and
-- lower".
use Rattle.std.specs.Prelude.{None, Some, nat_eq, true, ℕ, ◌≡◌}
use Rattle.vt_spec.specs.Lists.{Fresh}
use Rattle.vt_spec.specs.Machine.Invariants.{IsWorld}
use Rattle.vt_spec.specs.Machine.Permits.{Permit}
use Rattle.vt_spec.specs.Machine.World.{Task, World, filesystem_numbered, is_overlay}
use Rattle.vt_laws_kept.specs.Counts.{locations_on}
use Rattle.vt_laws_kept.specs.Staying.{LeavesAlone}
use Rattle.vt_laws_worlds.specs.Given.LeftWorlds.{IsGivenToTask}
use Rattle.vt_laws_worlds.specs.Permits.Left.{left_by}
use Rattle.vt_births.specs.declared.upper_nodes.UpperNodes.{UpperNodes}
use Rattle.vt_location.specs.Numbers.{counted}
use Rattle.vt_fs.specs.FilesystemsValue.{Filesystems}
use Rattle.vt_overlay.specs.MergedTree.{OverlayValue}
use Rattle.vt_upper_overlay.specs.Laws.{IsKeptRight}
use Rattle.vt_layered.specs.LayeredTree.{layered_files, layered_objects}
use Rattle.vt_layered.specs.LayeredValue.{Above, upper_of}
use Rattle.vt_kept_nodes.specs.Counted.{CountsNodes}
use Rattle.vt_kept_nodes.specs.Forgetting.{Forgets}
use Rattle.vt_world.specs.OverlaysKept.Kept.{ShowsLayers}
use Rattle.vt_unnamed.specs.Kept.{IsKeptIn, unnamed_in, with_its_objects}

-- an overlay with other nodes
abbrev pub with_upper_nodes : UpperNodes → Above → Above
with_upper_nodes nodes above = record above { nodes = nodes }

-- A permit is given to a task of a world. It changes nothing through an overlay, which is kept in the world and is left: its
-- layers are kept as the world has them that is left, and it counts the locations on its unnamed nodes then.
pub record LeavesOverlay (fresh : Fresh ℕ) (world : World ℕ) (task : Task ℕ) (permit : Permit ℕ) (old new : Filesystems)
    (overlay : OverlayValue) (above : Above) (nodes : UpperNodes) : Type 0 where
  pub kept : IsKeptIn world old overlay above
  pub given : IsGivenToTask fresh world task permit
  pub alone : LeavesAlone fresh world permit (counted overlay.number.count)
  pub there : is_overlay (filesystem_numbered nat_eq (left_by fresh world task permit) (counted overlay.number.count))
      ≡ true
  pub after : ShowsLayers (left_by fresh world task permit) new overlay
  pub counted_after : CountsNodes (unnamed_in world) (locations_on (left_by fresh world task permit))
      overlay.number.count overlay.number nodes
  pub forgets : Forgets above.nodes nodes

-- what is said of such an overlay
abbrev pub OfLeftOverlays : (World ℕ → Filesystems → OverlayValue → Above → Type 0) → Type 0
OfLeftOverlays Said =
    (fresh : Fresh ℕ) (world : World ℕ) (task : Task ℕ) (permit : Permit ℕ) (old new : Filesystems)
    (overlay : OverlayValue) (above : Above) (nodes : UpperNodes)
    → LeavesOverlay fresh world task permit old new overlay above nodes
    → Said (left_by fresh world task permit) new overlay (with_upper_nodes nodes above)

-- It has the tree and the real objects that its layers show then.
abbrev pub LeftOverlaysAreShown : Type 0
LeftOverlaysAreShown =
    OfLeftOverlays (λ left new overlay above.
    ((filesystem_numbered nat_eq left (counted overlay.number.count)).files.tree
    ≡ (layered_files new overlay (Some above)).tree)
    × ((filesystem_numbered nat_eq left (counted overlay.number.count)).overlay
    ≡ Some (with_its_objects new overlay (Some above))))

-- What it keeps is right.
abbrev pub LeftOverlaysKeepRight : Type 0
LeftOverlaysKeepRight =
    OfLeftOverlays (λ left new overlay above.
    IsKeptRight (upper_of overlay above) (filesystem_numbered nat_eq left (counted overlay.number.count)).files.tree
    (layered_objects new overlay (Some above)))

-- It counts the locations on its nodes without a name, as they are left.
abbrev pub LeftOverlaysCountNodes : Type 0
LeftOverlaysCountNodes =
    OfLeftOverlays (λ left new overlay above.
    CountsNodes (unnamed_in left) (locations_on left) overlay.number.count overlay.number above.nodes)

-- An overlay without an upper layer is left, as that with one.
pub record LeavesReadOnly (fresh : Fresh ℕ) (world : World ℕ) (task : Task ℕ) (permit : Permit ℕ) (old new : Filesystems)
    (overlay : OverlayValue) : Type 0 where
  pub in_world : IsWorld nat_eq world
  pub given : IsGivenToTask fresh world task permit
  pub alone : LeavesAlone fresh world permit (counted overlay.number.count)
  pub was : (filesystem_numbered nat_eq world (counted overlay.number.count)).overlay
      ≡ Some (with_its_objects old overlay None)
  pub there : is_overlay (filesystem_numbered nat_eq (left_by fresh world task permit) (counted overlay.number.count))
      ≡ true
  pub before : ShowsLayers world old overlay
  pub after : ShowsLayers (left_by fresh world task permit) new overlay

abbrev pub LeftReadOnlyAreShown : Type 0
LeftReadOnlyAreShown =
    (fresh : Fresh ℕ) (world : World ℕ) (task : Task ℕ) (permit : Permit ℕ) (old new : Filesystems)
    (overlay : OverlayValue)
    → LeavesReadOnly fresh world task permit old new overlay
    → ((filesystem_numbered nat_eq (left_by fresh world task permit) (counted overlay.number.count)).files.tree
    ≡ (layered_files new overlay None).tree)
    × ((filesystem_numbered nat_eq (left_by fresh world task permit) (counted overlay.number.count)).overlay
    ≡ Some (with_its_objects new overlay None))
