-- An overlay is named by its births, and by the inodes that are kept without a name while something is on them:
-- unlink(2) and rmdir(2) on what is still in use, and the kernel's overlayfs document, "upper and lower".
use Rattle.std.specs.Prelude.{Bool, Option, Some, is_some, nat_eq, ℕ, ◌&&◌, ◌||◌, ◌≡◌, ◌≢◌}
use Rattle.vt_spec.specs.Language.Changes.{Change}
use Rattle.vt_spec.specs.Lists.{is_among, when}
use Rattle.vt_spec.specs.Machine.CopyUp.{merge_changed}
use Rattle.vt_spec.specs.Machine.Invariants.{OverlayInvariants}
use Rattle.vt_spec.specs.Machine.Settled.{located_in, settled}
use Rattle.vt_spec.specs.Machine.World.{Filesystem, Overlay, Real, World, filesystem_numbered}
use Rattle.vt_spec.specs.Tree.{Tree}
use Rattle.vt_spec.specs.TreeInvariant.{HasName}
use Rattle.vt_laws_mounts.specs.LettingGo.FileChanges.{names_lost}
use Rattle.vt_laws_trees.specs.Overlays.MergedTrees.{IsNamedBy}
use Rattle.vt_laws_trees.specs.Overlays.WholeChanges.{IsAskedWell}
use Rattle.vt_laws_worlds.specs.Merging.UpperChanges.{OfCopies}
use Rattle.vt_laws_worlds.specs.Worlds.Kept.{IsUnderWay}
use Rattle.vt_laws_upper_layers.specs.Births.{AreBirths, AreOrigins, AreTurned, Births, number_by, object_by}

-- Of the inodes without a name, but for the root, just these are there.
abbrev pub AreKept : (ℕ → Bool) → Tree ℕ → (ℕ → Option (Real ℕ)) → Type 0
AreKept kept tree real =
    (number : ℕ) → ¬ (HasName tree number) → number ≢ tree.root → is_some (real number) ≡ kept number

-- the real objects of those that are kept, found by their births
abbrev pub held_by : (ℕ → Real ℕ) → (ℕ → Option ℕ) → (ℕ → Bool) → ℕ → Option (Real ℕ)
held_by origin copies kept number = when (kept number) (object_by origin copies number)

-- So the overlay is named by them.
abbrev pub BirthsName : Type 0
BirthsName =
    (origin : ℕ → Real ℕ) (born : Real ℕ → ℕ) (births copies : Births) (kept : ℕ → Bool)
    (filesystem : Filesystem ℕ) (overlay : Overlay ℕ)
    → AreBirths born births overlay.real → AreTurned births copies → AreOrigins origin born overlay.real
    → AreKept kept filesystem.files.tree overlay.real
    → IsNamedBy (number_by born births) (held_by origin copies kept) filesystem overlay

-- After a change those are there without a name that were, and what lost its name by it.
abbrev pub KeptFollowChanges : Type 0
KeptFollowChanges =
    OfCopies (λ fresh stack merge.
    (kept : ℕ → Bool) (change : Change ℕ)
    → IsAskedWell stack merge change → AreKept kept merge.files.tree merge.real
    → AreKept (λ number. kept number || is_among nat_eq number (names_lost merge.files change))
    (merge_changed nat_eq fresh stack merge change).files.tree (merge_changed nat_eq fresh stack merge change).real)

-- After the sweep those of them are there on which something still is: a location of a task, or a mount.
abbrev pub KeptAreLocated : Type 0
KeptAreLocated =
    (world : World ℕ) (number : ℕ) (overlay later : Overlay ℕ) (kept : ℕ → Bool)
    → IsUnderWay world → OverlayInvariants nat_eq world
    → (filesystem_numbered nat_eq world number).overlay ≡ Some overlay
    → (filesystem_numbered nat_eq (settled nat_eq world) number).overlay ≡ Some later
    → AreKept kept (filesystem_numbered nat_eq world number).files.tree overlay.real
    → AreKept (λ inode. kept inode && is_among nat_eq inode (located_in nat_eq (settled nat_eq world) number))
    (filesystem_numbered nat_eq (settled nat_eq world) number).files.tree later.real
