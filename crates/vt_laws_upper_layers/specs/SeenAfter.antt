-- The merged tree of an overlay after a call that changes it, as code finds it that keeps no merged tree: by the layers
-- then, by births, and by what is kept without a name. The kernel's overlayfs document, "upper and lower"; unlink(2) on
-- a file that is still open.
use Rattle.std.specs.Prelude.{Bool, Option, Some, nat_eq, ℕ, ◌&&◌, ◌||◌, ◌≡◌}
use Rattle.vt_spec.specs.Language.Changes.{Change}
use Rattle.vt_spec.specs.Lists.{Fresh, is_among}
use Rattle.vt_spec.specs.Machine.Filesystems.{merge_of}
use Rattle.vt_spec.specs.Machine.Invariants.{IsWorld}
use Rattle.vt_spec.specs.Machine.Mounts.{Location}
use Rattle.vt_spec.specs.Machine.Permits.{Permit}
use Rattle.vt_spec.specs.Machine.Settled.{located_in}
use Rattle.vt_spec.specs.Machine.World.{Layer, Overlay, Real, Task, World, files_at, filesystem_at, filesystem_numbered, mount_at}
use Rattle.vt_laws_mounts.specs.LettingGo.FileChanges.{names_lost}
use Rattle.vt_laws_trees.specs.Overlays.TreesSeen.{AreNoLarger, real_seen, tree_seen}
use Rattle.vt_laws_worlds.specs.Given.LeftWorlds.{IsGivenToTask}
use Rattle.vt_laws_worlds.specs.Merging.UpperCalls.{Does}
use Rattle.vt_laws_worlds.specs.OverlayPermits.Asked.{change_asked}
use Rattle.vt_laws_worlds.specs.OverlayPermits.Changed.{numbers_left}
use Rattle.vt_laws_worlds.specs.Permits.Left.{left_by}
use Rattle.vt_laws_upper_layers.specs.Births.{AreBirths, AreOrigins, AreTurned, Births, IsBornAbove, births_after, births_left, number_by}
use Rattle.vt_laws_upper_layers.specs.Naming.{AreKept, held_by}

-- A permit that a task is given changes an overlay with an upper layer.
pub record ChangesOverlay (fresh : Fresh ℕ) (world : World ℕ) (task : Task ℕ) (permit : Permit ℕ)
    (location : Location ℕ) (change : Change ℕ) (overlay : Overlay ℕ) (upper : Layer ℕ) : Type 0 where
  pub in_world : IsWorld nat_eq world
  pub given : IsGivenToTask fresh world task permit
  pub asks : change_asked fresh world permit ≡ Some (location, change)
  pub makes : Does fresh world permit location (numbers_left fresh permit) change
  pub is_overlay : (filesystem_at nat_eq world location).overlay ≡ Some overlay
  pub has_upper : overlay.upper ≡ Some upper

-- the number of the filesystem at a location
abbrev pub number_at : World ℕ → Location ℕ → ℕ
number_at world location = (mount_at nat_eq world location).filesystem

-- the births of what is left of the overlay
abbrev pub births_then : Fresh ℕ → World ℕ → Permit ℕ → Location ℕ → Change ℕ → Overlay ℕ → Layer ℕ → Births
    → Overlay ℕ → Births
births_then fresh world permit location change overlay upper births later =
    births_left later.real
    (births_after (numbers_left fresh permit) (merge_of nat_eq world (filesystem_at nat_eq world location) overlay
    upper) births change)

-- what was kept and what lost its name, if something is on it
abbrev pub kept_then : World ℕ → World ℕ → Location ℕ → Change ℕ → (ℕ → Bool) → ℕ → Bool
kept_then world left location change kept inode =
    (kept inode || is_among nat_eq inode (names_lost (files_at nat_eq world location) change))
    && is_among nat_eq inode (located_in nat_eq left (number_at world location))

-- what is said of such a permit and of the overlay that it leaves, where births and what is kept are right before it
abbrev pub OfChangedOverlays : (Fresh ℕ → World ℕ → Task ℕ → Permit ℕ → Location ℕ → Change ℕ → Overlay ℕ → Layer ℕ
    → Overlay ℕ → (Real ℕ → ℕ) → Births → (ℕ → Bool) → Type 0) → Type 0
OfChangedOverlays Said =
    (fresh : Fresh ℕ) (world : World ℕ) (task : Task ℕ) (permit : Permit ℕ) (location : Location ℕ)
    (change : Change ℕ) (overlay : Overlay ℕ) (upper : Layer ℕ) (later : Overlay ℕ) (born : Real ℕ → ℕ)
    (births : Births) (kept : ℕ → Bool)
    → ChangesOverlay fresh world task permit location change overlay upper
    → IsBornAbove born (numbers_left fresh permit) change → AreBirths born births overlay.real
    → AreKept kept (files_at nat_eq world location).tree overlay.real
    → (filesystem_numbered nat_eq (left_by fresh world task permit) (number_at world location)).overlay ≡ Some later
    → Said fresh world task permit location change overlay upper later born births kept

-- It has the layers that it had,
abbrev pub LayersOfOverlaysStay : Type 0
LayersOfOverlaysStay =
    OfChangedOverlays (λ fresh world task permit location change overlay upper later born births kept.
    later ≡ record overlay { real = later.real })

-- its births are those, with those of what was copied, of the inodes that are left,
abbrev pub BirthsFollowCalls : Type 0
BirthsFollowCalls =
    OfChangedOverlays (λ fresh world task permit location change overlay upper later born births kept.
    AreBirths born (births_then fresh world permit location change overlay upper births later) later.real)

-- and what is kept is what was kept or lost its name, if something is on it.
abbrev pub KeptFollowCalls : Type 0
KeptFollowCalls =
    OfChangedOverlays (λ fresh world task permit location change overlay upper later born births kept.
    AreKept (kept_then world (left_by fresh world task permit) location change kept)
    (filesystem_numbered nat_eq (left_by fresh world task permit) (number_at world location)).files.tree later.real)

-- So its tree is the one that is found by them in the layers.
abbrev pub OverlaysAreSeenAfterCalls : Type 0
OverlaysAreSeenAfterCalls =
    OfChangedOverlays (λ fresh world task permit location change overlay upper later born births kept.
    (origin : ℕ → Real ℕ) (copies : ℕ → Option ℕ) (longest : ℕ)
    → AreTurned (births_then fresh world permit location change overlay upper births later) copies
    → AreOrigins origin born later.real → AreNoLarger longest (left_by fresh world task permit) later
    → ((filesystem_numbered nat_eq (left_by fresh world task permit) (number_at world location)).files.tree
    ≡ tree_seen (number_by born (births_then fresh world permit location change overlay upper births later))
    (held_by origin copies (kept_then world (left_by fresh world task permit) location change kept)) longest
    (left_by fresh world task permit) later)
    × (later.real
    ≡ real_seen (number_by born (births_then fresh world permit location change overlay upper births later))
    (held_by origin copies (kept_then world (left_by fresh world task permit) location change kept)) longest
    (left_by fresh world task permit) later))
