-- What the part of a set of tasks depends on, and what it shows of the world.
use Rattle.std.specs.Prelude.{Contains, List, None, Option, Some, false, filter, filter_map, if◌then◌else◌, nat_eq, true, ℕ, ◌≡◌, ◌⊎◌}
use Rattle.std.specs.List.{list_any}
use Rattle.vt_spec.specs.Language.Calls.{MountFlags, TaskName}
use Rattle.vt_spec.specs.Lists.{is_among, when}
use Rattle.vt_spec.specs.Machine.Invariants.{MountInvariants}
use Rattle.vt_spec.specs.Machine.Locked.{lies_in_layer}
use Rattle.vt_spec.specs.Machine.Mounts.{Location, Mount, mounts_over, with_mount}
use Rattle.vt_spec.specs.Machine.Receives.{is_member_of}
use Rattle.vt_spec.specs.Machine.Sealed.{is_at, is_own_mount, members, own_lowers, own_mounts, part_of, roots_and_directories, used_directly, used_filesystems}
use Rattle.vt_spec.specs.Machine.Settled.{only_among, without_dead_mounts}
use Rattle.vt_spec.specs.Machine.World.{Filesystem, Layer, World, filesystem_numbered, with_filesystem, with_mounts}

-- what a part has of a filesystem, where these filesystems are used and these are the lower layers
abbrev pub shown_of : World ℕ → List ℕ → List (Layer ℕ) → Filesystem ℕ → Option (Filesystem ℕ)
shown_of world used lowers filesystem =
    if is_among nat_eq filesystem.number used then Some filesystem
    else when (list_any (λ layer. nat_eq filesystem.number layer.filesystem) lowers)
    (record filesystem {
      files = only_among nat_eq
          (filter (λ object. list_any (lies_in_layer nat_eq world filesystem.number object) lowers)
          filesystem.files.numbers) filesystem.files;
      change = 0;
    })

-- the tasks see the same in both worlds
pub record SeesTheSame (world later : World ℕ) (names : List TaskName) : Type 0 where
  pub tasks : members later names ≡ members world names
  pub mounts : (part_of nat_eq later names).mounts ≡ (part_of nat_eq world names).mounts
  pub masters : (group : ℕ) → list_any (is_member_of nat_eq group) (own_mounts nat_eq world names) ≡ true
      → later.master group ≡ world.master group
  -- each filesystem that they use directly
  pub direct : (number : ℕ) → Contains (used_directly nat_eq world names) number
      → filesystem_numbered nat_eq later number ≡ filesystem_numbered nat_eq world number
  -- and all that the part has of filesystems
  pub filesystems :
      filter_map (shown_of later (used_filesystems nat_eq world names) (own_lowers nat_eq world names)) later.filesystems
      ≡ filter_map (shown_of world (used_filesystems nat_eq world names) (own_lowers nat_eq world names))
      world.filesystems
  pub namespaces : (part_of nat_eq later names).namespaces ≡ (part_of nat_eq world names).namespaces

-- So they have the same mounts, use the same filesystems and lower layers, and have one part.
abbrev pub PartIsByObservations : Type 0
PartIsByObservations =
    (world later : World ℕ) (names : List TaskName) → SeesTheSame world later names
    → (part_of nat_eq later names ≡ part_of nat_eq world names)
    × (own_mounts nat_eq later names ≡ own_mounts nat_eq world names)
    × (used_filesystems nat_eq later names ≡ used_filesystems nat_eq world names)
    × (own_lowers nat_eq later names ≡ own_lowers nat_eq world names)

-- A filesystem that they do not use may change.
abbrev pub UnusedFilesystemsMayChange : Type 0
UnusedFilesystemsMayChange =
    (world : World ℕ) (names : List TaskName) (new : Filesystem ℕ)
    → is_among nat_eq new.number (used_filesystems nat_eq world names) ≡ false
    → list_any (λ layer. nat_eq new.number layer.filesystem) (own_lowers nat_eq world names) ≡ false
    → part_of nat_eq (with_filesystem nat_eq world new) names ≡ part_of nat_eq world names

-- Mounts that nothing uses are in no part.
abbrev pub DeadMountsAreInNoPart : Type 0
DeadMountsAreInNoPart =
    (world : World ℕ) (names : List TaskName)
    → part_of nat_eq (without_dead_mounts nat_eq world) names ≡ part_of nat_eq world names

-- The part of the part is the part.
abbrev pub PartOfThePartIsThePart : Type 0
PartOfThePartIsThePart =
    (world : World ℕ) (names : List TaskName)
    → ((number : ℕ) → list_any (λ layer. nat_eq number layer.filesystem) (own_lowers nat_eq world names) ≡ true
    → is_among nat_eq number (used_filesystems nat_eq world names) ≡ true)
    → part_of nat_eq (part_of nat_eq world names) names ≡ part_of nat_eq world names

-- a mount of theirs, or a detached one with a root or working directory of theirs on it
abbrev pub IsStoodOn : World ℕ → List TaskName → Mount ℕ → Type 0
IsStoodOn world names mount =
    (is_own_mount nat_eq world names mount ≡ true)
    ⊎ ((mount.namespace ≡ None) × (is_at nat_eq (roots_and_directories (members world names)) mount ≡ true))

-- The mounts over a location on such a mount are those of the world.
abbrev pub MountsOverAreThoseOfThePart : Type 0
MountsOverAreThoseOfThePart =
    (world : World ℕ) (names : List TaskName) (mount : Mount ℕ) (here : Location ℕ)
    → MountInvariants nat_eq world → Contains world.mounts mount → here.mount ≡ mount.number
    → IsStoodOn world names mount
    → mounts_over nat_eq (part_of nat_eq world names).mounts here ≡ mounts_over nat_eq world.mounts here

-- Flags of a mount of theirs that are set in the world are set in the part, and nothing else of it changes.
abbrev pub OnlyTheirFlagsChangeThePart : Type 0
OnlyTheirFlagsChangeThePart =
    (world : World ℕ) (names : List TaskName) (mount : Mount ℕ) (flags : MountFlags)
    → MountInvariants nat_eq world → Contains world.mounts mount → is_own_mount nat_eq world names mount ≡ true
    → part_of nat_eq (with_mounts world (with_mount nat_eq world.mounts (record mount { flags = flags }))) names
    ≡ with_mounts (part_of nat_eq world names)
    (with_mount nat_eq (part_of nat_eq world names).mounts (record mount { flags = flags }))
