-- By what a set of tasks is sealed off: by its part, and by the footholds of others.
use Rattle.std.specs.Prelude.{Bool, Contains, List, nat_eq, true, ℕ, ◌&&◌, ◌||◌, ◌≡◌}
use Rattle.std.specs.List.{list_all, list_any}
use Rattle.vt_spec.specs.Language.Calls.{TaskName}
use Rattle.vt_spec.specs.Machine.Invariants.{IsWorld}
use Rattle.vt_spec.specs.Machine.Locked.{overlays}
use Rattle.vt_spec.specs.Machine.Sealed.{all_named, holds_all_tasks, is_lower_root, no_outsider_on_mounts, part_of, sealed, shares_no_events, used_alone, used_filesystems}
use Rattle.vt_spec.specs.Machine.World.{Filesystem, World, filesystem_numbered}

-- the root of a filesystem is a lower layer of an overlay without foothold of others, and each other inode has a name
abbrev pub is_locked_whole : World ℕ → (free : ℕ → Bool) → ℕ → Bool
is_locked_whole part free filesystem =
    list_any (λ merged. is_lower_root nat_eq filesystem (filesystem_numbered nat_eq part filesystem).files.tree.root merged
    && free merged.number) (overlays part)
    && all_named nat_eq (filesystem_numbered nat_eq part filesystem).files

-- each filesystem that the tasks use has no foothold of others, or is wholly locked
abbrev pub is_sealed_by : World ℕ → List TaskName → (free : ℕ → Bool) → Bool
is_sealed_by part names free =
    list_all (λ filesystem. free filesystem || is_locked_whole part free filesystem)
    (used_filesystems nat_eq part names)

-- a world in which tasks have their namespaces and mounts for themselves
pub record IsApart (world : World ℕ) (names : List TaskName) : Type 0 where
  pub is : IsWorld nat_eq world
  pub tasks : holds_all_tasks nat_eq world names ≡ true
  pub events : shares_no_events nat_eq world names ≡ true
  pub locations : no_outsider_on_mounts nat_eq world names ≡ true

-- There the part and the footholds decide whether they are sealed off.
abbrev pub SealedIsByPartAndFootholds : Type 0
SealedIsByPartAndFootholds =
    (world : World ℕ) (names : List TaskName) → IsApart world names
    → sealed nat_eq world names ≡ is_sealed_by (part_of nat_eq world names) names (used_alone nat_eq world names)

-- An overlay on which others have no foothold is one that they use, and so in the part.
abbrev pub TheirOverlaysAreInThePart : Type 0
TheirOverlaysAreInThePart =
    (world : World ℕ) (names : List TaskName) (merged : Filesystem ℕ) → IsWorld nat_eq world
    → Contains (overlays world) merged → used_alone nat_eq world names merged.number ≡ true
    → Contains (overlays (part_of nat_eq world names)) merged

-- others have no foothold where they have none in the other world, on a filesystem that the tasks use
abbrev pub HasNoMoreFootholds : World ℕ → World ℕ → List TaskName → Type 0
HasNoMoreFootholds world other names =
    (filesystem : ℕ) → Contains (used_filesystems nat_eq world names) filesystem
    → used_alone nat_eq other names filesystem ≡ true → used_alone nat_eq world names filesystem ≡ true

-- Of two worlds with one part, the one with fewer footholds of others is sealed if the other one is.
abbrev pub FewerFootholdsSealToo : Type 0
FewerFootholdsSealToo =
    (world other : World ℕ) (names : List TaskName) → IsApart world names → IsWorld nat_eq other
    → part_of nat_eq world names ≡ part_of nat_eq other names → HasNoMoreFootholds world other names
    → sealed nat_eq other names ≡ true → sealed nat_eq world names ≡ true
