-- Filesystems in the order of their numbers, of which plain ones and overlays are kept apart: the two lists are woven.
use Rattle.std.specs.Prelude.{All, Bool, List, [], false, filter, find, if◌then◌else◌, nat_eq, nat_lt, not, true, ℕ, ◌&&◌, ◌∷◌, ◌≡◌}
use Rattle.std.specs.List.{list_all}
use Rattle.vt_spec.specs.Lists.{Fresh}
use Rattle.vt_spec.specs.Machine.Invariants.{IsWorld}
use Rattle.vt_spec.specs.Machine.Permits.{Permit}
use Rattle.vt_spec.specs.Machine.SameWorlds.{SameFilesystems}
use Rattle.vt_spec.specs.Machine.Settled.{is_mounted}
use Rattle.vt_spec.specs.Machine.World.{Filesystem, Task, World, is_overlay}
use Rattle.vt_laws_mounts.specs.Counts.BesideOverlays.{OverlaysHaveNoUpper}
use Rattle.vt_laws_mounts.specs.Counts.OverlaysStay.{OverlaysAreNamed}
use Rattle.vt_laws_trees.specs.Overlays.InOrder.{put_in}
use Rattle.vt_laws_worlds.specs.OverlaysStay.Left.{MakesTheGreatest}
use Rattle.vt_laws_worlds.specs.Permits.Left.{IsGiven, left_by}

-- the plain ones with the overlays put in
abbrev pub woven : List (Filesystem ℕ) → List (Filesystem ℕ) → List (Filesystem ℕ)
woven plain [] = plain
woven plain (overlay ∷ rest) = put_in overlay (woven plain rest)

-- each has a smaller number than those after it
abbrev pub are_rising : List (Filesystem ℕ) → Bool
are_rising [] = true
are_rising (first ∷ rest) = list_all (λ other. nat_lt first.number other.number) rest && are_rising rest

-- A rising list that is taken apart by a test is woven again.
abbrev pub RisingListsAreWoven : Type 0
RisingListsAreWoven =
    (test : Filesystem ℕ → Bool) (list : List (Filesystem ℕ)) → are_rising list ≡ true
    → woven (filter (λ filesystem. not (test filesystem)) list) (filter test list) ≡ list

-- those of the one list fail a test that those of the other pass
pub record ArePartedBy (test : Filesystem ℕ → Bool) (plain overlays : List (Filesystem ℕ)) : Type 0 where
  pub fail : All (λ filesystem. test filesystem ≡ false) plain
  pub pass : All (λ filesystem. test filesystem ≡ true) overlays

-- Woven lists are taken apart by such a test,
abbrev pub WovenListsArePassing : Type 0
WovenListsArePassing =
    (test : Filesystem ℕ → Bool) (plain overlays : List (Filesystem ℕ)) → ArePartedBy test plain overlays
    → are_rising overlays ≡ true → filter test (woven plain overlays) ≡ overlays

abbrev pub WovenListsAreFailing : Type 0
WovenListsAreFailing =
    (test : Filesystem ℕ → Bool) (plain overlays : List (Filesystem ℕ)) → ArePartedBy test plain overlays
    → filter (λ filesystem. not (test filesystem)) (woven plain overlays) ≡ plain

-- and filtered one by one.
abbrev pub WovenListsAreFiltered : Type 0
WovenListsAreFiltered =
    (test stays : Filesystem ℕ → Bool) (plain overlays : List (Filesystem ℕ)) → ArePartedBy test plain overlays
    → are_rising overlays ≡ true → are_rising (woven plain overlays) ≡ true
    → filter stays (woven plain overlays) ≡ woven (filter stays plain) (filter stays overlays)

-- All that are woven pass a test just if all of both lists do.
abbrev pub WovenListsPassAll : Type 0
WovenListsPassAll =
    (test : Filesystem ℕ → Bool) (plain overlays : List (Filesystem ℕ))
    → list_all test (woven plain overlays) ≡ (list_all test plain && list_all test overlays)

-- Lists that are the same but for change numbers and the order of the numbers beside trees are woven alike.
abbrev pub WovenListsAreAlike : Type 0
WovenListsAreAlike =
    (plain overlays others another : List (Filesystem ℕ)) → SameFilesystems plain others
    → SameFilesystems overlays another → SameFilesystems (woven plain overlays) (woven others another)

-- A number that no overlay has is found among the plain ones.
abbrev pub PlainOnesAreFound : Type 0
PlainOnesAreFound =
    (plain overlays : List (Filesystem ℕ)) (number : ℕ)
    → All (λ filesystem. nat_eq number filesystem.number ≡ false) overlays
    → find (λ filesystem. nat_eq number filesystem.number) (woven plain overlays)
    ≡ find (λ filesystem. nat_eq number filesystem.number) plain

-- Let the filesystems of a world be plain ones and overlays, woven, and no overlay have an upper layer or an inode
-- without a name. What a given permit leaves is woven of the plain ones that are left and of overlays that are mounted.
abbrev pub LeftWorldsAreWoven : Type 0
LeftWorldsAreWoven =
    (world : World ℕ) (fresh : Fresh ℕ) (task : Task ℕ) (permit : Permit ℕ) (plain overlays : List (Filesystem ℕ))
    → IsWorld nat_eq world → OverlaysHaveNoUpper world → OverlaysAreNamed world → IsGiven fresh world task permit
    → world.filesystems ≡ woven plain overlays → ArePartedBy is_overlay plain overlays
    → are_rising overlays ≡ true → are_rising (woven plain overlays) ≡ true → MakesTheGreatest fresh world permit
    → (left_by fresh world task permit).filesystems
    ≡ woven (filter (λ filesystem. not (is_overlay filesystem)) (left_by fresh world task permit).filesystems)
    (filter (λ merged. is_mounted nat_eq (left_by fresh world task permit) merged.number) overlays)
