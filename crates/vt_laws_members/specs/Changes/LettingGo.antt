-- Calls of tasks of a sealed set that let something go, in the world and in the part of the set (profile).
use Rattle.std.specs.Prelude.{Contains, List, nat_eq, true, ℕ, ◌≡◌}
use Rattle.vt_spec.specs.Language.Calls.{TaskName}
use Rattle.vt_spec.specs.Language.Calls.Call.{Chdir, Chroot, Close, Exit, Setns, Umount}
use Rattle.vt_spec.specs.Lists.{Fresh}
use Rattle.vt_spec.specs.Machine.Invariants.{IsWorld}
use Rattle.vt_spec.specs.Machine.Mounts.{Location}
use Rattle.vt_spec.specs.Machine.Sealed.{is_own_namespace, locations, members, outsiders, part_of, roots_and_directories, sealed}
use Rattle.vt_spec.specs.Machine.Settled.{settled}
use Rattle.vt_spec.specs.Machine.World.{Task, World}
use Rattle.vt_laws_members.specs.Changes.Changes.{EndsAlike, IsCallOfTheirs}

-- Each call of close(2) does in the part what it does in the world,
abbrev pub ClosesEndAlike : Type 0
ClosesEndAlike =
    (world : World ℕ) (names : List TaskName) (name : TaskName) (descriptor : ℕ)
    → IsCallOfTheirs world names name (Close descriptor) → (fresh other : Fresh ℕ)
    → EndsAlike world names name (Close descriptor) fresh other

-- each of chdir(2),
abbrev pub ChdirsEndAlike : Type 0
ChdirsEndAlike =
    (world : World ℕ) (names : List TaskName) (name : TaskName) (path : List ℕ)
    → IsCallOfTheirs world names name (Chdir path) → (fresh other : Fresh ℕ)
    → EndsAlike world names name (Chdir path) fresh other

-- and each of chroot(2).
abbrev pub ChrootsEndAlike : Type 0
ChrootsEndAlike =
    (world : World ℕ) (names : List TaskName) (name : TaskName) (path : List ℕ)
    → IsCallOfTheirs world names name (Chroot path) → (fresh other : Fresh ℕ)
    → EndsAlike world names name (Chroot path) fresh other

-- Each call of _exit(2) does, of the set without the task.
abbrev pub ExitsEndAlike : Type 0
ExitsEndAlike =
    (world : World ℕ) (names : List TaskName) (name : TaskName) → IsCallOfTheirs world names name Exit
    → (fresh other : Fresh ℕ) → EndsAlike world names name Exit fresh other

-- So does each call of umount(2).
abbrev pub UmountsEndAlike : Type 0
UmountsEndAlike =
    (world : World ℕ) (names : List TaskName) (name : TaskName) (path : List ℕ)
    → IsCallOfTheirs world names name (Umount path) → (fresh other : Fresh ℕ)
    → EndsAlike world names name (Umount path) fresh other

-- So does each call of setns(2), to the namespace of a task of the set.
abbrev pub SetnsEndsAlike : Type 0
SetnsEndsAlike =
    (world : World ℕ) (names : List TaskName) (name member : TaskName)
    → IsCallOfTheirs world names name (Setns member) → (fresh other : Fresh ℕ)
    → EndsAlike world names name (Setns member) fresh other

-- each location of one list is one of the other
abbrev pub AreAmong : List (Location ℕ) → List (Location ℕ) → Type 0
AreAmong locations others = (location : Location ℕ) → Contains locations location → Contains others location

-- These tasks stand in the place of the world's. Those of a set are in the namespaces of those of another set, and use
-- no other locations; nor do the rest.
pub record UsesNoMore (world : World ℕ) (names set : List TaskName) (tasks : List (Task ℕ)) : Type 0 where
  pub namespaces : (number : ℕ) → is_own_namespace nat_eq (record world { tasks = tasks }) set number
      ≡ is_own_namespace nat_eq world names number
  pub roots : AreAmong (roots_and_directories (members (record world { tasks = tasks }) set))
      (roots_and_directories (members world names))
  pub locations_used : AreAmong (locations (members (record world { tasks = tasks }) set))
      (locations (members world names))
  pub others : AreAmong (locations (outsiders (record world { tasks = tasks }) set)) (locations (outsiders world names))

-- The set has the part of the part,
abbrev pub LessIsSeenAlike : Type 0
LessIsSeenAlike =
    (world : World ℕ) (names set : List TaskName) → IsWorld nat_eq world → sealed nat_eq world names ≡ true
    → (tasks : List (Task ℕ)) → UsesNoMore world names set tasks
    → part_of nat_eq (record world { tasks = tasks }) set
    ≡ part_of nat_eq (record (part_of nat_eq world names) {
      tasks = members (record world { tasks = tasks }) set;
    }) set

-- and what nothing uses any longer goes from the part as from the world: the sweep leaves one part.
abbrev pub SweepsAlike : Type 0
SweepsAlike =
    (world : World ℕ) (names set : List TaskName) → IsWorld nat_eq world → sealed nat_eq world names ≡ true
    → (tasks : List (Task ℕ)) → UsesNoMore world names set tasks
    → part_of nat_eq (settled nat_eq (record world { tasks = tasks })) set
    ≡ part_of nat_eq (settled nat_eq (record (part_of nat_eq world names) {
      tasks = members (record world { tasks = tasks }) set;
    })) set
