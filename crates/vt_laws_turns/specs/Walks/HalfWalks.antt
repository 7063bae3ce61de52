-- A half-done walk stands in this world where it stood, while what it holds is what it was (profile).
use Rattle.std.specs.Prelude.{Contains, List, Result, Some, flat_map, nat_eq, ℕ, ◌≡◌}
use Rattle.vt_spec.specs.Machine.Invariants.{IsWorld}
use Rattle.vt_spec.specs.Machine.Looks.{looks_of}
use Rattle.vt_spec.specs.Machine.Walking.{Stop, then_walk}
use Rattle.vt_spec.specs.Machine.World.{Task, World, filesystem_numbered, mount_at, mounts_of, task_called}
use Rattle.vt_laws_turns.specs.Frames.InTurn.{AreBeside, AreOfOthers, CallBetween, after_calls}
use Rattle.vt_laws_turns.specs.Frames.Unraised.{IsFilesystemUnraised, IsNamespaceUnraised, KeepsFilesystem}
use Rattle.vt_laws_turns.specs.Walks.ByWords.{Aim, begun, steps_of}
use Rattle.vt_laws_turns.specs.Walks.Walkers.{Walk, walked_on}

-- so many words of a path walked in a world
abbrev pub words_walked_in : ℕ → World ℕ → Task ℕ → Aim → List ℕ → Result (Walk ℕ) (Stop ℕ)
words_walked_in count world task aim path =
    then_walk (begun nat_eq aim (looks_of nat_eq world) task path) (walked_on nat_eq count (looks_of nat_eq world) task)

-- the filesystems that a walk met
abbrev pub met_in : Result (Walk ℕ) (Stop ℕ) → List ℕ
met_in walk = flat_map (λ met. met) (steps_of walk)

-- A task is what it was, and its namespace has the mounts that it had. Those of its root and working directory may have
-- left the namespace; they are what they were, too.
pub record StandsAsItStood (world later : World ℕ) (task : Task ℕ) : Type 0 where
  pub before : task_called world task.name ≡ Some task
  pub after : task_called later task.name ≡ Some task
  pub mounts : mounts_of nat_eq later task.namespace ≡ mounts_of nat_eq world task.namespace
  pub root : mount_at nat_eq later task.root ≡ mount_at nat_eq world task.root
  pub directory : mount_at nat_eq later task.directory ≡ mount_at nat_eq world task.directory

-- The first words of a path lead where they led, if each filesystem that they met is what it was, but for what is gone.
abbrev pub FirstWordsLeadAlike : Type 0
FirstWordsLeadAlike =
    (world later : World ℕ) (task : Task ℕ) (aim : Aim) (path : List ℕ) (count : ℕ) → IsWorld nat_eq world
    → IsWorld nat_eq later → StandsAsItStood world later task
    → ((number : ℕ) → Contains (met_in (words_walked_in count world task aim path)) number
    → KeepsFilesystem (filesystem_numbered nat_eq world number) (filesystem_numbered nat_eq later number))
    → words_walked_in count later task aim path ≡ words_walked_in count world task aim path

-- So they do after calls of others, where no change number that the walk holds is overtaken: of the task's namespace,
-- and of each filesystem that it met.
abbrev pub FirstWordsLeadAlikeInTurn : Type 0
FirstWordsLeadAlikeInTurn =
    (world : World ℕ) (calls : List CallBetween) (task : Task ℕ) (aim : Aim) (path : List ℕ) (count : ℕ)
    → IsWorld nat_eq world → task_called world task.name ≡ Some task → AreOfOthers task.name calls
    → AreBeside task.namespace world calls
    → IsNamespaceUnraised world (after_calls world calls) task.namespace
    → ((number : ℕ) → Contains (met_in (words_walked_in count world task aim path)) number
    → AreBeside number world calls × IsFilesystemUnraised world (after_calls world calls) number)
    → words_walked_in count (after_calls world calls) task aim path ≡ words_walked_in count world task aim path
