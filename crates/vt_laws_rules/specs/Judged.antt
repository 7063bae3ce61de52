-- A call is judged by what a world shows, and what is permitted is then applied.
use Rattle.std.specs.Prelude.{Bool, List, Some, [], if◌then◌else◌, is_ok, map, nat_eq, not, ok_or, ℕ, ⊤, ◌+◌, ◌++◌, ◌∷◌, ◌≡◌, ◌||◌, ◌⊎◌}
use Rattle.vt_spec.specs.declared.errors.Rule.TheVariants.{S2}
use Rattle.vt_spec.specs.Errors.{denial}
use Rattle.vt_spec.specs.Machine.Apply.{apply}
use Rattle.vt_spec.specs.Language.Calls.{Call, TaskName}
use Rattle.vt_spec.specs.Language.Changes.{Change}
use Rattle.vt_spec.specs.Machine.Judge.{judge, judge_in}
use Rattle.vt_spec.specs.Lists.{Fresh}
use Rattle.vt_spec.specs.Machine.Looks.{Looks}
use Rattle.vt_spec.specs.Machine.Mounts.{Location}
use Rattle.vt_spec.specs.Machine.Outcomes.{Outcome, after}
use Rattle.vt_spec.specs.Machine.Permits.{Permit}
use Rattle.vt_spec.specs.Machine.Policy.{call_outcome, filesystems_changed_by, finished, only_looks, policy}
use Rattle.vt_spec.specs.Machine.Rules.Mounting.{destination_walk, source_walk}
use Rattle.vt_spec.specs.Machine.SameWorlds.{without_changes}
use Rattle.vt_spec.specs.Machine.Settled.{settled}
use Rattle.vt_spec.specs.Machine.Walking.{directory_walk, file_walk, symlink_walk, new_leaf_walk, new_walk, object_walk, old_leaf_walk, old_walk}
use Rattle.vt_spec.specs.Machine.World.{Layer, Overlay, Task, World, task_called}

-- the outcome of each call is its judgement, then its permit applied; a refused call leaves the world as it was
abbrev pub CallIsJudgedThenApplied : Type 0
CallIsJudgedThenApplied =
    (fresh : Fresh ℕ) (world : World ℕ) (task : Task ℕ) (call : Call)
    → call_outcome nat_eq fresh world task call
    ≡ after world (judge_in nat_eq fresh world task call) (apply nat_eq fresh world task)

-- so is that of the policy, of a task that is there
abbrev pub PolicyJudgesThenApplies : Type 0
PolicyJudgesThenApplies =
    (fresh : Fresh ℕ) (world : World ℕ) (name : TaskName) (call : Call)
    → policy nat_eq fresh world name call
    ≡ after world (ok_or (task_called world name) (denial S2)) (λ task.
    finished nat_eq world name call (filesystems_changed_by nat_eq world (judge_in nat_eq fresh world task call))
    (after world (judge_in nat_eq fresh world task call) (apply nat_eq fresh world task)))

-- two worlds look alike: whatever is looked at, they show the same
pub record LookAlike (one other : Looks ℕ) : Type 0 where
  pub namespace_called : (name : TaskName) → one.namespace_called name ≡ other.namespace_called name
  pub mount : (number : ℕ) → one.mount number ≡ other.mount number
  pub mount_count : one.mount_count ≡ other.mount_count
  pub mount_tree : (number : ℕ) → one.mount_tree number ≡ other.mount_tree number
  pub mounts_over : (location : Location ℕ) → one.mounts_over location ≡ other.mounts_over location
  pub mounts_on : (location : Location ℕ) → one.mounts_on location ≡ other.mounts_on location
  pub is_busy : (mount : ℕ) → one.is_busy mount ≡ other.is_busy mount
  pub is_written_through : (mount : ℕ) → one.is_written_through mount ≡ other.is_written_through mount
  pub node : (location : Location ℕ) → one.node location ≡ other.node location
  pub is_removed : (location : Location ℕ) → one.is_removed location ≡ other.is_removed location
  pub is_under : (filesystem top directory : ℕ)
      → one.is_under filesystem top directory ≡ other.is_under filesystem top directory
  pub overlay : (location : Location ℕ) → one.overlay location ≡ other.overlay location
  pub mounter_rules : (location : Location ℕ) (change : Change ℕ)
      → one.mounter_rules location change ≡ other.mounter_rules location change
  pub has_lower_directory : (location : Location ℕ) (name : List ℕ)
      → one.has_lower_directory location name ≡ other.has_lower_directory location name
  pub is_locked : (location : Location ℕ) → one.is_locked location ≡ other.is_locked location
  pub overlaps_one_of : (others : List (Layer ℕ)) (layer : Layer ℕ)
      → one.overlaps_one_of others layer ≡ other.overlaps_one_of others layer
  pub is_in_use : (overlay : Overlay ℕ) → one.is_in_use overlay ≡ other.is_in_use overlay

-- each walk of a path ends alike in both: path_resolution(7)
abbrev pub AlikeAreWalkedAlike : Type 0
AlikeAreWalkedAlike =
    (one other : Looks ℕ) → LookAlike one other
    → (task : Task ℕ) (path : List ℕ)
    → (object_walk nat_eq one task path ≡ object_walk nat_eq other task path)
    × (directory_walk nat_eq one task path ≡ directory_walk nat_eq other task path)
    × (symlink_walk nat_eq one task path ≡ symlink_walk nat_eq other task path)
    × (new_walk nat_eq one task path ≡ new_walk nat_eq other task path)
    × (new_leaf_walk nat_eq one task path ≡ new_leaf_walk nat_eq other task path)
    × (old_walk nat_eq one task path ≡ old_walk nat_eq other task path)
    × (old_leaf_walk nat_eq one task path ≡ old_leaf_walk nat_eq other task path)
    × (file_walk nat_eq one task path ≡ file_walk nat_eq other task path)
    × (source_walk nat_eq one task path ≡ source_walk nat_eq other task path)
    × (destination_walk nat_eq one task path ≡ destination_walk nat_eq other task path)

-- Each call is judged alike in both: by the same rule, or with the same permit. Of what attaches mounts it is given
-- whether it leaves a namespace with too many.
abbrev pub AlikeAreJudgedAlike : Type 0
AlikeAreJudgedAlike =
    (one other : Looks ℕ) → LookAlike one other
    → (overfills : Permit ℕ → Bool) (task : Task ℕ) (call : Call)
    → judge nat_eq one overfills task call ≡ judge nat_eq other overfills task call

-- Change numbers

-- each number is the one that stood there before, or one more
abbrev pub AreRaised : List ℕ → List ℕ → Type 0
AreRaised [] [] = ⊤
AreRaised [] (new ∷ news) = ⊥
AreRaised (old ∷ olds) [] = ⊥
AreRaised (old ∷ olds) (new ∷ news) = ((new ≡ old) ⊎ (new ≡ old + 1)) × AreRaised olds news

-- all change numbers of a world, each in its place
abbrev pub change_numbers : World ℕ → List ℕ
change_numbers world =
    world.change ∷ (map (λ filesystem. filesystem.change) world.filesystems
    ++ map (λ namespace. namespace.change) world.namespaces ++ map (λ task. task.change) world.tasks)

-- what a call leaves before change numbers are raised: nothing that nothing uses, where it changed something
abbrev pub left_by : Call → Outcome ℕ → World ℕ
left_by call outcome =
    if only_looks call || not (is_ok outcome.answer) then outcome.world else settled nat_eq outcome.world

-- The last step raises change numbers alone (profile): the answer is that of the call, and so is the world that it
-- leaves but for change numbers, each of which is the one before or one more.
abbrev pub LastStepRaisesNumbersAlone : Type 0
LastStepRaisesNumbersAlone =
    (fresh : Fresh ℕ) (world : World ℕ) (name : TaskName) (task : Task ℕ) (call : Call)
    → task_called world name ≡ Some task
    → ((policy nat_eq fresh world name call).answer ≡ (call_outcome nat_eq fresh world task call).answer)
    × (without_changes (policy nat_eq fresh world name call).world
    ≡ without_changes (left_by call (call_outcome nat_eq fresh world task call)))
    × AreRaised (change_numbers (left_by call (call_outcome nat_eq fresh world task call)))
    (change_numbers (policy nat_eq fresh world name call).world)
