-- The policy: what each call does, in which world, for which task. The caller is found (S2), the call is judged
-- (`Judge.antt`), its permit is applied (`Apply.antt`), and in the last step what nothing uses is removed and change
-- numbers are raised.
use Rattle.std.specs.Prelude.{Bool, Err, List, Ok, Option, [], false, if◌then◌else◌, is_ok, map, not, ok_or, true, ◌&&◌, ◌||◌}
use Rattle.vt_spec.specs.declared.errors.Rule.TheVariants.{S2}
use Rattle.vt_spec.specs.Machine.Apply.{apply, filesystems_changed}
use Rattle.vt_spec.specs.Language.Calls.{Call, MountFlags, TaskName, same_name}
use Rattle.vt_spec.specs.Language.Calls.Call.{Exec, ListMounts, Ls, Lstat, Pread, Read, Readlink, Stat}
use Rattle.vt_spec.specs.Errors.{denial}
use Rattle.vt_spec.specs.Machine.Filesystems.{filesystems_raised, raised}
use Rattle.vt_spec.specs.Machine.Judge.{judge_in}
use Rattle.vt_spec.specs.Machine.Judging.{Judgement}
use Rattle.vt_spec.specs.Lists.{Fresh, same_list, same_option, then_some}
use Rattle.vt_spec.specs.Machine.Mounts.{Mount, Propagation, same_location, source_of}
use Rattle.vt_spec.specs.Machine.Mounts.Propagation.{Private, Shared, Slave, Unbindable}
use Rattle.vt_spec.specs.Machine.Outcomes.{Outcome, after}
use Rattle.vt_spec.specs.Machine.Settled.{settled}
use Rattle.vt_spec.specs.Machine.World.{Namespace, Task, World, mounts_of, task_called}

-- a call that only looks changes nothing, no change number either
abbrev pub only_looks : Call → Bool
only_looks (Ls path) = true
only_looks (Stat path) = true
only_looks (Lstat path) = true
only_looks (Readlink path) = true
only_looks (Read path) = true
only_looks (Exec path) = true
only_looks (Pread descriptor offset size) = true
only_looks ListMounts = true
only_looks call = false

-- two truth values are the same
abbrev pub same_bool : Bool → Bool → Bool
same_bool true b = b
same_bool false b = not b

-- two mounts' flags are the same
abbrev pub same_flags : MountFlags → MountFlags → Bool
same_flags a b = same_bool a.read_only b.read_only && same_bool a.noexec b.noexec
    && same_bool a.nosymfollow b.nosymfollow

module _ {N : Type 0} where
  -- the master of a mount's group, or of the group whose slave it is
  abbrev pub master_above : World N → Mount N → Option N
  master_above world mount = then_some (source_of mount.propagation) world.master

  -- a task with its change number raised, if it has this name
  abbrev pub raised_task : TaskName → Task N → Task N
  raised_task name task = if same_name name task.name then record task { change = raised task.change } else task

module _ {N : Type 0} (eq : N → N → Bool) where
  -- the outcome of a call before the last step, to which new numbers are handed in for what it may make: it is judged,
  -- and what it is permitted is applied. A refused call leaves the world as it was
  abbrev pub call_outcome : Fresh N → World N → Task N → Call → Outcome N
  call_outcome fresh world task call = after world (judge_in eq fresh world task call) (apply eq fresh world task)

  -- Change numbers (profile). A call that succeeds and does not only look raises the world's and the caller's, that of
  -- each filesystem that its permit changes, and that of each namespace in which a mount came, went, moved, or has
  -- other flags, type, group or master. All of them are raised last.

  -- the filesystems that a call changes, by its permit; none where it is refused
  abbrev pub filesystems_changed_by : World N → Judgement N → List N
  filesystems_changed_by before (Ok permit) = filesystems_changed eq before permit
  filesystems_changed_by before (Err deny) = []

  -- two types are the same, with the same group or master
  abbrev pub same_propagation : Propagation N → Propagation N → Bool
  same_propagation (Shared a) (Shared b) = eq a b
  same_propagation (Slave a) (Slave b) = eq a b
  same_propagation Private Private = true
  same_propagation Unbindable Unbindable = true
  same_propagation a b = false

  -- a mount has the number, mount point, flags, type, group and master that it had before the call
  abbrev pub same_mount : World N → World N → Mount N → Mount N → Bool
  same_mount before after_call a b =
      eq a.number b.number && same_option (same_location eq) a.mount_point b.mount_point && same_flags a.flags b.flags
      && same_propagation a.propagation b.propagation
      && same_option eq (master_above before a) (master_above after_call b)

  -- a namespace has the mounts that it had before the call
  abbrev pub same_mounts_in : World N → World N → N → Bool
  same_mounts_in before after_call namespace =
      same_list (same_mount before after_call) (mounts_of eq before namespace) (mounts_of eq after_call namespace)

  -- a namespace with its change number raised, unless its mounts are as they were
  abbrev pub raised_namespace : World N → World N → Namespace N → Namespace N
  raised_namespace before after_call namespace =
      if same_mounts_in before after_call namespace.number then namespace
      else record namespace { change = raised namespace.change }

  -- the world with all change numbers raised that a call raises
  abbrev pub numbers_raised : World N → TaskName → List N → World N → World N
  numbers_raised before name changed after_call = record (filesystems_raised eq changed after_call) {
    namespaces = map (raised_namespace before after_call) after_call.namespaces;
    tasks = map (raised_task name) after_call.tasks;
    change = raised after_call.change;
  }

  -- unless the world is unchanged, what nothing uses is removed and change numbers are raised
  abbrev pub finished_unless : (is_unchanged : Bool) → World N → TaskName → List N → Outcome N → Outcome N
  finished_unless true before name changed outcome = outcome
  finished_unless false before name changed outcome =
      record outcome { world = numbers_raised before name changed (settled eq outcome.world) }

  -- the outcome of a call after the last step, which a call has that changed the world
  abbrev pub finished : World N → TaskName → Call → List N → Outcome N → Outcome N
  finished before name call changed outcome =
      finished_unless (only_looks call || not (is_ok outcome.answer)) before name changed outcome

  -- the policy; S2 if no task has this name
  abbrev pub policy : Fresh N → World N → TaskName → Call → Outcome N
  policy fresh world name call =
      after world (ok_or (task_called world name) (denial S2)) (λ task.
      finished world name call (filesystems_changed_by world (judge_in eq fresh world task call))
      (call_outcome fresh world task call))
