-- The limits of tasks: descriptors, forks, names, groups and the umask.
use Rattle.std.specs.Prelude.{Bool, Some, length, nat_eq, nat_le, true, ℕ, ◌≡◌}
use Rattle.std.specs.List.{list_all}
use Rattle.vt_spec.specs.Language.Calls.{Call, TaskName}
use Rattle.vt_spec.specs.Language.Calls.Call.{Fork}
use Rattle.vt_spec.specs.Language.Limits.{most_groups}
use Rattle.vt_spec.specs.Lists.{Fresh}
use Rattle.vt_spec.specs.Machine.Policy.{policy}
use Rattle.vt_spec.specs.Machine.World.{World, opening}
use Rattle.vt_spec.specs.Machine.Invariants.{is_within_limits}

-- each task has at most 256 open descriptors, in order, was forked from at most 64 times, and so on
abbrev pub HasSmallTasks : World ℕ → Type 0
HasSmallTasks world = list_all is_within_limits world.tasks ≡ true

-- the groups that a fork names for the child are at most 32, as its line has them: NGROUPS_MAX of setgroups(2)
abbrev pub names_few_groups : Call → Bool
names_few_groups (Fork (Some words)) = nat_le (length words.groups) most_groups
names_few_groups call = true

-- So it is in the opening world.
abbrev pub OpeningHasSmallTasks : Type 0
OpeningHasSmallTasks = (fresh : Fresh ℕ) → HasSmallTasks (opening nat_eq fresh)

-- No call breaks a limit of a task, on whatever filesystems: open(2), EMFILE; fork(2), EAGAIN; setgroups(2); umask(2).
abbrev pub CallsKeepSmallTasks : Type 0
CallsKeepSmallTasks =
    (world : World ℕ) (fresh : Fresh ℕ) (name : TaskName) (call : Call)
    → HasSmallTasks world → names_few_groups call ≡ true
    → HasSmallTasks (policy nat_eq fresh world name call).world
