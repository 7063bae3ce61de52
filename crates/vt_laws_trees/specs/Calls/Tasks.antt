-- Laws of tasks: what they are after a call.
use Rattle.std.specs.Prelude.{Bool, Contains, List, None, Ok, Option, Some, false, nat_eq, true, ℕ, ◌≡◌, ◌≢◌, ◌⊎◌}
use Rattle.vt_spec.specs.Language.Calls.{Access, Call, CapabilityWord, Creation, ForkWords, TaskName, opens_for_reading, opens_for_writing}
use Rattle.vt_spec.specs.Language.Calls.Call.{Chdir, Chroot, Drop, Exit, Fork, OpenFile, PivotRoot, Setns, Umask, Unshare}
use Rattle.vt_spec.specs.Machine.Judge.{judge_in}
use Rattle.vt_spec.specs.Lists.{Fresh}
use Rattle.vt_spec.specs.Machine.Mounts.{Location}
use Rattle.vt_spec.specs.Machine.Namespaces.{pivoted_location}
use Rattle.vt_spec.specs.Machine.Tasks.{child_credentials, child_name, child_of}
use Rattle.vt_spec.specs.Machine.Permits.Permit.{ToPivot}
use Rattle.vt_spec.specs.Machine.Policy.{policy}
use Rattle.vt_spec.specs.Machine.World.{Descriptor, Task, World, mount_at, mount_numbered, task_called}
use Rattle.vt_spec.specs.Rights.{Credentials, cap_setgid, cap_setuid, has_all}

-- Rights

-- each capability that is held now was held before
abbrev pub HoldsNoMore : Credentials → Credentials → Type 0
HoldsNoMore was now =
    (capability : ℕ) → has_all now.capabilities capability ≡ true → has_all was.capabilities capability ≡ true

-- the same user and groups, and no further capability: credentials(7), capabilities(7)
abbrev pub IsNoMore : Credentials → Credentials → Type 0
IsNoMore was now = (now.uid ≡ was.uid) × (now.gid ≡ was.gid) × (now.groups ≡ was.groups) × HoldsNoMore was now

-- what the caller may give a child: no capability that it does not hold, and another user or other groups only with the
-- capability for that: setuid(2), setgid(2), setgroups(2)
abbrev pub MayGive : Credentials → Credentials → Type 0
MayGive caller child =
    HoldsNoMore caller child
    × ((child.uid ≡ caller.uid) ⊎ (has_all caller.capabilities cap_setuid ≡ true))
    × (((child.gid ≡ caller.gid) × (child.groups ≡ caller.groups)) ⊎ (has_all caller.capabilities cap_setgid ≡ true))

-- the call opens for this: open(2)
abbrev pub Opens : Call → Descriptor ℕ → Type 0
Opens call descriptor =
    (path : List ℕ) × (access : Access) × (creation : Creation) × (call ≡ OpenFile path access creation)
    × (descriptor.reads ≡ opens_for_reading access) × (descriptor.writes ≡ opens_for_writing access)

module _ (fresh : Fresh ℕ) (world : World ℕ) (name : TaskName) (call : Call) where
  -- the task as it is after the call
  abbrev pub task_after : TaskName → Option (Task ℕ)
  task_after other = task_called (policy nat_eq fresh world name call).world other

  -- a child of the caller: fork(2)
  abbrev pub IsForked : TaskName → Task ℕ → Type 0
  IsForked other child =
      (words : Option ForkWords) × (caller : Task ℕ) × (call ≡ Fork words) × (task_called world name ≡ Some caller)
      × (other ≡ child_name caller) × (child ≡ child_of caller (child_credentials caller.credentials words))
      × MayGive caller.credentials child.credentials

  -- a granted pivot of a namespace, and what it makes of each location of a task there: pivot_root(2)
  abbrev pub Pivots : ℕ → (Location ℕ → Location ℕ) → Type 0
  Pivots namespace moved =
      (new : List ℕ) × (old : List ℕ) × (caller : Task ℕ) × (mount : ℕ) × (put : Location ℕ)
      × (call ≡ PivotRoot new old) × (task_called world name ≡ Some caller)
      × (judge_in nat_eq fresh world caller call ≡ Ok (ToPivot mount put)) × (caller.namespace ≡ namespace)
      × (moved ≡ pivoted_location nat_eq (mount_at nat_eq world caller.root) (mount_numbered nat_eq world mount))

  -- a location of a task that stays, or goes by a pivot
  abbrev pub StaysOrIsPivoted : ℕ → Location ℕ → Location ℕ → Type 0
  StaysOrIsPivoted namespace was now =
      (now ≡ was) ⊎ ((moved : Location ℕ → Location ℕ) × Pivots namespace moved × (now ≡ moved was))

-- a law of each task that is there before a call and after it
abbrev pub OfTasksThatStay : (Fresh ℕ → World ℕ → TaskName → Call → TaskName → Task ℕ → Task ℕ → Type 0) → Type 0
OfTasksThatStay law =
    (fresh : Fresh ℕ) (world : World ℕ) (name : TaskName) (call : Call) (other : TaskName) (was now : Task ℕ)
    → task_called world other ≡ Some was → task_after fresh world name call other ≡ Some now
    → law fresh world name call other was now

-- who a task is stays, and its capabilities only shrink
abbrev pub RightsOnlyShrink : Type 0
RightsOnlyShrink = OfTasksThatStay (λ fresh world name call other was now. IsNoMore was.credentials now.credentials)

-- they do by drop alone, and the caller's: capset(2)
abbrev pub OnlyDropTakesRights : Type 0
OnlyDropTakesRights =
    OfTasksThatStay (λ fresh world name call other was now.
    (now.credentials ≡ was.credentials) ⊎ ((other ≡ name) × (which : CapabilityWord) × (call ≡ Drop which)))

-- a umask stays, unless the task sets it: umask(2)
abbrev pub OnlyUmaskSetsUmask : Type 0
OnlyUmaskSetsUmask =
    OfTasksThatStay (λ fresh world name call other was now.
    (now.umask ≡ was.umask) ⊎ ((other ≡ name) × (mode : ℕ) × (call ≡ Umask mode)))

-- a descriptor that a task has it had before, or it has now opened it, for what it asked: open(2)
abbrev pub OnlyOpenGivesDescriptors : Type 0
OnlyOpenGivesDescriptors =
    OfTasksThatStay (λ fresh world name call other was now.
    (descriptor : Descriptor ℕ) → Contains now.descriptors descriptor
    → Contains was.descriptors descriptor ⊎ ((other ≡ name) × Opens call descriptor))

-- A call changes no task but the caller, unless it pivots the other's namespace. Then the other's root and working
-- directory go where they were the old root, and nothing else of it: pivot_root(2)
abbrev pub OtherTasksStay : Type 0
OtherTasksStay =
    (fresh : Fresh ℕ) (world : World ℕ) (name : TaskName) (call : Call) (other : TaskName) (was : Task ℕ)
    → other ≢ name → task_called world other ≡ Some was
    → (task_after fresh world name call other ≡ Some was)
    ⊎ ((moved : Location ℕ → Location ℕ) × Pivots fresh world name call was.namespace moved
    × (task_after fresh world name call other
    ≡ Some (record was { root = moved was.root; directory = moved was.directory })))

-- and the caller leaves by exit alone: _exit(2)
abbrev pub OnlyExitLeaves : Type 0
OnlyExitLeaves =
    (fresh : Fresh ℕ) (world : World ℕ) (name : TaskName) (call : Call) (was : Task ℕ)
    → task_called world name ≡ Some was → task_after fresh world name call name ≡ None → call ≡ Exit

-- a task that was not there before is a child that the caller forked: fork(2)
abbrev pub NewTasksAreChildren : Type 0
NewTasksAreChildren =
    (fresh : Fresh ℕ) (world : World ℕ) (name : TaskName) (call : Call) (other : TaskName) (child : Task ℕ)
    → task_called world other ≡ None → task_after fresh world name call other ≡ Some child
    → IsForked fresh world name call other child

-- What moves a task

-- chdir(2), unshare(2) and setns(2)
abbrev pub moves_directory : Call → Bool
moves_directory (Chdir path) = true
moves_directory Unshare = true
moves_directory (Setns name) = true
moves_directory call = false

-- chroot(2), unshare(2) and setns(2)
abbrev pub moves_root : Call → Bool
moves_root (Chroot path) = true
moves_root Unshare = true
moves_root (Setns name) = true
moves_root call = false

-- unshare(2) with CLONE_NEWNS, setns(2)
abbrev pub moves_namespace : Call → Bool
moves_namespace Unshare = true
moves_namespace (Setns name) = true
moves_namespace call = false

abbrev pub OnlyTheseMoveDirectories : Type 0
OnlyTheseMoveDirectories =
    OfTasksThatStay (λ fresh world name call other was now.
    ((other ≡ name) × (moves_directory call ≡ true))
    ⊎ StaysOrIsPivoted fresh world name call was.namespace was.directory now.directory)

abbrev pub OnlyTheseMoveRoots : Type 0
OnlyTheseMoveRoots =
    OfTasksThatStay (λ fresh world name call other was now.
    ((other ≡ name) × (moves_root call ≡ true))
    ⊎ StaysOrIsPivoted fresh world name call was.namespace was.root now.root)

abbrev pub OnlyTheseMoveNamespaces : Type 0
OnlyTheseMoveNamespaces =
    OfTasksThatStay (λ fresh world name call other was now.
    ((other ≡ name) × (moves_namespace call ≡ true)) ⊎ (now.namespace ≡ was.namespace))
