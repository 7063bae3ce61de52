-- A task of a sealed set, and a call of theirs.
use Rattle.std.proofs.Common.{◌≡◌, sym, ap, ◌∙◌, ℕ, true, false, List, Ok, Some}
use Rattle.vt_spec.proofs.Common.{Among, Call, Done, Task, TaskName, World, among-filter, found_among, found_passes, is_among, is_member_task, members, only_looks, same_name, same_task_name, task_called}
use Rattle.vt_laws_members.proofs.Common.{IsSealed, sealed_by}
use Rattle.vt_laws_members.specs.Changes.Changes.{IsCallOfTheirs, grown}

pub record IsMember (world : World ℕ) (names : List TaskName) (task : Task ℕ) : Type 0 where
  pub sealing : IsSealed world names
  pub open sealing use {is, sealed_off}
  pub among : Among task (members world names)

abbrev pub a_member : {world : World ℕ} {names : List TaskName} {task : Task ℕ} → IsSealed world names
    → Among task (members world names) → IsMember world names task
a_member sealing among = record { sealing = sealing; among = among }

-- a task called by a name of theirs is one of theirs
abbrev pub member_called : {world : World ℕ} {names : List TaskName} → IsSealed world names → (name : TaskName)
    → is_among same_name name names ≡ true → (task : Task ℕ) → task_called world name ≡ Some task
    → IsMember world names task
member_called {world} {names} sealing name theirs task e = record {
  sealing = sealing;
  among = among-filter (is_member_task names) world.tasks task
      (found_among (λ (t : Task ℕ). same_name name t.name) world.tasks task e) (ap (λ n. is_among same_name n names)
      (sym (same_task_name name task.name (found_passes (λ (t : Task ℕ). same_name name t.name) world.tasks task e)))
      ∙ theirs);
}

abbrev pub sealing_of : {world : World ℕ} {names : List TaskName} {name : TaskName} {call : Call}
    → IsCallOfTheirs world names name call → IsSealed world names
sealing_of it = sealed_by it.is it.sealed_off

-- so is the caller of a call of theirs
abbrev pub caller_in : {world : World ℕ} {names : List TaskName} {name : TaskName} {call : Call} {task : Task ℕ}
    → IsCallOfTheirs world names name call → task_called world name ≡ Some task → IsMember world names task
caller_in {name = name} {task = task} it called = member_called (sealing_of it) name it.theirs task called

-- a call of theirs that does not only look, and leaves the set as it was
pub record IsLastingCall (world : World ℕ) (names : List TaskName) (name : TaskName) (call : Call) (task : Task ℕ)
    : Type 0 where
  pub it : IsCallOfTheirs world names name call
  pub open it use {is, theirs}
  pub found : task_called world name ≡ Some task
  pub looks : only_looks call ≡ false
  pub stays : grown names name call (Ok Done) ≡ names

abbrev pub lasting : {world : World ℕ} {names : List TaskName} {name : TaskName} {call : Call} {task : Task ℕ}
    → IsCallOfTheirs world names name call → task_called world name ≡ Some task → only_looks call ≡ false
    → grown names name call (Ok Done) ≡ names → IsLastingCall world names name call task
lasting it found looks stays = record { it = it; found = found; looks = looks; stays = stays }
