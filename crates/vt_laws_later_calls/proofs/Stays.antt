-- What tasks are on stays where what nothing uses goes.
use Rattle.std.proofs.Common.{◌≡◌, ap, subst, ◌∙◌, ℕ, nat_eq, List, Some}
use Rattle.vt_spec.proofs.Common.{Answer, Call, Fresh, Location, Outcome, Task, TaskName, World, apply, filesystems_changed, locations_of, mount_at, node_at, numbers_raised, policy, raised, raised_task, settled, task_called}
use Rattle.vt_laws_later_calls.proofs.Common.{Among, FilesBy, IsWorldButForUse, applied, called_there, name_found, namespace_if, number_if, numbers_raised_are, of_task, same_files, same_node, task_if, unsettled}
use Rattle.vt_laws_later_calls.proofs.Granted.{HasSucceeded, called_raised}

-- raised numbers hide no inode
pub node_raised : (before : World ℕ) (name : TaskName) (changed : List ℕ) (world : World ℕ) (location : Location ℕ)
    → node_at nat_eq (numbers_raised nat_eq before name changed world) location ≡ node_at nat_eq world location
node_raised before name changed world location =
    ap (λ w. node_at nat_eq w location) (numbers_raised_are before name changed world)
    ∙ ap (λ (files : FilesBy). (files (mount_at nat_eq world location).filesystem).tree.node location.node)
    (same_files (number_if changed world) (namespace_if before name changed world) (task_if before name changed world)
    (raised world.change) world)

module _ {world : World ℕ} {fresh : Fresh ℕ} {name : TaskName} {call : Call} {answer : Answer}
    (it : HasSucceeded world fresh name call answer) where
  abbrev spent_world : World ℕ
  spent_world = (apply nat_eq fresh world it.did.task it.did.permit).world

  abbrev later : World ℕ
  later = (policy nat_eq fresh world name call).world

  pub called_own : task_called world it.did.task.name ≡ Some it.did.task
  called_own = cc (name_found world name it.did.task it.did.called, it.did.called)

  pub spent_unsettled : IsWorldButForUse spent_world
  spent_unsettled = subst (λ (o : Outcome ℕ). IsWorldButForUse o.world)
      (applied call it.is it.plain it.serves called_own it.other it.few it.did.judged)
      (unsettled call it.is it.plain it.serves called_own it.other it.few it.did.judged)

  -- each task is there after the last step,
  pub still_called : (reader : TaskName) (reading : Task ℕ) → task_called spent_world reader ≡ Some reading
      → task_called later reader ≡ Some (raised_task name reading)
  still_called reader reading e = cc (it.did.left, called_raised name reader reading spent_world.tasks e)

  -- and where it is, or has a file open, stands what the call left there
  pub still_seen : (reader : TaskName) (reading : Task ℕ) → task_called spent_world reader ≡ Some reading
      → (location : Location ℕ) → Among location (locations_of reading)
      → node_at nat_eq later location ≡ node_at nat_eq spent_world location
  still_seen reader reading e location m = ap (λ w. node_at nat_eq w location) it.did.left
      ∙ node_raised world name (filesystems_changed nat_eq world it.did.permit) (settled nat_eq spent_world) location
      ∙ same_node spent_world spent_unsettled location (of_task spent_world spent_unsettled reading
      (called_there spent_world.tasks reader reading e) location m)
