-- Where mounts of theirs are detached, and the rest is swept and raised, the part is what is left of the part.
use Rattle.std.proofs.Common.{◌≡◌, sym, ap, ◌∙◌, ℕ, nat_eq, Bool, List, [], filter, map}
use Rattle.vt_spec.proofs.Common.{Namespace, Task, TaskName, World, list_any, numbers_raised, own_lowers, part_of, raised_namespace, raised_task, settled, used_filesystems}
use Rattle.vt_laws_members.proofs.namespaces.RemadeParts.{raised_part}
use Rattle.vt_laws_members.proofs.changes.letting_go.EndedPartReady.{ended_part_ready}
use Rattle.vt_laws_members.proofs.changes.letting_go.EndedRaised.{raised_alike}
use Rattle.vt_laws_members.proofs.changes.letting_go.EndedReady.{ended_ready}
use Rattle.vt_laws_members.proofs.changes.letting_go.Ends.{raised_members}
use Rattle.vt_laws_members.proofs.changes.letting_go.LessSeen.{one_part}
use Rattle.vt_laws_members.proofs.changes.letting_go.NamespaceLess.{Detaches, LeavesWorlds, ended, ended_less, ended_part}
use Rattle.vt_laws_members.proofs.changes.letting_go.Sweep.{part_of_settled, swept_of}

module _ {world : World ℕ} {names set : List TaskName} {gone : List ℕ} (it : Detaches world names set gone)
    (leaves : LeavesWorlds it) (name : TaskName) where
  abbrev part : World ℕ
  part = part_of nat_eq world names

  abbrev v : World ℕ
  v = ended it

  abbrev v_part : World ℕ
  v_part = ended_part it

  swept_alike : part_of nat_eq (settled nat_eq v) set ≡ part_of nat_eq (settled nat_eq v_part) set
  swept_alike = part_of_settled v set (used_filesystems nat_eq v set) (own_lowers nat_eq v set) (ended_ready it leaves)
      ∙ sym (ap (swept_of set) (one_part it.is (ended_less it)))
      ∙ sym (part_of_settled v_part set (used_filesystems nat_eq v set) (own_lowers nat_eq v set)
      (ended_part_ready it leaves))

  abbrev spaces : List (Task ℕ) → Namespace ℕ → Bool
  spaces ts n = list_any (λ (t : Task ℕ). nat_eq n.number t.namespace) ts

  pub detached_parts : part_of nat_eq (numbers_raised nat_eq world name [] (settled nat_eq v)) set
      ≡ part_of nat_eq (numbers_raised nat_eq part name [] (settled nat_eq v_part)) set
  detached_parts = raised_part world v set name ∙ (λ i. record (swept_alike i) {
    namespaces = (sym (raised_alike it) ∙ ap (λ ts. filter (spaces ts)
        (map (raised_namespace nat_eq part (settled nat_eq v_part)) v_part.namespaces)) (sym it.same)) i;
    tasks = (raised_members set name it.tasks ∙ ap (map (raised_task name)) (sym it.same)
        ∙ sym (raised_members set name it.tasks_too)) i;
  }) ∙ sym (raised_part part v_part set name)
