-- Where mounts of theirs change, and the rest is swept and raised, the part is what is left of the part.
use Rattle.std.proofs.Common.{◌≡◌, refl, sym, ap, ◌∙◌, ℕ, nat_eq, Bool, List, [], filter, map}
use Rattle.vt_spec.proofs.Common.{Namespace, Task, TaskName, World, is_member_task, is_own_namespace, map_same, numbers_raised, own_lowers, part_of, raised, raised_if_changed, raised_namespace, raised_task, settled, used_filesystems}
use Rattle.vt_laws_members.proofs.changes.tasks.Retasked.{retasked}
use Rattle.vt_laws_members.proofs.changes.letting_go.Ends.{raised_members, raised_sees}
use Rattle.vt_laws_members.proofs.changes.letting_go.LessSeen.{one_part}
use Rattle.vt_laws_members.proofs.changes.letting_go.Sweep.{part_of_settled, swept_of}
use Rattle.vt_laws_members.proofs.namespaces.Remade.{ChangesTheirs, MovesTheirs, Remaking, in_spaces, remade_less, v, v_part}
use Rattle.vt_laws_members.proofs.namespaces.RemadePartReady.{remade_part_ready}
use Rattle.vt_laws_members.proofs.namespaces.RemadeRaised.{raised_alike}
use Rattle.vt_laws_members.proofs.namespaces.RemadeReady.{remade_ready}

-- the part of a world after the last step
pub raised_part : (before w : World ℕ) (names : List TaskName) (name : TaskName)
    → part_of nat_eq (numbers_raised nat_eq before name [] (settled nat_eq w)) names
    ≡ record (part_of nat_eq (settled nat_eq w) names) {
      namespaces = filter (λ (n : Namespace ℕ). is_own_namespace nat_eq w names n.number)
          (map (raised_namespace nat_eq before (settled nat_eq w)) w.namespaces);
      tasks = filter (is_member_task names) (map (raised_task name) w.tasks);
    }
raised_part before w names name = (λ i. part_of nat_eq (record renamed {
  filesystems = map_same (raised_if_changed nat_eq []) (settled nat_eq w).filesystems (λ f m. refl) i;
  tasks = map (raised_task name) w.tasks;
  change = raised w.change;
}) names) ∙ retasked renamed names names (map (raised_task name) w.tasks) (raised w.change)
    (raised_sees renamed names name (raised w.change))
  where
    renamed : World ℕ
    renamed = record (settled nat_eq w) {
      namespaces = map (raised_namespace nat_eq before (settled nat_eq w)) w.namespaces;
    }

module _ (it : Remaking) (does : ChangesTheirs it) (moves : MovesTheirs it) where
  abbrev names : List TaskName
  names = it.names

  abbrev part : World ℕ
  part = part_of nat_eq it.world names

  abbrev after : World ℕ
  after = v it does moves

  abbrev after_part : World ℕ
  after_part = v_part it does moves

  swept_alike : part_of nat_eq (settled nat_eq after) names ≡ part_of nat_eq (settled nat_eq after_part) names
  swept_alike = part_of_settled after names (used_filesystems nat_eq after names) (own_lowers nat_eq after names)
      (remade_ready it does moves) ∙ sym (ap (swept_of names) (one_part it.is (remade_less it does moves)))
      ∙ sym (part_of_settled after_part names (used_filesystems nat_eq after names) (own_lowers nat_eq after names)
      (remade_part_ready it does moves))

  abbrev spaces : List (Task ℕ) → Namespace ℕ → Bool
  spaces ts n = in_spaces ts n.number

  pub remade_parts : (name : TaskName)
      → part_of nat_eq (numbers_raised nat_eq it.world name [] (settled nat_eq after)) names
      ≡ part_of nat_eq (numbers_raised nat_eq part name [] (settled nat_eq after_part)) names
  remade_parts name = raised_part it.world after names name ∙ (λ i. record (swept_alike i) {
    namespaces = (sym (raised_alike it does moves) ∙ ap (λ ts. filter (spaces ts)
        (map (raised_namespace nat_eq part (settled nat_eq after_part)) after_part.namespaces)) (sym moves.same)) i;
    tasks = (raised_members names name it.tasks ∙ ap (map (raised_task name)) (sym moves.same)
        ∙ sym (raised_members names name it.tasks_too)) i;
  }) ∙ sym (raised_part part after_part names name)
