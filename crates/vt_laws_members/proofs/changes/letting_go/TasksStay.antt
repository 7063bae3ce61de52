-- Tasks that stay are left to their set, in the world and in the part.
use Rattle.std.proofs.Common.{refl, sym, subst, inl, ⊎_elim, ℕ, nat_eq, List, [], ◌∷◌}
use Rattle.vt_spec.proofs.Common.{Location, Task, TaskName, World, among-from_filter, among-from_flat_map, is_member_task, members, part_of}
use Rattle.vt_laws_members.proofs.Common.{IsSealed, same_members}
use Rattle.vt_laws_members.proofs.judging.Common.{IsTheirs, directory_theirs, root_theirs}
use Rattle.vt_laws_members.proofs.changes.letting_go.Changed.{Retasks}

module _ {world : World ℕ} {names : List TaskName} (sealing : IsSealed world names) where
  abbrev pub tasks_stay : Retasks world names names
  tasks_stay = record {
    sealing = sealing;
    tasks = world.tasks;
    tasks_too = (part_of nat_eq world names).tasks;
    lets = record {
      own = λ n. refl;
      roots = λ l m.
          let from = among-from_flat_map (λ (t : Task ℕ). t.root ∷ t.directory ∷ []) (members world names) l m in
          ⊎_elim (λ e. subst (λ (k : Location ℕ). IsTheirs world names sealing.is.mounts k.mount) (sym e)
          (root_theirs world names sealing.is from.0 from.1)) (λ rest. ⊎_elim
          (λ e. subst (λ (k : Location ℕ). IsTheirs world names sealing.is.mounts k.mount) (sym e)
          (directory_theirs world names sealing.is from.0 from.1)) (λ none. absurd none) rest) from.2;
      places = λ l m. inl m;
      others = λ l m. m;
    };
    same = same_members world names;
    all = λ t m. (among-from_filter (is_member_task names) world.tasks t m).1;
  }
