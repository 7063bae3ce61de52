-- Descriptors of others that are closed: close(2).
use Rattle.std.proofs.Common.{arith, refl, inl, inr, ⊎_elim, ℕ, nat_eq, List, [], map}
use Rattle.vt_spec.proofs.Common.{Among, Call, Descriptor, Fresh, Location, Task, TaskName, ToClose, World, among-from_filter, among-from_map, among-map, apply, common_steps, settled, without_descriptor}
use Rattle.vt_laws_sealed.proofs.outsiders.OthersCalls.{IsOthersCall, apart_from}
use Rattle.vt_laws_sealed.proofs.outsiders.OwnTasks.{callers_outside, replacing_leaves_apart}
use Rattle.vt_laws_sealed.proofs.outsiders.Staying.{LeavesApart}
use Rattle.vt_laws_sealed.proofs.outsiders.Sweeping.{sweeping_leaves_apart}

module _ {world : World ℕ} {fresh : Fresh ℕ} {names : List TaskName} {name : TaskName} {call : Call}
    {task : Task ℕ} (outsider : IsOthersCall world fresh names name call task) where
  pub close_leaves : (number : ℕ) → LeavesApart world (settled nat_eq
      (apply nat_eq fresh world task (ToClose number)).world) names []
  close_leaves number =
      sweeping_leaves_apart world (apply nat_eq fresh world task (ToClose number)).world names (apart_from outsider.it)
      outsider.sealed_off refl outsider.is.mounts.one_number [] (replacing_leaves_apart outsider
      (without_descriptor task number) refl refl (λ location m. callers_outside outsider location
      (⊎_elim inl (λ rest. inr (⊎_elim inl (λ open_ones. inr (left_open location open_ones)) rest)) m)))
    where
      left_open : (location : Location ℕ)
          → Among location (map (λ (d : Descriptor ℕ). d.location) (without_descriptor task number).descriptors)
          → Among location (map (λ (d : Descriptor ℕ). d.location) task.descriptors)
      left_open location m = grind (arith, common_steps, among-from_map, among-map, among-from_filter)
