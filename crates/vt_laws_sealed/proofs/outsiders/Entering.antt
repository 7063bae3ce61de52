-- Other working and root directories of others: chdir(2), chroot(2).
use Rattle.std.proofs.Common.{◌≡◌, refl, sym, subst, inl, inr, ⊎_elim, ℕ, nat_eq, List, [], Ok}
use Rattle.vt_spec.proofs.Common.{Among, Call, Fresh, Location, Permit, Task, TaskName, ToSetDirectory, ToSetRoot, World, among-flat_map, apply, found_among, found_or_none, judge_in, locations_of, looks_of, mount_at, none_is_some, outsiders, overfills, same_name, settled}
use Rattle.vt_laws_sealed.proofs.Common.{IsGranted, IsGround, calls_are_granted, changes_directory, changes_root, directory_ways_are_searched, searched_ground}
use Rattle.vt_laws_sealed.proofs.outsiders.OthersCalls.{IsOthersCall, apart_from}
use Rattle.vt_laws_sealed.specs.Part.Seals.{IsApart}
use Rattle.vt_laws_sealed.proofs.outsiders.OtherMounts.{is_other, namespace_outside}
use Rattle.vt_laws_sealed.proofs.outsiders.OwnTasks.{IsOutside, caller_outside, callers_outside, replacing_leaves_apart}
use Rattle.vt_laws_sealed.proofs.outsiders.Staying.{LeavesApart}
use Rattle.vt_laws_sealed.proofs.outsiders.Sweeping.{sweeping_leaves_apart}

-- where one of the others gets is no mount of theirs
pub ground_of_others : {world : World ℕ} {names : List TaskName} (apart : IsApart world names) (task : Task ℕ)
    → Among task (outsiders world names) → (there : Among task world.tasks) → (location : Location ℕ)
    → IsGround world apart.is task there location.mount → IsOutside world names location
ground_of_others {world} {names} apart task outside there location ground = ⊎_elim
    (λ own. inr (is_other world names (namespace_outside world names apart task outside)
    (mount_at nat_eq world location) (⊎_elim (λ m. m)
    (λ missing. none_is_some task.namespace (cc))
    (found_or_none world.mounts location.mount)) own)) (λ none. ⊎_elim
    (λ e. inl (task.root, among-flat_map locations_of (outsiders world names) task task.root outside (inl refl), e))
    (λ e. inl (
      task.directory,
      among-flat_map locations_of (outsiders world names) task task.directory outside (inr (inl refl)),
      e,
    )) none.1) ground

module _ {world : World ℕ} {fresh : Fresh ℕ} {names : List TaskName} {name : TaskName} {call : Call}
    {task : Task ℕ} (outsider : IsOthersCall world fresh names name call task) where
  pub apart : IsApart world names
  apart = apart_from outsider.it

  pub task_there : Among task world.tasks
  task_there = found_among (λ (t : Task ℕ). same_name name t.name) world.tasks task outsider.called

  outside : Among task (outsiders world names)
  outside = caller_outside outsider

  abbrev OnGround : Location ℕ → Type 0
  OnGround location = IsGround world outsider.is task task_there location.mount

  -- where the call leads
  directory_reached : (asked : Call) (permit : Permit ℕ)
      → IsGranted nat_eq (looks_of nat_eq world) (overfills nat_eq fresh world task) task asked permit
      → (directory : Location ℕ) → permit ≡ ToSetDirectory directory → OnGround directory
  directory_reached asked permit (changes_directory path here walk may) directory e =
      let same : here.location ≡ directory = cc in
      subst OnGround same (searched_ground world outsider.is task task_there path here.location
      (directory_ways_are_searched world task path here walk))
  directory_reached asked permit granted directory e = absurd cc

  root_reached : (asked : Call) (permit : Permit ℕ)
      → IsGranted nat_eq (looks_of nat_eq world) (overfills nat_eq fresh world task) task asked permit
      → (root : Location ℕ) → permit ≡ ToSetRoot root → OnGround root
  root_reached asked permit (changes_root path here able walk may) root e =
      let same : here.location ≡ root = cc in
      subst OnGround same (searched_ground world outsider.is task task_there path here.location
      (directory_ways_are_searched world task path here walk))
  root_reached asked permit granted root e = absurd cc

  pub old_outside : (location : Location ℕ) → Among location (locations_of task) → IsOutside world names location
  old_outside = callers_outside outsider

  pub ground_outside : (location : Location ℕ) → OnGround location → IsOutside world names location
  ground_outside = ground_of_others apart task outside task_there

  pub directory_leaves : (directory : Location ℕ)
      → judge_in nat_eq fresh world task call ≡ Ok (ToSetDirectory directory)
      → LeavesApart world (settled nat_eq (apply nat_eq fresh world task (ToSetDirectory directory)).world) names []
  directory_leaves directory judged =
      sweeping_leaves_apart world (apply nat_eq fresh world task (ToSetDirectory directory)).world names apart
      outsider.sealed_off refl outsider.is.mounts.one_number [] (replacing_leaves_apart outsider
      (record task { directory = directory }) refl refl (λ location m. ⊎_elim (λ root. old_outside location (inl root))
      (λ rest. ⊎_elim (λ here. ground_outside location (subst OnGround (sym here)
      (directory_reached call (ToSetDirectory directory) (calls_are_granted nat_eq (looks_of nat_eq world)
      (overfills nat_eq fresh world task) task call (ToSetDirectory directory) judged) directory refl)))
      (λ open_ones. old_outside location (inr (inr open_ones))) rest) m))

  pub root_leaves : (root : Location ℕ) → judge_in nat_eq fresh world task call ≡ Ok (ToSetRoot root)
      → LeavesApart world (settled nat_eq (apply nat_eq fresh world task (ToSetRoot root)).world) names []
  root_leaves root judged =
      sweeping_leaves_apart world (apply nat_eq fresh world task (ToSetRoot root)).world names apart
      outsider.sealed_off refl outsider.is.mounts.one_number [] (replacing_leaves_apart outsider
      (record task { root = root }) refl refl (λ location m. ⊎_elim (λ here. ground_outside location
      (subst OnGround (sym here) (root_reached call (ToSetRoot root) (calls_are_granted nat_eq (looks_of nat_eq world)
      (overfills nat_eq fresh world task) task call (ToSetRoot root) judged) root refl)))
      (λ rest. old_outside location (inr rest)) m))
