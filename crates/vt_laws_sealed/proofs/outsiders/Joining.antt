-- Others that enter other namespaces: setns(2).
use Rattle.std.proofs.Common.{arith, ◌≡◌, refl, sym, ap, subst, ◌∙◌, ◌⊎◌, inl, inr, ⊎_elim, ℕ, nat_eq, true, false, List, [], Option, Some, None, Ok, filter, is_some, map, not, eqb-true, ok_or, option_map, unwrap_or}
use Rattle.vt_spec.proofs.Common.{Among, Call, Fresh, Location, Mount, Permit, Task, TaskName, ToEnterNamespace, World, among-filter, among-flat_map, among-from_filter, among-from_flat_map, among-from_map, apply, common_steps, denial, entered_at, found_among, holds_of, is_among, is_member_task, is_own_namespace, judge_in, locations_of, looks_of, mounts_of, namespace_root, outsiders, overfills, replaced_if_called, root_mount, root_of, same_name, settled, task_called, topmost}
use Rattle.vt_laws_sealed.proofs.Common.{IsGranted, S2, calls_are_granted, enters_namespace, found_itself, name_found, topmost_ground}
use Rattle.vt_laws_sealed.proofs.outsiders.OthersCalls.{IsOthersCall}
use Rattle.vt_laws_sealed.proofs.outsiders.Ending.{ending_leaves_apart}
use Rattle.vt_laws_sealed.proofs.outsiders.Entering.{apart, ground_of_others, old_outside}
use Rattle.vt_laws_sealed.proofs.outsiders.OtherMounts.{namespace_outside}
use Rattle.vt_laws_sealed.proofs.outsiders.OwnTasks.{IsOutside, replaced_members}
use Rattle.vt_laws_sealed.proofs.outsiders.Staying.{LeavesApart}

module _ {world : World ℕ} {fresh : Fresh ℕ} {names : List TaskName} {name : TaskName} {call : Call}
    {task : Task ℕ} (outsider : IsOthersCall world fresh names name call task) (namespace : ℕ)
    (judged : judge_in nat_eq fresh world task call ≡ Ok (ToEnterNamespace namespace)) where
  -- the task whose namespace it is
  abbrev Host : Type 0
  Host = (host : Task ℕ) × Among host (outsiders world names) × (host.namespace ≡ namespace)

  host_of : (asked : Call) (permit : Permit ℕ)
      → IsGranted nat_eq (looks_of nat_eq world) (overfills nat_eq fresh world task) task asked permit
      → call ≡ asked → permit ≡ ToEnterNamespace namespace → Host
  host_of asked permit (enters_namespace host_name found ended may) e p = by (task_called world host_name) refl ended
    where
      by : (o : Option (Task ℕ)) → task_called world host_name ≡ o
          → ok_or (option_map (λ (t : Task ℕ). t.namespace) o) (denial S2) ≡ Ok found → Host
      by None g h = absurd cc
      by (Some host) g h =
          let same : found ≡ namespace = cc in
          let is : host.namespace ≡ found = cc in (
            host,
            among-filter (λ (t : Task ℕ). not (is_member_task names t)) world.tasks host
                (found_among (λ (t : Task ℕ). same_name host_name t.name) world.tasks host g)
                (ap not (ap (λ n. is_among same_name n names) (sym (name_found world host_name host g))
                ∙ outsider.apart host_name e)),
            is ∙ same,
          )
  host_of asked permit granted e p = absurd cc

  host : Host
  host = host_of call (ToEnterNamespace namespace)
      (calls_are_granted nat_eq (looks_of nat_eq world) (overfills nat_eq fresh world task) task call
      (ToEnterNamespace namespace) judged) refl refl

  host_there : Among host.0 world.tasks
  host_there = (among-from_filter (λ (t : Task ℕ). not (is_member_task names t)) world.tasks host.0 host.1).0

  namespace_of_others : is_own_namespace nat_eq world names namespace ≡ false
  namespace_of_others = cc (host.2, namespace_outside world names (apart outsider) host.0 host.1)

  -- its root
  root_outside : (o : Option (Mount ℕ)) → root_mount nat_eq world namespace ≡ o → IsOutside world names
      (unwrap_or (option_map (λ mount. topmost nat_eq world.mounts (root_of mount)) o) task.root)
  root_outside None e = old_outside outsider task.root (inl refl)
  root_outside (Some mount) e =
      let there = among-from_filter (λ (m : Mount ℕ). holds_of (nat_eq namespace) m.namespace) world.mounts mount
      (found_among (λ (m : Mount ℕ). not (is_some m.mount_point)) (mounts_of nat_eq world namespace) mount e) in
      ground_of_others (apart outsider) host.0 host.1 host_there (topmost nat_eq world.mounts (root_of mount))
      (topmost_ground world outsider.is host.0 host_there (root_of mount)
      (inl (ap (λ (m : Mount ℕ). m.namespace) (found_itself world.mounts outsider.is.mounts.one_number mount there.0)
      ∙ placed mount.namespace there.1 ∙ ap Some (sym host.2))))
    where
      placed : (o : Option ℕ) → holds_of (nat_eq namespace) o ≡ true → o ≡ Some namespace
      placed None h = cc
      placed (Some n) h = ap Some (sym (eqb-true namespace n h))

  abbrev joined : Task ℕ
  joined = entered_at task namespace (unwrap_or (namespace_root nat_eq world namespace) task.root)

  abbrev tasks_left : List (Task ℕ)
  tasks_left = map (replaced_if_called joined) world.tasks

  joined_or_other : (t : Task ℕ) → Among t (filter (λ (x : Task ℕ). not (is_member_task names x)) tasks_left)
      → (t ≡ joined) ⊎ Among t (outsiders world names)
  joined_or_other t m = grind (arith, common_steps, among-from_filter, among-from_map, among-filter)

  at_root : IsOutside world names joined.root
  at_root = root_outside (root_mount nat_eq world namespace) refl

  joined_outside : (location : Location ℕ) → Among location (locations_of joined) → IsOutside world names location
  joined_outside location m = ⊎_elim (λ root. subst (IsOutside world names) (sym root) at_root)
      (λ rest. ⊎_elim (λ directory. subst (IsOutside world names) (sym directory) at_root)
      (λ open_ones. old_outside outsider location (inr (inr open_ones))) rest) m

  pub join_leaves : LeavesApart world (settled nat_eq
      (apply nat_eq fresh world task (ToEnterNamespace namespace)).world) names []
  join_leaves =
      ending_leaves_apart world names (apart outsider) outsider.sealed_off tasks_left
      (replaced_members outsider joined refl) (λ t m. ⊎_elim (λ new. ap (λ (x : Task ℕ). is_own_namespace nat_eq world
      names x.namespace) new ∙ namespace_of_others) (namespace_outside world names (apart outsider) t)
      (joined_or_other t m)) (λ location m.
      let of = among-from_flat_map locations_of (filter (λ (x : Task ℕ). not (is_member_task names x)) tasks_left)
      location m in
      ⊎_elim (λ new. joined_outside location (subst (λ (x : Task ℕ). Among location (locations_of x)) new of.2))
      (λ old. inl (location, among-flat_map locations_of (outsiders world names) of.0 location old of.2, refl))
      (joined_or_other of.0 of.1))
