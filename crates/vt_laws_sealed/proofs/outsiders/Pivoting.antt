-- Another root mount of a namespace of others: pivot_root(2).
use Rattle.std.proofs.Common.{arith, ◌≡◌, refl, sym, ap, subst, ◌∙◌, inl, inr, ⊎_elim, ℕ, nat_eq, Bool, true, false, cond, true≢false, List, [], Some, None, Ok, filter, map, not, eqb-true}
use Rattle.vt_spec.proofs.Common.{cases_Bool, Among, Call, Fresh, Location, Mount, PivotRoot, Propagation, Task, TaskName, ToPivot, World, among-filter, among-flat_map, among-from_filter, among-from_flat_map, among-from_map, among_from_list_all, any_from_among, apply, common_steps, found_or_none, is_among, is_member_task, is_own_namespace, judge_in, list_all, list_all_from_among, locations, locations_of, map_same, members, mount_at, mount_numbered, no_mount, none_is_some, number-mount_in, other_mounts, outsiders, own_mounts, pair-map, pivoted_location, pivoted_mount, pivoted_task, root_of, same_location, same_name, settled, share_events, shares_no_events}
use Rattle.vt_laws_sealed.proofs.Common.{OneNumberEach, all_permits_fit, filter-map, found_itself, mounts_overlay, name_found, permits_are_for_their_calls}
use Rattle.vt_laws_sealed.proofs.outsiders.OthersCalls.{IsOthersCall, apart_from}
use Rattle.vt_laws_worlds.specs.Worlds.Permits.{MayPivot}
use Rattle.vt_laws_sealed.specs.Part.Seals.{IsApart}
use Rattle.vt_laws_sealed.proofs.part.part.Observed.{own_mounts_same}
use Rattle.vt_laws_sealed.proofs.part.part.PartOfPart.{keep}
use Rattle.vt_laws_sealed.proofs.outsiders.ChangedWorlds.{KeepsOrDetaches, OthersMove, changing_leaves_apart, left, others_from, sees}
use Rattle.vt_laws_sealed.proofs.outsiders.OtherMounts.{is_other, namespace_outside, standing_apart}
use Rattle.vt_laws_sealed.proofs.outsiders.OwnTasks.{IsOutside, caller_outside}
use Rattle.vt_laws_sealed.proofs.outsiders.Reshaping.{IsReshaped, reshaping_keeps, reshaping_kept}
use Rattle.vt_laws_sealed.proofs.outsiders.StandingApart.{NothingNew, StandsApart}
use Rattle.vt_laws_sealed.proofs.outsiders.Staying.{LeavesApart}
use Rattle.vt_laws_sealed.proofs.outsiders.Sweeping.{sweeping_leaves_apart}

module _ {world : World ℕ} {fresh : Fresh ℕ} {names : List TaskName} {name : TaskName} {call : Call}
    {task : Task ℕ} (outsider : IsOthersCall world fresh names name call task) (new : ℕ) (put : Location ℕ)
    (judged : judge_in nat_eq fresh world task call ≡ Ok (ToPivot new put)) where
  set_apart : IsApart world names
  set_apart = apart_from outsider.it

  abbrev so_far : StandsApart world names NothingNew
  so_far = standing_apart world names set_apart

  for_pivot : (new_path : List ℕ) × (old_path : List ℕ) × (call ≡ PivotRoot new_path old_path)
  for_pivot = permits_are_for_their_calls fresh world task call (ToPivot new put) judged

  fits : MayPivot world task new put
  fits = (all_permits_fit world fresh task call (ToPivot new put) outsider.is outsider.serves
      (cc (name_found world name task outsider.called, outsider.called))
      (ap mounts_overlay for_pivot.2) judged).names

  outside : is_own_namespace nat_eq world names task.namespace ≡ false
  outside = namespace_outside world names set_apart task (caller_outside outsider)

  abbrev old_root : Mount ℕ
  old_root = mount_at nat_eq world task.root

  abbrev new_root : Mount ℕ
  new_root = mount_numbered nat_eq world new

  abbrev change : Mount ℕ → Mount ℕ
  change = pivoted_mount nat_eq old_root new_root put

  shape : (mount : Mount ℕ) → IsReshaped mount (change mount)
  shape mount = by (nat_eq mount.number new_root.number) (nat_eq mount.number old_root.number)
    where
      by : (p q : Bool) → IsReshaped mount (cond p (record mount { mount_point = old_root.mount_point })
          (cond q (record mount { mount_point = Some put }) mount))
      by true q = (mount.namespace, old_root.mount_point, mount.propagation, refl, inl refl)
      by false true = (mount.namespace, Some put, mount.propagation, refl, inl refl)
      by false false = (mount.namespace, mount.mount_point, mount.propagation, refl, inl refl)

  type_kept : (mount : Mount ℕ) → (change mount).propagation ≡ mount.propagation
  type_kept mount = grind (arith, common_steps)

  keeps : KeepsOrDetaches change
  keeps = reshaping_keeps change shape

  same_mount : (number : ℕ) (mount : Mount ℕ) → Among mount world.mounts
      → nat_eq mount.number (mount_numbered nat_eq world number).number ≡ true
      → mount ≡ mount_numbered nat_eq world number
  same_mount number mount there e = sym (found_itself world.mounts outsider.is.mounts.one_number mount there)
      ∙ ap (mount_numbered nat_eq world)
      (eqb-true mount.number (mount_numbered nat_eq world number).number e ∙ number-mount_in world.mounts number)

  -- mounts of other namespaces, and of none, stay as they are
  stays_elsewhere : (mount : Mount ℕ) → Among mount world.mounts → (mount.namespace ≡ Some task.namespace → ⊥)
      → change mount ≡ mount
  stays_elsewhere mount there elsewhere = grind (arith, common_steps, same_mount, fits)

  own_same : (own : Mount ℕ) → Among own (own_mounts nat_eq world names) → change own ≡ own
  own_same own m = grind (arith, common_steps, among-from_filter, stays_elsewhere, true≢false, outside)

  nowhere_same : (mount : Mount ℕ) → Among mount world.mounts → mount.namespace ≡ None → change mount ≡ mount
  nowhere_same mount there none = stays_elsewhere mount there (λ e. none_is_some task.namespace (cc))

  kept_same : (mount : Mount ℕ) → Among mount world.mounts
      → keep world names (members world names) (change mount) ≡ keep world names (members world names) mount
  kept_same = reshaping_kept world names so_far change shape own_same nowhere_same

  -- Tasks
  abbrev move : Task ℕ → Task ℕ
  move = pivoted_task nat_eq task.namespace old_root new_root

  abbrev those : List (Task ℕ)
  those = filter (λ (t : Task ℕ). not (is_member_task names t)) (map move world.tasks)

  name_kept : (t : Task ℕ) → (move t).name ≡ t.name
  name_kept t = grind (arith, common_steps)

  namespace_kept : (t : Task ℕ) → (move t).namespace ≡ t.namespace
  namespace_kept t = grind (arith, common_steps)

  member_kept : (t : Task ℕ) → is_member_task names (move t) ≡ is_member_task names t
  member_kept t = ap (λ n. is_among same_name n names) (name_kept t)

  member_stays : (t : Task ℕ) → Among t (members world names) → move t ≡ t
  member_stays t m = grind (arith, common_steps, true≢false, any_from_among, outside)

  was : (t : Task ℕ) → Among t those → (old : Task ℕ) × Among old (outsiders world names) × (t ≡ move old)
  was t m =
      let out = among-from_filter (λ (x : Task ℕ). not (is_member_task names x)) (map move world.tasks) t m in
      let from = among-from_map move world.tasks t out.0 in (
        from.0,
        among-filter _ world.tasks from.0 from.1 (cc (from.2, member_kept from.0, out.1)),
        from.2,
      )

  new_root_other : Among new_root (other_mounts nat_eq world names)
  new_root_other = is_other world names outside new_root
      (⊎_elim (λ m. m) (λ none. none_is_some task.namespace (cc (fits.own)))
      (found_or_none world.mounts new)) fits.own

  moved_outside : (old : Task ℕ) → Among old (outsiders world names) → (from location : Location ℕ)
      → Among from (locations_of old) → location ≡ pivoted_location nat_eq old_root new_root from
      → IsOutside world names location
  moved_outside old m from location n e = elim (cases_Bool (same_location nat_eq from (root_of old_root))) [
    | inl f ↦ let it : location ≡ root_of new_root = cc in
        inr (subst (λ x. Among x (other_mounts nat_eq world names)) (sym (cc (number-mount_in world.mounts new)))
        new_root_other)
    | inr f ↦ let it : location ≡ from = cc in
        inl (
          from,
          among-flat_map locations_of (outsiders world names) old from m n,
          ap (λ (l : Location ℕ). l.mount) it,
        )
  ]

  located : (location : Location ℕ) → Among location (locations those) → IsOutside world names location
  located location m =
      let of = among-from_flat_map locations_of those location m in
      let old = was of.0 of.1 in
      by old.0 old.1 _ (subst (λ (t : Task ℕ). Among location (locations_of t)) old.2 of.2)
    where
      by : (old : Task ℕ) → Among old (outsiders world names) → (b : Bool)
          → Among location (locations_of (cond b (record old {
            root = pivoted_location nat_eq old_root new_root old.root;
            directory = pivoted_location nat_eq old_root new_root old.directory;
          }) old)) → IsOutside world names location
      by old among true n = ⊎_elim (λ root. moved_outside old among old.root location (inl refl) root)
          (λ rest. ⊎_elim (λ directory. moved_outside old among _ _ (inr (inl refl)) directory) (λ open_ones. inl (
            location,
            among-flat_map locations_of (outsiders world names) old location among (inr (inr open_ones)),
            refl,
          )) rest) n
      by old among false n = inl (location, among-flat_map locations_of _ old location among n, refl)

  moved : OthersMove world names (map move world.tasks) world.namespaces
  moved = record {
    members = filter-map (is_member_task names) move world.tasks member_kept
        ∙ map_same move (members world names) member_stays;
    outside = λ t m.
        let old = was t m in
        cc (old.2, namespace_kept old.0, namespace_outside world names set_apart old.0 old.1);
    located = located;
    listed = refl;
  }

  abbrev pivoted_world : World ℕ
  pivoted_world = left so_far keeps kept_same world.master moved

  -- events go by types alone
  abbrev share_by : Propagation ℕ → Propagation ℕ → Bool
  share_by a b =
      share_events nat_eq world (record (no_mount 0) { propagation = a }) (record (no_mount 0) { propagation = b })

  events : shares_no_events nat_eq pivoted_world names ≡ true
  events = ap (λ owns. list_all (λ own. list_all (λ other. not (share_events nat_eq pivoted_world own other))
      (other_mounts nat_eq pivoted_world names)) owns) (own_mounts_same world pivoted_world names
      (sees so_far keeps kept_same world.master moved (λ group e. refl)))
      ∙ list_all_from_among (λ own. list_all (λ other. not (share_events nat_eq pivoted_world own other))
      (other_mounts nat_eq pivoted_world names)) (own_mounts nat_eq world names)
      (λ own m. list_all_from_among (λ other. not (share_events nat_eq pivoted_world own other))
      (other_mounts nat_eq pivoted_world names) (λ other n.
      let from = others_from so_far keeps kept_same world.master
      moved other n in
      ap (λ kind. not (share_by own.propagation kind)) (ap (λ (x : Mount ℕ). x.propagation) from.2 ∙ type_kept from.0)
      ∙ among_from_list_all (λ x. not (share_events nat_eq world own x)) (other_mounts nat_eq world names)
      (among_from_list_all (λ x. list_all (λ y. not (share_events nat_eq world x y)) (other_mounts nat_eq world names))
      (own_mounts nat_eq world names) set_apart.events own m) from.0 from.1))

  one_each : OneNumberEach pivoted_world
  one_each = grind (arith, common_steps, pair-map, keeps)

  pub pivot_leaves : LeavesApart world (settled nat_eq (apply nat_eq fresh world task (ToPivot new put)).world) names []
  pivot_leaves = sweeping_leaves_apart world pivoted_world names set_apart outsider.sealed_off refl one_each []
      (changing_leaves_apart so_far keeps kept_same world.master moved (λ group e. refl) events)
