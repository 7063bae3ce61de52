-- Binds and new mounts of others: mount(2) with MS_BIND, and with MS_REC, and of a tmpfs.
use Rattle.std.proofs.Common.{arith, ◌≡◌, refl, sym, ap, subst, ◌∙◌, inl, inr, ⊎_elim, ℕ, zero, suc, nat_eq, Bool, true, false, List, [], ◌∷◌, ◌++◌, append-nil, ◌*◌, ◌+◌, Some, Ok, filter, length, not}
use Rattle.vt_spec.proofs.Common.{Among, Call, Filesystem, Fresh, Location, Mount, MountFlags, Task, TaskName, ToBind, ToMountPlain, World, among-from_filter, among-from_flat_map, apply, bind_tree, bindable_children, bindable_tree, bound, children, common_steps, found_or_none, is_own_namespace, is_unbindable, judge_in, mount_at, new_mount, none_is_some, number-mount_in, odds, overlays, plain_filesystem, settled, stands_under}
use Rattle.vt_laws_sealed.proofs.outsiders.OthersCalls.{IsOthersCall, apart_from}
use Rattle.vt_laws_sealed.proofs.Common.{all_permits_fit, mounts_overlay, name_found, permits_are_for_their_calls, sets_type, takes_uses}
use Rattle.vt_laws_sealed.specs.Part.Seals.{IsApart}
use Rattle.vt_laws_sealed.proofs.outsiders.AttachedGroups.{OriginOf}
use Rattle.vt_laws_sealed.proofs.outsiders.Attaching.{AttachesApart, attaching_leaves_apart}
use Rattle.vt_laws_sealed.proofs.outsiders.Filesystems.{larger_overlays, larger_sees}
use Rattle.vt_laws_sealed.proofs.outsiders.OtherMounts.{IsIn, child_in, is_other, namespace_outside}
use Rattle.vt_laws_sealed.proofs.outsiders.OwnTasks.{caller_outside, nothing_is_swept}
use Rattle.vt_laws_sealed.proofs.outsiders.Refusals.{leaves_apart_itself}
use Rattle.vt_laws_sealed.proofs.outsiders.Staying.{LeavesApart}

module _ {world : World ℕ} {names : List TaskName} (apart : IsApart world names) (namespace : ℕ)
    (outside : is_own_namespace nat_eq world names namespace ≡ false) where
  bindable_in : (parent : Mount ℕ) → IsIn world namespace parent → (child : Mount ℕ)
      → Among child (bindable_children nat_eq world.mounts parent.number) → IsIn world namespace child
  bindable_in parent is child m = child_in apart namespace parent is child
      (among-from_filter (λ (x : Mount ℕ). not (is_unbindable x.propagation))
      (children nat_eq world.mounts parent.number) child m).0

  tree_in : (fuel : ℕ) (mount : Mount ℕ) → IsIn world namespace mount → (x : Mount ℕ)
      → Among x (bindable_tree nat_eq fuel world.mounts mount) → IsIn world namespace x
  tree_in zero mount is x m = ⊎_elim (λ e. subst (IsIn world namespace) (sym e) is) (λ none. absurd none) m
  tree_in (suc fuel) mount is x m = ⊎_elim (λ e. subst (IsIn world namespace) (sym e) is) (λ later.
      let from = among-from_flat_map (bindable_tree nat_eq fuel world.mounts)
      (bindable_children nat_eq world.mounts mount.number) x later in
      tree_in fuel from.0 (bindable_in mount is from.0 from.1) x from.2) m

  -- each mount that a bind copies is one of others
  module _ (fresh : Fresh ℕ) (source : Location ℕ)
      (placed : (mount_at nat_eq world source).namespace ≡ Some namespace) where
    source_in : IsIn world namespace (mount_at nat_eq world source)
    source_in = grind (arith, common_steps, none_is_some, found_or_none)

    of_bound : (origin : Mount ℕ) → origin ≡ bound nat_eq world source → OriginOf world fresh names origin
    of_bound origin e = inl (
      mount_at nat_eq world source,
      is_other world names outside (mount_at nat_eq world source) source_in.0 placed,
      ap (λ (x : Mount ℕ). x.propagation) e,
      ap (λ (x : Mount ℕ). x.filesystem) e,
    )

    of_tree : (origin : Mount ℕ) → IsIn world namespace origin → OriginOf world fresh names origin
    of_tree origin is = inl (origin, is_other world names outside origin is.0 is.1, refl, refl)

    pub bind_origins : (recursive : Bool) (origin : Mount ℕ) → Among origin (bind_tree nat_eq world source recursive)
        → OriginOf world fresh names origin
    bind_origins false origin m = ⊎_elim (of_bound origin) (λ none. absurd none) m
    bind_origins true origin m = ⊎_elim (of_bound origin) (λ later.
        let from = among-from_flat_map (bindable_tree nat_eq (length world.mounts) world.mounts)
        (filter (stands_under nat_eq world source) (bindable_children nat_eq world.mounts source.mount)) origin later in
        let child = (among-from_filter (stands_under nat_eq world source)
        (bindable_children nat_eq world.mounts source.mount) from.0 from.1).0 in
        of_tree origin (tree_in (length world.mounts) from.0
        (bindable_in (mount_at nat_eq world source) source_in from.0
        (subst (λ n. Among from.0 (bindable_children nat_eq world.mounts n))
        (sym (number-mount_in world.mounts source.mount)) child)) origin from.2)) m

module _ {world : World ℕ} {fresh : Fresh ℕ} {names : List TaskName} {name : TaskName} {call : Call}
    {task : Task ℕ} (outsider : IsOthersCall world fresh names name call task) where
  pub bind_leaves : (source place : Location ℕ) (recursive : Bool)
      → judge_in nat_eq fresh world task call ≡ Ok (ToBind source place recursive)
      → LeavesApart world (settled nat_eq (apply nat_eq fresh world task (ToBind source place recursive)).world) names
      []
  bind_leaves source place recursive judged =
      let apart = apart_from outsider.it in
      let for = permits_are_for_their_calls fresh world task call (ToBind source place recursive) judged in
      let named = (all_permits_fit world fresh task call (ToBind source place recursive) outsider.is outsider.serves
      (cc (name_found world name task outsider.called, outsider.called))
      (ap mounts_overlay for.2) judged).names in
      let outside = namespace_outside world names apart task
      (caller_outside outsider) in
      let attaches : AttachesApart world names fresh = record {
        attaching = record {
          apart = apart;
          serves = outsider.serves;
          filesystems = world.filesystems;
          supply = fresh;
          supplied = λ k. (k, refl);
          place = place;
          mounts = bind_tree nat_eq world source recursive;
          origins = bind_origins apart task.namespace outside fresh source named.1 recursive;
          moves = false;
        };
        sees_base = (leaves_apart_itself outsider.it).sees;
        more = [];
        grown = sym (append-nil (overlays world));
        none_there = λ merged m number free. absurd m;
        namespace = task.namespace;
        outside = outside;
        placed = named.2.own;
        in_place = λ moving. absurd cc;
      } in
      subst (λ w. LeavesApart world w names []) (sym (nothing_is_swept outsider (ToBind source place recursive) judged
      (ap takes_uses for.2) (ap sets_type for.2) refl))
      (attaching_leaves_apart attaches)

  -- A new mount: mount(2) of a tmpfs
  pub plain_leaves : (place : Location ℕ) (flags : MountFlags) → judge_in nat_eq fresh world task call ≡ Ok
      (ToMountPlain place flags)
      → LeavesApart world (settled nat_eq (apply nat_eq fresh world task (ToMountPlain place flags)).world) names []
  plain_leaves place flags judged =
      let apart = apart_from outsider.it in
      let for = permits_are_for_their_calls fresh world task call (ToMountPlain place flags) judged in
      let named = (all_permits_fit world fresh task call (ToMountPlain place flags) outsider.is outsider.serves
      (cc (name_found world name task outsider.called, outsider.called))
      (ap mounts_overlay for.1) judged).names in
      let outside = namespace_outside world names apart task
      (caller_outside outsider) in
      let added : Filesystem ℕ = plain_filesystem nat_eq fresh in
      let attaches : AttachesApart world names fresh = record {
        attaching = record {
          apart = apart;
          serves = outsider.serves;
          filesystems = world.filesystems ++ added ∷ [];
          supply = odds fresh;
          supplied = λ k. (2 * k + 1, refl);
          place = place;
          mounts = new_mount added.number added.files.tree.root flags ∷ [];
          origins = λ origin m. ⊎_elim
              (λ e. inr (ap (λ (x : Mount ℕ). x.propagation) e, 0, ap (λ (x : Mount ℕ). x.filesystem) e))
              (λ none. absurd none) m;
          moves = false;
        };
        sees_base = larger_sees apart fresh outsider.serves added 0 refl;
        more = [];
        grown = larger_overlays apart fresh outsider.serves added 0 refl refl ∙ sym (append-nil (overlays world));
        none_there = λ merged m number free. absurd m;
        namespace = task.namespace;
        outside = outside;
        placed = named.own;
        in_place = λ moving. absurd cc;
      } in
      subst (λ w. LeavesApart world w names []) (sym (nothing_is_swept outsider (ToMountPlain place flags) judged
      (ap takes_uses for.1) (ap sets_type for.1) refl))
      (attaching_leaves_apart attaches)
