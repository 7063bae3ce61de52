-- Flags of a mount of others that are set.
use Rattle.std.proofs.Common.{arith, ◌≡◌, refl, sym, ap, subst, ◌∙◌, inl, ℕ, nat_eq, Bool, true, false, cond, List, [], Some, Ok, filter, map, not, ◌||◌, eqb-true}
use Rattle.vt_spec.proofs.Common.{Among, Call, Fresh, Mount, MountFlags, Remount, Task, TaskName, ToSetFlags, World, apply, common_steps, holds_of, is_at, is_own_namespace, judge_in, locations, map_alike, members, mount_numbered, number-mount_in, other_mounts, own_mounts, replaced_if_same, roots_and_directories, seen_by_descriptor, settled, shares_no_events, when, with_mounts}
use Rattle.vt_laws_sealed.proofs.Common.{all_permits_fit, filter-map, found_itself, mounts_overlay, name_found, permits_are_for_their_calls, sets_type, takes_uses}
use Rattle.vt_laws_sealed.proofs.outsiders.OthersCalls.{IsOthersCall, apart_from}
use Rattle.vt_laws_sealed.proofs.part.part.PartOfPart.{is_own, keep}
use Rattle.vt_laws_sealed.specs.Part.Seals.{IsApart}
use Rattle.vt_laws_sealed.proofs.outsiders.ChangedWorlds.{KeepsOrDetaches, changing_leaves_apart, others_rest}
use Rattle.vt_laws_sealed.proofs.outsiders.StandingApart.{NothingNew, StandsApart}
use Rattle.vt_laws_sealed.proofs.outsiders.OtherMounts.{namespace_outside, not_own, not_stood_on, standing_apart}
use Rattle.vt_laws_sealed.proofs.outsiders.OwnTasks.{caller_outside, nothing_is_swept}
use Rattle.vt_laws_sealed.proofs.outsiders.Raising.{all-map_same}
use Rattle.vt_laws_sealed.proofs.outsiders.Staying.{LeavesApart}

-- Flags
module _ (world : World ℕ) (number : ℕ) (flags : MountFlags) where
  abbrev pub set : Mount ℕ → Mount ℕ
  set mount = cond (nat_eq number mount.number) (record mount { flags = flags }) mount

  number_kept : (mount : Mount ℕ) → (set mount).number ≡ mount.number
  number_kept mount = grind (arith, common_steps)

  filesystem_kept : (mount : Mount ℕ) → (set mount).filesystem ≡ mount.filesystem
  filesystem_kept mount = grind (arith, common_steps)

  namespace_kept : (mount : Mount ℕ) → (set mount).namespace ≡ mount.namespace
  namespace_kept mount = grind (arith, common_steps)

  set_keeps : KeepsOrDetaches set
  set_keeps = record {
    number = number_kept;
    filesystem = filesystem_kept;
    namespace = λ mount. inl (namespace_kept mount);
  }

  type_kept : (mount : Mount ℕ) → (set mount).propagation ≡ mount.propagation
  type_kept mount = grind (arith, common_steps)

module _ {world : World ℕ} {fresh : Fresh ℕ} {names : List TaskName} {name : TaskName} {call : Call}
    {task : Task ℕ} (outsider : IsOthersCall world fresh names name call task) (number : ℕ) (flags : MountFlags)
    (judged : judge_in nat_eq fresh world task call ≡ Ok (ToSetFlags number flags))
  where
    apart_before : IsApart world names
    apart_before = apart_from outsider.it

    abbrev so_far : StandsApart world names NothingNew
    so_far = standing_apart world names apart_before

    for_remount : (path : List ℕ) × (call ≡ Remount path flags)
    for_remount = permits_are_for_their_calls fresh world task call (ToSetFlags number flags) judged

    abbrev old : Mount ℕ
    old = mount_numbered nat_eq world number

    placed : old.namespace ≡ Some task.namespace
    placed = (all_permits_fit world fresh task call (ToSetFlags number flags) outsider.is outsider.serves
        (cc (name_found world name task outsider.called, outsider.called))
        (ap mounts_overlay for_remount.1) judged).names

    -- a mount of that number is the one
    is_old : (mount : Mount ℕ) → Among mount world.mounts → nat_eq number mount.number ≡ true → old ≡ mount
    is_old mount m e =
        cc (eqb-true number mount.number e, found_itself world.mounts outsider.is.mounts.one_number mount m)

    same_set : (mount : Mount ℕ) → Among mount world.mounts
        → replaced_if_same nat_eq (record old { flags = flags }) mount ≡ set world number flags mount
    same_set mount m = grind (arith, common_steps, number-mount_in, is_old)

    -- what the part has of it is without flags
    kept_same : (mount : Mount ℕ) → Among mount world.mounts
        → keep world names (members world names) (set world number flags mount)
        ≡ keep world names (members world names) mount
    kept_same mount m = by (nat_eq number mount.number) refl
      where
        by : (b : Bool) → nat_eq number mount.number ≡ b
            → keep world names (members world names) (cond b (record mount { flags = flags }) mount)
            ≡ keep world names (members world names) mount
        by true e =
            let at : mount.namespace ≡ Some task.namespace =
            cc (is_old mount m e, placed) in
            let outside = namespace_outside world names apart_before task
            (caller_outside outsider) in
            let no : (is_own world names (members world names) mount
            || is_at nat_eq (roots_and_directories (members world names)) mount) ≡ false =
            ap (λ b. b || is_at nat_eq (roots_and_directories (members world names)) mount)
            (not_own world names outside mount m at)
            ∙ not_stood_on apart_before outside mount m at in
            ap (λ b. cond b (Some (record mount { flags = flags }))
            (when (is_at nat_eq (locations (members world names)) mount) (seen_by_descriptor mount))) no
            ∙ sym (ap (λ b. cond b (Some mount)
            (when (is_at nat_eq (locations (members world names)) mount) (seen_by_descriptor mount))) no)
        by false e = refl

    abbrev flagged : World ℕ
    flagged = with_mounts world (map (set world number flags) world.mounts)

    in_namespaces : (test : ℕ → Bool) → filter (λ (mount : Mount ℕ). holds_of test mount.namespace) flagged.mounts
        ≡ map (set world number flags) (filter (λ (mount : Mount ℕ). holds_of test mount.namespace) world.mounts)
    in_namespaces test = filter-map (λ (mount : Mount ℕ). holds_of test mount.namespace) (set world number flags)
        world.mounts (λ mount. ap (holds_of test) (namespace_kept world number flags mount))

    own_are : own_mounts nat_eq flagged names ≡ map (set world number flags) (own_mounts nat_eq world names)
    own_are = in_namespaces (is_own_namespace nat_eq world names)

    others_are : other_mounts nat_eq flagged names ≡ map (set world number flags) (other_mounts nat_eq world names)
    others_are = in_namespaces (λ namespace. not (is_own_namespace nat_eq world names namespace))

    events_same : shares_no_events nat_eq flagged names ≡ shares_no_events nat_eq world names
    events_same = search (arith, common_steps, own_are, others_are, all-map_same, type_kept)

    pub flags_leave : LeavesApart world
        (settled nat_eq (apply nat_eq fresh world task (ToSetFlags number flags)).world) names []
    flags_leave = subst (λ w. LeavesApart world w names [])
        (sym (nothing_is_swept outsider (ToSetFlags number flags) judged (ap takes_uses for_remount.1)
        (ap sets_type for_remount.1) refl ∙ ap (with_mounts world) (map_alike
        (replaced_if_same nat_eq (record old { flags = flags })) (set world number flags) world.mounts same_set)))
        (changing_leaves_apart so_far (set_keeps world number flags) kept_same world.master
        (others_rest world names so_far) (λ group e. refl)
        (events_same ∙ apart_before.events))
