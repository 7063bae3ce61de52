-- Where mounts of a sealed set get other flags or mount points, others are as they were.
use Rattle.std.proofs.Common.{◌≡◌, refl, sym, ap, subst, ◌∙◌, ◌⊎◌, inl, inr, ⊎_elim, ℕ, nat_eq, Bool, true, false, cond, true≢false, List, [], ◌∷◌, Option, Some, None, Ok, filter, map, not, eq-eqb, eqb-true, arith}
use Rattle.vt_spec.proofs.Common.{Among, Call, Fresh, Location, Mount, MountFlags, Permit, PivotRoot, Propagation, Task, TaskName, ToPivot, ToSetFlags, World, among-append, among-append_left, among-append_right, among-flat_map, among-from_filter, among-from_flat_map, among-from_map, among-map, any_from_among, apply, common_steps, found_or_none, holds_of, is_among, is_member_task, is_own_namespace, judge_in, list_all, list_any, locations, locations_of, map_alike, members, mount_at, mount_in, mount_numbered, no_mount, none_is_some, not-true, number-mount_in, other_mounts, outsiders, own_mounts, pivoted_location, pivoted_mount, pivoted_task, replaced_if_same, root_of, same_Some, same_name, share_events, used_directly, with_mounts}
use Rattle.vt_laws_containers.proofs.footholds.ServedCalls.{IsServedCall}
use Rattle.vt_laws_containers.proofs.Common.{IsApart, IsMember, IsSealed, IsTheirs, all_permits_fit, any_mapped, apart_if_sealed, caller_in, filter-map, found_itself, mounts_overlay, name_found, namespace_outside, own_theirs, permits_are_for_their_calls, sealing_of, theirs_directly}
use Rattle.vt_laws_worlds.specs.Worlds.Permits.{MayPivot}
use Rattle.vt_laws_sealed.proofs.outsiders.FlagsSet.{set}
use Rattle.vt_laws_sealed.proofs.outsiders.Raising.{all-map_same}
use Rattle.vt_laws_containers.proofs.footholds.PermitFootholds.{ReplacingGivesNoFoothold, is_of_replacing}
use Rattle.vt_laws_containers.proofs.footholds.AsBefore.{OthersAsBefore}
use Rattle.vt_laws_containers.proofs.footholds.Mirror.{ShareNone}
use Rattle.vt_laws_containers.proofs.footholds.TasksAsBefore.{StandsBeside, tasks_beside}
use Rattle.vt_laws_containers.proofs.footholds.TasksPermits.{Before, kept, permit_out}

-- A change of mounts keeps numbers, filesystems, namespaces and types, and leaves the mounts of other namespaces.
pub record ReplacesOwn (world : World ℕ) (names : List TaskName) (change : Mount ℕ → Mount ℕ) : Type 0 where
  pub number : (mount : Mount ℕ) → (change mount).number ≡ mount.number
  pub filesystem : (mount : Mount ℕ) → (change mount).filesystem ≡ mount.filesystem
  pub namespace : (mount : Mount ℕ) → (change mount).namespace ≡ mount.namespace
  pub kind : (mount : Mount ℕ) → (change mount).propagation ≡ mount.propagation
  pub fixed : (mount : Mount ℕ) → Among mount world.mounts → (n : ℕ) → mount.namespace ≡ Some n
      → is_own_namespace nat_eq world names n ≡ false → change mount ≡ mount

map_fixed : (f : Mount ℕ → Mount ℕ) (list : List (Mount ℕ)) → ((m : Mount ℕ) → Among m list → f m ≡ m)
    → map f list ≡ list
map_fixed f [] same = refl
map_fixed f (m ∷ rest) same = cc (same m (inl refl), map_fixed f rest (λ x n. same x (inr n)))

module _ {world : World ℕ} {names : List TaskName} (sealing : IsSealed world names) (change : Mount ℕ → Mount ℕ)
    (replaces : ReplacesOwn world names change) (tasks : List (Task ℕ)) (beside : StandsBeside world names names
    sealing.is tasks world.filesystems) where
  apart : IsApart world names
  apart = apart_if_sealed sealing

  abbrev left : World ℕ
  left = record world { mounts = map change world.mounts; tasks = tasks }

  abbrev ours : ℕ → Bool
  ours = is_own_namespace nat_eq world names

  -- what is found at a number
  found_in : {B : Type 0} (value : Mount ℕ → B) → ((mount : Mount ℕ) → value (change mount) ≡ value mount)
      → (number : ℕ) (list : List (Mount ℕ))
      → value (mount_in nat_eq (map change list) number) ≡ value (mount_in nat_eq list number)
  found_in value same number [] = refl
  found_in {B} value same number (mount ∷ rest) = grind (arith, common_steps, found_in value same number rest)

  shown_same : (l : Location ℕ) → (mount_at nat_eq left l).filesystem ≡ (mount_at nat_eq world l).filesystem
  shown_same l = found_in (λ (m : Mount ℕ). m.filesystem) replaces.filesystem l.mount world.mounts

  space_same : (l : Location ℕ) → (mount_at nat_eq left l).namespace ≡ (mount_at nat_eq world l).namespace
  space_same l = found_in (λ (m : Mount ℕ). m.namespace) replaces.namespace l.mount world.mounts

  abbrev others_by : (ℕ → Bool) → List (Mount ℕ) → List (Mount ℕ)
  others_by own list = filter (λ (mount : Mount ℕ). holds_of (λ n. not (own n)) mount.namespace) list

  abbrev owned_by : (ℕ → Bool) → List (Mount ℕ) → List (Mount ℕ)
  owned_by own list = filter (λ (mount : Mount ℕ). holds_of own mount.namespace) list

  others_fixed : others_by ours (map change world.mounts) ≡ other_mounts nat_eq world names
  others_fixed = cc (
    filter-map (λ (mount : Mount ℕ). holds_of (λ n. not (ours n)) mount.namespace) change world.mounts (λ mount. ap
        (holds_of (λ n. not (ours n))) (replaces.namespace mount)),
    map_fixed change (other_mounts nat_eq world names) (λ mount m. let from = among-from_filter (λ (x : Mount ℕ).
        holds_of (λ n. not (ours n)) x.namespace) world.mounts mount m in by mount from.0 mount.namespace refl from.1),
  )
    where
      by : (mount : Mount ℕ) → Among mount world.mounts → (o : Option ℕ) → mount.namespace ≡ o
          → holds_of (λ n. not (ours n)) o ≡ true → change mount ≡ mount
      by mount m None e h = cc
      by mount m (Some n) e h = replaces.fixed mount m n e (not-true (ours n) h)

  owns_changed : owned_by ours (map change world.mounts) ≡ map change (own_mounts nat_eq world names)
  owns_changed = filter-map (λ (mount : Mount ℕ). holds_of ours mount.namespace) change world.mounts
      (λ mount. ap (holds_of ours) (replaces.namespace mount))

  -- events go by types alone
  abbrev share_by : Propagation ℕ → Propagation ℕ → Bool
  share_by a b =
      share_events nat_eq world (record (no_mount 0) { propagation = a }) (record (no_mount 0) { propagation = b })

  no_events : ShareNone (share_events nat_eq world) (map change (own_mounts nat_eq world names))
      (other_mounts nat_eq world names) ≡ true
  no_events = cc (
    all-map_same (λ own. list_all (λ other. not (share_events nat_eq world own other)) (other_mounts nat_eq
        world names)) (λ own. list_all (λ other. not (share_events nat_eq world own other)) (other_mounts nat_eq
        world names)) change (own_mounts nat_eq world names) (λ own. ap (λ kind. list_all (λ (other : Mount ℕ). not
        (share_by kind other.propagation)) (other_mounts nat_eq world names)) (replaces.kind own)),
    apart.events,
  )

  abbrev mounted : List ℕ
  mounted = map (λ (x : Mount ℕ). x.filesystem) (own_mounts nat_eq world names)

  abbrev located_at : List ℕ
  located_at = map (λ (l : Location ℕ). (mount_at nat_eq world l).filesystem) (locations (members world names))

  mounted_same : map (λ (x : Mount ℕ). x.filesystem) (own_mounts nat_eq left names) ≡ mounted
  mounted_same = (λ i. map (λ (x : Mount ℕ). x.filesystem) (owned_by (λ n. beside.own n i) (map change world.mounts)))
      ∙ ap (map (λ (x : Mount ℕ). x.filesystem)) owns_changed ∙ twice (own_mounts nat_eq world names)
    where
      twice : (list : List (Mount ℕ))
          → map (λ (x : Mount ℕ). x.filesystem) (map change list) ≡ map (λ (x : Mount ℕ). x.filesystem) list
      twice [] = refl
      twice (m ∷ rest) = cc (replaces.filesystem m, twice rest)

  direct_was : (number : ℕ) → Among number (used_directly nat_eq left names)
      → Among number (used_directly nat_eq world names)
  direct_was number m = ⊎_elim (λ shown. among-append_left _ _ _ (subst (Among number) mounted_same shown))
      (λ there. let at = among-from_map (λ (l : Location ℕ). (mount_at nat_eq left l).filesystem) _ _ there in
      subst (λ k. Among k (used_directly nat_eq world names)) (sym (at.2 ∙ shown_same at.0))
      (⊎_elim (λ old. among-append_right _ _ (mount_at nat_eq world at.0).filesystem
      (among-map (λ (l : Location ℕ). (mount_at nat_eq world l).filesystem) _ at.0 old))
      (λ theirs. theirs_directly world names sealing.is at.0 theirs) (beside.located at.0 at.1))) (among-append _ _ _ m)

  pub replaced_as_before : OthersAsBefore world (record world { mounts = map change world.mounts; tasks = tasks }) names
      names
  replaced_as_before = record {
    others = beside.others;
    mounts = (λ i. others_by (λ n. beside.own n i) (map change world.mounts)) ∙ others_fixed;
    shown = λ l m. shown_same l;
    tasks = (λ i. list_all (λ (t : Task ℕ). not (beside.own t.namespace i)) (beside.others i)) ∙ apart.tasks;
    events = (λ i. ShareNone (share_events nat_eq world) (owned_by (λ n. beside.own n i) (map change world.mounts))
        (others_by (λ n. beside.own n i) (map change world.mounts)))
        ∙ (λ i. ShareNone (share_events nat_eq world) (owns_changed i) (others_fixed i)) ∙ no_events;
    places =
        (λ i. list_all (λ (l : Location ℕ). not (holds_of (λ n. beside.own n i) (mount_at nat_eq left l).namespace))
        (locations (beside.others i)))
        ∙ (λ i. list_all (λ (l : Location ℕ). not (holds_of ours (space_same l i))) (locations (outsiders world names)))
        ∙ apart.locations;
    filesystems = beside.files;
    direct = λ number m. inl (direct_was number m);
  }

-- The permits
module _ {world : World ℕ} {names : List TaskName} {name : TaskName} {call : Call} {fresh : Fresh ℕ}
    {task : Task ℕ} (it : IsServedCall world names name call fresh task) where
  its_member : IsMember world names task
  its_member = caller_in it.it it.called

  abbrev is_ours : ℕ → Bool
  is_ours = is_own_namespace nat_eq world names

  caller_ours : is_ours task.namespace ≡ true
  caller_ours = grind (arith, common_steps, its_member.among, any_from_among, eq-eqb)

  same_mount : (number : ℕ) (mount : Mount ℕ) → Among mount world.mounts → nat_eq number mount.number ≡ true
      → mount_numbered nat_eq world number ≡ mount
  same_mount number mount m e = cc (eqb-true _ _ e, found_itself _ it.is.mounts.one_number mount m)

  -- a mount in another namespace is not one of the caller's namespace
  clash : (number : ℕ) → (mount_numbered nat_eq world number).namespace ≡ Some task.namespace → (mount : Mount ℕ)
      → Among mount world.mounts → (n : ℕ) → mount.namespace ≡ Some n → is_ours n ≡ false
      → nat_eq number mount.number ≡ true → ⊥
  clash number placed mount m n e other same = true≢false (sym (ap is_ours (same_Some n task.namespace
      (sym e ∙ ap (λ (x : Mount ℕ). x.namespace) (sym (same_mount number mount m same)) ∙ placed))
      ∙ caller_ours) ∙ other)

  -- mount(2) with MS_REMOUNT and MS_BIND
  flags_before : (number : ℕ) (flags : MountFlags)
      → judge_in nat_eq fresh world task call ≡ Ok (ToSetFlags number flags)
      → Before it (ToSetFlags number flags)
  flags_before number flags judged =
      let for = permits_are_for_their_calls fresh world task call (ToSetFlags number flags) judged in
      let placed = (all_permits_fit world fresh task call (ToSetFlags number flags) it.is it.serves
      (cc (name_found world name task it.called, it.called)) (ap mounts_overlay for.1) judged).names in
      kept it (ToSetFlags number flags) judged refl (apply nat_eq fresh world task (ToSetFlags number flags)).world
      (subst (λ w. OthersAsBefore world w names names) (sym (ap (with_mounts world)
      (map_alike (replaced_if_same nat_eq (record old { flags = flags })) _ _
      same_set))) (replaced_as_before (sealing_of it.it) _ (record {
        number = λ mount. by_number mount _;
        filesystem = λ mount. by_filesystem mount _;
        namespace = λ mount. by_namespace mount _;
        kind = λ mount. by_kind mount _;
        fixed = λ mount m n e other. by_fixed mount _ refl (clash number placed mount m n e other);
      }) _ (tasks_beside world names it.is _ (λ f m. inl (f, m, refl, refl)))))
    where
      old : Mount ℕ
      old = mount_numbered nat_eq world number

      by_number : (mount : Mount ℕ) (b : Bool) → (cond b (record mount { flags = flags }) mount).number ≡ mount.number
      by_number mount true = refl
      by_number mount false = refl

      by_filesystem : (mount : Mount ℕ) (b : Bool)
          → (cond b (record mount { flags = flags }) mount).filesystem ≡ mount.filesystem
      by_filesystem mount true = refl
      by_filesystem mount false = refl

      by_namespace : (mount : Mount ℕ) (b : Bool)
          → (cond b (record mount { flags = flags }) mount).namespace ≡ mount.namespace
      by_namespace mount true = refl
      by_namespace mount false = refl

      by_kind : (mount : Mount ℕ) (b : Bool)
          → (cond b (record mount { flags = flags }) mount).propagation ≡ mount.propagation
      by_kind mount true = refl
      by_kind mount false = refl

      by_fixed : (mount : Mount ℕ) (b : Bool) → nat_eq number mount.number ≡ b → (nat_eq number mount.number ≡ true → ⊥)
          → cond b (record mount { flags = flags }) mount ≡ mount
      by_fixed mount true e no_one = absurd (no_one e)
      by_fixed mount false e no_one = refl

      same_set : (mount : Mount ℕ) → Among mount world.mounts
          → replaced_if_same nat_eq (record old { flags = flags }) mount ≡ set world number flags mount
      same_set mount m = grind (arith, common_steps, number-mount_in, same_mount)

  -- pivot_root(2)
  module _ (new : ℕ) (put : Location ℕ) (judged : judge_in nat_eq fresh world task call ≡ Ok (ToPivot new put)) where
    for_pivot : (new_path : List ℕ) × (old_path : List ℕ) × (call ≡ PivotRoot new_path old_path)
    for_pivot = permits_are_for_their_calls fresh world task call (ToPivot new put) judged

    fits : MayPivot world task new put
    fits = (all_permits_fit world fresh task call (ToPivot new put) it.is it.serves
        (cc (name_found world name task it.called, it.called))
        (ap mounts_overlay for_pivot.2) judged).names

    abbrev old_root : Mount ℕ
    old_root = mount_at nat_eq world task.root

    abbrev new_root : Mount ℕ
    new_root = mount_numbered nat_eq world new

    abbrev change : Mount ℕ → Mount ℕ
    change = pivoted_mount nat_eq old_root new_root put

    abbrev turned : Task ℕ → Task ℕ
    turned = pivoted_task nat_eq task.namespace old_root new_root

    pivot_replaces : ReplacesOwn world names change
    pivot_replaces = record {
      number = λ mount. by_number mount _ (nat_eq mount.number old_root.number);
      filesystem = λ mount. by_filesystem mount _ (nat_eq mount.number old_root.number);
      namespace = λ mount. by_namespace mount _ (nat_eq mount.number old_root.number);
      kind = λ mount. by_kind mount _ (nat_eq mount.number old_root.number);
      fixed = λ mount m n e other. by_fixed mount _ refl (nat_eq mount.number old_root.number) refl
          (λ same. clash new fits.own mount m n e other (turn new mount same))
          (λ same. clash _ fits.own_root mount m n e other (turn _ mount same));
    }
      where
        abbrev_of : Mount ℕ → Bool → Bool → Mount ℕ
        abbrev_of mount p q = cond p (record mount { mount_point = old_root.mount_point })
            (cond q (record mount { mount_point = Some put }) mount)

        turn : (number : ℕ) (mount : Mount ℕ) → nat_eq mount.number (mount_numbered nat_eq world number).number ≡ true
            → nat_eq number mount.number ≡ true
        turn number mount e = grind (arith, common_steps, number-mount_in)

        by_number : (mount : Mount ℕ) (p q : Bool) → (abbrev_of mount p q).number ≡ mount.number
        by_number mount true q = refl
        by_number mount false true = refl
        by_number mount false false = refl

        by_filesystem : (mount : Mount ℕ) (p q : Bool) → (abbrev_of mount p q).filesystem ≡ mount.filesystem
        by_filesystem mount true q = refl
        by_filesystem mount false true = refl
        by_filesystem mount false false = refl

        by_namespace : (mount : Mount ℕ) (p q : Bool) → (abbrev_of mount p q).namespace ≡ mount.namespace
        by_namespace mount true q = refl
        by_namespace mount false true = refl
        by_namespace mount false false = refl

        by_kind : (mount : Mount ℕ) (p q : Bool) → (abbrev_of mount p q).propagation ≡ mount.propagation
        by_kind mount true q = refl
        by_kind mount false true = refl
        by_kind mount false false = refl

        by_fixed : (mount : Mount ℕ) (p : Bool) → nat_eq mount.number new_root.number ≡ p → (q : Bool)
            → nat_eq mount.number old_root.number ≡ q → (nat_eq mount.number new_root.number ≡ true → ⊥)
            → (nat_eq mount.number old_root.number ≡ true → ⊥) → abbrev_of mount p q ≡ mount
        by_fixed mount true e q f no_new no_old = absurd (no_new e)
        by_fixed mount false e true f no_new no_old = absurd (no_old f)
        by_fixed mount false e false f no_new no_old = refl

    turned_name : (t : Task ℕ) → (turned t).name ≡ t.name
    turned_name t = grind (arith, common_steps)

    turned_space : (t : Task ℕ) → (turned t).namespace ≡ t.namespace
    turned_space t = grind (arith, common_steps)

    -- others stay
    turned_other : (t : Task ℕ) → Among t (outsiders world names) → turned t ≡ t
    turned_other t m = grind (arith, common_steps, caller_ours, namespace_outside, apart_if_sealed, true≢false)

    new_theirs : IsTheirs world names it.is.mounts new
    new_theirs = subst (IsTheirs world names it.is.mounts) (number-mount_in world.mounts new)
        (own_theirs world names it.is new_root (⊎_elim (λ m. m) (λ none. none_is_some task.namespace
        (cc (fits.own))) (found_or_none world.mounts new))
        (cc (fits.own, caller_ours)))

    -- a location of a member is where it was, or at the new root
    turned_located : (t : Task ℕ) (l : Location ℕ) → Among l (locations_of (turned t))
        → Among l (locations_of t) ⊎ IsTheirs world names it.is.mounts l.mount
    turned_located t l = by (nat_eq task.namespace t.namespace)
      where
        at : (old : Location ℕ) (b : Bool) → l ≡ cond b (root_of new_root) old
            → (l ≡ old) ⊎ IsTheirs world names it.is.mounts l.mount
        at old true e = inr (subst (λ (k : Location ℕ). IsTheirs world names it.is.mounts k.mount) (sym e)
            (subst (IsTheirs world names it.is.mounts) (sym (number-mount_in world.mounts new)) new_theirs))
        at old false e = inl e

        by : (b : Bool) → Among l (locations_of (cond b (record t {
          root = pivoted_location nat_eq old_root new_root t.root;
          directory = pivoted_location nat_eq old_root new_root t.directory;
        }) t)) → Among l (locations_of t) ⊎ IsTheirs world names it.is.mounts l.mount
        by true m = ⊎_elim (λ root. ⊎_elim (λ same. inl (inl same)) inr (at _ _ root))
            (λ rest. ⊎_elim (λ directory. ⊎_elim (λ same. inl (inr (inl same))) inr (at _ _ directory))
            (λ open_file. inl (inr (inr open_file))) rest) m
        by false m = inl m

    members_turned : filter (is_member_task names) (map turned world.tasks) ≡ map turned (members world names)
    members_turned = filter-map _ _ _ (λ t. ap (λ n. is_among same_name n names) (turned_name t))

    turned_beside : StandsBeside world names names it.is (map turned world.tasks) world.filesystems
    turned_beside = record {
      own = λ n. ap (list_any (λ (t : Task ℕ). nat_eq n t.namespace)) members_turned
          ∙ any_mapped (λ (t : Task ℕ). nat_eq n t.namespace) (λ (t : Task ℕ). nat_eq n t.namespace) _
          _ (λ t m. ap (nat_eq n) (turned_space t));
      others = filter-map (λ (t : Task ℕ). not (is_member_task names t)) _ _
          (λ t. ap (λ n. not (is_among same_name n names)) (turned_name t)) ∙ tasks_fixed _ turned_other;
      located = λ l m.
          let from = among-from_flat_map locations_of (map turned (members world names)) l
          (subst (λ list. Among l (locations list)) members_turned m) in
          let t = among-from_map turned (members world names) from.0 from.1 in
          ⊎_elim (λ old. inl (among-flat_map locations_of (members world names) t.0 l t.1 old)) inr
          (turned_located t.0 l (subst (λ (x : Task ℕ). Among l (locations_of x)) t.2 from.2));
      files = λ f m. inl (f, m, refl, refl);
    }
      where
        tasks_fixed : (list : List (Task ℕ)) → ((t : Task ℕ) → Among t list → turned t ≡ t) → map turned list ≡ list
        tasks_fixed [] same = refl
        tasks_fixed (t ∷ rest) same = cc (same t (inl refl), tasks_fixed rest (λ x m. same x (inr m)))

    pivot_before : Before it (ToPivot new put)
    pivot_before = kept it (ToPivot new put) judged refl
        (apply nat_eq fresh world task (ToPivot new put)).world (replaced_as_before (sealing_of it.it) change
        pivot_replaces (map turned world.tasks) turned_beside)

  of_replacing : (permit : Permit ℕ) → judge_in nat_eq fresh world task call ≡ Ok permit
      → is_of_replacing permit ≡ true → Before it permit
  of_replacing (ToSetFlags number flags) judged e = flags_before number flags judged
  of_replacing (ToPivot new put) judged e = pivot_before new put judged
  of_replacing permit judged e = cc

pub replacing_gives_no_foothold : ReplacingGivesNoFoothold
replacing_gives_no_foothold world names name call it few fresh serves task called permit judged is_one =
    permit_out (record { it = it; few = few; serves = serves; called = called }) permit judged
    (λ ends. of_replacing (record { it = it; few = few; serves = serves; called = called }) permit judged is_one)
