-- Others beside a sealed set, as a set of their own in the world without its tasks: they have their namespaces and
-- mounts for themselves, too.
use Rattle.std.proofs.Common.{◌≡◌, refl, sym, ap, subst, ◌∙◌, ◌⊎◌, inl, inr, ⊎_elim, ℕ, nat_eq, Bool, true, false, true≢false, List, [], ◌∷◌, Option, Some, None, filter, map, not, ◌||◌, eq-eqb, eqb-true, arith}
use Rattle.vt_spec.proofs.Common.{Among, Location, Mount, MountInvariants, Namespace, Stands, Task, TaskName, World, all_from_among, among-filter, among-flat_map, among-from_filter, among-from_flat_map, among-from_map, among-map, among_from_all, among_from_list_all, any_among, any_from_among, at_root, common_steps, false_from_ne_true, filter_alike, filter_all, group_of, has_tasks, holds_of, is_at, is_listed, is_member_task, is_own_mount, is_own_namespace, list_all, list_all_from_among, list_any, locations, locations_of, members, mount_at, not-true, on_parent, other_mounts, outsiders, own_mounts, roots_and_directories, same_name_itself, share_events}
use Rattle.vt_laws_containers.proofs.Common.{IsApart, StandsApart, found_itself, namespace_outside, nothing_passes, standing_apart_of}

-- Two mounts share events, whichever is first.
or_turned : (a b : Bool) → (a || b) ≡ (b || a)
or_turned true true = refl
or_turned true false = refl
or_turned false true = refl
or_turned false false = refl

-- no mount of one list shares events with one of another list
abbrev pub ShareNone : (Mount ℕ → Mount ℕ → Bool) → List (Mount ℕ) → List (Mount ℕ) → Bool
ShareNone share xs ys = list_all (λ x. list_all (λ y. not (share x y)) ys) xs

pub none_turned : (world : World ℕ) (xs ys : List (Mount ℕ)) → ShareNone (share_events nat_eq world) xs ys ≡ true
    → ShareNone (share_events nat_eq world) ys xs ≡ true
none_turned world xs ys none = grind (arith, common_steps, list_all_from_among, or_turned, among_from_list_all)

module _ {world : World ℕ} {names : List TaskName} (apart : IsApart world names) where
  abbrev pub out : List (Task ℕ)
  out = outsiders world names

  abbrev pub their_names : List TaskName
  their_names = map (λ (t : Task ℕ). t.name) out

  abbrev pub mirror : World ℕ
  mirror = record world { tasks = out }

  abbrev pub is_ours : ℕ → Bool
  is_ours = is_own_namespace nat_eq world names

  abbrev pub is_out : ℕ → Bool
  is_out n = list_any (λ (t : Task ℕ). nat_eq n t.namespace) out

  -- all tasks there are of that set
  all_named : (t : Task ℕ) → Among t out → is_member_task their_names t ≡ true
  all_named t m = any_from_among _ _ _ (among-map (λ (x : Task ℕ). x.name) out t m) (same_name_itself t.name)

  pub all_there : filter (is_member_task their_names) out ≡ out
  all_there = filter_all (is_member_task their_names) out all_named

  pub none_there : filter (λ (t : Task ℕ). not (is_member_task their_names t)) out ≡ []
  none_there = nothing_passes (λ (t : Task ℕ). not (is_member_task their_names t)) out (λ t m. ap not (all_named t m))

  pub own_out : (n : ℕ) → is_own_namespace nat_eq mirror their_names n ≡ is_out n
  own_out n = ap (list_any (λ (t : Task ℕ). nat_eq n t.namespace)) all_there

  -- a namespace is that of a member, or of another task
  pub side : (n : ℕ) → is_listed nat_eq world n ≡ true → (is_ours n ≡ true) ⊎ (is_out n ≡ true)
  side n listed =
      let at = any_among (nat_eq n) (map (λ (s : Namespace ℕ). s.number) world.namespaces) listed in
      let space = among-from_map (λ (s : Namespace ℕ). s.number) world.namespaces at.0 at.1 in
      let task = any_among (λ (t : Task ℕ). nat_eq space.0.number t.namespace) world.tasks
      (among_from_list_all (has_tasks nat_eq world) world.namespaces apart.is.namespaces.namespaces_live space.0
      space.1) in
      grind (arith, common_steps, eq-eqb, eqb-true, any_from_among, among-filter)

  pub out_is_not_ours : (n : ℕ) → is_out n ≡ true → is_ours n ≡ false
  out_is_not_ours n h =
      let at = any_among (λ (t : Task ℕ). nat_eq n t.namespace) out h in
      cc (eqb-true n at.0.namespace at.2, namespace_outside world names apart at.0 at.1)

  pub ours_is_not_out : (n : ℕ) → is_ours n ≡ true → is_out n ≡ false
  ours_is_not_out n h = false_from_ne_true (is_out n) (λ e. cc (out_is_not_ours n e))

  pub out_if_not_ours : (n : ℕ) → is_listed nat_eq world n ≡ true → is_out n ≡ not (is_ours n)
  out_if_not_ours n listed = ⊎_elim (λ ours. cc (ours_is_not_out n ours))
      (λ theirs. cc (out_is_not_ours n theirs)) (side n listed)

  pub ours_if_not_out : (n : ℕ) → is_listed nat_eq world n ≡ true → not (is_out n) ≡ is_ours n
  ours_if_not_out n listed = grind (arith, common_steps, out_if_not_ours)

  pub placed_listed : (mount : Mount ℕ) → Among mount world.mounts → (n : ℕ) → mount.namespace ≡ Some n
      → is_listed nat_eq world n ≡ true
  placed_listed mount m n e = grind (arith, common_steps, among_from_list_all)

  own_is_other : own_mounts nat_eq mirror their_names ≡ other_mounts nat_eq world names
  own_is_other = filter_alike _ (λ (x : Mount ℕ). holds_of (λ n. not (is_ours n)) x.namespace) _
      (λ mount m. by mount m _ refl)
    where
      by : (mount : Mount ℕ) → Among mount world.mounts → (o : Option ℕ) → mount.namespace ≡ o
          → holds_of (is_own_namespace nat_eq mirror their_names) o ≡ holds_of (λ n. not (is_ours n)) o
      by mount m None e = refl
      by mount m (Some n) e = own_out n ∙ out_if_not_ours n (placed_listed mount m n e)

  other_is_own : other_mounts nat_eq mirror their_names ≡ own_mounts nat_eq world names
  other_is_own =
      filter_alike (λ (x : Mount ℕ). holds_of (λ n. not (is_own_namespace nat_eq mirror their_names n)) x.namespace)
      (is_own_mount nat_eq world names) world.mounts (λ mount m. by mount m mount.namespace refl)
    where
      by : (mount : Mount ℕ) → Among mount world.mounts → (o : Option ℕ) → mount.namespace ≡ o
          → holds_of (λ n. not (is_own_namespace nat_eq mirror their_names n)) o ≡ holds_of is_ours o
      by mount m None e = refl
      by mount m (Some n) e = ap not (own_out n) ∙ ours_if_not_out n (placed_listed mount m n e)

  -- Invariants of mounts do not look at tasks.
  stands_too : (number : ℕ) → Stands nat_eq world number → Stands nat_eq mirror number
  stands_too number (at_root it e) = at_root it e
  stands_too number (on_parent it point e same up) = on_parent it point e same (stands_too point.mount up)

  mounts_too : MountInvariants nat_eq mirror
  mounts_too = grind (arith, common_steps, all_from_among, stands_too, among_from_all)

  -- none of them is on a mount of the sealed set
  not_on_ours : (n : ℕ) → is_own_namespace nat_eq mirror their_names n ≡ false → (mount : Mount ℕ)
      → Among mount world.mounts → mount.namespace ≡ Some n
      → is_at nat_eq (roots_and_directories (members mirror their_names)) mount ≡ false
  not_on_ours n other mount m e = false_from_ne_true _ (λ h.
      let at = any_among (λ (l : Location ℕ). nat_eq l.mount mount.number) _ h in
      let of = among-from_flat_map (λ (t : Task ℕ). t.root ∷ t.directory ∷ []) out at.0
      (subst (λ tasks. Among at.0 (roots_and_directories tasks)) all_there at.1) in
      let used : Among at.0 (locations out) = among-flat_map locations_of out of.0 at.0 of.1
      (⊎_elim inl (λ rest. inr (⊎_elim inl (λ none. absurd none) rest)) of.2) in
      let ours : is_ours n ≡ true = cc (ours_if_not_out n (placed_listed mount m n e), own_out n, other) in
      let it : mount_at nat_eq world at.0 ≡ mount =
      cc (eqb-true _ _ at.2, found_itself _ apart.is.mounts.one_number mount m) in
      true≢false (sym (ap (λ (x : Mount ℕ). holds_of is_ours x.namespace) it ∙ ap (holds_of is_ours) e ∙ ours)
      ∙ not-true (is_own_mount nat_eq world names (mount_at nat_eq world at.0))
      (among_from_list_all (λ location. not (is_own_mount nat_eq world names (mount_at nat_eq world location)))
      (locations out) apart.locations at.0 used)))

  pub mirror_stands : (New : ℕ → Type 0)
      → ((mount : Mount ℕ) (group : ℕ) → Among mount world.mounts → group_of mount.propagation ≡ Some group → New group
      → ⊥) → StandsApart mirror their_names New
  mirror_stands New no_group = record {
    mounts = mounts_too;
    tasks = ap (list_all (λ (t : Task ℕ). not (is_own_namespace nat_eq mirror their_names t.namespace))) none_there;
    events = (λ i. ShareNone (share_events nat_eq world) (own_is_other i) (other_is_own i))
        ∙ none_turned world (own_mounts nat_eq world names) (other_mounts nat_eq world names) apart.events;
    locations = cc none_there;
    not_stood = not_on_ours;
    own_listed = λ number own.
        let at = any_among (λ (t : Task ℕ). nat_eq number t.namespace) out (sym (own_out number) ∙ own) in
        ap (is_listed nat_eq world) (eqb-true number at.0.namespace at.2)
        ∙ among_from_list_all (λ (t : Task ℕ). is_listed nat_eq world t.namespace) world.tasks
        apart.is.namespaces.tasks_listed at.0
        (among-from_filter (λ (t : Task ℕ). not (is_member_task names t)) world.tasks at.0 at.1).0;
    new_group = no_group;
    new_master = (standing_apart_of world names apart New no_group).new_master;
  }

  pub mirror_owns : own_mounts nat_eq mirror their_names ≡ other_mounts nat_eq world names
  mirror_owns = own_is_other
