-- Where tasks of a set and filesystems change, and mounts do not, others are as they were.
use Rattle.std.proofs.Common.{◌≡◌, refl, sym, ap, subst, ◌∙◌, ◌⊎◌, inl, inr, ⊎_elim, ℕ, nat_eq, Bool, true, false, cond, true≢false, List, [], ◌∷◌, ◌++◌, Some, filter, map, not, ◌+◌, ◌||◌, arith}
use Rattle.vt_spec.proofs.Common.{Among, Call, Credentials, Filesystem, IsWorld, Location, Mount, Task, TaskName, World, among-append, among-append_left, among-append_right, among-flat_map, among-from_filter, among-from_flat_map, among-from_map, among-map, any_among, any_from_among, child_name, child_of, common_steps, contains_from_among, false_from_ne_true, found_among, holds_of, is_among, is_member_task, list_all, list_any, locations, locations_of, members, mount_at, name-replaced_if_called, not-true, outsiders, own_mounts, replaced_if_called, same_name, same_name_itself, same_task_name, same_truth, share_events, task_called, used_directly}
use Rattle.vt_laws_containers.proofs.Common.{IsApart, IsCallOfTheirs, IsMember, IsSealed, IsTheirs, StandsOnTheirs, apart_if_sealed, caller_in, filter-map, of_set, places_left, replaced_how, spaces_kept, theirs_directly}
use Rattle.vt_laws_containers.proofs.footholds.AsBefore.{GoesOn, OthersAsBefore}

-- These tasks stand in the place of the world's, and these filesystems: those of the set are in the namespaces of
-- before, at locations of before or on mounts where members get.
pub record StandsBeside (world : World ℕ) (names set : List TaskName) (is : IsWorld nat_eq world)
    (tasks : List (Task ℕ)) (filesystems : List (Filesystem ℕ)) : Type 0 where
  pub own : (n : ℕ) → list_any (λ (t : Task ℕ). nat_eq n t.namespace) (filter (is_member_task set) tasks)
      ≡ list_any (λ (t : Task ℕ). nat_eq n t.namespace) (members world names)
  pub others : filter (λ (t : Task ℕ). not (is_member_task set t)) tasks ≡ outsiders world names
  pub located : (location : Location ℕ) → Among location (locations (filter (is_member_task set) tasks))
      → Among location (locations (members world names)) ⊎ IsTheirs world names is.mounts location.mount
  pub files : (filesystem : Filesystem ℕ) → Among filesystem filesystems → GoesOn world names filesystem

module _ {world : World ℕ} {names : List TaskName} (set : List TaskName) (sealing : IsSealed world names)
    (tasks : List (Task ℕ)) (filesystems : List (Filesystem ℕ))
    (beside : StandsBeside world names set sealing.is tasks filesystems) where
  apart : IsApart world names
  apart = apart_if_sealed sealing

  abbrev left : World ℕ
  left = record world { tasks = tasks; filesystems = filesystems }

  abbrev others_by : (ℕ → Bool) → List (Mount ℕ)
  others_by own = filter (λ (mount : Mount ℕ). holds_of (λ n. not (own n)) mount.namespace) world.mounts

  abbrev owned_by : (ℕ → Bool) → List (Mount ℕ)
  owned_by own = filter (λ (mount : Mount ℕ). holds_of own mount.namespace) world.mounts

  abbrev shows : Location ℕ → ℕ
  shows location = (mount_at nat_eq world location).filesystem

  abbrev mounted : List ℕ
  mounted = map (λ (mount : Mount ℕ). mount.filesystem) (own_mounts nat_eq world names)

  mounted_same : map (λ (mount : Mount ℕ). mount.filesystem) (own_mounts nat_eq left set) ≡ mounted
  mounted_same i = map (λ (mount : Mount ℕ). mount.filesystem) (owned_by (λ n. beside.own n i))

  direct_was : (number : ℕ) → Among number (used_directly nat_eq left set)
      → Among number (used_directly nat_eq world names)
  direct_was number m = ⊎_elim (λ shown. among-append_left _ _ _ (subst (Among number) mounted_same shown))
      (λ placed. let l = among-from_map shows _ _ placed in
      subst (λ k. Among k (used_directly nat_eq world names)) (sym l.2)
      (⊎_elim (λ was. among-append_right _ _ _ (among-map shows _ l.0 was))
      (λ theirs. theirs_directly world names sealing.is l.0 theirs) (beside.located l.0 l.1))) (among-append _ _ _ m)

  pub tasks_as_before : OthersAsBefore world (record world { tasks = tasks; filesystems = filesystems }) names set
  tasks_as_before = record {
    others = beside.others;
    mounts = λ i. others_by (λ n. beside.own n i);
    shown = λ location m. refl;
    tasks = (λ i. list_all (λ (t : Task ℕ). not (beside.own t.namespace i)) (beside.others i)) ∙ apart.tasks;
    events = (λ i. list_all (λ own. list_all (λ other. not (share_events nat_eq world own other))
        (others_by (λ n. beside.own n i))) (owned_by (λ n. beside.own n i))) ∙ apart.events;
    places = (λ i. list_all (λ location.
        not (holds_of (λ n. beside.own n i) (mount_at nat_eq world location).namespace))
        (locations (beside.others i))) ∙ apart.locations;
    filesystems = beside.files;
    direct = λ number m. inl (direct_was number m);
  }

map_itself : (f : Task ℕ → Task ℕ) (list : List (Task ℕ)) → ((t : Task ℕ) → Among t list → f t ≡ t) → map f list ≡ list
map_itself f [] same = refl
map_itself f (t ∷ rest) same = cc (same t (inl refl), map_itself f rest (λ x m. same x (inr m)))

-- The tasks of the world
pub tasks_beside : (world : World ℕ) (names : List TaskName) (is : IsWorld nat_eq world)
    (filesystems : List (Filesystem ℕ))
    → ((filesystem : Filesystem ℕ) → Among filesystem filesystems → GoesOn world names filesystem)
    → StandsBeside world names names is world.tasks filesystems
tasks_beside world names is filesystems files =
    record { own = λ n. refl; others = refl; located = λ location m. inl m; files = files }

-- A task in the place of the caller leaves the others.
pub others_unmoved : (world : World ℕ) (names : List TaskName) (name : TaskName) (call : Call)
    (it : IsCallOfTheirs world names name call) (task : Task ℕ) → task_called world name ≡ Some task
    → (mine : Task ℕ) → mine.name ≡ task.name
    → filter (λ (t : Task ℕ). not (is_member_task names t)) (map (replaced_if_called mine) world.tasks)
    ≡ outsiders world names
others_unmoved world names name call it task called mine named =
    filter-map (λ (t : Task ℕ). not (is_member_task names t)) (replaced_if_called mine) world.tasks
    (λ t. ap (λ n. not (is_among same_name n names)) (name-replaced_if_called mine t))
    ∙ map_itself (replaced_if_called mine) (outsiders world names) (λ t m. unmoved t m)
  where
    member : is_member_task names task ≡ true
    member = (among-from_filter (is_member_task names) world.tasks task
        (caller_in it called).among).1

    unmoved : (t : Task ℕ) → Among t (outsiders world names) → replaced_if_called mine t ≡ t
    unmoved t m =
        let from = among-from_filter (λ (x : Task ℕ). not (is_member_task names x)) world.tasks t m in
        ⊎_elim (λ its. absurd (cc (member, its.1, not-true (is_member_task names t) from.1))) (λ same. same)
        (replaced_how it task called mine named t from.0)

-- It stands where members get.
pub caller_beside : (world : World ℕ) (names : List TaskName) (name : TaskName) (call : Call)
    (it : IsCallOfTheirs world names name call) (task : Task ℕ) → task_called world name ≡ Some task
    → (mine : Task ℕ) → StandsOnTheirs world names name call it task mine → mine.namespace ≡ task.namespace
    → (filesystems : List (Filesystem ℕ))
    → ((filesystem : Filesystem ℕ) → Among filesystem filesystems → GoesOn world names filesystem)
    → StandsBeside world names names it.is (map (replaced_if_called mine) world.tasks) filesystems
caller_beside world names name call it task called mine stands spaced filesystems files = record {
  own = λ n. ap (list_any (λ (t : Task ℕ). nat_eq n t.namespace)) (of_set it task called mine stands world.tasks)
      ∙ spaces_kept it task called mine stands.named spaced n;
  others = others_unmoved world names name call it task called mine stands.named;
  located = places_left it task called mine stands;
  files = files;
}

-- A filter of what is changed
filter_changed : (p q : Task ℕ → Bool) (f : Task ℕ → Task ℕ) (list : List (Task ℕ))
    → ((t : Task ℕ) → Among t list → p (f t) ≡ q t) → filter p (map f list) ≡ map f (filter q list)
filter_changed p q f [] same = refl
filter_changed p q f (t ∷ rest) same = grind (arith, common_steps, filter_changed p q f rest (λ x m. same x (inr m)))

filter_append : (p : Task ℕ → Bool) (xs ys : List (Task ℕ)) → filter p (xs ++ ys) ≡ filter p xs ++ filter p ys
filter_append p [] ys = refl
filter_append p (x ∷ xs) ys = grind (arith, common_steps, filter_append p xs ys)

append_none : (xs : List (Task ℕ)) → xs ++ [] ≡ xs
append_none [] = refl
append_none (x ∷ xs) = ap (λ l. x ∷ l) (append_none xs)

-- A child beside its parent, in the set with the child
module _ {world : World ℕ} {names : List TaskName} {name : TaskName} {call : Call}
    (it : IsCallOfTheirs world names name call) (task : Task ℕ) (called : task_called world name ≡ Some task)
    (credentials : Credentials) where
  abbrev parent : Task ℕ
  parent = record task { forks = task.forks + 1 }

  abbrev child : Task ℕ
  child = child_of task credentials

  abbrev set : List TaskName
  set = child_name task ∷ names

  abbrev replaced : Task ℕ → Task ℕ
  replaced = replaced_if_called parent

  there : Among task world.tasks
  there = found_among (λ (x : Task ℕ). same_name name x.name) world.tasks task called

  its_member : IsMember world names task
  its_member = caller_in it called

  -- no task has the child's name
  child_apart : (t : Task ℕ) → Among t world.tasks → same_name t.name (child_name task) ≡ false
  child_apart t m = false_from_ne_true (same_name t.name (child_name task)) (λ h.
      let less = it.is.tasks.forks_counted task t (task.forks + 1) [] (contains_from_among world.tasks task there)
      (contains_from_among world.tasks t m) (same_task_name t.name (child_name task) h) in
      absurd (omega (arith, less)))

  member_alike : (t : Task ℕ) → Among t world.tasks → is_member_task set (replaced t) ≡ is_member_task names t
  member_alike t m =
      ap (λ n. same_name n (child_name task) || is_among same_name n names) (name-replaced_if_called parent t)
      ∙ ap (λ b. b || is_among same_name t.name names) (child_apart t m)

  child_member : is_member_task set child ≡ true
  child_member = ap (λ b. b || is_among same_name (child_name task) names) (same_name_itself (child_name task))

  abbrev tasks : List (Task ℕ)
  tasks = map replaced world.tasks ++ child ∷ []

  members_are : filter (is_member_task set) tasks ≡ map replaced (members world names) ++ child ∷ []
  members_are = grind (arith, common_steps, filter_append, filter_changed, member_alike, child_member)

  replaced_how_here : (t : Task ℕ) → Among t world.tasks → ((replaced t ≡ parent) × (task ≡ t)) ⊎ (replaced t ≡ t)
  replaced_how_here = replaced_how it task called parent refl

  others_are : filter (λ (t : Task ℕ). not (is_member_task set t)) tasks ≡ outsiders world names
  others_are = filter_append (λ (t : Task ℕ). not (is_member_task set t)) _ _
      ∙ ap (λ l. l ++ filter (λ (t : Task ℕ). not (is_member_task set t)) (child ∷ []))
      (filter_changed (λ (t : Task ℕ). not (is_member_task set t)) (λ (t : Task ℕ). not (is_member_task names t)) _ _
      (λ t m. ap not (member_alike t m))) ∙ ap (λ b. map replaced (outsiders world names) ++ cond (not b)
      (child ∷ []) []) child_member ∙ append_none _ ∙ map_itself _ _ (λ t m.
      let from = among-from_filter (λ (x : Task ℕ). not (is_member_task names x)) _ t m in
      ⊎_elim (λ its. absurd (true≢false (sym (among-from_filter (is_member_task names) world.tasks task
      its_member.among).1 ∙ ap (is_member_task names) its.1 ∙ not-true (is_member_task names t) from.1))) (λ same. same)
      (replaced_how_here t from.0))

  -- each member after the call has the namespace and the locations of one before
  was : (t : Task ℕ) → Among t (map replaced (members world names) ++ child ∷ [])
      → (old : Task ℕ) × Among old (members world names) × (t.namespace ≡ old.namespace)
      × ((l : Location ℕ) → Among l (locations_of t) → Among l (locations_of old))
  was t m = ⊎_elim (λ mapped.
      let from = among-from_map replaced _ t mapped in
      ⊎_elim (λ its. (
        task,
        its_member.among,
        ap (λ (x : Task ℕ). x.namespace) (from.2 ∙ its.0),
        λ l k. subst (λ (x : Task ℕ). Among l (locations_of x)) (from.2 ∙ its.0) k,
      )) (λ same. (
        from.0,
        from.1,
        ap (λ (x : Task ℕ). x.namespace) (from.2 ∙ same),
        λ l k. subst (λ (x : Task ℕ). Among l (locations_of x)) (from.2 ∙ same) k,
      )) (replaced_how_here _ (among-from_filter _ _ _ from.1).0)) (λ last. ⊎_elim (λ e. (
        task,
        its_member.among,
        ap (λ (x : Task ℕ). x.namespace) e,
        λ l k. of_child l (subst (λ (x : Task ℕ). Among l (locations_of x)) e k),
      )) (λ none. absurd none) last) (among-append (map replaced (members world names)) (child ∷ []) t m)
    where
      of_child : (l : Location ℕ) → Among l (locations_of child) → Among l (locations_of task)
      of_child l k = ⊎_elim inl (λ rest. inr (⊎_elim inl (λ none. absurd none) rest)) k

  -- and each member before it is one after it, in its namespace
  still : (t : Task ℕ) → Among t (members world names)
      → (new : Task ℕ) × Among new (map replaced (members world names) ++ child ∷ []) × (t.namespace ≡ new.namespace)
  still t m = (
    replaced t,
    among-append_left _ _ _ (among-map _ _ t m),
    ⊎_elim (λ its. ap (λ (x : Task ℕ). x.namespace) (sym its.1) ∙ sym (ap (λ (x : Task ℕ). x.namespace) its.0))
        (λ same. sym (ap (λ (x : Task ℕ). x.namespace) same)) (replaced_how_here t (among-from_filter _ _ t m).0),
  )

  pub child_beside : StandsBeside world names set it.is tasks world.filesystems
  child_beside = record {
    own = λ n. ap (list_any (λ (t : Task ℕ). nat_eq n t.namespace)) members_are
        ∙ same_truth _ _ (λ h. let at = any_among (λ (t : Task ℕ). nat_eq n t.namespace) _ h in
        let old = was at.0 at.1 in
        any_from_among (λ (t : Task ℕ). nat_eq n t.namespace) _ old.0 old.1 (ap (nat_eq n) (sym old.2) ∙ at.2))
        (λ h. let at = any_among (λ (t : Task ℕ). nat_eq n t.namespace) _ h in
        let new = still at.0 at.1 in
        any_from_among (λ (t : Task ℕ). nat_eq n t.namespace) _ new.0 new.1 (ap (nat_eq n) (sym new.2) ∙ at.2));
    others = others_are;
    located = λ l m.
        let from = among-from_flat_map locations_of _ l m in
        let old = was _ (subst (Among from.0) members_are from.1) in
        inl (among-flat_map locations_of _ old.0 l old.1 (old.3 l from.2));
    files = λ f m. inl (f, m, refl, refl);
  }
