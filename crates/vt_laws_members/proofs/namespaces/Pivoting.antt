-- Each pivot_root(2) ends in the part as in the world.
use Rattle.std.proofs.Common.{arith, ◌≡◌, refl, sym, ap, subst, ◌∙◌, ◌⊎◌, inl, inr, ⊎_elim, ℕ, nat_eq, Bool, true, false, cond, true≢false, List, [], ◌∷◌, Some, Ok, filter, map, not, eq-eqb, eqb-true, IfOk, append-nil}
use Rattle.vt_spec.proofs.Common.{Among, Descriptor, Done, Fresh, Location, Mount, MountInvariants, Namespace, Permit, PivotRoot, Private, Task, TaskName, ToPivot, World, among-flat_map, among-from_filter, among-from_flat_map, among-from_map, any_from_among, common_steps, false_from_ne_true, filter_all, granted, holds_of, is_among, is_member_task, judge_in, locations, locations_of, members, mount_at, mount_numbered, number-mount_in, numbers_raised, outsiders, part_of, pivoted, pivoted_location, pivoted_mount, pivoted_task, policy, root_of, roots_and_directories, same_name, seen_by_descriptor, settled, task_called}
use Rattle.vt_laws_members.proofs.judging.Common.{IsMember, IsTheirs, caller_in, directory_theirs, own_theirs, root_theirs, same_mount, sealing_of}
use Rattle.vt_laws_members.proofs.Common.{CanPivot, any-map, filter-map, is_new, is_own, is_root, moved_namespace, moved_other, namespace_outside, new_among, pivot_keeps_mounts, same_members}
use Rattle.vt_laws_members.specs.Changes.Changes.{EndsAlike, IsCallOfTheirs}
use Rattle.vt_laws_members.proofs.changes.Common.{KeepsShape, apart, by_known, ended_alike, part_mounts, ran, run_by, same_caller, same_judgement}
use Rattle.vt_laws_members.specs.Namespaces.NamespaceChanges.{PivotsEndAlike}
use Rattle.vt_laws_members.proofs.namespaces.MayPivot.{PivotsThere, pivots_there}
use Rattle.vt_laws_members.proofs.namespaces.Remade.{ChangesTheirs, MovesTheirs, OnAdded, Plan, Remaking, in_spaces, remade}
use Rattle.vt_laws_members.proofs.namespaces.RemadeParts.{remade_parts}

-- A mount after a pivot
module _ (root new : Mount ℕ) (put : Location ℕ) where
  abbrev turned : Mount ℕ → Mount ℕ
  turned = pivoted_mount nat_eq root new put

  turned_shape : (m : Mount ℕ) → KeepsShape m (turned m)
  turned_shape m = grind (arith, common_steps)

  turned_kind : (m : Mount ℕ) → ((turned m).propagation ≡ m.propagation) ⊎ ((turned m).propagation ≡ Private)
  turned_kind m = grind (arith, common_steps)

  -- a task after it
  abbrev moved : ℕ → Task ℕ → Task ℕ
  moved namespace = pivoted_task nat_eq namespace root new

  abbrev moved_by : Bool → Task ℕ → Task ℕ
  moved_by b t = cond b (record t {
    root = pivoted_location nat_eq root new t.root;
    directory = pivoted_location nat_eq root new t.directory;
  }) t

  moved_name : (namespace : ℕ) (t : Task ℕ) → (moved namespace t).name ≡ t.name
  moved_name namespace t = grind (arith, common_steps)

  moved_space : (namespace : ℕ) (t : Task ℕ) → (moved namespace t).namespace ≡ t.namespace
  moved_space namespace t = grind (arith, common_steps)

  -- a root or working directory stays, or is the new root
  location_how : (l : Location ℕ)
      → (pivoted_location nat_eq root new l ≡ l) ⊎ (pivoted_location nat_eq root new l ≡ root_of new)
  location_how l = grind (arith, common_steps)

  listed_how : (t : Task ℕ) (rest : List (Location ℕ)) (l : Location ℕ)
      → Among l (pivoted_location nat_eq root new t.root ∷ pivoted_location nat_eq root new t.directory ∷ rest)
      → Among l (t.root ∷ t.directory ∷ rest) ⊎ (l ≡ root_of new)
  listed_how t rest l m = grind (arith, common_steps, location_how)

  stood_how : (namespace : ℕ) (t : Task ℕ) (l : Location ℕ)
      → Among l ((moved namespace t).root ∷ (moved namespace t).directory ∷ [])
      → Among l (t.root ∷ t.directory ∷ []) ⊎ (l ≡ root_of new)
  stood_how namespace t l = grind (arith, common_steps, listed_how)

  located_how : (namespace : ℕ) (t : Task ℕ) (l : Location ℕ) → Among l (locations_of (moved namespace t))
      → Among l (locations_of t) ⊎ (l ≡ root_of new)
  located_how namespace t l = by (nat_eq namespace t.namespace)
    where
      by : (b : Bool) → Among l (locations_of (moved_by b t)) → Among l (locations_of t) ⊎ (l ≡ root_of new)
      by true m = listed_how t (map (λ (d : Descriptor ℕ). d.location) t.descriptors) l m
      by false m = inl m

-- A granted pivot
module _ {world : World ℕ} {names : List TaskName} {name : TaskName} {new_path put_path : List ℕ}
    (it : IsCallOfTheirs world names name (PivotRoot new_path put_path)) {task : Task ℕ}
    (called : task_called world name ≡ Some task) (fresh supply : Fresh ℕ) {number : ℕ} {put : Location ℕ}
    (judged : judge_in nat_eq fresh world task (PivotRoot new_path put_path) ≡ Ok (ToPivot number put)) where
  abbrev part : World ℕ
  part = part_of nat_eq world names

  abbrev old : List (Task ℕ)
  old = members world names

  abbrev root : Mount ℕ
  root = mount_at nat_eq world task.root

  abbrev new : Mount ℕ
  new = mount_numbered nat_eq world number

  abbrev space : ℕ
  space = task.namespace

  abbrev turn : Mount ℕ → Mount ℕ
  turn = pivoted_mount nat_eq root new put

  abbrev move : Task ℕ → Task ℕ
  move = pivoted_task nat_eq space root new

  member : IsMember world names task
  member = caller_in it called

  -- both worlds allow it
  judged_there : judge_in nat_eq supply part task (PivotRoot new_path put_path) ≡ Ok (ToPivot number put)
  judged_there = cc (same_judgement it fresh supply task called)

  may : CanPivot world space root new put
  may = subst (λ j. IfOk j (PivotsThere world it.is.mounts task)) judged
      (pivots_there world it.is.mounts task _ new_path put_path)

  may_there : CanPivot part space (mount_at nat_eq part task.root) (mount_numbered nat_eq part number) put
  may_there = subst (λ j. IfOk j (PivotsThere part (part_mounts (sealing_of it)) task)) judged_there
      (pivots_there part (part_mounts (sealing_of it)) task _ new_path put_path)

  -- both mounts are theirs
  owned : (m : Mount ℕ) → m.namespace ≡ Some space → is_own world names old m ≡ true
  owned m e =
      cc (any_from_among (λ (t : Task ℕ). nat_eq space t.namespace) old task member.among (eq-eqb space space refl))

  new_in : Among new world.mounts
  new_in = new_among may it.is.mounts

  new_theirs : IsTheirs world names it.is.mounts new.number
  new_theirs = own_theirs world names it.is new new_in (owned new may.new_inside)

  root_same : mount_at nat_eq part task.root ≡ root
  root_same = same_mount world names it.is.mounts task.root.mount (root_theirs world names it.is task member.among)

  new_same : mount_numbered nat_eq part number ≡ new
  new_same = same_mount world names it.is.mounts number (rw (← number-mount_in world.mounts number) new_theirs)

  -- The change
  abbrev plan : Plan
  plan = record { turn = turn; added = []; lasts = λ n. true; come = [] }

  abbrev remaking : Remaking
  remaking = record {
    world = world;
    names = names;
    sealing = sealing_of it;
    plan = plan;
    tasks = map move world.tasks;
    tasks_too = map move part.tasks;
  }

  as_remade : (w : World ℕ) → pivoted nat_eq w space root new put ≡ remade plan w (map move w.tasks)
  as_remade w i = record w {
    mounts = sym (append-nil (map turn w.mounts)) i;
    namespaces = (sym (filter_all (λ (n : Namespace ℕ). true) w.namespaces (λ n m. refl))
        ∙ sym (append-nil (filter (λ (n : Namespace ℕ). true) w.namespaces))) i;
    tasks = map move w.tasks;
  }

  pivots_part : pivoted nat_eq part space (mount_at nat_eq part task.root) (mount_numbered nat_eq part number) put
      ≡ remade plan part (map move part.tasks)
  pivots_part = cc (root_same, new_same, as_remade part)

  -- Tasks of the set are moved
  set_is : (tasks : List (Task ℕ))
      → filter (is_member_task names) (map move tasks) ≡ map move (filter (is_member_task names) tasks)
  set_is tasks = filter-map (is_member_task names) move tasks (λ t. cc (moved_name root new put space t))

  spaces_same : (n : ℕ) → in_spaces (filter (is_member_task names) (map move world.tasks)) n ≡ in_spaces old n
  spaces_same n = ap (λ ts. in_spaces ts n) (set_is world.tasks)
      ∙ any-map (λ (t : Task ℕ). nat_eq n t.namespace) move old (λ t. ap (nat_eq n) (moved_space root new put space t))

  -- mounts of others stay
  stays : (m : Mount ℕ) → Among m world.mounts → is_own world names old m ≡ false
      → (turn m ≡ m) × (turn (seen_by_descriptor m) ≡ seen_by_descriptor m)
  stays m n other = (
    moved_other may it.is.mounts m not_new not_root,
    moved_other may it.is.mounts (seen_by_descriptor m) not_new not_root,
  )
    where
      not_new : nat_eq m.number new.number ≡ false
      not_new = false_from_ne_true (nat_eq m.number new.number) (λ e. true≢false
          (sym (owned m (cc (is_new may it.is.mounts m n e, may.new_inside))) ∙ other))

      not_root : nat_eq m.number root.number ≡ false
      not_root = false_from_ne_true (nat_eq m.number root.number) (λ e. true≢false
          (sym (owned m (cc (is_root may it.is.mounts m n e, may.root_inside))) ∙ other))

  changes : ChangesTheirs remaking
  changes = record {
    shape = turned_shape root new put;
    others = stays;
    placed = λ m n own. inr (
      moved_namespace may it.is.mounts m,
      ap (λ p. holds_of p m.namespace) (λ i k. spaces_same k i) ∙ own,
    );
    kinds = turned_kind root new put;
    copies = λ y none. absurd none;
    owned = λ y none. absurd none;
    apart = λ y m none. absurd none;
    kept = subst (MountInvariants nat_eq) (as_remade world)
        (pivot_keeps_mounts world space root new put may it.is.mounts);
    kept_there = subst (MountInvariants nat_eq) pivots_part
        (pivot_keeps_mounts part space (mount_at nat_eq part task.root) (mount_numbered nat_eq part number) put
        may_there (part_mounts (sealing_of it)));
  }

  abbrev OnTheirs : Location ℕ → Type 0
  OnTheirs l = IsTheirs world names it.is.mounts l.mount

  at_new : (l : Location ℕ) → l ≡ root_of new → OnTheirs l
  at_new l e = rw e new_theirs

  roots_moved : (l : Location ℕ)
      → Among l (roots_and_directories (filter (is_member_task names) (map move world.tasks))) → OnTheirs l
  roots_moved l m =
      let at = among-from_flat_map (λ (t : Task ℕ). t.root ∷ t.directory ∷ []) (map move old) l
      (rw (← set_is world.tasks) m) in
      let t = among-from_map move old at.0 at.1 in
      ⊎_elim (stood t.0 t.1) (at_new l) (stood_how root new put space t.0 l (rw (← t.2) at.2))
    where
      stood : (t : Task ℕ) → Among t old → Among l (t.root ∷ t.directory ∷ []) → OnTheirs l
      stood t n k = ⊎_elim (λ e. rw e (root_theirs world names it.is t n)) (λ rest. ⊎_elim
          (λ e. rw e (directory_theirs world names it.is t n)) (λ none. absurd none) rest) k

  places_moved : (l : Location ℕ) → Among l (locations (filter (is_member_task names) (map move world.tasks)))
      → Among l (locations old) ⊎ (OnTheirs l ⊎ OnAdded plan l)
  places_moved l m =
      let at = among-from_flat_map locations_of (map move old) l (rw (← set_is world.tasks) m) in
      let t = among-from_map move old at.0 at.1 in
      ⊎_elim (λ before. inl (among-flat_map locations_of old t.0 l t.1 before)) (λ top. inr (inl (at_new l top)))
      (located_how root new put space t.0 l (rw (← t.2) at.2))

  -- other tasks are in other namespaces
  others_stay : (t : Task ℕ) → Among t (outsiders world names) → move t ≡ t
  others_stay t m = by (nat_eq space t.namespace) refl
    where
      by : (b : Bool) → nat_eq space t.namespace ≡ b → cond b (moved_by root new put true t) t ≡ t
      by false e = refl
      by true e =
          absurd (true≢false (sym (any_from_among (λ (x : Task ℕ). nat_eq t.namespace x.namespace) old task member.among
          (eq-eqb t.namespace space (sym (eqb-true space t.namespace e)))) ∙ namespace_outside world names
          (apart (sealing_of it)) t m))

  others_are : filter (λ t. not (is_member_task names t)) (map move world.tasks) ≡ map move (outsiders world names)
  others_are =
      filter-map (λ t. not (is_member_task names t)) move world.tasks (λ t. cc (moved_name root new put space t))

  outside_moved : (l : Location ℕ)
      → Among l (locations (filter (λ t. not (is_member_task names t)) (map move world.tasks)))
      → Among l (locations (outsiders world names))
  outside_moved l m =
      let at = among-from_flat_map locations_of (map move (outsiders world names)) l (rw (← others_are) m) in
      let t = among-from_map move (outsiders world names) at.0 at.1 in
      among-flat_map locations_of (outsiders world names) t.0 l t.1 (subst (λ (x : Task ℕ). Among l (locations_of x))
      (t.2 ∙ others_stay t.0 t.1) at.2)

  moves : MovesTheirs remaking
  moves = record {
    same = set_is part.tasks ∙ ap (map move) (same_members world names) ∙ sym (set_is world.tasks);
    all = λ t m. let from = among-from_map move old t m in
        ap (is_member_task names) from.2 ∙ ap (λ n. is_among same_name n names) (moved_name root new put space from.0)
        ∙ (among-from_filter (is_member_task names) world.tasks from.0 from.1).1;
    entered = λ n h. inl (sym (spaces_same n) ∙ h);
    roots = λ l m. inl (roots_moved l m);
    places = places_moved;
    outside = outside_moved;
  }

  -- The two runs
  abbrev left_one : World ℕ
  left_one = numbers_raised nat_eq world name [] (settled nat_eq (remade plan world (map move world.tasks)))

  abbrev left_too : World ℕ
  left_too = numbers_raised nat_eq part name [] (settled nat_eq (remade plan part (map move part.tasks)))

  first : policy nat_eq fresh world name (PivotRoot new_path put_path) ≡ granted Done left_one
  first = ap (ran name (PivotRoot new_path put_path) world fresh) called ∙ ap (run_by it world fresh task) judged
      ∙ ap (λ w. granted Done (numbers_raised nat_eq world name [] (settled nat_eq w))) (as_remade world)

  second : policy nat_eq supply part name (PivotRoot new_path put_path) ≡ granted Done left_too
  second = ap (ran name (PivotRoot new_path put_path) part supply)
      (same_caller (sealing_of it) name it.theirs ∙ called) ∙ ap (run_by it part supply task) judged_there ∙ ap
      (λ w. granted Done (numbers_raised nat_eq part name [] (settled nat_eq w))) pivots_part

  pivot_alike : EndsAlike world names name (PivotRoot new_path put_path) fresh supply
  pivot_alike = ended_alike names name (PivotRoot new_path put_path) first second
      (record { answer = refl; part = remade_parts remaking changes moves name })

pub pivots_end_alike : PivotsEndAlike
pivots_end_alike world names name new put it fresh supply = by_known it fresh supply refl
    (λ task e. PivotsThere world it.is.mounts task) (λ task e. pivots_there world it.is.mounts task _ new put) granted_so
  where
    granted_so : (task : Task ℕ) → task_called world name ≡ Some task → (permit : Permit ℕ)
        → judge_in nat_eq fresh world task (PivotRoot new put) ≡ Ok permit → PivotsThere world it.is.mounts task permit
        → EndsAlike world names name (PivotRoot new put) fresh supply
    granted_so task e (ToPivot number at) judged its = pivot_alike it e fresh supply judged
    granted_so task e permit judged its = absurd its
