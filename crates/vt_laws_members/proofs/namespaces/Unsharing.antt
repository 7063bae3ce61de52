-- Each unshare(2) ends in the part as in the world.
use Rattle.std.proofs.Common.{arith, ◌≡◌, refl, sym, ap, subst, ◌∙◌, ◌⊎◌, inl, inr, ⊎_elim, ℕ, nat_eq, Bool, true, false, cond, true≢false, List, [], ◌∷◌, Some, None, Ok, filter, map, not, ◌&&◌, ◌+◌, ◌*◌, eq-eqb, eqb-true, IfOk}
use Rattle.vt_spec.proofs.Common.{Among, Done, Exit, Fresh, Location, Looks, Mount, MountInvariants, Namespace, Permit, Private, Serves, Task, TaskName, ToUnshare, Unshare, World, among-filter, among-flat_map, among-from_filter, among-from_flat_map, among-from_map, among-map, among_from_list_all, any_among, any_from_among, cases_Bool, common_steps, detached, false_from_ne_true, granted, has_tasks, index_of, is_among, is_copied, is_listed, is_member_task, is_own_mount, is_own_namespace, judge, judge_in, judging, list_all_from_among, list_any, location_on_copy, locations, locations_of, looks_of, members, mounts_of, moved_location, name-replaced_if_called, namespaces_ended, none_among, not-true, numbers_by, numbers_raised, odds, outsiders, part_of, policy, replaced_if_called, roots_and_directories, same_name, same_name_itself, same_task_name, seen_by_descriptor, settled, task_called, unshared}
use Rattle.vt_laws_members.proofs.attached.PartServes.{serves_there}
use Rattle.vt_laws_members.proofs.judging.Common.{IsMember, IsTheirs, caller_in, directory_theirs, root_theirs, sealing_of}
use Rattle.vt_laws_members.proofs.Common.{ended_namespaces_keep_mounts, filter-map, is_own, namespace_outside, number_not_new, same_members, unshare_keeps_mounts}
use Rattle.vt_laws_members.specs.Changes.Changes.{IsCallOfTheirs}
use Rattle.vt_laws_members.specs.Changes.NameChanges.{EndsAlikeByOne}
use Rattle.vt_laws_members.proofs.changes.Common.{KeepsShape, apart, by_known, ended_alike, in_space, judged_so, only_task, own_in, part_mounts, ran, ran_there, run_by, same_caller, space_in_part}
use Rattle.vt_laws_members.proofs.changes.letting_go.Leaving.{part_listed}
use Rattle.vt_laws_members.specs.Namespaces.NamespaceChanges.{UnsharesEndAlike}
use Rattle.vt_laws_members.proofs.namespaces.Remade.{ChangesTheirs, IsNewSpace, MovesTheirs, Plan, Remaking, in_spaces, remade}
use Rattle.vt_laws_members.proofs.namespaces.RemadeParts.{remade_parts}
use Rattle.vt_laws_members.proofs.namespaces.Unshared.{CanUnshare, Ends, copy_of, cut, listed_in, moved_to_copies, new_among_spaces, new_space, none_in_new, unshare_plan, unshared_so}

-- What an unshare makes of the tasks of the set
module _ {world : World ℕ} {names : List TaskName} {name : TaskName} (it : IsCallOfTheirs world names name Unshare)
    (task : Task ℕ) (called : task_called world name ≡ Some task) (fresh : Fresh ℕ)
    (serves : Serves nat_eq world fresh) where
  abbrev part : World ℕ
  part = part_of nat_eq world names

  abbrev old : List (Task ℕ)
  old = members world names

  abbrev k : ℕ
  k = task.namespace

  abbrev s : ℕ
  s = new_space fresh

  abbrev copied : List (Mount ℕ)
  copied = mounts_of nat_eq world k

  abbrev copy : Mount ℕ → Mount ℕ
  copy = copy_of fresh copied

  abbrev moved : Task ℕ
  moved = moved_to_copies fresh copied task

  abbrev replaced : Task ℕ → Task ℕ
  replaced = replaced_if_called moved

  exits : IsCallOfTheirs world names name Exit
  exits = record {
    is = it.is;
    sealed_off = it.sealed_off;
    theirs = it.theirs;
    among_them = λ member e. cc;
  }

  in_world : (t : Task ℕ) → Among t old → Among t world.tasks
  in_world t m = (among-from_filter (is_member_task names) world.tasks t m).0

  member : IsMember world names task
  member = caller_in it called

  only : (t : Task ℕ) → Among t world.tasks → (task ≡ t) ⊎ (same_name task.name t.name ≡ false)
  only t m = grind (arith, common_steps, only_task, in_world, member.among, same_task_name)

  k_own : is_own_namespace nat_eq world names k ≡ true
  k_own = any_from_among (λ (t : Task ℕ). nat_eq k t.namespace) old task member.among (eq-eqb k k refl)

  k_left : nat_eq k s ≡ false
  k_left =
      let at = listed_in world k (among_from_list_all (λ (t : Task ℕ). is_listed nat_eq world t.namespace) world.tasks
      it.is.namespaces.tasks_listed task (in_world task member.among)) in
      false_from_ne_true (nat_eq k s) (λ e. true≢false
      (sym (eq-eqb s at.0.number (sym (eqb-true k s e) ∙ at.2)) ∙ new_among_spaces world fresh serves at.0 at.1))

  -- both worlds can
  can_world : CanUnshare world fresh task
  can_world = grind (arith, common_steps, in_world, member.among, same_name_itself, k_left, only)

  can_part : CanUnshare part fresh task
  can_part = record {
    kept = part_mounts (sealing_of it);
    serves = serves_there world names fresh serves;
    listed = part_listed exits task called;
    live = list_all_from_among (has_tasks nat_eq part) part.namespaces (λ n m.
        (among-from_filter (λ (x : Namespace ℕ). in_spaces old x.number) world.namespaces n m).1);
    there = member.among;
    named = same_name_itself task.name;
    left = k_left;
    only = λ t m. only t (in_world t m);
  }

  -- Tasks of the set
  set_is : (tasks : List (Task ℕ))
      → filter (is_member_task names) (map replaced tasks) ≡ map replaced (filter (is_member_task names) tasks)
  set_is tasks = filter-map (is_member_task names) replaced tasks (λ t. cc (name-replaced_if_called moved t))

  abbrev new : List (Task ℕ)
  new = filter (is_member_task names) (map replaced world.tasks)

  its : replaced task ≡ moved
  its = cc (same_name_itself task.name)

  stays : (t : Task ℕ) → same_name task.name t.name ≡ false → replaced t ≡ t
  stays t e = cc

  replaced_how : (t : Task ℕ) → Among t world.tasks → ((task ≡ t) × (replaced t ≡ moved)) ⊎ (replaced t ≡ t)
  replaced_how t m = ⊎_elim (λ same. inl (same, cc its)) (λ apart_so. inr (stays t apart_so)) (only t m)

  set_from : (t : Task ℕ) → Among t new → (u : Task ℕ) × Among u old × (t ≡ replaced u)
  set_from t m = among-from_map replaced old t (rw (← set_is world.tasks) m)

  in_set : (u : Task ℕ) → Among u old → Among (replaced u) new
  in_set u m = rw (set_is world.tasks) (among-map replaced old u m)

  entered : (n : ℕ) → in_spaces new n ≡ true → (in_spaces old n ≡ true) ⊎ IsNewSpace world n
  entered n h =
      let t = any_among (λ (x : Task ℕ). nat_eq n x.namespace) new h in
      let u = set_from t.0 t.1 in
      ⊎_elim (λ caller. inr (in_new (eqb-true n s (cc)))) (λ same. inl
      (any_from_among (λ (x : Task ℕ). nat_eq n x.namespace) old u.0 u.1 (cc))) (replaced_how u.0 (in_world u.0 u.1))
    where
      in_new : n ≡ s → IsNewSpace world n
      in_new e = grind (arith, common_steps, in_space, none_in_new, can_world, new_among_spaces)

  abbrev OnTheirs : Location ℕ → Type 0
  OnTheirs l = IsTheirs world names it.is.mounts l.mount

  abbrev OnCopy : Location ℕ → Type 0
  OnCopy l = (y : Mount ℕ) × Among y (map copy copied) × (l.mount ≡ y.number)

  -- the caller's root and working directory move to copies
  moved_how : (before l : Location ℕ) → OnTheirs before
      → l ≡ moved_location nat_eq copied (numbers_by nat_eq (odds fresh) copied) before → OnTheirs l ⊎ OnCopy l
  moved_how before l on e = elim (cases_Bool (is_copied nat_eq copied before)) [
    | inl f ↦ let m = any_among (λ (x : Mount ℕ). nat_eq before.mount x.number) copied f in
        inr (
          copy m.0,
          among-map copy copied m.0 m.1,
          ap (λ (x : Location ℕ). x.mount) (e ∙ ap (λ b. cond b (location_on_copy number before) before) f)
              ∙ ap number (eqb-true before.mount m.0.number m.2),
        )
    | inr f ↦ inl (subst OnTheirs (sym (e ∙ ap (λ b. cond b (location_on_copy number before) before) f)) on)
  ]
    where
      number : ℕ → ℕ
      number = numbers_by nat_eq (odds fresh) copied

  roots_moved : (l : Location ℕ) → Among l (roots_and_directories new) → OnTheirs l ⊎ OnCopy l
  roots_moved l m =
      let t = among-from_flat_map (λ (t : Task ℕ). t.root ∷ t.directory ∷ []) new l m in
      let u = set_from t.0 t.1 in
      ⊎_elim (λ caller. mine (subst (λ (x : Task ℕ). Among l (x.root ∷ x.directory ∷ [])) (u.2 ∙ caller.1) t.2))
      (λ same. inl (its_own u.0 u.1 (subst (λ (x : Task ℕ). Among l (x.root ∷ x.directory ∷ [])) (u.2 ∙ same) t.2)))
      (replaced_how u.0 (in_world u.0 u.1))
    where
      mine : Among l (moved.root ∷ moved.directory ∷ []) → OnTheirs l ⊎ OnCopy l
      mine n = ⊎_elim (moved_how task.root l (root_theirs world names it.is task member.among))
          (λ rest. ⊎_elim (moved_how task.directory l (directory_theirs world names it.is task member.among))
          (λ none. absurd none) rest) n

      its_own : (u : Task ℕ) → Among u old → Among l (u.root ∷ u.directory ∷ []) → OnTheirs l
      its_own u k n = ⊎_elim (λ e. rw e (root_theirs world names it.is u k))
          (λ rest. ⊎_elim (λ e. rw e (directory_theirs world names it.is u k)) (λ none. absurd none) rest) n

  pub places_moved : (l : Location ℕ) → Among l (locations new) → Among l (locations old) ⊎ (OnTheirs l ⊎ OnCopy l)
  places_moved l m =
      let t = among-from_flat_map locations_of new l m in
      let u = set_from t.0 t.1 in
      ⊎_elim (λ caller. mine (subst (λ (x : Task ℕ). Among l (locations_of x)) (u.2 ∙ caller.1) t.2))
      (λ same. inl (among-flat_map locations_of old u.0 l u.1
      (subst (λ (x : Task ℕ). Among l (locations_of x)) (u.2 ∙ same) t.2))) (replaced_how u.0 (in_world u.0 u.1))
    where
      mine : Among l (locations_of moved) → Among l (locations old) ⊎ (OnTheirs l ⊎ OnCopy l)
      mine n = ⊎_elim (λ e. inr (moved_how task.root l (root_theirs world names it.is task member.among) e))
          (λ rest. ⊎_elim (λ e. inr (moved_how task.directory l (directory_theirs world names it.is task member.among)
          e)) (λ files. inl (among-flat_map locations_of old task l member.among (inr (inr files)))) rest) n

  others_are : filter (λ t. not (is_member_task names t)) (map replaced world.tasks)
      ≡ map replaced (outsiders world names)
  others_are =
      filter-map (λ t. not (is_member_task names t)) replaced world.tasks (λ t. cc (name-replaced_if_called moved t))

  outside_stays : (l : Location ℕ)
      → Among l (locations (filter (λ t. not (is_member_task names t)) (map replaced world.tasks)))
      → Among l (locations (outsiders world names))
  outside_stays l m =
      let t = among-from_flat_map locations_of (map replaced (outsiders world names)) l
      (subst (λ ts. Among l (locations ts)) others_are m) in
      let u = among-from_map replaced (outsiders world names) t.0 t.1 in
      let from = among-from_filter (λ x. not (is_member_task names x)) world.tasks u.0 u.1 in
      ⊎_elim (λ caller. absurd (true≢false (sym from.1 ∙ ap not (ap (is_member_task names) (sym caller.0)
      ∙ (among-from_filter (is_member_task names) world.tasks task member.among).1))))
      (λ same. among-flat_map locations_of (outsiders world names) u.0 l u.1
      (subst (λ (x : Task ℕ). Among l (locations_of x)) (u.2 ∙ same) t.2)) (replaced_how u.0 from.0)

  -- whether the old namespace ends
  module _ (ends : Bool) (here : Ends ends world task) (here_too : Ends ends part task) where
    abbrev plan : Plan
    plan = unshare_plan ends k fresh copied

    abbrev turn : Mount ℕ → Mount ℕ
    turn = cut ends k

    abbrev remaking : Remaking
    remaking = record {
      world = world;
      names = names;
      sealing = sealing_of it;
      plan = plan;
      tasks = map replaced world.tasks;
      tasks_too = map replaced part.tasks;
    }

    world_so : namespaces_ended nat_eq (unshared nat_eq world fresh task) ≡ remade plan world (map replaced world.tasks)
    world_so = unshared_so world fresh task can_world ends here

    part_so : namespaces_ended nat_eq (unshared nat_eq part fresh task) ≡ remade plan part (map replaced part.tasks)
    part_so = cc (unshared_so part fresh task can_part ends here_too, space_in_part (sealing_of it) k k_own)

    turned_shape : (m : Mount ℕ) → KeepsShape m (turn m)
    turned_shape m = by (ends && in_space k m)
      where
        by : (b : Bool) → KeepsShape m (cond b (detached m) m)
        by true = record { number = refl; filesystem = refl; stub = refl; root = refl }
        by false = record { number = refl; filesystem = refl; stub = refl; root = refl }

    turned_kind : (m : Mount ℕ) → ((turn m).propagation ≡ m.propagation) ⊎ ((turn m).propagation ≡ Private)
    turned_kind m = grind (arith, common_steps, in_space)

    not_cut : (m : Mount ℕ) → in_space k m ≡ false → turn m ≡ m
    not_cut m e = grind (arith, common_steps)

    stays_whole : (m : Mount ℕ) → Among m world.mounts → is_own world names old m ≡ false
        → (turn m ≡ m) × (turn (seen_by_descriptor m) ≡ seen_by_descriptor m)
    stays_whole m n other =
        grind (arith, common_steps, not_cut, false_from_ne_true, in_space, true≢false, own_in, k_own)

    -- a namespace that does not end has its tasks
    still_in : (n : ℕ) → (ends && nat_eq k n) ≡ false → in_spaces old n ≡ true → in_spaces new n ≡ true
    still_in n out h =
        let t = any_among (λ (x : Task ℕ). nat_eq n x.namespace) old h in
        ⊎_elim (λ same. by ends here_too out (cc (eqb-true n t.0.namespace t.2))) (λ apart_so. any_from_among _ new t.0
        (rw (← stays t.0 apart_so) (in_set t.0 t.1)) t.2) (only t.0 (in_world t.0 t.1))
      where
        by : (e : Bool) → Ends e part task → (e && nat_eq k n) ≡ false → k ≡ n → in_spaces new n ≡ true
        by true alone f same = cc (eq-eqb k n same)
        by false (other, m, together, differ) f same = any_from_among (λ (x : Task ℕ). nat_eq n x.namespace) new other
            (rw (← stays other differ) (in_set other m)) (eq-eqb n other.namespace (cc))

    placed : (m : Mount ℕ) → Among m world.mounts → is_own world names old m ≡ true
        → ((turn m).namespace ≡ None) ⊎ (((turn m).namespace ≡ m.namespace) × (is_own world names new m ≡ true))
    placed m n own = grind (arith, common_steps, in_space, in_spaces, still_in, is_own)

    changes : ChangesTheirs remaking
    changes = record {
      shape = turned_shape;
      others = stays_whole;
      placed = placed;
      kinds = turned_kind;
      copies = λ y fresh_one. let from = among-from_map copy copied y fresh_one in
          let at = among-from_filter (in_space k) world.mounts from.0 from.1 in (
            from.0,
            among-filter (is_own_mount nat_eq world names) world.mounts from.0 at.0
                (own_in (sealing_of it) k k_own from.0 at.1),
            ap (λ (x : Mount ℕ). x.filesystem) from.2,
            ap (λ (x : Mount ℕ). x.propagation) from.2,
          );
      owned = λ y fresh_one. ap (is_own world names new) (among-from_map copy copied y fresh_one).2
          ∙ any_from_among (λ (x : Task ℕ). nat_eq s x.namespace) new moved
          (subst (λ x. Among x new) its (in_set task member.among)) (eq-eqb s s refl);
      apart = λ y m fresh_one there same. let from = among-from_map copy copied y fresh_one in
          number_not_new world fresh serves m (2 * index_of nat_eq copied from.0.number + 1) there
          (sym same ∙ ap (λ (x : Mount ℕ). x.number) from.2);
      kept = subst (MountInvariants nat_eq) world_so (ended_namespaces_keep_mounts (unshared nat_eq world fresh task)
          (unshare_keeps_mounts world fresh task serves it.is.mounts));
      kept_there = subst (MountInvariants nat_eq) part_so
          (ended_namespaces_keep_mounts (unshared nat_eq part fresh task)
          (unshare_keeps_mounts part fresh task can_part.serves can_part.kept));
    }

    moves : MovesTheirs remaking
    moves = record {
      same = set_is part.tasks ∙ ap (map replaced) (same_members world names) ∙ sym (set_is world.tasks);
      all = λ t m. let from = among-from_map replaced old t m in
          ap (is_member_task names) from.2 ∙ ap (λ n. is_among same_name n names) (name-replaced_if_called moved from.0)
          ∙ (among-from_filter (is_member_task names) world.tasks from.0 from.1).1;
      entered = entered;
      roots = roots_moved;
      places = places_moved;
      outside = outside_stays;
    }

    -- The two runs
    abbrev left_one : World ℕ
    left_one = numbers_raised nat_eq world name [] (settled nat_eq (remade plan world (map replaced world.tasks)))

    abbrev left_too : World ℕ
    left_too = numbers_raised nat_eq part name [] (settled nat_eq (remade plan part (map replaced part.tasks)))

    unshare_alike : judge_in nat_eq fresh world task Unshare ≡ Ok ToUnshare
        → EndsAlikeByOne world names name Unshare fresh
    unshare_alike judged =
        let first : policy nat_eq fresh world name Unshare ≡ granted Done left_one =
        ap (ran name Unshare world fresh) called ∙ ap (run_by it world fresh task) judged
        ∙ ap (λ w. granted Done (numbers_raised nat_eq world name [] (settled nat_eq w))) world_so in
        let second : policy nat_eq fresh part name Unshare ≡ granted Done left_too =
        ap (ran name Unshare part fresh) (same_caller (sealing_of it) name it.theirs ∙ called) ∙ ran_there it fresh
        fresh task called judged
        ∙ ap (λ w. granted Done (numbers_raised nat_eq part name [] (settled nat_eq w))) part_so in
        ended_alike names name Unshare first second
        (record { answer = refl; part = remade_parts remaking changes moves name })

  -- by whether another task is in the namespace of the caller
  abbrev rest : List (Task ℕ)
  rest = filter (λ (t : Task ℕ). not (same_name task.name t.name)) world.tasks

  granted_alike : judge_in nat_eq fresh world task Unshare ≡ Ok ToUnshare → (b : Bool)
      → list_any (λ (t : Task ℕ). nat_eq k t.namespace) rest ≡ b → EndsAlikeByOne world names name Unshare fresh
  granted_alike judged false e = unshare_alike true alone (λ t m. alone t (in_world t m)) judged
    where
      alone : (t : Task ℕ) → Among t world.tasks → same_name task.name t.name ≡ false → nat_eq k t.namespace ≡ false
      alone t m differ = none_among _ rest e t (among-filter _ world.tasks t m (cc))
  granted_alike judged true e =
      let at = any_among (λ (t : Task ℕ). nat_eq k t.namespace) rest e in
      let from = among-from_filter (λ (t : Task ℕ). not (same_name task.name t.name)) world.tasks at.0 at.1 in
      let together : at.0.namespace ≡ k = sym (eqb-true k at.0.namespace at.2) in
      let differ = not-true (same_name task.name at.0.name) from.1 in
      unshare_alike false (at.0, from.0, together, differ) (at.0, theirs at.0 from.0 together, together, differ) judged
    where
      theirs : (t : Task ℕ) → Among t world.tasks → t.namespace ≡ k → Among t old
      theirs t m together = grind (arith, common_steps, among-filter, true≢false, k_own, namespace_outside, apart)

-- The permit of unshare(2)
abbrev pub Unshares : Permit ℕ → Type 0
Unshares permit = permit ≡ ToUnshare

pub unshares : (full : Permit ℕ → Bool) (looks : Looks ℕ) (task : Task ℕ) → IfOk (judge nat_eq looks full task Unshare) Unshares
unfolding judging
unshares full looks task = judged_so looks full task Unshares Unshare (λ admin. refl)

pub unshares_end_alike : UnsharesEndAlike
unshares_end_alike world names name it fresh serves = by_known it fresh fresh refl (λ task e. Unshares)
    (λ task e. unshares _ (looks_of nat_eq world) task) (λ task e permit judged known. granted_alike it task e fresh serves (cc) _ refl)
