-- Each setns(2) ends in the part as in the world: where the caller was the last task of its namespace, that one ends.
use Rattle.std.proofs.Common.{◌≡◌, refl, sym, ap, ◌∙◌, ◌⊎◌, ⊎_elim, ℕ, nat_eq, Bool, true, false, List, [], Option, Some, None, Ok, filter, map, not, ◌||◌, eq-eqb, eqb-true, unwrap_or}
use Rattle.vt_spec.proofs.Common.{Among, Done, Exit, Fresh, Mount, MountInvariants, Namespace, Permit, Setns, Task, TaskName, ToEnterNamespace, World, among-filter, among-from_filter, among-from_map, among-map, among_from_list_all, any_among, any_from_among, entered_at, granted, has_tasks, holds_of, is_going, is_member_task, is_own_namespace, judge_in, list_all, list_all_from_among, list_any, members, namespaces_ended, none_among, none_from_among, not-true, numbers_raised, or_left, or_right, part_of, policy, replaced_if_called, same_name, settled, task_called}
use Rattle.vt_laws_members.proofs.judging.Common.{caller_in, sealing_of}
use Rattle.vt_laws_members.proofs.Common.{ended_namespaces_keep_mounts, is_own, name_found, same_mounts}
use Rattle.vt_laws_members.specs.Changes.Changes.{EndsAlike, IsCallOfTheirs}
use Rattle.vt_laws_members.specs.Changes.LettingGo.{SetnsEndsAlike}
use Rattle.vt_laws_members.proofs.changes.Common.{Detaches, SetIsLess, by_known, ended, ended_alike, ended_part, flags_same, group_lost, in_same, in_space, numbers_in, own_in, part_mounts, ran, ran_there, run_by, same_caller, space_in_part}
use Rattle.vt_laws_members.proofs.changes.letting_go.Callers.{all_in_set, of_set, others_left, places_left, replaced_apart, roots_left, same_set}
use Rattle.vt_laws_members.proofs.changes.letting_go.Detached.{detached_parts}
use Rattle.vt_laws_members.proofs.changes.letting_go.Entering.{Enters, EntersTheirs, entered, entered_itself, entered_was, entering_alike, enters, exit_it, mine, replaced, root_alike, stands}
use Rattle.vt_laws_members.proofs.changes.letting_go.ExitLast.{ends_so}
use Rattle.vt_laws_members.proofs.changes.letting_go.Leaving.{in_world, part_listed}

module _ {world : World ℕ} {names : List TaskName} {name called_so : TaskName} {task target : Task ℕ}
    (enter : EntersTheirs world names name called_so task target)
    (away : nat_eq task.namespace target.namespace ≡ false)
    (empty : list_any (λ (t : Task ℕ). nat_eq task.namespace t.namespace)
    (filter (λ (t : Task ℕ). not (same_name name t.name)) world.tasks) ≡ false) where
  abbrev part : World ℕ
  part = part_of nat_eq world names

  abbrev old : List (Task ℕ)
  old = members world names

  abbrev k : ℕ
  k = task.namespace

  exits : IsCallOfTheirs world names name Exit
  exits = exit_it enter

  abbrev moved : Task ℕ → Task ℕ
  moved = replaced enter

  abbrev caller : Task ℕ
  caller = mine enter

  abbrev rest : List (Task ℕ)
  rest = map moved world.tasks

  abbrev rest_too : List (Task ℕ)
  rest_too = map moved part.tasks

  abbrev in_space_of : ℕ → Task ℕ → Bool
  in_space_of n t = nat_eq n t.namespace

  known : (t : Task ℕ) → Among t old → Among t world.tasks
  known = in_world exits task enter.called

  how : (t : Task ℕ) → Among t world.tasks
      → ((moved t ≡ caller) × (task ≡ t)) ⊎ ((moved t ≡ t) × (same_name task.name t.name ≡ false))
  how = replaced_apart enter.it task enter.called caller refl

  set_is : filter (is_member_task names) rest ≡ map moved old
  set_is = of_set enter.it task enter.called caller (stands enter) world.tasks

  less : SetIsLess world names enter.it.is names rest
  less = record {
    entered = λ n h. entered_was enter n (cc set_is);
    roots = roots_left enter.it task enter.called caller (stands enter);
    places = places_left enter.it task enter.called caller (stands enter);
  }

  theirs_ends : is_own_namespace nat_eq world names k ≡ true
  theirs_ends = any_from_among (in_space_of k) old task (caller_in enter.it enter.called).among (eq-eqb k k refl)

  abbrev gone : List ℕ
  gone = numbers_in world k

  gone_same : (m : Mount ℕ) → Among m world.mounts → is_going nat_eq gone m.number ≡ in_space k m
  gone_same m n = in_same world k enter.it.is.mounts.one_number m n

  own_go : (m : Mount ℕ) → Among m world.mounts → is_going nat_eq gone m.number ≡ true → is_own world names old m ≡ true
  own_go m there h = own_in (sealing_of enter.it) k theirs_ends m (sym (gone_same m there) ∙ h)

  abbrev lasts : ℕ → Bool
  lasts n = not (nat_eq k n)

  -- other namespaces have the tasks that they had, and this one has none
  still_in : (n : ℕ) → nat_eq k n ≡ false → (list : List (Task ℕ)) → ((t : Task ℕ) → Among t list → Among t world.tasks)
      → list_any (in_space_of n) list ≡ true → list_any (in_space_of n) (map moved list) ≡ true
  still_in n apart list within h =
      let at = any_among (in_space_of n) list h in
      any_from_among (in_space_of n) (map moved list) (moved at.0) (among-map moved list at.0 at.1)
      (⊎_elim (λ its. cc (eq-eqb k n (ap (λ (x : Task ℕ). x.namespace) its.1 ∙ sym (eqb-true n at.0.namespace at.2))))
      (λ same. cc (same.0, at.2)) (how at.0 (within at.0 at.1)))

  none_in : (list : List (Task ℕ)) → ((t : Task ℕ) → Among t list → Among t world.tasks)
      → list_any (in_space_of k) (map moved list) ≡ false
  none_in list within =
      none_from_among (in_space_of k) (map moved list) (λ t m. let from = among-from_map moved list t m in cc (
        from.2,
        ⊎_elim (λ its. ap (in_space_of k) its.0 ∙ away) (λ same. ap (in_space_of k) same.0 ∙ none_among
            (in_space_of k) (filter (λ (t : Task ℕ). not (same_name name t.name)) world.tasks) empty from.0
            (among-filter (λ (t : Task ℕ). not (same_name name t.name)) world.tasks from.0 (within from.0 from.1)
            (ap not (ap (λ n. same_name n from.0.name) (name_found world name task enter.called) ∙ same.1))))
            (how from.0 (within from.0 from.1)),
      ))

  mounts_stay : (m : Mount ℕ) → Among m world.mounts → is_going nat_eq gone m.number ≡ false
      → is_own world names old m ≡ true → is_own world names (filter (is_member_task names) rest) m ≡ true
  mounts_stay m there out own = by m.namespace (sym (gone_same m there) ∙ out) own
    where
      by : (o : Option ℕ) → holds_of (nat_eq k) o ≡ false → holds_of (is_own_namespace nat_eq world names) o ≡ true
          → holds_of (λ n. list_any (in_space_of n) (filter (is_member_task names) rest)) o ≡ true
      by None h own = own
      by (Some n) h own = cc (set_is, still_in n h old known own)

  abbrev flag : Bool
  flag = group_lost world gone

  same : filter (is_member_task names) rest_too ≡ filter (is_member_task names) rest
  same = same_set enter.it task enter.called caller (stands enter)

  abbrev ends : Detaches world names names gone
  ends = record {
    go = record { sealing = sealing_of enter.it; own_go = own_go };
    lasts = lasts;
    tasks = rest;
    tasks_too = rest_too;
    change = world.change;
    change_too = part.change;
    same = same;
    fewer = less;
    regroups = flag;
  }

  abbrev v : World ℕ
  v = ended ends

  abbrev v_part : World ℕ
  v_part = ended_part ends

  others_live : (w : World ℕ) (list : List (Task ℕ)) → ((t : Task ℕ) → Among t list → Among t world.tasks)
      → ((n : Namespace ℕ) → Among n w.namespaces → list_any (in_space_of n.number) list ≡ true)
      → list_all (λ (n : Namespace ℕ). nat_eq k n.number || has_tasks nat_eq (record w { tasks = map moved list }) n)
      w.namespaces ≡ true
  others_live w list within live = list_all_from_among (λ (n : Namespace ℕ). nat_eq k n.number
      || has_tasks nat_eq (record w { tasks = map moved list }) n) w.namespaces (λ n m. by n m (nat_eq k n.number) refl)
    where
      by : (n : Namespace ℕ) → Among n w.namespaces → (b : Bool) → nat_eq k n.number ≡ b
          → (nat_eq k n.number || has_tasks nat_eq (record w { tasks = map moved list }) n) ≡ true
      by n m true e = or_left (nat_eq k n.number) _ e
      by n m false e = or_right (nat_eq k n.number) _ (still_in n.number e list within (live n m))

  world_ends : namespaces_ended nat_eq (record world { tasks = rest }) ≡ v
  world_ends = ends_so (record world { tasks = rest }) k gone refl enter.it.is.namespaces.mounts_listed
      (none_in world.tasks (λ t m. m)) (others_live world world.tasks (λ t m. m)
      (λ n m. among_from_list_all (has_tasks nat_eq world) world.namespaces enter.it.is.namespaces.namespaces_live n m))
      flag refl

  part_ends : namespaces_ended nat_eq (record part { tasks = rest_too }) ≡ v_part
  part_ends = ends_so (record part { tasks = rest_too }) k gone (cc (space_in_part (sealing_of enter.it) k theirs_ends))
      (part_listed exits task enter.called) (none_in part.tasks known) (others_live part part.tasks known
      (λ n m. (among-from_filter (λ (s : Namespace ℕ). list_any (in_space_of s.number) old) world.namespaces n m).1))
      flag (sym (flags_same ends.go))

  kept : MountInvariants nat_eq v
  kept = rw (← world_ends) (ended_namespaces_keep_mounts (record world { tasks = rest })
      (same_mounts world (record world { tasks = rest }) refl refl enter.it.is.mounts))

  kept_there : MountInvariants nat_eq v_part
  kept_there = rw (← part_ends) (ended_namespaces_keep_mounts (record part { tasks = rest_too })
      (same_mounts part (record part { tasks = rest_too }) refl refl (part_mounts (sealing_of enter.it))))

  abbrev left_one : World ℕ
  left_one = numbers_raised nat_eq world name [] (settled nat_eq v)

  abbrev left_too : World ℕ
  left_too = numbers_raised nat_eq part name [] (settled nat_eq v_part)

  parts : part_of nat_eq left_one names ≡ part_of nat_eq left_too names
  parts = detached_parts ends (record {
    others = others_left enter.it task enter.called caller (stands enter);
    all = all_in_set enter.it task enter.called caller (stands enter);
    still = mounts_stay;
    kept = kept;
    kept_there = kept_there;
  }) name

  pub last_setns_alike : (fresh supply : Fresh ℕ)
      → judge_in nat_eq fresh world task (Setns called_so) ≡ Ok (ToEnterNamespace target.namespace)
      → EndsAlike world names name (Setns called_so) fresh supply
  last_setns_alike fresh supply judged =
      let first : policy nat_eq fresh world name (Setns called_so) ≡ granted Done left_one =
      ap (ran name (Setns called_so) world fresh) enter.called ∙ ap (run_by enter.it world fresh task) judged
      ∙ ap (λ w. granted Done (numbers_raised nat_eq world name [] (settled nat_eq w))) world_ends in
      let second : policy nat_eq supply part name (Setns called_so) ≡ granted Done left_too =
      ap (ran name (Setns called_so) part supply)
      (same_caller (sealing_of enter.it) name enter.it.theirs ∙ enter.called)
      ∙ ran_there enter.it fresh supply task enter.called judged
      ∙ ap (λ o. granted Done (numbers_raised nat_eq part name []
      (settled nat_eq (namespaces_ended nat_eq (record part {
        tasks = map (replaced_if_called (entered_at task target.namespace (unwrap_or o task.root))) part.tasks;
      }))))) (root_alike enter)
      ∙ ap (λ w. granted Done (numbers_raised nat_eq part name [] (settled nat_eq w))) part_ends in
      ended_alike names name (Setns called_so) first second (record { answer = refl; part = parts })

-- by whether it stays, or another task does
module _ {world : World ℕ} {names : List TaskName} {name called_so : TaskName}
    (it : IsCallOfTheirs world names name (Setns called_so)) (task : Task ℕ)
    (called : task_called world name ≡ Some task) (fresh supply : Fresh ℕ) where
  abbrev stays : Task ℕ → Bool
  stays t = not (same_name name t.name)

  granted_alike : (target : Task ℕ) → EntersTheirs world names name called_so task target
      → judge_in nat_eq fresh world task (Setns called_so) ≡ Ok (ToEnterNamespace target.namespace)
      → (b c : Bool) → nat_eq task.namespace target.namespace ≡ b
      → list_any (λ (t : Task ℕ). nat_eq task.namespace t.namespace) (filter stays world.tasks) ≡ c
      → EndsAlike world names name (Setns called_so) fresh supply
  granted_alike target enter judged true c e f = entering_alike enter
      (entered_itself enter (sym (eqb-true task.namespace target.namespace e))) fresh supply judged
  granted_alike target enter judged false true e f =
      let other = any_among (λ (t : Task ℕ). nat_eq task.namespace t.namespace) (filter stays world.tasks) f in
      let from = among-from_filter stays world.tasks other.0 other.1 in
      entering_alike enter (entered enter other.0 from.0 (sym (eqb-true task.namespace other.0.namespace other.2))
      (not-true (same_name name other.0.name) from.1)) fresh supply judged
  granted_alike target enter judged false false e f = last_setns_alike enter e f fresh supply judged

  permitted_alike : (permit : Permit ℕ) → judge_in nat_eq fresh world task (Setns called_so) ≡ Ok permit
      → Enters (caller_in it called) permit → EndsAlike world names name (Setns called_so) fresh supply
  permitted_alike permit judged its =
      granted_alike its.0 (record { it = it; called = called; target_in = its.1 }) (judged ∙ ap Ok its.2)
      (nat_eq task.namespace its.0.namespace)
      (list_any (λ (t : Task ℕ). nat_eq task.namespace t.namespace) (filter stays world.tasks)) refl refl

pub setns_ends_alike : SetnsEndsAlike
setns_ends_alike world names name called_so it fresh supply = by_known it fresh supply refl
    (λ task e. Enters (caller_in it e))
    (λ task e. enters (caller_in it e) _ called_so (it.among_them called_so refl))
    (λ task e permit judged its. permitted_alike it task e fresh supply permit judged its)
