-- A task of a set exits: the set, the tasks and the namespaces that are left.
use Rattle.std.proofs.Common.{arith, ◌≡◌, refl, sym, ap, ◌∙◌, ⊎_elim, ℕ, nat_eq, Bool, true, false, List, [], ◌∷◌, Option, Some, None, filter, map, not, cond, option_to_list}
use Rattle.vt_spec.proofs.Common.{Among, Exit, Location, Mount, Namespace, Task, TaskName, World, among-filter, among-flat_map, among-from_filter, among-from_filter_map, among-from_flat_map, among-from_map, among-map, among_from_list_all, among_numbers, and_parts, any_among, any_from_among, common_steps, found_among, found_passes, is_among_numbers, is_listed, is_member_task, list_all, list_all_from_among, list_any, locations, locations_of, members, none_is_some, outsiders, part_of, same_name, same_task_name, task_called}
use Rattle.vt_laws_members.proofs.judging.Common.{IsMember, caller_in, part_mount}
use Rattle.vt_laws_members.proofs.Common.{MountsAreListed, is_own, keep, kept_how}
use Rattle.vt_laws_members.specs.Changes.Changes.{IsCallOfTheirs, left}
use Rattle.vt_laws_members.proofs.changes.tasks.Rights.{only_task}

-- filters in turn
pub filter_mid : {A : Type 0} (p q r : A → Bool) (xs : List A) → ((x : A) → p x ≡ true → r x ≡ true)
    → filter p (filter q (filter r xs)) ≡ filter p (filter q xs)
filter_mid p q r [] less = refl
filter_mid {A} p q r (x ∷ xs) less = by (r x) refl (q x) (filter_mid p q r xs less)
  where
    skip : (c b : Bool) → p x ≡ b → r x ≡ false
        → filter p (filter q xs) ≡ filter p (cond c (x ∷ filter q xs) (filter q xs))
    skip false b e f = refl
    skip true true e f = cc (less x e)
    skip true false e f = cc

    by : (b : Bool) → r x ≡ b → (c : Bool) → filter p (filter q (filter r xs)) ≡ filter p (filter q xs)
        → filter p (filter q (cond b (x ∷ filter r xs) (filter r xs)))
        ≡ filter p (cond (q x) (x ∷ filter q xs) (filter q xs))
    by b e c later = grind (arith, common_steps, skip)

module _ {world : World ℕ} {names : List TaskName} {name : TaskName} (it : IsCallOfTheirs world names name Exit)
    (task : Task ℕ) (called : task_called world name ≡ Some task) where
  abbrev part : World ℕ
  part = part_of nat_eq world names

  abbrev old : List (Task ℕ)
  old = members world names

  abbrev pub stays : Task ℕ → Bool
  stays t = not (same_name name t.name)

  abbrev pub its : Task ℕ → Bool
  its = is_member_task (left names name Exit)

  pub member : IsMember world names task
  member = caller_in it called

  pub its_name : name ≡ task.name
  its_name = same_task_name name _ (found_passes (λ (t : Task ℕ). same_name name t.name) world.tasks task called)

  -- who has its name is the caller
  pub is_task : (t : Task ℕ) → Among t world.tasks → same_name name t.name ≡ true → task ≡ t
  is_task t m e = only_task world.tasks it.is.tasks.one_task task t
      (found_among (λ (x : Task ℕ). same_name name x.name) world.tasks task called) m
      (sym its_name ∙ same_task_name name t.name e)

  -- a member of the set that is left
  pub set_parts : (t : Task ℕ) → its t ≡ true → (is_member_task names t ≡ true) × (stays t ≡ true)
  set_parts t h =
      let at = any_among (same_name t.name) (left names name Exit) h in
      let from = among-from_filter (λ m. not (same_name name m)) names at.0 at.1 in
      let same = same_task_name t.name at.0 at.2 in
      (any_from_among (same_name t.name) names at.0 from.0 at.2, cc from.1)

  pub set_from : (t : Task ℕ) → is_member_task names t ≡ true → stays t ≡ true → its t ≡ true
  set_from t h s = grind (arith, common_steps, any_among, any_from_among, among-filter, same_task_name)

  abbrev pub tasks : List (Task ℕ)
  tasks = filter stays world.tasks

  abbrev pub tasks_too : List (Task ℕ)
  tasks_too = filter stays part.tasks

  pub in_world : (t : Task ℕ) → Among t old → Among t world.tasks
  in_world t m = (among-from_filter (is_member_task names) world.tasks t m).0

  pub new_old : (t : Task ℕ) → Among t (filter its tasks) → Among t old
  new_old t m = grind (arith, common_steps, among-from_filter, among-filter, set_parts)

  pub old_new : (t : Task ℕ) → Among t (filter stays old) → Among t (filter its tasks)
  old_new t m =
      let from = among-from_filter stays old t m in
      let of = among-from_filter (is_member_task names) world.tasks t from.0 in
      among-filter its tasks t (among-filter stays world.tasks t of.0 from.1) (set_from t of.1 from.1)

  pub others_left : (l : Location ℕ) → Among l (locations (filter (λ t. not (its t)) tasks))
      → Among l (locations (outsiders world names))
  others_left l m =
      let from = among-from_flat_map locations_of (filter (λ t. not (its t)) tasks) l m in
      let left_out = among-from_filter (λ t. not (its t)) tasks from.0 from.1 in
      let of = among-from_filter stays world.tasks from.0 left_out.0 in
      among-flat_map locations_of (outsiders world names) from.0 l
      (among-filter (λ t. not (is_member_task names t)) world.tasks from.0 of.0
      (outside from.0 of.1 left_out.1 (is_member_task names from.0) refl)) from.2
    where
      outside : (t : Task ℕ) → stays t ≡ true → not (its t) ≡ true → (b : Bool) → is_member_task names t ≡ b
          → not b ≡ true
      outside t s out true e = cc (set_from t e s)
      outside t s out false e = refl

  pub same_left : filter its tasks_too ≡ filter its tasks
  same_left = filter_mid its stays (is_member_task names) world.tasks (λ t h. (set_parts t h).0)

  pub all_left : (t : Task ℕ) → Among t tasks_too → its t ≡ true
  all_left t m =
      let from = among-from_filter stays part.tasks t m in
      set_from t (among-from_filter (is_member_task names) world.tasks t from.0).1 from.1

  -- mounts of the part in a namespace are theirs
  pub own_part : (y : Mount ℕ) → Among y part.mounts → (n : ℕ) → y.namespace ≡ Some n
      → Among y world.mounts × (is_own world names old y ≡ true)
  own_part y m n e =
      let from = among-from_filter_map (keep world names old) world.mounts y m in
      ⊎_elim (λ same. (
        rw (← same) from.1,
        ⊎_elim (λ own. own) (λ none. cc) (part_mount world names it.is from.0 y from.1 from.2),
      )) (λ stub. none_is_some n (cc stub.0))
      (kept_how world names old from.0 y from.2)

  pub part_listed : MountsAreListed (record part { tasks = tasks_too })
  part_listed =
      list_all_from_among (λ (y : Mount ℕ). list_all (is_listed nat_eq part) (option_to_list y.namespace)) part.mounts
      (λ y m. by y m y.namespace refl)
    where
      by : (y : Mount ℕ) → Among y part.mounts → (o : Option ℕ) → y.namespace ≡ o
          → list_all (is_listed nat_eq part) (option_to_list o) ≡ true
      by y m None e = refl
      by y m (Some n) e =
          let own = own_part y m n e in
          let listed = and_parts (is_listed nat_eq world n) true (cc (among_from_list_all
          (λ (k : Mount ℕ). list_all (is_listed nat_eq world) (option_to_list k.namespace)) world.mounts
          it.is.namespaces.mounts_listed y own.0)) in
          let number = among-from_map (λ (s : Namespace ℕ). s.number) world.namespaces n
          (among_numbers (map (λ (s : Namespace ℕ). s.number) world.namespaces) n listed.0) in
          let theirs : list_any (λ (t : Task ℕ). nat_eq n t.namespace) old ≡ true = cc own.1 in
          cc (is_among_numbers (map (λ (s : Namespace ℕ). s.number) part.namespaces) n
          (rw number.2 (among-map (λ (s : Namespace ℕ). s.number) part.namespaces number.0
          (among-filter (λ (s : Namespace ℕ). list_any (λ (t : Task ℕ). nat_eq s.number t.namespace) old)
          world.namespaces number.0 number.1 (ap (λ i. list_any (λ (t : Task ℕ). nat_eq i t.namespace) old)
          (sym number.2) ∙ theirs)))))
