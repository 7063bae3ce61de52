-- An exit of the last task of its namespace ends in the part as in the world: the mounts of the namespace are detached.
use Rattle.std.proofs.Common.{arith, ◌≡◌, refl, sym, ap, ◌∙◌, ℕ, nat_eq, Bool, true, false, true≢false, List, [], Option, Some, None, filter, map, not, ◌||◌, eq-eqb, eqb-true}
use Rattle.vt_spec.proofs.Common.{Among, Done, Exit, Fresh, Mount, MountInvariants, Namespace, Task, TaskName, World, after_going, among-filter, among-from_filter, among_from_list_all, any_among, any_from_among, common_steps, granted, has_tasks, holds_of, is_going, is_member_task, is_own_namespace, judging, list_all, list_all_from_among, list_any, lost_a_group, map_twice, members, namespaces_ended, none_among, none_from_among, numbers_raised, or_left, or_right, part_of, policy, regrouped_by, same_name, settled, taken_away, task_called}
use Rattle.vt_laws_members.proofs.judging.Common.{sealing_of}
use Rattle.vt_laws_members.proofs.Common.{MountsAreListed, ended_namespaces_keep_mounts, is_own, one_namespace_ends, same_mounts}
use Rattle.vt_laws_members.specs.Changes.Changes.{EndsAlike, IsCallOfTheirs, left}
use Rattle.vt_laws_members.proofs.changes.looks.Told.{ended_alike, ran, same_caller}
use Rattle.vt_laws_members.proofs.changes.letting_go.CutNamespace.{in_same, in_space, numbers_in}
use Rattle.vt_laws_members.proofs.changes.letting_go.Detached.{detached_parts}
use Rattle.vt_laws_members.proofs.changes.letting_go.Heard.{own_in, space_in_part}
use Rattle.vt_laws_members.proofs.changes.letting_go.Leaving.{all_left, in_world, is_task, its_name, member, new_old, old_new, others_left, part_listed, same_left, stays, tasks, tasks_too}
use Rattle.vt_laws_members.proofs.changes.letting_go.NamespaceLess.{Detaches, ended, ended_part, less_of_fewer}
use Rattle.vt_laws_members.proofs.changes.letting_go.PartMounts.{part_mounts}
use Rattle.vt_laws_members.proofs.changes.letting_go.Regrouped.{flags_same, regroup_is, regrouped_mount, regrouped_so}
use Rattle.vt_laws_members.proofs.changes.letting_go.Taken.{group_lost}

-- A world in which one namespace has lost its last task
module _ (w : World ℕ) (k : ℕ) (gone : List ℕ) (same : numbers_in w k ≡ gone) where
  abbrev left_by : World ℕ
  left_by = record w { mounts = map (after_going nat_eq w gone) w.mounts }

  abbrev remain : List (Namespace ℕ)
  remain = filter (λ (n : Namespace ℕ). not (nat_eq k n.number)) w.namespaces

  pub ends_so : MountsAreListed w → list_any (λ (t : Task ℕ). nat_eq k t.namespace) w.tasks ≡ false
      → list_all (λ (n : Namespace ℕ). nat_eq k n.number || has_tasks nat_eq w n) w.namespaces ≡ true
      → (b : Bool) → list_any (lost_a_group nat_eq left_by) left_by.mounts ≡ b
      → namespaces_ended nat_eq w ≡ record (regrouped_so b left_by) {
        mounts = map (λ m. regrouped_mount b left_by (after_going nat_eq w gone m)) w.mounts;
        namespaces = remain;
      }
  ends_so listed empty others b flag = one_namespace_ends w k listed empty others
      ∙ ap (λ l. record (taken_away nat_eq w l) { namespaces = remain }) same
      ∙ ap (λ c. record (regrouped_by nat_eq c left_by) { namespaces = remain }) flag
      ∙ ap (λ (r : World ℕ). record r { namespaces = remain }) (regroup_is b left_by)
      ∙ (λ i. record (regrouped_so b left_by) {
        mounts = map_twice (regrouped_mount b left_by) (after_going nat_eq w gone) w.mounts i;
        namespaces = remain;
      })

module _ {world : World ℕ} {names : List TaskName} {name : TaskName} (it : IsCallOfTheirs world names name Exit)
    (task : Task ℕ) (called : task_called world name ≡ Some task)
    (empty : list_any (λ (t : Task ℕ). nat_eq task.namespace t.namespace)
    (filter (λ (t : Task ℕ). not (same_name name t.name)) world.tasks) ≡ false) where
  abbrev part : World ℕ
  part = part_of nat_eq world names

  abbrev old : List (Task ℕ)
  old = members world names

  abbrev set : List TaskName
  set = left names name Exit

  abbrev k : ℕ
  k = task.namespace

  abbrev rest : List (Task ℕ)
  rest = tasks it task called

  abbrev rest_too : List (Task ℕ)
  rest_too = tasks_too it task called

  abbrev stays_on : Task ℕ → Bool
  stays_on = stays it task called

  theirs_ends : is_own_namespace nat_eq world names k ≡ true
  theirs_ends = any_from_among _ old task (member it task called).among (eq-eqb k k refl)

  abbrev gone : List ℕ
  gone = numbers_in world k

  gone_same : (m : Mount ℕ) → Among m world.mounts → is_going nat_eq gone m.number ≡ in_space k m
  gone_same m n = in_same world k it.is.mounts.one_number m n

  own_go : (m : Mount ℕ) → Among m world.mounts → is_going nat_eq gone m.number ≡ true → is_own world names old m ≡ true
  own_go m there h = own_in (sealing_of it) k theirs_ends m (sym (gone_same m there) ∙ h)

  abbrev lasts : ℕ → Bool
  lasts n = not (nat_eq k n)

  -- other namespaces have the tasks that they had
  still_in : (n : ℕ) → nat_eq k n ≡ false → (list : List (Task ℕ)) → ((t : Task ℕ) → Among t list → Among t world.tasks)
      → list_any (λ (t : Task ℕ). nat_eq n t.namespace) list ≡ true
      → list_any (λ (t : Task ℕ). nat_eq n t.namespace) (filter stays_on list) ≡ true
  still_in n apart list within h =
      grind (arith, common_steps, any_among, any_from_among, among-filter, is_task, true≢false, eq-eqb, eqb-true)

  still : (n : ℕ) → nat_eq k n ≡ false → list_any (λ (t : Task ℕ). nat_eq n t.namespace) old ≡ true
      → list_any (λ (t : Task ℕ). nat_eq n t.namespace) (filter (is_member_task set) rest) ≡ true
  still n apart h =
      let at = any_among (λ (t : Task ℕ). nat_eq n t.namespace) (filter stays_on old)
      (still_in n apart old (in_world it task called) h) in
      any_from_among _ (filter (is_member_task set) rest) at.0 (old_new it task called at.0 at.1) at.2

  mounts_stay : (m : Mount ℕ) → Among m world.mounts → is_going nat_eq gone m.number ≡ false
      → is_own world names old m ≡ true → is_own world names (filter (is_member_task set) rest) m ≡ true
  mounts_stay m there out own = by m.namespace (sym (gone_same m there) ∙ out) own
    where
      by : (o : Option ℕ) → holds_of (nat_eq k) o ≡ false → holds_of (is_own_namespace nat_eq world names) o ≡ true
          → holds_of (λ n. list_any (λ (t : Task ℕ). nat_eq n t.namespace) (filter (is_member_task set) rest)) o ≡ true
      by None h own = own
      by (Some n) h own = still n h own

  abbrev flag : Bool
  flag = group_lost world gone

  abbrev ends : Detaches world names set gone
  ends = record {
    go = record { sealing = sealing_of it; own_go = own_go };
    lasts = lasts;
    tasks = rest;
    tasks_too = rest_too;
    change = world.change;
    change_too = part.change;
    same = same_left it task called;
    fewer = less_of_fewer world names it.is set rest (new_old it task called);
    regroups = flag;
  }

  abbrev v : World ℕ
  v = ended ends

  abbrev v_part : World ℕ
  v_part = ended_part ends

  world_ends : namespaces_ended nat_eq (record world { tasks = rest }) ≡ v
  world_ends = ends_so (record world { tasks = rest }) k gone refl it.is.namespaces.mounts_listed empty
      (list_all_from_among (λ (n : Namespace ℕ). nat_eq k n.number || has_tasks nat_eq
      (record world { tasks = rest }) n) world.namespaces (λ n m. by n m (nat_eq k n.number) refl)) flag refl
    where
      by : (n : Namespace ℕ) → Among n world.namespaces → (b : Bool) → nat_eq k n.number ≡ b
          → (nat_eq k n.number || has_tasks nat_eq (record world { tasks = rest }) n) ≡ true
      by n m true e = or_left (nat_eq k n.number) _ e
      by n m false e = or_right (nat_eq k n.number) _ (still_in n.number e world.tasks (λ t q. q)
          (among_from_list_all (has_tasks nat_eq world) world.namespaces it.is.namespaces.namespaces_live n m))

  part_ends : namespaces_ended nat_eq (record part { tasks = rest_too }) ≡ v_part
  part_ends = ends_so (record part { tasks = rest_too }) k gone (cc (space_in_part (sealing_of it) k theirs_ends))
      (part_listed it task called) (none_from_among (λ (t : Task ℕ). nat_eq k t.namespace) rest_too
      (λ t m. let from = among-from_filter stays_on part.tasks t m in none_among (λ (t : Task ℕ). nat_eq k t.namespace)
      rest empty t (among-filter stays_on world.tasks t (in_world it task called t from.0) from.1)))
      (list_all_from_among (λ (n : Namespace ℕ). nat_eq k n.number || has_tasks nat_eq
      (record part { tasks = rest_too }) n) part.namespaces (λ n m. by n m (nat_eq k n.number) refl)) flag
      (sym (flags_same ends.go))
    where
      by : (n : Namespace ℕ) → Among n part.namespaces → (b : Bool) → nat_eq k n.number ≡ b
          → (nat_eq k n.number || has_tasks nat_eq (record part { tasks = rest_too }) n) ≡ true
      by n m true e = or_left (nat_eq k n.number) _ e
      by n m false e = or_right (nat_eq k n.number) _
          (still_in n.number e old (in_world it task called)
          (among-from_filter (λ (s : Namespace ℕ). list_any (λ (t : Task ℕ). nat_eq s.number t.namespace) old)
          world.namespaces n m).1)

  kept : MountInvariants nat_eq v
  kept = rw (← world_ends) (ended_namespaces_keep_mounts (record world { tasks = rest })
      (same_mounts world (record world { tasks = rest }) refl refl it.is.mounts))

  kept_there : MountInvariants nat_eq v_part
  kept_there = rw (← part_ends) (ended_namespaces_keep_mounts (record part { tasks = rest_too })
      (same_mounts part (record part { tasks = rest_too }) refl refl (part_mounts (sealing_of it))))

  parts : part_of nat_eq (numbers_raised nat_eq world name [] (settled nat_eq v)) set
      ≡ part_of nat_eq (numbers_raised nat_eq part name [] (settled nat_eq v_part)) set
  parts = detached_parts ends (record {
    others = others_left it task called;
    all = all_left it task called;
    still = mounts_stay;
    kept = kept;
    kept_there = kept_there;
  }) name

  abbrev left_one : World ℕ
  left_one = numbers_raised nat_eq world name [] (settled nat_eq v)

  abbrev left_too : World ℕ
  left_too = numbers_raised nat_eq part name [] (settled nat_eq v_part)

  first : (fresh : Fresh ℕ) → policy nat_eq fresh world name Exit ≡ granted Done left_one
  unfolding judging
  first fresh = ap (ran name Exit world fresh) called
      ∙ ap (λ n. granted Done (numbers_raised nat_eq world name []
      (settled nat_eq (namespaces_ended nat_eq (record world
      { tasks = filter (λ (t : Task ℕ). not (same_name n t.name)) world.tasks }))))) (sym (its_name it task called))
      ∙ ap (λ w. granted Done (numbers_raised nat_eq world name [] (settled nat_eq w))) world_ends

  second : (other : Fresh ℕ) → policy nat_eq other part name Exit ≡ granted Done left_too
  unfolding judging
  second other = ap (ran name Exit part other) (same_caller (sealing_of it) name it.theirs ∙ called)
      ∙ ap (λ n. granted Done (numbers_raised nat_eq part name []
      (settled nat_eq (namespaces_ended nat_eq (record part
      { tasks = filter (λ (t : Task ℕ). not (same_name n t.name)) part.tasks }))))) (sym (its_name it task called))
      ∙ ap (λ w. granted Done (numbers_raised nat_eq part name [] (settled nat_eq w))) part_ends

  pub last_exit_alike : (fresh other : Fresh ℕ) → EndsAlike world names name Exit fresh other
  last_exit_alike fresh other =
      ended_alike names name Exit (first fresh) (second other) (record { answer = refl; part = parts })
