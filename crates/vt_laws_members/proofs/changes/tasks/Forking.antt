-- A fork ends in the part as in the world, of the set with the child.
use Rattle.std.proofs.Common.{◌≡◌, refl, sym, ap, subst, ◌∙◌, inl, inr, ℕ, nat_eq, Bool, true, false, cond, List, [], ◌∷◌, ◌++◌, Some, filter, map, ◌||◌, ◌+◌, arith}
use Rattle.vt_spec.proofs.Common.{Among, Child, Credentials, Fork, IsWorld, Location, Mount, Task, TaskName, World, among-append_left, among-flat_map, among-from_filter, among-from_flat_map, among-map, any_from_among, child_name, child_of, common_steps, contains_from_among, false_from_ne_true, found_among, holds_of, is_among, is_member_task, list_any, locations, locations_of, members, mount_at, name-replaced_if_called, part_of, raised, raised_task, replaced_if_called, roots_and_directories, same_name, same_name_itself, same_task_name, seen_by_descriptor, task_called, used_directly, when}
use Rattle.vt_laws_members.proofs.judging.Common.{IsMember, caller_in}
use Rattle.vt_laws_members.proofs.Common.{is_own, keep, same_members}
use Rattle.vt_laws_members.specs.Changes.Changes.{ForksEndAlike}
use Rattle.vt_laws_members.proofs.changes.Common.{SeeAlike, any_both, any_mapped, any_of_each, only_task, raised_is, ran_there, run_by}
use Rattle.vt_laws_members.proofs.changes.tasks.Ending.{LeavesTasks, tasks_end_alike}

or_none : (b : Bool) → (b || (false || false)) ≡ b
or_none true = refl
or_none false = refl

module _ {world : World ℕ} (names : List TaskName) (name : TaskName) (is : IsWorld nat_eq world) {task : Task ℕ}
    (found : task_called world name ≡ Some task) (credentials : Credentials) where
  abbrev parent : Task ℕ
  parent = record task { forks = task.forks + 1 }

  abbrev replaced : Task ℕ → Task ℕ
  replaced = replaced_if_called parent

  abbrev both : Task ℕ → Task ℕ
  both t = raised_task name (replaced t)

  abbrev child : Task ℕ
  child = child_of task credentials

  abbrev kid : Task ℕ
  kid = raised_task name child

  abbrev set : List TaskName
  set = child_name task ∷ names

  there : Among task world.tasks
  there = found_among (λ (x : Task ℕ). same_name name x.name) world.tasks task found

  replaced_is : {A : Type 0} (what : Task ℕ → A) → what parent ≡ what task → (t : Task ℕ) → Among t world.tasks
      → what (replaced t) ≡ what t
  replaced_is what same t m = grind (arith, common_steps, only_task, there, same_task_name)

  both_named : (t : Task ℕ) → (both t).name ≡ t.name
  both_named t = raised_is name (λ (x : Task ℕ). x.name) (λ x. refl) (replaced t) ∙ name-replaced_if_called parent t

  -- no task has the child's name
  child_apart : (t : Task ℕ) → Among t world.tasks → same_name t.name (child_name task) ≡ false
  child_apart t m = false_from_ne_true (same_name t.name (child_name task)) (λ h.
      let less = is.tasks.forks_counted task t (task.forks + 1) [] (contains_from_among world.tasks task there)
      (contains_from_among world.tasks t m) (same_task_name t.name (child_name task) h) in
      absurd (omega (arith, less)))

  member_alike : (t : Task ℕ) → Among t world.tasks → is_member_task set (both t) ≡ is_member_task names t
  member_alike t m = ap (λ n. same_name n (child_name task) || is_among same_name n names) (both_named t)
      ∙ ap (λ b. b || is_among same_name t.name names) (child_apart t m)

  kid_member : is_member_task set kid ≡ true
  kid_member = cc (raised_is name (λ (x : Task ℕ). x.name) (λ x. refl) child, same_name_itself (child_name task))

  sift : (xs : List (Task ℕ)) → ((t : Task ℕ) → Among t xs → Among t world.tasks)
      → filter (is_member_task set) (map both xs ++ kid ∷ []) ≡ map both (filter (is_member_task names) xs) ++ kid ∷ []
  sift [] all = cc kid_member
  sift (x ∷ xs) all =
      cc (member_alike x (all x (inl refl)), by (is_member_task names x) (sift xs (λ t m. all t (inr m))))
    where
      by : (b : Bool) → filter (is_member_task set) (map both xs ++ kid ∷ [])
          ≡ map both (filter (is_member_task names) xs) ++ kid ∷ []
          → cond b (both x ∷ filter (is_member_task set) (map both xs ++ kid ∷ []))
          (filter (is_member_task set) (map both xs ++ kid ∷ []))
          ≡ map both (cond b (x ∷ filter (is_member_task names) xs) (filter (is_member_task names) xs)) ++ kid ∷ []
      by true later = cc
      by false later = later

  pub raised_all : (xs : List (Task ℕ))
      → map (raised_task name) (map replaced xs ++ child ∷ []) ≡ map both xs ++ kid ∷ []
  raised_all [] = refl
  raised_all (x ∷ xs) = cc (raised_all xs)

  -- in a world with some of these tasks, the caller among them
  module _ (w : World ℕ) (within : (t : Task ℕ) → Among t w.tasks → Among t world.tasks)
      (member : Among task (members w names)) where
    abbrev old : List (Task ℕ)
    old = members w names

    abbrev ended : World ℕ
    ended = record w { tasks = map both w.tasks ++ kid ∷ []; change = raised w.change }

    pub new_members : members ended set ≡ map both old ++ kid ∷ []
    new_members = sift w.tasks within

    known : (t : Task ℕ) → Among t old → Among t world.tasks
    known t m = within t (among-from_filter (is_member_task names) w.tasks t m).0

    -- the child tells nothing more than its parent
    any_new : (P : Task ℕ → Bool) → ((t : Task ℕ) → Among t world.tasks → P (both t) ≡ P t)
        → (P kid ≡ true → P task ≡ true) → list_any P (members ended set) ≡ list_any P old
    any_new P same less = cc (
      new_members,
      any_both P (map both old) (kid ∷ []),
      any_mapped P P both old (λ t m. same t (known t m)),
      by (P kid) refl,
    )
      where
        by : (b : Bool) → P kid ≡ b → (list_any P old || (P kid || false)) ≡ list_any P old
        by b e = grind (arith, common_steps, any_from_among, member, or_none)

    own_same : (n : ℕ) → list_any (λ (t : Task ℕ). nat_eq n t.namespace) (members ended set)
        ≡ list_any (λ (t : Task ℕ). nat_eq n t.namespace) old
    own_same n =
        any_new (λ (t : Task ℕ). nat_eq n t.namespace) (λ t m. cc (
          raised_is name (λ (x : Task ℕ). x.namespace)
              (λ x. refl) (replaced t),
          replaced_is (λ (x : Task ℕ). x.namespace) refl t m,
        ))
        (λ h. cc (raised_is name (λ (x : Task ℕ). x.namespace) (λ x. refl) child))

    abbrev stands : Task ℕ → List (Location ℕ)
    stands t = t.root ∷ t.directory ∷ []

    roots_same : (p : Location ℕ → Bool) → list_any p (roots_and_directories (members ended set))
        ≡ list_any p (roots_and_directories old)
    roots_same p = cc (
      any_of_each p stands (members ended set),
      any_new (λ t. list_any p (stands t)) (λ t m. ap (list_any p) (raised_is name stands (λ x. refl) (replaced t) ∙
          replaced_is stands refl t m)) (λ h. sym (ap (list_any p) (raised_is name stands (λ x. refl) child)) ∙ h),
      any_of_each p stands old,
    )

    places_same : (p : Location ℕ → Bool) → list_any p (locations (members ended set)) ≡ list_any p (locations old)
    places_same p = cc (
      any_of_each p locations_of (members ended set),
      any_new (λ t. list_any p (locations_of t)) (λ t m. ap (list_any p) (raised_is name locations_of (λ x. refl)
          (replaced t) ∙ replaced_is locations_of refl t m)) (λ h. fewer (p task.root) (p task.directory) (sym (ap
          (list_any p) (raised_is name locations_of (λ x. refl) child)) ∙ h)),
      any_of_each p locations_of old,
    )
      where
        fewer : (a b : Bool) → (a || (b || false)) ≡ true
            → (a || (b || list_any p (map (λ descriptor. descriptor.location) task.descriptors))) ≡ true
        fewer true b h = refl
        fewer false true h = refl
        fewer false false h = cc

    abbrev shows : Location ℕ → ℕ
    shows location = (mount_at nat_eq w location).filesystem

    abbrev mounted : List ℕ
    mounted = map (λ (m : Mount ℕ). m.filesystem) (filter (λ (m : Mount ℕ). is_own w names old m) w.mounts)

    direct_by : (p : ℕ → Bool) → list_any p (used_directly nat_eq ended set)
        ≡ list_any p (mounted ++ map shows (locations (members ended set)))
    direct_by p i = list_any p (map (λ (m : Mount ℕ). m.filesystem)
        (filter (λ (m : Mount ℕ). holds_of (λ k. own_same k i) m.namespace) w.mounts)
        ++ map shows (locations (members ended set)))

    spread : (p : ℕ → Bool) (list : List (Location ℕ))
        → list_any p (mounted ++ map shows list) ≡ (list_any p mounted || list_any (λ l. p (shows l)) list)
    spread p list = cc (any_both p mounted (map shows list), any_mapped p (λ l. p (shows l)) shows list (λ l m. refl))

    direct_same : (p : ℕ → Bool) → list_any p (used_directly nat_eq ended set)
        ≡ list_any p (used_directly nat_eq w names)
    direct_same p = cc (
      direct_by p,
      spread p (locations (members ended set)),
      places_same (λ l. p (shows l)),
      spread p (locations old),
    )

    kept_same : (m : Mount ℕ) → Among m w.mounts → keep w names (members ended set) m ≡ keep w names old m
    kept_same m n i =
        cond (holds_of (λ k. own_same k i) m.namespace || roots_same (λ (l : Location ℕ). nat_eq l.mount m.number) i)
        (Some m) (when (places_same (λ (l : Location ℕ). nat_eq l.mount m.number) i) (seen_by_descriptor m))

    pub leaves : LeavesTasks w names set name (map replaced w.tasks ++ child ∷ [])
    leaves = record {
      more = λ location m.
          let from = among-from_flat_map locations_of w.tasks location m in
          among-flat_map locations_of (map replaced w.tasks ++ child ∷ []) (replaced from.0) location
          (among-append_left (map replaced w.tasks) (child ∷ []) (replaced from.0)
          (among-map replaced w.tasks from.0 from.1))
          (subst (Among location) (sym (replaced_is locations_of refl from.0 (within from.0 from.1))) from.2);
      sees = subst (λ l. SeeAlike w names set l (raised w.change)) (sym (raised_all w.tasks))
          (record { own = own_same; mounts = kept_same; direct = direct_same });
    }

pub forks_end_alike : ForksEndAlike
forks_end_alike world names name words it task called fresh other credentials granted_so =
    tasks_end_alike world names (child_name task ∷ names) name (Fork words) it task called fresh other
    (Child (child_name task)) refl (made world.tasks) (made part.tasks) (ap (run_by it world fresh task) granted_so)
    (ran_there it fresh other task called granted_so) (leaves names name it.is called credentials world
    (λ t m. m) member.among) (leaves names name it.is called credentials part in_world
    (subst (Among task) (sym (same_members world names)) member.among)) (alike world.tasks (λ t m. m) ∙ sym
    (alike part.tasks in_world ∙ ap (λ l. map (both names name it.is called credentials) l ++ kid names
    name it.is called credentials ∷ []) (same_members world names)))
  where
    part : World ℕ
    part = part_of nat_eq world names

    made : List (Task ℕ) → List (Task ℕ)
    made tasks =
        map (replaced_if_called (record task { forks = task.forks + 1 })) tasks ++ (child_of task credentials ∷ [])

    member : IsMember world names task
    member = caller_in it called

    in_world : (t : Task ℕ) → Among t part.tasks → Among t world.tasks
    in_world t m = (among-from_filter (is_member_task names) world.tasks t m).0

    alike : (tasks : List (Task ℕ)) → ((t : Task ℕ) → Among t tasks → Among t world.tasks)
        → filter (is_member_task (child_name task ∷ names)) (map (raised_task name) (made tasks))
        ≡ map (both names name it.is called credentials) (filter (is_member_task names) tasks)
        ++ kid names name it.is called credentials ∷ []
    alike tasks all = cc (
      raised_all names name it.is called credentials tasks,
      sift names name it.is called credentials tasks all,
    )
