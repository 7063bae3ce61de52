-- The world of an unshare: the namespaces count their tasks, and the old one ends with its last.
use Rattle.std.proofs.Common.{◌≡◌, refl, sym, ap, subst, ◌∙◌, ⊎_elim, ℕ, nat_eq, eqb-true, eq-eqb, Bool, true, false, true≢false, ◌&&◌, ◌||◌, List, [], ◌∷◌, ◌++◌, map, flat_map, Option, Some, None, arith, option_to_list}
use Rattle.vt_spec.proofs.Common.{Mount, MountInvariants, Namespace, Task, TaskName, World, and_parts, common_steps, has_tasks, holds_of, is_among, is_in_ended, is_listed, list_all, map-append, namespaces_ended, numbers_in_use, regrouped, unshared, used_by_filesystem, used_by_mount}
use Rattle.vt_mounting.proofs.Common.{Among, CountsWhatIsInIt, NamespaceEntry, Tasks, WorldValue, among-append, among-append_right, among-from_filter, among-from_map, among-map, among_from_all, among_from_list_all, among_numbers, counted, counted_test, counts_from, filter_alike, is_among_left, is_among_numbers, namespace_of, one_if, times, world_of}
use Rattle.vt_laws_mounts.proofs.namespaces.Unsharing.{unshare_keeps_mounts}
use Rattle.vt_laws_mounts.proofs.letting_go.Lists.{is_among_right}
use Rattle.vt_mounting.specs.Detach.NamespacesLeft.{with_one_task_less}
use Rattle.vt_mounting.proofs.attach.AddedBegins.{IsAdded, with_added}
use Rattle.vt_mounting.proofs.detach.LeavingNamespaces.{and-false}
use Rattle.vt_mounting.proofs.detach.Moving.{nat_eq_turned}
use Rattle.vt_mounting.proofs.detach.NamespacesEnded.{AllCountOneMore, CountsOneMore, ends, in_ended_is, namespaces_are, tasks_counted}
use Rattle.vt_mounting.proofs.detach.NamespacesTyped.{CanGo, left_world, taken_is_left}
use Rattle.vt_mounting.proofs.detach.Splits.{times_replaced}
use Rattle.vt_mounting.proofs.attach.UnsharedTasks.{Unsharing, added, another, come_to, copied, gone_from, moved_task, new_namespace, task_is_moved, tasks_moved}

-- and its namespace has the number `count`
pub record UnsharingFrom (value : WorldValue) (name : TaskName) (task : Task ℕ) (count : ℕ) : Type 0 where
  pub unsharing : Unsharing value name task (counts_from value.next)
  pub open unsharing use *
  pub in_namespace : counted count ≡ task.namespace

module _ {value : WorldValue} {name : TaskName} {task : Task ℕ} {count : ℕ}
    (it : UnsharingFrom value name task count) where
  open it use {unsharing, in_namespace, whole, found, serves}

  abbrev world : World ℕ
  world = world_of value

  abbrev pub new : ℕ
  new = new_namespace unsharing

  abbrev pub moved : Tasks
  moved = tasks_moved unsharing

  abbrev pub copies : List (Mount ℕ)
  copies = added unsharing

  -- the namespaces with the new one, which has one task
  abbrev pub entries : List NamespaceEntry
  entries = value.namespaces ++ (record { count = value.next; tasks = 1 } ∷ [])

  pub new_is : counted value.next ≡ new
  new_is = omega arith

  not_new : (number : ℕ) → Among number (map (λ (n : Namespace ℕ). n.number) world.namespaces)
      → nat_eq number new ≡ false
  not_new number listed = by (nat_eq number new) refl
    where
      by : (b : Bool) → nat_eq number new ≡ b → b ≡ false
      by false e = refl
      by true e = absurd (true≢false (sym (is_among_numbers new (numbers_in_use world)
          (subst (λ n. Among n (numbers_in_use world)) (eqb-true number new e)
          (among-append_right (flat_map used_by_mount world.mounts ++ flat_map used_by_filesystem world.filesystems)
          (map (λ (n : Namespace ℕ). n.number) world.namespaces) number listed))) ∙ serves.unused 0))

  -- no task is in the new one
  none_in_new : (tasks : Tasks) → ((one : Task ℕ) → Among one tasks → nat_eq new one.namespace ≡ false)
      → times (λ (one : Task ℕ). nat_eq new one.namespace) tasks ≡ 0
  none_in_new [] none = refl
  none_in_new (one ∷ tasks) none = grind (arith, common_steps, none_in_new tasks)

  listed_task : (one : Task ℕ) → Among one value.tasks → nat_eq new one.namespace ≡ false
  listed_task one m = nat_eq_turned new one.namespace
      ∙ not_new one.namespace (among_numbers one.namespace (map (λ (n : Namespace ℕ). n.number) world.namespaces)
      (among_from_list_all (λ (other : Task ℕ). is_listed nat_eq world other.namespace) world.tasks
      whole.in_world.namespaces.tasks_listed one m))

  abbrev inside_of : ℕ → Task ℕ → Bool
  inside_of number one = nat_eq number one.namespace

  entry_counts : (entry : NamespaceEntry) → Among entry entries → CountsOneMore count moved entry
  entry_counts entry m = ⊎_elim (λ old.
      let was = (among_from_all (CountsWhatIsInIt world) value.namespaces whole.namespaces entry old).tasks in
      let number = among-map namespace_of value.namespaces entry old in
      let other = not_new (counted entry.count)
      (among-map (λ (n : Namespace ℕ). n.number) world.namespaces (namespace_of entry) number) in
      let all = times_replaced name value.tasks task
      (moved_task unsharing) whole.in_world.tasks.one_task found refl (inside_of (counted entry.count)) in
      let mine : one_if (nat_eq (counted entry.count) task.namespace) ≡ one_if (nat_eq count entry.count) =
      ap one_if (ap (nat_eq (counted entry.count)) (sym in_namespace) ∙ counted_test entry.count count
      ∙ nat_eq_turned entry.count count) in
      let none : one_if (nat_eq (counted entry.count) new) ≡ 0 = ap one_if other in
      record {
        inside = omega (arith, was, all, mine, none);
        some = ap (λ n. nat_eq n 0) was ∙ tasks_counted (counted entry.count) value.tasks
            (among_from_list_all (has_tasks nat_eq world) world.namespaces whole.in_world.namespaces.namespaces_live
            (namespace_of entry) number);
      }) (λ rest. ⊎_elim (λ last. subst (CountsOneMore count moved) (sym last) new_counts) (λ none. absurd none) rest)
      (among-append value.namespaces (record { count = value.next; tasks = 1 } ∷ []) entry m)
    where
      new_counts : CountsOneMore count moved (record { count = value.next; tasks = 1 })
      new_counts =
          let all = times_replaced name value.tasks task
          (moved_task unsharing) whole.in_world.tasks.one_task found refl (inside_of new) in
          let none = none_in_new value.tasks listed_task in
          let own : one_if (nat_eq new new) ≡ 1 = ap one_if (eq-eqb new new refl) in
          let apart = another unsharing in
          let mine : one_if (nat_eq new task.namespace) ≡ 0 = ap one_if (nat_eq_turned new task.namespace ∙ apart) in
          let last : one_if (nat_eq count value.next) ≡ 0 =
          ap one_if (sym (counted_test count value.next) ∙ ap (λ n. nat_eq n (counted value.next)) in_namespace
          ∙ ap (nat_eq task.namespace) new_is ∙ apart) in
          let here : times (inside_of new) moved ≡ 1 = omega (arith, all, none, own, mine) in
          let there : times (inside_of (counted value.next)) moved ≡ 1 = ap (λ n. times (inside_of n) moved) new_is
          ∙ here in
          record { inside = omega (arith, there, last); some = refl }

  pub entries_count : AllCountOneMore count moved entries
  entries_count = record { each = entry_counts }

  -- The world after it

  -- the old namespace's mounts go, if it ends
  abbrev pub inside : Option ℕ → Bool
  inside o = ends entries_count && holds_of (nat_eq (counted count)) o

  pub nowhere_stays : inside None ≡ false
  nowhere_stays = and-false (ends entries_count)

  pub new_stays : inside (Some new) ≡ false
  new_stays = ap (λ b. ends entries_count && b)
      (ap (λ n. nat_eq n new) in_namespace ∙ another unsharing) ∙ nowhere_stays

  module _ (more : List (Mount ℕ)) (same : more ≡ copies) where
    -- with the copies and the new namespace
    abbrev pub base : World ℕ
    base = record (with_added value more moved) {
      namespaces = world.namespaces ++ (record { number = new; change = 0 } ∷ []);
    }

    is_unshared : unshared nat_eq world (counts_from value.next) task ≡ base
    is_unshared = ap (λ all. record (with_added value all moved) {
      namespaces = world.namespaces ++ (record { number = new; change = 0 } ∷ []);
    }) (sym same)

    pub base_holds : MountInvariants nat_eq base
    base_holds = subst (MountInvariants nat_eq) is_unshared
        (unshare_keeps_mounts world (counts_from value.next) task serves whole.in_world.mounts)

    pub is_added : IsAdded value more moved (come_to unsharing) (gone_from unsharing) (λ mount. inside mount.namespace)
    is_added = subst (λ all. IsAdded value all moved (come_to unsharing) (gone_from unsharing)
        (λ mount. inside mount.namespace)) (sym same) (task_is_moved unsharing inside new_stays)

    -- a copy is of a mount that was there
    pub copy_of : (mount : Mount ℕ) → Among mount more
        → (was : Mount ℕ) × Among was world.mounts × (mount.namespace ≡ Some new)
        × (mount.propagation ≡ was.propagation)
    copy_of mount m =
        let from = among-from_map _ (copied unsharing) mount
        (subst (Among mount) same m) in
        let was = among-from_filter (λ (x : Mount ℕ). holds_of (nat_eq task.namespace) x.namespace) world.mounts
        from.0 from.1 in
        (from.0, was.0, ap (λ (x : Mount ℕ). x.namespace) from.2, ap (λ (x : Mount ℕ). x.propagation) from.2)

    abbrev pub goes : Mount ℕ → Bool
    goes mount = inside mount.namespace

    same_namespaces : base.namespaces ≡ map namespace_of entries
    same_namespaces = (λ i. world.namespaces ++ (record { number = sym new_is i; change = 0 } ∷ []))
        ∙ sym (map-append namespace_of value.namespaces (record { count = value.next; tasks = 1 } ∷ []))

    listed : (mount : Mount ℕ) → Among mount base.mounts
        → list_all (is_listed nat_eq base) (option_to_list mount.namespace) ≡ true
    listed mount m = ⊎_elim
        (λ old. by mount.namespace (among_from_list_all (λ (x : Mount ℕ). list_all (is_listed nat_eq world)
        (option_to_list x.namespace)) world.mounts whole.in_world.namespaces.mounts_listed mount old)) (λ copy.
        ap (λ o. list_all (is_listed nat_eq base) (option_to_list o)) (copy_of mount copy).2 ∙ ap (λ b. b && true)
        (ap (is_among nat_eq new) (map-append (λ (n : Namespace ℕ). n.number) world.namespaces
        (record { number = new; change = 0 } ∷ []))
        ∙ is_among_right new (map (λ (n : Namespace ℕ). n.number) world.namespaces) (new ∷ [])
        (ap (λ b. b || false) (eq-eqb new new refl)))) (among-append world.mounts more mount m)
      where
        by : (o : Option ℕ) → list_all (is_listed nat_eq world) (option_to_list o) ≡ true
            → list_all (is_listed nat_eq base) (option_to_list o) ≡ true
        by None e = refl
        by (Some n) e = ap (λ b. b && true)
            (ap (is_among nat_eq n) (map-append (λ (x : Namespace ℕ). x.number) world.namespaces
            (record { number = new; change = 0 } ∷ []))
            ∙ is_among_left n (map (λ (x : Namespace ℕ). x.number) world.namespaces) (new ∷ [])
            (and_parts (is_listed nat_eq world n) true e).0)

    -- the namespaces that have tasks
    abbrev pub remaining : List (Namespace ℕ)
    remaining = map namespace_of (with_one_task_less count entries)

    -- the policy's world before the sweep: these mounts are detached, and then the groups without members end
    pub ended_is : (can_go : CanGo base goes) → namespaces_ended nat_eq (unshared nat_eq world (counts_from value.next) task)
        ≡ regrouped nat_eq (left_world can_go moved remaining)
    ended_is can_go =
        cc (
          is_unshared,
          filter_alike (is_in_ended nat_eq base) goes base.mounts (λ mount m.
              in_ended_is entries_count base refl same_namespaces mount (listed mount m)),
          namespaces_are entries_count base refl same_namespaces,
          taken_is_left can_go moved remaining,
        )
