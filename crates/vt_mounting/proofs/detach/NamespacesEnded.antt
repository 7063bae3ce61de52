-- The world in which a namespace has ended, and what its entries count.
use Rattle.std.proofs.Common.{◌≡◌, ◌≢◌, refl, sym, ap, subst, ◌∙◌, ⊎_elim, inl, inr, ℕ, ◌+◌, ◌-◌, nat_eq, nat_lt, eqb-true, eq-eqb, Bool, true, false, true≢false, cond, not, ◌&&◌, ◌||◌, List, [], ◌∷◌, map, filter, Option, Some, None, arith, All, nat_le, option_map, option_to_list, leb-false, leb-true, lt-ltb}
use Rattle.vt_spec.proofs.Common.{Location, Mount, Namespace, Task, World, after_going, and-false, and_parts, common_steps, detached, has_tasks, holds_of, is_going, is_in_ended, is_listed, list_all, list_any, map_alike, mount_at, mount_in, mount_numbered, inherited_mount_point, not-true, regrouped, same_Some, taken_away, with_mounts}
use Rattle.vt_mounting.proofs.Common.{Among, CountsWhatIsInIt, NamespaceEntry, OneNumberAMount, Tasks, all_from_among, among-from_filter, among-from_map, among-map, among_numbers, any_from_among, counted, counted_test, filter_all, found_itself, is_among_numbers, namespace_of, none_from_among, times}
use Rattle.vt_mounting.specs.Detach.NamespacesLeft.{entries_left, has_one_task, left_if, namespace_entry, one_task_less, with_one_task_less}
use Rattle.vt_mounting.proofs.detach.LostUses.{positive}
use Rattle.vt_mounting.proofs.detach.Midway.{gone_if}

-- Mounts that are taken away, and no mount that stays is on them

module _ (world : World ℕ) (one : OneNumberAMount world.mounts) (goes : Mount ℕ → Bool)
    (stays : (mount : Mount ℕ) → Among mount world.mounts → goes mount ≡ false → (place : Location ℕ)
    → mount.mount_point ≡ Some place → goes (mount_at nat_eq world place) ≡ false) where
  abbrev gone : List ℕ
  gone = map (λ (mount : Mount ℕ). mount.number) (filter goes world.mounts)

  going_is : (mount : Mount ℕ) → Among mount world.mounts → is_going nat_eq gone mount.number ≡ goes mount
  going_is mount m = by (goes mount) refl
    where
      by : (b : Bool) → goes mount ≡ b → is_going nat_eq gone mount.number ≡ b
      by true e = is_among_numbers mount.number gone
          (among-map (λ (x : Mount ℕ). x.number) (filter goes world.mounts) mount
          (Rattle.vt_laws_mounts.proofs.letting_go.Lists.among-filter goes world.mounts mount m e))
      by false e = none (is_going nat_eq gone mount.number) refl
        where
          none : (b : Bool) → is_going nat_eq gone mount.number ≡ b → b ≡ false
          none false f = refl
          none true f =
              let from = among-from_map (λ (x : Mount ℕ). x.number) (filter goes world.mounts) mount.number
              (among_numbers mount.number gone f) in
              let was = among-from_filter goes world.mounts from.0 from.1 in
              let same : from.0 ≡ mount = sym (found_itself world.mounts one from.0 was.0)
              ∙ ap (mount_in nat_eq world.mounts) (sym from.2) ∙ found_itself world.mounts one mount m in
              sym was.1 ∙ ap goes same ∙ e

  -- what is not there is not taken away
  not_going : (number : ℕ) → goes (mount_numbered nat_eq world number) ≡ false → is_going nat_eq gone number ≡ false
  not_going number e = by (is_going nat_eq gone number) refl
    where
      by : (b : Bool) → is_going nat_eq gone number ≡ b → b ≡ false
      by false f = refl
      by true f =
          let from = among-from_map (λ (x : Mount ℕ). x.number) (filter goes world.mounts) number
          (among_numbers number gone f) in
          let was = among-from_filter goes world.mounts from.0 from.1 in
          cc (was.1, found_itself world.mounts one from.0 was.0, from.2)

  place_stays : (place : Location ℕ) → is_going nat_eq gone place.mount ≡ false
      → inherited_mount_point nat_eq world gone place ≡ place
  place_stays place e = grind (arith, common_steps)

  taken_so : map (after_going nat_eq world gone) world.mounts ≡ map (gone_if goes) world.mounts
  taken_so = map_alike (after_going nat_eq world gone) (gone_if goes) world.mounts (λ mount m.
      ap (λ b. cond b (detached mount)
      (record mount { mount_point = option_map (inherited_mount_point nat_eq world gone) mount.mount_point }))
      (going_is mount m) ∙ by mount m (goes mount) refl)
    where
      same : (mount : Mount ℕ) → Among mount world.mounts → goes mount ≡ false → (o : Option (Location ℕ))
          → mount.mount_point ≡ o → option_map (inherited_mount_point nat_eq world gone) o ≡ o
      same mount m e None f = refl
      same mount m e (Some place) f = ap Some (place_stays place (not_going place.mount (stays mount m e place f)))

      by : (mount : Mount ℕ) → Among mount world.mounts → (b : Bool) → goes mount ≡ b
          → cond b (detached mount) (record mount {
            mount_point = option_map (inherited_mount_point nat_eq world gone) mount.mount_point;
          }) ≡ cond b (detached mount) mount
      by mount m true e = refl
      by mount m false e = λ i. record mount { mount_point = same mount m e mount.mount_point refl i }

  -- they are detached, and then the groups without members end
  pub taken_regrouped : taken_away nat_eq world gone
      ≡ regrouped nat_eq (with_mounts world (map (gone_if goes) world.mounts))
  taken_regrouped = ap (λ mounts. regrouped nat_eq (with_mounts world mounts)) taken_so

-- Entries of namespaces, where one task less is in one of them

-- each counts the tasks in it, and that of this count one more
pub record CountsOneMore (count : ℕ) (tasks : Tasks) (entry : NamespaceEntry) : Type 0 where
  pub inside : entry.tasks ≡ times (λ task. nat_eq (counted entry.count) task.namespace) tasks + cond
      (nat_eq count entry.count) 1 0
  pub some : nat_eq entry.tasks 0 ≡ false

-- a namespace with tasks counts some
pub tasks_counted : (number : ℕ) (all : Tasks) → list_any (λ (task : Task ℕ). nat_eq number task.namespace) all ≡ true
    → nat_eq (times (λ (task : Task ℕ). nat_eq number task.namespace) all) 0 ≡ false
tasks_counted number [] e = absurd (true≢false (sym e))
tasks_counted number (task ∷ all) e = grind (arith, common_steps, tasks_counted number all)

-- Each of the entries counts its tasks, and that of the namespace `count` one more.
pub record AllCountOneMore (count : ℕ) (tasks : Tasks) (entries : List NamespaceEntry) : Type 0 where
  pub each : (entry : NamespaceEntry) → Among entry entries → CountsOneMore count tasks entry

-- whether a namespace ends with the task
abbrev pub ends_by : Option NamespaceEntry → Bool
ends_by None = false
ends_by (Some entry) = has_one_task entry

module _ {count : ℕ} {tasks : Tasks} {entries : List NamespaceEntry} (all : AllCountOneMore count tasks entries) where
  open all use {each as counts}

  abbrev in_it : NamespaceEntry → ℕ
  in_it entry = times (λ (task : Task ℕ). nat_eq (counted entry.count) task.namespace) tasks

  abbrev pub ends : Bool
  ends = ends_by (namespace_entry count entries)

  -- where it is found or not
  found_in : (all : List NamespaceEntry) (o : Option NamespaceEntry) → namespace_entry count all ≡ o
      → ((e : NamespaceEntry) → o ≡ Some e → Among e all × (nat_eq count e.count ≡ true))
      × (o ≡ None → (e : NamespaceEntry) → Among e all → nat_eq count e.count ≡ false)
  found_in [] o is = ((λ e f. absurd (none e (is ∙ f))), (λ f e m. absurd m))
    where
      none : (e : NamespaceEntry) → None ≡ Some e → ⊥
      none e f = cc
  found_in (x ∷ xs) o is = by (nat_eq count x.count) refl is (found_in xs (namespace_entry count xs) refl)
    where
      by : (b : Bool) → nat_eq count x.count ≡ b → cond b (Some x) (namespace_entry count xs) ≡ o
          → ((e : NamespaceEntry) → namespace_entry count xs ≡ Some e → Among e xs × (nat_eq count e.count ≡ true))
          × (namespace_entry count xs ≡ None → (e : NamespaceEntry) → Among e xs → nat_eq count e.count ≡ false)
          → ((e : NamespaceEntry) → o ≡ Some e → Among e (x ∷ xs) × (nat_eq count e.count ≡ true))
          × (o ≡ None → (e : NamespaceEntry) → Among e (x ∷ xs) → nat_eq count e.count ≡ false)
      by true t h later = (
        (λ e f. let same : x ≡ e = same_Some x e (h ∙ f) in
            (inl (sym same), ap (λ (y : NamespaceEntry). nat_eq count y.count) (sym same) ∙ t)),
        (λ f e m. absurd (none (h ∙ f))),
      )
        where
          none : Some x ≡ None → ⊥
          none f = cc
      by false t h later = (
        (λ e f. let from = later.0 e (h ∙ f) in (inr from.0, from.1)),
        (λ f e m. ⊎_elim (λ same. ap (λ (y : NamespaceEntry). nat_eq count y.count) same ∙ t)
            (λ n. later.1 (h ∙ f) e n) m),
      )

  -- who has no task afterwards
  ended_is : (o : Option NamespaceEntry) → namespace_entry count entries ≡ o → (entry : NamespaceEntry)
      → Among entry entries → nat_eq (in_it entry) 0 ≡ (ends_by o && nat_eq count entry.count)
  ended_is o is entry m = by o is (nat_eq count entry.count) refl (counts entry m)
    where
      other : nat_eq count entry.count ≡ false → CountsOneMore count tasks entry → nat_eq (in_it entry) 0 ≡ false
      other e c =
          let same = c.inside ∙ ap (λ b. in_it entry + cond b 1 0) e in
          let plain : entry.tasks ≡ in_it entry = omega (arith, same) in
          ap (λ n. nat_eq n 0) (sym plain) ∙ c.some

      by : (o : Option NamespaceEntry) → namespace_entry count entries ≡ o → (b : Bool) → nat_eq count entry.count ≡ b
          → CountsOneMore count tasks entry → nat_eq (in_it entry) 0 ≡ (ends_by o && b)
      by None f b e c = other ((found_in entries None f).1 refl entry m) c
      by (Some one) f false e c = other e c ∙ sym (and-false (has_one_task one))
      by (Some one) f true e c =
          let from = (found_in entries (Some one) f).0 one refl in
          let same_count : entry.count ≡ one.count = sym (eqb-true count entry.count e)
          ∙ eqb-true count one.count from.1 in
          let here = (counts one from.0).inside ∙ ap (λ b. in_it one + cond b 1 0) from.1 in
          let so : one.tasks ≡ in_it entry + 1 = here
          ∙ ap (λ n. times (λ (task : Task ℕ). nat_eq (counted n) task.namespace) tasks + 1) (sym same_count) in
          ends_when (nat_le one.tasks 1) refl so
        where
          ends_when : (b : Bool) → nat_le one.tasks 1 ≡ b → one.tasks ≡ in_it entry + 1
              → nat_eq (in_it entry) 0 ≡ (b && true)
          ends_when true l so =
              let few = leb-true one.tasks 1 l in
              let zero : in_it entry ≡ 0 = omega (arith, few, so) in eq-eqb (in_it entry) 0 zero
          ends_when false l so =
              let many = leb-false one.tasks 1 l in
              let some : in_it entry ≢ 0 = (λ z. let n : in_it entry ≡ 0 = z in absurd (omega (arith, many, so, n))) in
              Rattle.std.proofs.Common.ne_eqb (in_it entry) 0 some

  -- the entries afterwards
  abbrev new : List NamespaceEntry
  new = with_one_task_less count entries

  new_counts : (o : Option NamespaceEntry) → namespace_entry count entries ≡ o → (entry : NamespaceEntry)
      → Among entry (entries_left count entries o) → entry.tasks ≡ in_it entry
  new_counts None f entry m =
      let c = counts entry m in
      let same = c.inside ∙ ap (λ b. in_it entry + cond b 1 0) ((found_in entries None f).1 refl entry m) in omega
      (arith, same)
  new_counts (Some one) f entry m = by (has_one_task one) m
    where
      by : (b : Bool) → Among entry (cond b
          (filter (λ (other : NamespaceEntry). not (nat_eq count other.count)) entries) (map (left_if count) entries))
          → entry.tasks ≡ in_it entry
      by true n =
          let from = among-from_filter (λ (other : NamespaceEntry). not (nat_eq count other.count)) entries entry n in
          let c = counts entry from.0 in
          let same = c.inside ∙ ap (λ b. in_it entry + cond b 1 0) (not-true (nat_eq count entry.count) from.1) in omega
          (arith, same)
      by false n =
          let from = among-from_map (left_if count) entries entry n in
          subst (λ (e : NamespaceEntry). e.tasks ≡ in_it e) (sym from.2)
          (less from.0 (nat_eq count from.0.count) (counts from.0 from.1).inside)
        where
          less : (e : NamespaceEntry) (b : Bool) → e.tasks ≡ in_it e + cond b 1 0
              → (cond b (one_task_less e) e).tasks ≡ in_it (cond b (one_task_less e) e)
          less e true c = omega (arith, c)
          less e false c = omega (arith, c)

  pub left_counted : (world : World ℕ) → world.tasks ≡ tasks → All (CountsWhatIsInIt world) new
  left_counted world same = all_from_among (CountsWhatIsInIt world) new (λ entry m. record {
    tasks = new_counts (namespace_entry count entries) refl entry m
        ∙ ap (times (λ (task : Task ℕ). nat_eq (counted entry.count) task.namespace)) (sym same);
  })

  -- the namespaces that still have tasks are those of the entries
  module _ (world : World ℕ) (same_tasks : world.tasks ≡ tasks)
      (same_namespaces : world.namespaces ≡ map namespace_of entries) where
    counted_tasks : (number : ℕ) (all : Tasks) → list_any (λ (task : Task ℕ). nat_eq number task.namespace) all
        ≡ nat_lt 0 (times (λ (task : Task ℕ). nat_eq number task.namespace) all)
    counted_tasks number [] = refl
    counted_tasks number (task ∷ all) = grind (arith, common_steps, counted_tasks number all, lt-ltb)

    pub has_tasks_is : (entry : NamespaceEntry) → Among entry entries
        → has_tasks nat_eq world (namespace_of entry) ≡ not (ends && nat_eq count entry.count)
    has_tasks_is entry m = ap (list_any (λ (task : Task ℕ). nat_eq (counted entry.count) task.namespace)) same_tasks
        ∙ counted_tasks (counted entry.count) tasks ∙ positive (in_it entry)
        ∙ ap not (ended_is (namespace_entry count entries) refl entry m)

    pub namespaces_are : filter (has_tasks nat_eq world) world.namespaces ≡ map namespace_of new
    namespaces_are = ap (filter (has_tasks nat_eq world)) same_namespaces
        ∙ filter-at entries (λ entry m. has_tasks_is entry m) ∙ by (namespace_entry count entries)
      where
        filter-at : (all : List NamespaceEntry) → ((entry : NamespaceEntry) → Among entry all
            → has_tasks nat_eq world (namespace_of entry) ≡ not (ends && nat_eq count entry.count))
            → filter (has_tasks nat_eq world) (map namespace_of all)
            ≡ map namespace_of (filter (λ (entry : NamespaceEntry). not (ends && nat_eq count entry.count)) all)
        filter-at [] each = refl
        filter-at (x ∷ xs) each =
            ap (λ b. cond b (namespace_of x ∷ filter (has_tasks nat_eq world) (map namespace_of xs))
            (filter (has_tasks nat_eq world) (map namespace_of xs))) (each x (inl refl))
            ∙ one (not (ends && nat_eq count x.count)) (filter-at xs (λ e n. each e (inr n)))
          where
            one : (b : Bool) → filter (has_tasks nat_eq world) (map namespace_of xs)
                ≡ map namespace_of (filter (λ (entry : NamespaceEntry). not (ends && nat_eq count entry.count)) xs)
                → cond b (namespace_of x ∷ filter (has_tasks nat_eq world) (map namespace_of xs))
                (filter (has_tasks nat_eq world) (map namespace_of xs)) ≡ map namespace_of (cond b (x ∷ filter
                (λ (entry : NamespaceEntry). not (ends && nat_eq count entry.count)) xs)
                (filter (λ (entry : NamespaceEntry). not (ends && nat_eq count entry.count)) xs))
            one true later = ap (λ rest. namespace_of x ∷ rest) later
            one false later = later

        left_same : (all : List NamespaceEntry) → map namespace_of all ≡ map namespace_of (map (left_if count) all)
        left_same [] = refl
        left_same (x ∷ xs) = λ i. one (nat_eq count x.count) i ∷ left_same xs i
          where
            one : (b : Bool) → namespace_of x ≡ namespace_of (cond b (one_task_less x) x)
            one true = refl
            one false = refl

        by : (o : Option NamespaceEntry) → map namespace_of (filter (λ (entry : NamespaceEntry). not
            (ends_by o && nat_eq count entry.count)) entries) ≡ map namespace_of (entries_left count entries o)
        by None = ap (map namespace_of) (filter_all (λ (entry : NamespaceEntry). true) entries (λ entry m. refl))
        by (Some one) = chosen (has_one_task one)
          where
            chosen : (b : Bool) → map namespace_of
                (filter (λ (entry : NamespaceEntry). not (b && nat_eq count entry.count)) entries)
                ≡ map namespace_of (cond b (filter (λ (other : NamespaceEntry). not (nat_eq count other.count)) entries)
                (map (left_if count) entries))
            chosen true = refl
            chosen false = ap (map namespace_of)
                (filter_all (λ (entry : NamespaceEntry). true) entries (λ entry m. refl)) ∙ left_same entries

    -- the mounts of the namespace that ends are those of namespaces without tasks
    pub in_ended_is : (mount : Mount ℕ) → list_all (is_listed nat_eq world) (option_to_list mount.namespace) ≡ true
        → is_in_ended nat_eq world mount ≡ (ends && holds_of (nat_eq (counted count)) mount.namespace)
    in_ended_is mount listed = by mount.namespace listed
      where
        by : (o : Option ℕ) → list_all (is_listed nat_eq world) (option_to_list o) ≡ true
            → holds_of (λ number. not (list_any
            (λ namespace. nat_eq number namespace.number && has_tasks nat_eq world namespace) world.namespaces)) o
            ≡ (ends && holds_of (nat_eq (counted count)) o)
        by None h = sym (and-false ends)
        by (Some number) h =
            let there = (and_parts (is_listed nat_eq world number) true h).0 in
            let from = among-from_map (λ (n : Namespace ℕ). n.number) world.namespaces number
            (among_numbers number (map (λ (n : Namespace ℕ). n.number) world.namespaces) there) in
            let entry = among-from_map namespace_of entries from.0
            (subst (λ all. Among from.0 all) same_namespaces from.1) in
            let is : number ≡ counted entry.0.count = from.2 ∙ ap (λ (n : Namespace ℕ). n.number) entry.2 in
            ap not (lives number entry.0 entry.1 from.0 from.1 is entry.2 (ends && nat_eq count entry.0.count) refl)
            ∙ not_twice (ends && nat_eq count entry.0.count)
            ∙ ap (λ b. ends && b) (sym (counted_test count entry.0.count) ∙ ap (nat_eq (counted count)) (sym is))
          where
            not_twice : (b : Bool) → not (not b) ≡ b
            not_twice true = refl
            not_twice false = refl

            lives : (number : ℕ) (entry : NamespaceEntry) → Among entry entries → (namespace : Namespace ℕ)
                → Among namespace world.namespaces
                → number ≡ counted entry.count → namespace ≡ namespace_of entry → (b : Bool)
                → (ends && nat_eq count entry.count) ≡ b → list_any (λ namespace. nat_eq number namespace.number
                && has_tasks nat_eq world namespace) world.namespaces ≡ not b
            lives number entry m namespace n is same false e =
                any_from_among (λ x. nat_eq number x.number && has_tasks nat_eq world x) world.namespaces namespace n
                (ap (λ b. b && has_tasks nat_eq world namespace)
                (eq-eqb number namespace.number (is ∙ ap (λ (x : Namespace ℕ). x.number) (sym same)))
                ∙ ap (has_tasks nat_eq world) same ∙ has_tasks_is entry m ∙ ap not e)
            lives number entry m namespace n is same true e =
                none_from_among (λ x. nat_eq number x.number && has_tasks nat_eq world x) world.namespaces
                (λ x k. one x (nat_eq number x.number) refl)
              where
                one : (x : Namespace ℕ) (b : Bool) → nat_eq number x.number ≡ b
                    → (b && has_tasks nat_eq world x) ≡ false
                one x false f = refl
                one x true f = ap (λ k. list_any (λ (task : Task ℕ). nat_eq k task.namespace) world.tasks)
                    (sym (eqb-true number x.number f) ∙ is) ∙ has_tasks_is entry m ∙ ap not e
