-- Numbers that follow a call are those of the world that it leaves.
use Rattle.std.proofs.Common.{◌≡◌, ◌≢◌, refl, sym, ap, ◌∙◌, ◌⊎◌, ⊎_elim, inl, inr, ℕ, nat_eq, Bool, true, false, true≢false, ◌&&◌, cond, List, [], ◌∷◌, map, find, Option, Some, None, is_some}
use Rattle.std.specs.List.{list_any}
use Rattle.vt_spec.proofs.Common.{Among, Call, Filesystem, Fresh, Location, Mount, Namespace, SameWorlds, Task, TaskName, World, all_from_among, among-from_map, common_steps, mounts_of, nat_eq_itself, policy, raised, same_list, same_mount, same_mounts_in, same_name, same_name_itself, same_task_name, task_called}
use Rattle.vt_laws_trees.proofs.calls.tasks.TasksLaws.{other_tasks_stay}
use Rattle.vt_laws_trees.specs.Calls.Tasks.{Pivots, task_after}
use Rattle.vt_laws_turns.specs.Dated.{AreOfTheLiving, Dates, HasDates, dated, dates_after}
use Rattle.vt_changes.specs.Following.{Follows, has_filesystem, has_namespace, has_task, if_there, raised_if}
use Rattle.vt_changes.specs.SeenMounts.{SeenMount, mounts_seen, same_all, same_seen, seen_in}
use Rattle.vt_changes.proofs.SameDates.{same_has_task}

-- what is there is found
there : {A : Type 0} (test : A → Bool) (list : List A) (a : A) → Among a list → test a ≡ true
    → is_some (find test list) ≡ true
there test [] a m e = absurd m
there test (first ∷ rest) a m e = by (test first) refl m (there test rest a)
  where
    by : (b : Bool) → test first ≡ b → Among a (first ∷ rest)
        → (Among a rest → test a ≡ true → is_some (find test rest) ≡ true)
        → is_some (cond b (Some first) (find test rest)) ≡ true
    by true f m next = refl
    by false f m next = ⊎_elim (λ is. absurd (true≢false (sym e ∙ ap test is ∙ f))) (λ later. next later e) m

-- mounts are seen the same if they are
lists_seen : (before after : World ℕ) (ones others : List (Mount ℕ))
    → same_list (same_mount nat_eq before after) ones others
    ≡ same_all (map (seen_in before) ones) (map (seen_in after) others)
lists_seen before after [] [] = refl
lists_seen before after [] (b ∷ others) = refl
lists_seen before after (a ∷ ones) [] = refl
lists_seen before after (a ∷ ones) (b ∷ others) =
    ap (λ rest. same_seen (seen_in before a) (seen_in after b) && rest) (lists_seen before after ones others)

pub mounts_told : (before after : World ℕ) (number : ℕ)
    → same_mounts_in nat_eq before after number ≡ same_all (mounts_seen before number) (mounts_seen after number)
mounts_told before after number =
    lists_seen before after (mounts_of nat_eq before number) (mounts_of nat_eq after number)

-- a task that stays, or is moved, is there
there_still : (found : Option (Task ℕ)) (was : Task ℕ) (P : (Location ℕ → Location ℕ) → Type 0)
    (again : (Location ℕ → Location ℕ) → Task ℕ)
    → (found ≡ Some was) ⊎ ((moved : Location ℕ → Location ℕ) × P moved × (found ≡ Some (again moved)))
    → is_some found ≡ true
there_still found was P again (inl same) = ap is_some same
there_still found was P again (inr (moved, pivots, same)) = ap is_some same

module _ (before later : World ℕ) (name : TaskName) (changed : List ℕ) (old new : Dates)
    (follows : Follows before later name changed old new) where
  -- what does not exist has no number
  module _ (fresh : Fresh ℕ) (call : Call) (same : SameWorlds (policy nat_eq fresh before name call).world later)
      (living : AreOfTheLiving old before) where
    was_not : (other : TaskName) → same_name name other ≡ false → has_task later other ≡ false
        → (found : Option (Task ℕ)) → task_called before other ≡ found → task_called before other ≡ None
    was_not other apart gone None e = e
    was_not other apart gone (Some was) e = absurd (true≢false
        (sym stays ∙ same_has_task (policy nat_eq fresh before name call).world later same other ∙ gone))
      where
        other_name : other ≢ name
        other_name is = true≢false (sym (same_name_itself name) ∙ ap (same_name name) (sym is) ∙ apart)

        stays : has_task (policy nat_eq fresh before name call).world other ≡ true
        stays = there_still (task_after fresh before name call other) was (Pivots fresh before name call was.namespace)
            (λ moved. record was { root = moved was.root; directory = moved was.directory })
            (other_tasks_stay fresh before name call other was other_name e)

    pub living_follow : AreOfTheLiving new later
    living_follow = record {
      tasks = λ other none. follows.tasks other ∙ task other none (same_name name other) refl;
      namespaces = λ number none. follows.namespaces number ∙ ap (λ found. if_there (is_some found) (cond
          (same_all (mounts_seen before number) (mounts_seen later number)) (old.namespaces number)
          (raised (old.namespaces number)))) none;
      filesystems = λ number none. follows.filesystems number ∙ ap (λ found. if_there (is_some found)
          (raised_if (list_any (λ one. nat_eq one number) changed) (old.filesystems number))) none;
    }
      where
        task : (other : TaskName) → task_called later other ≡ None → (b : Bool) → same_name name other ≡ b
            → cond b (if_there (has_task later name) (raised (old.tasks other))) (old.tasks other) ≡ 0
        task other none true e = ap (λ exists. if_there exists (raised (old.tasks other)))
            (ap (has_task later) (same_task_name name other e) ∙ ap is_some none)
        task other none false e =
            living.tasks other (was_not other e (ap is_some none) (task_called before other) refl)

  -- what exists has the number that the policy leaves
  module _ (one left : World ℕ) (mounts : one.mounts ≡ before.mounts) (master : one.master ≡ before.master)
      (mounts_left : left.mounts ≡ later.mounts) (master_left : left.master ≡ later.master) where
    abbrev after_it : Dates
    after_it = dates_after old one name changed left

    told : (number : ℕ) → same_mounts_in nat_eq one left number
        ≡ same_all (mounts_seen before number) (mounts_seen later number)
    told number = (λ i. same_mounts_in nat_eq (record one { mounts = mounts i; master = master i })
        (record left { mounts = mounts_left i; master = master_left i }) number) ∙ mounts_told before later number

    tasks_are : (other : TaskName) → has_task later other ≡ true → new.tasks other ≡ after_it.tasks other
    tasks_are other has = follows.tasks other ∙ by (same_name name other) refl
      where
        by : (b : Bool) → same_name name other ≡ b
            → cond b (if_there (has_task later name) (raised (old.tasks other))) (old.tasks other)
            ≡ cond b (raised (old.tasks other)) (old.tasks other)
        by true e = ap (λ exists. if_there exists (raised (old.tasks other)))
            (ap (has_task later) (same_task_name name other e) ∙ has)
        by false e = refl

    namespaces_are : (number : ℕ) → has_namespace later number ≡ true
        → new.namespaces number ≡ after_it.namespaces number
    namespaces_are number has = follows.namespaces number
        ∙ ap (λ exists. if_there exists (cond (same_all (mounts_seen before number) (mounts_seen later number))
        (old.namespaces number) (raised (old.namespaces number)))) has
        ∙ ap (λ b. cond b (old.namespaces number) (raised (old.namespaces number))) (sym (told number))

    filesystems_are : (number : ℕ) → has_filesystem later number ≡ true
        → new.filesystems number ≡ after_it.filesystems number
    filesystems_are number has = follows.filesystems number ∙ ap (λ exists. if_there exists
        (raised_if (list_any (λ one. nat_eq one number) changed) (old.filesystems number))) has

    pub follow_has : HasDates after_it (dated new later)
    follow_has = record {
      tasks = all_from_among _ (dated new later).tasks (λ t m.
          let from = among-from_map _ later.tasks t m in
          ap (λ (x : Task ℕ). x.change) from.2
          ∙ tasks_are from.0.name (there (λ (x : Task ℕ). same_name from.0.name x.name) later.tasks from.0 from.1
          (same_name_itself from.0.name)) ∙ ap (λ (x : Task ℕ). after_it.tasks x.name) (sym from.2));
      namespaces = all_from_among _ (dated new later).namespaces (λ n m.
          let from = among-from_map _ later.namespaces n m in
          ap (λ (x : Namespace ℕ). x.change) from.2
          ∙ namespaces_are from.0.number (there (λ (x : Namespace ℕ). nat_eq from.0.number x.number) later.namespaces
          from.0 from.1 (nat_eq_itself from.0.number))
          ∙ ap (λ (x : Namespace ℕ). after_it.namespaces x.number) (sym from.2));
      filesystems = all_from_among _ (dated new later).filesystems (λ f m.
          let from = among-from_map _ later.filesystems f m in
          ap (λ (x : Filesystem ℕ). x.change) from.2
          ∙ filesystems_are from.0.number (there (λ (x : Filesystem ℕ). nat_eq from.0.number x.number)
          later.filesystems from.0 from.1 (nat_eq_itself from.0.number))
          ∙ ap (λ (x : Filesystem ℕ). after_it.filesystems x.number) (sym from.2));
    }
