-- The caller gets other locations: some that it had, and others where members get.
use Rattle.std.proofs.Common.{◌≡◌, refl, sym, ap, subst, ◌∙◌, ◌⊎◌, inl, inr, ⊎_elim, ℕ, nat_eq, Bool, true, false, cond, true≢false, List, [], ◌∷◌, Some, Ok, filter, map, not}
use Rattle.vt_spec.proofs.Common.{Among, Call, Done, Fresh, Location, Task, TaskName, World, among-flat_map, among-from_filter, among-from_flat_map, among-from_map, found_among, is_member_task, list_any, locations, locations_of, members, name-replaced_if_called, outsiders, part_of, replaced_if_called, roots_and_directories, same_name, same_task_name, task_called}
use Rattle.vt_laws_members.proofs.judging.Common.{IsMember, IsTheirs, caller_in, directory_theirs, root_theirs}
use Rattle.vt_laws_members.proofs.Common.{filter-map, same_members}
use Rattle.vt_laws_members.specs.Changes.Changes.{EndsAlike, IsCallOfTheirs, grown}
use Rattle.vt_laws_members.proofs.changes.looks.Told.{ran}
use Rattle.vt_laws_members.proofs.changes.tasks.Ending.{with_tasks}
use Rattle.vt_laws_members.proofs.changes.tasks.Rights.{any_mapped, only_task}
use Rattle.vt_laws_members.proofs.changes.letting_go.Ends.{let_go_alike}

-- a task in the place of the caller
module _ {world : World ℕ} {names : List TaskName} {name : TaskName} {call : Call}
    (it : IsCallOfTheirs world names name call) (task : Task ℕ) (called : task_called world name ≡ Some task)
    (mine : Task ℕ) (named : mine.name ≡ task.name) where
  -- it is the caller, or as it was
  pub replaced_apart : (t : Task ℕ) → Among t world.tasks → ((replaced_if_called mine t ≡ mine) × (task ≡ t))
      ⊎ ((replaced_if_called mine t ≡ t) × (same_name mine.name t.name ≡ false))
  replaced_apart t m = by (same_name mine.name t.name) refl
    where
      by : (b : Bool) → same_name mine.name t.name ≡ b
          → ((cond b mine t ≡ mine) × (task ≡ t)) ⊎ ((cond b mine t ≡ t) × (same_name mine.name t.name ≡ false))
      by true e = inl (
        refl,
        only_task world.tasks it.is.tasks.one_task task t
            (found_among (λ (x : Task ℕ). same_name name x.name) world.tasks task called) m
            (sym named ∙ same_task_name mine.name t.name e),
      )
      by false e = inr (refl, e)

  pub replaced_how : (t : Task ℕ) → Among t world.tasks
      → ((replaced_if_called mine t ≡ mine) × (task ≡ t)) ⊎ (replaced_if_called mine t ≡ t)
  replaced_how t m = ⊎_elim inl (λ same. inr same.0) (replaced_apart t m)

  -- in the same namespace
  pub spaces_kept : mine.namespace ≡ task.namespace → (n : ℕ)
      → list_any (λ (t : Task ℕ). nat_eq n t.namespace) (map (replaced_if_called mine) (members world names))
      ≡ list_any (λ (t : Task ℕ). nat_eq n t.namespace) (members world names)
  spaces_kept spaced n =
      any_mapped (λ (t : Task ℕ). nat_eq n t.namespace) (λ (t : Task ℕ). nat_eq n t.namespace) (replaced_if_called mine)
      (members world names) (λ t m. cc (⊎_elim (λ its. ap (λ (x : Task ℕ). x.namespace) its.0 ∙ spaced ∙
      ap (λ (x : Task ℕ). x.namespace) its.1) (λ same. ap (λ (x : Task ℕ). x.namespace) same)
      (replaced_how t (among-from_filter (is_member_task names) world.tasks t m).0)))

-- the caller after the call
pub record StandsOnTheirs (world : World ℕ) (names : List TaskName) (name : TaskName) (call : Call)
    (it : IsCallOfTheirs world names name call) (task mine : Task ℕ) : Type 0 where
  pub named : mine.name ≡ task.name
  pub root : IsTheirs world names it.is.mounts mine.root.mount
  pub directory : IsTheirs world names it.is.mounts mine.directory.mount
  pub places : (l : Location ℕ) → Among l (locations_of mine)
      → Among l (locations_of task) ⊎ IsTheirs world names it.is.mounts l.mount

module _ {world : World ℕ} {names : List TaskName} {name : TaskName} {call : Call}
    (it : IsCallOfTheirs world names name call) (task : Task ℕ) (called : task_called world name ≡ Some task)
    (mine : Task ℕ)
    (stands : StandsOnTheirs world names name call it task mine) where
  abbrev part : World ℕ
  part = part_of nat_eq world names

  abbrev theirs : List (Task ℕ)
  theirs = members world names

  abbrev OnTheirs : Location ℕ → Type 0
  OnTheirs l = IsTheirs world names it.is.mounts l.mount

  abbrev pub replaced : Task ℕ → Task ℕ
  replaced = replaced_if_called mine

  there : (t : Task ℕ) → Among t theirs → Among t world.tasks
  there t m = (among-from_filter (is_member_task names) world.tasks t m).0

  member : IsMember world names task
  member = caller_in it called

  how : (t : Task ℕ) → Among t world.tasks → ((replaced t ≡ mine) × (task ≡ t)) ⊎ (replaced t ≡ t)
  how = replaced_how it task called mine stands.named

  pub of_set : (tasks : List (Task ℕ))
      → filter (is_member_task names) (map replaced tasks) ≡ map replaced (filter (is_member_task names) tasks)
  of_set tasks = filter-map (is_member_task names) replaced tasks (λ t. cc (name-replaced_if_called mine t))

  of_others : filter (λ t. not (is_member_task names t)) (map replaced world.tasks) ≡ map replaced
      (outsiders world names)
  of_others =
      filter-map (λ t. not (is_member_task names t)) replaced world.tasks (λ t. cc (name-replaced_if_called mine t))

  root_its : (t : Task ℕ) → Among t theirs → (l : Location ℕ)
      → Among l ((replaced t).root ∷ (replaced t).directory ∷ []) → OnTheirs l
  root_its t m l at = ⊎_elim (λ its. one_of mine stands.root stands.directory (rw (← its.0) at))
      (λ same. one_of t (root_theirs world names it.is t m) (directory_theirs world names it.is t m) (rw (← same) at))
      (how t (there t m))
    where
      one_of : (x : Task ℕ) → OnTheirs x.root → OnTheirs x.directory → Among l (x.root ∷ x.directory ∷ []) → OnTheirs l
      one_of x root directory n = ⊎_elim (λ e. subst OnTheirs (sym e) root)
          (λ rest. ⊎_elim (λ e. subst OnTheirs (sym e) directory) (λ none. absurd none) rest) n

  place_its : (t : Task ℕ) → Among t theirs → (l : Location ℕ) → Among l (locations_of (replaced t))
      → Among l (locations theirs) ⊎ OnTheirs l
  place_its t m l at = ⊎_elim (λ its. ⊎_elim (λ old. inl (among-flat_map locations_of theirs task l member.among old))
      inr (stands.places l (rw (← its.0) at))) (λ same. inl (among-flat_map locations_of theirs t l m (rw (← same) at)))
      (how t (there t m))

  other_its : (t : Task ℕ) → Among t (outsiders world names) → (l : Location ℕ) → Among l (locations_of (replaced t))
      → Among l (locations (outsiders world names))
  other_its t m l at =
      let from = among-from_filter (λ x. not (is_member_task names x)) world.tasks t m in
      ⊎_elim (λ its. absurd (true≢false (sym from.1 ∙ ap not (ap (is_member_task names) (sym its.1)
      ∙ (among-from_filter (is_member_task names) world.tasks task member.among).1))))
      (λ same. among-flat_map locations_of (outsiders world names) t l m
      (subst (λ x. Among l (locations_of x)) same at)) (how t from.0)

  pub roots_left : (l : Location ℕ)
      → Among l (roots_and_directories (filter (is_member_task names) (map replaced world.tasks))) → OnTheirs l
  roots_left l m =
      let from = among-from_flat_map (λ (t : Task ℕ). t.root ∷ t.directory ∷ []) (map replaced theirs) l
      (rw (← of_set world.tasks) m) in
      let t = among-from_map replaced theirs from.0 from.1 in
      root_its t.0 t.1 l (rw (← t.2) from.2)

  pub places_left : (l : Location ℕ) → Among l (locations (filter (is_member_task names) (map replaced world.tasks)))
      → Among l (locations theirs) ⊎ OnTheirs l
  places_left l m =
      let from = among-from_flat_map locations_of (map replaced theirs) l (rw (← of_set world.tasks) m) in
      let t = among-from_map replaced theirs from.0 from.1 in
      place_its t.0 t.1 l (rw (← t.2) from.2)

  pub others_left : (l : Location ℕ)
      → Among l (locations (filter (λ t. not (is_member_task names t)) (map replaced world.tasks)))
      → Among l (locations (outsiders world names))
  others_left l m =
      let from = among-from_flat_map locations_of (map replaced (outsiders world names)) l (rw (← of_others) m) in
      let t = among-from_map replaced (outsiders world names) from.0 from.1 in
      other_its t.0 t.1 l (rw (← t.2) from.2)

  pub same_set : filter (is_member_task names) (map replaced part.tasks)
      ≡ filter (is_member_task names) (map replaced world.tasks)
  same_set = cc (of_set part.tasks, same_members world names, of_set world.tasks)

  pub all_in_set : (t : Task ℕ) → Among t (map replaced part.tasks) → is_member_task names t ≡ true
  all_in_set t m =
      let from = among-from_map replaced part.tasks t m in
      cc (
        from.2,
        name-replaced_if_called mine from.0,
        (among-from_filter (is_member_task names) world.tasks from.0 from.1).1,
      )

  pub moved_alike : (fresh other : Fresh ℕ) → grown names name call (Ok Done) ≡ names
      → ((n : ℕ) → list_any (λ (t : Task ℕ). nat_eq n t.namespace) (map replaced theirs)
      ≡ list_any (λ (t : Task ℕ). nat_eq n t.namespace) theirs)
      → ran name call world fresh (Some task) ≡ with_tasks world name Done (map replaced world.tasks)
      → ran name call part other (Some task) ≡ with_tasks part name Done (map replaced part.tasks)
      → EndsAlike world names name call fresh other
  moved_alike fresh other stays own one two = let_go_alike world names names name call it task called fresh other Done
      stays _ (map replaced part.tasks) one two (record {
        own = λ n. cc (of_set world.tasks, own n);
        roots = roots_left;
        places = places_left;
        others = others_left;
      }) same_set all_in_set
