-- Each exit ends in the part as in the world.
use Rattle.std.proofs.Common.{inr, arith, ◌≡◌, refl, sym, ap, ◌∙◌, inl, ⊎_elim, ℕ, nat_eq, Bool, true, false, cond, true≢false, List, [], ◌∷◌, Option, Some, None, filter, not, ◌||◌, eq-eqb, eqb-true}
use Rattle.vt_spec.proofs.Common.{Among, Done, Exit, Fresh, HasLivingGroups, Mount, Namespace, Propagation, Task, TaskName, World, among-filter, among-filter_map, among-flat_map, among-from_filter, among-from_flat_map, among_from_all, among_from_list_all, any_among, any_from_among, common_steps, granted, has_members, has_tasks, is_lost_group, is_member_of, is_member_task, is_own_mount, is_private, list_all, list_all_from_among, list_any, locations_of, lost_a_group, members, namespaces_ended, none_from_among, none_is_some, not-true, numbers_raised, own_mounts, part_of, same_name, same_truth, settled, source_of, task_called, then_some, judging}
use Rattle.vt_laws_members.proofs.judging.Common.{directory_theirs, own_whole, root_theirs, sealing_of}
use Rattle.vt_laws_members.proofs.Common.{cases_Option, Hears, IsApart, Living, MountsAreListed, apart_if_sealed, heard_above, is_own, keep, namespace_outside, no_namespace_ends, none_lost, own_member, start_hears}
use Rattle.vt_laws_members.specs.Changes.Changes.{EndsAlike, IsCallOfTheirs, left}
use Rattle.vt_laws_members.specs.Changes.LettingGo.{ExitsEndAlike}
use Rattle.vt_laws_members.proofs.changes.tasks.Denied.{unnamed_ends_alike}
use Rattle.vt_laws_members.proofs.changes.letting_go.Changed.{LetsGo}
use Rattle.vt_laws_members.proofs.changes.letting_go.Ends.{let_go_alike, private_in_part}
use Rattle.vt_laws_members.proofs.changes.letting_go.ExitLast.{last_exit_alike}
use Rattle.vt_laws_members.proofs.changes.letting_go.Leaving.{all_left, is_task, its_name, member, new_old, old_new, others_left, own_part, part_listed, same_left, tasks, tasks_too}

-- a world whose namespaces have tasks, and whose groups have members, stays
pub none_ends : (b : World ℕ) → MountsAreListed b → list_all (has_tasks nat_eq b) b.namespaces ≡ true
    → list_any (lost_a_group nat_eq b) b.mounts ≡ false → namespaces_ended nat_eq b ≡ b
none_ends b listed all none = cc (no_namespace_ends b listed all)

module _ {world : World ℕ} {names : List TaskName} {name : TaskName} (it : IsCallOfTheirs world names name Exit)
    (task : Task ℕ) (called : task_called world name ≡ Some task) where
  abbrev its_part : World ℕ
  its_part = part_of nat_eq world names

  abbrev its_old : List (Task ℕ)
  its_old = members world names

  abbrev its_rest : List (Task ℕ)
  its_rest = tasks_too it task called

  apart : IsApart world names
  apart = apart_if_sealed (sealing_of it)

  -- each group that a mount of the part receives from has a member there
  heard_there : (g : ℕ) → Hears world names it.is.mounts apart.events g → Living world names it.is.mounts apart.events g
      → has_members nat_eq its_part.mounts g ≡ true
  heard_there g heard lives =
      let own = own_member world names it.is.mounts apart.events g heard lives in
      let from = among-from_filter (is_own_mount nat_eq world names) world.mounts own.0 own.1 in
      any_from_among (is_member_of nat_eq g) its_part.mounts own.0
      (among-filter_map (keep world names its_old) world.mounts own.0 own.0 from.0
      (own_whole world names it.is own.0 from.1)) own.2

  source_placed : (kind : Propagation ℕ) (g : ℕ) → source_of kind ≡ Some g → is_private kind ≡ true → ⊥
  source_placed kind g e p = grind (arith, common_steps, true≢false, none_is_some)

  pub part_keeps : list_any (lost_a_group nat_eq (record its_part { tasks = its_rest })) its_part.mounts ≡ false
  part_keeps = none_from_among (lost_a_group nat_eq its_part) its_part.mounts (λ y m. by y m _ refl)
    where
      above : (g : ℕ) → Hears world names it.is.mounts apart.events g → Living world names it.is.mounts apart.events g
          → (b : Bool) (o : Option ℕ) → world.master g ≡ o → is_lost_group nat_eq its_part (cond b o None) ≡ false
      above g heard lives false o e = refl
      above g heard lives true None e = refl
      above g heard lives true (Some up) e =
          let higher = heard_above world names it.is.mounts apart.events up g e (heard, lives) in
          ap not (heard_there up higher.0 higher.1)

      placed : (y : Mount ℕ) → Among y its_part.mounts → (g : ℕ) → source_of y.propagation ≡ Some g → (o : Option ℕ)
          → y.namespace ≡ o → Among y world.mounts × (is_own world names its_old y ≡ true)
      placed y m g e None f = absurd (source_placed y.propagation g e (private_in_part world names it.is y m f))
      placed y m g e (Some n) f = own_part it task called y m n f

      by : (y : Mount ℕ) → Among y its_part.mounts → (o : Option ℕ) → source_of y.propagation ≡ o
          → (is_lost_group nat_eq its_part o || is_lost_group nat_eq its_part (then_some o its_part.master)) ≡ false
      by y m None e = refl
      by y m (Some g) e =
          let own = placed y m g e y.namespace refl in
          let heard : Hears world names it.is.mounts apart.events g = (
            y,
            among-filter (is_own_mount nat_eq world names) world.mounts y own.0 own.1,
            start_hears world g y.propagation e,
          ) in
          let lives = among_from_all (HasLivingGroups nat_eq world) world.mounts it.is.mounts.groups y own.0 g e in
          ap (λ b. not b || is_lost_group nat_eq its_part (its_part.master g)) (heard_there g heard lives)
          ∙ above g heard lives (list_any (is_member_of nat_eq g) (own_mounts nat_eq world names)) (world.master g) refl

module _ {world : World ℕ} {names : List TaskName} {name : TaskName} (it : IsCallOfTheirs world names name Exit)
    {task : Task ℕ} (called : task_called world name ≡ Some task) (other : Task ℕ) (there : Among other world.tasks)
    (together : other.namespace ≡ task.namespace) (differ : same_name name other.name ≡ false) where
  abbrev part : World ℕ
  part = part_of nat_eq world names

  abbrev old : List (Task ℕ)
  old = members world names

  abbrev set : List TaskName
  set = left names name Exit

  abbrev stays : Task ℕ → Bool
  stays t = not (same_name name t.name)

  abbrev rest : List (Task ℕ)
  rest = tasks it task called

  abbrev rest_too : List (Task ℕ)
  rest_too = tasks_too it task called

  abbrev new : List (Task ℕ)
  new = filter (is_member_task set) rest

  -- the other one is theirs, and stays
  other_member : is_member_task names other ≡ true
  other_member = by (is_member_task names other) refl
    where
      by : (b : Bool) → is_member_task names other ≡ b → b ≡ true
      by true e = refl
      by false e = absurd (true≢false (sym (any_from_among (λ (t : Task ℕ). nat_eq other.namespace t.namespace) old task
          (member it task called).among (eq-eqb other.namespace task.namespace together))
          ∙ namespace_outside world names (apart it task called) other
          (among-filter (λ t. not (is_member_task names t)) world.tasks other there (ap not e))))

  other_stays : stays other ≡ true
  other_stays = cc

  -- a namespace with a task still has one
  entered : (n : ℕ) (list : List (Task ℕ)) → ((t : Task ℕ) → Among t list → Among t world.tasks) → Among other list
      → list_any (λ (t : Task ℕ). nat_eq n t.namespace) list ≡ true
      → list_any (λ (t : Task ℕ). nat_eq n t.namespace) (filter stays list) ≡ true
  entered n list within m h = grind (arith, common_steps, any_among, any_from_among, among-filter, is_task, other_stays)

  pub in_old : Among other old
  in_old = among-filter (is_member_task names) world.tasks other there other_member

  lets_go : LetsGo (sealing_of it) set rest
  lets_go = record {
    own = λ n. same_truth (list_any (λ (t : Task ℕ). nat_eq n t.namespace) new)
        (list_any (λ (t : Task ℕ). nat_eq n t.namespace) old)
        (λ h. let at = any_among (λ (t : Task ℕ). nat_eq n t.namespace) new h in
        any_from_among (λ (t : Task ℕ). nat_eq n t.namespace) old at.0 (new_old it task called at.0 at.1) at.2)
        (λ h. let at = any_among (λ (t : Task ℕ). nat_eq n t.namespace) (filter stays old)
        (entered n old (λ t m. (among-from_filter (is_member_task names) world.tasks t m).0) in_old h) in
        any_from_among (λ (t : Task ℕ). nat_eq n t.namespace) new at.0
        (old_new it task called at.0 at.1) at.2);
    roots = λ l m.
        let from = among-from_flat_map (λ (t : Task ℕ). t.root ∷ t.directory ∷ []) new l m in
        let t = new_old it task called from.0 from.1 in
        ⊎_elim (λ e. rw e (root_theirs world names it.is from.0 t)) (λ rest.
        ⊎_elim (λ e. rw e (directory_theirs world names it.is from.0 t)) (λ none. absurd none) rest) from.2;
    places = λ l m. let from = among-from_flat_map locations_of new l m in
        inl (among-flat_map locations_of old from.0 l (new_old it task called from.0 from.1) from.2);
    others = others_left it task called;
  }

  -- No namespace ends
  world_stays : namespaces_ended nat_eq (record world { tasks = rest }) ≡ record world { tasks = rest }
  world_stays = none_ends _ it.is.namespaces.mounts_listed (list_all_from_among
      (has_tasks nat_eq (record world { tasks = rest })) world.namespaces
      (λ n m. entered n.number world.tasks (λ t k. k) there (among_from_list_all (has_tasks nat_eq world)
      world.namespaces it.is.namespaces.namespaces_live n m))) (none_lost world it.is.mounts)

  part_stays : namespaces_ended nat_eq (record part { tasks = rest_too }) ≡ record part { tasks = rest_too }
  part_stays = none_ends (record part { tasks = rest_too }) (part_listed it task called)
      (list_all_from_among (has_tasks nat_eq (record part { tasks = rest_too })) part.namespaces
      (λ n m. entered n.number old (λ t k. (among-from_filter (is_member_task names) world.tasks t k).0) in_old
      (among-from_filter (λ (s : Namespace ℕ). list_any (λ (t : Task ℕ). nat_eq s.number t.namespace) old)
      world.namespaces n m).1)) (part_keeps it task called)

  pub exit_alike : (fresh supply : Fresh ℕ) → EndsAlike world names name Exit fresh supply
  unfolding judging
  exit_alike fresh supply = let_go_alike world names set name Exit it task called fresh supply Done refl rest rest_too
      (ap (λ n. granted Done (numbers_raised nat_eq world name []
      (settled nat_eq (namespaces_ended nat_eq (record world
      { tasks = filter (λ (t : Task ℕ). not (same_name n t.name)) world.tasks }))))) (sym (its_name it task called))
      ∙ ap (λ w. granted Done (numbers_raised nat_eq world name [] (settled nat_eq w))) world_stays)
      (ap (λ n. granted Done (numbers_raised nat_eq part name []
      (settled nat_eq (namespaces_ended nat_eq (record part
      { tasks = filter (λ (t : Task ℕ). not (same_name n t.name)) part.tasks }))))) (sym (its_name it task called))
      ∙ ap (λ w. granted Done (numbers_raised nat_eq part name [] (settled nat_eq w))) part_stays) lets_go
      (same_left it task called) (all_left it task called)

pub exits_end_alike : ExitsEndAlike
exits_end_alike world names name it fresh supply = elim (cases_Option (task_called world name)) [
  | inl e ↦ unnamed_ends_alike it fresh supply e
  | inr its ↦ last_or_not its.0 its.1 (list_any (λ (t : Task ℕ). nat_eq its.0.namespace t.namespace)
      (filter (λ (t : Task ℕ). not (same_name name t.name)) world.tasks)) refl
]
  where
    last_or_not : (task : Task ℕ) → task_called world name ≡ Some task → (b : Bool)
        → list_any (λ (t : Task ℕ). nat_eq task.namespace t.namespace)
        (filter (λ (t : Task ℕ). not (same_name name t.name)) world.tasks) ≡ b
        → EndsAlike world names name Exit fresh supply
    last_or_not task e true h =
        let other = any_among (λ (t : Task ℕ). nat_eq task.namespace t.namespace)
        (filter (λ (t : Task ℕ). not (same_name name t.name)) world.tasks) h in
        let from = among-from_filter (λ (t : Task ℕ). not (same_name name t.name)) world.tasks other.0 other.1 in
        exit_alike it e other.0 from.0 (sym (eqb-true task.namespace other.0.namespace other.2))
        (not-true (same_name name other.0.name) from.1) fresh supply
    last_or_not task e false h = last_exit_alike it task e h fresh supply
