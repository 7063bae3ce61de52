-- Calls under way that are behind: a number that they hold of their task or of its namespace is overtaken. So it stays.
use Rattle.std.proofs.Common.{arith, ◌≡◌, ◌≢◌, refl, sym, ap, subst, ◌∙◌, ◌⊎◌, inl, inr, ⊎_elim, ℕ, nat_eq, Bool, true, false, true≢false, eq-eqb, List, [], ◌∷◌, ◌*◌, ◌||◌, Some, map, not}
use Rattle.vt_spec.proofs.Common.{Among, Call, Fresh, IsWorld, Namespace, Progress, Sched, Serves, Task, TaskName, Turned, World, among-append_right, among-from_filter, among_from_list_all, among_numbers, common_steps, contains_from_among, found_among, holds_of, is_listed, is_stale, namespace_change_of, or_cases, or_left, or_right, policy, same_name, same_name_itself, some_from_is_some, task_called, turn}
use Rattle.vt_laws_trees.proofs.runs.Each.{Each}
use Rattle.vt_laws_turns.proofs.Common.{other_tasks_stay, unused_number}
use Rattle.vt_laws_turns.proofs.frames.frames.Unraised.{not_stale}
use Rattle.vt_laws_turns.proofs.frames.in_turn.NumbersRise.{Rises, namespace_rises}
use Rattle.vt_laws_turns.proofs.played.Leaving.{Commits, Leaves, turn_leaves}
use Rattle.vt_laws_turns.proofs.played.Leaving.Leaves.{After, Same}
use Rattle.vt_laws_turns.specs.Commits.{Turn}
use Rattle.vt_laws_turns.specs.Holds.Held.{HoldsWhatIsSeen, IsFitTurn, IsNoMore}

-- a call under way without the filesystems that it holds
abbrev pub bare_progress : Progress ℕ → Progress ℕ
bare_progress progress = record progress { filesystems = [] }

-- a number that it holds of its task, or of its namespace, is overtaken
abbrev pub is_behind_by : World ℕ → Progress ℕ → Task ℕ → Bool
is_behind_by world progress task =
    is_stale progress.task_change task.change
    || is_stale progress.namespace_change (namespace_change_of nat_eq world task.namespace)

abbrev pub is_behind : World ℕ → Progress ℕ → Bool
is_behind world progress = holds_of (is_behind_by world progress) (task_called world progress.task)

-- the same call under way, but for the filesystems that it holds while it is behind
pub record AlikeUnderWay (world : World ℕ) (one other : Progress ℕ) : Type 0 where
  pub bare : bare_progress one ≡ bare_progress other
  pub held : (is_behind world one ≡ true) ⊎ (one.filesystems ≡ other.filesystems)

-- another relation of two lists, which follows for what is among the one
pub each_among : {A B : Type 0} (R S : A → B → Type 0) (ones : List A) (others : List B)
    → ((a : A) (b : B) → Among a ones → R a b → S a b) → Each R ones others → Each S ones others
each_among R S [] [] follows each = tt
each_among R S [] (b ∷ others) follows each = absurd each
each_among R S (a ∷ ones) [] follows each = absurd each
each_among R S (a ∷ ones) (b ∷ others) follows each = (
  follows a b (inl refl) each.0,
  each_among R S ones others (λ c d m. follows c d (inr m)) each.1,
)

-- a number that is held and was overtaken is overtaken after the other rose
still_stale : (held was now : ℕ) → IsNoMore held was → Rises was now → is_stale held was ≡ true
    → is_stale held now ≡ true
still_stale held was now bound rises stale = by (is_stale held now) refl
  where
    by : (b : Bool) → is_stale held now ≡ b → is_stale held now ≡ true
    by true e = e
    by false e = grind (arith, common_steps, was, rises, not_stale, true≢false, eq-eqb)

-- A call of another task
module _ {world : World ℕ} (is : IsWorld nat_eq world) {fresh : Fresh ℕ} (serves : Serves nat_eq world fresh)
    (name : TaskName) (call : Call) (other : TaskName) (apart : other ≢ name) (old : Task ℕ)
    (called : task_called world other ≡ Some old) where
  abbrev left : World ℕ
  left = (policy nat_eq fresh world name call).world

  -- leaves the task its change number and its namespace,
  task_left : (now : Task ℕ) × (task_called left other ≡ Some now) × (now.change ≡ old.change)
      × (now.namespace ≡ old.namespace)
  task_left = ⊎_elim (λ same. (old, same, refl, refl)) (λ pivot. (
    record old { root = pivot.0 old.root; directory = pivot.0 old.directory },
    pivot.2,
    refl,
    refl,
  )) (other_tasks_stay fresh world name call other old apart called)

  -- whose number rises at most,
  rises : Rises (namespace_change_of nat_eq world old.namespace) (namespace_change_of nat_eq left old.namespace)
  rises = namespace_rises world fresh name call old.namespace (record { is = is; serves = serves }) (λ e.
      true≢false (sym (eq-eqb (fresh (2 * 0)) old.namespace e)
      ∙ unused_number world fresh serves (2 * 0) old.namespace
      (among-append_right _ (map (λ (n : Namespace ℕ). n.number) world.namespaces) old.namespace
      (among_numbers (map (λ (n : Namespace ℕ). n.number) world.namespaces) old.namespace
      (among_from_list_all (λ (t : Task ℕ). is_listed nat_eq world t.namespace) world.tasks
      is.namespaces.tasks_listed old (found_among _ world.tasks old called))))))

  -- so its call stays behind
  still_behind : (progress : Progress ℕ) → progress.task ≡ other
      → IsNoMore progress.namespace_change (namespace_change_of nat_eq world old.namespace)
      → is_behind_by world progress old ≡ true → is_behind left progress ≡ true
  still_behind progress of bound behind = ap (holds_of (is_behind_by left progress)) (ap (task_called left) of ∙ now.1)
      ∙ ⊎_elim by_task by_namespace (or_cases (is_stale progress.task_change old.change)
      (is_stale progress.namespace_change (namespace_change_of nat_eq world old.namespace)) behind)
    where
      now : (now : Task ℕ) × (task_called left other ≡ Some now) × (now.change ≡ old.change)
          × (now.namespace ≡ old.namespace)
      now = task_left

      by_task : is_stale progress.task_change old.change ≡ true → is_behind_by left progress now.0 ≡ true
      by_task stale = or_left (is_stale progress.task_change now.0.change)
          (is_stale progress.namespace_change (namespace_change_of nat_eq left now.0.namespace))
          (ap (is_stale progress.task_change) now.2 ∙ stale)

      by_namespace : is_stale progress.namespace_change (namespace_change_of nat_eq world old.namespace) ≡ true
          → is_behind_by left progress now.0 ≡ true
      by_namespace stale = or_right (is_stale progress.task_change now.0.change)
          (is_stale progress.namespace_change (namespace_change_of nat_eq left now.0.namespace))
          (ap (λ n. is_stale progress.namespace_change (namespace_change_of nat_eq left n)) now.3
          ∙ still_stale progress.namespace_change (namespace_change_of nat_eq world old.namespace)
          (namespace_change_of nat_eq left old.namespace) bound rises stale)

-- Calls under way that were alike before a turn are alike after it
module _ (sched : Sched ℕ) (is : IsWorld nat_eq sched.world) (holds : HoldsWhatIsSeen sched) (given : Turn)
    (fit : IsFitTurn sched given) where
  abbrev turned : Turned ℕ
  turned = turn nat_eq sched given.0 given.1

  -- a call that was behind
  behind_later : (name : TaskName) (call : Call) (fresh : Fresh ℕ) → Commits sched given name call fresh turned.sched
      → (progress : Progress ℕ) → Among progress turned.sched.under_way → is_behind sched.world progress ≡ true
      → is_behind turned.sched.world progress ≡ true
  behind_later name call fresh commits progress m behind =
      let both = among-from_filter (λ (p : Progress ℕ). not (same_name name p.task)) sched.under_way progress
      (subst (Among progress) commits.under_way m) in
      let under = contains_from_among sched.under_way progress both.0 in
      let old = some_from_is_some (task_called sched.world progress.task) (holds.there progress under) in
      let bound = holds.no_more old.0 progress (record { under_way = under; called = old.1 }) in
      ap (λ world. is_behind world progress) commits.world
      ∙ still_behind is (fit.serves fresh commits.handed) name call progress.task
      (λ e. cc (both.1, same_name_itself name, e)) old.0 old.1 progress refl bound.1
      (sym (ap (holds_of (is_behind_by sched.world progress)) old.1) ∙ behind)

  pub alike_later : (others : List (Progress ℕ)) → Each (AlikeUnderWay sched.world) turned.sched.under_way others
      → Each (AlikeUnderWay turned.sched.world) turned.sched.under_way others
  alike_later others each = by (turn_leaves sched given)
    where
      by : Leaves sched given turned.sched → Each (AlikeUnderWay turned.sched.world) turned.sched.under_way others
      by (Same same) = subst (λ world. Each (AlikeUnderWay world) turned.sched.under_way others) (sym same) each
      by (After name call fresh commits) = each_among (AlikeUnderWay sched.world) (AlikeUnderWay turned.sched.world)
          turned.sched.under_way others (λ a b m alike. record {
            bare = alike.bare;
            held = ⊎_elim (λ behind. inl (behind_later name call fresh commits a m behind)) inr alike.held;
          }) each
