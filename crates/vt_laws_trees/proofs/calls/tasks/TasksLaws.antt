-- The laws of tasks.
use Rattle.std.proofs.Common.{arith, ◌≡◌, refl, sym, ap, subst, ◌∙◌, inl, inr, ◌⊎◌, ⊎_elim, ℕ, Contains, true, Some, None}
use Rattle.vt_spec.proofs.Common.{Call, CapabilityWord, Credentials, Descriptor, Drop, Exit, Fresh, Location, Task, TaskName, Umask, World, among_from_contains, common_steps, contains_from_among, task_called}
use Rattle.vt_laws_trees.proofs.calls.tasks.TasksFound.{Found}
use Rattle.vt_laws_trees.proofs.calls.tasks.TasksOwn.{Becomes, Changed, IsRaised, becomes, stays_or_changed}
use Rattle.vt_laws_trees.specs.Calls.Tasks.{IsForked, IsNoMore, NewTasksAreChildren, OnlyDropTakesRights, OnlyExitLeaves, OnlyOpenGivesDescriptors, OnlyTheseMoveDirectories, OnlyTheseMoveNamespaces, OnlyTheseMoveRoots, OnlyUmaskSetsUmask, Opens, OtherTasksStay, Pivots, RightsOnlyShrink, StaysOrIsPivoted, moves_directory, moves_namespace, moves_root, task_after}

itself_is_no_more : (was now : Credentials) → now ≡ was → IsNoMore was now
itself_is_no_more was now same = subst (IsNoMore was) (sym same) (refl, refl, refl, λ capability held. held)

-- What holds of a part of a task where it stays, where its own call changes it, and where a pivot leaves it, holds of
-- that part after the call: only the change number is raised besides
part_later : (fresh : Fresh ℕ) (world : World ℕ) (name : TaskName) (call : Call) (other : TaskName) (was now : Task ℕ)
    → task_called world other ≡ Some was → task_after fresh world name call other ≡ Some now
    → {A : Type 0} (part : Task ℕ → A) (Holds : A → Type 0) → Holds (part was)
    → ((left : Task ℕ) → other ≡ name → Changed call was left → Holds (part left))
    → ((moved : Location ℕ → Location ℕ) → Pivots fresh world name call was.namespace moved
    → Holds (part (record was { root = moved was.root; directory = moved was.directory })))
    → ((left : Task ℕ) → part (record left { change = now.change }) ≡ part left) → Holds (part now)
part_later fresh world name call other was now is then_is part Holds stays changed pivoted raised =
    let t = stays_or_changed fresh world name call other was now is then_is in
    subst Holds (sym (ap part t.2 ∙ raised t.0)) (⊎_elim (λ same. subst (λ task. Holds (part task)) (sym same) stays)
    (⊎_elim (λ own. changed t.0 own.0 own.1)
    (λ pivot. subst (λ task. Holds (part task)) (sym pivot.2) (pivoted pivot.0 pivot.1))) t.1)

pub rights_only_shrink : RightsOnlyShrink
rights_only_shrink fresh world name call other was now is then_is =
    part_later fresh world name call other was now is then_is
    (λ t. t.credentials) (IsNoMore was.credentials) (itself_is_no_more _ _ refl)
    (λ left own so. ⊎_elim (itself_is_no_more was.credentials _) (λ dropped. dropped.2) so.0)
    (λ moved pivot. itself_is_no_more _ _ refl) (λ left. refl)

pub only_drop_takes_rights : OnlyDropTakesRights
only_drop_takes_rights fresh world name call other was now is then_is =
    part_later fresh world name call other was now is then_is (λ t. t.credentials)
    (λ c. (c ≡ was.credentials) ⊎ ((other ≡ name) × (which : CapabilityWord) × (call ≡ Drop which))) (inl refl)
    (λ left own so. ⊎_elim inl (λ dropped. inr (own, dropped.0, dropped.1)) so.0) (λ moved pivot. inl refl)
    (λ left. refl)

pub only_umask_sets_umask : OnlyUmaskSetsUmask
only_umask_sets_umask fresh world name call other was now is then_is =
    part_later fresh world name call other was now is then_is
    (λ t. t.umask) (λ u. (u ≡ was.umask) ⊎ ((other ≡ name) × (mode : ℕ) × (call ≡ Umask mode))) (inl refl)
    (λ left own so. ⊎_elim inl (λ set. inr (own, set.0, set.1)) so.1) (λ moved pivot. inl refl) (λ left. refl)

pub only_open_gives_descriptors : OnlyOpenGivesDescriptors
only_open_gives_descriptors fresh world name call other was now is then_is =
    part_later fresh world name call other was now is then_is
    (λ t. t.descriptors) (λ list. (descriptor : Descriptor ℕ) → Contains list descriptor
    → Contains was.descriptors descriptor ⊎ ((other ≡ name) × Opens call descriptor))
    (λ descriptor contains. inl contains) (λ left own so descriptor contains. ⊎_elim
    (λ among. inl (contains_from_among was.descriptors descriptor among)) (λ opens. inr (own, opens))
    (so.2 descriptor (among_from_contains left.descriptors descriptor contains)))
    (λ moved pivot descriptor contains. inl contains) (λ left. refl)

pub only_these_move_directories : OnlyTheseMoveDirectories
only_these_move_directories fresh world name call other was now is then_is =
    part_later fresh world name call other was now is then_is
    (λ t. t.directory) (λ d. ((other ≡ name) × (moves_directory call ≡ true))
    ⊎ StaysOrIsPivoted fresh world name call was.namespace was.directory d) (inr (inl refl))
    (λ left own so. ⊎_elim (λ moves. inl (own, moves)) (λ same. inr (inl same)) so.3)
    (λ moved pivot. inr (inr (moved, pivot, refl))) (λ left. refl)

pub only_these_move_roots : OnlyTheseMoveRoots
only_these_move_roots fresh world name call other was now is then_is =
    part_later fresh world name call other was now is then_is
    (λ t. t.root) (λ d. ((other ≡ name) × (moves_root call ≡ true))
    ⊎ StaysOrIsPivoted fresh world name call was.namespace was.root d) (inr (inl refl))
    (λ left own so. ⊎_elim (λ moves. inl (own, moves)) (λ same. inr (inl same)) so.4)
    (λ moved pivot. inr (inr (moved, pivot, refl))) (λ left. refl)

pub only_these_move_namespaces : OnlyTheseMoveNamespaces
only_these_move_namespaces fresh world name call other was now is then_is =
    part_later fresh world name call other was now is then_is
    (λ t. t.namespace) (λ n. ((other ≡ name) × (moves_namespace call ≡ true)) ⊎ (n ≡ was.namespace)) (inr refl)
    (λ left own so. ⊎_elim (λ moves. inl (own, moves)) inr so.5) (λ moved pivot. inr refl) (λ left. refl)

-- what becomes of a task that was there, and of one that was not
module _ (fresh : Fresh ℕ) (world : World ℕ) (name : TaskName) (call : Call) (other : TaskName) where
  abbrev Left : Found → Found → Found → Type 0
  Left was left now = Becomes fresh world name call other was left × IsRaised name other left now

  found : (was now : Found) → task_called world other ≡ was → task_after fresh world name call other ≡ now
      → (left : Found) × Left was left now
  found was now is then_is =
      let it = becomes fresh world name call other in (
        it.0,
        (
          subst (λ f. Becomes fresh world name call other f it.0) is it.1,
          subst (IsRaised name other it.0) then_is it.2,
        ),
      )

pub other_tasks_stay : OtherTasksStay
other_tasks_stay fresh world name call other was apart is = by it.0 _ refl it.1.0 it.1.1
  where
    it : (left : Found) × Left fresh world name call other (Some was) left (task_after fresh world name call other)
    it = found fresh world name call other (Some was) (task_after fresh world name call other) is refl

    Stays : Found → Type 0
    Stays now = (now ≡ Some was) ⊎ ((moved : Location ℕ → Location ℕ) × Pivots fresh world name call was.namespace moved
        × (now ≡ Some (record was { root = moved was.root; directory = moved was.directory })))

    by : (left now : Found) → task_after fresh world name call other ≡ now
        → Becomes fresh world name call other (Some was) left → IsRaised name other left now → Stays now
    by None None e so raised = absurd (apart so.0)
    by None (Some now) e so raised = absurd raised
    by (Some left) None e so raised = absurd raised
    by (Some left) (Some now) e so raised = subst (λ t. Stays (Some t)) (sym same)
        (⊎_elim (λ stays. inl (ap Some stays))
        (⊎_elim (λ changed. absurd (apart changed.0)) (λ pivot. inr (pivot.0, pivot.1, ap Some pivot.2))) so)
      where
        same : now ≡ left
        same = ⊎_elim (λ same. same) (λ it. absurd (apart it)) raised.1

pub only_exit_leaves : OnlyExitLeaves
only_exit_leaves fresh world name call was is gone = by it.0 it.1.0 it.1.1
  where
    it : (left : Found) × Left fresh world name call name (Some was) left None
    it = found fresh world name call name (Some was) None is gone

    by : (left : Found) → Becomes fresh world name call name (Some was) left → IsRaised name name left None
        → call ≡ Exit
    by None so raised = so.1
    by (Some left) so raised = absurd raised

pub new_tasks_are_children : NewTasksAreChildren
new_tasks_are_children fresh world name call other child none is = by it.0 it.1.0 it.1.1
  where
    it : (left : Found) × Left fresh world name call other None left (Some child)
    it = found fresh world name call other None (Some child) none is

    by : (left : Found) → Becomes fresh world name call other None left → IsRaised name other left (Some child)
        → IsForked fresh world name call other child
    by None so raised = absurd raised
    by (Some left) so raised = grind (arith, common_steps, it)
