-- What tasks are after a call.
use Rattle.std.proofs.Common.{arith, ◌≡◌, refl, sym, ap, subst, ◌∙◌, inl, inr, ◌⊎◌, ⊎_elim, ℕ, nat_eq, eqb-true, eq-eqb, Bool, true, false, cond, not, ◌&&◌, ◌==◌, bit_and, bytes_eq, List, [], ◌∷◌, ◌++◌, map, filter, Option, Some, None, option_map, Ok}
use Rattle.vt_spec.proofs.Common.{Access, Among, Call, CapabilityWord, Creation, Credentials, Descriptor, Drop, Exit, Fork, ForkWords, Fresh, Location, Mount, NoneFails, OpenFile, Permit, PivotRoot, Task, TaskName, ToClose, ToEnterNamespace, ToExit, ToFork, ToOpen, ToOpenNew, ToPivot, ToSetCredentials, ToSetDirectory, ToSetRoot, ToSetUmask, ToUnshare, Umask, World, among-from_filter, and_parts, bytes_decides, child_credentials, child_name, child_of, common_steps, evens, fork_rules, has_all, inserted, judge_in, looks_of, mount_at, mount_numbered, name-replaced_if_called, not-false, pivoted_location, pivoted_task, policy, raised, raised_task, replaced_if_called, same_name, same_task_name, task_called, with_descriptor, with_dropped, without_descriptor}
use Rattle.std.proofs.lemmas.Nat.{and_assoc}
use Rattle.std.specs.Int.Bits.{and_self}
use Rattle.vt_laws_rules.proofs.given.GivenPermits.{permits_are_for_their_calls}
use Rattle.vt_laws_trees.proofs.calls.tasks.TasksFound.{Found, called, find_appended, find_mapped, found_name, none_left, others_left, pivoted_keeps_name, raised_is}
use Rattle.vt_laws_trees.proofs.calls.tasks.TasksLeft.{alone, entered, left_tasks, tasks_after_call, with_new}
use Rattle.vt_laws_rules.specs.Given.{IsFor}
use Rattle.vt_laws_trees.specs.Calls.Tasks.{IsForked, IsNoMore, MayGive, Opens, Pivots, moves_directory, moves_namespace, moves_root, task_after}
use Rattle.vt_spec.specs.Rights.{cap_setgid}

-- Capabilities

-- what is held of what is held is held
held_of_held : (set part wanted : ℕ) → has_all set part ≡ true → has_all part wanted ≡ true → has_all set wanted ≡ true
held_of_held set part wanted e f =
    let p : bit_and set part ≡ part = eqb-true (bit_and set part) part e in
    let q : bit_and part wanted ≡ wanted = eqb-true (bit_and part wanted) wanted f in
    grind (arith, common_steps, eq-eqb, and_assoc)

part_is_held : (set kept : ℕ) → has_all set (bit_and set kept) ≡ true
part_is_held set kept = eq-eqb (bit_and set (bit_and set kept)) (bit_and set kept)
    (cc (and_assoc kept set set, and_self set))

-- a drop leaves no more
dropped_is_no_more : (who : Credentials) (dropped : ℕ) → IsNoMore who (with_dropped who dropped)
dropped_is_no_more who dropped = (
  refl,
  refl,
  refl,
  λ capability. held_of_held who.capabilities _ capability (part_is_held who.capabilities _),
)

either_holds : (a b : Bool) → (not a && not b) ≡ false → (a ≡ true) ⊎ (b ≡ true)
either_holds true b e = inl refl
either_holds false true e = inr refl
either_holds false false e = cc

-- the rules of fork let pass what the caller may give
forked_may_give : (task : Task ℕ) (child : Credentials) → NoneFails (fork_rules task child)
    → MayGive task.credentials child
forked_may_give task child pass = (
  λ capability held. held_of_held who.capabilities child.capabilities capability (not-false _ pass.1.1.1.0) held,
  ⊎_elim (λ same. inl (eqb-true child.uid who.uid same)) inr (either_holds (child.uid == who.uid) _ pass.1.0),
  ⊎_elim (λ same.
      let both = and_parts (child.gid == who.gid) (bytes_eq child.groups who.groups) same in
      inl (eqb-true child.gid who.gid both.0, (bytes_decides child.groups who.groups).0 both.1)) inr
      (either_holds (child.gid == who.gid && bytes_eq child.groups who.groups)
      (has_all who.capabilities cap_setgid) pass.1.1.0),
)
  where
    who : Credentials
    who = task.credentials

-- Descriptors

abbrev pub HasOrOpens : Call → List (Descriptor ℕ) → List (Descriptor ℕ) → Type 0
HasOrOpens call was now =
    (descriptor : Descriptor ℕ) → Among descriptor now → Among descriptor was ⊎ Opens call descriptor

pub among-inserted : (new : Descriptor ℕ) (list : List (Descriptor ℕ)) (descriptor : Descriptor ℕ)
    → Among descriptor (inserted new list) → (descriptor ≡ new) ⊎ Among descriptor list
among-inserted new [] descriptor m = m
among-inserted new (first ∷ rest) descriptor m = grind (arith, common_steps, among-inserted new rest descriptor)

-- the caller afterwards, by its own call
abbrev pub Changed : Call → Task ℕ → Task ℕ → Type 0
Changed call was now = ((now.credentials ≡ was.credentials)
    ⊎ ((which : CapabilityWord) × (call ≡ Drop which) × IsNoMore was.credentials now.credentials))
    × ((now.umask ≡ was.umask) ⊎ ((mode : ℕ) × (call ≡ Umask mode))) × HasOrOpens call was.descriptors now.descriptors
    × ((moves_directory call ≡ true) ⊎ (now.directory ≡ was.directory))
    × ((moves_root call ≡ true) ⊎ (now.root ≡ was.root))
    × ((moves_namespace call ≡ true) ⊎ (now.namespace ≡ was.namespace))

module _ (fresh : Fresh ℕ) (world : World ℕ) (name : TaskName) (call : Call) (other : TaskName) where
  -- each task afterwards: as it was, or changed by its own call, or pivoted
  abbrev pub BecomesTask : Task ℕ → Task ℕ → Type 0
  BecomesTask was now = (now ≡ was) ⊎ (((other ≡ name) × Changed call was now)
      ⊎ ((moved : Location ℕ → Location ℕ) × Pivots fresh world name call was.namespace moved
      × (now ≡ record was { root = moved was.root; directory = moved was.directory })))

  abbrev pub Becomes : Found → Found → Type 0
  Becomes None None = Unit {0}
  Becomes None (Some child) = IsForked fresh world name call other child
  Becomes (Some was) None = (other ≡ name) × (call ≡ Exit)
  Becomes (Some was) (Some now) = BecomesTask was now

  abbrev pub BecomesIn : List (Task ℕ) → Type 0
  BecomesIn tasks = Becomes (task_called world other) (called other tasks)

  becomes_itself : (found : Found) → Becomes found found
  becomes_itself None = tt
  becomes_itself (Some was) = inl refl

  still : BecomesIn world.tasks
  still = becomes_itself (task_called world other)

  module _ (task : Task ℕ) (is : task_called world name ≡ Some task) where
    named : name ≡ task.name
    named = found_name name world.tasks task is

    -- the caller is changed
    changed_becomes : (new : Task ℕ) → new.name ≡ task.name → Changed call task new → BecomesIn (with_new world new)
    changed_becomes new keeps so = subst (λ found. Becomes (task_called world other) found)
        (sym (find_mapped (replaced_if_called new) (name-replaced_if_called new) other world.tasks)) (by _ refl)
      where
        by : (found : Found) → task_called world other ≡ found
            → Becomes found (option_map (replaced_if_called new) found)
        by None e = tt
        by (Some entry) e = inside (same_name new.name entry.name) refl
          where
            inside : (b : Bool) → same_name new.name entry.name ≡ b → BecomesTask entry (cond b new entry)
            inside false c = inl refl
            inside true c =
                let same : other ≡ name =
                cc (found_name other world.tasks entry e, same_task_name new.name entry.name c, keeps, named) in
                let it : Some entry ≡ Some task = cc (same) in
                let was : task ≡ entry = cc in
                inr (inl (same, subst (λ t. Changed call t new) was so))

    -- the caller leaves
    without_becomes : call ≡ Exit → BecomesIn (filter (λ one. not (same_name task.name one.name)) world.tasks)
    without_becomes exits = by (same_name task.name other) refl
      where
        gone : (found : Found) → other ≡ name → Becomes found None
        gone None same = tt
        gone (Some was) same = (same, exits)

        by : (b : Bool) → same_name task.name other ≡ b
            → BecomesIn (filter (λ one. not (same_name task.name one.name)) world.tasks)
        by true e =
            let same : other ≡ task.name = sym (same_task_name task.name other e) in
            subst (λ found. Becomes (task_called world other) found)
            (sym (cc (none_left task.name world.tasks))) (gone (task_called world other) (same ∙ sym named))
        by false e = subst (λ found. Becomes (task_called world other) found) (sym (others_left _ other e _)) still

    -- a child is added
    forked_becomes : (words : Option ForkWords) (credentials : Credentials) → call ≡ Fork words
        → credentials ≡ child_credentials task.credentials words → MayGive task.credentials credentials
        → (tasks : List (Task ℕ)) → BecomesIn tasks → BecomesIn (tasks ++ (child_of task credentials ∷ []))
    forked_becomes words credentials forks given gives tasks before = find_appended
        (λ found. Becomes (task_called world other) found) other (child_of task credentials) tasks before (λ none. added
        _ refl (task_called world other) (subst (λ found. Becomes (task_called world other) found) none before))
      where
        added : (b : Bool) → same_name other (child_name task) ≡ b → (found : Found) → Becomes found None
            → Becomes found (cond b (Some (child_of task credentials)) None)
        added b e found before = grind (arith, common_steps, same_task_name)

    -- all tasks of the namespace are pivoted
    pivoted_becomes : (new old : List ℕ) (mount : ℕ) (put : Location ℕ) → call ≡ PivotRoot new old
        → judge_in nat_eq fresh world task call ≡ Ok (ToPivot mount put)
        → BecomesIn (left_tasks fresh world task (ToPivot mount put))
    pivoted_becomes new old mount put pivots judged = subst (λ found. Becomes (task_called world other) found)
        (sym (find_mapped _ (pivoted_keeps_name task.namespace root there) other world.tasks)) (by _)
      where
        root : Mount ℕ
        root = mount_at nat_eq world task.root

        there : Mount ℕ
        there = mount_numbered nat_eq world mount

        by : (found : Found) → Becomes found (option_map (pivoted_task nat_eq task.namespace root there) found)
        by None = tt
        by (Some entry) = inside (nat_eq task.namespace entry.namespace) refl
          where
            moved : Location ℕ → Location ℕ
            moved = pivoted_location nat_eq root there

            inside : (b : Bool) → nat_eq task.namespace entry.namespace ≡ b → BecomesTask entry (cond b (record entry {
              root = moved entry.root;
              directory = moved entry.directory;
            }) entry)
            inside false e = inl refl
            inside true e = inr (inr (
              moved,
              (new, old, task, mount, put, pivots, is, judged, eqb-true task.namespace entry.namespace e, refl),
              refl,
            ))

    opened_has : (file : Location ℕ) (path : List ℕ) (access : Access) (how : Creation)
        → call ≡ OpenFile path access how
        → HasOrOpens call task.descriptors (with_descriptor task file access).descriptors
    opened_has file path access how opens held among = grind (arith, common_steps, among-inserted)

    -- what becomes of a task by each permit
    done : (permit : Permit ℕ) → judge_in nat_eq fresh world task call ≡ Ok permit
        → IsFor (looks_of nat_eq world) task call permit → BecomesIn (left_tasks fresh world task permit)
    done (ToOpen file access) judged for = changed_becomes (with_descriptor task file access) refl
        (inl refl, inl refl, opened_has file for.0 access for.1 for.2, inr refl, inr refl, inr refl)
    done (ToOpenNew directory entry node access) judged for = changed_becomes _ refl (
      inl refl,
      inl refl,
      opened_has (record { mount = directory.mount; node = evens fresh 0 }) for.0 access for.1 for.2,
      inr refl,
      inr refl,
      inr refl,
    )
    done (ToClose descriptor) judged for = changed_becomes (without_descriptor task descriptor) refl (
      inl refl,
      inl refl,
      λ held among. inl (among-from_filter (λ found. not (descriptor == found.number)) task.descriptors held among).0,
      inr refl,
      inr refl,
      inr refl,
    )
    done (ToSetDirectory directory) judged for = changed_becomes (record task { directory = directory }) refl
        (inl refl, inl refl, λ held among. inl among, inl (ap moves_directory for.1), inr refl, inr refl)
    done (ToSetRoot root) judged for = changed_becomes (record task { root = root }) refl
        (inl refl, inl refl, λ held among. inl among, inr refl, inl (ap moves_root for.1), inr refl)
    done (ToSetUmask umask) judged for = changed_becomes (record task { umask = umask }) refl
        (inl refl, inr (for.0, for.1), λ held among. inl among, inr refl, inr refl, inr refl)
    done (ToSetCredentials credentials) judged for = changed_becomes (record task { credentials = credentials }) refl (
      inr (
        for.0,
        for.1,
        subst (IsNoMore task.credentials) (sym for.2) (dropped_is_no_more task.credentials _),
      ),
      inl refl,
      λ held among. inl among,
      inr refl,
      inr refl,
      inr refl,
    )
    done (ToFork credentials) judged for = forked_becomes for.0 credentials for.1 for.2 (forked_may_give task _ for.3) _
        (changed_becomes _ refl (inl refl, inl refl, λ held among. inl among, inr refl, inr refl, inr refl))
    done ToExit judged for = without_becomes for
    done ToUnshare judged for = changed_becomes (alone fresh world task) refl (
      inl refl,
      inl refl,
      λ held among. inl among,
      inl (ap moves_directory for),
      inl (ap moves_root for),
      inl (ap moves_namespace for),
    )
    done (ToEnterNamespace namespace) judged for = changed_becomes (entered fresh world task namespace) refl (
      inl refl,
      inl refl,
      λ held among. inl among,
      inl (ap moves_directory for.1),
      inl (ap moves_root for.1),
      inl (ap moves_namespace for.1),
    )
    done (ToPivot mount put) judged for = pivoted_becomes for.0 for.1 mount put for.2 judged
    done permit judged for = still

-- Raising: the task that is found after the call is one that the permit leaves, perhaps with its change number raised,
-- which is the caller's alone
abbrev pub IsRaised : TaskName → TaskName → Found → Found → Type 0
IsRaised name other None None = Unit {0}
IsRaised name other None (Some now) = ⊥
IsRaised name other (Some left) None = ⊥
IsRaised name other (Some left) (Some now) =
    (now ≡ record left { change = now.change }) × ((now ≡ left) ⊎ (other ≡ name))

module _ (fresh : Fresh ℕ) (world : World ℕ) (name : TaskName) (call : Call) (other : TaskName) where
  abbrev pub BecomesAndIsRaised : List (Task ℕ) → Type 0
  BecomesAndIsRaised tasks = (left : Found) × Becomes fresh world name call other (task_called world other) left
      × IsRaised name other left (called other tasks)

  is_itself : (found : Found) → IsRaised name other found found
  is_itself None = tt
  is_itself (Some task) = (refl, inl refl)

  is_raised : (tasks : List (Task ℕ))
      → IsRaised name other (called other tasks) (called other (map (raised_task name) tasks))
  is_raised tasks = subst (IsRaised name other (called other tasks))
      (sym (find_mapped (raised_task name) (λ task. ap (λ t. t.name) (raised_is name task)) other tasks)) (by _ refl)
    where
      by : (found : Found) → called other tasks ≡ found
          → IsRaised name other found (option_map (raised_task name) found)
      by None e = tt
      by (Some task) e = (raised_is name task, inside (same_name name task.name) refl)
        where
          inside : (b : Bool) → same_name name task.name ≡ b
              → (cond b (record task { change = raised task.change }) task ≡ task) ⊎ (other ≡ name)
          inside true f = inr (found_name other tasks task e ∙ sym (same_task_name name task.name f))
          inside false f = inl refl

  pub becomes : BecomesAndIsRaised (policy nat_eq fresh world name call).world.tasks
  becomes = tasks_after_call BecomesAndIsRaised fresh world name call
      (task_called world other, still fresh world name call other, is_itself (task_called world other))
      (λ task permit is judged.
      let so = done fresh world name call other task is permit judged
      (permits_are_for_their_calls fresh world task call permit judged) in
      let left = left_tasks fresh world task permit in
      ((called other left, so, is_itself (called other left)), (called other left, so, is_raised left)))

  -- of a task that was there and is: what it was before its change number was raised
  pub stays_or_changed : (was now : Task ℕ) → task_called world other ≡ Some was
      → task_after fresh world name call other ≡ Some now
      → (left : Task ℕ) × BecomesTask fresh world name call other was left × (now ≡ record left { change = now.change })
      × ((now ≡ left) ⊎ (other ≡ name))
  stays_or_changed was now is then_is = by becomes.0
      (subst (λ found. Becomes fresh world name call other found becomes.0) is becomes.1)
      (subst (λ found. IsRaised name other becomes.0 found) then_is becomes.2)
    where
      by : (left : Found) → Becomes fresh world name call other (Some was) left → IsRaised name other left (Some now)
          → (left : Task ℕ) × BecomesTask fresh world name call other was left
          × (now ≡ record left { change = now.change }) × ((now ≡ left) ⊎ (other ≡ name))
      by None so raised = absurd raised
      by (Some left) so raised = (left, so, raised.0, raised.1)
