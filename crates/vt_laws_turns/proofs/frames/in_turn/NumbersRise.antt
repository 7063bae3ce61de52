-- A change number stays, rises by one, or is the largest one for good.
use Rattle.std.proofs.Common.{◌≡◌, ◌≢◌, refl, sym, ap, subst, ◌∙◌, ◌⊎◌, inl, inr, ⊎_elim, ℕ, nat_eq, Bool, true, false, true≢false, cond, List, [], ◌∷◌, ◌+◌, ◌*◌, ◌≤◌, Option, Some, find, eqb-true, eq-eqb, ne_eqb, arith, option_map, ◌==◌}
use Rattle.vt_spec.proofs.Common.{cases_Bool, Call, Fresh, IsWorld, Namespace, Permit, Task, TaskName, World, apply, common_steps, filesystems_changed, found_among, found_passes, is_stale, last_number, mounts_of, namespace_change_of, numbers_raised, policy, raised, raised_namespace, settled, task_called}
use Rattle.vt_laws_turns.proofs.Common.{every_call_keeps_worlds, named_leaves}
use Rattle.vt_laws_turns.specs.Frames.InTurn.{AreBeside, AreOfOthers, CallBetween, IsBeside, OtherTasksStayInTurn, UnraisedNamespacesKeepMountsInTurn, after_call, after_calls}
use Rattle.vt_laws_turns.specs.Frames.Unraised.{IsCallIn, IsNamespaceUnraised}
use Rattle.vt_laws_turns.proofs.frames.frames.NamespacesGoOn.{namespace_found, namespaces_go_on}
use Rattle.vt_laws_turns.proofs.frames.frames.PivotsRaise.{other_tasks_of_unraised_namespaces_stay}
use Rattle.vt_laws_turns.proofs.frames.frames.Unraised.{change_in, not_stale, unraised_namespaces_keep_mounts}
use Rattle.vt_laws_turns.proofs.frames.Found.{found_map}

-- what a change number is after one call
abbrev pub Rises : ℕ → ℕ → Type 0
Rises was now = (now ≡ was) ⊎ ((now ≡ raised was) ⊎ (now ≡ last_number))

-- numbers that are the same, and not the largest, are not stale
unstale : (held now : ℕ) → held ≡ now → now ≢ last_number → is_stale held now ≡ false
unstale held now e below = cc (eq-eqb held now e, ne_eqb now last_number below)

-- a number after one call, and after others
abbrev RisesOn : ℕ → ℕ → Type 0
RisesOn was now = (now ≡ last_number) ⊎ ((was ≤ now) × (was ≢ last_number))

rises_first : (was next now : ℕ) → Rises was next → RisesOn next now → RisesOn was now
rises_first was next now r (inl gone) = inl gone
rises_first was next now (inl same) (inr on) = inr (subst (λ n. n ≤ now) same on.0, λ e. on.1 (same ∙ e))
rises_first was next now (inr (inr gone)) (inr on) = absurd (on.1 gone)
rises_first was next now (inr (inl more)) (inr on) = elim (cases_Bool (was == last_number)) [
  | inl e ↦ absurd (on.1 (cc (eqb-true was last_number e)))
  | inr e ↦ let next_is : next ≡ was + 1 = cc in
      let above : was + 1 ≤ now = subst (λ n. n ≤ now) next_is on.0 in
      inr (omega (arith, above), λ same. cc (eq-eqb was last_number same))
]

rises_none : (was : ℕ) → RisesOn was was
rises_none was = grind (arith, common_steps, eqb-true, true≢false, eq-eqb)

-- where the number is in the end what it was, it was so after the first call
between : (was next now : ℕ) → Rises was next → RisesOn next now → is_stale was now ≡ false
    → (is_stale was next ≡ false) × (is_stale next now ≡ false)
between was next now r (inl gone) fresh = absurd ((not_stale was now fresh).1 gone)
between was next now (inl same) (inr on) fresh = (
  unstale was next (sym same) on.1,
  unstale next now (same ∙ (not_stale was now fresh).0) (not_stale was now fresh).1,
)
between was next now (inr (inr gone)) (inr on) fresh = absurd (on.1 gone)
between was next now (inr (inl more)) (inr on) fresh = elim (cases_Bool (was == last_number)) [
  | inl e ↦ absurd ((not_stale was now fresh).1 (sym (not_stale was now fresh).0 ∙ eqb-true was last_number e))
  | inr e ↦ let next_is : next ≡ was + 1 = cc in
      let above : was + 1 ≤ now = subst (λ n. n ≤ now) next_is on.0 in
      let same : was ≡ now = (not_stale was now fresh).0 in
      absurd (omega (arith, above, same))
]

-- One call
module _ {world : World ℕ} {fresh : Fresh ℕ} (given : IsCallIn world fresh) {number : ℕ}
    (other : fresh (2 * 0) ≢ number) (name : TaskName) (task : Task ℕ) (permit : Permit ℕ) where
  abbrev found_in : List (Namespace ℕ) → Option (Namespace ℕ)
  found_in list = find (λ (n : Namespace ℕ). nat_eq number n.number) list

  abbrev applied : World ℕ
  applied = (apply nat_eq fresh world task permit).world

  abbrev later : World ℕ
  later = numbers_raised nat_eq world name (filesystems_changed nat_eq world permit) (settled nat_eq applied)

  abbrev raise : Namespace ℕ → Namespace ℕ
  raise = raised_namespace nat_eq world (settled nat_eq applied)

  raise_number : (n : Namespace ℕ) → (raise n).number ≡ n.number
  raise_number n = grind (arith, common_steps)

  raised_or_same : (n : Namespace ℕ) (was now : ℕ) → was ≡ n.change → (b : Bool)
      → now ≡ (cond b n (record n { change = raised n.change })).change → Rises was now
  raised_or_same n was now e true f = inl (f ∙ sym e)
  raised_or_same n was now e false f = inr (inl (cc))

  now_is : namespace_change_of nat_eq later number ≡ change_in (option_map raise (found_in applied.namespaces))
  now_is = ap change_in (found_map (λ (n : Namespace ℕ). n.number) raise number applied.namespaces raise_number)

  was_there : (n : Namespace ℕ) → found_in applied.namespaces ≡ Some n
      → namespace_change_of nat_eq world number ≡ n.change
  was_there n e =
      let at : nat_eq number n.number ≡ true =
      found_passes (λ (m : Namespace ℕ). nat_eq number m.number) applied.namespaces n e in
      ⊎_elim (λ old. ap change_in (namespace_found world.namespaces given.is.namespaces.one_namespace n old number at))
      (λ new. absurd (other (cc (new.0, eqb-true number n.number at)))) (namespaces_go_on world fresh task permit n
      (found_among (λ (m : Namespace ℕ). nat_eq number m.number) applied.namespaces n e))

  granted_rises : Rises (namespace_change_of nat_eq world number) (namespace_change_of nat_eq later number)
  granted_rises = grind (arith, common_steps, now_is, change_in, raised_or_same, was_there)

pub namespace_rises : (world : World ℕ) (fresh : Fresh ℕ) (name : TaskName) (call : Call) (number : ℕ)
    → IsCallIn world fresh → fresh (2 * 0) ≢ number → Rises (namespace_change_of nat_eq world number)
    (namespace_change_of nat_eq (policy nat_eq fresh world name call).world number)
namespace_rises world fresh name call number given other = named_leaves
    (λ later. Rises (namespace_change_of nat_eq world number) (namespace_change_of nat_eq later number))
    world fresh name call (inl refl)
    (λ task found permit granted. granted_rises given other name task permit)

-- Several calls
pub given_in : (number : ℕ) (world : World ℕ) (one : CallBetween) → IsWorld nat_eq world → IsBeside number world one
    → IsCallIn world one.fresh
given_in number world one is beside = record { is = is; serves = beside.serves }

pub next_is : (number : ℕ) (world : World ℕ) (one : CallBetween) → IsWorld nat_eq world → IsBeside number world one
    → IsWorld nat_eq (after_call world one)
next_is number world one is beside =
    every_call_keeps_worlds world one.fresh one.name one.call is beside.serves beside.few_groups

-- of a change number that each of them leaves, raises, or takes away for good
module _ (number : ℕ) (change_of : World ℕ → ℕ)
    (step : (world : World ℕ) (one : CallBetween) → IsWorld nat_eq world → IsBeside number world one
    → Rises (change_of world) (change_of (after_call world one))) where
  all_rise : (calls : List CallBetween) (world : World ℕ) → IsWorld nat_eq world → AreBeside number world calls
      → RisesOn (change_of world) (change_of (after_calls world calls))
  all_rise [] world is beside = rises_none (change_of world)
  all_rise (one ∷ rest) world is beside =
      rises_first (change_of world) (change_of (after_call world one)) (change_of (after_calls world (one ∷ rest)))
      (step world one is beside.0)
      (all_rise rest (after_call world one) (next_is number world one is beside.0) beside.1)

  pub first_unraised : (world : World ℕ) (one : CallBetween) (rest : List CallBetween) → IsWorld nat_eq world
      → AreBeside number world (one ∷ rest)
      → is_stale (change_of world) (change_of (after_calls world (one ∷ rest))) ≡ false
      → (is_stale (change_of world) (change_of (after_call world one)) ≡ false)
      × (is_stale (change_of (after_call world one)) (change_of (after_calls world (one ∷ rest))) ≡ false)
  first_unraised world one rest is beside unraised =
      between (change_of world) (change_of (after_call world one)) (change_of (after_calls world (one ∷ rest)))
      (step world one is beside.0)
      (all_rise rest (after_call world one) (next_is number world one is beside.0) beside.1) unraised

abbrev pub namespace_change : ℕ → World ℕ → ℕ
namespace_change number world = namespace_change_of nat_eq world number

pub namespace_step : (number : ℕ) (world : World ℕ) (one : CallBetween) → IsWorld nat_eq world
    → IsBeside number world one → Rises (namespace_change number world) (namespace_change number (after_call world one))
namespace_step number world one is beside =
    namespace_rises world one.fresh one.name one.call number (given_in number world one is beside)
    (beside.not_held (2 * 0))

mounts_stay : (calls : List CallBetween) (world : World ℕ) (number : ℕ) → IsWorld nat_eq world
    → AreBeside number world calls → IsNamespaceUnraised world (after_calls world calls) number
    → mounts_of nat_eq (after_calls world calls) number ≡ mounts_of nat_eq world number
mounts_stay [] world number is beside unraised = refl
mounts_stay (one ∷ rest) world number is beside unraised =
    let parts =
    first_unraised number (namespace_change number) (namespace_step number) world one rest is beside unraised in
    mounts_stay rest (after_call world one) number (next_is number world one is beside.0) beside.1 parts.1
    ∙ unraised_namespaces_keep_mounts world one.fresh one.name one.call number
    (given_in number world one is beside.0) parts.0

pub keep_mounts_in_turn : UnraisedNamespacesKeepMountsInTurn
keep_mounts_in_turn world calls number is beside unraised = mounts_stay calls world number is beside unraised

tasks_stay : (calls : List CallBetween) (world : World ℕ) (other : TaskName) (task : Task ℕ) → IsWorld nat_eq world
    → AreBeside task.namespace world calls → AreOfOthers other calls → task_called world other ≡ Some task
    → IsNamespaceUnraised world (after_calls world calls) task.namespace
    → task_called (after_calls world calls) other ≡ Some task
tasks_stay [] world other task is beside others called unraised = called
tasks_stay (one ∷ rest) world other task is beside others called unraised =
    let parts = first_unraised task.namespace (namespace_change task.namespace) (namespace_step task.namespace)
    world one rest is beside unraised in
    tasks_stay rest (after_call world one) other task (next_is task.namespace world one is beside.0) beside.1 others.1
    (other_tasks_of_unraised_namespaces_stay world one.fresh one.name one.call other task
    (given_in task.namespace world one is beside.0) others.0 called parts.0) parts.1

pub tasks_stay_in_turn : OtherTasksStayInTurn
tasks_stay_in_turn world calls other task is beside others called unraised =
    tasks_stay calls world other task is beside others called unraised
