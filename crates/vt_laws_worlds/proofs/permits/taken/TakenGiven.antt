-- A permit that a call is given names only numbers to which the world keeps.
use Rattle.std.proofs.Common.{◌≡◌, refl, sym, ap, subst, ◌∙◌, ℕ, nat_eq, Bool, Option, Some, None, Ok, Err, ◌+◌, arith}
use Rattle.vt_spec.proofs.Common.{Call, Fresh, IsWorld, Judgement, Permit, Task, TaskName, World, denial, judge_in, task_called}
use Rattle.vt_laws_rules.proofs.numbers.Renamings.{Handed, named_handed}
use Rattle.vt_laws_rules.proofs.numbers.Commuting.{Named, commutes_nat}
use Rattle.vt_laws_worlds.proofs.permits.named.NamedPermits.{permit_itself}
use Rattle.vt_laws_worlds.proofs.permits.named.PermitsKeepTo.{left_renamed}
use Rattle.vt_laws_worlds.proofs.permits.taken.TakenFirst.{IsNoOverlay, applied_same}
use Rattle.vt_laws_worlds.proofs.permits.taken.TakenHanded.{taken}
use Rattle.vt_laws_worlds.proofs.permits.taken.TakenJudged.{judgements_do_not_see_supplies}
use Rattle.vt_laws_worlds.proofs.permits.taken.TakenNumbers.{counted_later}
use Rattle.vt_laws_worlds.specs.Permits.Left.{IsGiven}
use Rattle.vt_laws_worlds.specs.Permits.Named.{renamed_permit}
use Rattle.vt_laws_worlds.specs.Permits.Taken.{GivenCountsGoOn, GivenPermitsAreLeft, GivenPermitsKeepToTaken, counts_taken, handed_to}
use Rattle.vt_laws_trees.specs.Runs.Handed.{is_counted_before}
use Rattle.vt_spec.specs.declared.errors.Rule.TheVariants.{S2}
use Rattle.vt_laws_worlds.proofs.worlds.FitPermitsNamed.{permits_fit}
use Rattle.vt_laws_worlds.specs.Worlds.Kept.{IsPlain}
use Rattle.vt_laws_worlds.specs.Worlds.Permits.{NamesWhatIsThere}

abbrev renamed_judgement : {N M : Type 0} → (N → M) → (M → N) → Judgement N → Judgement M
renamed_judgement there back (Ok permit) = Ok (renamed_permit there back permit)
renamed_judgement there back (Err deny) = Err deny

judgement_itself : {N : Type 0} (judgement : Judgement N) → renamed_judgement (λ n. n) (λ n. n) judgement ≡ judgement
judgement_itself (Ok permit) = ap Ok (permit_itself permit)
judgement_itself (Err deny) = refl

named_judgement : Named Judgement
named_judgement = record {
  rename = λ A B there back judgement. renamed_judgement there back judgement;
  itself = λ A judgement. judgement_itself judgement;
}

-- the judgement of a call if the task is there
abbrev judged_if : {N : Type 0} → (N → N → Bool) → Call → Handed N → Option (Task N) → Judgement N
judged_if eq call handed None = Err (denial S2)
judged_if eq call handed (Some task) = judge_in eq handed.0 handed.1 task call

abbrev judged_called : {N : Type 0} → TaskName → Call → (N → N → Bool) → Handed N → Judgement N
judged_called name call eq handed = judged_if eq call handed (task_called handed.1 name)

same_permit : (one other : Permit ℕ) (first next : Judgement ℕ) → first ≡ Ok one → next ≡ Ok other → first ≡ next
    → one ≡ other
same_permit one other first next e f g = cc

pub given_permits_are_left : GivenPermitsAreLeft
unfolding named_judgement
given_permits_are_left named world task permit fresh whole given keeps renaming leaves =
    same_permit _ permit _ _ (cc (judged_is fresh)) (cc (judgements_do_not_see_supplies world task given.call
    (λ k. renaming.there (fresh k)) fresh whole given.no_overlay)) (sym
    (commutes_nat Handed _ named_handed named_judgement (λ A eq handed. judged_called task.name given.call eq handed)
    renaming (fresh, world)) ∙ (λ i. judged_called task.name given.call nat_eq (
      (λ k. renaming.there (fresh k)),
      keeps
          renaming leaves i,
    )) ∙ judged_is (λ k. renaming.there (fresh k)))
  where
    judged_is : (supply : Fresh ℕ)
        → judged_called task.name given.call nat_eq (supply, world) ≡ judge_in nat_eq supply world task given.call
    judged_is supply = cc

pub no_overlay_given : (world : World ℕ) (task : Task ℕ) (permit : Permit ℕ) (fresh : Fresh ℕ) → IsWorld nat_eq world
    → IsPlain world → IsGiven fresh world task permit → IsNoOverlay permit
no_overlay_given world task permit fresh whole plain given place overlay flags e = subst (NamesWhatIsThere world task) e
    (permits_fit world fresh task given.call permit whole plain given.serves given.called given.no_overlay
    given.judged).names

pub given_permits_keep_to_taken : GivenPermitsKeepToTaken
given_permits_keep_to_taken before later world task permit fresh more whole plain ungrouped keeps given takes renaming
    leaves = cc (
      left_renamed renaming fresh world task permit given.called
          (keeps renaming (λ number named. leaves number (more number named))) (given_permits_are_left before world task
          permit fresh whole given keeps renaming (λ number named. leaves number (more number named))),
      applied_same world whole plain ungrouped task given.called (λ k. renaming.there (fresh k)) fresh permit
          (no_overlay_given world task permit fresh whole plain given) (λ k low. leaves (fresh k) (takes k low)),
    )

pub given_counts_go_on : GivenCountsGoOn
given_counts_go_on next inode world task permit even whole plain ungrouped keeps given =
    given_permits_keep_to_taken (is_counted_before next) (is_counted_before (next + counts_taken world task permit))
    world task permit (handed_to next inode permit) (λ number named. counted_later next _ number (omega arith) named)
    whole plain ungrouped keeps given (taken next inode even world task permit)
