-- The rules of walks are in order, but for those of links and of slashes.
use Rattle.std.proofs.Common.{arith, ◌≡◌, ℕ, nat_eq, Bool, true, not, is_some, [], ◌∷◌, ◌++◌, Option, None, ok_or, Result, Ok, Err, IfErr, cond}
use Rattle.vt_spec.proofs.Common.{LastWord, Location, Place, Rules, Stop, Task, World, and_from, common_steps, denial, is_lost, then_walk, unless, walk_end, walk_unless}
use Rattle.vt_laws_rules.proofs.rules.Outcomes.{error_is}
use Rattle.vt_laws_rules.specs.RuleOrder.{MissingBeforeSlash, RemovedBeforeSlash, RemovedBeforeSlashOfRename, StepRulesInOrder}
use Rattle.vt_laws_rules.specs.RuleRanks.{IsInOrder}
use Rattle.vt_spec.specs.declared.errors.Deny.{Deny}
use Rattle.vt_spec.specs.declared.errors.Rule.{Rule}
use Rattle.vt_spec.specs.declared.errors.Rule.TheVariants.{W6, W8}
use Rattle.vt_spec.proofs.Walk.{entry_location, hops, is_top, place_walk, search_rules, stepped}

module _ (world : World ℕ) (task : Task ℕ) (here : Location ℕ) where
  -- a refusal that comes after the search rules in order
  abbrev StandsAfterSearch : {A : Type 0} → Result A Deny → Type 0
  StandsAfterSearch result = IfErr result
      (λ deny. IsInOrder (search_rules nat_eq world task here ++ ((true, deny.rule) ∷ [])))

  found : {A : Type 0} (object : Option A) → StandsAfterSearch (ok_or object (denial W6))
  found object = grind (arith, common_steps)

  lost : {A : Type 0} (top gone : Bool) (stays parent : A)
      → StandsAfterSearch (cond top (Ok stays) (unless ((gone, W8) ∷ []) (Ok parent)))
  lost top gone stays parent = grind (arith, common_steps)

  steps : (word : LastWord) → StandsAfterSearch (stepped nat_eq world task here word)
  steps word = grind (arith, common_steps, hops, lost, is_top, is_lost, found, entry_location)

pub step_rules_in_order : StepRulesInOrder
step_rules_in_order world task here word deny e =
    error_is (λ d. IsInOrder (search_rules nat_eq world task here ++ ((true, d.rule) ∷ [])))
    (stepped nat_eq world task here word) deny e (steps world task here word)

-- a place that a rule stops at goes no further
stops : (fails : Bool) (rule : Rule) (place : Place ℕ) (next : Place ℕ → Result (Place ℕ) (Stop ℕ)) → fails ≡ true
    → walk_end (then_walk (walk_unless place.steps ((fails, rule) ∷ []) place) next) ≡ Err (denial rule)
stops fails rule place next e = cc

-- a walk to that place is refused so, whatever is asked behind it
stops_there : (walk : Result (Place ℕ) (Stop ℕ)) (place : Place ℕ) (fails : Place ℕ → Bool) (rule : Rule)
    (more : Place ℕ → Rules) → walk ≡ Ok place → fails place ≡ true
    → walk_end (then_walk (then_walk walk (λ p. walk_unless p.steps ((fails p, rule) ∷ []) p))
    (λ p. walk_unless p.steps (more p) p)) ≡ Err (denial rule)
stops_there walk place fails rule more leads e = cc

missing : {A : Type 0} (object : Option A) → object ≡ None → not (is_some object) ≡ true
missing object e = cc

pub removed_before_slash : RemovedBeforeSlash
removed_before_slash world task path place leads none removed =
    grind (arith, common_steps, stops_there, place_walk, and_from, missing)

pub missing_before_slash : MissingBeforeSlash
missing_before_slash world task path place leads none = grind (arith, common_steps)

pub removed_before_slash_of_rename : RemovedBeforeSlashOfRename
removed_before_slash_of_rename world task path place old_is_directory leads none removed =
    grind (arith, common_steps, stops_there, place_walk, and_from, missing)
