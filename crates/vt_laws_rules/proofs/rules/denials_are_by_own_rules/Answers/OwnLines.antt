-- Lines are refused by their own rules.
use Rattle.std.proofs.Common.{arith, refl, ℕ, nat_eq, Bool, List, [], ◌∷◌, ◌++◌, Option, Some, None, Result}
use Rattle.vt_spec.proofs.Common.{Answered, AskPeers, AskSealed, Asking, Calling, Directive, Fresh, Grammar, Request, Silent, Step, World, common_steps, denial, directed, line_step_by, request_of, requested, spoken_step}
use Rattle.vt_laws_rules.proofs.rules.Outcomes.{IsOwn, RefusesOwn, error_is}
use Rattle.vt_laws_rules.proofs.rules.OwnRules.{policy_refuses_own}
use Rattle.vt_laws_rules.specs.RuleOrder.{DeniedLineIsOwn, rules_of, rules_of_request}
use Rattle.vt_spec.specs.declared.errors.Deny.{Deny}
use Rattle.vt_spec.specs.declared.errors.Rule.{Rule}
use Rattle.vt_spec.specs.declared.errors.Rule.TheVariants.{S1, S2, S5}

-- a step is refused by those rules alone
abbrev StepRefusesOwn : List Rule → Step ℕ → Type 0
StepRefusesOwn rules Silent = Unit {0}
StepRefusesOwn rules (Answered outcome) = RefusesOwn rules outcome.answer

own_among_more : {A : Type 0} (own rules : List Rule) (answer : Result A Deny) → RefusesOwn rules answer
    → RefusesOwn (own ++ rules) answer
own_among_more own rules answer h = grind (arith, common_steps)

directive_own : (world : World ℕ) (directive : Directive)
    → RefusesOwn (S1 ∷ S5 ∷ S2 ∷ []) (directed nat_eq world directive).answer
directive_own world AskPeers = tt
directive_own world (AskSealed names) = grind (arith, common_steps)

request_own : (world : World ℕ) (request : Option Request) (fresh : Fresh ℕ)
    → RefusesOwn (rules_of_request request) (requested nat_eq world request fresh).answer
request_own world None fresh = (refl, refl)
request_own world (Some (Calling task call)) fresh =
    own_among_more (S1 ∷ S5 ∷ []) (rules_of call) (requested nat_eq world (Some (Calling task call)) fresh).answer
    (policy_refuses_own fresh world task call).1
request_own world (Some (Asking directive)) fresh = directive_own world directive

-- S1 and S5 are rules of every line
line_rules : (request : Option Request)
    → IsOwn (rules_of_request request) (denial S1) × IsOwn (rules_of_request request) (denial S5)
line_rules request = grind (arith, common_steps)

spoken_own : (grammar : Grammar) (world : World ℕ) (line : List ℕ) (fresh : Option (Fresh ℕ))
    → StepRefusesOwn (rules_of_request (request_of grammar line)) (spoken_step nat_eq grammar world line fresh)
spoken_own grammar world line fresh = grind (arith, common_steps, line_rules, request_own)

line_own : (long silent : Bool) (grammar : Grammar) (world : World ℕ) (line : List ℕ) (fresh : Option (Fresh ℕ))
    → StepRefusesOwn (rules_of_request (request_of grammar line))
    (line_step_by nat_eq long silent grammar world line fresh)
line_own long silent grammar world line fresh = grind (arith, common_steps, line_rules, spoken_own)

pub denied_line_is_own : DeniedLineIsOwn
denied_line_is_own grammar world line fresh outcome deny steps e = grind (arith, common_steps, error_is, line_own)
