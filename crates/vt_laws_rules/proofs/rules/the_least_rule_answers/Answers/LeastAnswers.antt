-- Of the rules that fail, the least answers a call.
use Rattle.std.proofs.Common.{◌≡◌, ◌∙◌, ◌+◌, subst, ap, ℕ, nat_eq, true, [], ◌∷◌, Result, Ok, Err, IfOk, arith}
use Rattle.vt_spec.proofs.Common.{Call, Fresh, Rules, Task, World, policy, result_err, unless, common_steps}
use Rattle.vt_laws_rules.proofs.rules.the_least_rule_answers.Answers.AskedRules.{asked, decided, policy_asked}
use Rattle.vt_laws_rules.proofs.rules.the_least_rule_answers.Answers.LeastRule.{before_least, denied_as, front_in_order, least_as, none_fails, refused_as, table_least}
use Rattle.vt_laws_rules.proofs.rules.TableOrder.{first_in_order, last_in_order}
use Rattle.vt_laws_rules.specs.Asked.{IsLeastOf, asked_first, asked_last, failing}
use Rattle.vt_laws_rules.specs.RuleOrder.{FirstRulesAnswer, LastRulesAnswer, NoTaskIsRefused, WalksAnswerNext}
use Rattle.vt_laws_rules.specs.RuleRanks.{IsInOrderAfterWalk, rank}
use Rattle.vt_spec.specs.declared.errors.Deny.{Deny}
use Rattle.vt_spec.specs.declared.errors.Rule.TheVariants.{W1, W9}

pub no_task_is_refused : NoTaskIsRefused
no_task_is_refused fresh world name call none = cc

pub first_rules_answer : FirstRulesAnswer
first_rules_answer fresh world name task call there some =
    grind (
      arith,
      common_steps,
      refused_as (λ deny. IsLeastOf deny.rule (failing (asked_first world task call)))
          (policy nat_eq fresh world name call).answer (asked fresh world task call) (policy_asked fresh world name task
          call there) (before_least 0 (asked_first world task call) (decided (asked_last fresh world task call))
          (front_in_order 0 (asked_first world task call) ((true, W1) ∷ []) (first_in_order world task call)) some),
    )

-- where no first rule fails, what is left decides
left_to_decide : (fresh : Fresh ℕ) (world : World ℕ) (task : Task ℕ) (call : Call) (last : Result Rules Deny)
    → failing (asked_first world task call) ≡ [] → asked_last fresh world task call ≡ last
    → asked fresh world task call ≡ decided last
left_to_decide fresh world task call last none e = grind (arith, common_steps, none_fails, decided)

pub walks_answer_next : WalksAnswerNext
walks_answer_next fresh world name task call deny there none e =
    denied_as (policy nat_eq fresh world name call).answer (asked fresh world task call) deny
    (policy_asked fresh world name task call there) (left_to_decide fresh world task call (Err deny) none e)

-- the table at the end of the walks is in order
ends_in_order : (last : Result Rules Deny) (rules : Rules) → last ≡ Ok rules → IfOk last IsInOrderAfterWalk
    → IsInOrderAfterWalk rules
ends_in_order last rules e h = subst (λ l. IfOk l IsInOrderAfterWalk) e h

pub last_rules_answer : LastRulesAnswer
last_rules_answer fresh world name task call rules there none e =
    least_as (policy nat_eq fresh world name call).answer (unless rules (Ok true)) (failing rules)
    (policy_asked fresh world name task call there
    ∙ ap result_err (left_to_decide fresh world task call (Ok rules) none e)) (table_least (rank W9 + 1) rules
    (ends_in_order (asked_last fresh world task call) rules e (last_in_order fresh world task call)))
