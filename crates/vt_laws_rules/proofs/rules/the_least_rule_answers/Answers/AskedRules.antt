-- Each call is answered by what it asks: its first rules, its walks, and its last table.
use Rattle.std.proofs.Common.{arith, ◌≡◌, refl, ap, ◌∙◌, ℕ, nat_eq, Bool, true, false, not, List, [], ◌∷◌, ◌++◌, ◌||◌, Option, Some, None, ok_or, Result, Ok, Err, is_ok}
use Rattle.vt_spec.proofs.Common.{Call, Fresh, Judgement, Outcome, Permit, Rules, Task, TaskName, World, after, and_then, apply, call_outcome, common_steps, denial, descriptor_at, finished_unless, judge_in, layers_walked, looks_of, only_looks, overfills, policy, result_err, task_called, unless, walk_end, words}
use Rattle.vt_laws_rules.specs.Asked.{asked_first, asked_last, first_rules, last_rules, rules_behind}
use Rattle.vt_spec.specs.Machine.Judging.{Judging, by_option, judging, run, walk_to, walk_to_name}
use Rattle.vt_spec.specs.declared.errors.Deny.{Deny}
use Rattle.vt_spec.specs.declared.errors.Rule.{Rule}
use Rattle.vt_spec.specs.declared.errors.Rule.TheVariants.{S2, S4}
use Rattle.vt_spec.specs.Machine.Judging.Judging.{Attaches, Checks, FindsFile, FindsTask, Grants, IfSo, IfThere, Layers, Names, Needs, Refuses, Walks, Words}

-- what is left of a call once its walks are done
abbrev pub decided : Result Rules Deny → Result Bool Deny
decided last = and_then last (λ rules. unless rules (Ok true))

-- a call is refused as the result is, and granted where that is
abbrev pub IsAnsweredAs : {A : Type 0} → Result A Deny → Result Bool Deny → Type 0
IsAnsweredAs answer result = result_err answer ≡ result_err result

table_asked : (rows : Rules) (judgement : Judgement ℕ) (result : Result Bool Deny) → IsAnsweredAs judgement result
    → IsAnsweredAs (unless rows judgement) (unless rows result)
table_asked [] judgement result e = e
table_asked ((true, rule) ∷ rows) judgement result e = refl
table_asked ((false, rule) ∷ rows) judgement result e = table_asked rows judgement result e

-- rules that are asked before the last table
rules_asked : (rows : Rules) (judgement : Judgement ℕ) (last : Result Rules Deny)
    → IsAnsweredAs judgement (decided last) → IsAnsweredAs (unless rows judgement) (decided (unless rows last))
rules_asked [] judgement last e = e
rules_asked ((true, rule) ∷ rows) judgement last e = refl
rules_asked ((false, rule) ∷ rows) judgement last e = rules_asked rows judgement last e

step_asked : {A : Type 0} (first : Result A Deny) (next : A → Judgement ℕ) (last : A → Result Rules Deny)
    → ((a : A) → IsAnsweredAs (next a) (decided (last a)))
    → IsAnsweredAs (and_then first next) (decided (and_then first last))
step_asked (Ok a) next last e = e a
step_asked (Err deny) next last e = refl

-- what is asked after some rules is asked after them twice
first_again : (rows more : Rules) (judgement : Judgement ℕ) → judgement ≡ unless more judgement
    → unless rows judgement ≡ unless (rows ++ more) (unless rows judgement)
first_again [] more judgement e = e
first_again ((true, rule) ∷ rows) more judgement e = refl
first_again ((false, rule) ∷ rows) more judgement e = first_again rows more judgement e

step_again : {A : Type 0} (rule : Rule) (object : Option A) (rest : A → Rules) (next : A → Judgement ℕ)
    → ((a : A) → next a ≡ unless (rest a) (next a)) → and_then (ok_or object (denial rule)) next
    ≡ unless (rules_behind rule rest (ok_or object (denial rule))) (and_then (ok_or object (denial rule)) next)
step_again rule (Some a) rest next e = e a
step_again rule None rest next e = refl

task_again : {A : Type 0} (object : Option A) (rest : A → Rules) (next : A → Judgement ℕ)
    → ((a : A) → next a ≡ unless (rest a) (next a)) → and_then (ok_or object (denial S2)) next
    ≡ unless (by_option rest ((true, S2) ∷ []) object) (and_then (ok_or object (denial S2)) next)
task_again (Some a) rest next e = e a
task_again None rest next e = refl

module _ (world : World ℕ) (task : Task ℕ) (overfills : Permit ℕ → Bool) where
  abbrev runs : Judging ℕ → Judgement ℕ
  runs asked = run nat_eq (looks_of nat_eq world) task overfills asked

  abbrev last : Judging ℕ → Result Rules Deny
  last asked = last_rules nat_eq (looks_of nat_eq world) task overfills asked

  abbrev first : Judging ℕ → Rules
  first asked = first_rules nat_eq (looks_of nat_eq world) task asked

  -- a run is decided by the walks and the last table
  run_decided : (asked : Judging ℕ) → IsAnsweredAs (runs asked) (decided (last asked))
  run_decided (Grants permit) = refl
  run_decided (Checks rules permit) = table_asked rules (Ok permit) (Ok true) refl
  run_decided (Attaches rules permit) = table_asked (rules (overfills permit)) (Ok permit) (Ok true) refl
  run_decided (Refuses rule) = refl
  run_decided (Needs rules next) = rules_asked rules (runs next) (last next) (run_decided next)
  run_decided (FindsFile number fits next) =
      step_asked (descriptor_at task number fits) _ _ (λ descriptor. run_decided (next descriptor))
  run_decided (FindsTask name next) =
      step_asked (ok_or ((looks_of nat_eq world).namespace_called name) (denial S2)) _ _
      (λ namespace. run_decided (next namespace))
  run_decided (Walks aim path next) =
      step_asked (walk_end (walk_to nat_eq (looks_of nat_eq world) task aim path)) _ _ (λ here. run_decided (next here))
  run_decided (Names aim path next) =
      step_asked (walk_end (walk_to_name nat_eq (looks_of nat_eq world) task aim path)) _ _
      (λ place. run_decided (next place))
  run_decided (Layers words next) =
      step_asked (layers_walked nat_eq (looks_of nat_eq world) task words) _ _ (λ layers. run_decided (next layers))
  run_decided (Words rules next) = rules_asked rules (runs next) (last next) (run_decided next)
  run_decided (IfThere (Some file) there missing) = run_decided (there file)
  run_decided (IfThere None there missing) = run_decided missing
  run_decided (IfSo true so otherwise) = run_decided so
  run_decided (IfSo false so otherwise) = run_decided otherwise

  -- the first rules are asked first
  run_first : (asked : Judging ℕ) → runs asked ≡ unless (first asked) (runs asked)
  run_first (Needs rules next) = first_again rules (first next) (runs next) (run_first next)
  run_first (FindsFile number fits next) =
      step_again S4 _ (λ descriptor. first (next descriptor)) _ (λ descriptor. run_first (next descriptor))
  run_first (FindsTask name next) = task_again ((looks_of nat_eq world).namespace_called name)
      (λ namespace. first (next namespace)) _ (λ namespace. run_first (next namespace))
  run_first asked = refl

-- what a call is answered by
abbrev pub asked : Fresh ℕ → World ℕ → Task ℕ → Call → Result Bool Deny
asked fresh world task call = unless (asked_first world task call) (decided (asked_last fresh world task call))

-- each call is answered by what it asks
call_asked : (fresh : Fresh ℕ) (world : World ℕ) (task : Task ℕ) (call : Call)
    → IsAnsweredAs (judge_in nat_eq fresh world task call) (asked fresh world task call)
call_asked fresh world task call =
    let value = judging nat_eq (looks_of nat_eq world) task call in
    let full = overfills nat_eq fresh world task in
    ap result_err (run_first world task full value)
    ∙ table_asked (asked_first world task call) (runs world task full value) _ (run_decided world task full value)

-- a permit is applied, and change numbers do not change the answer
applied_asked : (fresh : Fresh ℕ) (world : World ℕ) (task : Task ℕ) (judgement : Judgement ℕ)
    (result : Result Bool Deny) → IsAnsweredAs judgement result
    → IsAnsweredAs (after world judgement (apply nat_eq fresh world task)).answer result
applied_asked fresh world task judgement result h = grind (arith, common_steps)

finished_asked : (finished : Bool) (before : World ℕ) (name : TaskName) (changed : List ℕ) (outcome : Outcome ℕ)
    (result : Result Bool Deny) → IsAnsweredAs outcome.answer result
    → IsAnsweredAs (finished_unless nat_eq finished before name changed outcome).answer result
finished_asked finished before name changed outcome result e = grind (arith, common_steps)

-- a task's call is answered by what it asks
pub policy_asked : (fresh : Fresh ℕ) (world : World ℕ) (name : TaskName) (task : Task ℕ) (call : Call)
    → task_called world name ≡ Some task
    → IsAnsweredAs (policy nat_eq fresh world name call).answer (asked fresh world task call)
policy_asked fresh world name task call there =
    cc (finished_asked (only_looks call || not (is_ok (call_outcome nat_eq fresh world task call).answer)) world name
    _ (call_outcome nat_eq fresh world task call) (asked fresh world task call) (applied_asked fresh world task
    (judge_in nat_eq fresh world task call) (asked fresh world task call) (call_asked fresh world task call)))
