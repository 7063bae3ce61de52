-- What is judged of a call where rules are let pass is what code answers of it.
use Rattle.std.proofs.Common.{◌≡◌, ℕ, Bool, true, false, List, [], ◌∷◌, Option, None, Some, Result, Ok, Err, cond, inl, inr, nat_eq, ok_or, refl, sym, ◌∙◌}
use Rattle.vt_spec.proofs.Common.{Judgement, Location, Looks, Permit, Rules, Task, and_then, by_option, denial, descriptor_at, layers_walked, run, unless, walk_end}
use Rattle.vt_spec.specs.declared.errors.Deny.{Deny}
use Rattle.vt_spec.specs.declared.errors.Rule.{Rule}
use Rattle.vt_spec.specs.declared.errors.Rule.TheVariants.{S2, S5}
use Rattle.vt_spec.specs.Machine.Judging.{Judging, walk_to, walk_to_name}
use Rattle.vt_spec.specs.Machine.Judging.Judging.{Attaches, Checks, FindsFile, FindsTask, Grants, IfSo, IfThere, Layers, Names, Needs, Refuses, Walks, Words}
use Rattle.vt_later.specs.Passing.{lets_pass, past, refused_by, without}
use Rattle.vt_later.specs.Past.{Refusal, RefusesAs, refusal_past}

-- nothing, or the refusal
abbrev pub answer_of : Judgement ℕ → Refusal
answer_of (Ok permit) = Ok tt
answer_of (Err deny) = Err deny

rows_answer : (rows : Rules) (judged : Judgement ℕ) (refusal : Refusal) → answer_of judged ≡ refusal
    → answer_of (unless rows judged) ≡ unless rows refusal
rows_answer [] judged refusal e = e
rows_answer ((true, rule) ∷ rows) judged refusal e = refl
rows_answer ((false, rule) ∷ rows) judged refusal e = rows_answer rows judged refusal e

step_answer : {A : Type 0} (step : Result A Deny) (next : A → Judgement ℕ) (other : A → Refusal)
    → ((a : A) → answer_of (next a) ≡ other a) → answer_of (and_then step next) ≡ and_then step other
step_answer (Ok a) next other e = e a
step_answer (Err deny) next other e = refl

option_answer : (object : Option (Location ℕ)) (there : Location ℕ → Judgement ℕ) (missing : Judgement ℕ)
    (other : Location ℕ → Refusal) (none : Refusal) → ((at : Location ℕ) → answer_of (there at) ≡ other at)
    → answer_of missing ≡ none → answer_of (by_option there missing object) ≡ by_option other none object
option_answer (Some at) there missing other none e f = e at
option_answer None there missing other none e f = f

cond_answer : (test : Bool) (so otherwise : Judgement ℕ) (one other : Refusal) → answer_of so ≡ one
    → answer_of otherwise ≡ other → answer_of (cond test so otherwise) ≡ cond test one other
cond_answer true so otherwise one other e f = e
cond_answer false so otherwise one other e f = f

module _ (looks : Looks ℕ) (task : Task ℕ) (passed : List Rule) (overfills : Permit ℕ → Bool) where
  abbrev left : Judging ℕ → Judgement ℕ
  left asked = run nat_eq looks task overfills (past (lets_pass passed) asked)

  abbrev answer : Judging ℕ → Refusal
  answer asked = refusal_past looks task passed overfills asked

  pub answered : (asked : Judging ℕ) → answer_of (left asked) ≡ answer asked
  answered (Grants permit) = refl
  answered (Checks rules permit) = rows_answer (without (lets_pass passed) rules) (Ok permit) (Ok tt) refl
  answered (Attaches rules permit) =
      rows_answer (without (lets_pass passed) (rules (overfills permit))) (Ok permit) (Ok tt) refl
  answered (Refuses rule) = refl
  answered (Needs rules next) =
      rows_answer (without (lets_pass passed) rules) (left next) (answer next) (answered next)
  answered (FindsFile number fits next) = step_answer (descriptor_at task number fits)
      (λ descriptor. left (next descriptor)) (λ descriptor. answer (next descriptor))
      (λ descriptor. answered (next descriptor))
  answered (FindsTask name next) = step_answer (ok_or (looks.namespace_called name) (denial S2))
      (λ namespace. left (next namespace)) (λ namespace. answer (next namespace))
      (λ namespace. answered (next namespace))
  answered (Walks aim path next) = step_answer (walk_end (walk_to nat_eq looks task aim path))
      (λ here. left (next here)) (λ here. answer (next here)) (λ here. answered (next here))
  answered (Names aim path next) = step_answer (walk_end (walk_to_name nat_eq looks task aim path))
      (λ place. left (next place)) (λ place. answer (next place)) (λ place. answered (next place))
  answered (Layers words next) = step_answer (layers_walked nat_eq looks task words)
      (λ layers. left (next layers)) (λ layers. answer (next layers)) (λ layers. answered (next layers))
  answered (Words rules next) =
      rows_answer (without (lets_pass passed) rules) (left next) (answer next) (answered next)
  answered (IfThere object there missing) = option_answer object (λ file. left (there file)) (left missing)
      (λ file. answer (there file)) (answer missing) (λ file. answered (there file)) (answered missing)
  answered (IfSo test so otherwise) = cond_answer test (left so) (left otherwise) (answer so) (answer otherwise)
      (answered so) (answered otherwise)

-- the rule by which a judgement refuses
pub no_refusal : (judged : Judgement ℕ) (past : Refusal) → answer_of judged ≡ past → past ≡ Ok tt
    → None ≡ refused_by judged
no_refusal (Ok permit) past e ok = refl
no_refusal (Err deny) past e ok = absurd cc

pub a_refusal : (judged : Judgement ℕ) (past : Refusal) (deny : Deny) → answer_of judged ≡ past
    → RefusesAs past (Err deny) → ((deny ≡ denial S5) → ⊥) → Some deny.rule ≡ refused_by judged
a_refusal (Ok permit) past deny e (inl refused) other = absurd cc
a_refusal (Err refusal) past deny e (inl refused) other = cc
a_refusal judged past deny e (inr memory) other = absurd (other memory)

-- what is answered exactly is answered
pub exactly : (past answer : Refusal) → answer ≡ past → RefusesAs past answer
exactly past (Ok tt) e = sym e
exactly past (Err deny) e = inl (sym e)

-- so is the same, written otherwise
pub as_well : (past other answer : Refusal) → past ≡ other → RefusesAs past answer → RefusesAs other answer
as_well past other (Ok done) e refuses = sym e ∙ refuses
as_well past other (Err deny) e (inl refuses) = inl (sym e ∙ refuses)
as_well past other (Err deny) e (inr memory) = inr memory
