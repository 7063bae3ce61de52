-- How a call ends.
use Rattle.std.specs.Prelude.{Err, Ok, Result, [], false, true, ◌∷◌}
use Rattle.vt_spec.specs.Language.Answers.{Answer}
use Rattle.vt_spec.specs.declared.errors.Deny.{Deny}
use Rattle.vt_spec.specs.Errors.{Rules, denial}
use Rattle.vt_spec.specs.Machine.World.{World}

-- how a call ends: its answer or refusal, and the world that it leaves
pub record Outcome (N : Type 0) : Type 0 where
  pub answer : Result Answer Deny
  pub world : World N

module _ {N : Type 0} where
  -- a refused call changes nothing
  abbrev pub denied : World N → Deny → Outcome N
  denied world deny = record { answer = Err deny; world = world }

  -- a call is answered, and leaves this world
  abbrev pub granted : Answer → World N → Outcome N
  granted answer world = record { answer = Ok answer; world = world }

  -- the refusal by the first rule that fails, else the outcome
  abbrev pub judged : World N → Rules → Outcome N → Outcome N
  judged world [] outcome = outcome
  judged world ((true, rule) ∷ rows) outcome = denied world (denial rule)
  judged world ((false, rule) ∷ rows) outcome = judged world rows outcome

  -- the outcome after a step that may be refused
  abbrev pub after : {A : Type 0} → World N → Result A Deny → (A → Outcome N) → Outcome N
  after world (Ok a) next = next a
  after world (Err deny) next = denied world deny
