-- How a call of the code's world ends.
use Rattle.std.specs.Prelude.{Result, ℕ}
use Rattle.vt_spec.specs.declared.errors.Deny.{Deny}
use Rattle.vt_spec.specs.Language.Calls.{Call, TaskName}
use Rattle.vt_spec.specs.Machine.Outcomes.{Outcome}
use Rattle.vt_request.specs.declared.answer.Answer.{Answer}
use Rattle.vt_answers.specs.Ends as any
use Rattle.vt_world.specs.WorldValue.{WorldValue, world_of}

abbrev pub Meets : Call → Outcome ℕ → Result Answer Deny → WorldValue → WorldValue → Type 0
Meets = any.Meets world_of

abbrev pub Ends : WorldValue → TaskName → Call → Result Answer Deny → WorldValue → Type 0
Ends = any.Ends world_of
