-- The answer of a change that was made, or for which an allocation failed.
use Rattle.std.specs.Prelude.{Err, Ok, Result, ⊤}
use Rattle.std.specs.declared.alloc.AllocError.{AllocError}
use Rattle.vt_spec.specs.declared.errors.Deny.{Deny}
use Rattle.vt_spec.specs.declared.errors.Rule.TheVariants.{S5}
use Rattle.vt_spec.specs.Errors.{denial}
use Rattle.vt_request.specs.declared.answer.Answer.{Answer}
use Rattle.vt_request.specs.declared.answer.Answer.TheVariants.{Done}

abbrev pub answered : Result ⊤ AllocError → Result Answer Deny
answered (Ok changed) = Ok Done
answered (Err refused) = Err (denial S5)
