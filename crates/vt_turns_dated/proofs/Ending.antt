-- A call ends as turns ask of it.
use Rattle.std.proofs.Common.{nat_eq, Result, Ok, Err}
use Rattle.vt_spec.proofs.Common.{Call, IsWorld, TaskName}
use Rattle.vt_spec.specs.declared.errors.Deny.{Deny}
use Rattle.vt_request.specs.declared.answer.Answer.{Answer}
use Rattle.vt_changes.specs.DatedValue.{dated_world}
use Rattle.vt_changes.specs.Ends.{EndsDated}
use Rattle.vt_turns.specs.Ends as turns
use Rattle.vt_turns_dated.specs.Seen.{turn_world}
use Rattle.vt_turns_dated.specs.declared.kernel.TurnKernel.{TurnKernel}

pub turn_ends : (old new : TurnKernel) (name : TaskName) (call : Call) (result : Result Answer Deny)
    → EndsDated old.dated name call result new.dated → IsWorld nat_eq (dated_world new.dated)
    → turns.EndsDated turn_world old name call result new
turn_ends old new name call (Ok answer) it is = record {
  allotment = it.allotment;
  serves = it.serves;
  outcome = it.outcome;
  memory = it.memory;
  ready = (it.numbers, is);
}
turn_ends old new name call (Err deny) it is = record {
  allotment = it.allotment;
  serves = it.serves;
  outcome = (it.outcome.0, λ i. record { dated = it.outcome.1 i });
  memory = it.memory;
  ready = (it.numbers, is);
}
