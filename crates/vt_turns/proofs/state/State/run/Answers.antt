use Rattle.std.proofs.Common.{◌∙◌, Err, ap, inl, inr, refl, subst, sym}
use Rattle.vt_spec.specs.Language.Calls.{Call}
use Rattle.vt_turns.specs.Ends.{EndsDated}
use Rattle.vt_turns.proofs.KeptWords.{same_call}
use Rattle.vt_turns.proofs.state.State.run.Goals as goal

pub returns-in-Ok-clause-ends : goal.returns-in-Ok-clause-ends
returns-in-Ok-clause-ends g c = λ call asked. inl (subst (λ (a : Call). EndsDated g.C.TakesTurns.world
    c.args.self.now.world c.args.name.now a c.run_call.result c.run_call.new.self.world)
    (same_call (sym c.in-Ok.ensures ∙ asked)) c.run_call.ensures.ends)

pub returns-in-Err-clause-ends : goal.returns-in-Err-clause-ends
returns-in-Err-clause-ends g c = λ call asked. inr (ap Err c.from.ensures, refl)
