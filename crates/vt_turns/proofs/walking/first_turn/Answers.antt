use Rattle.std.proofs.Common.{◌∙◌, ◌≡◌, IfOk, subst, sym}
use Rattle.vt_spec.specs.Language.Calls.{Call}
use Rattle.vt_request.specs.Requests.{call_of}
use Rattle.vt_turns.specs.Going.{AreWords, first_in}
use Rattle.vt_turns.specs.Kept.{GoesOn}
use Rattle.vt_turns.specs.ProgressValue.{words_meant}
use Rattle.vt_turns.proofs.KeptWords.{same_call}
use Rattle.vt_turns.proofs.NextWords.{first_walks}
use Rattle.vt_turns.proofs.walking.first_turn.Goals as goal

pub returns : goal.returns
returns g c = λ call asked.
    let world = g.C.TakesTurns.world c.args.world.now in
    let name = c.args.name.now in
    let own : Call = call_of c.in_ok-call.call in
    let same : own ≡ call = same_call (sym c.in_ok-call.ensures ∙ asked) in
    subst (λ (a : Call). IfOk c.further.result
    (GoesOn world name a (first_in world a name c.args.numbers c.args.restarts))) same
    (first_walks world own name c.args.numbers c.args.restarts (sym c.may_begin.ensures ∙ c.if-not-may_begin.false)
    c.in_ok-progress.progress c.in_ok-progress.ensures c.further.result
    (λ task. c.further.ensures own
    (subst (λ n. AreWords world n own (words_meant c.in_ok-words.words)) (sym task) c.in_ok-words.ensures)))
