use Rattle.std.proofs.Common.{◌∙◌, ◌||◌, ap, is_err, map, sym}
use Rattle.vt_request.specs.Requests.{call_of}
use Rattle.vt_turns.specs.Kept.{progress_of}
use Rattle.vt_turns.proofs.KeptWords.{all_forgotten, meant_forgotten, words_stay}
use Rattle.vt_turns.proofs.state.State.run_call.Goals as goal

pub returns-then-changes_nothing-clause-words : goal.returns-then-changes_nothing-clause-words
returns-then-changes_nothing-clause-words g c = λ calls keep. words_stay g.C.TakesTurns.world c.args.self.now.world
    c.call-ended.new.self c.args.name.now (call_of c.args.call) c.call-ended.result c.call-ended.ensures.ends
    (ap (λ b. b || is_err c.call-ended.result) (sym c.only_looks-looks.ensures) ∙ sym c.changes_nothing.ensures
    ∙ c.if-changes_nothing.true) c.args.self.now.under_way.items calls keep

pub returns-clause-under_way : goal.returns-clause-under_way
returns-clause-under_way g c = ap (map progress_of) c.forget_words.ensures ∙ meant_forgotten c.args.self.now.under_way.items

pub returns-clause-words : goal.returns-clause-words
returns-clause-words g c = λ calls keep. all_forgotten (g.C.TakesTurns.world c.call-ended.new.self) calls
    c.args.self.now.under_way.items c.forget_words.new.under_way.items c.forget_words.ensures
