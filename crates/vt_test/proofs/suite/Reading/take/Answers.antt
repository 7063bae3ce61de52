use Rattle.std.proofs.Common.{◌∷◌, ◌++◌, [], subst}
use Rattle.std.proofs.lemmas.Result.{on_ok_weaker}
use Rattle.vt_test.specs.Suite.{ReadsOn}
use Rattle.vt_test.proofs.SuiteLemmas.{reads-more}
use Rattle.vt_test.proofs.suite.Reading.take.Goals as goal

pub returns-in-Name : goal.returns-in-Name
returns-in-Name c = on_ok_weaker c.begin.result
    (subst (λ call. ReadsOn (call ++ 10 ∷ []) c.args.self.now c.begin.new.self) c.in-Name.ensures) c.begin.ensures

pub returns-in-More : goal.returns-in-More
returns-in-More c = on_ok_weaker c.say_more.result
    (λ says. subst (λ call. ReadsOn (call ++ 10 ∷ []) c.args.self.now c.say_more.new.self) c.in-More.ensures
    (reads-more (10 ∷ []) c.args.self.now c.say_more.new.self says)) c.say_more.ensures

pub returns-in-Line : goal.returns-in-Line
returns-in-Line c =
    subst (λ call. ReadsOn (call ++ 10 ∷ []) c.args.self.now c.say.new.self) c.in-Line.ensures
    (reads-more (c.in-Line.call.now ++ 10 ∷ []) c.args.self.now c.say.new.self c.say.ensures)
