use Rattle.std.proofs.Common.{◌∙◌, ◌∷◌, ap}
use Rattle.vt_turns.proofs.KeptWords.{ends_by, found_theirs, goes_by}
use Rattle.vt_turns.proofs.state.State.walk.Goals as goal

pub returns-in_default-clause-walks : goal.returns-in_default-clause-walks
returns-in_default-clause-walks g c = λ calls call asked first keep.
    let world = g.C.TakesTurns.world c.args.self.now.world in
    let name = c.args.name.now in
    let old = c.args.self.now.under_way.items in
    let found = c.take_of-held.result in
    ends_by world name call calls first old keep found c.take_of-held.ensures.found c.in_ok-next.field-0
    (c.in_ok-next.ensures call asked (found_theirs world name call calls first old found c.take_of-held.ensures.found keep))
    c.in_default.is c.take_of-held.new.under_way.items c.take_of-held.ensures.left

pub returns-clause-walks : goal.returns-clause-walks
returns-clause-walks g c = λ calls call asked first keep.
    let world = g.C.TakesTurns.world c.args.self.now.world in
    let name = c.args.name.now in
    let old = c.args.self.now.under_way.items in
    let found = c.take_of-held.result in
    goes_by world name call calls first old keep found c.take_of-held.ensures.found c.in_ok-next.field-0
    (c.in_ok-next.ensures call asked (found_theirs world name call calls first old found c.take_of-held.ensures.found keep))
    c.in-Some.next c.in-Some.is c.insert.new.self.items
    (c.in_ok-insert.ensures.items ∙ ap (λ l. c.in-Some.next ∷ l) c.take_of-held.ensures.left)
