use Rattle.std.proofs.Common.{arith, subst}
use Rattle.vt_spec.proofs.Common.{OnOk_then}
use Rattle.vt_propagate.specs.Falling.{HasMore}
use Rattle.vt_propagate.proofs.falling.GoneSets.{known_all, known_few, known_more}
use Rattle.vt_propagate.proofs.lazily.note_all.Goals as goal

pub returns-then-len-le-FEW-clause-set : goal.returns-then-len-le-FEW-clause-set
returns-then-len-le-FEW-clause-set c = known_few c.args.set.now.keys c.args.ids.now.items c.args.more.now
    c.extend_from_slice.new.self.items c.in_ok-extend_from_slice.ensures.items
    (omega (arith, c.len.ensures, c.if-len-le-FEW.true))

pub returns-then-had-le-FEW-clause-set : goal.returns-then-had-le-FEW-clause-set
returns-then-had-le-FEW-clause-set c = OnOk_then c.note_in_set.result (λ more known.
    known_all c.args.set.now.keys c.note_in_set.new.set.keys c.extend_from_slice.new.self.items
    (known.few (omega (arith, c.len-had.ensures, c.if-had-le-FEW.true)))
    (subst (λ ids. HasMore c.args.set.now.keys ids c.note_in_set.new.set.keys) c.deref.ensures.value more)
    (omega (arith, c.len.ensures, c.if-len-le-FEW.false))) c.note_in_set.ensures

pub returns-clause-set : goal.returns-clause-set
returns-clause-set c = OnOk_then c.note_in_set-2.result (λ more known.
    known_more c.args.set.now.keys c.note_in_set-2.new.set.keys c.args.ids.now.items c.args.more.now
    c.extend_from_slice.new.self.items c.in_ok-extend_from_slice.ensures.items
    (known.many (omega (arith, c.len-had.ensures, c.if-had-le-FEW.false))) more
    (omega (arith, c.len.ensures, c.if-len-le-FEW.false))) c.note_in_set-2.ensures
