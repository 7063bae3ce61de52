use Rattle.std.proofs.Common.{arith}
use Rattle.vt_spec.proofs.Common.{slice_get_within}
use Rattle.vt_copyup.proofs.Ways.{leads_on}
use Rattle.vt_copyup.proofs.planning.led_above.Goals as goal

pub loop-index-preserved : goal.loop-index-preserved
loop-index-preserved g c =
    let names = g.W.Way.names c.args.path.now in
    let next = leads_on c.args.trees.now c.args.directory c.loop-index.here c.loop-index.invariant.beside names
    c.loop-index.index c.name.result.now c.name.ensures c.loop-index.invariant.leads c.in-Some.found
    c.in-Some.ensures.above c.in-Some.ensures.entry in
    record { leads = next.0; beside = next.1 }

pub returns-clause-end : goal.returns-clause-end
returns-clause-end g c = λ name at.
    let within = slice_get_within (g.W.Way.names c.args.path.now) c.len.result name at in
    absurd (let no : ⊥ = omega (arith, within, c.len.ensures) in no)
