use Rattle.std.proofs.Common.{◌≡◌, ◌∙◌, ◌+◌, ◌-◌, suc, arith, nat_eq, sym}
use Rattle.vt_spec.proofs.Common.{has_members}
use Rattle.vt_group.specs.Grouping.{master_in}
use Rattle.vt_propagate.specs.Copying.{parts_seen}
use Rattle.vt_location.specs.Numbers.{counted}
use Rattle.vt_propagate.proofs.Indexing.{find_up}
use Rattle.vt_propagate.proofs.numbering.Copying.nearest.Goals as goal

pub loop-preserved : goal.loop-preserved
loop-preserved c =
    let n : c.len-end.result - c.loop.counter
    ≡ suc (c.len-end.result - (c.loop.counter + 1)) = omega (arith, c.loop-test.true) in
    find_up (has_members nat_eq (parts_seen c.args.self.now)) (master_in c.args.groups.now)
    (counted c.loop.here.count) n
    (sym c.has_part.ensures ∙ c.if-has_part.false) (sym c.in_ok-here.ensures) ∙ c.loop.invariant
