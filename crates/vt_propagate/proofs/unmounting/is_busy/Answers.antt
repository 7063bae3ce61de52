use Rattle.std.proofs.Common.{◌∙◌, ap, sym}
use Rattle.vt_location.specs.Numbers.{counted}
use Rattle.vt_propagate.proofs.Found.{counts}
use Rattle.vt_propagate.proofs.Leaving.{busy-told}
use Rattle.vt_propagate.proofs.unmounting.is_busy.Goals as goal

pub returns : goal.returns
returns c = record {
  ok = λ world seen uses. c.are_used.ensures
      ∙ busy-told seen uses (counted c.args.id.count) (sym c.has_child.ensures ∙ c.if-has_child.false)
      (ap counts c.deref.ensures ∙ c.in_ok-going.ensures.ok world seen);
}
