use Rattle.std.proofs.Common.{◌∙◌, ap, sym}
use Rattle.vt_spec.proofs.Common.{IfOk-weaker}
use Rattle.vt_location.specs.Locations.{location_of}
use Rattle.vt_location.specs.Numbers.{counted}
use Rattle.vt_propagate.proofs.Found.{counts}
use Rattle.vt_propagate.proofs.Leaving.{going-alone, going-everywhere}
use Rattle.vt_propagate.proofs.unmounting.Here.{going-here}
use Rattle.vt_propagate.proofs.unmounting.going.Goals as goal

pub returns-in_default : goal.returns-in_default
returns-in_default c = record {
  ok = IfOk-weaker c.alone.result _ _ (λ list is world seen.
      ap counts is
      ∙ going-alone seen (counted c.args.id.count) (sym c.in_default.ensures)) c.alone.ensures.ok;
}

pub returns-then-not-has_others_on : goal.returns-then-not-has_others_on
returns-then-not-has_others_on c = record {
  ok = IfOk-weaker c.free_on.result _ _ (λ going is world seen. is
      ∙ going-here seen (counted c.args.id.count) (location_of c.in-Some.point, counted c.in-Some.group.count)
      (sym c.in-Some.ensures) c.has_others_on.ensures.order (sym c.has_others_on.ensures.others ∙ c.if-not-has_others_on.true))
      c.free_on.ensures;
}

pub returns : goal.returns
returns c = record {
  ok = IfOk-weaker c.free_on-2.result _ _ (λ going is world seen. is
      ∙ going-everywhere seen (counted c.args.id.count) (location_of c.in-Some.point, counted c.in-Some.group.count)
      (sym c.in-Some.ensures) (counts c.deref.result.now)
      (ap counts c.deref.ensures ∙ c.in_ok-receivers.ensures.ok world seen.groups seen.living))
      c.free_on-2.ensures;
}
