use Rattle.std.proofs.Common.{ap, false, is_some, nat_eq, option_map, refl, rules, Some, sym, true≢false, ◌∙◌, ◌≡◌}
use Rattle.vt_overlay.specs.Merge.LayerValue.{seen_of}
use Rattle.vt_upper_overlay.specs.MergedAbove.{lent}
use Rattle.vt_upper_overlay.specs.UpperValue.{real_at}
use Rattle.vt_upper.proofs.KeptReady.{object_there, unnamed_copy}
use Rattle.vt_upper.proofs.keeping.kept_object.Goals as goal

pub unreachable-requires : goal.unreachable-requires
unreachable-requires c =
    true≢false (sym c.requires.lent
    ∙ ap (λ o. is_some (lent c.args.trees.now c.args.overlay.now (option_map seen_of o)))
    (sym c.real.ensures.value ∙ c.in_default.is))

pub returns-then-real-eq0 : goal.returns-then-real-eq0
returns-then-real-eq0 c =
    let zero : c.in-Some.real.layer ≡ 0 = search rules in
    record {
      real = c.in-Some.real;
      is = sym c.real.ensures.value ∙ c.in-Some.is;
      above = zero;
      same = refl;
    }

pub plan_unnamed-requires : goal.plan_unnamed-requires
plan_unnamed-requires c =
    object_there c.args.trees.now c.args.overlay.now c.args.object c.in-Some.real
    (sym c.real.ensures.value ∙ c.in-Some.is) c.requires.lent

pub returns : goal.returns
returns c =
    let real = c.in-Some.real in
    let is : real_at c.args.overlay.now c.args.object ≡ Some real = sym c.real.ensures.value ∙ c.in-Some.is in
    let no : nat_eq real.layer 0 ≡ false = search rules in
    unnamed_copy c.args.trees.now c.args.overlay.now c.args.object real is
    (object_there c.args.trees.now c.args.overlay.now c.args.object real is c.requires.lent) no c.upper.result
    c.upper.ensures c.args.with_bytes c.in_ok-copy.copy c.in_ok-copy.ensures.node c.in_ok-copy.ensures.born
    c.in_ok-copy.ensures.upper
