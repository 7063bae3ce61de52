use Rattle.std.proofs.Common.{◌∙◌, ◌++◌, ◌∷◌, [], arith, refl, take}
use Rattle.vt_spec.proofs.Common.{All-nil}
use Rattle.vt_overlay.specs.Merge.EntryValue.{IsMergedAt}
use Rattle.vt_overlay.proofs.merge.Narrowed.{last_kept, led_kept, next_kept}
use Rattle.vt_overlay.proofs.merge.UnderNames.{all_merged}
use Rattle.vt_overlay.proofs.merge.merging.narrow_in_front.Goals as goal

pub loop-index-init : goal.loop-index-init
loop-index-init c = record {
  value = refl;
  left = λ place past. refl;
  room = omega arith;
  led = λ layers path all. All-nil (IsMergedAt c.args.trees.now layers (path ++ c.args.name.now ∷ []));
}

pub put-kept-requires : goal.put-kept-requires
put-kept-requires c = let room = c.loop-index.invariant.room in omega (arith, room)

pub returns-then-found-clause-value : goal.returns-then-found-clause-value
returns-then-found-clause-value c =
    let at = c.loop-index in
    last_kept c.args.trees.now c.args.name.now c.args.merged.now at.merged c.put-kept.new.merged at.index at.kept
    c.put-kept.result _ c.look_under-found.result.directory c.look_under-found.result.hides (omega arith)
    at.invariant.value at.invariant.left c.put-kept.ensures.kept c.look_under-found.ensures.value c.if-found.true

pub returns-then-found-clause-led : goal.returns-then-found-clause-led
returns-then-found-clause-led c = λ layers path all.
    let at = c.loop-index in
    led_kept c.args.trees.now c.args.name.now c.args.merged.now at.merged c.put-kept.new.merged at.index at.kept
    c.put-kept.result _ c.look_under-found.result.directory c.look_under-found.result.hides (omega arith)
    at.invariant.value at.invariant.left c.put-kept.ensures.kept layers path
    (c.look_under-found.ensures.led layers path) all (at.invariant.led layers path all)

pub loop-index-preserved : goal.loop-index-preserved
loop-index-preserved c =
    let at = c.loop-index in
    let room = at.invariant.room in
    let count = c.put-kept.ensures.count in
    record {
      value = next_kept c.args.trees.now c.args.name.now c.args.merged.now at.merged c.put-kept.new.merged at.index
          at.kept c.put-kept.result _ c.look_under-found.result.directory c.look_under-found.result.hides
          (omega arith) at.invariant.value at.invariant.left c.put-kept.ensures.kept c.look_under-found.ensures.value
          c.if-found.false;
      left = λ place past.
          c.put-kept.ensures.others place (omega (arith, past, room)) ∙ at.invariant.left place (omega (arith, past));
      room = omega (arith, room, count);
      led = λ layers path all.
          led_kept c.args.trees.now c.args.name.now c.args.merged.now at.merged c.put-kept.new.merged at.index at.kept
          c.put-kept.result _ c.look_under-found.result.directory c.look_under-found.result.hides (omega arith)
          at.invariant.value at.invariant.left c.put-kept.ensures.kept layers path
          (c.look_under-found.ensures.led layers path) all (at.invariant.led layers path all);
    }

pub returns-clause-value : goal.returns-clause-value
returns-clause-value c =
    let at = c.loop-index in
    all_merged c.args.trees.now c.args.name.now c.args.merged.now (take at.kept at.merged) at.index (omega arith)
    at.invariant.value
