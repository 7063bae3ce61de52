use Rattle.std.proofs.Common.{◌∙◌, [], All, arith, subst, sym}
use Rattle.vt_spec.proofs.Common.{All-push}
use Rattle.vt_overlay.specs.Merge.EntryValue.{IsMergedAt}
use Rattle.vt_overlay.proofs.merge.Narrowed.{one_placed, own_merged}
use Rattle.vt_overlay.proofs.merge.merging.push_directories.Goals as goal

pub loop-place-preserved : goal.loop-place-preserved
loop-place-preserved g c =
    let layers = c.args.layers.now in
    let at = c.loop-place in
    let room = at.invariant.room in
    let more = c.push.ensures.len in
    record {
      value = λ trees. one_placed trees layers at.merged.items c.push.new.self.items at.place _ c.loop-place-test.true
          c.push.ensures.items ∙ at.invariant.value trees;
      led = λ trees. subst (All (IsMergedAt trees layers [])) (sym c.push.ensures.items)
          (All-push (IsMergedAt trees layers []) at.merged.items _ (at.invariant.led trees)
          (own_merged trees layers at.place _ c.loop-place-test.true));
      room = omega (arith, room, more);
    }
