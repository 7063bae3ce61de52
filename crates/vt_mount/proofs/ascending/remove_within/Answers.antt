use Rattle.std.proofs.Common.{ap, arith, false, get_or, refl, rules, subst, sym, true, ◌∙◌, ◌≡◌, ◌<◌, length}
use Rattle.std.proofs.lemmas.List.Sorted.{IsPartitionPoint-from_clause}
use Rattle.vt_deque.specs.SliceDeque.{items}
use Rattle.vt_mount.specs.Rising.{rises}
use Rattle.vt_mount.proofs.RisingLemmas.{is_parted_below, others_by, others-parted, others-remove, parted, parted-remove, parted_at, rises-remove}
use Rattle.vt_mount.proofs.ascending.remove_within.Goals as goal

pub loop-element-init : goal.loop-element-init
loop-element-init g c =
    let list = items c.args.list.now in
    let one = c.args.element in
    let slice = c.as_slice.result.now in
    let found = c.partition_point-place.ensures in
    let point = IsPartitionPoint-from_clause (λ other. g.T.Ordered.before other one) slice _
    found.partitioned (is_parted_below g.met.T.Ordered.order one _ list c.as_slice.ensures c.requires) (λ a r f called. search rules) in
    record {
      others = refl;
      rising = c.requires;
      parted = parted_at g.met.T.Ordered.order one _ list c.as_slice.ensures _ point;
      room = omega arith;
    }

pub loop-element-preserved : goal.loop-element-preserved
loop-element-preserved g c =
    let one = c.args.element in
    let place = c.partition_point-place.result in
    let list = items c.loop-element.list in
    let kept = c.loop-element.invariant in
    let is = c.as_slice-in-loop-element.ensures in
    let within = subst (λ list. place < length list) is (c.is_at.ensures.within c.loop-element-test.true) in
    let is_it : (d : g.row.T.Denot) → g.T.PartialEq.eq (get_or list place d) one ≡ true = λ d.
    subst (λ list. g.T.PartialEq.eq (get_or list place d) one ≡ true) is
    (sym (c.is_at.ensures.found d (c.is_at.ensures.within c.loop-element-test.true)) ∙ c.loop-element-test.true) in
    let room = c.remove.ensures.room in
    record {
      others = ap (others_by g.T.PartialEq.eq one) c.remove.ensures.items
          ∙ others-remove g.met.T.Ordered.order one list place within is_it ∙ kept.others;
      rising = subst (λ list. rises g.T.Ordered.before list ≡ true) (sym c.remove.ensures.items)
          (rises-remove g.met.T.Ordered.order list place kept.rising);
      parted = subst (λ list. parted g.met.T.Ordered.order one place list ≡ true) (sym c.remove.ensures.items)
          (parted-remove g.met.T.Ordered.order one list place kept.parted);
      room = omega (arith, kept.room, room);
    }

pub returns-clause-items : goal.returns-clause-items
returns-clause-items g c =
    let one = c.args.element in
    let place = c.partition_point-place.result in
    let list = items c.loop-element.list in
    let kept = c.loop-element.invariant in
    let is = c.as_slice-in-loop-element.ensures in
    let apart : (d : g.row.T.Denot) → place < length list → g.T.PartialEq.eq (get_or list place d) one ≡ false = λ d within.
    subst (λ list. place < length list → g.T.PartialEq.eq (get_or list place d) one ≡ false) is
    (λ within. sym (c.is_at.ensures.found d within) ∙ c.loop-element-test.false) within in
    sym (others-parted g.met.T.Ordered.order one list place kept.rising kept.parted apart) ∙ kept.others
