use Rattle.std.proofs.Common.{Ok, ap, rules, ◌∙◌}
use Rattle.vt_spec.proofs.Common.{answers_always}
use Rattle.vt_mounting.proofs.Common.{counted}
use Rattle.vt_mount.proofs.AttachedLemmas.{found_place}
use Rattle.vt_group.proofs.Peers.{cmp_same}
use Rattle.vt_mounting.proofs.attach.CopyLemmas.{numbered_so}
use Rattle.vt_mounting.proofs.attach.copying.copy_number.Goals as goal

pub returns-then-is_at : goal.returns-then-is_at
returns-then-is_at c =
    let same = c.is_at.ensures.same c.if-is_at.true in
    let place = found_place c.args.originals.now c.requires.order c.args.id.count c.args.id (Ok c.args.likely)
    (c.is_at.ensures.inside c.if-is_at.true) (λ d. cmp_same _ _ (same d)) in
    λ all are. ap (λ id. counted id.count) c.new.ensures
    ∙ numbered_so c.args.next c.args.id c.args.originals.now place all are

pub returns : goal.returns
returns c =
    let facts = c.binary_search_by_key.ensures in
    let by_key = facts.position (λ id. id.count) (answers_always _ _ _ (λ f a r g called. search rules)) in
    let place = c.unwrap_or-place.ensures
    ∙ found_place c.args.originals.now c.requires.order c.args.id.count c.args.id c.binary_search_by_key.result facts.bound by_key in
    λ all are. ap (λ id. counted id.count) c.new-2.ensures
    ∙ numbered_so c.args.next c.args.id c.args.originals.now place all are
