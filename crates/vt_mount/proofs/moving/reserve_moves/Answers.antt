use Rattle.std.proofs.Common.{ap, subst, sym, take, ◌++◌, ◌∙◌, take_all}
use Rattle.vt_spec.proofs.Common.{take_more}
use Rattle.vt_mount.specs.Reserved.{Reserves, moved_places}
use Rattle.vt_mount.proofs.ReservedLemmas.{moved_places-last}
use Rattle.vt_mount.proofs.MoveLemmas.{indexed-same}
use Rattle.vt_mount.proofs.moving.reserve_moves.Goals as goal

pub returns-in_err-reserve-clause-same : goal.returns-in_err-reserve-clause-same
returns-in_err-reserve-clause-same c kept indexed =
    indexed-same kept c.loop-point.indexes c.reserve.new.self c.in_err-reserve.ensures.namespace
    c.in_err-reserve.ensures.parent c.in_err-reserve.ensures.place
    (c.loop-point.invariant.0 kept indexed)

pub loop-point-preserved : goal.loop-point-preserved
loop-point-preserved c = (
  λ kept indexed. indexed-same kept c.loop-point.indexes c.reserve.new.self c.reserve.ensures.namespace
      c.reserve.ensures.parent c.reserve.ensures.place (c.loop-point.invariant.0 kept indexed),
  λ namespaces places has.
      let points = c.args.points.now in
      let so_far = take c.loop-point.point-index points in
      subst (λ first. Reserves c.reserve.new.self namespaces (first ++ places))
      (sym (ap moved_places (take_more points c.loop-point.point-index _ c.loop-point-test.true)
      ∙ moved_places-last so_far _)) (c.in_ok-reserve.ensures.ok namespaces (moved_places so_far ++ places)
      (c.loop-point.invariant.1 namespaces places has)),
)

pub returns-clause-ok : goal.returns-clause-ok
returns-clause-ok c namespaces places has =
    subst (λ points. Reserves c.loop-point.indexes namespaces (moved_places points ++ places))
    (take_all c.loop-point.point-index c.args.points.now c.loop-point-test.false)
    (c.loop-point.invariant.1 namespaces places has)
