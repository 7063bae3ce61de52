use Rattle.std.proofs.Common.{All, arith, subst, ◌∙◌, take_all}
use Rattle.std.proofs.lemmas.List.Elements.{All-more}
use Rattle.vt_group.specs.Additions.{FitsType}
use Rattle.vt_group.proofs.additions.reserve_types.Goals as goal

pub loop-pair-preserved : goal.loop-pair-preserved
loop-pair-preserved c = (
  c.reserve_type.ensures.entries ∙ c.loop-pair.invariant.0,
  All-more (FitsType c.reserve_type.new.types) c.args.mounts.now c.loop-pair.pair-index _ c.loop-pair-test.true
      (λ k d inside sourced. c.reserve_type.ensures.kept _ _ (c.loop-pair.invariant.1 k d inside sourced))
      c.in_ok-reserve_type.ensures.room,
)

pub returns-clause-room : goal.returns-clause-room
returns-clause-room c = subst (All (FitsType c.loop-pair.types))
    (take_all c.loop-pair.pair-index c.args.mounts.now (omega (arith, c.loop-pair-test.false))) c.loop-pair.invariant.1
