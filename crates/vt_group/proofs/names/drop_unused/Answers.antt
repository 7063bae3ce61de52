use Rattle.std.proofs.Common.{ap, arith, length, length-drop, ◌∙◌}
use Rattle.vt_spec.proofs.Common.{list_any}
use Rattle.vt_location.specs.Numbers.{same_id}
use Rattle.vt_group.specs.Sets.{has, same_group}
use Rattle.vt_group.proofs.names.drop_unused.Goals as goal
use Rattle.vt_group.proofs.names.drop_unused.Goals.{then-first_is_unused, else-first_is_unused}

pub loop-preserved : goal.loop-preserved
loop-preserved c = elim c.if-first_is_unused.branch [
  | then-first_is_unused w ↦ record {
    mounts = λ mount any.
        ap (list_any (λ name. has same_id name mount c.args.mounts.now)) (w.list-is ∙ w.pop_front.ensures.rest)
        ∙ c.first_is_unused.ensures.mounts w.if-first_is_unused.true mount (c.loop.invariant.mounts mount any);
    lowers = λ lower any.
        ap (list_any (λ name. has same_group name lower c.args.lowers.now)) (w.list-is ∙ w.pop_front.ensures.rest)
        ∙ c.first_is_unused.ensures.lowers w.if-first_is_unused.true lower (c.loop.invariant.lowers lower any);
    fewer = omega (
      arith,
      ap length w.list-is,
      ap length w.pop_front.ensures.rest,
      length-drop 1 c.loop.list,
      c.loop.invariant.fewer,
    );
  }
  | else-first_is_unused w ↦ record {
    mounts = λ mount any. ap (list_any (λ name. has same_id name mount c.args.mounts.now)) w.list-is
        ∙ w.turn.ensures.kept (λ name. has same_id name mount c.args.mounts.now)
        (c.loop.invariant.mounts mount any);
    lowers = λ lower any. ap (list_any (λ name. has same_group name lower c.args.lowers.now)) w.list-is
        ∙ w.turn.ensures.kept (λ name. has same_group name lower c.args.lowers.now)
        (c.loop.invariant.lowers lower any);
    fewer = omega (arith, ap length w.list-is, w.turn.ensures.fewer, c.loop.invariant.fewer);
  }
]
