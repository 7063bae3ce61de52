use Rattle.vt_world.specs.WorldValue.{world_of}
use Rattle.vt_changes.proofs.Seeing.{all_kept, put_kept}
use Rattle.std.proofs.Common.{ap, refl, ◌∙◌}
use Rattle.vt_changes.specs.SeenMounts.{mounts_kept}
use Rattle.vt_changes.proofs.mounts.mounts_of.Goals as goal

pub loop-namespace-preserved : goal.loop-namespace-preserved
loop-namespace-preserved c = λ number none.
    ap (λ entries. mounts_kept entries number) c.in_ok-insert.ensures.entries
    ∙ put_kept c.loop-namespace.kept.entries _ c.in_ok-mounts.mounts (world_of c.args.world.now)
    c.namespaces-namespaces.result.now c.loop-namespace.namespace-index _ c.loop-namespace-test.true refl
    c.in_ok-mounts.ensures.ok c.loop-namespace.invariant number none

pub returns : goal.returns
returns c = record {
  ok = all_kept (world_of c.args.world.now) c.requires.in_world.namespaces c.loop-namespace.kept.entries
      c.namespaces-namespaces.result.now c.namespaces-namespaces.ensures c.loop-namespace.namespace-index
      c.loop-namespace-test.false c.loop-namespace.invariant;
}
