use Rattle.std.proofs.Common.{ap, arith, cond, ◌-◌, ◌<◌, ◌^◌, ◌∙◌}
use Rattle.vt_spec.proofs.Common.{All-tail}
use Rattle.vt_overlay.specs.declared.merge.layers.LayerRef.{LayerRef}
use Rattle.vt_store.specs.LayerTests.{same_filesystem, same_inode, stands_at, stands_in}
use Rattle.vt_store.proofs.LayersTallied.{counted_less}
use Rattle.vt_store.proofs.layer_counts.LayerCounts.take_one.Goals as goal

pub returns : goal.returns
returns c = λ left is. record {
  filesystems = λ q. c.take.ensures q
      ∙ ap (λ n. cond (same_filesystem q c.args.layer.directory.filesystem) (n - 1) n) (is.filesystems q)
      ∙ counted_less (stands_in q.count) c.args.layer left;
  directories = λ q.
      c.take-2.ensures q ∙ ap (λ n. cond (same_inode q c.args.layer.directory) (n - 1) n) (is.directories q)
      ∙ counted_less (stands_at q) c.args.layer left;
  small = All-tail (λ (layer : LayerRef). layer.directory.slot < 2 ^ 64) c.args.layer left is.small;
  total = omega (arith, is.total, c.saturating_sub-self.ensures);
}
