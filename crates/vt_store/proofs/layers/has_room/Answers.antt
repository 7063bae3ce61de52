use Rattle.vt_spec.proofs.Common.{common_steps}
use Rattle.std.proofs.Common.{ap, arith, ◌∙◌, le-leb, leb-true}
use Rattle.vt_location.specs.declared.locations.NodeRef.{NodeRef}
use Rattle.vt_store.proofs.LayersCounted.{IsAt, layer_used, mounts_are_shown}
use Rattle.vt_store.proofs.layers.has_room.Goals as goal

pub returns-then-uses-more : goal.returns-then-uses-more
returns-then-uses-more c =
    let is : IsAt c.args.layer c.node_ref.result = record {
      filesystem = ap (λ (node : NodeRef). node.filesystem) c.node_ref.ensures.value;
      number = c.node_ref.ensures.number;
    } in
    let uses = c.uses.ensures ∙ layer_used c.args.layer c.node_ref.result is c.args.plain.now in
    let mounts = c.mounts.ensures ∙ mounts_are_shown c.args.layer.directory.filesystem.count c.args.plain.now in (
      λ e. record {
        uses = omega (arith, uses, c.if-uses-more.true, c.ranges.more.fits);
        mounts = (let less = leb-true _ _ e in omega (arith, mounts, less, c.ranges.more.fits));
      },
      λ room. (let most = room.mounts in le-leb _ _ (omega (arith, mounts, most))),
    )

pub returns-else-uses-more : goal.returns-else-uses-more
returns-else-uses-more c = grind (arith, common_steps, layer_used, leb-true)
