use Rattle.std.proofs.Common.{ap, ◌∙◌}
use Rattle.vt_births.specs.Kept.{is_kept}
use Rattle.vt_births.proofs.KeptObjects.{objects_found}
use Rattle.std.specs.Map.{keys_of}
use Rattle.vt_births.proofs.upper_nodes.UpperNodes.keep_object_in.Goals as goal

pub returns : goal.returns
returns c = c.has.ensures.kept ∙ ap (is_kept c.args.self.now.kept) c.node_above-node.ensures.node
    ∙ objects_found c.args.self.now.births c.args.overlay c.args.slot c.node_above-node.ensures.one_to_one
    (keys_of c.args.self.now.kept.by_node) c.requires
