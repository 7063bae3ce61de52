use Rattle.std.proofs.Common.{ap, is_some, rules, ◌≡◌, ◌∙◌}
use Rattle.vt_location.specs.Locations.{number_of}
use Rattle.vt_births.specs.Births.{node_above}
use Rattle.vt_upper_overlay.specs.MergedAbove.{directory_path}
use Rattle.vt_upper.proofs.last_name.shows_directory.Goals as goal

pub returns : goal.returns
returns c =
    let some : c.is_some.result ≡ is_some c.way.result = search rules in
    some ∙ ap is_some c.way.ensures.value
    ∙ ap (λ n. is_some (directory_path c.args.trees.now c.args.overlay.now (number_of n))) (c.node_above-node.ensures.node
    ∙ ap (λ id. node_above c.args.overlay.now.nodes.births id c.args.slot) c.requires.own)
