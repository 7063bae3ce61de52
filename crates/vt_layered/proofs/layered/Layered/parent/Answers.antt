use Rattle.std.proofs.Common.{ap, ℕ, ◌∙◌}
use Rattle.vt_spec.proofs.Common.{FileTree, is_directory_node, parent_in, when}
use Rattle.vt_location.specs.Locations.{number_of}
use Rattle.vt_layered.proofs.Parts.{lower_files, lower_stands, upper_files, upper_stands}
use Rattle.vt_layered.proofs.layered.Layered.parent.Goals as goal

pub parent-requires-clause-layers : goal.parent-requires-clause-layers
parent-requires-clause-layers c = (lower_stands c.args.self.now c.self.inside.kind c.self.view_is
    c.in-Lower.overlay c.in-Lower.is c.args.trees.now c.requires.standing).layers

pub parent-requires-in-Upper-clause-standing : goal.parent-requires-in-Upper-clause-standing
parent-requires-in-Upper-clause-standing c = upper_stands c.args.self.now c.self.inside.kind c.self.view_is
    c.in-Upper.overlay c.in-Upper.is c.args.trees.now c.requires.standing

pub returns-in-Lower : goal.returns-in-Lower
returns-in-Lower c = c.parent.ensures ∙ ap (λ (files : FileTree ℕ). when (is_directory_node (files.tree.node
    (number_of c.args.node)))
    (parent_in (number_of c.args.node) (files.tree.node (number_of c.args.node)))) (lower_files c.args.self.now
    c.self.inside.kind c.self.view_is c.in-Lower.overlay c.in-Lower.is c.args.trees.now)

pub returns-in-Upper : goal.returns-in-Upper
returns-in-Upper c = c.parent-in-Upper.ensures ∙ ap (λ (files : FileTree ℕ). when (is_directory_node
    (files.tree.node (number_of c.args.node)))
    (parent_in (number_of c.args.node) (files.tree.node (number_of c.args.node)))) (upper_files c.args.self.now
    c.self.inside.kind c.self.view_is c.in-Upper.overlay c.in-Upper.is c.args.trees.now)
