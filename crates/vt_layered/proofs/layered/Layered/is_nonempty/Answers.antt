use Rattle.std.proofs.Common.{ap, not, ℕ, ◌∙◌}
use Rattle.vt_spec.proofs.Common.{FileTree, entries_in, is_empty_list}
use Rattle.vt_location.specs.Locations.{number_of}
use Rattle.vt_layered.proofs.Parts.{lower_files, lower_stands, upper_files, upper_stands}
use Rattle.vt_layered.proofs.layered.Layered.is_nonempty.Goals as goal

pub is_nonempty-requires-clause-layers : goal.is_nonempty-requires-clause-layers
is_nonempty-requires-clause-layers c = (lower_stands c.args.self.now c.self.inside.kind c.self.view_is
    c.in-Lower.overlay c.in-Lower.is c.args.trees.now c.requires.standing).layers

pub is_nonempty-requires-in-Upper-clause-standing : goal.is_nonempty-requires-in-Upper-clause-standing
is_nonempty-requires-in-Upper-clause-standing c = upper_stands c.args.self.now c.self.inside.kind c.self.view_is
    c.in-Upper.overlay c.in-Upper.is c.args.trees.now c.requires.standing

pub returns-in-Lower : goal.returns-in-Lower
returns-in-Lower c = c.is_nonempty.ensures ∙ ap (λ (files : FileTree ℕ). not (is_empty_list (entries_in
    (files.tree.node (number_of c.args.node))))) (lower_files c.args.self.now c.self.inside.kind c.self.view_is
    c.in-Lower.overlay c.in-Lower.is c.args.trees.now)

pub returns-in-Upper : goal.returns-in-Upper
returns-in-Upper c = c.is_nonempty-in-Upper.ensures ∙ ap (λ (files : FileTree ℕ). not (is_empty_list (entries_in
    (files.tree.node (number_of c.args.node))))) (upper_files c.args.self.now c.self.inside.kind c.self.view_is
    c.in-Upper.overlay c.in-Upper.is c.args.trees.now)
