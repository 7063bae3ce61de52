use Rattle.std.proofs.Common.{ap, nat_eq, ℕ, ◌∙◌}
use Rattle.vt_spec.proofs.Common.{FileTree, is_removed}
use Rattle.vt_location.specs.Locations.{number_of}
use Rattle.vt_layered.proofs.Parts.{lower_files, lower_stands, upper_files, upper_stands}
use Rattle.vt_layered.proofs.layered.Layered.is_removed.Goals as goal

pub is_removed-requires-clause-layers : goal.is_removed-requires-clause-layers
is_removed-requires-clause-layers c = (lower_stands c.args.self.now c.self.inside.kind c.self.view_is
    c.in-Lower.overlay c.in-Lower.is c.args.trees.now c.requires.standing).layers

pub is_removed-requires-in-Upper-clause-standing : goal.is_removed-requires-in-Upper-clause-standing
is_removed-requires-in-Upper-clause-standing c = upper_stands c.args.self.now c.self.inside.kind c.self.view_is
    c.in-Upper.overlay c.in-Upper.is c.args.trees.now c.requires.standing

pub returns-in-Lower : goal.returns-in-Lower
returns-in-Lower c = c.is_removed.ensures ∙ ap (λ (files : FileTree ℕ). is_removed nat_eq files.tree (number_of
    c.args.directory)) (lower_files c.args.self.now c.self.inside.kind c.self.view_is c.in-Lower.overlay
    c.in-Lower.is c.args.trees.now)

pub returns-in-Upper : goal.returns-in-Upper
returns-in-Upper c = c.is_removed-in-Upper.ensures ∙ ap (λ (files : FileTree ℕ). is_removed nat_eq files.tree
    (number_of c.args.directory)) (upper_files c.args.self.now c.self.inside.kind c.self.view_is c.in-Upper.overlay
    c.in-Upper.is c.args.trees.now)
