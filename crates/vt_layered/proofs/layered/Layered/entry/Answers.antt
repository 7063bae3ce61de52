use Rattle.std.proofs.Common.{ap, ℕ, ◌∙◌}
use Rattle.vt_spec.proofs.Common.{FileTree, entries_in, entry_named}
use Rattle.vt_location.specs.Locations.{number_of}
use Rattle.vt_layered.proofs.Parts.{lent_so, lower_files, lower_lent, lower_shown, lower_stands, upper_files, upper_lent, upper_stands, upper_there}
use Rattle.vt_layered.proofs.layered.Layered.entry.Goals as goal

pub entry-requires-clause-layers : goal.entry-requires-clause-layers
entry-requires-clause-layers c = (lower_stands c.args.self.now c.self.inside.kind c.self.view_is c.in-Lower.overlay
    c.in-Lower.is c.args.trees.now c.requires.standing).layers

pub entry-requires-in-Upper-clause-standing : goal.entry-requires-in-Upper-clause-standing
entry-requires-in-Upper-clause-standing c = upper_stands c.args.self.now c.self.inside.kind c.self.view_is
    c.in-Upper.overlay c.in-Upper.is c.args.trees.now c.requires.standing

pub entry-requires-clause-shown : goal.entry-requires-clause-shown
entry-requires-clause-shown c = lower_shown c.args.self.now c.self.inside.kind c.self.view_is c.in-Lower.overlay
    c.in-Lower.is c.args.trees.now (number_of c.args.node) c.requires.there

pub entry-requires-in-Upper-clause-there : goal.entry-requires-in-Upper-clause-there
entry-requires-in-Upper-clause-there c = upper_there c.args.self.now c.self.inside.kind c.self.view_is
    c.in-Upper.overlay c.in-Upper.is c.args.trees.now (number_of c.args.node) c.requires.there

pub returns-in-Lower-clause-node : goal.returns-in-Lower-clause-node
returns-in-Lower-clause-node c = c.entry.ensures.node
    ∙ ap (λ (files : FileTree ℕ). entry_named c.args.name.now (entries_in (files.tree.node (number_of
    c.args.node)))) (lower_files c.args.self.now c.self.inside.kind c.self.view_is c.in-Lower.overlay c.in-Lower.is
    c.args.trees.now)

pub returns-in-Lower-clause-object : goal.returns-in-Lower-clause-object
returns-in-Lower-clause-object c = lent_so c.entry.result c.entry.ensures.object (lower_lent c.args.self.now
    c.self.inside.kind c.self.view_is c.in-Lower.overlay c.in-Lower.is c.args.trees.now)

pub returns-in-Upper-clause-node : goal.returns-in-Upper-clause-node
returns-in-Upper-clause-node c = c.entry-in-Upper.ensures.node
    ∙ ap (λ (files : FileTree ℕ). entry_named c.args.name.now (entries_in (files.tree.node (number_of
    c.args.node)))) (upper_files c.args.self.now c.self.inside.kind c.self.view_is c.in-Upper.overlay c.in-Upper.is
    c.args.trees.now)

pub returns-in-Upper-clause-object : goal.returns-in-Upper-clause-object
returns-in-Upper-clause-object c = lent_so c.entry-in-Upper.result c.entry-in-Upper.ensures.lent (upper_lent
    c.args.self.now c.self.inside.kind c.self.view_is c.in-Upper.overlay c.in-Upper.is c.args.trees.now)
