use Rattle.std.proofs.Common.{ap, map, ℕ, ◌≡◌, ◌∙◌}
use Rattle.vt_spec.proofs.Common.{FileTree, entries_in, names_in}
use Rattle.vt_location.specs.Locations.{number_of}
use Rattle.vt_layered.proofs.Parts.{lower_files, lower_stands, ok_so, upper_files, upper_stands}
use Rattle.vt_layered.proofs.layered.Layered.names.Goals as goal

pub names-requires-clause-layers : goal.names-requires-clause-layers
names-requires-clause-layers c = (lower_stands c.args.self.now c.self.inside.kind c.self.view_is c.in-Lower.overlay
    c.in-Lower.is c.args.trees.now c.requires.standing).layers

pub names-requires-in-Upper-clause-standing : goal.names-requires-in-Upper-clause-standing
names-requires-in-Upper-clause-standing c = upper_stands c.args.self.now c.self.inside.kind c.self.view_is
    c.in-Upper.overlay c.in-Upper.is c.args.trees.now c.requires.standing

pub returns-in-Lower-clause-ok : goal.returns-in-Lower-clause-ok
returns-in-Lower-clause-ok c = ok_so c.names.result (λ (files : FileTree ℕ) names. map (λ name. name.items)
    names.items
    ≡ names_in (files.tree.node (number_of c.args.node))) _ _ (lower_files c.args.self.now c.self.inside.kind
    c.self.view_is c.in-Lower.overlay c.in-Lower.is c.args.trees.now) c.names.ensures.ok

pub returns-in-Lower-clause-empty : goal.returns-in-Lower-clause-empty
returns-in-Lower-clause-empty c = λ none. c.names.ensures.empty
    (ap (λ (files : FileTree ℕ). entries_in (files.tree.node (number_of c.args.node))) (lower_files c.args.self.now
    c.self.inside.kind c.self.view_is c.in-Lower.overlay c.in-Lower.is c.args.trees.now) ∙ none)

pub returns-in-Upper-clause-ok : goal.returns-in-Upper-clause-ok
returns-in-Upper-clause-ok c = ok_so c.names-in-Upper.result (λ (files : FileTree ℕ) names. map (λ name.
    name.items) names.items
    ≡ names_in (files.tree.node (number_of c.args.node))) _ _ (upper_files c.args.self.now c.self.inside.kind
    c.self.view_is c.in-Upper.overlay c.in-Upper.is c.args.trees.now) c.names-in-Upper.ensures.ok

pub returns-in-Upper-clause-empty : goal.returns-in-Upper-clause-empty
returns-in-Upper-clause-empty c = λ none. c.names-in-Upper.ensures.empty
    (ap (λ (files : FileTree ℕ). entries_in (files.tree.node (number_of c.args.node))) (upper_files c.args.self.now
    c.self.inside.kind c.self.view_is c.in-Upper.overlay c.in-Upper.is c.args.trees.now) ∙ none)
