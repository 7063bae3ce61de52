use Rattle.std.proofs.Common.{map, nat_eq, option_map, ℕ, ◌≡◌}
use Rattle.vt_spec.proofs.Common.{FileTree, path_down}
use Rattle.vt_location.specs.Locations.{number_of}
use Rattle.vt_layered.proofs.Parts.{lower_files, lower_stands, ok_so, upper_files, upper_stands}
use Rattle.vt_layered.proofs.layered.Layered.path_down.Goals as goal

pub path_down-requires-clause-layers : goal.path_down-requires-clause-layers
path_down-requires-clause-layers c = (lower_stands c.args.self.now c.self.inside.kind c.self.view_is
    c.in-Lower.overlay c.in-Lower.is c.args.trees.now c.requires.standing).layers

pub path_down-requires-in-Upper-clause-standing : goal.path_down-requires-in-Upper-clause-standing
path_down-requires-in-Upper-clause-standing c = upper_stands c.args.self.now c.self.inside.kind c.self.view_is
    c.in-Upper.overlay c.in-Upper.is c.args.trees.now c.requires.standing

pub returns-in-Lower : goal.returns-in-Lower
returns-in-Lower c = ok_so c.path_down.result (λ (files : FileTree ℕ) path. option_map (λ names. map (λ name.
    name.items) names.items) path
    ≡ path_down nat_eq files (number_of c.args.top) (number_of c.args.directory)) _ _ (lower_files c.args.self.now
    c.self.inside.kind c.self.view_is c.in-Lower.overlay c.in-Lower.is c.args.trees.now) c.path_down.ensures

pub returns-in-Upper : goal.returns-in-Upper
returns-in-Upper c = ok_so c.path_down-in-Upper.result (λ (files : FileTree ℕ) path. option_map (λ names. map (λ
    name. name.items) names.items) path
    ≡ path_down nat_eq files (number_of c.args.top) (number_of c.args.directory)) _ _ (upper_files c.args.self.now
    c.self.inside.kind c.self.view_is c.in-Upper.overlay c.in-Upper.is c.args.trees.now)
    c.path_down-in-Upper.ensures
