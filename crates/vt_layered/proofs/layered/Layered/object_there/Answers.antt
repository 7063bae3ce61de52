use Rattle.std.proofs.Common.{◌∙◌}
use Rattle.vt_location.specs.Locations.{number_of}
use Rattle.vt_layered.proofs.Parts.{lower_lent, lower_shown, lower_stands, upper_lent, upper_stands, upper_there}
use Rattle.vt_layered.proofs.layered.Layered.object_there.Goals as goal

pub inode_shown-requires-clause-layers : goal.inode_shown-requires-clause-layers
inode_shown-requires-clause-layers c = (lower_stands c.args.self.now c.self.inside.kind c.self.view_is
    c.in-Lower.overlay c.in-Lower.is c.args.trees.now c.requires.standing).layers

pub inode_shown-requires-clause-shown : goal.inode_shown-requires-clause-shown
inode_shown-requires-clause-shown c = lower_shown c.args.self.now c.self.inside.kind c.self.view_is
    c.in-Lower.overlay c.in-Lower.is c.args.trees.now (number_of c.args.node) c.requires.there

pub object_there-requires-clause-standing : goal.object_there-requires-clause-standing
object_there-requires-clause-standing c = upper_stands c.args.self.now c.self.inside.kind c.self.view_is
    c.in-Upper.overlay c.in-Upper.is c.args.trees.now c.requires.standing

pub object_there-requires-clause-there : goal.object_there-requires-clause-there
object_there-requires-clause-there c = upper_there c.args.self.now c.self.inside.kind c.self.view_is
    c.in-Upper.overlay c.in-Upper.is c.args.trees.now (number_of c.args.node) c.requires.there

pub returns-in-Lower : goal.returns-in-Lower
returns-in-Lower c = c.inode_shown.ensures ∙ lower_lent c.args.self.now c.self.inside.kind c.self.view_is
    c.in-Lower.overlay c.in-Lower.is c.args.trees.now (number_of c.args.node)

pub returns-in-Upper : goal.returns-in-Upper
returns-in-Upper c = c.object_there.ensures ∙ upper_lent c.args.self.now c.self.inside.kind c.self.view_is
    c.in-Upper.overlay c.in-Upper.is c.args.trees.now (number_of c.args.node)
