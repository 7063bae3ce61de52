use Rattle.std.proofs.Common.{◌∙◌}
use Rattle.vt_location.specs.Locations.{number_of}
use Rattle.vt_layered.proofs.Parts.{lower_lent, lower_stands, upper_lent, upper_stands}
use Rattle.vt_layered.proofs.layered.Layered.object.Goals as goal

pub inode-requires-clause-layers : goal.inode-requires-clause-layers
inode-requires-clause-layers c = (lower_stands c.args.self.now c.self.inside.kind c.self.view_is c.in-Lower.overlay
    c.in-Lower.is c.args.trees.now c.requires.standing).layers

pub object-requires-clause-standing : goal.object-requires-clause-standing
object-requires-clause-standing c = upper_stands c.args.self.now c.self.inside.kind c.self.view_is
    c.in-Upper.overlay c.in-Upper.is c.args.trees.now c.requires.standing

pub returns-in-Lower : goal.returns-in-Lower
returns-in-Lower c = c.inode.ensures.lent ∙ lower_lent c.args.self.now c.self.inside.kind c.self.view_is
    c.in-Lower.overlay c.in-Lower.is c.args.trees.now (number_of c.args.node)

pub returns-in-Upper : goal.returns-in-Upper
returns-in-Upper c = c.object.ensures ∙ upper_lent c.args.self.now c.self.inside.kind c.self.view_is
    c.in-Upper.overlay c.in-Upper.is c.args.trees.now (number_of c.args.node)
