use Rattle.vt_group.proofs.Answering.{shown-type}
use Rattle.vt_group.proofs.groups.Groups.propagation_of.Goals as goal

pub returns : goal.returns
returns c = shown-type c.args.mount.count c.self.inside.mounts.kinds.entries _ c.args.self.now c.self.view_is c.get.result
    c.get.ensures
