use Rattle.std.proofs.Common.{ap, ◌∙◌}
use Rattle.vt_location.specs.Numbers.{group_number}
use Rattle.vt_group.specs.Steps.{has_peers}
use Rattle.vt_group.proofs.groups.Members.{any_numbered}
use Rattle.vt_group.proofs.groups.Groups.has_members.Goals as goal

pub returns : goal.returns
returns c = c.has_members.ensures ∙ any_numbered c.args.group c.self.inside.mounts.kinds.entries
    ∙ ap (has_peers (group_number c.args.group)) c.self.view_is
