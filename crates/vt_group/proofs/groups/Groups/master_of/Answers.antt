use Rattle.std.proofs.Common.{ap, sym, ◌∙◌, option_map}
use Rattle.vt_group.specs.Grouping.{master_in}
use Rattle.vt_location.specs.Numbers.{counted, group_number}
use Rattle.vt_group.proofs.CountLemmas.{lookup-numbered}
use Rattle.vt_group.proofs.groups.Groups.master_of.Goals as goal

pub returns : goal.returns
returns c = ap (option_map group_number) c.get.ensures
    ∙ sym (lookup-numbered group_number c.args.group.count c.self.inside.above.entries)
    ∙ ap (λ groups. master_in groups (counted c.args.group.count)) c.self.view_is
