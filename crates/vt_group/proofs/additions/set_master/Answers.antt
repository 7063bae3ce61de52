use Rattle.std.proofs.Common.{ap, map, option_map, sym, ◌∙◌}
use Rattle.vt_location.specs.Numbers.{group_number}
use Rattle.vt_group.specs.Steps.{numbered_master}
use Rattle.vt_group.specs.Together.{with_entry_of}
use Rattle.vt_group.proofs.CountLemmas.{inserted-numbered, removed-numbered}
use Rattle.vt_group.proofs.additions.set_master.Goals as goal

pub returns-in-Some-clause-entries : goal.returns-in-Some-clause-entries
returns-in-Some-clause-entries c = ap (map numbered_master) c.set.ensures.entries
    ∙ inserted-numbered group_number c.args.new.group.count c.in-Some.master c.args.above.now.entries
    ∙ ap (λ master. with_entry_of (group_number c.args.new.group) (option_map group_number master)
    (map numbered_master c.args.above.now.entries)) (sym c.in-Some.is)

pub returns-in-None-clause-entries : goal.returns-in-None-clause-entries
returns-in-None-clause-entries c = ap (map numbered_master) c.clear.ensures.entries
    ∙ removed-numbered group_number c.args.new.group.count c.args.above.now.entries
    ∙ ap (λ master. with_entry_of (group_number c.args.new.group) (option_map group_number master)
    (map numbered_master c.args.above.now.entries)) (sym c.in-None.is)
