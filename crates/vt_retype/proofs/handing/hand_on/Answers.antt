use Rattle.std.proofs.Common.{ap, map, option_map, subst, sym, ◌∙◌}
use Rattle.vt_location.specs.Numbers.{counted, group_number}
use Rattle.vt_retype.specs.Leaving.{OnlyTypesChange, after_end_of}
use Rattle.vt_retype.proofs.TypesHanded.{all_left, none_left, only_types-handed}
use Rattle.vt_retype.proofs.handing.hand_on.Goals as goal

pub returns-in_default-clause-slaves : goal.returns-in_default-clause-slaves
returns-in_default-clause-slaves c sources = none_left c.args.groups.now (counted c.args.id.count) c.args.mounts.now
    (sym c.ends_with.ensures ∙ ap (option_map group_number) c.in_default.is)

pub returns-clause-slaves : goal.returns-clause-slaves
returns-clause-slaves c sources =
    let numbers = map (λ id. counted id.count) c.relatives.result in
    let lost = counted c.in-Some.lost.count in
    c.hand_to_all.ensures ∙ ap (λ heir. map (after_end_of numbers lost heir) c.args.mounts.now) c.master_of.ensures
    ∙ all_left c.args.groups.now (counted c.args.id.count) c.args.mounts.now lost numbers
    (sym c.ends_with.ensures ∙ ap (option_map group_number) c.in-Some.is) c.relatives.ensures sources

pub returns-clause-types : goal.returns-clause-types
returns-clause-types c = subst (OnlyTypesChange c.args.mounts.now) (sym c.hand_to_all.ensures)
    (only_types-handed (map (λ id. counted id.count) c.relatives.result) (counted c.in-Some.lost.count)
    (option_map group_number c.master_of.result) c.args.mounts.now)
