use Rattle.std.proofs.Common.{Some, ap, option_map, ◌∙◌, unwrap_or}
use Rattle.vt_spec.proofs.Common.{Private}
use Rattle.vt_location.specs.MountValue.{propagation_of}
use Rattle.vt_location.specs.Numbers.{counted, group_number}
use Rattle.vt_group.proofs.EndedTypes.{once_ended}
use Rattle.vt_group.proofs.Handed.{kind_seen, shown_or_private}
use Rattle.vt_group.proofs.propagation.type_after_end.Goals as goal

pub returns : goal.returns
returns c = ap propagation_of c.unwrap_or.ensures ∙ shown_or_private c.handed.result
    ∙ ap (λ found. unwrap_or found Private)
    (ap (option_map propagation_of) c.handed.ensures ∙ kind_seen c.args.lost c.args.heir c.args.kind)
    ∙ once_ended (counted c.args.lost.count) (option_map group_number c.args.heir) (Some (propagation_of c.args.kind))
