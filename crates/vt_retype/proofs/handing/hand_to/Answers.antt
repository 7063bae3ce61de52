use Rattle.std.proofs.Common.{ap, option_map, sym, ◌∙◌}
use Rattle.vt_group.specs.Leaving.{type_after_end}
use Rattle.vt_location.specs.MountValue.{mount_of, propagation_of}
use Rattle.vt_location.specs.Numbers.{counted, group_number}
use Rattle.vt_retype.specs.Leaving.{after_end}
use Rattle.vt_retype.proofs.TypesHanded.{absent_unchanged, set_so}
use Rattle.vt_retype.proofs.handing.hand_to.Goals as goal

pub returns-in_default : goal.returns-in_default
returns-in_default c = absent_unchanged (counted c.args.id.count)
    (after_end (counted c.args.lost.count) (option_map group_number c.args.heir)) c.args.mounts.now
    (sym c.get.ensures ∙ ap (option_map mount_of) c.in_default.is)

pub returns : goal.returns
returns c = c.set_propagation.ensures.mounts ∙ set_so (counted c.args.id.count)
    (λ number kind. type_after_end (counted c.args.lost.count) (option_map group_number c.args.heir) kind)
    (propagation_of c.type_after_end.result) c.args.mounts.now c.set_propagation.ensures.order (mount_of c.in-Some.mount)
    (sym c.get.ensures ∙ ap (option_map mount_of) c.in-Some.is) c.type_after_end.ensures
