use Rattle.std.proofs.Common.{ap, option_map, sym, ◌∙◌, if◌then◌else◌}
use Rattle.vt_spec.proofs.Common.{Unbindable, is_unbindable}
use Rattle.vt_group.specs.Grouping.{propagation_in}
use Rattle.vt_location.specs.MountValue.{mount_of, propagation_of}
use Rattle.vt_location.specs.Numbers.{counted}
use Rattle.vt_retype.specs.Retyping.{typed_entry}
use Rattle.vt_retype.proofs.TypesHanded.{absent_unchanged, set_so}
use Rattle.vt_retype.proofs.retyping.follow.Goals as goal

pub returns-in_default : goal.returns-in_default
returns-in_default c = absent_unchanged (counted c.args.id.count) (typed_entry c.args.groups.now) c.args.mounts.now
    (sym c.get.ensures ∙ ap (option_map mount_of) c.in_default.is)

pub returns : goal.returns
returns c = c.set_propagation.ensures.mounts ∙ set_so (counted c.args.id.count)
    (λ number kind. if is_unbindable kind then Unbindable else propagation_in c.args.groups.now number)
    (propagation_of c.follows.result) c.args.mounts.now c.set_propagation.ensures.order (mount_of c.in-Some.mount)
    (sym c.get.ensures ∙ ap (option_map mount_of) c.in-Some.is) c.follows.ensures
