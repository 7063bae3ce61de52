use Rattle.std.proofs.Common.{None, Some, ap, option_map, sym, ◌∙◌}
use Rattle.vt_location.specs.Locations.{location_of}
use Rattle.vt_location.specs.MountValue.{mount_of}
use Rattle.vt_location.specs.Numbers.{mount_number}
use Rattle.vt_mount.specs.MountsValue.{mounts_in}
use Rattle.vt_steps.proofs.MountsFound.{root_again}
use Rattle.vt_steps.proofs.over.root_over.Goals as goal

pub returns-in_err-mount : goal.returns-in_err-mount
returns-in_err-mount c = ap (option_map location_of) c.from_residual-in_err-mount.ensures
    ∙ root_again (mounts_in c.args.mounts.now) c.child_at.ensures.order _ (mount_number c.in_ok-child.child)
    (ap (option_map mount_number) (sym c.in_ok-child.was) ∙ c.child_at.ensures.child) None
    (ap (option_map mount_of) (sym c.in_err-mount.was) ∙ c.get.ensures)

pub returns : goal.returns
returns c = ap Some c.root_location.ensures
    ∙ root_again (mounts_in c.args.mounts.now) c.child_at.ensures.order _ (mount_number c.in_ok-child.child)
    (ap (option_map mount_number) (sym c.in_ok-child.was) ∙ c.child_at.ensures.child)
    (Some (mount_of c.in_ok-mount.mount)) (ap (option_map mount_of) (sym c.in_ok-mount.was) ∙ c.get.ensures)
