use Rattle.std.proofs.Common.{ap, nat_eq, sym, ◌∙◌}
use Rattle.vt_spec.proofs.Common.{filesystems_changed}
use Rattle.vt_location.specs.Locations.{location_of}
use Rattle.vt_permits.specs.GrantValue.{descriptor_permit}
use Rattle.vt_world.specs.WorldValue.{world_of}
use Rattle.vt_changes.proofs.Changing.{none_copied}
use Rattle.vt_changes.proofs.changed.opened_by.Goals as goal

pub returns-in-Open : goal.returns-in-Open
returns-in-Open c =
    let world = world_of c.args.world.now in
    sym (ap (λ grant. filesystems_changed nat_eq world (descriptor_permit grant)) c.in-Open.is
    ∙ none_copied world c.requires.overlays.read_only (location_of c.in-Open.file) _)
