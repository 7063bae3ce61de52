use Rattle.std.proofs.Common.{ap, nat_eq, option_map, sym, ◌∙◌}
use Rattle.vt_spec.proofs.Common.{changed_at, filesystems_changed}
use Rattle.vt_location.specs.Locations.{location_of}
use Rattle.vt_permits.specs.GrantValue.{remove_permit}
use Rattle.vt_world.specs.WorldValue.{world_of}
use Rattle.vt_changes.proofs.Changing.{changed_beside, changed_replacing}
use Rattle.vt_changes.proofs.changed.removed_by.Goals as goal

pub returns-in-Directory : goal.returns-in-Directory
returns-in-Directory c =
    let world = world_of c.args.world.now in
    let removed = c.in-Directory.removed in
    c.changed_at-in-Directory.ensures
    ∙ sym (changed_beside c.args.world.now c.requires (location_of removed.directory) (location_of removed.parent))
    ∙ ap (λ grant. filesystems_changed nat_eq world (remove_permit grant)) (sym c.in-Directory.is)

pub returns-in-Rename : goal.returns-in-Rename
returns-in-Rename c =
    let world = world_of c.args.world.now in
    let renamed = c.in-Rename.renamed.value in
    c.changed_at-in-Rename.ensures ∙ ap (λ r. changed_at nat_eq world (location_of r.from)) c.deref.ensures
    ∙ sym (changed_replacing c.args.world.now c.requires (option_map location_of renamed.replaced) (location_of renamed.from))
    ∙ ap (λ grant. filesystems_changed nat_eq world (remove_permit grant)) (sym c.in-Rename.is)
