use Rattle.std.proofs.Common.{ap, nat_eq, sym, ◌∙◌}
use Rattle.vt_spec.proofs.Common.{filesystems_changed}
use Rattle.vt_permits.specs.GrantValue.{write_permit}
use Rattle.vt_world.specs.WorldValue.{world_of}
use Rattle.vt_changes.proofs.changed.written_by.Goals as goal

pub returns-in-Content : goal.returns-in-Content
returns-in-Content c = c.changed_at.ensures
    ∙ ap (λ grant. filesystems_changed nat_eq (world_of c.args.world.now) (write_permit grant)) (sym c.in-Content.is)

pub returns-in-Attr : goal.returns-in-Attr
returns-in-Attr c = c.changed_at-in-Attr.ensures
    ∙ ap (λ grant. filesystems_changed nat_eq (world_of c.args.world.now) (write_permit grant)) (sym c.in-Attr.is)

pub returns-in-Mark : goal.returns-in-Mark
returns-in-Mark c = c.changed_at-in-Mark.ensures
    ∙ ap (λ grant. filesystems_changed nat_eq (world_of c.args.world.now) (write_permit grant)) (sym c.in-Mark.is)
