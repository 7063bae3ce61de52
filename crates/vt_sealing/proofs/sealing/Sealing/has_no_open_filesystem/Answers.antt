use Rattle.std.proofs.Common.{Bool, ap, nat_eq, not, sym, ◌&&◌, ◌∙◌, ℕ}
use Rattle.vt_spec.proofs.Common.{Task, list_any}
use Rattle.vt_spec.specs.Machine.Sealed.{is_member_task}
use Rattle.vt_spec.specs.Machine.World.{locations_of, mount_at}
use Rattle.vt_sealing.specs.Seen.{is_open_through, world_seen}
use Rattle.vt_sealing.proofs.Looked.{used_looked}
use Rattle.vt_sealing.proofs.sealing.Sealing.has_no_open_filesystem.Goals as goal

pub returns-then-not-have_open_mount : goal.returns-then-not-have_open_mount
returns-then-not-have_open_mount c =
    let world = world_seen c.args.self.now in
    let names = c.args.self.now.names.now in
    let members = list_any (λ (task : Task ℕ). is_member_task names task
    && list_any (λ location. is_open_through c.args.self.now (mount_at nat_eq world location).filesystem) (locations_of task))
    world.tasks in
    ap not c.have_member_in_open.ensures
    ∙ ap (λ b. not b && not members) (sym c.if-not-have_open_mount.true ∙ c.have_open_mount.ensures)
    ∙ sym (used_looked c.args.self.now)

pub returns-else-not-have_open_mount : goal.returns-else-not-have_open_mount
returns-else-not-have_open_mount c =
    let world = world_seen c.args.self.now in
    let names = c.args.self.now.names.now in
    let members = list_any (λ (task : Task ℕ). is_member_task names task
    && list_any (λ location. is_open_through c.args.self.now (mount_at nat_eq world location).filesystem) (locations_of task))
    world.tasks in
    ap not c.if-not-have_open_mount.false
    ∙ ap (λ b. not b && not members) (sym c.if-not-have_open_mount.false ∙ c.have_open_mount.ensures)
    ∙ sym (used_looked c.args.self.now)
