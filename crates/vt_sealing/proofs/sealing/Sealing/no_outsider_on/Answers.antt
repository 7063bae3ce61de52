use Rattle.std.proofs.Common.{Bool, ap, nat_eq, not, sym, ◌&&◌, ◌∙◌, ℕ}
use Rattle.vt_spec.proofs.Common.{Task, list_any}
use Rattle.vt_spec.specs.Machine.Sealed.{is_member_task}
use Rattle.vt_spec.specs.Machine.World.{locations_of, mount_at}
use Rattle.vt_location.specs.Numbers.{counted}
use Rattle.vt_sealing.specs.Seen.{world_seen}
use Rattle.vt_sealing.proofs.Looked.{none_on}
use Rattle.vt_sealing.proofs.sealing.Sealing.no_outsider_on.Goals as goal

pub returns-then-not-is_shown_elsewhere : goal.returns-then-not-is_shown_elsewhere
returns-then-not-is_shown_elsewhere c =
    let world = world_seen c.args.self.now in
    let others = list_any (λ (task : Task ℕ). not (is_member_task c.args.self.now.names.now task)
    && list_any (λ location. nat_eq (counted c.args.filesystem.count) (mount_at nat_eq world location).filesystem)
    (locations_of task)) world.tasks in
    ap not c.has_outsider.ensures
    ∙ ap (λ b. not b && not others) (sym c.if-not-is_shown_elsewhere.true ∙ c.is_shown_elsewhere.ensures)
    ∙ sym (none_on c.args.self.now (counted c.args.filesystem.count))

pub returns-else-not-is_shown_elsewhere : goal.returns-else-not-is_shown_elsewhere
returns-else-not-is_shown_elsewhere c =
    let world = world_seen c.args.self.now in
    let others = list_any (λ (task : Task ℕ). not (is_member_task c.args.self.now.names.now task)
    && list_any (λ location. nat_eq (counted c.args.filesystem.count) (mount_at nat_eq world location).filesystem)
    (locations_of task)) world.tasks in
    ap not c.if-not-is_shown_elsewhere.false
    ∙ ap (λ b. not b && not others) (sym c.if-not-is_shown_elsewhere.false ∙ c.is_shown_elsewhere.ensures)
    ∙ sym (none_on c.args.self.now (counted c.args.filesystem.count))
