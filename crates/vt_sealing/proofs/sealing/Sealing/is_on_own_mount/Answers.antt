use Rattle.std.proofs.Common.{ap, nat_eq, sym, ◌∙◌}
use Rattle.vt_spec.specs.Machine.Sealed.{is_own_mount}
use Rattle.vt_sealing.specs.Seen.{world_seen}
use Rattle.vt_sealing.proofs.Looked.{mount_missing, mount_there}
use Rattle.vt_sealing.proofs.sealing.Sealing.is_on_own_mount.Goals as goal

pub returns-in-Some : goal.returns-in-Some
returns-in-Some c = c.is_own_mount.ensures
    ∙ ap (is_own_mount nat_eq (world_seen c.args.self.now) c.args.self.now.names.now)
    (sym (mount_there c.args.self.now c.args.at c.get.result c.get.ensures c.in-Some.mount c.in-Some.is))

pub returns-in-None : goal.returns-in-None
returns-in-None c = ap (is_own_mount nat_eq (world_seen c.args.self.now) c.args.self.now.names.now)
    (sym (mount_missing c.args.self.now c.args.at c.get.result c.get.ensures c.in-None.is))
