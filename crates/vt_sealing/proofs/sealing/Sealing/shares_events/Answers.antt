use Rattle.std.proofs.Common.{nat_eq, sym, ◌∙◌}
use Rattle.vt_spec.specs.Machine.Sealed.{other_mounts}
use Rattle.vt_location.specs.MountValue.{mount_of}
use Rattle.vt_sealing.specs.Seen.{world_seen}
use Rattle.vt_sealing.proofs.Sources.{no_source}
use Rattle.vt_sealing.proofs.sealing.Sealing.shares_events.Goals as goal

pub returns-else-has_source : goal.returns-else-has_source
returns-else-has_source c =
    let world = world_seen c.args.self.now in
    c.if-has_source.false ∙ sym (no_source world (mount_of c.args.own.now) (sym c.has_source.ensures
    ∙ c.if-has_source.false) (other_mounts nat_eq world c.args.self.now.names.now))
