use Rattle.std.proofs.Common.{Bool, ap, sym, ◌&&◌, ◌∙◌}
use Rattle.vt_spec.proofs.Common.{list_all}
use Rattle.vt_sealing.specs.Seen.{filesystems_in_use}
use Rattle.vt_sealing.proofs.Looked.{secured}
use Rattle.vt_sealing.proofs.Shown.{sealed_alike}
use Rattle.vt_sealing.proofs.sealing.Sealing.is_sealed.Goals as goal

pub returns-then-are_mounts_apart : goal.returns-then-are_mounts_apart
returns-then-are_mounts_apart c = λ world shows.
    let used = list_all (secured c.args.self.now)
    (filesystems_in_use c.args.self.now) in
    c.has_no_open_filesystem.ensures
    ∙ ap (λ b. b && used) (sym c.if-are_mounts_apart.true ∙ c.are_mounts_apart.ensures)
    ∙ sealed_alike world c.args.self.now shows c.requires

pub returns-else-are_mounts_apart : goal.returns-else-are_mounts_apart
returns-else-are_mounts_apart c = λ world shows.
    let used = list_all (secured c.args.self.now)
    (filesystems_in_use c.args.self.now) in
    c.if-are_mounts_apart.false
    ∙ ap (λ b. b && used) (sym c.if-are_mounts_apart.false ∙ c.are_mounts_apart.ensures)
    ∙ sealed_alike world c.args.self.now shows c.requires
