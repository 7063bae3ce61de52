use Rattle.std.proofs.Common.{ap, sym, ◌∙◌, ℕ}
use Rattle.vt_spec.proofs.Common.{Mount}
use Rattle.vt_location.specs.declared.numbers.FilesystemId.{FilesystemId}
use Rattle.vt_location.specs.Numbers.{counted}
use Rattle.vt_sealing.proofs.Looked.{mount_missing, mount_there}
use Rattle.vt_sealing.proofs.sealing.Sealing.filesystem_at.Goals as goal

pub returns-in-Some : goal.returns-in-Some
returns-in-Some c = ap (λ (mount : Mount ℕ). mount.filesystem)
    (sym (mount_there c.args.self.now c.args.at c.get.result c.get.ensures c.in-Some.mount c.in-Some.is))

pub returns-in-None : goal.returns-in-None
returns-in-None c = ap (λ (id : FilesystemId). counted id.count) c.new.ensures
    ∙ ap (λ (mount : Mount ℕ). mount.filesystem)
    (sym (mount_missing c.args.self.now c.args.at c.get.result c.get.ensures c.in-None.is))
