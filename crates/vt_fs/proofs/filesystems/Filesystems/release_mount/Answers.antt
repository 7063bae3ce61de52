use Rattle.std.proofs.Common.{◌-◌, ap, refl, sym, ◌∙◌}
use Rattle.vt_spec.proofs.Common.{option_copied_mut}
use Rattle.vt_fs.specs.FilesystemsValue.{held}
use Rattle.vt_fs.proofs.Entries.{writes, writes_none}
use Rattle.vt_fs.proofs.filesystems.Filesystems.release_mount.Goals.{in-Some, in_default}
use Rattle.vt_fs.proofs.filesystems.Filesystems.release_mount.Goals as goal

pub returns : goal.returns
returns c = elim c.match-get_mut.branch [
  | in-Some w ↦ ap (λ inside. held inside.by_number.entries) w.self-inside-is
      ∙ writes c.args.filesystem.count (λ one. record one { mounts = one.mounts - 1 }) _ c.self.inside.by_number _
      c.args.self.now w.in-Some.found.now _ c.self.view_is
      (sym c.get_mut.ensures.value ∙ ap option_copied_mut w.in-Some.is)
      (λ i. record { tree = w.in-Some.found.now.tree; mounts = w.saturating_sub-found.ensures i })
      (λ k one. refl) (c.get_mut.follows.holds _)
  | in_default w ↦
      ap (λ inside. held inside.by_number.entries) w.self-inside-is
      ∙ writes_none c.args.filesystem.count _ c.self.inside.by_number.entries _ c.args.self.now c.self.view_is
      (sym c.get_mut.ensures.value ∙ ap option_copied_mut w.in_default.is)
      (ap (λ map. map.entries) c.get_mut.follows.holds-at-none)
]
