use Rattle.std.proofs.Common.{None, Some, ap, option_map, sym, ◌∙◌, option_copied}
use Rattle.vt_location.specs.MountValue.{mount_of}
use Rattle.vt_mount.proofs.EntryLemmas.{mount-found}
use Rattle.vt_mount.proofs.mounts.Mounts.get.Goals as goal

pub returns-in_err-kept : goal.returns-in_err-kept
returns-in_err-kept c = ap (option_map mount_of) c.from_residual.ensures
    ∙ mount-found c.args.id c.self.inside.by_number.entries _ None c.self.view_is
    (sym c.kept_under.ensures ∙ ap option_copied c.in_err-kept.was)

pub returns : goal.returns
returns c = ap (λ mount. Some (mount_of mount)) c.mount.ensures
    ∙ mount-found c.args.id c.self.inside.by_number.entries _ (Some _) c.self.view_is
    (sym c.kept_under.ensures ∙ ap option_copied c.in_ok-kept.was)
