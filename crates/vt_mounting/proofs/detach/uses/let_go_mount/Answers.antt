use Rattle.std.proofs.Common.{ap, cond, is_some, refl, ◌∙◌, sym}
use Rattle.vt_mounting.proofs.Common.{counted, mount_of, without}
use Rattle.vt_mounting.specs.Detach.Stored.{kept}
use Rattle.vt_mounting.specs.Detach.Uses.{Kept}
use Rattle.vt_mounting.proofs.detach.OverlaysListed.{left_itself}
use Rattle.vt_mounting.proofs.detach.Shown.{let_go_kept, let_go_unused}
use Rattle.vt_mounting.proofs.detach.uses.let_go_mount.Goals as goal

pub returns-in_default-clause-left : goal.returns-in_default-clause-left
returns-in_default-clause-left c =
    let mounts = c.args.mounts.now in
    let number = counted c.args.id.count in
    ap (λ left. kept left c.args.store.now) (c.remove_unused.ensures.rest
    ∙ ap (λ gone. cond (is_some gone) (without number mounts) mounts) c.in_default.is)
    ∙ let_go_kept number (kept mounts c.args.store.now)
    (sym c.remove_unused.ensures.unused ∙ ap is_some c.in_default.is)

pub returns-clause-left : goal.returns-clause-left
returns-clause-left c =
    let mounts = c.args.mounts.now in
    let number = counted c.args.id.count in
    let k = kept mounts c.args.store.now in
    (λ i. record {
      mounts = (c.remove_unused.ensures.rest
          ∙ ap (λ gone. cond (is_some gone) (without number mounts) mounts) c.in-Some.is) i;
      filesystems = ap (λ (left : Kept). left.filesystems) c.leave_root.ensures.left i;
      overlays = ap (λ (left : Kept). left.overlays) c.leave_root.ensures.left i;
    }) ∙ sym (let_go_unused number k (mount_of c.in-Some.mount) c.in-Some.ensures.value
    (sym c.remove_unused.ensures.unused ∙ ap is_some c.in-Some.is))

pub returns-in_default-clause-overlays : goal.returns-in_default-clause-overlays
returns-in_default-clause-overlays c = left_itself c.args.store.now.overlays c.args.store.now.overlays refl

pub returns-clause-overlays : goal.returns-clause-overlays
returns-clause-overlays c = c.leave_root.ensures.overlays
