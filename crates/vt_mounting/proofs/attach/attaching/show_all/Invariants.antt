use Rattle.std.proofs.Common.{◌≡◌, take}
use Rattle.vt_spec.proofs.Common.{folded}
use Rattle.vt_mounting.proofs.Common.{shown}
use Rattle.vt_mounting.specs.Detach.Stored.{CountNoUses}
use Rattle.vt_mounting.specs.Detach.Uses.{shown_by}
use Rattle.vt_mounting.proofs.attach.attaching.show_all.Given as goal

-- those before it are in use, and overlays are as they were
abbrev pub invariant-loop-mount : goal.invariant-loop-mount
invariant-loop-mount l = record {
  uses : shown l.store.plain ≡ folded shown_by (shown l.fn.store.plain) (take l.mount-index l.new);
  overlays : l.store.overlays ≡ l.fn.store.overlays;
  still : CountNoUses l.store;
}
