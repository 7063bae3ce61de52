use Rattle.std.proofs.Common.{◌≡◌, take}
use Rattle.vt_spec.proofs.Common.{folded}
use Rattle.vt_mounting.proofs.Common.{shown}
use Rattle.vt_mounting.specs.Attach.Planned.{pinned_by, taken_of}
use Rattle.vt_mounting.specs.Detach.Stored.{CountNoUses}
use Rattle.vt_mounting.proofs.attach.planned.pin_all.Given as goal

-- those before it are pinned, and overlays are as they were
abbrev pub invariant-loop-one : goal.invariant-loop-one
invariant-loop-one l = record {
  uses : shown l.store.plain ≡ folded pinned_by (shown l.fn.store.plain) (taken_of (take l.one-index l.moved));
  overlays : l.store.overlays ≡ l.fn.store.overlays;
  still : CountNoUses l.store;
}
