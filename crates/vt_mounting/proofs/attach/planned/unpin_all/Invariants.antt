use Rattle.std.proofs.Common.{◌≡◌, take}
use Rattle.vt_spec.proofs.Common.{folded}
use Rattle.vt_mounting.proofs.Common.{shown}
use Rattle.vt_mounting.specs.Attach.Planned.{left_of, unpinned_by}
use Rattle.vt_mounting.specs.Detach.Stored.{CountNoUses}
use Rattle.vt_mounting.proofs.attach.planned.unpin_all.Given as goal

-- those before it are unpinned, and overlays are as they were
abbrev pub invariant-loop-one : goal.invariant-loop-one
invariant-loop-one l = record {
  uses : shown l.store.plain ≡ folded unpinned_by (shown l.fn.store.plain) (left_of (take l.one-index l.moved));
  overlays : l.store.overlays ≡ l.fn.store.overlays;
  still : CountNoUses l.store;
}
