use Rattle.std.proofs.Common.{◌≡◌, map, take}
use Rattle.vt_spec.proofs.Common.{folded}
use Rattle.vt_mounting.specs.Detach.Stored.{OverlaysStay, merged_of}
use Rattle.vt_mounting.specs.Detach.Uses.{merged_by}
use Rattle.vt_mounting.proofs.attach.attaching.hold_overlays.Given as goal

abbrev pub invariant-loop-mount : goal.invariant-loop-mount
invariant-loop-mount l = (l.store.plain ≡ l.fn.store.plain) × (map merged_of l.store.overlays
    ≡ folded merged_by (map merged_of l.fn.store.overlays) (take l.mount-index l.new))
    × OverlaysStay l.fn.store.overlays l.store.overlays
