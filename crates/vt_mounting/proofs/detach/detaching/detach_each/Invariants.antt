use Rattle.std.proofs.Common.{map, drop}
use Rattle.vt_mounting.proofs.Common.{counted}
use Rattle.vt_mounting.specs.Detach.Detached.{LeaveInTurn}
use Rattle.vt_mounting.specs.Detach.Stored.{CountNoUses, OverlaysLeft, kept}
use Rattle.vt_mounting.specs.Detach.Uses.{Kept}
use Rattle.vt_mounting.proofs.detach.detaching.detach_each.Given as goal

-- what follows in turn from here on follows from the first one on; overlays are left that were there, and count no uses
abbrev pub invariant-loop-id : goal.invariant-loop-id
invariant-loop-id l = ((last : Kept) → LeaveInTurn (map (λ id. counted id.count) (drop l.id-index l.ids))
    (kept l.mounts l.store) last
    → LeaveInTurn (map (λ id. counted id.count) l.ids) (kept l.initial.mounts l.initial.store) last)
    × OverlaysLeft l.initial.store.overlays l.store.overlays × CountNoUses l.store
