use Rattle.std.proofs.Common.{◌≡◌}
use Rattle.vt_ns.proofs.Common.{kept}
use Rattle.vt_mounting.specs.Detach.Stored.{CountNoUses}
use Rattle.vt_ns.specs.Pivoting.{without_uses}
use Rattle.vt_ns.proofs.pivoting.release_each.Given as goal

-- some are gone, and no overlay
abbrev pub invariant-loop : goal.invariant-loop
invariant-loop l = record {
  left : kept l.mounts l.store ≡ without_uses l.counter l.at (kept l.fn.mounts l.fn.store);
  overlays : l.store.overlays ≡ l.fn.store.overlays;
  still : CountNoUses l.store;
}
