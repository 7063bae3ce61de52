use Rattle.std.proofs.Common.{◌-◌, ◌≡◌}
use Rattle.vt_ns.proofs.Common.{HasRoom, kept}
use Rattle.vt_mounting.specs.Detach.Stored.{CountNoUses}
use Rattle.vt_ns.specs.Pivoting.{with_uses}
use Rattle.vt_ns.proofs.pivoting.hold_each.Given as goal

-- some are counted, and there is room for the others
abbrev pub invariant-loop : goal.invariant-loop
invariant-loop l = record {
  held : kept l.mounts l.store ≡ with_uses l.counter l.at (kept l.fn.mounts l.fn.store);
  overlays : l.store.overlays ≡ l.fn.store.overlays;
  still : CountNoUses l.store;
  room : HasRoom (l.uses - l.counter) l.at l.mounts l.store.plain;
}
