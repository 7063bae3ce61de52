use Rattle.std.proofs.Common.{drop, nat_eq, ℕ, ◌≡◌}
use Rattle.vt_spec.proofs.Common.{MountInvariants, World}
use Rattle.vt_propagate.specs.Falling.{IsKnown}
use Rattle.vt_propagate.specs.LazyUnmounts.{lazy_events}
use Rattle.vt_propagate.specs.Seen.{IsSeen}
use Rattle.vt_propagate.proofs.Found.{counts}
use Rattle.vt_propagate.proofs.lazily.LazySteps.{IsTaken}
use Rattle.vt_propagate.proofs.lazily.all_gone.Given as goal
use Rattle.vt_laws_mounts.specs.Mounts.Attaching.{numbers_of}

-- the set is of the list, and the events that are left follow from what is gone
abbrev pub invariant-loop-id : goal.invariant-loop-id
invariant-loop-id l = IsKnown l.set.keys l.ids.items
    × ((world : World ℕ) (number : ℕ) (kept : MountInvariants nat_eq world) → IsSeen world l.mounts l.groups
    → counts l.events ≡ numbers_of (lazy_events world number)
    → IsTaken world kept number (counts l.ids.items) (counts (drop l.id-index l.events)))
