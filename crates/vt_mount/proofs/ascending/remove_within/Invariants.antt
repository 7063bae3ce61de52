use Rattle.std.proofs.Common.{length, true, ◌≡◌, ◌≤◌}
use Rattle.vt_deque.specs.SliceDeque.{items, room}
use Rattle.vt_mount.specs.Rising.{rises}
use Rattle.vt_mount.proofs.RisingLemmas.{others_by, parted}
use Rattle.vt_mount.proofs.ascending.remove_within.Given as goal

-- the others are those that there were, and the mount is at the place if it is there at all
abbrev pub invariant-loop-element : goal.invariant-loop-element
invariant-loop-element g l = record {
  others : others_by g.T.PartialEq.eq l.element (items l.list)
      ≡ others_by g.T.PartialEq.eq l.element (items l.initial.list);
  rising : rises g.T.Ordered.before (items l.list) ≡ true;
  parted : parted g.met.T.Ordered.order l.element l.place (items l.list) ≡ true;
  room : room l.initial.list ≤ room l.list;
}

abbrev pub decreases-loop-element : goal.decreases-loop-element
decreases-loop-element g l = length (items l.list)
