use Rattle.std.proofs.Common.{nat_eq, sym}
use Rattle.vt_location.specs.Numbers.{counted}
use Rattle.vt_mount.proofs.EntryLemmas.{counted_test}
use Rattle.vt_propagate.proofs.Places.{place_noted}
use Rattle.vt_propagate.proofs.indexes.all_places.Goals as goal

pub loop-index-preserved : goal.loop-index-preserved
loop-index-preserved c id =
    place_noted (λ mount. nat_eq (counted id.count) mount.number) c.args.mounts.now c.loop-index.index _
    c.loop-index-test.true
    (c.in_ok-note_mount.ensures id) (sym (counted_test id.count _)) (c.loop-index.invariant id)
