-- Which directories lie under which, as a store keeps them.
use Rattle.std.proofs.Common.{◌≡◌, nat_eq, false, true, arith}
use Rattle.vt_spec.proofs.Common.{common_steps}
use Rattle.vt_location.specs.declared.locations.NodeRef.{NodeRef}
use Rattle.vt_ns.proofs.Common.{IsHeld, WorldValue, counted, counted_test, is_small_node, number_of}
use Rattle.vt_location.proofs.NodeLemmas.{nodes_test}
use Rattle.vt_mounting.proofs.detach.LookLemmas.{nat_eq_turned}
use Rattle.vt_mounting.proofs.detach.NodesFound.{in_no_other}
use Rattle.vt_fs.proofs.TreesLookedAt.{nowhere_under}
use Rattle.vt_ns.specs.LyingUnder.{lies_under}

-- what is in another filesystem does not
pub lies_apart : (value : WorldValue) (top directory : NodeRef) → IsHeld value → is_small_node top ≡ true
    → is_small_node directory ≡ true → nat_eq directory.filesystem.count top.filesystem.count ≡ false
    → lies_under value (counted top.filesystem.count) (number_of top) (number_of directory) ≡ false
lies_apart value top directory held small directory_small other =
    grind (arith, common_steps, nowhere_under, counted, in_no_other, counted_test, nat_eq_turned, nodes_test)
