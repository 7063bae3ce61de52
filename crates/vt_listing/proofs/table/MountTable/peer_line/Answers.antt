use Rattle.std.proofs.Common.{map}
use Rattle.vt_request.specs.Answers.{mount_place_of}
use Rattle.vt_listing.proofs.table.MountTable.peer_line.Goals as goal

pub returns : goal.returns
returns c = λ i. record {
  group = c.group_place.ensures i;
  master = c.master_place.ensures i;
  peers = map mount_place_of (c.in_ok-of.ensures i);
  slaves = map mount_place_of (c.in_ok-of-2.ensures i);
}
