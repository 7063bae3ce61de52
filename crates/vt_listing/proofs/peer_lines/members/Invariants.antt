use Rattle.std.proofs.Common.{◌≡◌, map, take, filter_map}
use Rattle.vt_location.specs.declared.numbers.GroupId.{GroupId}
use Rattle.vt_location.specs.Numbers.{counted}
use Rattle.vt_group.specs.Sets.{same_group}
use Rattle.vt_listing.specs.GroupsListed.{member_place, placed_seen, under}
use Rattle.vt_request.specs.Answers.{mount_place_of}
use Rattle.vt_listing.proofs.peer_lines.members.Given as goal

abbrev pub invariant-loop-one : goal.invariant-loop-one
invariant-loop-one l = (group : GroupId) → map mount_place_of (under same_group group l.places)
    ≡ filter_map (λ one. member_place (counted group.count) (placed_seen one)) (take l.one-index l.placed)
