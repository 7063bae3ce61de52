use Rattle.std.proofs.Common.{Some, ◌≡◌, map, take, filter_map}
use Rattle.vt_listing.specs.Shown.{world_shown}
use Rattle.vt_listing.specs.GroupsListed.{group_numbers, line_by}
use Rattle.vt_request.specs.Answers.{peer_line_of}
use Rattle.vt_listing.proofs.table.MountTable.lines_of.Given as goal

abbrev pub invariant-loop-group : goal.invariant-loop-group
invariant-loop-group l = map peer_line_of l.lines.items
    ≡ filter_map (λ group. Some (line_by (world_shown l.self) (group_numbers l.groups.keys) l.members l.slaves group))
    (take l.group-index l.group-items)
