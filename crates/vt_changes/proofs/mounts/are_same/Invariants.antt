use Rattle.std.proofs.Common.{◌≡◌, drop, filter_map, map}
use Rattle.vt_world.specs.WorldValue.{world_of}
use Rattle.vt_changes.specs.SeenMounts.{same_all, seen_of}
use Rattle.vt_changes.proofs.Seeing.{pick}
use Rattle.vt_changes.proofs.mounts.are_same.Given as goal

-- what is left is the same just if all is
abbrev pub invariant-loop-id : goal.invariant-loop-id
invariant-loop-id l = same_all (map seen_of l.was) (filter_map (pick (world_of l.world)) (drop l.id-index l.ids))
    ≡ same_all (map seen_of l.before) (filter_map (pick (world_of l.world)) l.ids)
