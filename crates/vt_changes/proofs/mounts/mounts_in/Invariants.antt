use Rattle.std.proofs.Common.{◌≡◌, ◌++◌, drop, filter_map, map}
use Rattle.vt_world.specs.WorldValue.{world_of}
use Rattle.vt_changes.specs.SeenMounts.{seen_of}
use Rattle.vt_changes.proofs.Seeing.{pick}
use Rattle.vt_changes.proofs.mounts.mounts_in.Given as goal

abbrev pub invariant-loop-id : goal.invariant-loop-id
invariant-loop-id l = map seen_of l.mounts.items ++ filter_map (pick (world_of l.world)) (drop l.id-index l.ids)
    ≡ filter_map (pick (world_of l.world)) l.ids
