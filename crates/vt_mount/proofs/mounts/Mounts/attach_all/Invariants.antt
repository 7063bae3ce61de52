use Rattle.std.proofs.Common.{map, take, ◌++◌, ◌≡◌}
use Rattle.vt_mount.specs.MountsValue.{unused_entry}
use Rattle.vt_mount.proofs.mounts.Mounts.attach_all.Given as goal

-- those before have come
abbrev pub invariant-loop-index : goal.invariant-loop-index
invariant-loop-index l = l.self ≡ l.fn.self ++ map unused_entry (take l.index l.new)
