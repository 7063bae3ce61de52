use Rattle.std.proofs.Common.{List, map, true, ◌++◌, ◌≡◌}
use Rattle.vt_location.specs.declared.mounts.Mount.{Mount}
use Rattle.vt_location.specs.MountValue.{mount_of}
use Rattle.vt_mount.specs.MountsValue.{MountEntry, are_ascending, mounts_in, unused_entry}
use Rattle.vt_mount.proofs.mounts.Mounts.withdraw.Given as goal

-- those at the end of the list are gone
abbrev pub invariant-loop-mount : goal.invariant-loop-mount
invariant-loop-mount l = (back : List Mount) × (l.new ≡ l.mount-iterator.iter.rest.now ++ back)
    × ((old : List MountEntry) → are_ascending (mounts_in old ++ map mount_of l.new) ≡ true
    → l.fn.self ≡ old ++ map unused_entry l.new → l.self ≡ old ++ map unused_entry l.mount-iterator.iter.rest.now)
