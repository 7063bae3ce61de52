use Rattle.std.proofs.Common.{◌≡◌, ◌++◌, drop, flat_map, map, ℕ}
use Rattle.vt_spec.specs.Machine.Mounts as meant
use Rattle.vt_location.specs.MountValue.{mount_of}
use Rattle.vt_propagate.specs.Copying.{as_kept, copied, parts_seen, tree_seen}
use Rattle.vt_propagate.proofs.numbering.Copying.all_copies.Given as goal

abbrev pub invariant-loop-part : goal.invariant-loop-part
invariant-loop-part l = map mount_of l.copies.items
    ++ flat_map (λ (part : meant.Mount ℕ). map (copied (as_kept l.mounts l.groups) l.self part) (tree_seen l.self))
    (map mount_of (drop l.part-index l.part-items))
    ≡ flat_map (λ (part : meant.Mount ℕ). map (copied (as_kept l.mounts l.groups) l.self part) (tree_seen l.self))
    (parts_seen l.self)
