use Rattle.std.proofs.Common.{drop, ◌≡◌}
use Rattle.vt_spec.proofs.Common.{holds_of, list_all}
use Rattle.vt_location.specs.MountValue.{mount_of}
use Rattle.vt_mount.specs.MountsValue.{mounts_in}
use Rattle.vt_propagate.specs.Through.{rests_on_root}
use Rattle.vt_propagate.proofs.Found.{counts, numbered}
use Rattle.vt_propagate.proofs.through.is_free_then.Given as goal

-- all rest on the root where those that follow do
abbrev pub invariant-loop-child : goal.invariant-loop-child
invariant-loop-child l =
    list_all (λ n. holds_of (rests_on_root (mounts_in l.mounts) (counts l.gone.ids.now) (mount_of l.mount))
    (numbered (mounts_in l.mounts) n)) (counts (drop l.child-index l.child-items))
    ≡ list_all (λ n. holds_of (rests_on_root (mounts_in l.mounts) (counts l.gone.ids.now) (mount_of l.mount))
    (numbered (mounts_in l.mounts) n)) (counts l.child-items)
