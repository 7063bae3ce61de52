use Rattle.std.proofs.Common.{◌≡◌, map, find, nat_eq, option_map, take, filter_map}
use Rattle.vt_mounting.proofs.Common.{attached_in, counted, mount_of, mounts_in}
use Rattle.vt_mounting.specs.Attach.Copying.{copied_by}
use Rattle.vt_mounting.proofs.attach.copying.copies.Given as goal

abbrev pub invariant-loop-id : goal.invariant-loop-id
invariant-loop-id l = map mount_of l.copies.items
    ≡ filter_map (λ id. option_map (copied_by l.next (attached_in (counted l.fn.namespace.count) l.mounts))
    (find (λ mount. nat_eq (counted id.count) mount.number) (mounts_in l.mounts))) (take l.id-index l.originals)
