use Rattle.std.proofs.Common.{◌≡◌, find, map, nat_eq, option_map, take, ℕ, filter_map}
use Rattle.vt_spec.proofs.Common.{World, mount_line}
use Rattle.vt_location.specs.Numbers.{counted}
use Rattle.vt_mount.specs.MountsValue.{mounts_in}
use Rattle.vt_request.specs.Answers.{mount_line_of}
use Rattle.vt_mount.specs.Attached.{attached_in}
use Rattle.vt_listing.specs.Shown.{IsShown}
use Rattle.vt_listing.proofs.table.MountTable.mount_lines.Given as goal

abbrev pub invariant-loop-id : goal.invariant-loop-id
invariant-loop-id l = (world : World ℕ) → IsShown world l.self → map mount_line_of l.lines.items
    ≡ filter_map (λ id. option_map
    (mount_line nat_eq world (attached_in (counted l.fn.namespace.count) l.self.mounts.now))
    (find (λ mount. nat_eq (counted id.count) mount.number) (mounts_in l.self.mounts.now))) (take l.id-index l.listed)
