use Rattle.std.proofs.Common.{◌≡◌, take, true}
use Rattle.vt_location.specs.declared.mounts.Propagation.{Propagation}
use Rattle.vt_location.specs.declared.numbers.GroupId.{GroupId}
use Rattle.vt_location.specs.declared.numbers.MountId.{MountId}
use Rattle.vt_group.specs.Indexed.{is_listed, is_lower}
use Rattle.vt_group.specs.Listing.{EachListed}
use Rattle.vt_group.proofs.index.Index.list_all.Given as goal

abbrev pub invariant-loop-mount : goal.invariant-loop-mount
invariant-loop-mount l = EachListed l.self (take l.mount-index l.mounts)
    × ((mount : MountId) (kind : Propagation) → is_listed l.fn.self mount kind ≡ true
    → is_listed l.self mount kind ≡ true)
    × ((lower upper : GroupId) → is_lower l.fn.self lower upper ≡ true → is_lower l.self lower upper ≡ true)
