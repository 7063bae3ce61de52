use Rattle.std.proofs.Common.{◌≡◌, take, true}
use Rattle.vt_location.specs.declared.mounts.Propagation.{Propagation}
use Rattle.vt_location.specs.declared.numbers.GroupId.{GroupId}
use Rattle.vt_location.specs.declared.numbers.MountId.{MountId}
use Rattle.vt_group.specs.Indexed.{is_listed, is_lower}
use Rattle.vt_group.specs.Listing.{EachShared}
use Rattle.vt_group.proofs.index.Index.share.Given as goal

abbrev pub invariant-loop-pair : goal.invariant-loop-pair
invariant-loop-pair l = EachShared l.self l.types (take l.pair-index l.named)
    × ((mount : MountId) (kind : Propagation) → is_listed l.fn.self mount kind ≡ true
    → is_listed l.self mount kind ≡ true)
    × ((lower upper : GroupId) → is_lower l.fn.self lower upper ≡ true → is_lower l.self lower upper ≡ true)
