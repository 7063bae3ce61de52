use Rattle.std.proofs.Common.{◌≡◌, IsSome, true}
use Rattle.vt_location.specs.Numbers.{same_id}
use Rattle.vt_location.specs.declared.numbers.GroupId.{GroupId}
use Rattle.vt_location.specs.declared.numbers.MountId.{MountId}
use Rattle.vt_group.specs.ByNumber.{value_at}
use Rattle.vt_group.specs.Sets.{has, same_group}
use Rattle.vt_group.proofs.index.keep_under.Given as goal

abbrev pub invariant-loop-name : goal.invariant-loop-name
invariant-loop-name l = record {
  mounts : (at : GroupId) (mount : MountId) → IsSome (value_at l.types mount.count)
      → has same_id at mount l.fn.mounts ≡ true → has same_id at mount l.mounts ≡ true;
  lowers : (at lower : GroupId) → IsSome (value_at l.above lower.count)
      → has same_group at lower l.fn.lowers ≡ true → has same_group at lower l.lowers ≡ true;
}
