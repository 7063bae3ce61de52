use Rattle.std.proofs.Common.{◌≡◌, ◌≤◌, length, true}
use Rattle.vt_spec.proofs.Common.{list_any}
use Rattle.vt_location.specs.Numbers.{same_id}
use Rattle.vt_location.specs.declared.numbers.GroupId.{GroupId}
use Rattle.vt_location.specs.declared.numbers.MountId.{MountId}
use Rattle.vt_group.specs.Sets.{has, same_group}
use Rattle.vt_group.proofs.names.drop_unused.Given as goal

abbrev pub invariant-loop : goal.invariant-loop
invariant-loop l = record {
  mounts : (mount : MountId) → list_any (λ name. has same_id name mount l.mounts) l.fn.list ≡ true
      → list_any (λ name. has same_id name mount l.mounts) l.list ≡ true;
  lowers : (lower : GroupId) → list_any (λ name. has same_group name lower l.lowers) l.fn.list ≡ true
      → list_any (λ name. has same_group name lower l.lowers) l.list ≡ true;
  fewer : length l.list ≤ length l.fn.list;
}
