use Rattle.std.proofs.Common.{◌≡◌, ◌⊎◌, ◌-◌, ◌≤◌, ℕ, Some, is_some, length, suc, take, true}
use Rattle.vt_location.specs.Numbers.{counted}
use Rattle.vt_group.specs.Grouping.{master_in}
use Rattle.vt_group.specs.Receiving.{Reaches, is_in, is_noted, receives_from}
use Rattle.vt_group.proofs.groups.Groups.receiving_below.Given as goal

abbrev pub invariant-loop-next : goal.invariant-loop-next
invariant-loop-next l = record {
  within : l.next ≤ length l.found.keys;
  first : is_in l.found.keys (counted l.fn.group.count) ≡ true;
  known : (one : ℕ) → is_in l.found.keys one ≡ true
      → (one ≡ counted l.fn.group.count) ⊎ (is_some (master_in l.self one) ≡ true);
  reaches : (one : ℕ) → is_in l.found.keys one ≡ true → Reaches l.self (counted l.fn.group.count) one;
  lower : (one upper : ℕ) → master_in l.self one ≡ Some upper → is_in (take l.next l.found.keys) upper ≡ true
      → is_in l.found.keys one ≡ true;
  each : (mount : ℕ) → is_noted l.mounts.items mount
      ≡ receives_from l.self (is_in (take l.next l.found.keys)) (counted mount);
}

abbrev pub decreases-loop-next : goal.decreases-loop-next
decreases-loop-next l = suc (length l.self.masters) - l.next
