use Rattle.std.proofs.Common.{◌≡◌, ◌⊎◌, ℕ, Some, true}
use Rattle.vt_location.specs.Numbers.{counted}
use Rattle.vt_group.specs.Grouping.{master_in}
use Rattle.vt_group.specs.Receiving.{IsLonger, is_in}
use Rattle.vt_group.proofs.groups.Groups.add_lowers.Given as goal

abbrev pub invariant-loop-lower : goal.invariant-loop-lower
invariant-loop-lower l = record {
  longer : IsLonger l.fn.found.keys l.found.keys;
  lower : (one : ℕ) → is_in l.found.keys one ≡ true
      → (is_in l.fn.found.keys one ≡ true) ⊎ (master_in l.self one ≡ Some (counted l.group.count));
  all : (one : ℕ) → master_in l.self one ≡ Some (counted l.group.count)
      → (is_in l.found.keys one ≡ true) ⊎ (is_in l.lower-iterator one ≡ true);
}
