use Rattle.std.proofs.Common.{◌≡◌, ◌-◌, find, nat_eq}
use Rattle.vt_spec.proofs.Common.{chain, has_members}
use Rattle.vt_group.specs.Grouping.{master_in}
use Rattle.vt_propagate.specs.Copying.{parts_seen}
use Rattle.vt_location.specs.Numbers.{counted}
use Rattle.vt_propagate.proofs.numbering.Copying.nearest.Given as goal

abbrev pub invariant-loop : goal.invariant-loop
invariant-loop l = find (has_members nat_eq (parts_seen l.self))
    (chain (l.end - l.counter) (master_in l.groups) (counted l.here.count))
    ≡ find (has_members nat_eq (parts_seen l.self)) (chain l.end (master_in l.groups) (counted l.fn.group.count))
