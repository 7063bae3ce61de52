-- The numbers of a world with overlays to which it keeps while an inode's number is not in use.
use Rattle.std.specs.Prelude.{false, nat_eq, ℕ, ◌≡◌}
use Rattle.vt_spec.specs.Machine.Invariants.{IsWorld}
use Rattle.vt_spec.specs.Machine.World.{World}
use Rattle.vt_laws_rules.specs.Numbers.{KeepsTo}
use Rattle.vt_laws_worlds.specs.Permits.InUse.{is_in_use}
use Rattle.vt_laws_trees.specs.Runs.Handed.{is_counted_before, is_named_before}

-- A world that keeps to even numbers and to counts before the next one does not keep to the number of an inode that is
-- not in use.
abbrev pub AnyWorldsKeepToNamedBefore : Type 0
AnyWorldsKeepToNamedBefore =
    (next inode : ℕ) (world : World ℕ) → IsWorld nat_eq world → KeepsTo (is_counted_before next) world
    → is_in_use world inode ≡ false → KeepsTo (is_named_before next inode) world
