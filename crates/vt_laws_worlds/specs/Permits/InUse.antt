-- A world has no number but those that are in use, and which supplies serve it.
use Rattle.std.specs.Prelude.{Bool, false, nat_eq, true, ℕ, ◌%◌, ◌≡◌}
use Rattle.vt_laws_rules.specs.Numbers.{KeepsTo, WorldNamed}
use Rattle.vt_laws_trees.specs.Runs.Handed.{counts_from, handed_from, is_counted_before, is_named_before}
use Rattle.vt_spec.specs.Lists.{is_among}
use Rattle.vt_spec.specs.Machine.Run.{Serves, numbers_in_use}
use Rattle.vt_spec.specs.Machine.World.{World}
use Rattle.vt_spec.specs.Machine.Invariants.{IsWorld}
use Rattle.vt_laws_worlds.specs.Worlds.Kept.{IsPlain}

-- a mount, a group, a filesystem, a namespace or an inode has the number
abbrev pub is_in_use : World ℕ → ℕ → Bool
is_in_use world number = is_among nat_eq number (numbers_in_use world)

-- Each number that a world of plain filesystems has anywhere is in use:
abbrev pub WorldsHaveNumbersInUse : Type 0
WorldsHaveNumbersInUse =
    (world : World ℕ) → IsWorld nat_eq world → IsPlain world → WorldNamed (is_in_use world) world

-- so it keeps to all numbers among which those in use are.
abbrev pub WorldsKeepToNumbersInUse : Type 0
WorldsKeepToNumbersInUse =
    (named : ℕ → Bool) (world : World ℕ) → IsWorld nat_eq world → IsPlain world
    → ((number : ℕ) → is_in_use world number ≡ true → named number ≡ true) → KeepsTo named world

-- A world that keeps to even numbers and to counts before the next one: counts from that one on serve it,
abbrev pub CountsServeWorlds : Type 0
CountsServeWorlds =
    (next : ℕ) (world : World ℕ) → KeepsTo (is_counted_before next) world → Serves nat_eq world (counts_from next)

-- and so they do with the number of an inode that is not in use,
abbrev pub HandedNumbersServeWorlds : Type 0
HandedNumbersServeWorlds =
    (next place inode : ℕ) (world : World ℕ) → KeepsTo (is_counted_before next) world → inode % 2 ≡ 0
    → is_in_use world inode ≡ false → Serves nat_eq world (handed_from next place inode)

-- to which the world does not keep.
abbrev pub WorldsKeepToNamedBefore : Type 0
WorldsKeepToNamedBefore =
    (next inode : ℕ) (world : World ℕ) → IsWorld nat_eq world → IsPlain world → KeepsTo (is_counted_before next) world
    → is_in_use world inode ≡ false → KeepsTo (is_named_before next inode) world
