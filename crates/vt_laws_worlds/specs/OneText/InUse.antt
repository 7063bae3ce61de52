-- A world has no number but those that are in use, with overlays too, and which supplies serve it.
use Rattle.std.specs.Prelude.{Bool, List, false, nat_eq, true, ℕ, ◌≡◌}
use Rattle.std.specs.List.{list_any}
use Rattle.vt_laws_worlds.specs.Given.NumbersHanded.{AreApart, Placed, handed_at}
use Rattle.vt_laws_worlds.specs.Permits.InUse.{is_in_use}
use Rattle.vt_laws_rules.specs.Numbers.{Allotment, KeepsTo, WorldNamed}
use Rattle.vt_laws_trees.specs.Runs.Handed.{is_counted_before, may_be_given}
use Rattle.vt_laws_trees.specs.Runs.Runs.{ServesInHand}
use Rattle.vt_spec.specs.Machine.Invariants.{IsWorld}
use Rattle.vt_spec.specs.Machine.World.{World}

-- Each number that a world with all invariants has anywhere is in use:
abbrev pub AnyWorldsHaveNumbersInUse : Type 0
AnyWorldsHaveNumbersInUse = (world : World ℕ) → IsWorld nat_eq world → WorldNamed (is_in_use world) world

-- so it keeps to all numbers among which those in use are.
abbrev pub AnyWorldsKeepToNumbersInUse : Type 0
AnyWorldsKeepToNumbersInUse =
    (named : ℕ → Bool) (world : World ℕ) → IsWorld nat_eq world
    → ((number : ℕ) → is_in_use world number ≡ true → named number ≡ true) → KeepsTo named world

-- Where those in use are even or counted before the next one, counts from that one on serve, with even numbers that are
-- not in use, each another, at given places among them.
abbrev pub UnusedNumbersServe : Type 0
UnusedNumbersServe =
    (next : ℕ) (all : List Placed) (world : World ℕ) → IsWorld nat_eq world
    → ((number : ℕ) → is_in_use world number ≡ true → is_counted_before next number ≡ true)
    → AreApart all → list_any (λ (placed : Placed). is_in_use world placed.1) all ≡ false
    → (allotment : Allotment) × (allotment.new ≡ handed_at next all) × ServesInHand may_be_given world allotment
