-- Which numbers a world keeps to, and which supplies serve it.
use Rattle.std.proofs.Common.{eq-eqb, eqb-true, ne_eqb, ◌≡◌, ◌≢◌, refl, ℕ, Bool, true, false, arith, le-ltb}
use Rattle.vt_spec.proofs.Common.{World, common_steps}
use Rattle.vt_laws_rules.proofs.numbers.NamedWorlds.{named_is_kept}
use Rattle.vt_laws_rules.proofs.numbers.Supports.{used_numbers_are_named}
use Rattle.vt_laws_rules.specs.Numbers.{KeepsTo, LeavesOutTwo}
use Rattle.vt_laws_worlds.proofs.one_text.in_use.InUseNamed.{any_worlds_have_numbers_in_use}
use Rattle.vt_laws_worlds.specs.Permits.InUse.{CountsServeWorlds, HandedNumbersServeWorlds, WorldsHaveNumbersInUse, WorldsKeepToNumbersInUse, is_in_use}
use Rattle.vt_laws_trees.specs.Runs.Handed.{counts_from, is_counted_before}

pub worlds_have_numbers_in_use : WorldsHaveNumbersInUse
worlds_have_numbers_in_use world whole plain = any_worlds_have_numbers_in_use world whole

pub worlds_keep_to_numbers_in_use : WorldsKeepToNumbersInUse
worlds_keep_to_numbers_in_use named world whole plain among renaming leaves =
    named_is_kept (is_in_use world) world (any_worlds_have_numbers_in_use world whole) renaming
    (λ number used. leaves number (among number used))

-- numbers that are never given are not among those before a count
pub leaves_two : (next : ℕ) → LeavesOutTwo (is_counted_before next)
leaves_two next = (3, 7, apart, refl, refl)
  where
    apart : ◌≢◌ {A = ℕ} 3 7
    apart e = absurd (omega arith)

-- what is in use is among the numbers before
pub used_before : (next : ℕ) (world : World ℕ) → KeepsTo (is_counted_before next) world → (number : ℕ)
    → is_in_use world number ≡ true → is_counted_before next number ≡ true
used_before next world keeps number used =
    used_numbers_are_named (is_counted_before next) world keeps (leaves_two next) number used

-- a count from the next one on is not among them
not_before : (next k : ℕ) → is_counted_before next (counts_from next k) ≡ false
not_before next k = grind (arith, common_steps, ne_eqb, eq-eqb, le-ltb)

unused_count : (next : ℕ) (world : World ℕ) → KeepsTo (is_counted_before next) world → (k : ℕ)
    → is_in_use world (counts_from next k) ≡ false
unused_count next world keeps k = by _ refl
  where
    by : (used : Bool) → is_in_use world (counts_from next k) ≡ used → used ≡ false
    by true e = cc (used_before next world keeps (counts_from next k) e, not_before next k)
    by false e = refl

counts_apart : (next j k : ℕ) → counts_from next j ≡ counts_from next k → j ≡ k
counts_apart next j k e = omega arith

pub counts_serve_worlds : CountsServeWorlds
counts_serve_worlds next world keeps = record {
  unused = unused_count next world keeps;
  apart = λ j k e. counts_apart next j k (eqb-true (counts_from next j) (counts_from next k) e);
}

pub handed_numbers_serve_worlds : HandedNumbersServeWorlds
handed_numbers_serve_worlds next place inode world keeps even out =
    grind (arith, common_steps, eqb-true, unused_count, counts_apart)
