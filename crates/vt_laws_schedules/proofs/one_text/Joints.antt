-- What the turns of two runs are handed: those of the one by allotments, those of the other the next row of numbers. Each
-- time a renaming takes the former to the latter.
use Rattle.std.proofs.Common.{arith, ◌≡◌, refl, sym, ap, subst, ℕ, suc, nat_eq, nat_le, ◌≤◌, Bool, true, Option, Some, None, option_map}
use Rattle.vt_spec.proofs.Common.{Fresh, Grammar, Sched, Serves, Who, World, common_steps, none_is_some, renamed, turn, ⊤}
use Rattle.vt_laws_rules.proofs.numbers.Rows.{row, row-spread, spread}
use Rattle.vt_laws_rules.proofs.numbers.Stages.{stage}
use Rattle.vt_laws_rules.proofs.numbers.Supports.{calls_keep_to_numbers}
use Rattle.vt_laws_rules.proofs.numbers.Texts.{joined-early, joined-new, joined-same, joined_with_row, room_serves, stage_serves}
use Rattle.vt_laws_rules.specs.Numbers.{Allotment, KeepsTo, renamed_supply}
use Rattle.vt_laws_rules.specs.Renaming.{Renaming}
use Rattle.vt_laws_trees.specs.Runs.Runs.{ServesInHand}
use Rattle.vt_laws_turns.proofs.played.Leaving.{Leaves, turn_leaves}
use Rattle.vt_laws_turns.proofs.played.Leaving.Leaves.{After, Same}

-- the numbers of an allotment, and those of the row after this one; none where an allocation fails
abbrev pub handed_by : Option Allotment → Option (Fresh ℕ)
handed_by given = option_map (λ (allotment : Allotment). allotment.new) given

abbrev pub row_for : ℕ → Option Allotment → Option (Fresh ℕ)
row_for m given = option_map (λ (allotment : Allotment). spread (suc m)) given

abbrev pub Serve : (ℕ → Bool) → World ℕ → Option Allotment → Type 0
Serve in_hand world None = ⊤
Serve in_hand world (Some allotment) = ServesInHand in_hand world allotment

-- a renaming that renames the world as before, takes the one numbers to the others, and what is in hand to the rows so far
pub record Joint (in_hand : ℕ → Bool) (m : ℕ) (renaming : Renaming ℕ ℕ) (world : World ℕ) (given : Option Allotment)
    : Type 0 where
  pub to : Renaming ℕ ℕ
  pub same : renamed to.there to.back world ≡ renamed renaming.there renaming.back world
  pub supplied : option_map (renamed_supply to.there to.back) (handed_by given) ≡ row_for m given
  pub early : (k : ℕ) → in_hand k ≡ true → row (to.there k) ≤ suc m

pub joint : (grammar : Grammar) (in_hand : ℕ → Bool) (m : ℕ) (renaming : Renaming ℕ ℕ) (world : World ℕ)
    → ((k : ℕ) → in_hand k ≡ true → row (renaming.there k) ≤ m) → (given : Option Allotment)
    → Serve in_hand world given → Joint in_hand m renaming world given
joint grammar in_hand m renaming world early None serves = record {
  to = renaming;
  same = refl;
  supplied = refl;
  early = λ k is. let low = early k is in omega arith;
}
joint grammar in_hand m renaming world early (Some allotment) serves =
    let here : World ℕ = renamed renaming.there renaming.back world in
    record {
      to = joined_with_row grammar m renaming in_hand world here refl early allotment serves.serves;
      same = joined-same grammar m renaming in_hand world here refl early allotment serves.serves;
      supplied = ap Some (λ i k. joined-new grammar m renaming in_hand world here refl early allotment serves.serves
          (allotment.new k) k (allotment.new_lot k) i);
      early = λ k is. joined-early grammar m renaming in_hand world here refl early allotment serves.serves k
          (serves.stays k is);
    }

-- The rows so far: the next one serves a world that keeps to them.

abbrev pub is_early : ℕ → ℕ → Bool
is_early m number = nat_le (row number) m

early_row : (m number : ℕ) → is_early m number ≡ true → row number ≤ m
early_row m number is = grind (arith, common_steps)

pub is_early_first : (m number : ℕ) → row number ≤ m → is_early m number ≡ true
is_early_first m number low = grind (arith, common_steps)

pub row_serves : (grammar : Grammar) (m : ℕ) (world : World ℕ) → KeepsTo (is_early m) world
    → Serves nat_eq world (spread (suc m))
unfolding stage
row_serves grammar m world keeps = room_serves (is_early m) world (stage m (is_early m) (early_row m))
    (stage_serves grammar m (is_early m) world keeps (early_row m))

pub keeps_on : (m : ℕ) (world : World ℕ) → KeepsTo (is_early m) world → KeepsTo (is_early (suc m)) world
keeps_on m world keeps renaming leaves = keeps renaming (λ number is.
    leaves number (is_early_first (suc m) number (let low = early_row m number is in omega arith)))

pub is_row : (m : ℕ) (given : Option Allotment) (fresh : Fresh ℕ) → row_for m given ≡ Some fresh
    → spread (suc m) ≡ fresh
is_row m None fresh e = none_is_some fresh e
is_row m (Some allotment) fresh e = cc

pub keeps_later : (m : ℕ) (sched : Sched ℕ) (who : Who) (given : Option Allotment) → KeepsTo (is_early m) sched.world
    → KeepsTo (is_early (suc m)) (turn nat_eq sched who (row_for m given)).sched.world
keeps_later m sched who given keeps = by (turn_leaves sched (who, row_for m given))
  where
    by : Leaves sched (who, row_for m given) (turn nat_eq sched who (row_for m given)).sched
        → KeepsTo (is_early (suc m)) (turn nat_eq sched who (row_for m given)).sched.world
    by (Same same) = subst (KeepsTo (is_early (suc m))) (sym same) (keeps_on m sched.world keeps)
    by (After name call fresh commits) = subst (KeepsTo (is_early (suc m))) (sym commits.world)
        (calls_keep_to_numbers (is_early (suc m)) fresh sched.world name call (keeps_on m sched.world keeps) (λ k.
        subst (λ (new : Fresh ℕ). is_early (suc m) (new k) ≡ true) (is_row m given fresh commits.handed)
        (is_early_first (suc m) (spread (suc m) k) (let at = row-spread (suc m) k in omega arith))))
