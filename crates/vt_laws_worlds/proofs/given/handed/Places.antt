-- Counts with the numbers of several inodes among them are a supply with room.
use Rattle.std.proofs.Common.{◌≡◌, refl, ap, true≢false, ℕ, ◌==◌, ◌+◌, ◌*◌, ◌%◌, true, false, cond, not, ◌&&◌, List, [], ◌∷◌, arith, eq-eqb, ne_eqb, eqb-true}
use Rattle.vt_spec.proofs.Common.{and_parts, any_pair, common_steps, list_all, list_any, not-true, or_parts}
use Rattle.vt_laws_rules.proofs.numbers.Allotments.{kept_lot}
use Rattle.vt_laws_rules.proofs.numbers.NamedWorlds.{named_is_kept}
use Rattle.vt_laws_rules.specs.Numbers.{Allotment, is_in_hand, is_kept}
use Rattle.vt_laws_rules.specs.Numbers.Lot.{Kept}
use Rattle.vt_laws_trees.proofs.runs.handed.Counts.{counts, counts_from_hand, counts_keep, counts_stay}
use Rattle.vt_laws_trees.proofs.runs.handed.InodesAllotted.{with_number}
use Rattle.vt_laws_trees.specs.Runs.Handed.{counts_from, is_counted_before, may_be_given}
use Rattle.vt_laws_worlds.specs.Given.NumbersHanded.{AreApart, NumbersAtPlacesServe, NumbersAtPlacesServeNamed, Placed, handed_at, is_named_beside}

-- an allotment with these numbers
record Supply (next : ℕ) (all : List Placed) : Type 0 where
  allotment : Allotment
  new : allotment.new ≡ handed_at next all
  from_hand : (number : ℕ) → is_kept allotment number ≡ true → may_be_given number ≡ true
  stays : (number : ℕ) → may_be_given number ≡ true → is_in_hand allotment number ≡ true
  given : (k : ℕ) → may_be_given (allotment.new k) ≡ true
  keep : (number : ℕ) → is_named_beside next all number ≡ true → is_kept allotment number ≡ true

beside : (next : ℕ) (all : List Placed) (number : ℕ) → is_counted_before next number ≡ true
    → list_any (λ (placed : Placed). number == placed.1) all ≡ false → is_named_beside next all number ≡ true
beside next all number counted others = λ i. counted i && not (others i)

-- of one number more
module _ (next : ℕ) (placed : Placed) (rest : List Placed) (before : Supply next rest) (even : placed.1 % 2 ≡ 0)
    (apart : list_any (λ (other : Placed). placed.1 == other.1) rest ≡ false) where
  counted : is_counted_before next placed.1 ≡ true
  counted = cc (eq-eqb (placed.1 % 2) 0 even)

  kept : before.allotment.lot placed.1 ≡ Kept
  kept = kept_lot _ (before.keep placed.1 (beside next rest _ counted apart))

  abbrev with_one : Allotment
  with_one = with_number before.allotment placed.0 placed.1 kept

  one_from_hand : (number : ℕ) → is_kept with_one number ≡ true → may_be_given number ≡ true
  one_from_hand number = grind (arith, common_steps, eqb-true, before.allotment.new, before.given, before.from_hand)

  one_stays : (number : ℕ) → may_be_given number ≡ true → is_in_hand with_one number ≡ true
  one_stays number given = grind (arith, common_steps)

  one_given : (k : ℕ) → may_be_given (with_one.new k) ≡ true
  one_given k = grind (arith, common_steps, ne_eqb)

  one_kept : (number : ℕ) → is_named_beside next (placed ∷ rest) number ≡ true → is_kept with_one number ≡ true
  one_kept number e = grind (arith, common_steps, and_parts, or_parts, not-true, beside, true≢false)

  one_more : Supply next (placed ∷ rest)
  one_more = record {
    allotment = with_one;
    new = λ i. λ k. cond (k == placed.0) placed.1 (before.new i k);
    from_hand = one_from_hand;
    stays = one_stays;
    given = one_given;
    keep = one_kept;
  }

count_given : (next k : ℕ) → may_be_given (counts_from next k) ≡ true
count_given next k =
    let rest : (4 * (next + k) + 1) % 4 ≡ 1 = omega arith in
    ap not (ne_eqb ((4 * (next + k) + 1) % 4) 3 (λ e. absurd (omega arith)))

supply : (next : ℕ) (all : List Placed) → AreApart all → Supply next all
supply next [] apart = record {
  allotment = counts next;
  new = refl;
  from_hand = counts_from_hand next;
  stays = counts_stay next;
  given = count_given next;
  keep = λ number e. counts_keep next number (and_parts (is_counted_before next number) true e).0;
}
supply next (placed ∷ rest) apart =
    let even = and_parts (placed.1 % 2 == 0) (list_all (λ (other : Placed). other.1 % 2 == 0) rest) apart.0 in
    let other = or_parts (list_any (λ (b : Placed). placed.1 == b.1) rest)
    (any_pair (λ (a b : Placed). a.1 == b.1) rest) apart.1 in
    one_more next placed rest (supply next rest (even.1, other.1)) (eqb-true (placed.1 % 2) 0 even.0) other.0

pub numbers_at_places_serve : NumbersAtPlacesServe
numbers_at_places_serve next all apart world keeps =
    let is = supply next all apart in (
      is.allotment,
      is.new,
      record {
        serves = record {
          from_hand = is.from_hand;
          keeps = λ renaming leaves. keeps renaming (λ number named. leaves number (is.keep number named));
        };
        stays = is.stays;
      },
    )

pub numbers_at_places_serve_named : NumbersAtPlacesServeNamed
numbers_at_places_serve_named next all apart world named =
    numbers_at_places_serve next all apart world (named_is_kept (is_named_beside next all) world named)
