-- Two supplies with room are joined by a renaming.
use Rattle.std.proofs.Common.{◌≡◌, refl, sym, ap, ◌∙◌, ℕ, Bool, true, subst, arith}
use Rattle.vt_spec.proofs.Common.{World, renamed, common_steps}
use std.Equiv.{◌≃◌, id_equiv, iso_to_equiv}
use std.Univalence.{equiv_j}
use Rattle.vt_laws_rules.specs.Renaming.{Renaming}
use Rattle.vt_laws_rules.specs.Numbers.{KeepsTo, Lot, Allotment, is_kept, is_kept_lot}
use Rattle.vt_laws_rules.specs.Numbers.Lot.{Kept, LeftOver, New}
use Rattle.vt_laws_rules.proofs.numbers.Renamings.{renamed_itself}

-- What is kept is renamed as before, what is new to what is new, and what is left over to what is left over.
allotted_by : Allotment → (ℕ → ℕ) → Lot → ℕ → ℕ
allotted_by other rename Kept number = rename number
allotted_by other rename (New k) number = other.new k
allotted_by other rename (LeftOver k) number = other.left_over k

pub allotted : Allotment → Allotment → (ℕ → ℕ) → ℕ → ℕ
allotted allotment other rename number = allotted_by other rename (allotment.lot number) number

pub allotted_kept : (allotment other : Allotment) (rename : ℕ → ℕ) (number : ℕ) → allotment.lot number ≡ Kept
    → allotted allotment other rename number ≡ rename number
unfolding allotted allotted_by
allotted_kept allotment other rename number e = ap (λ s. allotted_by other rename s number) e

pub allotted_new : (allotment other : Allotment) (rename : ℕ → ℕ) (number k : ℕ) → allotment.lot number ≡ New k
    → allotted allotment other rename number ≡ other.new k
unfolding allotted allotted_by
allotted_new allotment other rename number k e = ap (λ s. allotted_by other rename s number) e

allotted_left : (allotment other : Allotment) (rename : ℕ → ℕ) (number k : ℕ) → allotment.lot number ≡ LeftOver k
    → allotted allotment other rename number ≡ other.left_over k
unfolding allotted allotted_by
allotted_left allotment other rename number k e = ap (λ s. allotted_by other rename s number) e

-- what is kept, by its test
pub kept_lot : (lot : Lot) → is_kept_lot lot ≡ true → lot ≡ Kept
kept_lot lot e = grind (arith, common_steps)

pub allotted_back : (allotment other : Allotment) (rename again : ℕ → ℕ)
    → ((number : ℕ) → rename (again number) ≡ number)
    → ((number : ℕ) → other.lot number ≡ Kept → allotment.lot (again number) ≡ Kept)
    → (number : ℕ) → allotted allotment other rename (allotted other allotment again number) ≡ number
allotted_back allotment other rename again inverse keeps number = by (other.lot number) refl
  where
    by : (lot : Lot) → other.lot number ≡ lot
        → allotted allotment other rename (allotted other allotment again number) ≡ number
    by Kept e = grind (arith, common_steps, allotted_kept)
    by (New k) e = ap (allotted allotment other rename) (allotted_new other allotment again number k e)
        ∙ allotted_new allotment other rename (allotment.new k) k (allotment.new_lot k) ∙ other.lot_new number k e
    by (LeftOver k) e = ap (allotted allotment other rename) (allotted_left other allotment again number k e)
        ∙ allotted_left allotment other rename (allotment.left_over k) k (allotment.left_over_lot k)
        ∙ other.lot_left_over number k e

-- a renaming that takes the kept to the kept, and the new ones to the new ones, each to that at its place
unfoldable pub joined : (allotment other : Allotment) (renaming : Renaming ℕ ℕ)
    → ((number : ℕ) → is_kept other number ≡ is_kept allotment (renaming.back number)) → Renaming ℕ ℕ
joined allotment other renaming same = record {
  there = allotted allotment other renaming.there;
  back = allotted other allotment renaming.back;
  there_back = allotted_back allotment other renaming.there renaming.back renaming.there_back
      (λ number e. kept_lot (allotment.lot (renaming.back number)) (sym (same number) ∙ ap is_kept_lot e));
  back_there = allotted_back other allotment renaming.back renaming.there renaming.back_there
      (λ number e. kept_lot (other.lot (renaming.there number))
      (same (renaming.there number) ∙ ap (is_kept allotment) (renaming.back_there number) ∙ ap is_kept_lot e));
}

-- One renaming after another
composed_at : {M N P : Type 0} (e : N ≃ P) (f : M → N) (g : N → M) (world : World M) (back : P → N)
    → ((number : P) → e.0 (back number) ≡ number)
    → renamed (λ n. e.0 (f n)) (λ p. g (back p)) world ≡ renamed e.0 back (renamed f g world)
unfolding id_equiv
composed_at {M} {N} {P} e = equiv_j
    (λ (A : Type 0) (e : A ≃ P). (f : M → A) (g : A → M) (world : World M) (back : P → A)
    → ((number : P) → e.0 (back number) ≡ number)
    → renamed (λ n. e.0 (f n)) (λ p. g (back p)) world ≡ renamed e.0 back (renamed f g world))
    (λ f g world back there_back.
    subst (λ (b : P → P). renamed f (λ p. g (b p)) world ≡ renamed (λ p. p) b (renamed f g world))
    (λ i number. sym (there_back number) i) (sym (renamed_itself (renamed f g world)))) e

composed : (renaming : Renaming ℕ ℕ) (f g : ℕ → ℕ) (world : World ℕ)
    → renamed (λ n. renaming.there (f n)) (λ n. g (renaming.back n)) world
    ≡ renamed renaming.there renaming.back (renamed f g world)
composed renaming f g world = composed_at (iso_to_equiv
    (record { fun = renaming.there; inv = renaming.back; rinv = renaming.there_back; linv = renaming.back_there }))
    f g world renaming.back renaming.there_back

-- Renamings that agree on what a world keeps to rename it alike.
pub agree : (named : ℕ → Bool) (world : World ℕ) (first second : Renaming ℕ ℕ) → KeepsTo named world
    → ((number : ℕ) → named number ≡ true → second.there number ≡ first.there number)
    → renamed second.there second.back world ≡ renamed first.there first.back world
agree named world first second keeps same = (λ i. renamed (λ n. sym (first.there_back (second.there n)) i)
    (λ n. sym (ap second.back (first.there_back n)) i) world)
    ∙ composed first (λ n. first.back (second.there n)) (λ n. second.back (first.there n)) world
    ∙ ap (renamed first.there first.back)
    (keeps between (λ number is. ap first.back (same number is) ∙ first.back_there number))
  where
    between : Renaming ℕ ℕ
    between = record {
      there = λ n. first.back (second.there n);
      back = λ n. second.back (first.there n);
      there_back = λ n. ap first.back (second.there_back (first.there n)) ∙ first.back_there n;
      back_there = λ n. ap second.back (first.there_back (second.there n)) ∙ second.back_there n;
    }
