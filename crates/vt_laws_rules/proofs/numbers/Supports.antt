-- Which numbers a world has in it.
use Rattle.std.proofs.Common.{◌≡◌, ◌≢◌, refl, sym, ap, ◌∙◌, true≢false, ℕ, nat_eq, Bool, true, false, cond, List, [], ◌∷◌, ⊎_elim, Some, map, ◌||◌, arith}
use Rattle.vt_spec.proofs.Common.{Fresh, Step, World, eqb_tells, is_among, line_step, numbers_in_use, opening, policy, renamed, step_world, common_steps}
use Rattle.vt_laws_rules.specs.Numbers.{CallsKeepToNumbers, LeavesOutTwo, LinesKeepToNumbers, OpeningKeepsToFour, UsedNumbersAreNamed, renamed_step}
use Rattle.vt_laws_rules.specs.Renaming.{Renaming}
use Rattle.vt_laws_rules.proofs.numbers.Commuting.{Named, commutes_nat, map_itself}
use Rattle.vt_laws_rules.proofs.numbers.Exchanges.{exchange, exchange_leaves, swapped, swapped_first}
use Rattle.vt_laws_rules.proofs.numbers.Renamings.{calls_renamed, lines_renamed, named_world}

-- The world after a call, and after a line

pub calls_keep_to_numbers : CallsKeepToNumbers
calls_keep_to_numbers named fresh world name call keeps supplied renaming leaves =
    sym (ap (λ outcome. outcome.world) (calls_renamed renaming fresh world name call))
    ∙ (λ i. (policy nat_eq (λ k. leaves (fresh k) (supplied k) i) (keeps renaming leaves i) name call).world)

-- the world after a renamed step is the renamed world
pub step_world-renamed : (renaming : Renaming ℕ ℕ) (world : World ℕ) (step : Step ℕ)
    → step_world (renamed renaming.there renaming.back world) (renamed_step renaming.there renaming.back step)
    ≡ renamed renaming.there renaming.back (step_world world step)
step_world-renamed renaming world step = grind (arith, common_steps)

pub lines_keep_to_numbers : LinesKeepToNumbers
lines_keep_to_numbers named grammar fresh world line keeps supplied renaming leaves =
    sym (step_world-renamed renaming world (line_step nat_eq grammar world line (Some fresh)))
    ∙ ap (step_world (renamed renaming.there renaming.back world))
    (sym (lines_renamed renaming grammar (Some fresh) world line)) ∙ (λ i. step_world (keeps renaming leaves i)
    (line_step nat_eq grammar (keeps renaming leaves i) line (Some (λ k. leaves (fresh k) (supplied k) i))))

-- The opening world

-- a supply of numbers is renamed number by number
unfoldable pub named_supply : Named Fresh
named_supply = record { rename = λ A B there back fresh k. there (fresh k); itself = λ A fresh. refl }

-- a supply of four numbers
four : ℕ → ℕ → ℕ → ℕ → Fresh ℕ
four a b c d k = cond (nat_eq k 0) a (cond (nat_eq k 1) b (cond (nat_eq k 2) c d))

pub opening_alike : (f g : Fresh ℕ) → f 0 ≡ g 0 → f 1 ≡ g 1 → f 2 ≡ g 2 → f 3 ≡ g 3
    → opening nat_eq f ≡ opening nat_eq g
unfolding four
opening_alike f g mount namespace filesystem root = cc

pub opening_keeps_to_four : OpeningKeepsToFour
unfolding named_supply
opening_keeps_to_four named fresh mount namespace filesystem root renaming leaves =
    grind (
      arith,
      common_steps,
      commutes_nat Fresh World named_supply named_world (λ A eq fresh. opening eq fresh)
          renaming fresh,
    )

-- Numbers in use

named_list : Named List
named_list = record {
  rename = λ A B there back list. map there list;
  itself = λ A list. map_itself (λ n. n) (λ n. refl) list;
}

used_renamed : (renaming : Renaming ℕ ℕ) (world : World ℕ)
    → numbers_in_use (renamed renaming.there renaming.back world) ≡ map renaming.there (numbers_in_use world)
unfolding named_list
used_renamed renaming world = commutes_nat World List named_world named_list
    (λ A eq world. numbers_in_use world) renaming world

same_first : (a b : ℕ) (as_list bs : List ℕ) → (a ∷ as_list) ≡ (b ∷ bs) → a ≡ b
same_first a b as_list bs e = cc

same_rest : (a b : ℕ) (as_list bs : List ℕ) → (a ∷ as_list) ≡ (b ∷ bs) → as_list ≡ bs
same_rest a b as_list bs e = cc

-- what is in a list that is mapped to itself is mapped to itself
member_itself : (f : ℕ → ℕ) (list : List ℕ) → map f list ≡ list → (number : ℕ) → is_among nat_eq number list ≡ true
    → f number ≡ number
member_itself f [] same number among = absurd (true≢false (sym among))
member_itself f (first ∷ rest) same number among = ⊎_elim
    (λ t. ap f t.1 ∙ same_first (f first) first (map f rest) rest same ∙ sym t.1)
    (λ t. member_itself f rest (same_rest (f first) first (map f rest) rest same) number
    (sym (ap (λ b. b || is_among nat_eq number rest) t.0) ∙ among)) (eqb_tells number first)

-- Of two numbers that are left out one is another than the number given
other_left : (named : ℕ → Bool) → LeavesOutTwo named → (number : ℕ)
    → (other : ℕ) × (other ≢ number) × (named other ≡ false)
other_left named out number = ⊎_elim (λ t. (out.1, (λ e. out.2 (t.1 ∙ sym e)), out.4)) (λ t. (out.0, t.1, out.3))
    (eqb_tells out.0 number)

pub used_numbers_are_named : UsedNumbersAreNamed
used_numbers_are_named named world keeps out number among = by (named number) refl
  where
    by : (b : Bool) → named number ≡ b → named number ≡ true
    by true e = e
    by false e =
        let other = other_left named out number in
        let same : map (swapped number other.0) (numbers_in_use world) ≡ numbers_in_use world =
        sym (used_renamed (exchange number other.0) world)
        ∙ ap numbers_in_use (keeps (exchange number other.0) (exchange_leaves named number other.0 e other.2)) in
        absurd (other.1 (sym (swapped_first number other.0)
        ∙ member_itself (swapped number other.0) (numbers_in_use world) same number among))
