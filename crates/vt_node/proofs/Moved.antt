-- Entries that move into another map, the last first.
use Rattle.std.proofs.Common.{◌≡◌, ◌++◌, ◌∷◌, [], IsOk, List, OnOk, Result, ap, arith, length, refl, ℕ}
use Rattle.vt_spec.proofs.Common.{Entries, common_steps, keys_of, length-map, length_permutation, with_entry}
use Rattle.std.specs.declared.vec.Vec.{Vec}
use Rattle.std.specs.List.{IsDistinct}
use Rattle.vt_node.specs.Listed.{listed}
use Rattle.vt_node.proofs.KeptNames.{names-listed}
use Rattle.vt_node.proofs.ListedLemmas.{key_eq}

-- what succeeds leaves what success leaves
pub where_ok : {T E P : Type 0} (r : Result T E) → IsOk r → OnOk r P → P
where_ok r is p = grind (arith, common_steps)

module _ {A : Type 0} where
  -- entries that are put in before others, the last first
  abbrev pub listed_before : List (Vec ℕ A × ℕ) → Entries ℕ → Entries ℕ
  listed_before [] others = others
  listed_before (e ∷ es) others = with_entry e.0.items e.1 (listed_before es others)

  pub before_none : (es : List (Vec ℕ A × ℕ)) → listed_before es [] ≡ listed es
  before_none [] = refl
  before_none (e ∷ es) = ap (with_entry e.0.items e.1) (before_none es)

  pub before_last : (es : List (Vec ℕ A × ℕ)) (last : Vec ℕ A × ℕ) (others : Entries ℕ)
      → listed_before (es ++ last ∷ []) others ≡ listed_before es (with_entry last.0.items last.1 others)
  before_last [] last others = refl
  before_last (e ∷ es) last others = ap (with_entry e.0.items e.1) (before_last es last others)

  -- as many are listed as are kept
  pub length-listed : (es : List (Vec ℕ A × ℕ)) → IsDistinct key_eq (keys_of es) → length (listed es) ≡ length es
  length-listed es distinct =
      let names = length_permutation _ _ (names-listed es distinct) in
      omega (
        arith,
        names,
        length-map (listed es) (λ (entry : List ℕ × ℕ). entry.0),
        length-map (keys_of es) (λ (key : Vec ℕ A). key.items),
        length-map es (λ (entry : Vec ℕ A × ℕ). entry.0),
      )
