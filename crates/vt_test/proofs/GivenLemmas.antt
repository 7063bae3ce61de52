-- Lines of answers: where they are cut, and what is told by those that are read.
use Rattle.std.proofs.Common.{◌≡◌, ◌≢◌, ◌<◌, ◌≤◌, ◌-◌, ◌+◌, ◌^◌, ◌==◌, ◌∷◌, ◌++◌, ◌∙◌, [], List, Bool, Option, Some, None, false, true, ℕ, suc, zero, map, get_or, length, take, drop, refl, sym, ap, subst, append_assoc, append-nil, arith, take-append-drop, get_or-take, length-take, decimal, cond}
use Rattle.std.specs.Prelude.{All}
use Rattle.std.proofs.lemmas.Fmt.{decimal-digits_of}
use Rattle.std.specs.Fmt.{digits}
use Rattle.vt_spec.proofs.Common.{nat_tests, drop_more, lines_of, take_rest}
use Rattle.std.proofs.lemmas.List.{map-append}
use Rattle.vt_verdict.specs.declared.compare.Answer.{Answer}
use Rattle.vt_test.specs.Given.{HasNoSpace, told_line, told_of}

-- what has no space at any index
pub HasNoSpace-each : (bytes : List ℕ) → ((k : ℕ) → k < length bytes → get_or bytes k 0 ≢ 32) → HasNoSpace bytes
HasNoSpace-each [] other = tt
HasNoSpace-each (byte ∷ bytes) other = (
  not_space byte (other 0 (omega arith)),
  HasNoSpace-each bytes (λ k within. other (suc k) (omega arith)),
)
  where
    not_space : (byte : ℕ) → byte ≢ 32 → (byte == 32) ≡ false
    not_space byte other = grind (arith, nat_tests)

-- a line cut at its first space
pub cut_at_space : (bytes front back rest : List ℕ) (n : ℕ) → n < length bytes → get_or bytes n 0 ≡ 32
    → ((k : ℕ) → k < n → get_or bytes k 0 ≢ 32) →
    front ≡ take n bytes → back ≡ drop n bytes → rest ≡ take (length back - 1) (drop 1 back)
    → (bytes ≡ front ++ 32 ∷ rest) × HasNoSpace front
cut_at_space bytes front back rest n within space before is_prefix is_back is_rest =
    let at : drop n bytes ≡ 32 ∷ drop (n + 1) bytes = drop_more bytes n 0 within
    ∙ ap (λ byte. byte ∷ drop (n + 1) bytes) space in
    let whole : rest ≡ drop (n + 1) bytes = is_rest ∙ take_rest back 1 ∙ ap (drop 1) (is_back ∙ at) in
    let other : (k : ℕ) → k < length (take n bytes) → get_or (take n bytes) k 0 ≢ 32 = λ k below.
    let low : k < n = omega (arith, below, length-take n bytes) in
    λ e. before k low (sym (get_or-take n bytes k 0 low) ∙ e) in (
      sym (take-append-drop n bytes) ∙ ap (λ back. take n bytes ++ back) at
          ∙ ap (λ rest. take n bytes ++ 32 ∷ rest) (sym whole) ∙ ap (λ front. front ++ 32 ∷ rest) (sym is_prefix),
      subst HasNoSpace (sym is_prefix) (HasNoSpace-each (take n bytes) other),
    )

-- digits have no space
digits_apart : (ds : List ℕ) → HasNoSpace (map (λ d. 48 + d) ds)
digits_apart [] = tt
digits_apart (d ∷ ds) = (grind (arith, nat_tests), digits_apart ds)

pub decimal_apart : (n : ℕ) → n < 2 ^ 64 → HasNoSpace (decimal n)
unfolding digits
decimal_apart zero small = (refl, tt)
decimal_apart (suc n) small = subst HasNoSpace (sym (decimal-digits_of (suc n) (omega arith) small)) (digits_apart _)

-- a line has one first space
pub one_cut : (a b x y : List ℕ) → HasNoSpace a → HasNoSpace b → a ++ 32 ∷ x ≡ b ++ 32 ∷ y → (a ≡ b) × (x ≡ y)
one_cut [] [] x y na nb e = (refl, cc)
one_cut [] (d ∷ b) x y na nb e = absurd (same d nb.0 cc)
  where
    same : (d : ℕ) → (d == 32) ≡ false → 32 ≢ d
    same d apart is = grind (arith, nat_tests)
one_cut (c ∷ a) [] x y na nb e = absurd (same c na.0 cc)
  where
    same : (c : ℕ) → (c == 32) ≡ false → c ≢ 32
    same c apart is = grind (arith, nat_tests)
one_cut (c ∷ a) (d ∷ b) x y na nb e =
    let rest = one_cut a b x y na.1 nb.1 cc in
    let first : c ≡ d = cc in
    (cc, rest.1)

-- a line without a space is not told
pub no_line : (a x : List ℕ) → HasNoSpace (a ++ 32 ∷ x) → ⊥
no_line [] x none = absurd cc
no_line (c ∷ a) x none = no_line a x none.1

-- the first of lines that are told, and the others
pub first_told : (left : List (ℕ × List ℕ)) (line : List ℕ) (rest : List (List ℕ)) → line ∷ rest ≡ map told_line left
    → (one : ℕ × List ℕ) × (more : List (ℕ × List ℕ)) × (left ≡ one ∷ more) × (line ≡ told_line one)
    × (rest ≡ map told_line more)
first_told [] line rest e = absurd cc
first_told (one ∷ more) line rest e = (one, more, refl, cc, cc)

pub none_told : (left : List (ℕ × List ℕ)) → [] ≡ map told_line left → left ≡ []
none_told [] e = refl
none_told (one ∷ more) e = absurd cc

-- one more that is told
pub told_next : (items : List Answer) (given : Answer) (left more told : List (ℕ × List ℕ)) (one : ℕ × List ℕ)
    → map told_of items ++ left ≡ told → left ≡ one ∷ more → told_of given ≡ one
    → map told_of (items ++ given ∷ []) ++ more ≡ told
told_next items given left more told one joined is same =
    ap (λ xs. xs ++ more) (map-append told_of items (given ∷ []))
    ∙ append_assoc (map told_of items) (told_of given ∷ []) more
    ∙ ap (λ x. map told_of items ++ x ∷ more) same ∙ ap (λ xs. map told_of items ++ xs) (sym is) ∙ joined
