-- The lines of wanted and given answers, one after the other.
use Rattle.std.proofs.Common.{Bool, List, None, Option, Some, [], ◌++◌, ◌+◌, ◌<◌, ◌≤◌, ◌∷◌, ◌≡◌, ap, arith, eq-eqb, false, filter, flat_map, if◌then◌else◌, length, nat_le, not, refl, subst, suc, sym, true, zero, ℕ, ◌∙◌}
use Rattle.std.proofs.lemmas.List.{length-drop, take-append-drop}
use Rattle.std.specs.Option.{option_map_or}
use Rattle.vt_verdict.specs.Compared.{IsSplit, Line, after_line, are_met, count_of_line, differs, first_number, lines_within, of_line}
use Rattle.vt_verdict.specs.declared.compare.Answer.{Answer}

-- the first, and then those of what follows it
pub next-line : (most : ℕ) (wanted given : List Answer) (line : Line) (more_wanted more_given : List Answer)
    → IsSplit wanted given line more_wanted more_given
    → lines_within (suc most) wanted given ≡ line ∷ lines_within most more_wanted more_given
next-line most wanted given line more_wanted more_given is =
    ap (λ number. option_map_or (λ number.
    record { number = number; wanted = of_line number wanted; given = of_line number given }
    ∷ lines_within most (after_line number wanted) (after_line number given)) number []) is.number
    ∙ (λ i. record { number = line.number; wanted = sym is.of_wanted i; given = sym is.of_given i }
    ∷ lines_within most (sym is.after_wanted i) (sym is.after_given i))

-- no line is left
pub no-line : (most : ℕ) (wanted given : List Answer) → first_number wanted given ≡ None
    → lines_within most wanted given ≡ []
no-line zero wanted given none = refl
no-line (suc most) wanted given none =
    ap (λ number. option_map_or (λ number.
    record { number = number; wanted = of_line number wanted; given = of_line number given }
    ∷ lines_within most (after_line number wanted) (after_line number given)) number []) none

-- those that differ, if the first is what is wanted, and if it is not
pub next-met : (most left : ℕ) (wanted given : List Answer) (line : Line) (more_wanted more_given : List Answer)
    → IsSplit wanted given line more_wanted more_given → left ≡ suc most → are_met line.wanted line.given ≡ true
    → filter differs (lines_within left wanted given) ≡ filter differs (lines_within most more_wanted more_given)
next-met most left wanted given line more_wanted more_given is more met =
    ap (λ n. filter differs (lines_within n wanted given)) more
    ∙ ap (filter differs) (next-line most wanted given line more_wanted more_given is)
    ∙ ap (λ b. if not b then line ∷ filter differs (lines_within most more_wanted more_given)
    else filter differs (lines_within most more_wanted more_given)) met

pub next-differs : (most left : ℕ) (wanted given : List Answer) (line : Line) (more_wanted more_given : List Answer)
    → IsSplit wanted given line more_wanted more_given → left ≡ suc most → are_met line.wanted line.given ≡ false
    → filter differs (lines_within left wanted given)
    ≡ line ∷ filter differs (lines_within most more_wanted more_given)
next-differs most left wanted given line more_wanted more_given is more met =
    ap (λ n. filter differs (lines_within n wanted given)) more
    ∙ ap (filter differs) (next-line most wanted given line more_wanted more_given is)
    ∙ ap (λ b. if not b then line ∷ filter differs (lines_within most more_wanted more_given)
    else filter differs (lines_within most more_wanted more_given)) met

-- No answer is left out

front-and-rest : (number : ℕ) (answers more : List Answer) → more ≡ after_line number answers
    → of_line number answers ++ more ≡ answers
front-and-rest number answers more is = ap (λ rest. of_line number answers ++ rest) is
    ∙ take-append-drop (count_of_line number answers) answers

-- what follows the first line is shorter
own-line : (answer : Answer) (more : List Answer)
    → count_of_line answer.number (answer ∷ more) ≡ 1 + count_of_line answer.number more
own-line answer more =
    ap (λ b. if b then 1 + count_of_line answer.number more else 0) (eq-eqb answer.number answer.number refl)

shorter : (number : ℕ) (answers : List Answer) → length (after_line number answers) ≤ length answers
shorter number answers = rw length-drop (omega arith)

shorter-own : (answer : Answer) (more : List Answer)
    → length (after_line answer.number (answer ∷ more)) ≤ length more
shorter-own answer more = rw (length-drop, own-line answer more) (omega arith)

fewer : (wanted given : List Answer) (number : ℕ) → first_number wanted given ≡ Some number
    → length (after_line number wanted) + length (after_line number given) < length wanted + length given
fewer [] [] number first = cc
fewer (w ∷ ws) [] number first =
    let is : w.number ≡ number = cc in
    let less = shorter-own w ws in
    subst (λ n. length (after_line n (w ∷ ws)) + length (after_line n []) < length (w ∷ ws) + 0) is
    (omega (arith, less, shorter w.number []))
fewer [] (g ∷ gs) number first =
    let is : g.number ≡ number = cc in
    let less = shorter-own g gs in
    subst (λ n. length (after_line n []) + length (after_line n (g ∷ gs)) < 0 + length (g ∷ gs)) is
    (omega (arith, less, shorter g.number []))
fewer (w ∷ ws) (g ∷ gs) number first = by (nat_le w.number g.number) refl
  where
    by : (b : Bool) → nat_le w.number g.number ≡ b
        → length (after_line number (w ∷ ws)) + length (after_line number (g ∷ gs)) < length (w ∷ ws) + length (g ∷ gs)
    by true e =
        let is : w.number ≡ number =
        cc (ap (λ b. Some (if b then w.number else g.number)) (sym e) ∙ first) in
        let less = shorter-own w ws in
        subst (λ n. length (after_line n (w ∷ ws)) + length (after_line n (g ∷ gs)) < length (w ∷ ws) + length (g ∷ gs)) is
        (omega (arith, less, shorter w.number (g ∷ gs)))
    by false e =
        let is : g.number ≡ number =
        cc (ap (λ b. Some (if b then w.number else g.number)) (sym e) ∙ first) in
        let less = shorter-own g gs in
        subst (λ n. length (after_line n (w ∷ ws)) + length (after_line n (g ∷ gs)) < length (w ∷ ws) + length (g ∷ gs)) is
        (omega (arith, less, shorter g.number (w ∷ ws)))

none-at-all : (wanted given : List Answer) → first_number wanted given ≡ None → (wanted ≡ []) × (given ≡ [])
none-at-all [] [] first = (refl, refl)
none-at-all (w ∷ ws) [] first = cc
none-at-all [] (g ∷ gs) first = cc
none-at-all (w ∷ ws) (g ∷ gs) first = cc

abbrev HasAll : List Line → List Answer → List Answer → Type 0
HasAll lines wanted given = (flat_map (λ (line : Line). line.wanted) lines ≡ wanted)
    × (flat_map (λ (line : Line). line.given) lines ≡ given)

pub have-all : (most : ℕ) (wanted given : List Answer) → length wanted + length given ≤ most
    → HasAll (lines_within most wanted given) wanted given
have-all zero [] [] few = (refl, refl)
have-all zero (w ∷ ws) given few = absurd (omega arith)
have-all zero [] (g ∷ gs) few = absurd (omega arith)
have-all (suc most) wanted given few = by (first_number wanted given) refl (λ others more. have-all most others more)
  where
    by : (first : Option ℕ) → first_number wanted given ≡ first
        → ((others more : List Answer) → length others + length more ≤ most
        → HasAll (lines_within most others more) others more)
        → HasAll (lines_within (suc most) wanted given) wanted given
    by None first rest =
        let none = no-line (suc most) wanted given first in
        let both = none-at-all wanted given first in (
          ap (flat_map (λ (line : Line). line.wanted)) none ∙ sym both.0,
          ap (flat_map (λ (line : Line). line.given)) none ∙ sym both.1,
        )
    by (Some number) first rest =
        let less = fewer wanted given number first in
        let others = rest (after_line number wanted) (after_line number given) (omega (arith, less)) in
        let line = next-line most wanted given (record { number = number; wanted = of_line number wanted; given = of_line number given })
        (after_line number wanted) (after_line number given) (record {
          number = first;
          of_wanted = refl;
          of_given = refl;
          after_wanted = refl;
          after_given = refl;
        }) in (
          ap (flat_map (λ (line : Line). line.wanted)) line ∙ front-and-rest number wanted _ others.0,
          ap (flat_map (λ (line : Line). line.given)) line ∙ front-and-rest number given _ others.1,
        )
