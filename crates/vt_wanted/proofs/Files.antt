-- Lines and words of files, from a place on, as loops go through them.
use Rattle.std.proofs.Common.{None, Some, bytes_eq, codes, get_or, Bool, List, ℕ, suc, zero, [], ◌∷◌, ◌++◌, ◌≡◌, ◌+◌, ◌<◌, ◌≤◌, true, false, cond, drop, take, length, arith, refl, ap, sym, ◌∙◌}
use Rattle.std.proofs.lemmas.List.{at_drop_all, at_drop_more}
use Rattle.std.proofs.lemmas.List.Concat.{flat_map-cons}
use Rattle.std.specs.List.{flat_map}
use Rattle.vt_spec.specs.Language.Script.{behind, lines_of}
use Rattle.vt_spec.specs.Lists.{or_else}
use Rattle.vt_wanted.specs.Entries.{before_mark, call_of, calls_of, is_mark}
use Rattle.vt_wanted.specs.Headers.{first_word, named_by, named_next}

-- before a mark stands nothing
pub before_mark-here : (text : List ℕ) → is_mark text ≡ true → before_mark text ≡ []
before_mark-here [] mark = refl
before_mark-here (byte ∷ rest) mark = ap (λ b. cond b [] (byte ∷ before_mark rest)) mark

-- a place without a mark stands before the first one
pub before_mark-next : (n : ℕ) (line : List ℕ) → n < length line → is_mark (drop n line) ≡ false
    → take (suc n) line ++ before_mark (drop (suc n) line) ≡ take n line ++ before_mark (drop n line)
before_mark-next n [] within other = absurd (omega arith)
before_mark-next zero (byte ∷ rest) within other = sym (ap (λ b. cond b [] (byte ∷ before_mark rest)) other)
before_mark-next (suc n) (byte ∷ rest) within other = ap (λ more. byte ∷ more) (before_mark-next n rest (omega arith) other)

-- the call of a line comes before those of the lines that follow
pub calls_of-line : (file line rest : List ℕ) → lines_of file ≡ line ∷ lines_of rest
    → calls_of file ≡ (call_of line ++ (10 ∷ [])) ++ calls_of rest
calls_of-line file line rest first = ap (flat_map (λ line. call_of line ++ (10 ∷ []))) first
    ∙ flat_map-cons (λ line. call_of line ++ (10 ∷ [])) line (lines_of rest)

-- Words, from the one at a place on

-- the first word that is not empty
pub first_word-here : (word : List ℕ) (words : List (List ℕ)) → 0 < length word → first_word (word ∷ words) ≡ Some word
first_word-here [] words some = absurd (omega arith)
first_word-here (byte ∷ rest) words some = refl

pub first_word-empty : (word : List ℕ) (words : List (List ℕ)) → length word ≡ 0
    → first_word (word ∷ words) ≡ first_word words
first_word-empty [] words none = refl
first_word-empty (byte ∷ rest) words none = absurd (omega arith)

-- the word at a place comes first
pub named_next-at : (is_next : Bool) (words : List (List ℕ)) (n : ℕ) (word : List ℕ)
    → (n < length words) × (word ≡ get_or words n word)
    → named_next is_next (drop n words) ≡ named_next is_next (word ∷ drop (n + 1) words)
named_next-at is_next words n word at = at_drop_more (named_next is_next) words n word at.0
    ∙ ap (λ first. named_next is_next (first ∷ drop (n + 1) words)) (sym at.1)

-- no word is left
no_word : (is_next : Bool) → named_next is_next [] ≡ None
no_word true = refl
no_word false = refl

pub named_next-end : (is_next : Bool) (words : List (List ℕ)) (n : ℕ) → length words ≤ n
    → named_next is_next (drop n words) ≡ None
named_next-end is_next words n all = at_drop_all (named_next is_next) words n all ∙ no_word is_next

-- a word that names a version itself, and another one
pub named_by-itself : (word version : List ℕ) (words : List (List ℕ)) → behind (codes "--script=") word ≡ Some version
    → named_by (word ∷ words) ≡ Some version
named_by-itself word version words is =
    ap (λ first. or_else first (cond (bytes_eq word (codes "--script")) (first_word words) (named_by words))) is

next_named : (is_next : Bool) (words : List (List ℕ))
    → cond is_next (first_word words) (named_by words) ≡ named_next is_next words
next_named true words = refl
next_named false words = refl

pub named_by-next : (word : List ℕ) (words : List (List ℕ)) → behind (codes "--script=") word ≡ None
    → named_by (word ∷ words) ≡ named_next (bytes_eq word (codes "--script")) words
named_by-next word words none =
    ap (λ first. or_else first (cond (bytes_eq word (codes "--script")) (first_word words) (named_by words))) none
    ∙ next_named (bytes_eq word (codes "--script")) words

-- an empty word names none
pub behind-empty : (word : List ℕ) → length word ≡ 0 → behind (codes "--script=") word ≡ None
behind-empty [] none = refl
behind-empty (byte ∷ rest) none = absurd (omega arith)
