-- When a text is too long to be walked.
use Rattle.std.proofs.Common.{◌≡◌, ◌≢◌, ◌≤◌, ◌<◌, ◌+◌, ◌||◌, ℕ, Bool, true, false, not, List, [], ◌∷◌, ◌++◌, length, filter, get_or, take, drop, inl, inr, refl, sym, ap, ◌∙◌, subst, ⊎_elim, arith, length-take, take-append-drop, get_or-take, nat_lt, All, le-ltb, lt-ltb, ltb-true, ne_eqb, length-append}
use Rattle.vt_spec.proofs.Common.{All-head, All-tail, All-weaker, drop_more, is_empty, list_any, list_any-append, longest_name, longest_path, or_cases, parts, with_byte, words}
use Rattle.std.proofs.lemmas.List.Elements.{All-from_get_or}
use Rattle.std.proofs.lemmas.List.Folds.{Any-from_list_any, list_any_none}
use Rattle.vt_text.proofs.PathWords.{words_between_within, words_between-append, parts_some}
use Rattle.vt_text.specs.Walkable.{IsTooLong, IsWalkable}

-- by the test of the rule W2
pub IsTooLong-from_test : (text : List ℕ)
    → (nat_lt longest_path (length text) || list_any (λ word. nat_lt longest_name (length word)) (words text)) ≡ true
    → IsTooLong text
IsTooLong-from_test text test = ⊎_elim (λ path. inl (ltb-true longest_path (length text) path)) (λ word.
    let found = Any-from_list_any (λ word. nat_lt longest_name (length word)) (words text) word in
    inr (found.0, found.1, found.2, found.3, ltb-true longest_name (length found.1) found.4))
    (or_cases (nat_lt longest_path (length text))
    (list_any (λ word. nat_lt longest_name (length word)) (words text)) test)

-- such a text may not be walked
pub not_walkable : (text : List ℕ) → IsTooLong text → IsWalkable text → ⊥
not_walkable text too_long walkable = ⊎_elim (λ path. omega (arith, walkable.path_limit)) (λ some.
    let limit = subst (λ word. length word ≤ longest_name) some.3 (walkable.name_limit some.0 some.1 some.2) in
    omega (arith, some.4)) too_long

-- a text within the limit of a word has no word over it
pub no_long_word : (text : List ℕ) → length text ≤ longest_name
    → list_any (λ word. nat_lt longest_name (length word)) (words text) ≡ false
no_long_word text short = list_any_none (λ word. nat_lt longest_name (length word)) (words text)
    (All-weaker (λ word. length word ≤ length text) (λ word. nat_lt longest_name (length word) ≡ false)
    (λ word h. le-ltb longest_name (length word) (omega arith)) (words text) (words_between_within 47 text))

-- whether a word is over the limit
abbrev pub some_long : List (List ℕ) → Bool
some_long texts = list_any (λ word. nat_lt longest_name (length word)) texts

-- what stands before a slash, and is within the limit of a word, does not matter
pub long_word_after : (text : List ℕ) (slash : ℕ) → slash < length text → slash ≤ longest_name
    → get_or text slash 0 ≡ 47 → some_long (words text) ≡ some_long (words (drop (slash + 1) text))
long_word_after text slash within short there =
    let front = take slash text in
    let rest = drop (slash + 1) text in
    let cut : text ≡ front ++ 47 ∷ rest = sym (take-append-drop slash text)
    ∙ ap (λ back. front ++ back) (drop_more text slash 0 within ∙ ap (λ byte. byte ∷ rest) there) in
    let none : some_long (words front) ≡ false = no_long_word front (omega (arith, length-take slash text)) in
    ap (λ text. some_long (words text)) cut ∙ ap some_long (words_between-append 47 front rest)
    ∙ list_any-append (λ word. nat_lt longest_name (length word)) (words front) (words rest)
    ∙ ap (λ first. first || some_long (words rest)) none

-- the first part of a text goes on where a front without a slash ends
first_part : (texts : List (List ℕ)) → texts ≢ [] → (first : List ℕ) × (tail : List (List ℕ)) × (texts ≡ first ∷ tail)
first_part [] some = absurd (some refl)
first_part (first ∷ tail) some = (first, tail, refl)

part_with_front : (front rest : List ℕ) → All (λ byte. byte ≢ 47) front
    → (first : List ℕ) × (tail : List (List ℕ)) × (parts 47 (front ++ rest) ≡ (front ++ first) ∷ tail)
part_with_front [] rest other = first_part (parts 47 rest) (parts_some 47 rest)
part_with_front (byte ∷ front) rest other =
    let found = part_with_front front rest (All-tail (λ byte. byte ≢ 47) byte front other) in (
      found.0,
      found.1,
      ap (λ test. with_byte test byte (parts 47 (front ++ rest)))
          (ne_eqb byte 47 (All-head (λ byte. byte ≢ 47) byte front other)) ∙ ap (with_byte false byte) found.2,
    )

first_is_long : (word : List ℕ) (tail : List (List ℕ)) → longest_name < length word
    → some_long (filter (λ part. not (is_empty part)) (word ∷ tail)) ≡ true
first_is_long [] tail long = absurd (omega arith)
first_is_long (byte ∷ bytes) tail long = ap (λ first. first || some_long (filter (λ part. not (is_empty part)) tail))
    (lt-ltb longest_name (length (byte ∷ bytes)) long)

-- a text of which one byte more than the limit of a word has no slash has a word over it
pub long_word_here : (text : List ℕ) → longest_name < length text → ((k : ℕ) → k ≤ longest_name → get_or text k 0 ≢ 47)
    → some_long (words text) ≡ true
long_word_here text long other =
    let front = take (longest_name + 1) text in
    let rest = drop (longest_name + 1) text in
    let size : length front ≡ longest_name + 1 = omega (arith, length-take (longest_name + 1) text) in
    let no_slash : All (λ byte. byte ≢ 47) front = All-from_get_or (λ byte. byte ≢ 47) front 0 (λ k within.
    subst (λ byte. byte ≢ 47) (sym (get_or-take (longest_name + 1) text k 0 (omega arith))) (other k (omega arith))) in
    let found = part_with_front front rest no_slash in
    ap (λ text. some_long (words text)) (sym (take-append-drop (longest_name + 1) text))
    ∙ ap (λ texts. some_long (filter (λ part. not (is_empty part)) texts)) found.2
    ∙ first_is_long (front ++ found.0) found.1 (omega (arith, size, length-append front found.0))
