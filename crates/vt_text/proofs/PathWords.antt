-- What the words between separators are, read from the left and from the right. Those of a path are `words_between 47`.
use Rattle.std.proofs.Common.{◌≡◌, ◌≢◌, ℕ, ◌+◌, ◌-◌, ◌<◌, ◌≤◌, Bool, true, false, not, suc, zero, ◌==◌, List, [], ◌∷◌, ◌++◌, length, filter, get_or, take, drop, refl, sym, ap, ◌∙◌, subst, ⊎_elim, arith, length-drop, length-take, take-append-drop, get_or-take, get_or-drop, All, eq-eqb, ne_eqb, append-nil, take_all}
use Rattle.vt_spec.proofs.Common.{All-cons, All-filter, All-head, All-nil, All-tail, All-weaker, cases_lt, drop_all, drop_more, ends_in_slash, filter-append, is_empty, is_empty_list, parts, take_more, with_byte}
use Rattle.std.proofs.lemmas.List.Elements.{All-from_get_or}
use Rattle.vt_spec.specs.PathText.{words_between}

with_byte_some : (b : Bool) (byte : ℕ) (ps : List (List ℕ)) → with_byte b byte ps ≢ []
with_byte_some true byte ps e = cc
with_byte_some false byte [] e = cc
with_byte_some false byte (p ∷ ps) e = cc

with_byte-append : (b : Bool) (byte : ℕ) (ps qs : List (List ℕ)) → ps ≢ []
    → with_byte b byte (ps ++ qs) ≡ with_byte b byte ps ++ qs
with_byte-append true byte ps qs some = refl
with_byte-append false byte [] qs some = absurd (some refl)
with_byte-append false byte (p ∷ ps) qs some = refl

-- a text has one part at least
pub parts_some : (s : ℕ) (xs : List ℕ) → parts s xs ≢ []
parts_some s [] e = cc
parts_some s (x ∷ xs) e = with_byte_some (x == s) x (parts s xs) e

-- a separator cuts
pub parts-append : (s : ℕ) (xs ys : List ℕ) → parts s (xs ++ s ∷ ys) ≡ parts s xs ++ parts s ys
parts-append s [] ys = ap (λ b. with_byte b s (parts s ys)) (eq-eqb s s refl)
parts-append s (x ∷ xs) ys = ap (with_byte (x == s) x) (parts-append s xs ys)
    ∙ with_byte-append (x == s) x (parts s xs) (parts s ys) (parts_some s xs)

-- a text without a separator is its one part
pub parts_one : (s : ℕ) (xs : List ℕ) → All (λ b. b ≢ s) xs → parts s xs ≡ xs ∷ []
parts_one s [] other = refl
parts_one s (x ∷ xs) other = ap (λ b. with_byte b x (parts s xs)) (ne_eqb x s (All-head (λ b. b ≢ s) x xs other))
    ∙ ap (with_byte false x) (parts_one s xs (All-tail (λ b. b ≢ s) x xs other))

-- the words before a separator, and those after it
pub words_between-append : (s : ℕ) (xs ys : List ℕ)
    → words_between s (xs ++ s ∷ ys) ≡ words_between s xs ++ words_between s ys
words_between-append s xs ys = ap (filter (λ part. not (is_empty part))) (parts-append s xs ys)
    ∙ filter-append _ (parts s xs) (parts s ys)

-- a text without a separator is its one word
pub words_between_one : (s : ℕ) (xs : List ℕ) → 0 < length xs → All (λ b. b ≢ s) xs → words_between s xs ≡ xs ∷ []
words_between_one s [] some other = absurd (omega arith)
words_between_one s (x ∷ xs) some other = ap (filter (λ part. not (is_empty part))) (parts_one s (x ∷ xs) other)

-- separators in front
pub words_between-skip : (s : ℕ) (front xs : List ℕ) → All (λ b. b ≡ s) front
    → words_between s (front ++ xs) ≡ words_between s xs
words_between-skip s [] xs same = refl
words_between-skip s (x ∷ front) xs same =
    ap (λ b. words_between s (b ∷ (front ++ xs))) (All-head (λ b. b ≡ s) x front same)
    ∙ words_between-append s [] (front ++ xs) ∙ words_between-skip s front xs (All-tail (λ b. b ≡ s) x front same)

-- a text of separators has no word
pub words_between_none : (s : ℕ) (xs : List ℕ) → All (λ b. b ≡ s) xs → words_between s xs ≡ []
words_between_none s xs same = ap (words_between s) (sym (append-nil xs)) ∙ words_between-skip s xs [] same

-- a text with another byte has a word
word-left : (b : Bool) (x : ℕ) (ps : List (List ℕ)) → is_empty_list (filter (λ part. not (is_empty part)) ps) ≡ false
    → is_empty_list (filter (λ part. not (is_empty part)) (with_byte b x ps)) ≡ false
word-left true x ps some = some
word-left false x [] some = refl
word-left false x (p ∷ ps) some = refl

word-begun : (x : ℕ) (ps : List (List ℕ))
    → is_empty_list (filter (λ part. not (is_empty part)) (with_byte false x ps)) ≡ false
word-begun x [] = refl
word-begun x (p ∷ ps) = refl

pub words_between_some : (s : ℕ) (xs : List ℕ) (k : ℕ) → k < length xs → get_or xs k 0 ≢ s
    → is_empty_list (words_between s xs) ≡ false
words_between_some s [] k inside other = absurd (omega arith)
words_between_some s (x ∷ xs) zero inside other =
    ap (λ b. is_empty_list (filter (λ part. not (is_empty part)) (with_byte b x (parts s xs)))) (ne_eqb x s other)
    ∙ word-begun x (parts s xs)
words_between_some s (x ∷ xs) (suc k) inside other =
    word-left (x == s) x (parts s xs) (words_between_some s xs k (omega arith) other)

-- separators at the end
pub words_between-trim : (s : ℕ) (xs back : List ℕ) → All (λ b. b ≡ s) back
    → words_between s (xs ++ back) ≡ words_between s xs
words_between-trim s xs [] same = ap (words_between s) (append-nil xs)
words_between-trim s xs (b ∷ back) same = ap (λ c. words_between s (xs ++ c ∷ back)) (All-head (λ b. b ≡ s) b back same)
    ∙ words_between-append s xs back
    ∙ ap (λ ws. words_between s xs ++ ws) (words_between_none s back (All-tail (λ b. b ≡ s) b back same))
    ∙ append-nil (words_between s xs)

-- a word, and the words of what follows it, which is nothing or begins with a separator
pub words_between-cons : (s : ℕ) (word ys : List ℕ) → 0 < length word → All (λ b. b ≢ s) word
    → words_between s (word ++ s ∷ ys) ≡ word ∷ words_between s (s ∷ ys)
words_between-cons s word ys some other = words_between-append s word ys
    ∙ (λ i. words_between_one s word some other i ++ sym (words_between-append s [] ys) i)

-- ---- what every word is

count_with_byte : (b : Bool) (byte : ℕ) (ps : List (List ℕ))
    → length (filter (λ part. not (is_empty part)) (with_byte b byte ps)) ≤ length
    (filter (λ part. not (is_empty part)) ps) + 1
count_with_byte true byte ps = omega arith
count_with_byte false byte [] = omega arith
count_with_byte false byte ([] ∷ ps) = omega arith
count_with_byte false byte ((c ∷ cs) ∷ ps) = omega arith

-- there are no more words than bytes
pub length-words_between : (s : ℕ) (xs : List ℕ) → length (words_between s xs) ≤ length xs
length-words_between s [] = omega arith
length-words_between s (x ∷ xs) = omega (arith, count_with_byte (x == s) x (parts s xs), length-words_between s xs)

abbrev IsWithin : ℕ → List ℕ → Type 0
IsWithin most part = length part ≤ most

within_more : (n : ℕ) (ps : List (List ℕ)) → All (IsWithin n) ps → All (IsWithin (n + 1)) ps
within_more n ps within = All-weaker (IsWithin n) (IsWithin (n + 1)) (λ part h. omega arith) ps within

with_byte_within : (b : Bool) (byte n : ℕ) (ps : List (List ℕ)) → All (IsWithin n) ps
    → All (IsWithin (n + 1)) (with_byte b byte ps)
with_byte_within true byte n ps within = All-cons (IsWithin (n + 1)) [] ps (omega arith) (within_more n ps within)
with_byte_within false byte n [] within =
    All-cons (IsWithin (n + 1)) (byte ∷ []) [] (omega arith) (All-nil (IsWithin (n + 1)))
with_byte_within false byte n (p ∷ ps) within =
    let first = All-head (IsWithin n) p ps within in
    All-cons (IsWithin (n + 1)) (byte ∷ p) ps (omega arith) (within_more n ps (All-tail (IsWithin n) p ps within))

parts_within : (s : ℕ) (xs : List ℕ) → All (IsWithin (length xs)) (parts s xs)
parts_within s [] = All-cons (IsWithin 0) [] [] (omega arith) (All-nil (IsWithin 0))
parts_within s (x ∷ xs) = All-weaker (IsWithin (length xs + 1)) (IsWithin (length (x ∷ xs))) (λ part h. omega arith)
    (with_byte (x == s) x (parts s xs)) (with_byte_within (x == s) x (length xs) (parts s xs) (parts_within s xs))

-- no word is longer than the text
pub words_between_within : (s : ℕ) (xs : List ℕ) → All (λ word. length word ≤ length xs) (words_between s xs)
words_between_within s xs =
    All-filter (λ part. not (is_empty part)) (λ word. length word ≤ length xs) (parts s xs) (parts_within s xs)

-- ---- the same by index

-- the text from index `start` on, where only separators stand before it
pub words_between-drop : (s : ℕ) (xs : List ℕ) (start : ℕ) → start ≤ length xs
    → ((k : ℕ) → k < start → get_or xs k 0 ≡ s) → words_between s (drop start xs) ≡ words_between s xs
words_between-drop s xs start within same =
    let front : All (λ b. b ≡ s) (take start xs) = All-from_get_or (λ b. b ≡ s) (take start xs) 0
    (λ k h. let below : k < start = omega (arith, length-take start xs) in get_or-take start xs k 0 below
    ∙ same k below) in
    sym (words_between-skip s (take start xs) (drop start xs) front) ∙ ap (words_between s) (take-append-drop start xs)

-- the text up to index `end`, where only separators stand from it on
pub words_between-take : (s : ℕ) (xs : List ℕ) (end : ℕ) → ((k : ℕ) → end ≤ k → k < length xs → get_or xs k 0 ≡ s)
    → words_between s (take end xs) ≡ words_between s xs
words_between-take s xs end same =
    let back : All (λ b. b ≡ s) (drop end xs) = All-from_get_or (λ b. b ≡ s) (drop end xs) 0
    (λ k h. get_or-drop end xs k 0 ∙ same (end + k) (omega arith) (omega (arith, length-drop end xs))) in
    sym (words_between-trim s (take end xs) (drop end xs) back) ∙ ap (words_between s) (take-append-drop end xs)

-- the first word ends at the separator at index `end`, or with the text
pub words_between_first : (s : ℕ) (xs : List ℕ) (end : ℕ) → 0 < end → end ≤ length xs
    → ((k : ℕ) → k < end → get_or xs k 0 ≢ s) → (end < length xs → get_or xs end 0 ≡ s)
    → words_between s xs ≡ take end xs ∷ words_between s (drop end xs)
words_between_first s xs end some within other ends =
    let word : All (λ b. b ≢ s) (take end xs) = All-from_get_or (λ b. b ≢ s) (take end xs) 0
    (λ k h. let below : k < end = omega (arith, length-take end xs) in subst (λ b. b ≢ s)
    (sym (get_or-take end xs k 0 below)) (other k below)) in
    let long : 0 < length (take end xs) = omega (arith, length-take end xs) in
    ⊎_elim (λ inside.
    let rest : drop end xs ≡ s ∷ drop (end + 1) xs = drop_more xs end 0 inside
    ∙ ap (λ b. b ∷ drop (end + 1) xs) (ends inside) in
    ap (words_between s) (sym (take-append-drop end xs)) ∙ ap (λ r. words_between s (take end xs ++ r)) rest
    ∙ words_between-cons s (take end xs) (drop (end + 1) xs) long word
    ∙ ap (λ r. take end xs ∷ words_between s r) (sym rest)) (λ past. ap (words_between s) (sym (take_all end xs past))
    ∙ words_between_one s (take end xs) long word
    ∙ ap (λ r. take end xs ∷ words_between s r) (sym (drop_all end xs past))) (cases_lt end (length xs))

-- the last word begins after the separator before index `start`, or with the text
pub words_between_last : (s : ℕ) (xs : List ℕ) (start : ℕ) → start < length xs
    → ((k : ℕ) → start ≤ k → k < length xs → get_or xs k 0 ≢ s) → (0 < start → get_or xs (start - 1) 0 ≡ s)
    → words_between s xs ≡ words_between s (take start xs) ++ drop start xs ∷ []
words_between_last s xs start within other begins =
    let word : All (λ b. b ≢ s) (drop start xs) = All-from_get_or (λ b. b ≢ s) (drop start xs) 0
    (λ k h. subst (λ b. b ≢ s) (sym (get_or-drop start xs k 0))
    (other (start + k) (omega arith) (omega (arith, length-drop start xs)))) in
    let one = words_between_one s (drop start xs) (omega (arith, length-drop start xs)) word in
    ⊎_elim (λ inside.
    let before : start - 1 < length xs = omega arith in
    let back : start - 1 + 1 ≡ start = omega arith in
    let front : take start xs ≡ take (start - 1) xs ++ s ∷ [] = ap (λ n. take n xs) (sym back)
    ∙ take_more xs (start - 1) 0 before ∙ ap (λ b. take (start - 1) xs ++ b ∷ []) (begins inside) in
    let rest : drop (start - 1) xs ≡ s ∷ drop start xs = drop_more xs (start - 1) 0 before
    ∙ (λ i. begins inside i ∷ drop (back i) xs) in
    let front_words : words_between s (take start xs)
    ≡ words_between s (take (start - 1) xs) = ap (words_between s) front
    ∙ words_between-append s (take (start - 1) xs) [] ∙ append-nil (words_between s (take (start - 1) xs)) in
    ap (words_between s) (sym (take-append-drop (start - 1) xs))
    ∙ ap (λ r. words_between s (take (start - 1) xs ++ r)) rest
    ∙ words_between-append s (take (start - 1) xs) (drop start xs) ∙ (λ i. sym front_words i ++ one i)) (λ at_start.
    let zero : start ≡ 0 = omega arith in
    subst (λ n. words_between s (drop n xs) ≡ drop n xs ∷ []
    → words_between s xs ≡ words_between s (take n xs) ++ drop n xs ∷ []) (sym zero) (λ e. e) one) (cases_lt 0 start)

-- a text ends in a slash where its last byte is one
pub ends_in_slash_at : (xs : List ℕ) → ends_in_slash xs ≡ (get_or xs (length xs - 1) 0 == 47)
ends_in_slash_at [] = refl
ends_in_slash_at (x ∷ []) = refl
ends_in_slash_at (x ∷ y ∷ xs) = ends_in_slash_at (y ∷ xs) ∙ ap (λ b. b == 47) (
    let first : length (y ∷ xs) - 1 ≡ length xs = omega arith in
    let second : length (x ∷ y ∷ xs) - 1 ≡ length (y ∷ xs) = omega arith in
    ap (λ n. get_or (y ∷ xs) n 0) first ∙ sym (ap (λ n. get_or (x ∷ y ∷ xs) n 0) second))
