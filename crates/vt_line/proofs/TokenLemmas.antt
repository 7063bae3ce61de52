-- Tokens, read from left to right.
use Rattle.std.proofs.Common.{◌≡◌, ℕ, ◌+◌, ◌-◌, ◌≤◌, ◌<◌, eqb, leb, Bool, true, false, not, cond, ◌&&◌, ◌||◌, List, [], ◌∷◌, ◌++◌, codes, length, filter, take, drop, sum, Option, Some, None, option_map, refl, sym, subst, add-zero, zero-add, add_assoc, ap, ◌∙◌, arith, lit≤, length-drop, append_assoc, take_all, find, sum_by, bytes_eq}
use Rattle.vt_spec.proofs.Common.{AfterBackslash, Between, Failed, and_parts, bytes_eq-Decides, cond-None, each_of, false≢true, is_empty, is_plain, is_silent, list_all, nat_tests, option_map_or, parts, raw_tokens, sum_by-cons, take-append-le, token_text, with_byte, with_first}
use Rattle.std.proofs.lemmas.List.{drop-append-le, drop-drop, drop-take, take-append-drop}
use Rattle.std.proofs.lemmas.List.Folds.{list_all-append}
use Rattle.std.proofs.lemmas.Iterator.{YieldsList}
use Rattle.std.specs.List.{slice_split, onto_first}
use Rattle.vt_spec.specs.Language.Script.{is_silent_token, spelled, with_completed}
use Rattle.vt_line.specs.Tokens.{cut, few_texts}

-- the parts of a text are those of a split
with_byte-onto_first : (byte : ℕ) (texts : List (List ℕ)) → with_byte false byte texts ≡ onto_first byte texts
with_byte-onto_first byte [] = refl
with_byte-onto_first byte (part ∷ rest) = refl

with_byte-cond : (t : Bool) (byte : ℕ) (texts : List (List ℕ))
    → with_byte t byte texts ≡ cond t ([] ∷ texts) (onto_first byte texts)
with_byte-cond true byte texts = refl
with_byte-cond false byte texts = with_byte-onto_first byte texts

pub parts-split : (separator : ℕ) (text : List ℕ) → parts separator text ≡ slice_split (λ byte. eqb byte separator) text
parts-split separator [] = refl
parts-split separator (byte ∷ bytes) = with_byte-cond (eqb byte separator) byte (parts separator bytes)
    ∙ ap (λ rest. cond (eqb byte separator) ([] ∷ rest) (onto_first byte rest)) (parts-split separator bytes)

-- a line is silent by its first byte that is no space
silent_after : (is_space : Bool) (byte : ℕ) (texts : List (List ℕ)) →
    is_silent_token (filter (λ part. not (is_empty part)) (with_byte is_space byte texts))
    ≡ cond is_space (is_silent_token (filter (λ part. not (is_empty part)) texts)) (eqb byte 35)
silent_after true byte texts = refl
silent_after false byte [] = refl
silent_after false byte (part ∷ rest) = refl

find-cons : (t : Bool) (byte : ℕ) (rest : Option ℕ)
    → cond t (option_map_or (λ first. eqb first 35) rest true) (eqb byte 35)
    ≡ option_map_or (λ first. eqb first 35) (cond (not t) (Some byte) rest) true
find-cons true byte rest = refl
find-cons false byte rest = refl

pub is_silent-first : (line : List ℕ)
    → is_silent line ≡ option_map_or (λ first. eqb first 35) (find (λ byte. not (eqb byte 32)) line) true
is_silent-first [] = refl
is_silent-first (byte ∷ bytes) = silent_after (eqb byte 32) byte (parts 32 bytes)
    ∙ ap (λ rest. cond (eqb byte 32) rest (eqb byte 35)) (is_silent-first bytes)
    ∙ find-cons (eqb byte 32) byte (find (λ byte. not (eqb byte 32)) bytes)

-- what was read, and then the rest, if it can be read
abbrev pub read_before : {A : Type 0} → List A → Option (List A) → Option (List A)
read_before before rest = option_map (λ after. before ++ after) rest

pub read_before-first : {A : Type 0} (before : List A) (a : A) (rest : Option (List A))
    → read_before (before ++ a ∷ []) rest ≡ read_before before (with_first (Some a) rest)
read_before-first before a None = refl
read_before-first before a (Some after) = ap Some (append_assoc before (a ∷ []) after)

-- the tokens of a line are the parts that are not empty
no_bytes : (part : List ℕ) → eqb (length part) 0 ≡ is_empty part
no_bytes [] = refl
no_bytes (byte ∷ bytes) = grind (arith, nat_tests)

filter-same : (parts : List (List ℕ))
    → filter (λ part. not (eqb (length part) 0)) parts ≡ filter (λ part. not (is_empty part)) parts
filter-same [] = refl
filter-same (part ∷ rest) = ap (λ empty. cond (not empty) (part ∷ filter (λ part. not (eqb (length part) 0)) rest)
    (filter (λ part. not (eqb (length part) 0)) rest)) (no_bytes part)
    ∙ ap (λ kept. cond (not (is_empty part)) (part ∷ kept) kept) (filter-same rest)

pub YieldsList-tokens : {S A : Type 0} {steps : S → Option A → S → Type 0} {v : A → List ℕ} {s : S} (line : List ℕ)
    → YieldsList steps v s (filter (λ part. not (eqb (length part) 0)) (slice_split (λ byte. eqb byte 32) line))
    → YieldsList steps v s (raw_tokens line)
YieldsList-tokens line road = rw (← filter-same (parts 32 line), parts-split) road

-- what a test for an empty slice says
pub some-length : {r : Bool} (n : ℕ) → r ≡ eqb n 0 → r ≡ false → 0 < n
some-length n e t = grind (arith, nat_tests)

-- tokens are no longer than their line
with_byte-length : (test : Bool) (byte : ℕ) (texts : List (List ℕ)) →
    sum_by length (filter (λ part. not (is_empty part)) (with_byte test byte texts))
    ≤ sum_by length (filter (λ part. not (is_empty part)) texts) + 1
with_byte-length true byte texts = omega arith
with_byte-length false byte [] = lit≤ tt
with_byte-length false byte ([] ∷ rest) =
    let first = sum_by-cons length (byte ∷ []) (filter (λ part. not (is_empty part)) rest) in
    omega (arith, first)
with_byte-length false byte ((first ∷ part) ∷ rest) =
    let others = filter (λ part. not (is_empty part)) rest in
    omega (arith, sum_by-cons length (byte ∷ first ∷ part) others, sum_by-cons length (first ∷ part) others)

pub tokens-length : (line : List ℕ) → sum_by length (raw_tokens line) ≤ length line
tokens-length [] = lit≤ tt
tokens-length (byte ∷ bytes) =
    let rest = tokens-length bytes in
    let first = with_byte-length (eqb byte 32) byte (parts 32 bytes) in
    omega arith

-- a token without escapes is its own text
abbrev pub all_plain : List ℕ → Bool
all_plain text = list_all is_plain text

pub plain-step : (plain escape : Bool) (byte : ℕ) (bytes : List ℕ) → plain ≡ true → escape ≡ false
    → with_completed (cond plain (Some byte) None)
    (spelled (cond escape AfterBackslash (cond plain Between Failed)) bytes)
    ≡ option_map (λ rest. byte ∷ rest) (spelled Between bytes)
plain-step true false byte bytes e f = refl
plain-step true true byte bytes e f = cc
plain-step false escape byte bytes e f = cc

pub not_escape : (a b escape : Bool) → (a && b && not escape) ≡ true → escape ≡ false
not_escape a b false e = refl
not_escape true true true e = cc
not_escape true false true e = cc
not_escape false b true e = cc

plain-spelled : (token : List ℕ) → all_plain token ≡ true → spelled Between token ≡ Some token
plain-spelled [] e = refl
plain-spelled (byte ∷ bytes) e =
    let parts = and_parts (is_plain byte) (all_plain bytes) e in
    plain-step (is_plain byte) (eqb byte 92) byte bytes parts.0
    (not_escape (leb 33 byte) (leb byte 126) (eqb byte 92) parts.0)
    ∙ ap (option_map (λ rest. byte ∷ rest)) (plain-spelled bytes parts.1)

plain-text : (token : List ℕ) → all_plain token ≡ true → token_text token ≡ Some token
plain-text token e = by_test (bytes_eq token (codes "\\e")) refl where
  by_test : (test : Bool) → bytes_eq token (codes "\\e") ≡ test → cond test (Some []) (spelled Between token) ≡ Some token
  by_test false f = plain-spelled token e
  by_test true f =
      absurd (false≢true (subst (λ text. all_plain text ≡ true) ((bytes_eq-Decides token (codes "\\e")).0 f) e))

plain-parts : (is_space : Bool) (byte : ℕ) (texts : List (List ℕ)) → list_all all_plain texts ≡ true
    → (is_space || is_plain byte) ≡ true → list_all all_plain (with_byte is_space byte texts) ≡ true
plain-parts true byte texts e f = e
plain-parts false byte [] e f = ap (λ plain. (plain && true) && true) f
plain-parts false byte (part ∷ rest) e f =
    let parts = and_parts (all_plain part) (list_all all_plain rest) e in
    ap (λ plain. (plain && all_plain part) && list_all all_plain rest) f
    ∙ ap (λ plain. (true && plain) && list_all all_plain rest) parts.0 ∙ parts.1

line-parts : (line : List ℕ) → list_all (λ byte. eqb byte 32 || is_plain byte) line ≡ true
    → list_all all_plain (parts 32 line) ≡ true
line-parts [] e = refl
line-parts (byte ∷ bytes) e =
    let halves = and_parts (eqb byte 32 || is_plain byte) (list_all (λ byte. eqb byte 32 || is_plain byte) bytes) e in
    plain-parts (eqb byte 32) byte (parts 32 bytes) (line-parts bytes halves.1) halves.0

plain-texts : (texts : List (List ℕ)) → list_all all_plain texts ≡ true
    → each_of token_text (filter (λ part. not (is_empty part)) texts)
    ≡ Some (filter (λ part. not (is_empty part)) texts)
plain-texts [] e = refl
plain-texts ([] ∷ rest) e = plain-texts rest e
plain-texts ((byte ∷ bytes) ∷ rest) e =
    let halves = and_parts (all_plain (byte ∷ bytes)) (list_all all_plain rest) e in
    ap (λ first. with_first first (each_of token_text (filter (λ part. not (is_empty part)) rest)))
    (plain-text (byte ∷ bytes) halves.0) ∙ ap (with_first (Some (byte ∷ bytes))) (plain-texts rest halves.1)

pub plain-tokens : (line : List ℕ) → list_all (λ byte. eqb byte 32 || is_plain byte) line ≡ true
    → each_of token_text (raw_tokens line) ≡ Some (raw_tokens line)
plain-tokens line e = plain-texts (parts 32 line) (line-parts line e)

-- the texts of a line by the number of its tokens
pub few_texts-few : (line : List ℕ) → length (raw_tokens line) ≤ 66
    → few_texts line ≡ each_of token_text (raw_tokens line)
few_texts-few line few =
    let test : leb (length (raw_tokens line)) 66 ≡ true = grind (arith, nat_tests) in
    ap (λ test. cond test (each_of token_text (raw_tokens line)) None) test

pub few_texts-many : (line : List ℕ) → 66 < length (raw_tokens line) → few_texts line ≡ None
few_texts-many line many =
    let test : leb (length (raw_tokens line)) 66 ≡ false = grind (arith, nat_tests) in
    ap (λ test. cond test (each_of token_text (raw_tokens line)) None) test

pub few_texts-wrong : (line : List ℕ) → each_of token_text (raw_tokens line) ≡ None → few_texts line ≡ None
few_texts-wrong line wrong = cond-None (leb (length (raw_tokens line)) 66) (each_of token_text (raw_tokens line)) wrong

-- a token that stands alone: its one text, and that it is as long as its line at most
pub few_texts-token : (token : List ℕ) → raw_tokens token ≡ token ∷ []
    → few_texts token ≡ with_first (token_text token) (Some [])
few_texts-token token alone = few_texts-few token (omega (arith, ap length alone)) ∙ ap (each_of token_text) alone

pub token-length : (line token : List ℕ) (rest : List (List ℕ)) → raw_tokens line ≡ token ∷ rest
    → length token ≤ length line
token-length line token rest first =
    let all : sum_by length (raw_tokens line) ≡ length token + sum_by length rest = ap (sum_by length) first
    ∙ sum_by-cons length token rest in
    omega (arith, all, tokens-length line)

pub one_text : (text : Option (List ℕ)) (texts : List (List ℕ)) → Some texts ≡ with_first text (Some [])
    → (bytes : List ℕ) × (text ≡ Some bytes) × (texts ≡ bytes ∷ [])
one_text None texts e = cc
one_text (Some bytes) texts e = (bytes, refl, cc)

pub no_text : (text : Option (List ℕ)) → None ≡ with_first text (Some []) → text ≡ None
no_text None e = refl
no_text (Some bytes) e = cc

-- the sum of sizes
pub sum-cons : (size : ℕ) (sizes : List ℕ) → sum (size ∷ sizes) ≡ size + sum sizes
sum-cons size sizes = sum_by-cons (λ size. size) size sizes

pub sum-push : (sizes : List ℕ) (size : ℕ) → sum (sizes ++ size ∷ []) ≡ sum sizes + size
sum-push [] size = sum-cons size [] ∙ add-zero size ∙ sym (zero-add size)
sum-push (first ∷ sizes) size = sum-cons first (sizes ++ size ∷ []) ∙ ap (λ rest. first + rest) (sum-push sizes size)
    ∙ sym (add_assoc first (sum sizes) size) ∙ ap (λ all. all + size) (sym (sum-cons first sizes))

-- one text more behind the others
pub cut-push : (bytes text sizes : List ℕ) → sum sizes ≡ length bytes
    → cut (bytes ++ text) (sizes ++ length text ∷ []) ≡ cut bytes sizes ++ text ∷ []
cut-push [] text [] e = ap (λ front. front ∷ []) (take_all (length text) text (omega arith))
cut-push (byte ∷ bytes) text [] e = absurd (omega arith)
cut-push bytes text (size ∷ sizes) e =
    let whole : size + sum sizes ≡ length bytes = sym (sum-cons size sizes) ∙ e in
    let within : size ≤ length bytes = omega (arith, whole) in
    let rest : sum sizes ≡ length (drop size bytes) = omega (arith, whole, length-drop size bytes) in
    ap (λ first. first ∷ cut (drop size (bytes ++ text)) (sizes ++ length text ∷ []))
    (take-append-le size bytes text within)
    ∙ ap (λ left. take size bytes ∷ cut left (sizes ++ length text ∷ [])) (drop-append-le size bytes text within)
    ∙ ap (λ others. take size bytes ∷ others) (cut-push (drop size bytes) text sizes rest)

-- a text that was appended
pub appended : (new old : List ℕ) (text : Option (List ℕ)) → Some new ≡ option_map (λ bytes. old ++ bytes) text
    → (bytes : List ℕ) × (text ≡ Some bytes) × (new ≡ old ++ bytes)
appended new old None e = cc
appended new old (Some bytes) e = (bytes, refl, cc)

pub not_appended : (old : List ℕ) (text : Option (List ℕ)) → None ≡ option_map (λ bytes. old ++ bytes) text
    → text ≡ None
not_appended old None e = refl
not_appended old (Some bytes) e = cc

-- nothing was read yet
pub read_before-nothing : {A : Type 0} (rest : Option (List A)) → read_before [] rest ≡ rest
read_before-nothing None = refl
read_before-nothing (Some rest) = refl

and-repeated : (a b c : Bool) → ((a && b) && (b && c)) ≡ ((a && b) && c)
and-repeated true true c = refl
and-repeated true false c = refl
and-repeated false b c = refl

-- the elements of a front, and those from a place in it on
list_all-shared : {A : Type 0} (p : A → Bool) (xs : List A) (i j : ℕ)
    → (list_all p (take (i + j) xs) && list_all p (drop i xs)) ≡ list_all p xs
list_all-shared p xs i j =
    let front = take (i + j) xs in
    let back = drop (i + j) xs in
    let behind = drop i xs in
    let shared = take j behind in
    let fronts : list_all p front ≡ (list_all p (take i front) && list_all p shared) =
    ap (list_all p) (sym (take-append-drop i front)) ∙ list_all-append p (take i front) (drop i front)
    ∙ ap (λ l. list_all p (take i front) && list_all p l) (drop-take i j xs) in
    let backs : list_all p behind ≡ (list_all p shared && list_all p back) =
    ap (list_all p) (sym (take-append-drop j behind)) ∙ list_all-append p shared (drop j behind)
    ∙ ap (λ l. list_all p shared && list_all p l) (drop-drop j i xs) in
    let all : list_all p xs ≡ (list_all p front && list_all p back) =
    ap (list_all p) (sym (take-append-drop (i + j) xs)) ∙ list_all-append p front back in
    let three = and-repeated (list_all p (take i front)) (list_all p shared) (list_all p back) in
    cc

-- each element of a list passes where those of a front do, and those from a place in it on
pub list_all-covered : {A : Type 0} (p : A → Bool) (xs : List A) (i k : ℕ) → i ≤ k
    → (list_all p (take k xs) && list_all p (drop i xs)) ≡ list_all p xs
list_all-covered p xs i k low =
    let whole : i + (k - i) ≡ k = omega arith in
    subst (λ n. (list_all p (take n xs) && list_all p (drop i xs)) ≡ list_all p xs) whole
    (list_all-shared p xs i (k - i))
