-- What a token's bytes spell: runs of bytes that stand for themselves, and escapes.
use Rattle.std.proofs.Common.{◌≡◌, ◌+◌, ◌*◌, ◌<◌, ◌&&◌, ◌∷◌, ◌++◌, ◌∙◌, ℕ, suc, Bool, true, false, cond, eqb, leb, nat_eq, List, [], codes, length, take, drop, Option, Some, None, option_map, slice_index, MatchOption, subst, All, IsTrue, refl, sym, ap, arith, append_assoc, append-nil}
use Rattle.vt_spec.proofs.Common.{AfterBackslash, Between, Failed, is_plain, pointwise}
use Rattle.vt_spec.specs.Language.Script.{after_first_digit, after_second_digit, hex_value, spelled, with_completed}
use Rattle.vt_spec.specs.Language.Script.Reading.{AfterX}
use Rattle.vt_line.proofs.TokenLemmas.{not_escape, plain-step, read_before}

-- nothing mends a fault
failed : (bytes : List ℕ) → spelled Failed bytes ≡ None
failed [] = refl
failed (byte ∷ bytes) = failed bytes

-- a run of bytes that stand for themselves
joined : (byte : ℕ) (bytes : List ℕ) (rest : Option (List ℕ))
    → option_map (λ rest. byte ∷ rest) (option_map (λ rest. bytes ++ rest) rest) ≡ option_map (λ rest. byte ∷ bytes ++ rest) rest
joined byte bytes None = refl
joined byte bytes (Some rest) = refl

same : (rest : Option (List ℕ)) → rest ≡ option_map (λ rest. [] ++ rest) rest
same None = refl
same (Some rest) = refl

pub spelled-run : (plain others : List ℕ) → All (λ byte. IsTrue (is_plain byte)) plain
    → spelled Between (plain ++ others) ≡ option_map (λ bytes. plain ++ bytes) (spelled Between others)
spelled-run [] others all = same (spelled Between others)
spelled-run (byte ∷ bytes) others all =
    let first : is_plain byte ≡ true = all 0 0 (omega arith) in
    plain-step (is_plain byte) (eqb byte 92) byte (bytes ++ others) first
    (not_escape (leb 33 byte) (leb byte 126) (eqb byte 92) first)
    ∙ ap (option_map (λ rest. byte ∷ rest)) (spelled-run bytes others (λ k d lt. all (suc k) d (omega arith)))
    ∙ joined byte bytes (spelled Between others)

-- what stands for no byte by itself begins an escape, or spells nothing
backslash-first : (a b : Bool) (second : ℕ) (rest : List ℕ) → eqb second 120 ≡ b
    → spelled (cond a AfterBackslash Failed) (second ∷ rest) ≡ cond (a && (b && true)) (spelled AfterX rest) None
backslash-first true true second rest e = ap (λ is_x. spelled (cond is_x AfterX Failed) rest) e
backslash-first true false second rest e = ap (λ is_x. spelled (cond is_x AfterX Failed) rest) e ∙ failed rest
backslash-first false b second rest e = failed rest

backslash-alone : (a : Bool) → spelled (cond a AfterBackslash Failed) [] ≡ cond (a && false) (spelled AfterX []) None
backslash-alone true = refl
backslash-alone false = refl

pub spelled-escape : (text : List ℕ) → 0 < length text → is_plain (slice_index text 0) ≡ false
    → spelled Between text ≡ cond (pointwise nat_eq (take 2 text) (codes "\\x")) (spelled AfterX (drop 2 text)) None
spelled-escape [] some other = absurd (omega arith)
spelled-escape (first ∷ []) some other =
    ap (λ plain. with_completed (cond plain (Some first) None)
    (spelled (cond (eqb first 92) AfterBackslash (cond plain Between Failed)) [])) other
    ∙ backslash-alone (eqb first 92)
spelled-escape (first ∷ second ∷ rest) some other =
    ap (λ plain. with_completed (cond plain (Some first) None)
    (spelled (cond (eqb first 92) AfterBackslash (cond plain Between Failed)) (second ∷ rest))) other
    ∙ backslash-first (eqb first 92) (eqb second 120) second rest refl

-- two digits
pub no_digits : (text : List ℕ) → length text ≡ 0 → spelled AfterX text ≡ None
no_digits [] e = refl
no_digits (byte ∷ bytes) e = absurd (omega (arith, e))

pub no_high : (high : ℕ) (rest : List ℕ) → hex_value high ≡ None → spelled AfterX (high ∷ rest) ≡ None
no_high high rest e = ap (λ digit. spelled (after_first_digit digit) rest) e ∙ failed rest

pub high_alone : (high digit : ℕ) (rest : List ℕ) → hex_value high ≡ Some digit → length rest ≡ 0
    → spelled AfterX (high ∷ rest) ≡ None
high_alone high digit [] e none = ap (λ digit. spelled (after_first_digit digit) []) e
high_alone high digit (byte ∷ bytes) e none = absurd (omega (arith, none))

pub no_low : (high digit low : ℕ) (rest : List ℕ) → hex_value high ≡ Some digit → hex_value low ≡ None
    → spelled AfterX (high ∷ low ∷ rest) ≡ None
no_low high digit low rest e f = ap (λ digit. spelled (after_first_digit digit) (low ∷ rest)) e
    ∙ ap (λ found. with_completed (option_map (λ low. 16 * digit + low) found)
    (spelled (after_second_digit found) rest)) f
    ∙ failed rest

pub two_digits : (high digit low ones : ℕ) (rest : List ℕ) → hex_value high ≡ Some digit → hex_value low ≡ Some ones
    → spelled AfterX (high ∷ low ∷ rest) ≡ option_map (λ bytes. (16 * digit + ones) ∷ bytes) (spelled Between rest)
two_digits high digit low ones rest e f = ap (λ digit. spelled (after_first_digit digit) (low ∷ rest)) e
    ∙ ap (λ found. with_completed (option_map (λ low. 16 * digit + low) found)
    (spelled (after_second_digit found) rest)) f

-- where nothing is returned, nothing is spelled
pub nothing_spelled : {A : Type 0} {given : Option A} (P : Type 0) (Q : A → Type 0) → given ≡ None → P
    → MatchOption given P Q
nothing_spelled P Q e holds = subst (λ given. MatchOption given P Q) (sym e) holds

-- what was read, a run, and the byte of an escape
read_before-run : (before run : List ℕ) (rest : Option (List ℕ))
    → read_before (before ++ run) rest ≡ read_before before (option_map (λ bytes. run ++ bytes) rest)
read_before-run before run None = refl
read_before-run before run (Some rest) = ap Some (append_assoc before run rest)

pub read_before-byte : (before : List ℕ) (byte : ℕ) (rest : Option (List ℕ))
    → read_before (before ++ byte ∷ []) rest ≡ read_before before (option_map (λ bytes. byte ∷ bytes) rest)
read_before-byte before byte rest = read_before-run before (byte ∷ []) rest

pub read-run : (before plain others rest : List ℕ) → plain ++ others ≡ rest → All (λ byte. IsTrue (is_plain byte)) plain
    → read_before before (spelled Between rest) ≡ read_before (before ++ plain) (spelled Between others)
read-run before plain others rest whole all = ap (λ rest. read_before before (spelled Between rest)) (sym whole)
    ∙ ap (read_before before) (spelled-run plain others all)
    ∙ sym (read_before-run before plain (spelled Between others))

-- the same where nothing comes after the run
pub read-last : (before plain others rest : List ℕ) → plain ++ others ≡ rest → All (λ byte. IsTrue (is_plain byte)) plain
    → length others ≡ 0 → read_before before (spelled Between rest) ≡ Some (before ++ plain)
read-last before plain [] rest whole all none =
    read-run before plain [] rest whole all ∙ ap Some (append-nil (before ++ plain))
read-last before plain (byte ∷ bytes) rest whole all none = absurd (omega (arith, none))
