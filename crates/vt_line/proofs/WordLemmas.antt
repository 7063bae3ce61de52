-- Task names and capabilities.
use Rattle.std.proofs.Common.{◌≡◌, ℕ, zero, suc, Bool, true, false, cond, List, [], ◌∷◌, codes, drop, is_some, IfSome, IsSome, length, Option, Some, None, option_map, refl, sym, ap, ◌∙◌, arith, nat_eq, eqb, leb, ltb, ◌≤◌, ◌<◌, ◌&&◌, subst, lit<, ltb-true, bytes_eq, IsUtf8, IsAscii}
use Rattle.vt_spec.proofs.Common.{and_parts, bytes_eq-Decides, capabilities_word, capability_named, child_number, cond-None, each_of, false≢true, groups_word, identity_word, is_empty_list, list_all, nat_tests, parts, pointwise, task_word, with_first}
use Rattle.std.specs.Bool.{then_some}
use Rattle.std.specs.Int.Bits.{bit_or, or_zero_l}
use Rattle.std.proofs.lemmas.Nat.Bits.{bit_at_or, same_from_bits}
use Rattle.std.proofs.lemmas.Str.{IsUtf8-from_ascii}
use Rattle.bitflags.specs.Sets.{find_row, find_name}
use Rattle.vt_cred.specs.Caps.{capability_table}
use Rattle.vt_spec.specs.Language.Calls.CapabilityWord.{These}
use Rattle.vt_spec.specs.Language.Script.{name_of_parts, union}
use Rattle.vt_line.specs.Tokens.{cut}

-- a task's name by its first part
pub task_word-other : (text first : List ℕ) (rest : List (List ℕ)) → parts 46 text ≡ first ∷ rest → bytes_eq first (codes "t") ≡ false → task_word text ≡ None
task_word-other text first rest e other = ap name_of_parts e
    ∙ ap (λ same. cond same (each_of child_number rest) None) other

pub task_word-children : (text first : List ℕ) (rest : List (List ℕ)) → parts 46 text ≡ first ∷ rest → bytes_eq first (codes "t") ≡ true → task_word text ≡ each_of child_number rest
task_word-children text first rest e same = ap name_of_parts e
    ∙ ap (λ same. cond same (each_of child_number rest) None) same

-- the first task has no number
pub first_task : (text : List ℕ) → bytes_eq text (codes "t") ≡ true → task_word text ≡ Some []
first_task text same = ap task_word ((bytes_eq-Decides text (codes "t")).0 same)

task_some : (words : List (List ℕ)) → is_some (name_of_parts words) ≡ true
    → name_of_parts words ≡ each_of child_number (drop 1 words)
task_some [] e = cc
task_some (first ∷ rest) e = by_test (bytes_eq first (codes "t")) e where
  by_test : (test : Bool) → is_some (cond test (each_of child_number rest) None) ≡ true
      → cond test (each_of child_number rest) None ≡ each_of child_number rest
  by_test true e = refl
  by_test false e = cc

pub task_word-some : (text : List ℕ) → is_some (task_word text) ≡ true
    → task_word text ≡ each_of child_number (drop 1 (parts 46 text))
task_word-some text e = task_some (parts 46 text) e

-- a task that is known from its word is named by it
pub task_word-known : (text : List ℕ) (known : Option (List ℕ)) → is_some known ≡ true
    → IfSome known (λ name. task_word text ≡ Some name) → (name : List ℕ) × (task_word text ≡ Some name)
task_word-known text None e named = cc
task_word-known text (Some name) e named = (name, named)

-- the sets of bits that a list unites, one after another
or_assoc : (a b c : ℕ) → bit_or (bit_or a b) c ≡ bit_or a (bit_or b c)
or_assoc a b c = same_from_bits (bit_or (bit_or a b) c) (bit_or a (bit_or b c)) (λ place.
    let outer = bit_at_or (bit_or a b) c place in
    let inner = bit_at_or a b place in
    let outer' = bit_at_or a (bit_or b c) place in
    let inner' = bit_at_or b c place in
    omega arith)

-- the sets so far and those of the rest, if they can be read
abbrev pub united : ℕ → Option (List ℕ) → Option ℕ
united caps None = None
united caps (Some sets) = Some (bit_or caps (union sets))

pub united-more : (caps set : ℕ) (rest : Option (List ℕ))
    → united (bit_or caps set) rest ≡ united caps (with_first (Some set) rest)
united-more caps set None = refl
united-more caps set (Some sets) = ap Some (or_assoc caps set (union sets))

these-united : (sets : Option (List ℕ))
    → option_map (λ sets. These (union sets)) sets ≡ option_map These (united 0 sets)
these-united None = refl
these-united (Some sets) = ap (λ bits. Some (These bits)) (sym (or_zero_l (union sets)))

pub capabilities_word-names : (text : List ℕ) → bytes_eq text (codes "-") ≡ false → bytes_eq text (codes "*") ≡ false
    → capabilities_word text ≡ option_map These (united 0 (each_of capability_named (parts 44 text)))
capabilities_word-names text none held = rw none (rw held (these-united (each_of capability_named (parts 44 text))))

-- The names of capabilities are those of the table.
eqb_comm : (a b : ℕ) → eqb a b ≡ eqb b a
eqb_comm a b = grind (arith, nat_tests)

pointwise-flip : (xs ys : List ℕ) → pointwise nat_eq xs ys ≡ pointwise nat_eq ys xs
pointwise-flip [] [] = refl
pointwise-flip [] (y ∷ ys) = refl
pointwise-flip (x ∷ xs) [] = refl
pointwise-flip (x ∷ xs) (y ∷ ys) =
    ap (λ first. first && pointwise nat_eq xs ys) (eqb_comm x y) ∙ ap (λ rest. eqb y x && rest) (pointwise-flip xs ys)

named_or : (a b : Bool) (set : ℕ) (rest rest' : Option ℕ) → a ≡ b → rest ≡ rest'
    → cond a (Some set) rest ≡ cond b (Some set) rest'
named_or a b set rest rest' e f = cc

some_bytes : (n : ℕ) → eqb (suc n) 0 ≡ false
some_bytes n = grind (arith, nat_tests)

pub find_name-capability : (name : List ℕ) → find_name capability_table name ≡ capability_named name
unfolding find_row
find_name-capability [] = refl
find_name-capability (byte ∷ bytes) =
    let name = byte ∷ bytes in
    ap (λ empty. cond empty None (find_row capability_table name)) (some_bytes (length bytes))
    ∙ named_or _ _ 1 _ _ (pointwise-flip (codes "CAP_CHOWN") name)
    (named_or _ _ 2 _ _ (pointwise-flip (codes "CAP_DAC_OVERRIDE") name)
    (named_or _ _ 4 _ _ (pointwise-flip (codes "CAP_DAC_READ_SEARCH") name)
    (named_or _ _ 8 _ _ (pointwise-flip (codes "CAP_FOWNER") name)
    (named_or _ _ 16 _ _ (pointwise-flip (codes "CAP_SETGID") name)
    (named_or _ _ 32 _ _ (pointwise-flip (codes "CAP_SETUID") name)
    (named_or _ _ 64 _ _ (pointwise-flip (codes "CAP_SYS_CHROOT") name)
    (named_or _ _ 128 _ _ (pointwise-flip (codes "CAP_SYS_ADMIN") name) refl)))))))

none_or : (a : Bool) (set : ℕ) (rest : Option ℕ) → a ≡ false → rest ≡ None → cond a (Some set) rest ≡ None
none_or true set rest e f = cc
none_or false set rest e f = f

not_the_name : (name other : List ℕ) → (IsUtf8 name → ⊥) → IsUtf8 other → bytes_eq name other ≡ false
not_the_name name other not_text is_text = by_test (bytes_eq name other) refl where
  by_test : (same : Bool) → bytes_eq name other ≡ same → same ≡ false
  by_test false e = refl
  by_test true e = absurd (not_text (subst IsUtf8 (sym ((bytes_eq-Decides name other).0 e)) is_text))

ascii-all : (text : List ℕ) → list_all (λ byte. ltb byte 128) text ≡ true → IsAscii text
ascii-all [] e i = lit< tt
ascii-all (byte ∷ bytes) e zero = ltb-true _ _ (and_parts (ltb byte 128) _ e).0
ascii-all (byte ∷ bytes) e (suc i) = ascii-all bytes (and_parts (ltb byte 128) _ e).1 i

ascii_text : (text : List ℕ) → list_all (λ byte. ltb byte 128) text ≡ true → IsUtf8 text
ascii_text text e = IsUtf8-from_ascii text (ascii-all text e)

pub capability_named-no_text : (name : List ℕ) → (IsUtf8 name → ⊥) → capability_named name ≡ None
capability_named-no_text name not_text =
    none_or _ 1 _ (not_the_name name (codes "CAP_CHOWN") not_text (ascii_text (codes "CAP_CHOWN") refl))
    (none_or _ 2 _ (not_the_name name (codes "CAP_DAC_OVERRIDE") not_text (ascii_text (codes "CAP_DAC_OVERRIDE") refl))
    (none_or _ 4 _ (not_the_name name (codes "CAP_DAC_READ_SEARCH") not_text (ascii_text (codes "CAP_DAC_READ_SEARCH") refl))
    (none_or _ 8 _ (not_the_name name (codes "CAP_FOWNER") not_text (ascii_text (codes "CAP_FOWNER") refl))
    (none_or _ 16 _ (not_the_name name (codes "CAP_SETGID") not_text (ascii_text (codes "CAP_SETGID") refl))
    (none_or _ 32 _ (not_the_name name (codes "CAP_SETUID") not_text (ascii_text (codes "CAP_SETUID") refl))
    (none_or _ 64 _ (not_the_name name (codes "CAP_SYS_CHROOT") not_text (ascii_text (codes "CAP_SYS_CHROOT") refl))
    (none_or _ 128 _ (not_the_name name (codes "CAP_SYS_ADMIN") not_text (ascii_text (codes "CAP_SYS_ADMIN") refl)) refl)))))))

-- groups by the number and the reading of their parts
pub groups_word-parts : (text : List ℕ) → bytes_eq text (codes "-") ≡ false
    → groups_word text ≡ cond (leb (length (parts 44 text)) 32) (each_of identity_word (parts 44 text)) None
groups_word-parts text some = rw some refl

pub groups_word-few : (text : List ℕ) → bytes_eq text (codes "-") ≡ false
    → length (parts 44 text) ≤ 32 → groups_word text ≡ each_of identity_word (parts 44 text)
groups_word-few text some few =
    let test : leb (length (parts 44 text)) 32 ≡ true = grind (arith, nat_tests) in
    groups_word-parts text some ∙ ap (λ test. cond test (each_of identity_word (parts 44 text)) None) test

pub groups_word-many : (text : List ℕ) → bytes_eq text (codes "-") ≡ false → 32 < length (parts 44 text) → groups_word text ≡ None
groups_word-many text some many =
    let test : leb (length (parts 44 text)) 32 ≡ false = grind (arith, nat_tests) in
    groups_word-parts text some ∙ ap (λ test. cond test (each_of identity_word (parts 44 text)) None) test

pub groups_word-wrong : (text : List ℕ) → bytes_eq text (codes "-") ≡ false → each_of identity_word (parts 44 text) ≡ None → groups_word text ≡ None
groups_word-wrong text some wrong = groups_word-parts text some
    ∙ cond-None (leb (length (parts 44 text)) 32) (each_of identity_word (parts 44 text)) wrong

-- words end where none is left
pub words_end : {A : Type 0} (left : List A) (ended : Option (Unit {0})) → ended ≡ then_some (is_empty_list left) tt
    → (IsSome ended → left ≡ []) × (left ≡ [] → IsSome ended)
words_end [] ended is = (λ some. refl, λ none. ap is_some is)
words_end (word ∷ rest) ended is = (λ some. absurd (false≢true (ap is_some (sym is) ∙ some)), λ none. cc)

-- and of texts behind one another none is left where no size is
pub cut_end : (bytes sizes : List ℕ) → eqb (length sizes) 0 ≡ is_empty_list (cut bytes sizes)
cut_end bytes [] = refl
cut_end bytes (size ∷ sizes) = grind (arith, nat_tests)
