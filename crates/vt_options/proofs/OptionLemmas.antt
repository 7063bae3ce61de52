-- The parts of a text, and paths among them.
use Rattle.std.proofs.Common.{◌≡◌, ◌≢◌, ℕ, zero, suc, ◌+◌, ◌<◌, Bool, true, false, codes, cond, eqb, ◌||◌, List, [], ◌∷◌, length, get_or, take, drop, Option, None, Some, option_map, refl, sym, ap, ◌∙◌, arith, eq-eqb, ne_eqb}
use Rattle.vt_spec.proofs.Common.{OverlayWords, each_of, folded, list_any, nat_tests, parts, path_word, then_some, with_byte, with_first}
use Rattle.vt_spec.specs.Language.Script.{OptionItem, behind, lower_item, option_item, with_item}
use Rattle.vt_spec.specs.Language.Script.OptionItem.{LowerItem}
use Rattle.vt_text.proofs.PathWords.{parts_some}

-- the first part ends at the first separator
parts-cut : (s : ℕ) (xs : List ℕ) (k : ℕ) → k < length xs → get_or xs k 0 ≡ s → ((j : ℕ) → j < k → get_or xs j 0 ≢ s)
    → parts s xs ≡ take k xs ∷ parts s (drop (suc k) xs)
parts-cut s [] k inside here before = absurd (omega arith)
parts-cut s (x ∷ xs) zero inside here before = ap (λ b. with_byte b x (parts s xs)) (eq-eqb x s here)
parts-cut s (x ∷ xs) (suc k) inside here before =
    ap (λ b. with_byte b x (parts s xs)) (ne_eqb x s (before 0 (omega arith)))
    ∙ ap (with_byte false x) (parts-cut s xs k (omega arith) here (λ j below. before (suc j) (omega arith)))

pub parts_first : (s : ℕ) (xs : List ℕ) (k : ℕ) → k < length xs → get_or xs k 0 ≡ s
    → ((j : ℕ) → j < k → get_or xs j 0 ≢ s) → parts s xs ≡ take k xs ∷ parts s (drop (k + 1) xs)
parts_first s xs k inside here before =
    let next : suc k ≡ k + 1 = omega arith in
    parts-cut s xs k inside here before ∙ ap (λ n. take k xs ∷ parts s (drop n xs)) next

-- all parts are paths, if there is no byte 0 in the text
first-longer : (zeroed within any : Bool) (byte : ℕ) (p : List ℕ) (others : Option (List (List ℕ)))
    (rest : List (List ℕ)) → with_first (cond within None (Some p)) others ≡ cond any None (Some (p ∷ rest))
    → with_first (cond (zeroed || within) None (Some (byte ∷ p))) others
    ≡ cond (zeroed || any) None (Some ((byte ∷ p) ∷ rest))
first-longer true within any byte p others rest e = refl
first-longer false true true byte p others rest e = refl
first-longer false true false byte p others rest e = absurd cc
first-longer false false true byte p None rest e = refl
first-longer false false false byte p None rest e = absurd cc
first-longer false false true byte p (Some o) rest e = absurd cc
first-longer false false false byte p (Some o) rest e = cc

first-empty : (any : Bool) (ps : List (List ℕ)) → each_of path_word ps ≡ cond any None (Some ps)
    → with_first (Some []) (each_of path_word ps) ≡ cond any None (Some ([] ∷ ps))
first-empty true ps e = ap (with_first (Some [])) e
first-empty false ps e = ap (with_first (Some [])) e

with_byte-paths : (cut : Bool) (byte : ℕ) (any : Bool) (ps : List (List ℕ))
    → (cut ≡ true → eqb byte 0 ≡ false) → ps ≢ [] → each_of path_word ps ≡ cond any None (Some ps)
    → each_of path_word (with_byte cut byte ps) ≡ cond (eqb byte 0 || any) None (Some (with_byte cut byte ps))
with_byte-paths true byte any ps other some e =
    first-empty any ps e ∙ ap (λ b. cond (b || any) None (Some ([] ∷ ps))) (sym (other refl))
with_byte-paths false byte any [] other some e = absurd (some refl)
with_byte-paths false byte any (p ∷ rest) other some e =
    first-longer (eqb byte 0) (list_any (λ b. eqb b 0) p) any byte p (each_of path_word rest) rest e

colon_is_a_byte : (byte : ℕ) → eqb byte 58 ≡ true → eqb byte 0 ≡ false
colon_is_a_byte byte e = grind (arith, nat_tests)

pub each_of-parts : (text : List ℕ)
    → each_of path_word (parts 58 text) ≡ cond (list_any (λ b. eqb b 0) text) None (Some (parts 58 text))
each_of-parts [] = refl
each_of-parts (byte ∷ bytes) =
    with_byte-paths (eqb byte 58) byte (list_any (λ b. eqb b 0) bytes) (parts 58 bytes) (colon_is_a_byte byte)
    (parts_some 58 bytes) (each_of-parts bytes)

-- so lower directories are the parts of a path
paths-lowers : (any : Bool) (text : List ℕ) → option_map LowerItem (cond any None (Some (parts 58 text)))
    ≡ option_map (λ path. LowerItem (parts 58 path)) (cond any None (Some text))
paths-lowers true text = refl
paths-lowers false text = refl

pub lower_item-there : (text paths : List ℕ) → behind (codes "lowerdir=") text ≡ Some paths
    → lower_item text ≡ option_map (λ path. LowerItem (parts 58 path)) (path_word paths)
lower_item-there text paths there =
    ap (λ found. then_some found (λ paths. option_map LowerItem (each_of path_word (parts 58 paths)))) there
    ∙ ap (option_map LowerItem) (each_of-parts paths) ∙ paths-lowers (list_any (λ b. eqb b 0) paths) paths

-- items are read one after another
abbrev pub left_of : OverlayWords → List (List ℕ) → Option OverlayWords
left_of words items = option_map (folded with_item words) (each_of option_item items)

pub items-refused : (words : OverlayWords) (items : List (List ℕ)) (item : List ℕ) (rest : List (List ℕ))
    → items ≡ item ∷ rest → None ≡ option_item item → None ≡ left_of words items
items-refused words items item rest cut none =
    ap (λ first. option_map (folded with_item words) (with_first first (each_of option_item rest))) none
    ∙ ap (left_of words) (sym cut)

first-folded : (words : OverlayWords) (item : OptionItem) (rest : Option (List OptionItem))
    → option_map (folded with_item (with_item words item)) rest
    ≡ option_map (folded with_item words) (with_first (Some item) rest)
first-folded words item None = refl
first-folded words item (Some rest) = refl

pub items-more : (words : OverlayWords) (items : List (List ℕ)) (item : List ℕ) (rest : List (List ℕ))
    (read : OptionItem)
    → items ≡ item ∷ rest → Some read ≡ option_item item → left_of (with_item words read) rest ≡ left_of words items
items-more words items item rest read cut some = first-folded words read (each_of option_item rest)
    ∙ ap (λ first. option_map (folded with_item words) (with_first first (each_of option_item rest))) some
    ∙ ap (left_of words) (sym cut)

pub items-ended : (words : OverlayWords) (items : List (List ℕ)) → items ≡ [] → Some words ≡ left_of words items
items-ended words items none = ap (left_of words) (sym none)
