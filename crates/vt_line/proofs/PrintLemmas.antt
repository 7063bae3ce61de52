-- Texts printed in runs of plain bytes, with an escape after each.
use Rattle.std.proofs.Common.{◌≡◌, ℕ, codes, decimal, suc, ◌<◌, ◌/◌, ◌%◌, cond, false, List, [], ◌∷◌, ◌++◌, length, map, All, IsTrue, slice_index, refl, sym, ap, ◌∙◌, arith, append_assoc, append-nil, flat_map}
use Rattle.vt_spec.proofs.Common.{Names, StatLine, is_plain, printed_byte, printed_line, printed_text, printed_value, spaced}
use Rattle.std.proofs.lemmas.List.Concat.{flat_map-append}
use Rattle.std.specs.Global.{Vec}
use Rattle.vt_spec.specs.declared.attributes.Kind.{Kind}
use Rattle.vt_spec.specs.declared.attributes.Kind.TheVariants.{Dir, File, Symlink, White}
use Rattle.vt_spec.specs.Language.Answers.Answer.{Child}
use Rattle.vt_spec.specs.Language.Printed.{hex_digit, owner_words, stat_words}
use Rattle.vt_line.specs.Printing.{further_words, kind_text, printed_names, printed_numbers}

abbrev pub escape : ℕ → List ℕ
escape byte = 92 ∷ 120 ∷ hex_digit (byte / 16) ∷ hex_digit (byte % 16) ∷ []

pub printed_text-some : (text : List ℕ) → 0 < length text → printed_text text ≡ flat_map printed_byte text
printed_text-some [] some = absurd (omega arith)
printed_text-some (byte ∷ bytes) some = refl

printed_byte-plain : (byte : ℕ) → IsTrue (is_plain byte) → printed_byte byte ≡ byte ∷ []
printed_byte-plain byte plain = ap (λ test. cond test (byte ∷ []) (escape byte)) plain

printed_byte-other : (byte : ℕ) → is_plain byte ≡ false → printed_byte byte ≡ escape byte
printed_byte-other byte other = ap (λ test. cond test (byte ∷ []) (escape byte)) other

-- plain bytes are printed as they are
printed-plain : (plain : List ℕ) → All (λ byte. IsTrue (is_plain byte)) plain → flat_map printed_byte plain ≡ plain
printed-plain [] all = refl
printed-plain (byte ∷ bytes) all =
    ap (λ first. first ++ flat_map printed_byte bytes) (printed_byte-plain byte (all 0 0 (omega arith)))
    ∙ ap (λ rest. byte ∷ rest) (printed-plain bytes (λ k d lt. all (suc k) d (omega arith)))

printed-run : (plain others rest : List ℕ) → plain ++ others ≡ rest → All (λ byte. IsTrue (is_plain byte)) plain
    → flat_map printed_byte rest ≡ plain ++ flat_map printed_byte others
printed-run plain others rest whole all =
    ap (flat_map printed_byte) (sym whole) ∙ flat_map-append printed_byte plain others
    ∙ ap (λ first. first ++ flat_map printed_byte others) (printed-plain plain all)

-- a text of plain bytes is printed as it is
pub printed_text-plain : (plain others text : List ℕ) → plain ++ others ≡ text
    → All (λ byte. IsTrue (is_plain byte)) plain → length others ≡ 0 → 0 < length plain → printed_text text ≡ plain
printed_text-plain plain [] text whole all none some =
    ap printed_text (sym whole ∙ append-nil plain) ∙ printed_text-some plain some ∙ printed-plain plain all
printed_text-plain plain (byte ∷ bytes) text whole all none some = absurd (omega arith)

-- the line of an answer that is a text
text_line : (digits text : List ℕ)
    → digits ++ (codes " ok " ++ (text ++ codes "\n")) ≡ (digits ++ spaced (codes "ok" ∷ text ∷ [])) ++ codes "\n"
text_line digits text = simp (append_assoc, append-nil)

pub content_line : (digits plain text : List ℕ) (number : ℕ) → digits ≡ decimal number → printed_text text ≡ plain
    → digits ++ (codes " ok " ++ (plain ++ codes "\n")) ≡ printed_line number (codes "ok" ∷ printed_text text ∷ [])
content_line digits plain text number formatted printed =
    ap (λ digits. digits ++ (codes " ok " ++ (plain ++ codes "\n"))) formatted
    ∙ ap (λ text. decimal number ++ (codes " ok " ++ (text ++ codes "\n"))) (sym printed)
    ∙ text_line (decimal number) (printed_text text)

-- what is printed so far, a run, and what comes after it
pub printed-front : (done plain others rest text : List ℕ)
    → done ++ flat_map printed_byte rest ≡ flat_map printed_byte text → plain ++ others ≡ rest
    → All (λ byte. IsTrue (is_plain byte)) plain
    → done ++ (plain ++ flat_map printed_byte others) ≡ flat_map printed_byte text
printed-front done plain others rest text so_far whole all =
    ap (λ now. done ++ now) (sym (printed-run plain others rest whole all)) ∙ so_far

-- the same where nothing comes after it
pub printed-last : (done plain others rest text : List ℕ)
    → done ++ flat_map printed_byte rest ≡ flat_map printed_byte text → plain ++ others ≡ rest
    → All (λ byte. IsTrue (is_plain byte)) plain → length others ≡ 0 → done ++ plain ≡ flat_map printed_byte text
printed-last done plain [] rest text so_far whole all none =
    ap (λ now. done ++ now) (sym (append-nil plain)) ∙ printed-front done plain [] rest text so_far whole all
printed-last done plain (byte ∷ bytes) rest text so_far whole all none = absurd (omega arith)

-- the same where an escape comes after it
pub printed-escape : (done plain others rest text after : List ℕ) (byte : ℕ)
    → done ++ flat_map printed_byte rest ≡ flat_map printed_byte text → plain ++ others ≡ rest
    → All (λ byte. IsTrue (is_plain byte)) plain → others ≡ byte ∷ after → is_plain (slice_index others 0) ≡ false
    → (done ++ plain) ++ (escape byte ++ flat_map printed_byte after) ≡ flat_map printed_byte text
printed-escape done plain others rest text after byte so_far whole all first other =
    let stop : is_plain byte ≡ false = ap (λ now. is_plain (slice_index now 0)) (sym first) ∙ other in
    let next : flat_map printed_byte others ≡ escape byte ++ flat_map printed_byte after =
    ap (flat_map printed_byte) first ∙ ap (λ now. now ++ flat_map printed_byte after) (printed_byte-other byte stop) in
    append_assoc done plain (escape byte ++ flat_map printed_byte after) ∙ ap (λ now. done ++ (plain ++ now)) (sym next)
    ∙ printed-front done plain others rest text so_far whole all

-- the names of an answer
pub printed_names-value : (names : List (Vec ℕ))
    → printed_names names ≡ spaced (printed_value (Names (map (λ name. name.items) names)))
printed_names-value [] = refl
printed_names-value (name ∷ names) = ap (λ rest. (32 ∷ printed_text name.items) ++ rest) (printed_names-value names)

-- what is told of an object: its owner, and the rest
pub stat_words-further : (kind : Kind) (line : StatLine) →
    spaced (stat_words kind line) ≡ spaced (owner_words (kind_text kind) line.attr) ++ spaced (further_words kind line)
stat_words-further Dir line = flat_map-append (λ word. 32 ∷ word) (owner_words (codes "dir") line.attr) (further_words Dir line)
stat_words-further File line = flat_map-append (λ word. 32 ∷ word) (owner_words (codes "file") line.attr) (further_words File line)
stat_words-further Symlink line = flat_map-append (λ word. 32 ∷ word) (owner_words (codes "link") line.attr) (further_words Symlink line)
stat_words-further White line = sym (append-nil (spaced (owner_words (codes "white") line.attr)))

-- the line that tells of an object
front_line : (digits first rest : List ℕ) → ((digits ++ codes " ok") ++ first) ++ (rest ++ codes "\n")
    ≡ (digits ++ (codes " ok" ++ (first ++ rest))) ++ codes "\n"
front_line digits first rest = simp append_assoc

pub told_line : (number : ℕ) (text : List ℕ) (kind : Kind) (line : StatLine) → text ≡ kind_text kind
    → ((decimal number ++ codes " ok") ++ spaced (owner_words text line.attr))
    ++ (spaced (further_words kind line) ++ codes "\n") ≡ printed_line number (codes "ok" ∷ stat_words kind line)
told_line number text kind line is =
    ap (λ text. ((decimal number ++ codes " ok") ++ spaced (owner_words text line.attr))
    ++ (spaced (further_words kind line) ++ codes "\n")) is
    ∙ front_line (decimal number) (spaced (owner_words (kind_text kind) line.attr)) (spaced (further_words kind line))
    ∙ ap (λ words. (decimal number ++ (codes " ok" ++ words)) ++ codes "\n") (sym (stat_words-further kind line))

-- the line of names, and that of a task
pub listed_line : (number : ℕ) (names : List (Vec ℕ))
    → ((decimal number ++ codes " ok") ++ printed_names names) ++ codes "\n"
    ≡ printed_line number (codes "ok" ∷ printed_value (Names (map (λ name. name.items) names)))
listed_line number names =
    ap (λ text. text ++ codes "\n") (append_assoc (decimal number) (codes " ok") (printed_names names))
    ∙ ap (λ text. (decimal number ++ (codes " ok" ++ text)) ++ codes "\n") (printed_names-value names)

task_line : (digits numbers : List ℕ) → ((digits ++ codes " ok t") ++ numbers) ++ codes "\n"
    ≡ (digits ++ (codes " ok t" ++ (numbers ++ []))) ++ codes "\n"
task_line digits numbers = simp (append_assoc, append-nil)

pub child_line : (number : ℕ) (name : List ℕ)
    → ((decimal number ++ codes " ok t") ++ printed_numbers name) ++ codes "\n"
    ≡ printed_line number (codes "ok" ∷ printed_value (Child name))
child_line number name = task_line (decimal number) (printed_numbers name)
