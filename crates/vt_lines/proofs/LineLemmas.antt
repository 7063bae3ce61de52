-- The lines of a text, one after the other, and how many of them are refused.
use Rattle.std.proofs.Common.{◌≡◌, ◌≤◌, ◌<◌, ◌+◌, ◌==◌, ◌∷◌, ◌++◌, ◌∙◌, [], ℕ, List, length, Bool, true, false, cond, ap, sym, append_assoc, length-append, arith, refl, count_by}
use Rattle.vt_spec.proofs.Common.{Version, common_steps, lines_of, sum_by-cons}
use Rattle.std.proofs.lemmas.List.Sums.{count_by-le-length}
use Rattle.vt_spec.specs.Language.Script.{with_line_byte}
use Rattle.vt_script.specs.Progress.{HasNoNewline, whole_lines}
use Rattle.vt_script.proofs.RunLemmas.{lines_of-newline, lines_of-last, lines_of-whole, whole_lines-append, whole_lines-newline}
use Rattle.vt_lines.specs.Refused.{is_refused, refused_in}

-- no more lines than bytes
one_more : (newline : Bool) (byte : ℕ) (lines : List (List ℕ))
    → length (with_line_byte newline byte lines) ≤ length lines + 1
one_more true byte lines = grind (arith, common_steps)
one_more false byte [] = grind (arith, common_steps)
one_more false byte (line ∷ lines) = grind (arith, common_steps)

length-lines_of : (text : List ℕ) → length (lines_of text) ≤ length text
length-lines_of [] = grind (arith, common_steps)
length-lines_of (byte ∷ bytes) =
    let more = one_more (byte == 10) byte (lines_of bytes) in
    let rest = length-lines_of bytes in
    omega arith

pub refused_in-le : (version : Version) (text : List ℕ) → refused_in version text ≤ length text
unfolding refused_in
refused_in-le version text =
    let lines = length-lines_of text in
    let count = count_by-le-length (is_refused version) (lines_of text) in
    omega arith

pub refused_in-line : (version : Version) (text line rest : List ℕ) → lines_of text ≡ line ∷ lines_of rest
    → refused_in version text ≡ cond (is_refused version line) 1 0 + refused_in version rest
unfolding refused_in
refused_in-line version text line rest e =
    ap (count_by (is_refused version)) e ∙ sum_by-cons (λ line. cond (is_refused version line) 1 0) line (lines_of rest)

pub refused_in-end : (version : Version) → refused_in version [] ≡ 0
unfolding refused_in
refused_in-end version = refl

-- a text that is cut at its first newline
pub lines_of-cut : (text line rest : List ℕ) → (text ≡ line ++ 10 ∷ rest) × HasNoNewline line
    → lines_of text ≡ line ∷ lines_of rest
lines_of-cut text line rest cut = rw cut.0 (lines_of-newline line rest cut.1)

-- a text of one line
pub lines_of-one : (text : List ℕ) → 0 < length text → HasNoNewline text → lines_of text ≡ text ∷ lines_of []
lines_of-one [] some whole = absurd (omega arith)
lines_of-one (byte ∷ line) some whole = lines_of-last byte line whole

-- Whole lines at the front of a text, with its next line

module _ (front line : List ℕ) (whole : whole_lines front ≡ front) (one : HasNoNewline line) where
  pub whole-next : whole_lines (front ++ (line ++ 10 ∷ [])) ≡ front ++ (line ++ 10 ∷ [])
  whole-next = whole_lines-append front (line ++ 10 ∷ []) whole (whole_lines-newline line)

  pub lines-next : lines_of (front ++ (line ++ 10 ∷ [])) ≡ lines_of front ++ (line ∷ [])
  lines-next =
      lines_of-whole front (line ++ 10 ∷ []) whole ∙ ap (λ last. lines_of front ++ last) (lines_of-newline line [] one)

  pub split-next : (text rest after : List ℕ) → lines_of text ≡ lines_of front ++ lines_of rest
      → lines_of rest ≡ line ∷ lines_of after → lines_of text ≡ lines_of (front ++ (line ++ 10 ∷ [])) ++ lines_of after
  split-next text rest after split first = split ∙ ap (λ lines. lines_of front ++ lines) first
      ∙ sym (append_assoc (lines_of front) (line ∷ []) (lines_of after))
      ∙ ap (λ lines. lines ++ lines_of after) (sym lines-next)

  pub count-next : length (lines_of (front ++ (line ++ 10 ∷ []))) ≡ length (lines_of front) + 1
  count-next = ap length lines-next ∙ length-append (lines_of front) (line ∷ [])

-- For `grind`: how many lines are refused, line by line.
pub ruleset refused_lines = (refused_in-line, refused_in-le, refused_in-end)
