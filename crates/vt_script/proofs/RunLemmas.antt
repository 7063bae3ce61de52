-- Moments of a run, one after another.
use Rattle.std.proofs.Common.{◌≡◌, ◌≢◌, ◌<◌, ◌-◌, ℕ, suc, ◌+◌, ◌==◌, arith, drop, get_or, length, length-take, take, Bool, true, false, List, [], ◌∷◌, ◌++◌, Option, is_none, refl, sym, ap, ◌∙◌, subst, append_assoc, append-nil, get_or-take, take-append-drop}
use Rattle.vt_spec.proofs.Common.{SameWorlds, World, drop_more, lines_of, nat_tests, step_text, step_world, take_rest}
use Rattle.vt_spec.specs.Language.Script.{with_line_byte}
use Rattle.vt_laws_rules.specs.Numbers.{Allotment}
use Rattle.vt_script.specs.Handed.{IsHanded, TellsHanded, step_of}
use Rattle.vt_script.specs.Progress.{Moment, Runs, HasNoNewline, after_line, whole_lines, whole_with}

-- a line ends at its newline
pub lines_of-newline : (line more : List ℕ) → HasNoNewline line → lines_of (line ++ 10 ∷ more) ≡ line ∷ lines_of more
lines_of-newline [] more whole = refl
lines_of-newline (byte ∷ line) more whole = ap (λ b. with_line_byte b byte (lines_of (line ++ 10 ∷ more))) whole.0
    ∙ ap (with_line_byte false byte) (lines_of-newline line more whole.1)

-- a last line without a newline is one too
pub lines_of-last : (byte : ℕ) (line : List ℕ) → HasNoNewline (byte ∷ line)
    → lines_of (byte ∷ line) ≡ (byte ∷ line) ∷ []
lines_of-last byte [] whole = ap (λ b. with_line_byte b byte []) whole.0
lines_of-last byte (next ∷ line) whole = ap (λ b. with_line_byte b byte (lines_of (next ∷ line))) whole.0
    ∙ ap (with_line_byte false byte) (lines_of-last next line whole.1)

not_newline : (byte : ℕ) → byte ≢ 10 → (byte == 10) ≡ false
not_newline byte other = grind (arith, nat_tests)

-- what has no newline at any index
pub HasNoNewline-each : (bytes : List ℕ) → ((k : ℕ) → k < length bytes → get_or bytes k 0 ≢ 10) → HasNoNewline bytes
HasNoNewline-each [] other = tt
HasNoNewline-each (byte ∷ bytes) other =
    (not_newline byte (other 0 (omega arith)), HasNoNewline-each bytes (λ k within. other (suc k) (omega arith)))

-- a text cut at its first newline
pub cut_at_newline : (bytes front back rest : List ℕ) (n : ℕ) → n < length bytes → get_or bytes n 0 ≡ 10
    → ((k : ℕ) → k < n → get_or bytes k 0 ≢ 10) →
    front ≡ take n bytes → back ≡ drop n bytes → rest ≡ take (length back - 1) (drop 1 back)
    → (bytes ≡ front ++ 10 ∷ rest) × HasNoNewline front
cut_at_newline bytes front back rest n within newline before is_prefix is_back is_rest =
    let at : drop n bytes ≡ 10 ∷ drop (n + 1) bytes = drop_more bytes n 0 within
    ∙ ap (λ byte. byte ∷ drop (n + 1) bytes) newline in
    let whole : rest ≡ drop (n + 1) bytes = is_rest ∙ take_rest back 1 ∙ ap (drop 1) (is_back ∙ at) in
    let other : (k : ℕ) → k < length (take n bytes) → get_or (take n bytes) k 0 ≢ 10 = λ k below.
    let low : k < n = omega (arith, below, length-take n bytes) in
    λ e. before k low (sym (get_or-take n bytes k 0 low) ∙ e) in (
      sym (take-append-drop n bytes) ∙ ap (λ back. take n bytes ++ back) at
          ∙ ap (λ rest. take n bytes ++ 10 ∷ rest) (sym whole) ∙ ap (λ front. front ++ 10 ∷ rest) (sym is_prefix),
      subst HasNoNewline (sym is_prefix) (HasNoNewline-each (take n bytes) other),
    )

pub HasNoNewline-append : (line more : List ℕ) → HasNoNewline line → HasNoNewline more → HasNoNewline (line ++ more)
HasNoNewline-append [] more whole others = others
HasNoNewline-append (first ∷ line) more whole others = (whole.0, HasNoNewline-append line more whole.1 others)

-- what has no newline has no whole line
whole_lines-none : (line : List ℕ) → HasNoNewline line → whole_lines line ≡ []
whole_lines-none [] none = refl
whole_lines-none (byte ∷ line) none =
    ap (λ b. whole_with b byte (whole_lines line)) none.0 ∙ ap (whole_with false byte) (whole_lines-none line none.1)

-- what follows the last newline is no whole line
pub whole_lines-rest : (ended line : List ℕ) → HasNoNewline line → whole_lines (ended ++ line) ≡ whole_lines ended
whole_lines-rest [] line none = whole_lines-none line none
whole_lines-rest (byte ∷ ended) line none = ap (whole_with (byte == 10) byte) (whole_lines-rest ended line none)

whole_with-more : (b : Bool) (byte next : ℕ) (rest : List ℕ) → whole_with b byte (next ∷ rest) ≡ byte ∷ next ∷ rest
whole_with-more true byte next rest = refl
whole_with-more false byte next rest = refl

-- a text before whole lines is whole with them
whole_lines-before : (front : List ℕ) (next : ℕ) (rest : List ℕ) → whole_lines (next ∷ rest) ≡ next ∷ rest
    → whole_lines (front ++ next ∷ rest) ≡ front ++ next ∷ rest
whole_lines-before [] next rest whole = whole
whole_lines-before (byte ∷ []) next rest whole =
    ap (whole_with (byte == 10) byte) whole ∙ whole_with-more (byte == 10) byte next rest
whole_lines-before (byte ∷ other ∷ front) next rest whole =
    ap (whole_with (byte == 10) byte) (whole_lines-before (other ∷ front) next rest whole)
    ∙ whole_with-more (byte == 10) byte other (front ++ next ∷ rest)

pub whole_lines-append : (a b : List ℕ) → whole_lines a ≡ a → whole_lines b ≡ b → whole_lines (a ++ b) ≡ a ++ b
whole_lines-append a [] first second = rw append-nil first
whole_lines-append a (next ∷ rest) first second = whole_lines-before a next rest second

pub whole_lines-newline : (line : List ℕ) → whole_lines (line ++ 10 ∷ []) ≡ line ++ 10 ∷ []
whole_lines-newline line = whole_lines-before line 10 [] refl

whole_tail : (b : Bool) (byte : ℕ) (rest ended : List ℕ) → whole_with b byte rest ≡ byte ∷ ended → rest ≡ ended
whole_tail true byte [] ended e = cc
whole_tail false byte [] ended e = cc
whole_tail true byte (next ∷ rest) ended e = cc
whole_tail false byte (next ∷ rest) ended e = cc

lines_of-some : (byte : ℕ) (bytes : List ℕ) → lines_of (byte ∷ bytes) ≢ []
lines_of-some byte bytes e = some (byte == 10) (lines_of bytes) e
  where
    some : (b : Bool) (lines : List (List ℕ)) → with_line_byte b byte lines ≢ []
    some true lines e = cc
    some false [] e = cc
    some false (line ∷ lines) e = cc

-- a byte that does not end a line goes onto a line that is there
with_line_byte-append : (b : Bool) (byte : ℕ) (lines more : List (List ℕ)) → (b ≡ false → lines ≢ [])
    → with_line_byte b byte (lines ++ more) ≡ with_line_byte b byte lines ++ more
with_line_byte-append true byte lines more there = refl
with_line_byte-append false byte [] more there = absurd (there refl refl)
with_line_byte-append false byte (line ∷ lines) more there = refl

-- whole lines that go on without ending a line are not all
goes_on_whole : (b : Bool) (byte : ℕ) (ended : List ℕ) → whole_with b byte ended ≡ byte ∷ ended → b ≡ false
    → lines_of ended ≢ []
goes_on_whole b byte [] e f = absurd (empty b f e)
  where
    empty : (b : Bool) → b ≡ false → whole_with b byte [] ≢ byte ∷ []
    empty true f e = cc
    empty false f e = cc
goes_on_whole b byte (next ∷ ended) e f = lines_of-some next ended

-- the lines of whole lines with more behind them
pub lines_of-whole : (ended more : List ℕ) → whole_lines ended ≡ ended
    → lines_of (ended ++ more) ≡ lines_of ended ++ lines_of more
lines_of-whole [] more whole = refl
lines_of-whole (byte ∷ ended) more whole =
    let rest : whole_lines ended ≡ ended = whole_tail (byte == 10) byte (whole_lines ended) ended whole in
    ap (with_line_byte (byte == 10) byte) (lines_of-whole ended more rest)
    ∙ with_line_byte-append (byte == 10) byte (lines_of ended) (lines_of more)
    (goes_on_whole (byte == 10) byte ended (ap (whole_with (byte == 10) byte) (sym rest) ∙ whole))

-- nothing read, nothing written
pub stays : (moment : Moment) → Runs moment [] [] moment
stays moment = record { version = refl; ended = []; split = append-nil moment.line; whole = refl; refused = []; goes_on = λ more later rest told. told }

-- what is read one after another is written one after another
pub runs_then : (a b c : Moment) (read more_read text more_text : List ℕ) → Runs a read text b
    → Runs b more_read more_text c → Runs a (read ++ more_read) (text ++ more_text) c
runs_then a b c read more_read text more_text first second = record {
  version = second.version ∙ first.version;
  ended = first.ended ++ second.ended;
  split = sym (append_assoc a.line read more_read) ∙ ap (λ xs. xs ++ more_read) first.split
      ∙ append_assoc first.ended b.line more_read ∙ ap (λ xs. first.ended ++ xs) second.split
      ∙ sym (append_assoc first.ended second.ended c.line);
  whole = whole_lines-append first.ended second.ended first.whole second.whole;
  refused = first.refused ++ second.refused;
  goes_on = λ more later rest told.
      rw (append_assoc first.ended second.ended more, append_assoc first.refused second.refused later, append_assoc text more_text rest)
      (first.goes_on (second.ended ++ more) (second.refused ++ later) (more_text ++ rest)
      (second.goes_on more later rest told));
}

-- bytes that are read belong to the line
pub runs_bytes : (moment : Moment) (bytes : List ℕ)
    → Runs moment bytes [] (record moment { line = moment.line ++ bytes })
runs_bytes moment bytes = record { version = refl; ended = []; split = refl; whole = refl; refused = []; goes_on = λ more later rest told. told }

line_then : (line more : List ℕ) → HasNoNewline line → lines_of ((line ++ 10 ∷ []) ++ more) ≡ line ∷ lines_of more
line_then line more none = ap lines_of (append_assoc line (10 ∷ []) more) ∙ lines_of-newline line more none

-- a newline answers the line, which is handed numbers, or none
pub runs_line : (moment : Moment) (handed : Option Allotment) (world : World ℕ) → HasNoNewline moment.line
    → IsHanded moment.version moment.world moment.line handed →
    let step = step_of moment.version moment.world moment.line handed in
    SameWorlds (step_world moment.world step) world →
    Runs moment (10 ∷ []) (step_text (moment.answered + 1) step) (after_line moment world)
runs_line moment handed world none serves same = record {
  version = refl;
  ended = moment.line ++ 10 ∷ [];
  split = sym (append-nil (moment.line ++ 10 ∷ []));
  whole = whole_lines-newline moment.line;
  refused = is_none handed ∷ [];
  goes_on = λ more later rest told.
      subst (λ lines. TellsHanded moment.version moment.world (moment.answered + 1) lines (is_none handed ∷ later)
      (step_text (moment.answered + 1) (step_of moment.version moment.world moment.line handed) ++ rest))
      (sym (line_then moment.line more none)) (handed, refl, serves, world, same, rest, refl, told);
}

-- the text of the lines that ended
pub told_whole : (old : Moment) (bytes text : List ℕ) (new : Moment) (runs : Runs old bytes text new)
    → TellsHanded old.version old.world (old.answered + 1) (lines_of runs.ended) runs.refused text
told_whole old bytes text new runs =
    let told : TellsHanded old.version old.world (old.answered + 1) (lines_of (runs.ended ++ [])) (runs.refused ++ [])
    (text ++ []) = runs.goes_on [] [] [] refl in
    rw (append-nil runs.ended, append-nil runs.refused, append-nil text) at told
