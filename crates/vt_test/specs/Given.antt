-- The lines that a run has written, each a number and, behind a space, what is answered.
use Rattle.std.specs.Prelude.{All, List, [], decimal, false, map, ℕ, ◌++◌, ◌<◌, ◌==◌, ◌^◌, ◌∷◌, ◌≡◌}
use Rattle.vt_spec.specs.Language.Script.{Version, lines_of}
use Rattle.vt_lines.specs.Answers.{IsWrittenBy}
use Rattle.vt_verdict.specs.Compared.{Line, differing}
use Rattle.vt_verdict.specs.declared.compare.Answer.{Answer}

abbrev pub told_line : ℕ × List ℕ → List ℕ
told_line told = decimal told.0 ++ 32 ∷ told.1

abbrev pub told_of : Answer → ℕ × List ℕ
told_of answer = (answer.number, answer.text.now)

-- no byte of the text is a space
abbrev pub HasNoSpace : List ℕ → Type 0
HasNoSpace [] = Unit {0}
HasNoSpace (byte ∷ bytes) = ((byte == 32) ≡ false) × HasNoSpace bytes

-- where all lines of a text are such lines, with numbers below 2^64, these are all that it has, in their order
abbrev pub AreTold : List ℕ → List Answer → Type 0
AreTold text given =
    (told : List (ℕ × List ℕ)) → lines_of text ≡ map told_line told → All (λ (one : ℕ × List ℕ). one.0 < 2 ^ 64) told
    → map told_of given ≡ told

-- A script with these wanted answers is compared: one goes on by the lines whose answers, in what a run writes, are not
-- those that it wants.
pub record Compares {T : Type 0} (goes_on : T → List Line → T → Type 0) (version : Version) (script : List ℕ)
    (wanted : List Answer) (old new : T) : Type 0 where
  pub written : List ℕ
  pub given : List Answer
  pub is_written : IsWrittenBy version script written
  pub are_told : AreTold written given
  pub told : goes_on old (differing wanted given) new
