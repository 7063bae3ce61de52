-- What is written for a script whose bytes are known, in a version of its language, and a source before its first read.
use Rattle.std.specs.Prelude.{◌≡◌, ℕ, ◌-◌, ◌^◌, ◌<◌, Bool, List, ◌++◌, length, Option, Some}
use Rattle.vt_io.specs.ReadSource.{Reading}
use Rattle.vt_spec.specs.Language.Script.{Version, lines_of}
use Rattle.vt_spec.specs.Machine.Run.{script_text_as}
use Rattle.vt_script.specs.Progress.{whole_lines}
use Rattle.vt_script.specs.Refused.{MayBeRefusedIn}

-- a source from which nothing was read yet
abbrev pub IsFresh : {R : Type 0} → Reading R → Type 0
IsFresh source = (source.limit ≡ 2 ^ 64 - 1) × (source.failures ≡ 0)

-- where it is known what a reader gives, in fewer than 2^64 bytes, and what a writer holds: it then holds the policy's
-- answers too
abbrev pub AnswersKnown : Version → Option (List ℕ) → Option (List ℕ) → Option (List ℕ) → Type 0
AnswersKnown version script before after =
    (bytes held : List ℕ) → script ≡ Some bytes → length bytes < 2 ^ 64 → before ≡ Some held
    → (refused : List Bool) × MayBeRefusedIn version (lines_of bytes) refused
    × (after ≡ Some (held ++ script_text_as version refused bytes))

-- where they are known so, and a read failed before these bytes: it holds the policy's answers to the complete lines of
-- what was read
abbrev pub AnswersKnownLines : Version → Option (List ℕ) → Option (List ℕ) → Option (List ℕ) → Option (List ℕ) → Type 0
AnswersKnownLines version script unread before after =
    (bytes held : List ℕ) → script ≡ Some bytes → length bytes < 2 ^ 64 → before ≡ Some held
    → (read : List ℕ) × (left : List ℕ) × (unread ≡ Some left) × (bytes ≡ read ++ left)
    × (refused : List Bool) × MayBeRefusedIn version (lines_of (whole_lines read)) refused
    × (after ≡ Some (held ++ script_text_as version refused (whole_lines read)))

-- where they are known so, and a write failed: it holds a beginning of the policy's answers
abbrev pub BeginsKnownAnswers : Version → Option (List ℕ) → Option (List ℕ) → Option (List ℕ) → Type 0
BeginsKnownAnswers version script before after =
    (bytes held : List ℕ) → script ≡ Some bytes → length bytes < 2 ^ 64 → before ≡ Some held
    → (refused : List Bool) × MayBeRefusedIn version (lines_of bytes) refused
    × (text : List ℕ) × (more : List ℕ) × (script_text_as version refused bytes ≡ text ++ more)
    × (after ≡ Some (held ++ text))
