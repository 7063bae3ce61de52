-- How far a run has come: what was read and written between two moments of it.
use Rattle.std.specs.Prelude.{◌≡◌, ℕ, ◌+◌, ◌==◌, nat_eq, Bool, true, false, List, [], ◌∷◌, ◌++◌}
use Rattle.vt_spec.specs.Language.Script.{Version, lines_of}
use Rattle.vt_spec.specs.Lists.{Fresh}
use Rattle.vt_spec.specs.Machine.World.{World, opening}
use Rattle.vt_laws_trees.specs.Runs.Handed.{may_be_given}
use Rattle.vt_laws_trees.specs.Runs.Runs.{OpensInHand}
use Rattle.vt_script.specs.Handed.{TellsHanded}

-- a text up to its last newline
abbrev pub whole_with : Bool → ℕ → List ℕ → List ℕ
whole_with true byte [] = byte ∷ []
whole_with false byte [] = []
whole_with newline byte (next ∷ rest) = byte ∷ next ∷ rest

abbrev pub whole_lines : List ℕ → List ℕ
whole_lines [] = []
whole_lines (byte ∷ bytes) = whole_with (byte == 10) byte (whole_lines bytes)

-- a moment of a run: the version of its script's language, the code's world as the definitions see it, how many lines
-- are answered, and what was read of the next line
pub record Moment : Type 0 where
  pub version : Version
  pub world : World ℕ
  pub answered : ℕ
  pub line : List ℕ

-- nothing is read yet, in an opening world of these numbers
abbrev pub opening_moment : Version → Fresh ℕ → Moment
opening_moment version fresh = record { version = version; world = opening nat_eq fresh; answered = 0; line = [] }

-- nothing is read yet of a script in this version of the language
abbrev pub IsOpening : Version → Moment → Type 0
IsOpening version moment =
    (fresh : Fresh ℕ) × OpensInHand may_be_given fresh × (moment ≡ opening_moment version fresh)

-- From one moment to another these bytes were read and this text was written. The lines that ended among them, with
-- what stood before, are told by the text: whatever is told of more, is told behind it.
pub record Runs (old : Moment) (bytes text : List ℕ) (new : Moment) : Type 0 where
  pub version : new.version ≡ old.version
  pub ended : List ℕ
  pub split : old.line ++ bytes ≡ ended ++ new.line
  pub whole : whole_lines ended ≡ ended
  pub refused : List Bool
  pub goes_on : (more : List ℕ) (later : List Bool) (rest : List ℕ)
      → TellsHanded new.version new.world (new.answered + 1) (lines_of more) later rest →
      TellsHanded old.version old.world (old.answered + 1) (lines_of (ended ++ more)) (refused ++ later) (text ++ rest)

-- no byte of the line is a newline
abbrev pub HasNoNewline : List ℕ → Type 0
HasNoNewline [] = Unit {0}
HasNoNewline (byte ∷ bytes) = ((byte == 10) ≡ false) × HasNoNewline bytes

-- the moment after a line was answered, which left this world
abbrev pub after_line : Moment → World ℕ → Moment
after_line moment world =
    record { version = moment.version; world = world; answered = moment.answered + 1; line = [] }
