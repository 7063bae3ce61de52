-- The world that a run has after the complete lines of a script.
use Rattle.std.specs.Prelude.{List, ℕ}
use Rattle.vt_spec.specs.Language.Script.{Version}
use Rattle.vt_spec.specs.Machine.World.{World}
use Rattle.vt_script.specs.Progress.{HasNoNewline, IsOpening, Moment, Runs}

-- A run that begins at an opening moment and reads the script is then in this world: whatever it tells of further lines,
-- it tells behind the answers to the script. All complete lines are answered: what is left has no newline.
pub record IsReachedBy (version : Version) (script : List ℕ) (world : World ℕ) : Type 0 where
  pub opening : Moment
  pub is_opening : IsOpening version opening
  pub answers : List ℕ
  pub answered : ℕ
  pub line : List ℕ
  pub one : HasNoNewline line
  pub runs : Runs opening script answers (record { version = version; world = world; answered = answered; line = line })
