-- The world that a run has before a line of a script.
use Rattle.std.specs.Prelude.{List, ℕ, take, ◌-◌, ◌≡◌}
use Rattle.vt_lines.specs.Refused.{refused_in}
use Rattle.vt_script.specs.Progress.{whole_lines}
use Rattle.vt_script.specs.Reached.{IsReachedBy}
use Rattle.vt_spec.specs.Language.Script.{Version, lines_of}
use Rattle.vt_spec.specs.Machine.World.{World}

-- the world that a run has after the lines of a script before the one of this number, from 1; so many of them it refuses
-- by S1
pub record IsReachedBefore (version : Version) (number : ℕ) (script : List ℕ) (world : World ℕ) (refused : ℕ) : Type 0
  where
    pub front : List ℕ
    pub whole : whole_lines front ≡ front
    pub lines : lines_of front ≡ take (number - 1) (lines_of script)
    pub reached : IsReachedBy version front world
    pub count : refused ≡ refused_in version front
