-- The text that a script is answered in the order of a schedule.
use Rattle.std.specs.Prelude.{List, Option, ℕ}
use Rattle.std.specs.Io.KnownBytes.{Appends}
use Rattle.vt_spec.specs.Language.Script.{Version}
use Rattle.vt_turns_run.specs.Played.{IsTextOfTurns}
use Rattle.vt_playing.specs.declared.playing.Contents.{Contents}

-- in a version of the language
abbrev pub IsTextOfFiles : Contents → List ℕ → Type 0
IsTextOfFiles contents text =
    (version : Version) × IsTextOfTurns version contents.script.now contents.schedule.now text

-- it is written, where the output tells its bytes
abbrev pub WritesText : {W : Type 0} → (W → Option (List ℕ)) → Contents → W → W → Type 0
WritesText told contents before after =
    (text : List ℕ) × IsTextOfFiles contents text × Appends (told before) (told after) text
