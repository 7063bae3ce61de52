-- What a test compares with what is wanted.
use Rattle.std.specs.Prelude.{Bool, List, ℕ, ◌≡◌}
use Rattle.vt_spec.specs.Language.Script.{Version, lines_of}
use Rattle.vt_script.specs.Refused.{MayBeRefusedIn}
use Rattle.vt_spec.specs.Machine.Run.{script_text_as}

-- the text is what a run of the script writes, in a version of its language: the policy's answers, where allocations
-- may have failed in lines that may fail
abbrev pub IsWrittenBy : Version → List ℕ → List ℕ → Type 0
IsWrittenBy version script text =
    (refused : List Bool) × MayBeRefusedIn version (lines_of script) refused × (text ≡ script_text_as version refused script)
