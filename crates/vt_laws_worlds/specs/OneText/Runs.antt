-- A run over the whole language that keeps its world but for change numbers and the order of numbers beside trees, and
-- gives numbers out again, has the one text of its script.
use Rattle.std.specs.Prelude.{Bool, List, nat_eq, ℕ, ◌≡◌}
use Rattle.vt_laws_trees.specs.Runs.Handed.{may_be_given}
use Rattle.vt_laws_trees.specs.Runs.Runs.{LeavesEndless, OpensInHand, TellsAlike}
use Rattle.vt_spec.specs.Language.Script.{Grammar, lines_of}
use Rattle.vt_spec.specs.Lists.{Fresh}
use Rattle.vt_spec.specs.Machine.Run.{text_of}
use Rattle.vt_spec.specs.Machine.World.{opening}

-- From any opening world whose numbers are in hand a script has its one text, whatever its grammar, and whatever numbers
-- of those in hand each line is handed.
abbrev pub EveryRunHasOneText : Type 0
EveryRunHasOneText =
    (grammar : Grammar) (refused : List Bool) (script text : List ℕ) (in_hand : ℕ → Bool) (fresh : Fresh ℕ)
    → LeavesEndless in_hand → OpensInHand in_hand fresh
    → TellsAlike grammar in_hand (opening nat_eq fresh) 1 (lines_of script) refused text
    → text ≡ text_of grammar refused script

-- So has a run that hands out any numbers but `4·c + 3`.
abbrev pub EveryProgramHasOneText : Type 0
EveryProgramHasOneText =
    (grammar : Grammar) (refused : List Bool) (script text : List ℕ) (fresh : Fresh ℕ)
    → OpensInHand may_be_given fresh
    → TellsAlike grammar may_be_given (opening nat_eq fresh) 1 (lines_of script) refused text
    → text ≡ text_of grammar refused script
