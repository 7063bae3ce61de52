-- The scripts of a file, compared one after the other and counted.
use Rattle.std.specs.Prelude.{List, [], length, ℕ, ◌∷◌, ◌≡◌, ◌⊎◌}
use Rattle.vt_line.specs.Versions.{version_of}
use Rattle.vt_spec.specs.Language.Script.{Version}
use Rattle.vt_verdict.specs.Compared.{Line}
use Rattle.vt_verdict.specs.Counts.{counted, one_more}
use Rattle.vt_verdict.specs.declared.counts.Totals.{Totals}
use Rattle.vt_test.specs.Given.{Compares}
use Rattle.vt_test.specs.Suite.{AreScriptsOf}
use Rattle.vt_test.specs.declared.suite.Script.{Script}

-- these scripts are compared in turn: one goes on by each of them
abbrev pub ComparesAll : {T : Type 0} → (T → List Line → T → Type 0) → List Script → T → T → Type 0
ComparesAll goes_on [] old new = new ≡ old
ComparesAll {T} goes_on (script ∷ scripts) old new =
    (next : T) × Compares goes_on (version_of script.version) script.text.items script.wanted.items old next
    × ComparesAll goes_on scripts next new

-- all scripts of a file, in a version of its language
pub record ComparesFile {T : Type 0} (goes_on : T → List Line → T → Type 0) (version : Version) (file : List ℕ)
    (old new : T) : Type 0 where
  pub scripts : List Script
  pub are_its : AreScriptsOf version file scripts
  pub compared : ComparesAll goes_on scripts old new

-- some scripts, before a fault
pub record ComparesSome {T : Type 0} (goes_on : T → List Line → T → Type 0) (old new : T) : Type 0 where
  pub scripts : List Script
  pub compared : ComparesAll goes_on scripts old new

-- no script has passed or failed
abbrev pub no_scripts : Totals
no_scripts = record { passed = 0; failed = 0 }

-- one more failed
abbrev pub one_failed : Totals → Totals
one_failed totals = record totals { failed = one_more totals.failed }

-- totals go on by a script with these lines that are answered otherwise than is wanted
abbrev pub Counts : Totals → List Line → Totals → Type 0
Counts old lines new = new ≡ counted (length lines) old

-- one more failed than what is counted of some scripts
pub record FailsAfterSome (old new : Totals) : Type 0 where
  pub so_far : Totals
  pub compared : ComparesSome Counts old so_far
  pub failed : new ≡ one_failed so_far

-- Totals go on by a file: each of its scripts is counted, by the lines that are answered otherwise than is wanted. Or it
-- cannot be tested to its end, and counts as one more that fails.
abbrev pub CountsFile : Version → List ℕ → Totals → Totals → Type 0
CountsFile version file old new = ComparesFile Counts version file old new ⊎ FailsAfterSome old new
