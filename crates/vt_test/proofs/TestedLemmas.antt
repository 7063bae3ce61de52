-- Scripts that are compared in turn: one more at the end, and what is seen of those who go on.
use Rattle.std.proofs.Common.{List, [], ◌++◌, ◌∷◌, ap, refl, subst}
use Rattle.vt_line.specs.Versions.{version_of}
use Rattle.vt_verdict.specs.Compared.{Line}
use Rattle.vt_test.specs.Given.{Compares}
use Rattle.vt_test.specs.Tested.{ComparesAll}
use Rattle.vt_test.specs.declared.suite.Script.{Script}

pub ComparesAll-snoc : {T : Type 0} (goes_on : T → List Line → T → Type 0) (scripts : List Script) (script : Script)
    (old next new : T) → ComparesAll goes_on scripts old next
    → Compares goes_on (version_of script.version) script.text.items script.wanted.items next new
    → ComparesAll goes_on (scripts ++ script ∷ []) old new
ComparesAll-snoc goes_on [] script old next new same one =
    (new, subst (λ from. Compares goes_on (version_of script.version) script.text.items script.wanted.items from new) same one, refl)
ComparesAll-snoc goes_on (first ∷ scripts) script old next new all one =
    (all.0, all.1, ComparesAll-snoc goes_on scripts script all.0 next new all.2 one)

-- what is seen of those who go on goes on so too
pub ComparesAll-seen : {T U : Type 0} (seen : T → U) (goes_on : T → List Line → T → Type 0)
    (goes_on_seen : U → List Line → U → Type 0)
    → ((old new : T) (lines : List Line) → goes_on old lines new → goes_on_seen (seen old) lines (seen new))
    → (scripts : List Script) (old new : T) → ComparesAll goes_on scripts old new
    → ComparesAll goes_on_seen scripts (seen old) (seen new)
ComparesAll-seen seen goes_on goes_on_seen same [] old new all = ap seen all
ComparesAll-seen seen goes_on goes_on_seen same (script ∷ scripts) old new all = (
  seen all.0,
  record {
    written = all.1.written;
    given = all.1.given;
    is_written = all.1.is_written;
    are_told = all.1.are_told;
    told = same old all.0 _ all.1.told;
  },
  ComparesAll-seen seen goes_on goes_on_seen same scripts all.0 new all.2,
)
