-- Sealed sets are answered as if nobody else were there (profile).
use Rattle.std.specs.Prelude.{List, false, map, nat_eq, true, ℕ, ◌≡◌}
use Rattle.vt_spec.specs.Language.Calls.{Call, TaskName}
use Rattle.vt_spec.specs.Language.Script.{Grammar}
use Rattle.vt_spec.specs.Lists.{Fresh}
use Rattle.vt_spec.specs.Machine.Run.{Serves}
use Rattle.vt_spec.specs.Machine.World.{World}
use Rattle.vt_laws_trees.specs.Trees.Limits.{names_few_groups}
use Rattle.vt_laws_members.specs.Changes.Changes.{IsCallOfTheirs}
use Rattle.vt_laws_containers.specs.Footholds.{GivesNoFoothold}
use Rattle.vt_laws_containers.specs.Scripts.{IsSealedOffAt, Stand, StaysSealed, asked, own_answers}

-- No call of a task of a sealed set gives others a foothold, granted or refused.
abbrev pub NoCallGivesAFoothold : Type 0
NoCallGivesAFoothold =
    (world : World ℕ) (names : List TaskName) (name : TaskName) (call : Call) → IsCallOfTheirs world names name call
    → names_few_groups call ≡ true → (fresh : Fresh ℕ) → Serves nat_eq world fresh
    → GivesNoFoothold world names name call fresh

-- So the calls of the set have the answers that they have alone, whatever others call between them.
abbrev pub SealedSetsAreAnsweredAsIfAlone : Type 0
SealedSetsAreAnsweredAsIfAlone =
    (at : Stand) (grammar : Grammar) (lines : List (List ℕ)) → IsSealedOffAt at
    → StaysSealed at (map (asked grammar) lines)
    → own_answers true at (map (asked grammar) lines) ≡ own_answers false at (map (asked grammar) lines)
