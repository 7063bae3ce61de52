-- What a script writes for the calls of a sealed set, beside the lines of others and without them (profile).
use Rattle.std.specs.Prelude.{Bool, List, None, Some, [], cond, false, filter, flat_map, map, nat_eq, not, true, ℕ, ◌++◌, ◌∷◌, ◌≡◌}
use Rattle.std.specs.List.{list_all}
use Rattle.vt_spec.specs.Language.Calls.{TaskName, same_name}
use Rattle.vt_spec.specs.Language.Script.{Grammar, Version, lines_of, overlays}
use Rattle.vt_spec.specs.Lists.{is_among}
use Rattle.vt_spec.specs.Machine.Run.{first_world, line_step, numbers_for, script_text_as, step_text, text_from}
use Rattle.vt_laws_containers.specs.Scripts.{Asked, IsSealedOffAt, Stand, StaysSealed, asked, next, stand_after}

-- whether the call is one of theirs, where the run stands
abbrev pub is_theirs : Stand → Asked → Bool
is_theirs at None = false
is_theirs at (Some call) = is_among same_name call.0 at.names

-- what the line writes there
abbrev pub written_at : Grammar → Stand → List ℕ → List ℕ
written_at grammar at line = step_text at.number (line_step nat_eq grammar at.world line (Some (numbers_for at.number)))

-- what each line writes, with whether its call is one of theirs
abbrev pub written : Grammar → Stand → List (List ℕ) → List (Bool × List ℕ)
written grammar at [] = []
written grammar at (line ∷ lines) =
    (is_theirs at (asked grammar line), written_at grammar at line)
    ∷ written grammar (next true at (asked grammar line)) lines

-- The text of a script, if no allocation fails: that of some lines, then what each further one writes.
abbrev pub TextsAreWrittenByLines : Type 0
TextsAreWrittenByLines =
    (version : Version) (script : List ℕ) (before lines : List (List ℕ)) (names : List TaskName) (refused : List Bool)
    → lines_of script ≡ before ++ lines → list_all not refused ≡ true
    → script_text_as version refused script
    ≡ text_from (overlays version) first_world 1 before []
    ++ flat_map (λ line. line.1) (written (overlays version) (stand_after (overlays version) before names) lines)

-- what the lines with calls of theirs write
abbrev pub own_written : Grammar → Stand → List (List ℕ) → List (List ℕ)
own_written grammar at lines = map (λ line. line.1) (filter (λ line. line.0) (written grammar at lines))

-- the line, or an empty one where its call is one of others
abbrev pub own_line : Stand → Asked → List ℕ → List ℕ
own_line at None line = line
own_line at (Some call) line = cond (is_among same_name call.0 at.names) line []

-- the lines, where those with calls of others are empty
abbrev pub without_others : Grammar → Stand → List (List ℕ) → List (List ℕ)
without_others grammar at [] = []
without_others grammar at (line ∷ lines) =
    own_line at (asked grammar line) line ∷ without_others grammar (next false at (asked grammar line)) lines

-- While the set stays sealed off, its lines write what they write where those of others are empty.
abbrev pub SealedSetsAreToldAsIfAlone : Type 0
SealedSetsAreToldAsIfAlone =
    (at : Stand) (grammar : Grammar) (lines : List (List ℕ)) → IsSealedOffAt at
    → StaysSealed at (map (asked grammar) lines)
    → own_written grammar at lines ≡ own_written grammar at (without_others grammar at lines)
