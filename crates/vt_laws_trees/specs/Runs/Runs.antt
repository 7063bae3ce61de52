-- A run that keeps its world but for change numbers and the order of numbers beside trees, and gives numbers out again,
-- has the one text of its script.
use Rattle.std.specs.Prelude.{Bool, List, None, Some, [], false, nat_eq, true, ℕ, ◌++◌, ◌+◌, ◌<◌, ◌∷◌, ◌≡◌}
use Rattle.vt_laws_rules.specs.Numbers.{Allotment, ServesWithRoom, is_in_hand}
use Rattle.vt_spec.specs.Language.Script.{Grammar, lines_of}
use Rattle.vt_spec.specs.Lists.{Fresh}
use Rattle.vt_spec.specs.Machine.Run.{line_step, step_text, step_world, text_of}
use Rattle.vt_spec.specs.Machine.SameWorlds.{SameWorlds}
use Rattle.vt_spec.specs.Machine.World.{World, opening}
use Rattle.vt_laws_trees.specs.Trees.Calls.{HasNoOverlays}

-- An allotment of the numbers in hand, none of which is left over: so the same numbers are in hand after the line.
pub record ServesInHand (in_hand : ℕ → Bool) (world : World ℕ) (allotment : Allotment) : Type 0 where
  pub serves : ServesWithRoom in_hand world allotment
  pub stays : (number : ℕ) → in_hand number ≡ true → is_in_hand allotment number ≡ true

-- Which text may be written for these lines, of which the refused ones are given from the first line on: each line is
-- handed a supply with room out of the numbers in hand, and the run goes on from any world that is the same.
abbrev pub TellsAlike : Grammar → (ℕ → Bool) → World ℕ → ℕ → List (List ℕ) → List Bool → List ℕ → Type 0
TellsAlike grammar in_hand world number [] refused text = text ≡ []
TellsAlike grammar in_hand world number (line ∷ lines) [] text = ⊥
TellsAlike grammar in_hand world number (line ∷ lines) (true ∷ refused) text =
    (next : World ℕ) × SameWorlds (step_world world (line_step nat_eq grammar world line None)) next
    × (rest : List ℕ) × (text ≡ step_text number (line_step nat_eq grammar world line None) ++ rest)
    × TellsAlike grammar in_hand next (number + 1) lines refused rest
TellsAlike grammar in_hand world number (line ∷ lines) (false ∷ refused) text =
    (allotment : Allotment) × ServesInHand in_hand world allotment
    × (next : World ℕ) × SameWorlds (step_world world (line_step nat_eq grammar world line (Some allotment.new))) next
    × (rest : List ℕ) × (text ≡ step_text number (line_step nat_eq grammar world line (Some allotment.new)) ++ rest)
    × TellsAlike grammar in_hand next (number + 1) lines refused rest

-- Infinitely many numbers are not in hand, each with a place in a list of them.
pub record LeavesEndless (in_hand : ℕ → Bool) : Type 0 where
  pub left_over : ℕ → ℕ
  pub place : ℕ → ℕ
  pub out : (k : ℕ) → in_hand (left_over k) ≡ false
  pub place_left : (k : ℕ) → place (left_over k) ≡ k
  pub left_place : (number : ℕ) → in_hand number ≡ false → left_over (place number) ≡ number

-- the four numbers of an opening world are in hand, and no two are equal
pub record OpensInHand (in_hand : ℕ → Bool) (fresh : Fresh ℕ) : Type 0 where
  pub given : (k : ℕ) → k < 4 → in_hand (fresh k) ≡ true
  pub apart : (j k : ℕ) → j < 4 → k < 4 → fresh j ≡ fresh k → j ≡ k

-- So from any opening world whose numbers are in hand a script without overlays has its one text, whatever numbers of
-- those in hand each line is handed.
abbrev pub RunsHaveOneText : Type 0
RunsHaveOneText =
    (grammar : Grammar) (refused : List Bool) (script text : List ℕ) (in_hand : ℕ → Bool) (fresh : Fresh ℕ)
    → LeavesEndless in_hand → OpensInHand in_hand fresh → HasNoOverlays grammar (lines_of script)
    → TellsAlike grammar in_hand (opening nat_eq fresh) 1 (lines_of script) refused text
    → text ≡ text_of grammar refused script
