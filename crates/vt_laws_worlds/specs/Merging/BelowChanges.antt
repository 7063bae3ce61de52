-- What lower layers show before and after a change of an overlay, if what the upper layer has there is left out: the
-- kernel's overlayfs document, "upper and lower" and "whiteouts and opaque directories".
use Rattle.std.specs.Prelude.{List, None, [], ℕ, ◌++◌, ◌∷◌, ◌≡◌, ◌⊎◌}
use Rattle.vt_spec.specs.Language.Changes.{Change}
use Rattle.vt_laws_trees.specs.Overlays.WholeChanges.{IsAskedWell}
use Rattle.vt_laws_worlds.specs.Merging.UpperChanges.{OfCopies, directory_below, seen_below}
use Rattle.vt_laws_worlds.specs.Merging.UpperCalls.{Asks, ChangeAt, changed_above}
use Rattle.vt_laws_worlds.specs.Merging.UpperCalls.ChangeAt.{LinkAt, MakeAt, MoveAt, RemoveAt}

-- a path goes on from another by one name or more
abbrev pub LiesUnder : List (List ℕ) → List (List ℕ) → Type 0
LiesUnder top path = (word : List ℕ) × (rest : List (List ℕ)) × (top ++ word ∷ rest ≡ path)

-- the names that a change ends: the one that is removed, and the two of a move, which leaves the old one and replaces
-- what has the new one
abbrev pub IsEnded : ChangeAt → List (List ℕ) → Type 0
IsEnded (RemoveAt path name) top = top ≡ path ++ name ∷ []
IsEnded (MoveAt from old to new) top = (top ≡ from ++ old ∷ []) ⊎ (top ≡ to ++ new ∷ [])
IsEnded at top = ⊥

-- What lower layers show at a path that does not go on from such a name, and whether it is a directory, is the same
-- before a change and after it: at every path, if no name is ended.
abbrev pub BelowStays : Type 0
BelowStays =
    OfCopies (λ fresh stack merge.
    (change : Change ℕ) (at : ChangeAt) (path : List (List ℕ)) → IsAskedWell stack merge change → Asks merge change at
    → ((top : List (List ℕ)) → IsEnded at top → ¬ (LiesUnder top path))
    → (seen_below stack (changed_above fresh stack merge.upper at) path ≡ seen_below stack merge.upper path)
    × (directory_below stack (changed_above fresh stack merge.upper at) path
    ≡ directory_below stack merge.upper path))

-- None of these names goes on from another, so at each of them it is the same: what a whiteout then hides at a name
-- that was removed or left is what lay below it before.
abbrev pub BelowNames : Type 0
BelowNames =
    OfCopies (λ fresh stack merge.
    (change : Change ℕ) (at : ChangeAt) (top : List (List ℕ)) → IsAskedWell stack merge change → Asks merge change at
    → IsEnded at top
    → (seen_below stack (changed_above fresh stack merge.upper at) top ≡ seen_below stack merge.upper top)
    × (directory_below stack (changed_above fresh stack merge.upper at) top
    ≡ directory_below stack merge.upper top))

-- At a path that goes on from one they show nothing after it.
abbrev pub BelowEnds : Type 0
BelowEnds =
    OfCopies (λ fresh stack merge.
    (change : Change ℕ) (at : ChangeAt) (top path : List (List ℕ)) → IsAskedWell stack merge change
    → Asks merge change at → IsEnded at top → LiesUnder top path
    → seen_below stack (changed_above fresh stack merge.upper at) path ≡ None)

-- the name that a change gives to a new object, or to one that has others
abbrev pub IsGiven : ChangeAt → List (List ℕ) → Type 0
IsGiven (MakeAt path name node) top = top ≡ path ++ name ∷ []
IsGiven (LinkAt old path name) top = top ≡ path ++ name ∷ []
IsGiven at top = ⊥

-- At a path that goes on from such a name they show nothing, before the change and after it: a new directory is opaque
-- where they have one.
abbrev pub BelowNew : Type 0
BelowNew =
    OfCopies (λ fresh stack merge.
    (change : Change ℕ) (at : ChangeAt) (top path : List (List ℕ)) → IsAskedWell stack merge change
    → Asks merge change at → IsGiven at top → LiesUnder top path
    → (seen_below stack merge.upper path ≡ None)
    × (seen_below stack (changed_above fresh stack merge.upper at) path ≡ None))
