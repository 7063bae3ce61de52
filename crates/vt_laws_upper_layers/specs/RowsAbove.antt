-- What a change of an overlay makes of its upper layer's tree is a row of plain changes, which layers tell: the
-- kernel's overlayfs document, "upper and lower" (copy_up) and "whiteouts and opaque directories".
use Rattle.std.specs.Prelude.{List, [], is_some, ℕ, ◌++◌, ◌∷◌, ◌≡◌}
use Rattle.vt_spec.specs.FileTree.{FileTree}
use Rattle.vt_spec.specs.Language.Changes.{Change, content_with_parent}
use Rattle.vt_spec.specs.Language.Changes.Change.{Make, SetAttr, SetBytes, SetMark}
use Rattle.vt_spec.specs.Lists.{Fresh, evens, odds}
use Rattle.vt_spec.specs.Machine.CopyUp.{Stack}
use Rattle.vt_laws_trees.specs.Overlays.WholeChanges.{IsAskedWell}
use Rattle.vt_laws_worlds.specs.Merging.UpperCalls.{Asks, ChangeAt, changed_above}
use Rattle.vt_laws_worlds.specs.Merging.UpperCalls.ChangeAt.{AttrAt, BytesAt, CopyAt, LinkAt, MakeAt, MarkAt, MoveAt, RemoveAt}
use Rattle.vt_laws_worlds.specs.Merging.UpperChanges.{OfCopies, copied_for, copied_to, copy_node, directory_above, directory_below, object_above, object_of, seen_below}
use Rattle.vt_laws_worlds.specs.Seen.CopySteps.{Copy, made_in_turn}
use Rattle.vt_laws_upper_layers.specs.Rows.{after_row, marking, row_linked, row_made, row_moved, row_removed}

-- copies made one in the other, the first in a directory
abbrev pub row_copied : ℕ → List Copy → List (Change ℕ)
row_copied directory [] = []
row_copied directory (copy ∷ rest) =
    Make directory copy.name copy.number (copy_node directory copy.node) ∷ row_copied copy.number rest

-- Planned copies are a row.
abbrev pub CopiesInARow : Type 0
CopiesInARow =
    (files : FileTree ℕ) (directory : ℕ) (copies : List Copy)
    → after_row files (row_copied directory copies) ≡ made_in_turn files directory copies

-- the upper layer's tree once all is copied that a change asks for
abbrev pub copied_above : Fresh ℕ → Stack ℕ → FileTree ℕ → ChangeAt → FileTree ℕ
copied_above fresh stack upper (MakeAt path name node) = copied_to (evens fresh) stack upper path
copied_above fresh stack upper (LinkAt old path name) =
    copied_to (odds fresh) stack (copied_for (evens fresh) stack upper old) path
copied_above fresh stack upper (RemoveAt path name) = copied_to (evens fresh) stack upper path
copied_above fresh stack upper (MoveAt from old to new) =
    copied_to (evens (odds fresh)) stack (copied_to (evens fresh) stack upper (from ++ old ∷ [])) to
copied_above fresh stack upper (BytesAt place bytes) = copied_for fresh stack upper place
copied_above fresh stack upper (AttrAt place attr) = copied_for fresh stack upper place
copied_above fresh stack upper (MarkAt place opaque) = copied_for fresh stack upper place
copied_above fresh stack upper (CopyAt place) = copied_for fresh stack upper place

-- The row of changes that it makes then. What lower layers show, and what has no copy, is known before.
abbrev pub row_above : Fresh ℕ → Stack ℕ → (before : FileTree ℕ) → (copied : FileTree ℕ) → ChangeAt → List (Change ℕ)
row_above fresh stack before copied (MakeAt path name node) =
    row_made copied (object_above stack copied path) name (odds fresh 0)
    (record { attr = node.attr; content = content_with_parent (object_above stack copied path) node.content })
    ++ marking (directory_below stack before (path ++ name ∷ [])) (odds fresh 0)
row_above fresh stack before copied (LinkAt old path name) =
    row_linked copied (object_above stack copied path) name (object_of (evens fresh) stack before old)
row_above fresh stack before copied (RemoveAt path name) =
    row_removed (is_some (seen_below stack before (path ++ name ∷ []))) (odds fresh) stack.mounter copied
    (object_above stack copied path) name (directory_above stack copied (path ++ name ∷ []))
row_above fresh stack before copied (MoveAt from old to new) =
    row_moved (is_some (seen_below stack before (from ++ old ∷ [])))
    (directory_below stack before (to ++ new ∷ [])) (odds (odds fresh)) stack.mounter copied
    (object_above stack copied from) old (object_above stack copied to) new
    (object_above stack copied (from ++ old ∷ [])) (directory_above stack copied (to ++ new ∷ []))
row_above fresh stack before copied (BytesAt place bytes) = SetBytes (object_of fresh stack before place) bytes ∷ []
row_above fresh stack before copied (AttrAt place attr) = SetAttr (object_of fresh stack before place) attr ∷ []
row_above fresh stack before copied (MarkAt place opaque) = SetMark (object_of fresh stack before place) opaque ∷ []
row_above fresh stack before copied (CopyAt place) = []

-- So the tree after copies and row is that after the change.
abbrev pub RowsAreChangesAbove : Type 0
RowsAreChangesAbove =
    OfCopies (λ fresh stack merge.
    (change : Change ℕ) (at : ChangeAt) → IsAskedWell stack merge change → Asks merge change at
    → after_row (copied_above fresh stack merge.upper at)
    (row_above fresh stack merge.upper (copied_above fresh stack merge.upper at) at)
    ≡ changed_above fresh stack merge.upper at)
