-- The copies of a path's fronts, from the longest on.
use Rattle.std.proofs.Common.{◌≡◌, ◌∙◌, ◌+◌, ◌-◌, ◌<◌, ◌≤◌, ◌∷◌, ◌++◌, [], append-nil, append_assoc, arith, ap, Bool, false, IsSome, length, List, refl, slice_get, Some, subst, sym, take, true, ℕ}
use Rattle.std.specs.Prelude.{⊤}
use Rattle.vt_spec.proofs.Common.{Content, Node, kind_of, shown}
use Rattle.vt_spec.specs.Rights.{is_directory}
use Rattle.vt_spec.specs.Tree.Content.{Directory, Regular, Symlink, Whiteout}
use Rattle.vt_location.specs.declared.numbers.FilesystemId.{FilesystemId}
use Rattle.vt_fs.specs.FilesystemsValue.{Filesystems}
use Rattle.vt_overlay.specs.declared.merge.layers.LayerRef.{LayerRef}
use Rattle.vt_overlay.specs.Merge.LayerValue.{layers_of}
use Rattle.vt_overlay.specs.MergedTree.{AreLayers}
use Rattle.vt_copyup.specs.Copied.{copied}
use Rattle.vt_copyup.specs.Planned.{AreCopiesFrom, IsCopyIn, names_of}
use Rattle.vt_copyup.specs.Plans.{AreNested}
use Rattle.vt_copyup.specs.declared.plans.Piece.{Piece}
use Rattle.vt_copyup.proofs.Seen.{front_is_directory, front_shown}
use Rattle.vt_copyup.proofs.Ways.{take_all, take_next}

-- what is copied of a directory is one
copied-directory : (with_bytes : Bool) (node : Node ℕ) → is_directory (kind_of node.content) ≡ true
    → is_directory (kind_of (copied with_bytes node).content) ≡ true
copied-directory with_bytes node = by with_bytes node.content
  where
    by : (b : Bool) (content : Content ℕ) → is_directory (kind_of content) ≡ true
        → is_directory (kind_of (copied b (record { attr = node.attr; content = content })).content) ≡ true
    by true (Directory parent entries opaque) d = refl
    by false (Directory parent entries opaque) d = refl
    by true (Regular bytes) d = d
    by false (Regular bytes) d = d
    by true (Symlink text) d = d
    by false (Symlink text) d = d
    by true Whiteout d = d
    by false Whiteout d = d

abbrev FirstHasRoom : List Piece → Type 0
FirstHasRoom [] = ⊤
FirstHasRoom (piece ∷ rest) = 0 < piece.room

-- the copies of all fronts that are longer than so many names
pub record SoFar (with_bytes : Bool) (trees : Filesystems) (layers : List LayerRef) (overlay : FilesystemId) (names : List (List ℕ))
    (start index : ℕ) (pieces : List Piece) : Type 0 where
  pub within : start ≤ index
  pub few : index ≤ length names
  pub copies : AreCopiesFrom with_bytes trees layers overlay (take index names) pieces
  pub whole : take index names ++ names_of pieces ≡ names
  pub nested : AreNested pieces
  pub room : start < index → FirstHasRoom pieces
  pub shows : IsSome (shown (layers_of trees layers) (take index names))

module _ (with_bytes : Bool) (trees : Filesystems) (layers : List LayerRef) (overlay : FilesystemId)
    (names : List (List ℕ)) (start : ℕ) where
  pub so_far_none : start ≤ length names → IsSome (shown (layers_of trees layers) names)
      → SoFar with_bytes trees layers overlay names start (length names) []
  so_far_none within some = record {
    within = within;
    few = omega arith;
    copies = tt;
    whole = append-nil (take (length names) names) ∙ take_all names;
    nested = tt;
    room = λ less. tt;
    shows = subst (λ p. IsSome (shown (layers_of trees layers) p)) (sym (take_all names)) some;
  }

  -- one front less, and its copy
  module _ (are : AreLayers trees layers) (index : ℕ) (rest : List Piece) (piece : Piece)
      (was : SoFar with_bytes trees layers overlay names start (index + 1) rest) (less : start ≤ index)
      (copy : IsCopyIn with_bytes trees layers overlay (take index names) piece.copy)
      (name : slice_get names index ≡ Some piece.copy.name.items)
      (has_room : start < index → 0 < piece.room) where
    next : take (index + 1) names ≡ take index names ++ piece.copy.name.items ∷ []
    next = take_next names index piece.copy.name.items name

    here : IsSome (shown (layers_of trees layers) (take index names ++ piece.copy.name.items ∷ []))
    here = subst (λ p. IsSome (shown (layers_of trees layers) p)) next was.shows

    rest_copies : AreCopiesFrom with_bytes trees layers overlay (take index names ++ piece.copy.name.items ∷ []) rest
    rest_copies = subst (λ p. AreCopiesFrom with_bytes trees layers overlay p rest) next was.copies

    nested_with : (rest : List Piece)
        → AreCopiesFrom with_bytes trees layers overlay (take index names ++ piece.copy.name.items ∷ []) rest
        → FirstHasRoom rest → AreNested rest → AreNested (piece ∷ rest)
    nested_with [] copies room nested = tt
    nested_with (after ∷ rest) copies room nested = (
      subst (λ (node : Node ℕ). is_directory (kind_of node.content) ≡ true) (sym copy.node)
          (copied-directory with_bytes copy.inode (front_is_directory trees layers are
          (take index names ++ piece.copy.name.items ∷ []) after.copy.name.items
          (shown_after copies.0) copy.inode copy.shows)),
      room,
      nested,
    )
      where
        shown_after : IsCopyIn with_bytes trees layers overlay (take index names ++ piece.copy.name.items ∷ []) after.copy
            → IsSome (shown (layers_of trees layers)
            ((take index names ++ piece.copy.name.items ∷ []) ++ after.copy.name.items ∷ []))
        shown_after c = ap Rattle.std.proofs.Common.is_some c.born.shows

    pub so_far_next : SoFar with_bytes trees layers overlay names start index (piece ∷ rest)
    so_far_next = record {
      within = less;
      few = omega (arith, was.few);
      copies = (copy, rest_copies);
      whole = sym (append_assoc (take index names) (piece.copy.name.items ∷ []) (names_of rest))
          ∙ ap (λ p. p ++ names_of rest) (sym next) ∙ was.whole;
      nested = nested_with rest rest_copies (was.room (omega (arith, less))) was.nested;
      room = has_room;
      shows = front_shown trees layers are (take index names) piece.copy.name.items here;
    }
