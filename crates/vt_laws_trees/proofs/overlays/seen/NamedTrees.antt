-- What is seen so is named so.
use Rattle.std.proofs.Common.{◌≡◌, ◌≢◌, refl, sym, ap, ◌∙◌, ℕ, nat_eq, List, [], ◌∷◌, Option, Some, None}
use Rattle.vt_spec.proofs.Common.{Filesystem, HasName, Overlay, Real, World, found_passes, holds_of, number_at_path, paths_from, same_Some}
use Rattle.vt_laws_trees.proofs.layers.layers.ShownPaths.{not_empty, last_step}
use Rattle.vt_laws_trees.specs.Overlays.MergedTrees.{IsMergedTree, layers_shown, number_shown}
use Rattle.vt_laws_trees.proofs.overlays.merged.Numbers.{numbers_are_those}
use Rattle.vt_laws_trees.specs.Overlays.TreesSeen.{SeenTreesAreNamed, path_numbered, real_by, real_seen}
use Rattle.vt_laws_trees.proofs.overlays.seen.SeenTrees.{shown_number}

module _ (number_of : Real ℕ → ℕ) (held : ℕ → Option (Real ℕ)) (longest : ℕ) {world : World ℕ}
    {filesystem : Filesystem ℕ} {overlay : Overlay ℕ} (is : IsMergedTree world filesystem overlay)
    (real : overlay.real ≡ real_seen number_of held longest world overlay)
    (holds : (number : ℕ) (object : Real ℕ) → held number ≡ Some object → number ≡ number_of object) where
  abbrev found : ℕ → Option (List (List ℕ))
  found number = path_numbered number_of longest world overlay number

  real_is : (number : ℕ) (o : Option (List (List ℕ))) → found number ≡ o
      → overlay.real number ≡ real_by number_of held longest world overlay number o
  real_is number o e = ap (λ f. f number) real ∙ ap (real_by number_of held longest world overlay number) e

  shows : (number : ℕ) (path : List (List ℕ)) → found number ≡ Some path
      → number_shown number_of world overlay path ≡ Some number
  shows number path e = shown_number number (number_shown number_of world overlay path)
      (found_passes (λ path. holds_of (nat_eq number) (number_shown number_of world overlay path))
      (paths_from longest (layers_shown world overlay) []) path e)

  numbered : (number : ℕ) (object : Real ℕ) → overlay.real number ≡ Some object → number ≡ number_of object
  numbered number object e = by (found number) refl
    where
      by : (o : Option (List (List ℕ))) → found number ≡ o → number ≡ number_of object
      by None f = holds number object (sym (real_is number None f) ∙ e)
      by (Some path) f = same_Some number (number_of object) (cc (shows number path f, real_is number (Some path) f))

  -- so paths lead to the numbers that are shown, whatever is held
  lead : (path : List (List ℕ)) → number_at_path filesystem.files path ≡ number_shown number_of world overlay path
  lead path = numbers_are_those number_of overlay.real world filesystem overlay is
      (record { numbered = numbered; unnamed = λ number no_name no_root. refl }) path

  unnamed : (number : ℕ) → ¬ (HasName filesystem.files.tree number) → number ≢ filesystem.files.tree.root
      → overlay.real number ≡ held number
  unnamed number no_name no_root = by (found number) refl
    where
      at : (path : List (List ℕ)) → number_at_path filesystem.files path ≡ Some number → ⊥
      at [] e = no_root (sym (same_Some filesystem.files.tree.root number e))
      at (word ∷ path) e =
          let tree = filesystem.files.tree in
          let last = last_step tree tree.root (word ∷ path) number (not_empty word path) e in
          no_name (last.directory, last.name, last.entry)

      by : (o : Option (List (List ℕ))) → found number ≡ o → overlay.real number ≡ held number
      by None f = real_is number None f
      by (Some path) f = absurd (at path (lead path ∙ shows number path f))

pub seen_trees_are_named : SeenTreesAreNamed
seen_trees_are_named number_of held longest world filesystem overlay is real holds = record {
  numbered = numbered number_of held longest is real holds;
  unnamed = unnamed number_of held longest is real holds;
}
