-- Directories that are merged: those of all layers, and those under a name, moved to the front of a list.
use Rattle.std.proofs.Common.{◌≡◌, ◌∙◌, ◌+◌, ◌++◌, ◌∷◌, ◌<◌, ◌≤◌, [], All, Bool, List, Option, ap, arith, drop, false, get_or, length, map, refl, sym, subst, take, true, ℕ, get_or-drop, IfSome, if◌then◌else◌, option_to_list}
use Rattle.vt_spec.proofs.Common.{All-append, drop_more, entry_at, slice_get-get_or, view_of, common_steps}
use Rattle.std.specs.List.{refill}
use Rattle.vt_fs.specs.FilesystemsValue.{Filesystems}
use Rattle.vt_laws_trees.specs.Layers.Layers.Directories.{PlacedLayer, PlacedView, directories_under, directory_over, placed_from}
use Rattle.vt_overlay.specs.Merge.EntryValue.{IsMergedAt}
use Rattle.vt_overlay.specs.Merge.LayerValue.{layers_of, placed_layers, placed_of, placed_views}
use Rattle.vt_overlay.specs.declared.merge.layers.LayerRef.{LayerRef}
use Rattle.vt_overlay.specs.declared.merge.layers.MergedDirectory.{MergedDirectory}
use Rattle.vt_overlay.proofs.merge.UnderNames.{last_one, next_one}

-- the directory of one layer more
module _ (fs : Filesystems) (layers : List LayerRef) (place : ℕ) (default : LayerRef)
    (within : place < length layers) where
  abbrev own : MergedDirectory
  own = record { layer = place; directory = (get_or layers place default).directory }

  pub own_merged : IsMergedAt fs layers [] own
  own_merged = record {
    lower = get_or layers place default;
    layer = slice_get-get_or layers place default within;
    filesystem = refl;
    leads = refl;
  }

abbrev left_from : Filesystems → List LayerRef → ℕ → List LayerRef → List (PlacedView ℕ)
left_from fs layers place left = placed_from place (map view_of (layers_of fs left))

pub one_placed : (fs : Filesystems) (layers : List LayerRef) (merged new : List MergedDirectory) (place : ℕ)
    (default : LayerRef) → place < length layers
    → new ≡ merged ++ record { layer = place; directory = (get_or layers place default).directory } ∷ []
    → placed_views fs new ++ left_from fs layers (place + 1) (drop (place + 1) layers)
    ≡ placed_views fs merged ++ left_from fs layers place (drop place layers)
one_placed fs layers merged new place default within grown =
    grind (arith, common_steps, drop_more layers place default within)

-- a list that is written over by one of its own length is that one
pub refilled : {X : Type 0} (xs ws : List X) → length ws ≡ length xs → refill (length xs) xs ws ≡ ws
refilled xs ws same = grind (arith, common_steps)

-- what was not moved yet is where it was
pub same_there : {X : Type 0} (now old : List X) (index : ℕ) (default : X)
    → ((place : ℕ) → index ≤ place → drop place now ≡ drop place old)
    → get_or now index default ≡ get_or old index default
same_there now old index default same = ap (λ n. get_or now n default) (omega arith)
    ∙ sym (get_or-drop index now 0 default) ∙ ap (λ l. get_or l 0 default) (same index (omega arith))
    ∙ get_or-drop index old 0 default ∙ ap (λ n. get_or old n default) (omega arith)

-- one more, if there is one
pub All-option : {X : Type 0} (P : X → Type 0) (o : Option X) → IfSome o P → All P (option_to_list o)
All-option P o h = grind (arith, common_steps)

-- one step: a directory is looked into, and what it has under the name is kept
module _ (fs : Filesystems) (name : List ℕ) (old now new : List MergedDirectory) (index kept count : ℕ)
    (default : MergedDirectory) (directory : Option MergedDirectory) (h : Bool) (within : index < length old)
    (so_far : placed_layers fs (take kept now) ++ directories_under (placed_layers fs (drop index old)) name
    ≡ directories_under (placed_layers fs old) name)
    (left : (place : ℕ) → index ≤ place → drop place now ≡ drop place old)
    (grown : take count new ≡ take kept now ++ option_to_list directory) where
  abbrev here : MergedDirectory → PlacedLayer ℕ
  here top = placed_of fs top

  abbrev Found : MergedDirectory → Type 0
  Found top = (lower : List (PlacedLayer ℕ)) → placed_layers fs (option_to_list directory) ++ (if h then [] else lower)
      ≡ directory_over (here top) (entry_at (here top).open_layer.tree (here top).open_layer.directory name) lower

  same : get_or now index default ≡ get_or old index default
  same = same_there now old index default left

  pub last_kept : Found (get_or now index default) → h ≡ true
      → placed_layers fs (take count new) ≡ directories_under (placed_layers fs old) name
  last_kept found = last_one fs name old (take kept now) (take count new) index default directory h within so_far
      (subst Found same found) grown

  pub next_kept : Found (get_or now index default) → h ≡ false
      → placed_layers fs (take count new) ++ directories_under (placed_layers fs (drop (index + 1) old)) name
      ≡ directories_under (placed_layers fs old) name
  next_kept found = next_one fs name old (take kept now) (take count new) index default directory h within so_far
      (subst Found same found) grown

  pub led_kept : (layers : List LayerRef) (path : List (List ℕ)) → (IsMergedAt fs layers path (get_or now index default)
      → IfSome directory (IsMergedAt fs layers (path ++ name ∷ []))) → All (IsMergedAt fs layers path) old
      → All (IsMergedAt fs layers (path ++ name ∷ [])) (take kept now)
      → All (IsMergedAt fs layers (path ++ name ∷ [])) (take count new)
  led_kept layers path found all kept_led = subst (All (IsMergedAt fs layers (path ++ name ∷ []))) (sym grown)
      (All-append (IsMergedAt fs layers (path ++ name ∷ [])) (take kept now) (option_to_list directory) kept_led
      (All-option (IsMergedAt fs layers (path ++ name ∷ [])) directory
      (found (subst (IsMergedAt fs layers path) (sym same) (all index default within)))))
