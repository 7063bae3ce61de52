-- A layer along whose paths all is as it was.
use Rattle.std.proofs.Common.{◌≡◌, refl, sym, ap, ◌∙◌, ℕ, Bool, true, false, true≢false, not, if◌then◌else◌, List, [], ◌∷◌, Option, Some, None, is_some, unwrap_or}
use Rattle.vt_spec.proofs.Common.{Entries, Node, OpenLayer, Shown, at_path, is_directory, is_directory_node, is_root_path, last_or, node_at_path, shown, then_some, when, without_last}
use Rattle.vt_spec.specs.FileTree.{is_kind, is_kind_in}
use Rattle.vt_spec.specs.Machine.Layers.{view_of}
use Rattle.vt_spec.specs.Machine.Views.{cuts, shown_over}
use Rattle.vt_spec.specs.declared.attributes.Kind.TheVariants.{White}
use Rattle.vt_laws_trees.specs.Layers.Layers.Untouched.{IsKept}
use Rattle.vt_node.specs.Ranks.{rank_among}
use Rattle.vt_location.specs.declared.births.Birth.TheVariants.{Below, Here}
use Rattle.vt_location.specs.declared.locations.NodeRef.{NodeRef}
use Rattle.vt_location.specs.declared.numbers.FilesystemId.{FilesystemId}
use Rattle.vt_location.specs.Numbers.{exchanged}
use Rattle.vt_fs.specs.FilesystemsValue.{Filesystems}
use Rattle.vt_overlay.specs.Merge.LayerValue.{layer_of}
use Rattle.vt_overlay.specs.declared.merge.layers.LayerRef.{LayerRef}
use Rattle.vt_overlay.specs.MergedTree.{node_born}

-- what is kept is a directory if it was, and a whiteout if it was
directory_by_kind : (old new : Option (Node ℕ)) → IsKept old new → is_directory_node new ≡ is_directory_node old
directory_by_kind None None kept = refl
directory_by_kind None (Some now) kept = absurd (true≢false kept.there)
directory_by_kind (Some was) None kept = absurd (true≢false (sym kept.there))
directory_by_kind (Some was) (Some now) kept = ap is_directory kept.kind

white_by_kind : (old new : Option (Node ℕ)) → IsKept old new → is_kind_in White new ≡ is_kind_in White old
white_by_kind None None kept = refl
white_by_kind None (Some now) kept = absurd (true≢false kept.there)
white_by_kind (Some was) None kept = absurd (true≢false (sym kept.there))
white_by_kind (Some was) (Some now) kept = ap (is_kind White) kept.kind

-- every path leads from the layer's directory where it led, to what is as it was
pub record StaysAlong (old new : Filesystems) (layer : LayerRef) : Type 0 where
  pub leads : (path : List (List ℕ)) → at_path (layer_of new layer) path ≡ at_path (layer_of old layer) path
  pub keeps : (path : List (List ℕ))
      → IsKept (node_at_path (layer_of old layer) path) (node_at_path (layer_of new layer) path)

-- the node that is born at a path, by what is found along it
abbrev born : FilesystemId → ℕ → LayerRef → List (List ℕ) → ℕ → ℕ → Bool → Entries ℕ → NodeRef
born number place layer path object parent directory entries = record {
  filesystem = number;
  slot = exchanged layer.directory.filesystem.count object;
  birth = if is_root_path path then Here
      else Below place (exchanged layer.directory.filesystem.count parent)
      (if directory then 0 else rank_among entries (last_or [] path) object);
}

module _ (old new : Filesystems) (layer : LayerRef) (stays : StaysAlong old new layer) where
  -- So the same nodes are born there,
  pub born_alike : (number : FilesystemId) (place : ℕ) (path : List (List ℕ))
      → node_born new number place layer path ≡ node_born old number place layer path
  born_alike number place path = λ i. born number place layer path (unwrap_or (stays.leads path i) 0)
      (unwrap_or (stays.leads (without_last path) i) 0)
      (directory_by_kind (node_at_path (layer_of old layer) path) (node_at_path (layer_of new layer) path)
      (stays.keeps path) i) ((stays.keeps (without_last path)).names i)

  -- and the same is shown of the layer alone.
  pub alone_alike : (path : List (List ℕ)) (object : ℕ) → at_path (layer_of old layer) path ≡ Some object
      → is_some (shown (layer_of old layer ∷ []) path) ≡ true
      → shown (layer_of new layer ∷ []) path ≡ Some (record { layer = 0; object = object })
  alone_alike path object leads there = over (layer_of new layer) (stays.leads path ∙ leads)
      ∙ visible (is_kind_in White ((layer_of old layer).tree.node object))
      (is_kind_in White ((layer_of new layer).tree.node object)) same
      (sym (ap is_some (over (layer_of old layer) leads)) ∙ there)
    where
      seen : Shown ℕ
      seen = record { layer = 0; object = object }

      visible : (b c : Bool) → c ≡ b → is_some (when (not b) seen) ≡ true → when (not c) seen ≡ Some seen
      visible true c is some = absurd (true≢false (sym some))
      visible false true is some = absurd (true≢false is)
      visible false false is some = refl

      over : (l : OpenLayer ℕ) → at_path l path ≡ Some object
          → shown (l ∷ []) path ≡ when (not (is_kind_in White (l.tree.node object))) seen
      over l e = ap (λ o. shown_over (view_of l) 0 o (cuts (view_of l) path) None) e

      same : is_kind_in White ((layer_of new layer).tree.node object)
          ≡ is_kind_in White ((layer_of old layer).tree.node object)
      same = ap (λ o. is_kind_in White (then_some o (layer_of new layer).tree.node)) (sym (stays.leads path ∙ leads))
          ∙ white_by_kind (node_at_path (layer_of old layer) path) (node_at_path (layer_of new layer) path)
          (stays.keeps path) ∙ ap (λ o. is_kind_in White (then_some o (layer_of old layer).tree.node)) leads
