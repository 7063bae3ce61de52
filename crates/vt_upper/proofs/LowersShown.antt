-- What lower layers show, by their own places and by those under an upper layer.
use Rattle.std.proofs.Common.{◌≡◌, ◌∙◌, ◌+◌, ◌∷◌, [], ap, arith, Bool, false, if◌then◌else◌, is_some, List, map, None, not, option_map, Option, refl, slice_get, Some, suc, sym, true, ℕ}
use Rattle.vt_spec.proofs.Common.{OpenLayer, Shown, cuts, holds_of, is_directory_node, is_kind_in, same_Some, shown, shown_from, slice_get-map, view_of, when, without_last}
use Rattle.vt_spec.specs.declared.attributes.Kind.TheVariants.{White}
use Rattle.vt_spec.specs.Machine.CopyUp.{is_directory_shown}
use Rattle.vt_spec.specs.Machine.Views.{View, shown_over, visible}
use Rattle.vt_spec.specs.Machine.Views as views
use Rattle.vt_fs.specs.FilesystemsValue.{Filesystems, files_at}
use Rattle.vt_location.specs.declared.numbers.FilesystemId.{FilesystemId}
use Rattle.vt_location.specs.Locations.{inode_of}
use Rattle.vt_overlay.specs.declared.merge.layers.LayerRef.{LayerRef}
use Rattle.vt_overlay.specs.declared.merge.layers.Real.{Real as Object}
use Rattle.vt_overlay.specs.Merge.LayerValue.{layer_of, layers_of, seen_of}
use Rattle.vt_upper.specs.Below.{is_directory_below, is_shown_below}

abbrev raised : Shown ℕ → Shown ℕ
raised seen = record { layer = seen.layer + 1; object = seen.object }

when_raised : (b : Bool) (seen : Shown ℕ) → when b (raised seen) ≡ option_map raised (when b seen)
when_raised true seen = refl
when_raised false seen = refl

over_raised : (view : View ℕ) (k : ℕ) (leads : Option ℕ) (cut : Bool) (lower higher : Option (Shown ℕ))
    → higher ≡ option_map raised lower
    → shown_over view (k + 1) leads cut higher ≡ option_map raised (shown_over view k leads cut lower)
over_raised view k (Some object) cut lower higher same =
    when_raised (not (is_kind_in White (view.node object))) (record { layer = k; object = object })
over_raised view k None true lower higher same = refl
over_raised view k None false lower higher same = same

shown_raised : (all : List (View ℕ)) (path : List (List ℕ)) (k : ℕ)
    → views.shown_from (k + 1) all path ≡ option_map raised (views.shown_from k all path)
shown_raised [] path k = refl
shown_raised (view ∷ rest) path k = over_raised view k (view.leads path) (views.cuts view path)
    (views.shown_from (k + 1) rest path) (views.shown_from (k + 1 + 1) rest path) (shown_raised rest path (k + 1))

module _ (trees : Filesystems) (upper : LayerRef) (lowers : List LayerRef) (path : List (List ℕ)) where
  abbrev all : List (OpenLayer ℕ)
  all = layers_of trees (upper ∷ lowers)

  kind_raised : (o : Option (Shown ℕ))
      → is_directory_shown all (option_map raised o) ≡ is_directory_shown (layers_of trees lowers) o
  kind_raised None = refl
  kind_raised (Some seen) =
      let more : seen.layer + 1 ≡ suc seen.layer = omega arith in
      ap (λ n. holds_of (λ (layer : OpenLayer ℕ). is_directory_node (layer.tree.node seen.object)) (slice_get all n)) more

  -- the upper layer hides what they show
  pub below_cut : cuts (view_of (layer_of trees upper)) (without_last path) ≡ true
      → is_directory_below trees upper lowers path ≡ false
  below_cut e = ap (λ b. is_directory_shown all (if b then None else shown_from 1 (map view_of (layers_of trees lowers))
      path)) e

  -- or not
  pub below_seen : cuts (view_of (layer_of trees upper)) (without_last path) ≡ false → (o : Option (Shown ℕ))
      → o ≡ shown (layers_of trees lowers) path
      → is_directory_below trees upper lowers path ≡ is_directory_shown (layers_of trees lowers) o
  below_seen e o is = ap (λ b. is_directory_shown all (if b then None else shown_from 1
      (map view_of (layers_of trees lowers)) path)) e
      ∙ ap (is_directory_shown all) (shown_raised (map view_of (layers_of trees lowers)) path 0)
      ∙ kind_raised (shown (layers_of trees lowers) path)
      ∙ ap (is_directory_shown (layers_of trees lowers)) (sym is)

-- so with what they show at all
raised_some : (o : Option (Shown ℕ)) → is_some (option_map raised o) ≡ is_some o
raised_some None = refl
raised_some (Some seen) = refl

pub seen_some : (o : Option Object) → is_some (option_map seen_of o) ≡ is_some o
seen_some None = refl
seen_some (Some real) = refl

module _ (trees : Filesystems) (upper : LayerRef) (lowers : List LayerRef) (path : List (List ℕ)) where
  pub none_below : cuts (view_of (layer_of trees upper)) (without_last path) ≡ true
      → is_shown_below trees upper lowers path ≡ false
  none_below e = ap (λ b. is_some (if b then None else shown_from 1 (map view_of (layers_of trees lowers)) path)) e

  pub some_below : cuts (view_of (layer_of trees upper)) (without_last path) ≡ false → (o : Option (Shown ℕ))
      → o ≡ shown (layers_of trees lowers) path → is_shown_below trees upper lowers path ≡ is_some o
  some_below e o is = ap (λ b. is_some (if b then None else shown_from 1
      (map view_of (layers_of trees lowers)) path)) e
      ∙ ap is_some (shown_raised (map view_of (layers_of trees lowers)) path 0)
      ∙ raised_some (shown (layers_of trees lowers) path) ∙ ap is_some (sym is)

-- the inode of a real object
pub real_kind : (trees : Filesystems) (layers : List LayerRef) (real : Object)
    → option_map (λ (layer : LayerRef). layer.directory.filesystem) (slice_get layers real.layer)
    ≡ Some real.inode.filesystem
    → is_directory_shown (layers_of trees layers) (Some (seen_of real))
    ≡ is_directory_node ((files_at trees real.inode.filesystem.count).tree.node (inode_of real.inode))
real_kind trees layers real placed =
    ap (holds_of (λ (layer : OpenLayer ℕ). is_directory_node (layer.tree.node (inode_of real.inode))))
    (slice_get-map (layer_of trees) layers real.layer) ∙ by (slice_get layers real.layer) placed
  where
    by : (o : Option LayerRef) → option_map (λ (layer : LayerRef). layer.directory.filesystem) o
        ≡ Some real.inode.filesystem
        → holds_of (λ (layer : OpenLayer ℕ). is_directory_node (layer.tree.node (inode_of real.inode)))
        (option_map (layer_of trees) o)
        ≡ is_directory_node ((files_at trees real.inode.filesystem.count).tree.node (inode_of real.inode))
    by None e = absurd cc
    by (Some lower) e =
        let same : lower.directory.filesystem ≡ real.inode.filesystem = same_Some _ _ e in
        ap (λ (id : FilesystemId). is_directory_node ((files_at trees id.count).tree.node (inode_of real.inode))) same
