-- No path at which something is shown is longer than a layer's tree has inodes.
use Rattle.std.proofs.Common.{◌≡◌, ◌≤◌, refl, sym, subst, ◌∙◌, arith, ℕ, nat_eq, List, length, Option, Some, None, slice_get, All, option_map}
use Rattle.vt_spec.proofs.Common.{Layer, ListsNumbers, OpenLayer, get_or_from_slice_get, led, none_is_some, open_layer, same_Some, shown_layers, slice_get-map, slice_get_within}
use Rattle.vt_laws_trees.proofs.layers.layers.ShownAtPath.{computed}
use Rattle.vt_laws_trees.specs.Overlays.MergedTrees.{layers_shown}
use Rattle.vt_laws_trees.specs.Overlays.TreesSeen.{PathsAreNoLonger, files_of}
pub use Rattle.vt_laws_trees.proofs.layers.layers.ShownPaths.{length-led}

pub all_at : {A : Type 0} (P : A → Type 0) (list : List A) → All P list → (k : ℕ) (a : A)
    → slice_get list k ≡ Some a → P a
all_at P list all k a e = subst P (get_or_from_slice_get list k a a e) (all k a (slice_get_within list k a e))

pub paths_are_no_longer : PathsAreNoLonger
paths_are_no_longer world filesystem overlay longest path seen is listed larger s =
    let has = ((computed (layers_shown world overlay) path seen).0 s).has_uncut.0 in
    by has.0 (slice_get (shown_layers overlay) seen.layer) refl has.1
    (sym (slice_get-map (open_layer nat_eq world) (shown_layers overlay) seen.layer) ∙ has.1) has.2
  where
    by : (layer : OpenLayer ℕ) (o : Option (Layer ℕ)) → slice_get (shown_layers overlay) seen.layer ≡ o
        → slice_get (layers_shown world overlay) seen.layer ≡ Some layer
        → option_map (open_layer nat_eq world) o ≡ Some layer
        → led layer.tree layer.directory path ≡ Some seen.object → length path ≤ longest
    by layer None s at m l = none_is_some layer m
    by layer (Some plain) s at m l =
        let same = same_Some (open_layer nat_eq world plain) layer m in
        let files = files_of world plain in
        let tree = (is.layers seen.layer (open_layer nat_eq world plain) (cc)).0 in
        let within = length-led files tree
        (all_at (λ (l : Layer ℕ). ListsNumbers nat_eq (files_of world l)) (shown_layers overlay) listed
        seen.layer plain s) plain.directory path seen.object
        (subst (λ (l : OpenLayer ℕ). led l.tree l.directory path ≡ Some seen.object) (sym same) l) in
        let most = all_at (λ (l : Layer ℕ). length (files_of world l).numbers ≤ longest) (shown_layers overlay) larger
        seen.layer plain s in
        omega (arith, within, most)
