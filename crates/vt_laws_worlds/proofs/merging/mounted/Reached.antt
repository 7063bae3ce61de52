-- Names lead to the layers of a new overlay in the world that its mounting leaves.
use Rattle.std.proofs.Common.{arith, ◌≡◌, sym, ap, subst, ◌∙◌, ◌*◌, ℕ, nat_eq, true, List, [], ◌∷◌, Some, All}
use Rattle.vt_spec.proofs.Common.{All-cons, All-head, All-nil, All-tail, IsReached, Layer, MountOverlay, World, and_parts, call_outcome, evens, filesystem_numbered, filesystems_changed_by, is_plain_layer, judge_in, layers_of, list_all}
use Rattle.vt_spec.proofs.Tables.{overlay_at}
use Rattle.vt_laws_trees.specs.Layers.Layers.Mounted.{AreLayers}
use Rattle.vt_laws_trees.proofs.layers.directories.Later.{plain_is_old, same_filesystem}
use Rattle.vt_laws_trees.proofs.layers.mounting.Walked.{all_plain, are_walked, has_layers, shown_plain}
use Rattle.vt_laws_worlds.specs.Merging.MountedAnew.{MountedLayersAreReached, world_mounted}
use Rattle.vt_laws_trees.proofs.layers.mounting.Reached.{layers_are_reached}
use Rattle.vt_laws_worlds.proofs.merging.mounted.Again.{files_raised, granted_so, world_is}
use Rattle.vt_laws_trees.proofs.layers.mounting.Kept.{overlay_is_mounted}

-- what holds of the trees of plain layers holds later, where those are as they were
module _ (world later : World ℕ) (same : (layer : Layer ℕ) → is_plain_layer nat_eq world layer ≡ true
    → (filesystem_numbered nat_eq later layer.filesystem).files
    ≡ (filesystem_numbered nat_eq world layer.filesystem).files) where
  abbrev ReachedIn : World ℕ → Layer ℕ → Type 0
  ReachedIn w layer = IsReached (filesystem_numbered nat_eq w layer.filesystem).files.tree layer.directory

  reached_later : (layers : List (Layer ℕ)) → list_all (is_plain_layer nat_eq world) layers ≡ true
      → All (ReachedIn world) layers → All (ReachedIn later) layers
  reached_later [] plain are = All-nil (ReachedIn later)
  reached_later (layer ∷ layers) plain are =
      let parts = and_parts (is_plain_layer nat_eq world layer) (list_all (is_plain_layer nat_eq world) layers) plain in
      All-cons (ReachedIn later) layer layers
      (subst (λ files. IsReached files.tree layer.directory) (sym (same layer parts.0)) (All-head
      (ReachedIn world) layer layers are)) (reached_later layers parts.1 (All-tail (ReachedIn world) layer layers are))

pub mounted_layers_are_reached : MountedLayersAreReached
mounted_layers_are_reached fresh world task path words flags places conditions are_new called grants walked =
    let granted = granted_so conditions are_new called path words flags grants in
    let mounts = overlay_is_mounted world fresh task flags path words places walked granted in
    let are = are_walked world task words places walked in
    let overlay = overlay_at nat_eq world task places in
    let layers : AreLayers world overlay =
    (has_layers world task places are mounts.passed, shown_plain world task places are mounts.passed) in
    let distinct : (j k : ℕ) → evens fresh j ≡ evens fresh k → j
    ≡ k = λ j k e. let same = are_new.distinct (2 * j) (2 * k) e in omega (arith, same) in
    reached_later world (world_mounted fresh world task path words flags) (λ layer plain.
    ap (λ w. (filesystem_numbered nat_eq w layer.filesystem).files)
    (world_is conditions are_new called path words flags grants)
    ∙ files_raised (filesystems_changed_by nat_eq world (judge_in nat_eq fresh world task (MountOverlay path
    (Some words) flags))) layer.filesystem
    (call_outcome nat_eq fresh world task (MountOverlay path (Some words) flags)).world.filesystems
    ∙ ap (λ w. (filesystem_numbered nat_eq w layer.filesystem).files) mounts.is
    ∙ ap (λ f. f.files) (same_filesystem world conditions overlay layers (evens fresh) distinct (are_new.unused (2 *
    (2 * 0))) layer.filesystem
    (plain_is_old world conditions overlay layers (evens fresh) distinct (are_new.unused (2 * (2 * 0))) layer plain)))
    (layers_of overlay) (all_plain world task places are mounts.passed)
    (layers_are_reached world task words places conditions walked)
