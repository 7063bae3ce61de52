-- A merged tree of the definitions is the tree that looks see.
use Rattle.std.proofs.Common.{◌≡◌, ◌∙◌, ◌≤◌, ◌+◌, ◌∷◌, [], All, arith, ap, length, List, map, nat_eq, None, option_map, Option, refl, Some, subst, sym, ℕ}
use Rattle.vt_spec.proofs.Common.{All-cons, All-nil, Filesystem, ListsNumbers, Lower, Node, Real, Upper, World, real_node, then_some}
use Rattle.vt_spec.specs.FileTree.{FileTree}
use Rattle.vt_spec.specs.Machine.World.{Layer}
use Rattle.vt_laws_trees.proofs.overlays.seen.SeenTrees.{trees_are_seen}
use Rattle.vt_laws_trees.specs.Overlays.MergedTrees.{node_as}
use Rattle.vt_laws_trees.specs.Overlays.TreesSeen.{files_of, node_by, path_numbered, tree_seen}
use Rattle.vt_fs.proofs.Numbers.{found_by_number, numbers_listed}
use Rattle.vt_fs.specs.FilesystemsValue.{Filesystems, entry_at, files_at}
use Rattle.vt_overlay.specs.declared.merge.layers.LayerRef.{LayerRef}
use Rattle.vt_overlay.specs.MergedTree.{layer_seen, longest, plain_world}
use Rattle.vt_upper_overlay.specs.Laws.{LooksSeeMergedTrees, with_objects}
use Rattle.vt_upper_overlay.specs.MergedAbove.{held, merged_above, real_number, upper_seen}
use Rattle.vt_upper_overlay.specs.UpperValue.{UpperOverlayValue}
use Rattle.vt_upper_overlay.proofs.Shown.{all_layers}

module _ (trees : Filesystems) where
  -- the tree of a layer
  files_are : (layer : LayerRef) → files_of (plain_world trees) (layer_seen layer)
      ≡ files_at trees layer.directory.filesystem.count
  files_are layer =
      ap (λ (filesystem : Filesystem ℕ). filesystem.files) (found_by_number trees layer.directory.filesystem.count)

  abbrev IsListed : Layer ℕ → Type 0
  IsListed layer = ListsNumbers nat_eq (files_of (plain_world trees) layer)

  listed : (layers : List LayerRef) → All IsListed (map layer_seen layers)
  listed [] = All-nil IsListed
  listed (layer ∷ rest) = All-cons IsListed (layer_seen layer) (map layer_seen rest)
      (subst (ListsNumbers nat_eq) (sym (files_are layer))
      (numbers_listed (entry_at trees layer.directory.filesystem.count))) (listed rest)

  -- no layer has more inodes than all have together
  abbrev IsNoLarger : ℕ → Layer ℕ → Type 0
  IsNoLarger most layer = length (files_of (plain_world trees) layer).numbers ≤ most

  no_larger : (layers : List LayerRef) (more : ℕ) → All (IsNoLarger (more + longest trees layers)) (map layer_seen layers)
  no_larger [] more = All-nil (IsNoLarger (more + longest trees []))
  no_larger (layer ∷ rest) more =
      let own = length (files_at trees layer.directory.filesystem.count).numbers in
      let size = ap (λ (files : FileTree ℕ). length files.numbers) (files_are layer) in
      let whole : (more + own) + longest trees rest ≡ more + longest trees (layer ∷ rest) = omega arith in
      All-cons (IsNoLarger (more + longest trees (layer ∷ rest))) (layer_seen layer) (map layer_seen rest)
      (omega (arith, size))
      (subst (λ most. All (IsNoLarger most) (map layer_seen rest)) whole (no_larger rest (more + own)))

module _ (trees : Filesystems) (overlay : UpperOverlayValue) (real : ℕ → Option (Real ℕ)) where
  abbrev world : World ℕ
  world = plain_world trees

  same_node : (object : Real ℕ)
      → real_node nat_eq world (with_objects overlay real) object ≡ real_node nat_eq world (upper_seen overlay) object
  same_node (Upper object) = refl
  same_node (Lower layer path) = refl

  same_found : (number : ℕ) (o : Option (List (List ℕ)))
      → node_by (real_number trees overlay) (held trees overlay) (longest trees overlay.layers.lowers) world
      (with_objects overlay real) number o
      ≡ node_by (real_number trees overlay) (held trees overlay) (longest trees overlay.layers.lowers) world
      (upper_seen overlay) number o
  same_found number None =
      ap (λ (f : Real ℕ → Option (Node ℕ)). option_map (node_as number []) (then_some (held trees overlay number) f))
      (λ i. λ object. same_node object i)
  same_found number (Some path) = refl

  same_tree : tree_seen (real_number trees overlay) (held trees overlay) (longest trees overlay.layers.lowers) world
      (with_objects overlay real) ≡ merged_above trees overlay
  same_tree = λ i. record {
    root = (merged_above trees overlay).root;
    node = λ number. same_found number (path_numbered (real_number trees overlay)
        (longest trees overlay.layers.lowers) world (upper_seen overlay) number) i;
  }

pub looks_see : LooksSeeMergedTrees
looks_see trees overlay filesystem real merged named =
    let layers = overlay.layers.lowers in
    let most : 0 + longest trees layers ≡ longest trees layers = omega arith in
    (trees_are_seen (real_number trees overlay) (held trees overlay) (plain_world trees) filesystem
    (with_objects overlay real) merged named (longest trees layers)
    (subst (All (IsListed trees)) (sym (all_layers layers)) (listed trees layers))
    (subst (All (IsNoLarger trees (longest trees layers))) (sym (all_layers layers))
    (subst (λ m. All (IsNoLarger trees m) (map layer_seen layers)) most (no_larger trees layers 0)))).0
    ∙ same_tree trees overlay real
