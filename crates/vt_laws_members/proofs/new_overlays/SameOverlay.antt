-- The overlay that is made of layers which a sealed set uses is the same in the part of the set.
use Rattle.std.proofs.Common.{◌≡◌, ◌≤◌, refl, sym, subst, ◌∙◌, inl, true≢false, arith, ℕ, zero, suc, ◌+◌, nat_eq, true, List, [], ◌∷◌, ◌++◌, length, map, not, Bool, Option, Some, None, slice_get, find, sum, option_map}
use Rattle.vt_spec.proofs.Common.{Among, Filesystem, Fresh, IsTree, IsWorld, Layer, ListsNumbers, OpenLayer, Overlay, Shown, TaskName, World, among_from_list_all, and_parts, common_steps, contains_from_among, filesystem_numbered, inode_count, is_among, is_directory_node, is_overlay, is_plain_layer, led, map_alike, merged_objects, names_shown, none_is_some, open_layer, overlay_filesystem, part_of, paths_from, same_Some, shown, shown_layers, slice_get-map, sum_by-cons, used_filesystems}
use Rattle.vt_laws_members.proofs.Common.{AreLayers, flat_map_alike, found, nth_among}
use Rattle.vt_laws_trees.proofs.overlays.seen.Paths.{length-led}
use Rattle.vt_laws_trees.proofs.layers.layers.ShownAtPath.{computed}
use Rattle.vt_laws_trees.proofs.layers.layers.ShownMounted.{bounded}
use Rattle.vt_laws_trees.proofs.layers.layers.ShownNames.{names_are_those_shown}
use Rattle.vt_laws_trees.proofs.layers.layers.ShownPaths.{length_longer}
use Rattle.vt_laws_trees.proofs.layers.layers.UpperWorld.{all_found}

-- a part of a sum is no more than the sum
in_sum : (test : Filesystem ℕ → Bool) (list : List (Filesystem ℕ)) (filesystem : Filesystem ℕ)
    → find test list ≡ Some filesystem
    → length filesystem.files.numbers ≤ sum (map (λ (f : Filesystem ℕ). length f.files.numbers) list)
in_sum test [] filesystem e = none_is_some filesystem e
in_sum test (first ∷ list) filesystem e =
    let added = sum_by-cons (λ n. n) (length first.files.numbers)
    (map (λ (f : Filesystem ℕ). length f.files.numbers) list) in
    grind (arith, common_steps, in_sum test list filesystem)

-- where a directory is, a filesystem is found
found_there : (w : World ℕ) (n directory : ℕ)
    → is_directory_node ((filesystem_numbered nat_eq w n).files.tree.node directory) ≡ true
    → find (λ (f : Filesystem ℕ). nat_eq n f.number) w.filesystems ≡ Some (filesystem_numbered nat_eq w n)
found_there w n directory is = grind (arith, common_steps, true≢false)

-- Paths of what layers show
module _ (layers : List (OpenLayer ℕ)) where
  abbrev Bounded : ℕ → Type 0
  Bounded most = (path : List (List ℕ)) (seen : Shown ℕ) → shown layers path ≡ Some seen → length path ≤ most

  no_names : (most : ℕ) → Bounded most → (base : List (List ℕ)) → most ≤ length base → names_shown layers base ≡ []
  no_names most within base less = by (names_shown layers base) refl
    where
      by : (names : List (List ℕ)) → names_shown layers base ≡ names → names_shown layers base ≡ []
      by [] e = e
      by (name ∷ rest) e =
          let is = (names_are_those_shown layers base name).0 (contains_from_among (names_shown layers base) name
          (subst (Among name) (sym e) (inl refl))) in
          let long = within (base ++ name ∷ []) is.0 ((computed layers (base ++ name ∷ []) is.0).1 is.1) in
          let longer = length_longer base name in
          let no : ⊥ = omega (arith, long, longer, less) in absurd no

  -- any two bounds give the same paths
  paths_alike : (most other : ℕ) → Bounded most → Bounded other → (n k : ℕ) (base : List (List ℕ))
      → most ≤ n + length base → other ≤ k + length base → paths_from n layers base ≡ paths_from k layers base
  paths_alike most other within among zero zero base l m = refl
  paths_alike most other within among zero (suc k) base l m = cc (no_names most within base (omega (arith, l)))
  paths_alike most other within among (suc n) zero base l m = cc (no_names other among base (omega (arith, m)))
  paths_alike most other within among (suc n) (suc k) base l m = cc (flat_map_alike (λ name. paths_from n layers
      (base ++ name ∷ [])) (λ name. paths_from k layers (base ++ name ∷ [])) (names_shown layers base)
      (λ name at. let longer = length_longer base name in paths_alike most other within among n k (base ++ name ∷ [])
      (omega (arith, l, longer)) (omega (arith, m, longer))))

  pub objects_alike : (most other : ℕ) → Bounded most → Bounded other
      → merged_objects layers most ≡ merged_objects layers other
  objects_alike most other within among =
      cc (paths_alike most other within among most other [] (omega arith) (omega arith))

module _ {world : World ℕ} (names : List TaskName) (is : IsWorld nat_eq world) (overlay : Overlay ℕ)
    (are_layers : AreLayers world overlay) (used : (layer : Layer ℕ) → Among layer (shown_layers overlay)
    → is_among nat_eq layer.filesystem (used_filesystems nat_eq world names) ≡ true) where
  abbrev part : World ℕ
  part = part_of nat_eq world names

  abbrev opened : World ℕ → List (OpenLayer ℕ)
  opened w = map (open_layer nat_eq w) (shown_layers overlay)

  opened_alike : opened part ≡ opened world
  opened_alike = map_alike _ _ _ (λ layer m. cc (found world names layer.filesystem (used layer m)))

  -- a path in a layer is no longer than the part has inodes
  in_layer : (layer : Layer ℕ) → Among layer (shown_layers overlay) → (path : List (List ℕ)) (object : ℕ)
      → led (filesystem_numbered nat_eq world layer.filesystem).files.tree layer.directory path ≡ Some object
      → length path ≤ inode_count part
  in_layer layer m path object e =
      let n = layer.filesystem in
      let directory = (and_parts (not (is_overlay (filesystem_numbered nat_eq world n)))
      (is_directory_node ((filesystem_numbered nat_eq world n).files.tree.node layer.directory))
      (among_from_list_all (is_plain_layer nat_eq world) (shown_layers overlay) are_layers.1 layer m)).1 in
      let here = found_there world n layer.directory directory in
      let there = found_there part n layer.directory (cc (found world names n (used layer m))) in
      let few : length path ≤ length (filesystem_numbered nat_eq world n).files.numbers = length-led
      (filesystem_numbered nat_eq world n).files (all_found (λ f. IsTree f.files.tree)
      (λ (f : Filesystem ℕ). nat_eq n f.number) world.filesystems is.files.trees (filesystem_numbered nat_eq world n)
      here) (all_found (λ f. ListsNumbers nat_eq f.files) (λ (f : Filesystem ℕ). nat_eq n f.number) world.filesystems
      is.files.numbers (filesystem_numbered nat_eq world n) here) layer.directory path object e in
      let some : length (filesystem_numbered nat_eq part n).files.numbers ≤ inode_count part = in_sum
      (λ (f : Filesystem ℕ). nat_eq n f.number) part.filesystems (filesystem_numbered nat_eq part n) there in
      let same : length (filesystem_numbered nat_eq part n).files.numbers ≡ length
      (filesystem_numbered nat_eq world n).files.numbers = cc (found world names n (used layer m)) in
      omega (arith, few, some, same)

  bounded_there : Bounded (opened world) (inode_count part)
  bounded_there path seen s =
      let has = ((computed (opened world) path seen).0 s).has_uncut.0 in
      by (slice_get (shown_layers overlay) seen.layer) refl
      (sym (slice_get-map (open_layer nat_eq world) (shown_layers overlay) seen.layer) ∙ has.1) has.2
    where
      by : (o : Option (Layer ℕ)) → slice_get (shown_layers overlay) seen.layer ≡ o → {layer : OpenLayer ℕ}
          → option_map (open_layer nat_eq world) o ≡ Some layer
          → led layer.tree layer.directory path ≡ Some seen.object → length path ≤ inode_count part
      by None f {layer} e l = none_is_some layer e
      by (Some plain) f {layer} e l = in_layer plain (nth_among (shown_layers overlay) seen.layer plain f) path
          seen.object (cc (same_Some (open_layer nat_eq world plain) layer e))

  pub same_overlay : (fresh : Fresh ℕ)
      → overlay_filesystem nat_eq fresh part overlay ≡ overlay_filesystem nat_eq fresh world overlay
  same_overlay fresh = cc (
    opened_alike,
    objects_alike (opened world) (inode_count part) (inode_count world) bounded_there
        (bounded world is overlay are_layers),
  )
