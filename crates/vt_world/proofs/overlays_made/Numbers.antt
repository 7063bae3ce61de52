-- The numbers beside the tree that is made are those beside the one that the layers show.
use Rattle.std.proofs.Common.{Bool, List, None, Option, Some, [], ap, cond, inl, inr, length, ne_eqb, false, filter, is_some, map, nat_eq, not, option_map, refl, sym, true, ℕ, ◌||◌, ◌∙◌, ◌∷◌, ◌≡◌, ◌≢◌, ◌≤◌, IsPermutation}
use Rattle.vt_spec.proofs.Common.{Filesystem, Fresh, IsWorld, Lower, Merged, MergedInode, OpenLayer, Real, Shown, Tree, Upper, World, any_pair, each_once, evens, evens-distinct, inode_count, list_any, merged_objects, none_is_some, odds, odds-distinct, pair-filter, same_Some, shown, view_of}
use Rattle.vt_fs.specs.FilesystemsValue.{Filesystems}
use Rattle.vt_laws_mounts.proofs.counts.Listed.{same_numbers_are_permuted}
use Rattle.vt_laws_trees.proofs.layers.directories.Order.{Pairwise, pairwise_filter_map}
use Rattle.vt_laws_trees.proofs.layers.layers.ShownDirectories.{AreOpen}
use Rattle.vt_laws_trees.proofs.layers.layers.ShownMerged.{inodes, one_number}
use Rattle.vt_laws_trees.proofs.layers.layers.ShownMounted.{are_open, bounded, can_merge}
use Rattle.vt_laws_trees.proofs.layers.layers.ShownObjects.{Among, is_object}
use Rattle.vt_laws_trees.specs.Layers.Layers.Mounted.{AreLayers}
use Rattle.vt_laws_trees.specs.Overlays.MergedTrees.{layers_shown}
use Rattle.vt_world.proofs.overlays_kept.inodes.InodesInOrder.{numbers_are_listed}
use Rattle.vt_world.specs.OverlaysKept.Kept.{ShowsLayers}
use Rattle.vt_world.proofs.overlays_made.Made.{born_so, layers, merged, opened, objects_are, tree_is}
use Rattle.vt_world.proofs.overlays_made.Paths.{Differ, paths_differ}
use Rattle.vt_world.proofs.overlays_made.Supplied.{overlays_get_their_count}
use Rattle.vt_world.specs.OverlaysMade.Made.{MadeOverlaysAreSame, handed_in, overlay_made}
use Rattle.vt_overlay.specs.Merge.LayerValue.{layers_of}
use Rattle.vt_overlay.proofs.TreeFound.{real_is}
use Rattle.vt_overlay.specs.MergedTree.{OverlayValue, longest, number_at, numbers_shown, overlay_seen, plain_world, real_number}

-- lists without repeats

none_left : (a : ℕ) (list : List ℕ) → list_any (nat_eq a) (filter (λ b. not (nat_eq a b)) list) ≡ false
none_left a [] = refl
none_left a (first ∷ list) = by (nat_eq a first) refl (none_left a list)
  where
    by : (b : Bool) → nat_eq a first ≡ b → list_any (nat_eq a) (filter (λ b. not (nat_eq a b)) list) ≡ false
        → list_any (nat_eq a) (cond (not b) (first ∷ filter (λ b. not (nat_eq a b)) list)
        (filter (λ b. not (nat_eq a b)) list)) ≡ false
    by true e later = later
    by false e later = ap (λ b. b || list_any (nat_eq a) (filter (λ b. not (nat_eq a b)) list)) e ∙ later

pub once_apart : (list : List ℕ) → any_pair nat_eq (each_once nat_eq list) ≡ false
once_apart [] = refl
once_apart (a ∷ rest) = ap (λ b. b || any_pair nat_eq (filter (λ b. not (nat_eq a b)) (each_once nat_eq rest)))
    (none_left a (each_once nat_eq rest))
    ∙ pair-filter nat_eq (λ b. not (nat_eq a b)) (each_once nat_eq rest) (once_apart rest)

differ_apart : (list : List ℕ) → Pairwise Differ list → any_pair nat_eq list ≡ false
differ_apart [] p = refl
differ_apart (a ∷ list) p = ap (λ b. b || any_pair nat_eq list) (none_like list p.0) ∙ differ_apart list p.1
  where
    none_like : (others : List ℕ) → ((b : ℕ) → Among others b → a ≢ b) → list_any (nat_eq a) others ≡ false
    none_like [] apart = refl
    none_like (first ∷ others) apart =
        ap (λ b. b || list_any (nat_eq a) others) (ne_eqb a first (apart first (inl refl)))
        ∙ none_like others (λ b m. apart b (inr m))

module _ (world : World ℕ) (trees : Filesystems) (overlay : OverlayValue) (is : IsWorld nat_eq world)
    (layered : AreLayers world (overlay_seen overlay)) (shows : ShowsLayers world trees overlay)
    (distinct : (j k : ℕ) → handed_in world trees overlay j ≡ handed_in world trees overlay k → j ≡ k) where
  abbrev made : Filesystem ℕ
  made = overlay_made world trees overlay

  abbrev opens : List (OpenLayer ℕ)
  opens = layers world trees overlay is layered shows distinct

  -- what is shown at a path, with its number
  abbrev IsAt : List (List ℕ) → ℕ → Type 0
  IsAt path number =
      (s : Shown ℕ) × (shown opens path ≡ Some s) × (number ≡ real_number trees overlay (Lower s.layer path))

  is_at : (path : List (List ℕ)) (number : ℕ) → number_at trees overlay path ≡ Some number → IsAt path number
  is_at path number e = by (shown (layers_of trees overlay.lowers) path) refl
      (sym (ap (option_map (real_number trees overlay)) (real_is trees overlay shows.are path)) ∙ e)
    where
      by : (o : Option (Shown ℕ)) → shown (layers_of trees overlay.lowers) path ≡ o
          → option_map (real_number trees overlay) (option_map (λ (s : Shown ℕ). Lower s.layer path) o) ≡ Some number
          → IsAt path number
      by None s f = none_is_some number f
      by (Some at) s f = (
        at,
        ap (λ ls. shown ls path) (opened world trees overlay is layered shows distinct) ∙ s,
        sym (same_Some (real_number trees overlay (Lower at.layer path)) number f),
      )

  path_of : Real ℕ → List (List ℕ)
  path_of (Upper object) = []
  path_of (Lower layer path) = path

  abbrev supply : Fresh ℕ
  supply = evens (handed_in world trees overlay)

  abbrev supply_apart : (j k : ℕ) → supply j ≡ supply k → j ≡ k
  supply_apart = evens-distinct (handed_in world trees overlay) distinct

  abbrev most : ℕ
  most = inode_count world

  abbrev open_so : AreOpen opens
  open_so = are_open world is (overlay_seen overlay) layered

  abbrev bound : (path : List (List ℕ)) (s : Shown ℕ) → shown opens path ≡ Some s → length path ≤ most
  bound = bounded world is (overlay_seen overlay) layered

  abbrev object : List (List ℕ) → Shown ℕ → Merged ℕ
  object path s = record { path = path; seen = s }

  among : (path : List (List ℕ)) (s : Shown ℕ) → shown opens path ≡ Some s
      → Among (merged_objects opens most) (object path s)
  among path s t = is_object opens open_so most bound path s t

  -- two paths have two numbers
  paths_apart : (a b : List (List ℕ)) (x y : ℕ) → number_at trees overlay a ≡ Some x
      → number_at trees overlay b ≡ Some y
      → a ≢ b → x ≢ y
  unfolding path_of
  paths_apart a b x y e f apart same =
      let one = is_at a x e in
      let two = is_at b y f in
      let in_one = among a one.0 one.1 in
      let in_two = among b two.0 two.1 in
      apart (ap path_of (one_number (can_merge world is (overlay_seen overlay) layered supply supply_apart) false
      (object a one.0) (object b two.0) in_one in_two
      (born_so world trees overlay is layered shows distinct (object a one.0) in_one ∙ sym one.2 ∙ same ∙ two.2
      ∙ sym (born_so world trees overlay is layered shows distinct (object b two.0) in_two))).real)

  shown_apart : any_pair nat_eq (numbers_shown trees overlay) ≡ false
  shown_apart = differ_apart (numbers_shown trees overlay)
      (pairwise_filter_map Differ Differ (number_at trees overlay) paths_apart _
      (paths_differ (map view_of (layers_shown (plain_world trees) (overlay_seen overlay)))
      (longest trees overlay.lowers) []))

  once_made : any_pair nat_eq made.files.numbers ≡ false
  once_made = once_apart (map (λ (inode : MergedInode ℕ). inode.number)
      (inodes (can_merge world is (overlay_seen overlay) layered supply supply_apart) false))

  numbers_alike : IsPermutation made.files.numbers (numbers_shown trees overlay)
  numbers_alike = same_numbers_are_permuted made.files.numbers (numbers_shown trees overlay) once_made shown_apart
      (λ n. (merged world trees overlay is layered shows distinct).numbers n
      ∙ ap (λ (tree : Tree ℕ). is_some (tree.node n)) (tree_is world trees overlay is layered shows distinct)
      ∙ sym (numbers_are_listed trees overlay shows.are n))

pub made_overlays_are_same : MadeOverlaysAreSame
made_overlays_are_same world trees overlay is layered shows distinct = record {
  number = overlays_get_their_count (inode_count world) trees overlay;
  files = record {
    tree = tree_is world trees overlay is layered shows distinct;
    numbers = numbers_alike world trees overlay is layered shows distinct;
  };
  overlay = objects_are world trees overlay is layered shows distinct;
}
