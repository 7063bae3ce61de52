-- A newly mounted overlay is what its layers show.
use Rattle.std.proofs.Common.{◌≡◌, ◌≢◌, ◌≤◌, refl, sym, ap, subst, ◌∙◌, true≢false, arith, ℕ, zero, suc, nat_eq, Bool, true, not, List, [], ◌∷◌, ◌++◌, map, length, Option, Some, None, is_some, slice_get, unwrap_or, find, sum, option_map, option_to_list, bytes_eq}
use Rattle.vt_spec.proofs.Common.{Content, Filesystem, Fresh, IsDirectory, IsMerged, IsTree, IsWorld, Layer, ListsNumbers, Node, OpenLayer, Overlay, Real, SameObject, Shown, World, and_true_left, and_true_right, bytes_decides, common_steps, directory_no_whiteout, filesystem_numbered, holds_of, inode_count, is_directory_node, is_plain_layer, is_there, led, list_all, merged_inodes, merged_objects, no_filesystem, node_at_path, node_shown, none_is_some, odds, odds-distinct, open_layer, overlay_filesystem, real_node, real_of, same_Some, same_content, shown, shown_layers, slice_get-map, sum_by-cons, then_some, when}
use Rattle.vt_laws_trees.specs.Layers.Layers.Mounted.{AreLayers, RemountShowsTheSame}
use Rattle.vt_laws_trees.proofs.layers.layers.ShownAlike.{shown_alike}
use Rattle.vt_laws_trees.proofs.layers.layers.ShownAtPath.{computed}
use Rattle.vt_laws_trees.proofs.layers.layers.ShownDirectories.{AreOpen}
use Rattle.vt_laws_trees.proofs.layers.layers.ShownPaths.{length-led}
use Rattle.vt_laws_trees.proofs.layers.layers.ShownMerged.{CanMerge}
use Rattle.vt_laws_trees.proofs.layers.layers.ShownTree.{real_shown_there, shows_layers}
use Rattle.vt_laws_trees.proofs.layers.layers.ShownWhole.{behind, merged_is_real, merged_no_mark, merged_no_whiteout, merged_one_to_one, merged_real_there, merged_upper}
use Rattle.vt_laws_trees.proofs.layers.layers.UpperWorld.{all_found, overlay_layers}

-- a part of a sum is no more than the sum
in_sum : (test : Filesystem ℕ → Bool) (list : List (Filesystem ℕ)) (filesystem : Filesystem ℕ)
    → find test list ≡ Some filesystem → length filesystem.files.numbers ≤ sum (map (λ f. length f.files.numbers) list)
in_sum test [] filesystem e = none_is_some filesystem e
in_sum test (first ∷ list) filesystem e =
    let added = sum_by-cons (λ n. n) (length first.files.numbers) (map (λ f. length f.files.numbers) list) in grind
    (arith, common_steps, in_sum test list filesystem)

-- each of a list that all pass passes
all_pass_at : {A : Type 0} (test : A → Bool) (list : List A) → list_all test list ≡ true → (k : ℕ) (a : A)
    → slice_get list k ≡ Some a → test a ≡ true
all_pass_at test [] all k a e = none_is_some a e
all_pass_at test (first ∷ list) all zero a e = cc (same_Some first a e, and_true_left (test first) _ all)
all_pass_at test (first ∷ list) all (suc k) a e = all_pass_at test list (and_true_right (test first) _ all) k a e

-- Layers of a world
module _ (world : World ℕ) (conditions : IsWorld nat_eq world) (overlay : Overlay ℕ)
    (are_layers : AreLayers world overlay) where
  abbrev pub layers : List (OpenLayer ℕ)
  layers = map (open_layer nat_eq world) (shown_layers overlay)

  -- a layer is a directory of a tree of the world
  pub record IsOpen (layer : OpenLayer ℕ) : Type 0 where
    pub filesystem : Filesystem ℕ
    pub test : Filesystem ℕ → Bool
    pub found : find test world.filesystems ≡ Some filesystem
    pub is : layer.tree ≡ filesystem.files.tree
    pub directory : IsDirectory layer.tree layer.directory

  pub is_open : (depth : ℕ) (layer : OpenLayer ℕ) → slice_get layers depth ≡ Some layer → IsOpen layer
  is_open depth layer e = by _ refl (sym (slice_get-map (open_layer nat_eq world) (shown_layers overlay) depth) ∙ e)
    where
      there : (plain : Layer ℕ) → is_directory_node
          ((filesystem_numbered nat_eq world plain.filesystem).files.tree.node plain.directory) ≡ true
          → (o : Option (Filesystem ℕ)) → find
          (λ filesystem. nat_eq plain.filesystem filesystem.number) world.filesystems ≡ o
          → find (λ filesystem. nat_eq plain.filesystem filesystem.number) world.filesystems
          ≡ Some (filesystem_numbered nat_eq world plain.filesystem)
      there plain d None f = absurd (true≢false (sym d ∙ ap (λ o. is_directory_node
          ((unwrap_or o (no_filesystem plain.filesystem)).files.tree.node plain.directory)) f))
      there plain d (Some filesystem) f = f ∙ ap Some (sym (ap (λ o. unwrap_or o (no_filesystem plain.filesystem)) f))

      by : (o : Option (Layer ℕ)) → slice_get (shown_layers overlay) depth ≡ o
          → option_map (open_layer nat_eq world) o ≡ Some layer → IsOpen layer
      by None s m = none_is_some layer m
      by (Some plain) s m =
          let passes = all_pass_at (is_plain_layer nat_eq world) (shown_layers overlay) are_layers.1 depth plain s in
          let directory = and_true_right _ _ passes in
          subst IsOpen (same_Some (open_layer nat_eq world plain) layer m) (record {
            filesystem = filesystem_numbered nat_eq world plain.filesystem;
            test = λ filesystem. nat_eq plain.filesystem filesystem.number;
            found = there plain directory _ refl;
            is = refl;
            directory = directory;
          })

  pub are_open : AreOpen layers
  are_open depth layer e =
      let open_one = is_open depth layer e in (
        subst IsTree (sym open_one.is) (all_found (λ filesystem.
            IsTree filesystem.files.tree) open_one.test world.filesystems conditions.files.trees open_one.filesystem
            open_one.found),
        open_one.directory,
      )

  -- no path at which something is shown is longer than there are inodes
  pub bounded : (path : List (List ℕ)) (seen : Shown ℕ) → shown layers path ≡ Some seen
      → length path ≤ inode_count world
  bounded path seen s =
      let has = ((computed layers path seen).0 s).has_uncut.0 in
      let open_one = is_open seen.layer has.0 has.1 in
      let tree = all_found (λ filesystem. IsTree filesystem.files.tree) _ _ conditions.files.trees _ open_one.found in
      let listed = all_found (λ filesystem. ListsNumbers nat_eq filesystem.files) open_one.test world.filesystems
      conditions.files.numbers open_one.filesystem open_one.found in
      let within = in_sum open_one.test world.filesystems open_one.filesystem open_one.found in
      let long = length-led open_one.filesystem.files tree listed has.0.directory path seen.object
      (ap (λ t. led t has.0.directory path) (sym open_one.is) ∙ has.2) in
      omega arith

  -- the top layer's directory is shown as the root
  pub root_shown : (top : Shown ℕ) × (shown layers [] ≡ Some top)
  root_shown = by (shown_layers overlay) are_layers.0 are_layers.1
    where
      by : (list : List (Layer ℕ)) → list ≢ [] → list_all (is_plain_layer nat_eq world) list ≡ true
          → (top : Shown ℕ) × (shown (map (open_layer nat_eq world) list) [] ≡ Some top)
      by [] n all = absurd (n refl)
      by (layer ∷ list) n all =
          let directory = and_true_right _ _ (and_true_left (is_plain_layer nat_eq world layer) _ all) in (
            record { layer = 0; object = layer.directory },
            ap (λ b. when (not b) (record { layer = 0; object = layer.directory })) (directory_no_whiteout _ directory),
          )

  -- the inode behind a real object, by the layers that are shown, is the one that the overlay finds
  in_lower : (layer : ℕ) (path : List (List ℕ))
      → then_some (slice_get (map (open_layer nat_eq world) overlay.lowers) layer) (λ lower. node_at_path lower path)
      ≡ then_some (slice_get overlay.lowers layer) (λ lower. node_at_path (open_layer nat_eq world lower) path)
  in_lower layer path = grind (arith, common_steps, slice_get-map (open_layer nat_eq world) overlay.lowers layer)

  behind_is_real : (real : Option (Real ℕ))
      → then_some real (behind layers (is_some overlay.upper)) ≡ then_some real (real_node nat_eq world overlay)
  behind_is_real None = refl
  behind_is_real (Some real) = grind (arith, common_steps, in_lower)

  pub can_merge : (fresh : Fresh ℕ) → ((j k : ℕ) → fresh j ≡ fresh k → j ≡ k)
      → CanMerge layers (inode_count world) (odds fresh)
  can_merge fresh distinct = record { opens = are_open; bounded = bounded; distinct = odds-distinct fresh distinct }

  module _ (fresh : Fresh ℕ) (distinct : (j k : ℕ) → fresh j ≡ fresh k → j ≡ k) where
    abbrev pub made : Overlay ℕ
    made = record overlay {
      real = real_of nat_eq (merged_inodes nat_eq (odds fresh) (is_some overlay.upper) layers
          (merged_objects layers (inode_count world)));
    }

    pub made_merged : IsMerged nat_eq world (overlay_filesystem nat_eq fresh world overlay) made
    made_merged = record {
      shows = shows_layers (can_merge fresh distinct) (is_some overlay.upper) root_shown.0 root_shown.1;
      names = real_shown_there (can_merge fresh distinct) (is_some overlay.upper) root_shown.0 root_shown.1;
      real_objects = λ number.
          subst (SameObject ((overlay_filesystem nat_eq fresh world overlay).files.tree.node number))
          (behind_is_real (made.real number)) (merged_is_real (can_merge fresh distinct)
          (is_some overlay.upper) number);
      real_there = λ number none. merged_real_there (can_merge fresh distinct) (is_some overlay.upper) number none;
      no_whiteout = merged_no_whiteout (can_merge fresh distinct) (is_some overlay.upper);
      no_mark = merged_no_mark (can_merge fresh distinct) (is_some overlay.upper);
      upper_there = λ number object e.
          let up = merged_upper (can_merge fresh distinct) (is_some overlay.upper) number object e in
          by object overlay.upper up.0 (λ layer f. up.1 layer f);
      one_to_one = merged_one_to_one (can_merge fresh distinct) (is_some overlay.upper);
    }
      where
        by : (object : ℕ) (o : Option (Layer ℕ)) → is_some o ≡ true
            → ((layer : OpenLayer ℕ) → slice_get (map (open_layer nat_eq world) (option_to_list o ++ overlay.lowers)) 0
            ≡ Some layer → is_some (layer.tree.node object) ≡ true)
            → holds_of (λ layer. is_there nat_eq world layer.filesystem object) o ≡ true
        by object None h there = cc
        by object (Some layer) h there = there (open_layer nat_eq world layer) refl

pub new_overlay_is_merged : (fresh : Fresh ℕ) (world : World ℕ) (overlay made : Overlay ℕ)
    → IsWorld nat_eq world → AreLayers world overlay → ((j k : ℕ) → fresh j ≡ fresh k → j ≡ k)
    → (overlay_filesystem nat_eq fresh world overlay).overlay ≡ Some made
    → IsMerged nat_eq world (overlay_filesystem nat_eq fresh world overlay) made
new_overlay_is_merged fresh world overlay made conditions are_layers distinct e =
    subst (IsMerged nat_eq world (overlay_filesystem nat_eq fresh world overlay)) (same_Some _ made e)
    (made_merged world conditions overlay are_layers fresh distinct)

-- what is the same as a third is the same
bytes_alike : (a b c : List ℕ) → bytes_eq a c ≡ true → bytes_eq b c ≡ true → bytes_eq a b ≡ true
bytes_alike a b c e f = (bytes_decides a b).1 ((bytes_decides a c).0 e ∙ sym ((bytes_decides b c).0 f))

content_alike : (a b c : Content ℕ) → same_content a c ≡ true → same_content b c ≡ true → same_content a b ≡ true
content_alike a b c e f = grind (arith, common_steps, true≢false, bytes_alike)

objects_alike : (a b c : Option (Node ℕ)) → SameObject a c → SameObject b c → SameObject a b
objects_alike None None c e f = tt
objects_alike None (Some y) None e f = absurd f
objects_alike None (Some y) (Some z) e f = absurd e
objects_alike (Some x) None None e f = absurd e
objects_alike (Some x) None (Some z) e f = absurd f
objects_alike (Some x) (Some y) None e f = absurd e
objects_alike (Some x) (Some y) (Some z) e f = (e.0 ∙ sym f.0, content_alike x.content y.content z.content e.1 f.1)

pub remount_shows_the_same : RemountShowsTheSame
remount_shows_the_same fresh before later number left anew conditions is later_conditions are_layers distinct as_left
    path =
    let alike : SameObject (node_shown nat_eq before left path) (node_shown nat_eq later anew path) =
    shown_alike _ _ as_left (are_open before conditions left (overlay_layers before conditions number left is))
    (are_open later later_conditions anew are_layers) path in
    let anew_shows = (made_merged later later_conditions anew are_layers fresh distinct).shows path in
    objects_alike _ _ _ (objects_alike _ _ (node_shown nat_eq later anew path) anew_shows alike)
    ((conditions.overlays.overlays_merge number left is).shows path)
