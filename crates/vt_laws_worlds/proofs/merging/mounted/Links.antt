-- An overlay that is mounted anew over the same layers has the same names of each inode.
use Rattle.std.proofs.Common.{◌≡◌, refl, sym, ap, subst, ◌∙◌, arith, ◌<◌, ℕ, suc, length, nat_eq, true, false, List, [], ◌∷◌, ◌++◌, map, Option, Some, None, is_some, option_map, option_to_list, ◌↔◌}
use Rattle.vt_spec.proofs.Common.{FileTree, Filesystem, Fresh, IsMerged, IsTree, IsWorld, Layer, Node, OpenLayer, Overlay, Real, SameObject, World, evens, filesystem_numbered, merged_at, number_at_path, open_layer, overlay_filesystem, real_node, real_object, real_shown, shown_layers, then_some}
use Rattle.vt_spec.proofs.Tables.{overlay_at}
use Rattle.vt_laws_trees.proofs.layers.directories.Fit.{new_overlay_is_tree}
use Rattle.vt_laws_trees.proofs.layers.layers.ShownDirectories.{led_is_there}
use Rattle.vt_laws_trees.proofs.layers.layers.ShownMounted.{made, made_merged}
use Rattle.vt_laws_trees.proofs.layers.layers.UpperWorld.{overlay_tree}
use Rattle.vt_laws_trees.specs.Layers.Layers.Mounted.{AreLayers, ShowTheSame}
use Rattle.vt_laws_worlds.specs.Merging.MountedAnew.{AreKept, LinkTheSame, MountedAnewLinksTheSame}
use Rattle.vt_laws_worlds.proofs.merging.mounted.Again.{are_layers, files_are, mounted_over_the_same_layers}

-- an inode of an overlay has a real object
real_is_there : (world : World ℕ) (overlay : Overlay ℕ) (node : Option (Node ℕ)) (real : Option (Real ℕ))
    → SameObject node (then_some real (real_node nat_eq world overlay)) → is_some node ≡ true → is_some real ≡ true
real_is_there world overlay inode (Some real) same there = refl
real_is_there world overlay (Some node) None same there = absurd same
real_is_there world overlay None None same there = there

-- two trees have something at the same paths
abbrev AtTheSame : FileTree ℕ → FileTree ℕ → Type 0
AtTheSame one other = (path : List (List ℕ)) → is_some (number_at_path one path) ≡ is_some (number_at_path other path)

-- what names lead to is there
there : (files : FileTree ℕ) → IsTree files.tree → (path : List (List ℕ)) (number : ℕ)
    → number_at_path files path ≡ Some number → is_some (files.tree.node number) ≡ true
there files tree path number e = led_is_there _ tree tree.root_directory path number e

at_the_same : (one other : Filesystem ℕ) → IsTree one.files.tree → IsTree other.files.tree → ShowTheSame one other
    → AtTheSame one.files other.files
at_the_same one other tree other_tree same path =
    by (number_at_path one.files path) (number_at_path other.files path) (there one.files tree path)
    (there other.files other_tree path) (same path)
  where
    by : (a b : Option ℕ) → ((n : ℕ) → a ≡ Some n → is_some (one.files.tree.node n) ≡ true)
        → ((n : ℕ) → b ≡ Some n → is_some (other.files.tree.node n) ≡ true)
        → SameObject (then_some a one.files.tree.node) (then_some b other.files.tree.node) → is_some a ≡ is_some b
    by None None f g s = refl
    by (Some n) (Some m) f g s = refl
    by None (Some m) f g s = at (other.files.tree.node m) (g m refl) s
      where
        at : (node : Option (Node ℕ)) → is_some node ≡ true → SameObject None node → false ≡ true
        at None h s = h
        at (Some node) h s = absurd s
    by (Some n) None f g s = at (one.files.tree.node n) (f n refl) s
      where
        at : (node : Option (Node ℕ)) → is_some node ≡ true → SameObject node None → true ≡ false
        at None h s = sym h
        at (Some node) h s = absurd s

-- Two overlays that are what layers show, each path with one real object in both: where two paths lead to one inode of
-- the one, they do in the other.
module _ {world later : World ℕ} {one other : Filesystem ℕ} {overlay another : Overlay ℕ}
    (is : IsMerged nat_eq world one overlay) (is_other : IsMerged nat_eq later other another)
    (other_tree : IsTree other.files.tree)
    (seen : (path : List (List ℕ)) → real_shown nat_eq world overlay path ≡ real_shown nat_eq later another path)
    (same : AtTheSame one.files other.files) where
  links_along : (path second : List (List ℕ)) → number_at_path one.files path ≡ number_at_path one.files second
      → number_at_path other.files path ≡ number_at_path other.files second
  links_along path second e = by _ refl _ refl _ refl
    where
      by : (a : Option ℕ) → number_at_path one.files path ≡ a → (b : Option ℕ) → number_at_path other.files path ≡ b
          → (c : Option ℕ) → number_at_path other.files second ≡ c → b ≡ c
      by a f None g None h = refl
      by a f None g (Some m) h = cc (same second, same path)
      by a f (Some m) g None h = cc (same path, same second)
      by None f (Some m) g (Some k) h = cc (same path)
      by (Some n) f (Some m) g (Some k) h = cc (is_other.one_to_one m k
          (real_is_there later another (other.files.tree.node m) (another.real m) (is_other.real_objects m)
          (there other.files other_tree path m g)) (is_other.names path m g ∙ sym (seen path) ∙ sym (is.names path n f)
          ∙ is.names second n (sym e ∙ f) ∙ seen second ∙ sym (is_other.names second k h)))

-- layers that were kept are open to the same trees
kept_layers : (before later : World ℕ) (layers : List (Layer ℕ)) → AreKept before later layers
    → map (open_layer nat_eq later) layers ≡ map (open_layer nat_eq before) layers
kept_layers before later [] kept = refl
kept_layers before later (layer ∷ layers) kept = λ i.
    record { tree = kept 0 layer (let h : 0 < suc (length layers) = omega arith in h) i; directory = layer.directory }
    ∷ kept_layers before later layers
    (λ k d h. kept (suc k) d (let l : suc k < suc (length layers) = omega (arith, h) in l)) i

-- the real object at a path, by layers that are open
abbrev real_of_layers : Option (Layer ℕ) → List (OpenLayer ℕ) → List (List ℕ) → Option (Real ℕ)
real_of_layers upper layers path =
    option_map (λ object. real_object (is_some upper) object.seen.layer object) (merged_at layers path)

-- An overlay was left in one world, and another one is made in a later one, over the same layers.
module _ (fresh : Fresh ℕ) (before later : World ℕ) (number : ℕ) (left anew : Overlay ℕ)
    (conditions : IsWorld nat_eq before) (is : (filesystem_numbered nat_eq before number).overlay ≡ Some left)
    (later_conditions : IsWorld nat_eq later) (layered : AreLayers later anew)
    (distinct : (j k : ℕ) → fresh j ≡ fresh k → j ≡ k) (upper : anew.upper ≡ left.upper)
    (lowers : anew.lowers ≡ left.lowers) (kept : AreKept before later (shown_layers left))
    (same : ShowTheSame (overlay_filesystem nat_eq fresh later anew) (filesystem_numbered nat_eq before number)) where
  abbrev new : Filesystem ℕ
  new = overlay_filesystem nat_eq fresh later anew

  abbrev old : Filesystem ℕ
  old = filesystem_numbered nat_eq before number

  abbrev made_so : Overlay ℕ
  made_so = made later later_conditions anew layered fresh distinct

  seen : (path : List (List ℕ)) → real_shown nat_eq later made_so path ≡ real_shown nat_eq before left path
  seen path = (λ i. real_of_layers (upper i) (map (open_layer nat_eq later) (option_to_list (upper i) ++ lowers i))
      path) ∙ ap (λ layers. real_of_layers left.upper layers path) (kept_layers before later _ kept)

  new_tree : IsTree new.files.tree
  new_tree = new_overlay_is_tree fresh later anew later_conditions layered distinct

  old_tree : IsTree old.files.tree
  old_tree = overlay_tree before conditions number left is

  together : AtTheSame new.files old.files
  together = at_the_same new old new_tree old_tree same

  links : LinkTheSame new old
  links path another = (
    links_along (made_merged later later_conditions anew layered fresh distinct)
        (conditions.overlays.overlays_merge number left is) old_tree seen together path another,
    links_along (conditions.overlays.overlays_merge number left is)
        (made_merged later later_conditions anew layered fresh distinct) new_tree
        (λ way. sym (seen way)) (λ way. sym (together way)) path another,
  )

pub mounted_anew_links_the_same : MountedAnewLinksTheSame
mounted_anew_links_the_same fresh before later number left task path words flags places conditions is
    later_conditions are_new task_is grants walked upper lowers kept a b =
    let files = files_are later_conditions are_new task_is path words flags grants places walked in
    let old = filesystem_numbered nat_eq before number in
    subst (λ f. (number_at_path f a ≡ number_at_path f b)
    ↔ (number_at_path old.files a ≡ number_at_path old.files b)) (sym files)
    (links (evens fresh) before later number left (overlay_at nat_eq later task places) conditions is later_conditions
    (are_layers later_conditions are_new task_is path words flags grants places walked)
    (λ j k e. let same = are_new.distinct _ _ e in omega (arith, same)) upper lowers kept
    (λ way. subst (λ f. SameObject (then_some (number_at_path f way) f.tree.node)
    (then_some (number_at_path old.files way) old.files.tree.node)) files
    (mounted_over_the_same_layers fresh before later number left task path words flags places conditions is
    later_conditions are_new task_is grants walked (λ i. option_to_list (upper i) ++ lowers i) kept way)) a b)
