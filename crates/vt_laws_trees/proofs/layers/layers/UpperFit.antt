-- Each overlay of a world is fit to change.
use Rattle.std.proofs.Common.{arith, ◌≡◌, refl, sym, ap, ◌∙◌, true≢false, ℕ, nat_eq, List, Option, Some, None, is_some}
use Rattle.vt_spec.proofs.Common.{Filesystem, Fresh, IsWorld, Layer, Lower, Node, OpenLayer, Overlay, Real, SameObject, Upper, World, common_steps, filesystem_numbered, holds_of, is_directory_node, is_there, merge_of, none_is_some, number_at_path, open_layer, same_Some, upper_object}
use Rattle.vt_laws_trees.specs.Layers.Layers.ChangesUpper.{IsFitToChange}
use Rattle.vt_laws_trees.proofs.layers.layers.UpperWorld.{above_upper, one_below, overlay_merges, overlay_numbers, overlay_tree, real_named, root_is_upper}
use Rattle.vt_spec.proofs.NodeChanges.{same_content_kind}
use Rattle.vt_laws_trees.specs.Trees.Settling.{inode_in}

-- an upper object is a real one
pub upper_is : (real : Option (Real ℕ)) (object : ℕ) → upper_object real ≡ Some object → real ≡ Some (Upper object)
upper_is None object e = none_is_some object e
upper_is (Some (Upper other)) object e = ap (λ o. Some (Upper o)) (same_Some other object e)
upper_is (Some (Lower layer path)) object e = none_is_some object e

pub same_directory : (a b : Option (Node ℕ)) → SameObject a b → is_directory_node b ≡ is_directory_node a
same_directory None None same = refl
same_directory None (Some other) same = absurd same
same_directory (Some node) None same = absurd same
same_directory (Some node) (Some other) same = sym (same_content_kind node.content other.content same.1)

module _ {world : World ℕ} (conditions : IsWorld nat_eq world) (number : ℕ) {overlay : Overlay ℕ}
    (is : (filesystem_numbered nat_eq world number).overlay ≡ Some overlay) {upper : Layer ℕ}
    (has : overlay.upper ≡ Some upper) where
  abbrev merged : Filesystem ℕ
  merged = filesystem_numbered nat_eq world number

  abbrev top : OpenLayer ℕ
  top = open_layer nat_eq world upper

  -- an inode with a name has an upper object of its own kind
  kinds : (path : List (List ℕ)) (inode object : ℕ) → number_at_path merged.files path ≡ Some inode
      → upper_object (overlay.real inode) ≡ Some object
      → is_directory_node ((filesystem_numbered nat_eq world upper.filesystem).files.tree.node object)
      ≡ is_directory_node (merged.files.tree.node inode)
  kinds path inode object e h = grind (
    arith,
    common_steps,
    real_named world conditions number overlay is upper has path inode e,
    top,
    overlay_merges world conditions number overlay is,
    same_directory,
    none_is_some,
  )

  pub overlay_is_fit : (fresh : Fresh ℕ) → ((j k : ℕ) → fresh j ≡ fresh k → j ≡ k)
      → ((k : ℕ) → inode_in world upper.filesystem (fresh k) ≡ None)
      → IsFitToChange fresh (merge_of nat_eq world merged overlay upper)
  overlay_is_fit fresh distinct vacant = record {
    tree = overlay_tree world conditions number overlay is;
    numbers = overlay_numbers world conditions number overlay is;
    root = root_is_upper world conditions number overlay is upper has;
    above = above_upper world conditions number overlay is upper has;
    one_name = λ directory other name other_name object.
        one_below world conditions number overlay is upper has directory other name other_name object;
    one_to_one = λ a b object e f.
        let real_a = upper_is (overlay.real a) object e in
        let real_b = upper_is (overlay.real b) object f in
        (overlay_merges world conditions number overlay is).one_to_one a b (ap is_some real_a) (cc (real_a));
    kinds = kinds;
    unused = λ k inode e.
        true≢false (sym (ap (holds_of (λ layer. is_there nat_eq world layer.filesystem (fresh k))) (sym has)
        ∙ (overlay_merges world conditions number overlay is).upper_there inode (fresh k)
        (upper_is (overlay.real inode) (fresh k) e)) ∙ ap is_some (vacant k));
    distinct = distinct;
  }

pub overlays_are_fit : (fresh : Fresh ℕ) (world : World ℕ) (number : ℕ) (overlay : Overlay ℕ) (upper : Layer ℕ)
    → IsWorld nat_eq world
    → (filesystem_numbered nat_eq world number).overlay ≡ Some overlay → overlay.upper ≡ Some upper
    → ((j k : ℕ) → fresh j ≡ fresh k → j ≡ k) → ((k : ℕ) → inode_in world upper.filesystem (fresh k) ≡ None)
    → IsFitToChange fresh (merge_of nat_eq world (filesystem_numbered nat_eq world number) overlay upper)
overlays_are_fit fresh world number overlay upper conditions is has distinct vacant =
    overlay_is_fit conditions number is has fresh distinct vacant
