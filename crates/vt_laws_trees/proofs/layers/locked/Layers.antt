-- What the invariants of trees and of overlays say of each tree, and of each layer.
use Rattle.std.proofs.Common.{All, Some, ap, false, is_some, nat_eq, refl, sym, true, true≢false, ℕ, ⊎_elim, ◌∙◌, ◌≡◌, Bool}
use Rattle.vt_spec.proofs.Common.{Among, Filesystem, IsTree, Layer, ListsNumbers, Overlay, OverlayInvariants, TreeInvariants, World, among_from_list_all, among_numbers, any_pair, filesystem_numbered, has_fit_layers, is_directory_node, is_plain_layer, layers_of, list_all, of_overlay, overlay_or, found_among}
use Rattle.vt_laws_trees.specs.Trees.Settling.{inode_in}
use Rattle.vt_laws_trees.proofs.layers.layers.UpperWorld.{overlay_found}
use Rattle.vt_laws_trees.proofs.trees.TreesOfWorlds.{numbered_all, numbered_anyhow}

-- what is asked of trees
pub record AreTrees (world : World ℕ) : Type 0 where
  pub trees : All (λ (f : Filesystem ℕ). IsTree f.files.tree) world.filesystems
  pub numbers : All (λ (f : Filesystem ℕ). ListsNumbers nat_eq f.files) world.filesystems
  pub one_filesystem : any_pair (λ (a b : Filesystem ℕ). nat_eq a.number b.number) world.filesystems ≡ false

pub are_trees : (world : World ℕ) → TreeInvariants nat_eq world → AreTrees world
are_trees world is = record { trees = is.trees; numbers = is.numbers; one_filesystem = is.one_filesystem }

module _ (world : World ℕ) (files : AreTrees world) where
  pub tree_of_directory : (number directory : ℕ) → is_directory_node (inode_in world number directory) ≡ true
      → IsTree (filesystem_numbered nat_eq world number).files.tree
  tree_of_directory number directory is = ⊎_elim (λ tree. tree) (λ missing. absurd (true≢false
      (sym is ∙ ap (λ (f : Filesystem ℕ). is_directory_node (f.files.tree.node directory)) missing.0)))
      (numbered_all (λ (f : Filesystem ℕ). IsTree f.files.tree) number world.filesystems files.trees)

  pub numbers_listed : (number : ℕ) → ListsNumbers nat_eq (filesystem_numbered nat_eq world number).files
  numbers_listed number = numbered_anyhow
      (λ (f : Filesystem ℕ). ListsNumbers nat_eq f.files) number world.filesystems files.numbers (λ k. refl)

  pub inode_listed : (number inode : ℕ) → is_some (inode_in world number inode) ≡ true
      → Among inode (filesystem_numbered nat_eq world number).files.numbers
  inode_listed number inode there = among_numbers _ inode (numbers_listed number inode ∙ there)

module _ (world : World ℕ) (are : OverlayInvariants nat_eq world) (number : ℕ) (overlay : Overlay ℕ)
    (is : (filesystem_numbered nat_eq world number).overlay ≡ Some overlay) where
  -- what holds of all overlays holds of this one
  of_this : (test : Overlay ℕ → Bool) → list_all (of_overlay true test) world.filesystems ≡ true → test overlay ≡ true
  of_this test all = sym (ap (overlay_or true test) is) ∙ among_from_list_all
      (of_overlay true test) world.filesystems all (filesystem_numbered nat_eq world number)
      (found_among (λ f. nat_eq number f.number) world.filesystems _ (overlay_found world number overlay is))

  pub plain_layer : (layer : Layer ℕ) → Among layer (layers_of overlay) → is_plain_layer nat_eq world layer ≡ true
  plain_layer layer m = among_from_list_all (is_plain_layer nat_eq world) (layers_of overlay)
      (of_this (λ o. list_all (is_plain_layer nat_eq world) (layers_of o)) are.plain_layers) layer m

  pub fit_overlay : has_fit_layers overlay ≡ true
  fit_overlay = of_this has_fit_layers are.fit_layers
