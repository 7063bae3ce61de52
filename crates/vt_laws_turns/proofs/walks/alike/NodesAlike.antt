-- Where a filesystem is what it was, but for what is gone, what is there lies where it lay.
use Rattle.std.proofs.Common.{◌≡◌, refl, sym, ap, subst, ◌∙◌, ⊎_elim, ℕ, nat_eq, true, false, true≢false, List, [], ◌∷◌, Option, Some, length, ◌+◌, arith, is_some}
use Rattle.vt_spec.proofs.Common.{Among, FileTree, Filesystem, IsDirectory, IsReached, IsTree, ListsNumbers, TreeInvariants, World, among_numbers, common_steps, directory_used, entry_at, filesystem_numbered, found, is_among, is_directory_node, is_directory_under, is_removed, led, named_parent, nat_eq_itself, same_Some}
use Rattle.vt_laws_turns.proofs.Common.{Way, chains_alike, ends, goes_on}
use Rattle.vt_laws_trees.proofs.trees.TreesAbove.{led_directory, parent_named}
use Rattle.vt_laws_trees.proofs.trees.TreesOfWorlds.{numbered_all}
use Rattle.vt_laws_trees.proofs.trees.TreesReached.{not_removed_reached}
use Rattle.vt_laws_turns.specs.Frames.Unraised.{KeepsFilesystem}

-- a way up in a tree, on which another step agrees
module _ (files : FileTree ℕ) (is : IsTree files.tree) (other : ℕ → Option ℕ) (there : List ℕ)
    (agrees : (d : ℕ) → IsDirectory files.tree d → other d ≡ named_parent nat_eq files.tree d)
    (listed : (d : ℕ) → IsDirectory files.tree d → Among d there) where
  abbrev Up : ℕ → Type 0
  Up = Way (named_parent nat_eq files.tree) other (λ d. d) there

  way_down : (names : List (List ℕ)) (from to : ℕ) → led files.tree from names ≡ Some to → IsDirectory files.tree to
      → Up from → Up to
  way_down [] from to e directory way = subst Up (same_Some from to e) way
  way_down (name ∷ names) from to e directory way =
      let step = found (λ next. led files.tree next names) (entry_at files.tree from name) to e in
      let next_is = led_directory files.tree is step.0 names to step.2 directory in
      let above = parent_named files.tree is from name step.0 step.1 next_is in
      way_down names step.0 to step.2 directory
      (goes_on step.0 from above (agrees step.0 next_is ∙ above) (listed step.0 next_is) way)

  root_up : Up files.tree.root
  root_up = grind (arith, common_steps, nat_eq_itself, ends)

  pub way_up : (to : ℕ) → IsDirectory files.tree to → IsReached files.tree to → Up to
  way_up to directory (names, e) = way_down names files.tree.root to e directory root_up

module _ {world later : World ℕ} (trees : TreeInvariants nat_eq world) (later_trees : TreeInvariants nat_eq later)
    (number : ℕ)
    (kept : KeepsFilesystem (filesystem_numbered nat_eq world number) (filesystem_numbered nat_eq later number)) where
  abbrev before : FileTree ℕ
  before = (filesystem_numbered nat_eq world number).files

  abbrev after : FileTree ℕ
  after = (filesystem_numbered nat_eq later number).files

  pub node_same : (inode : ℕ) → is_some (after.tree.node inode) ≡ true → after.tree.node inode ≡ before.tree.node inode
  node_same inode there =
      ⊎_elim (λ gone. absurd cc) (λ same. same) (kept.inodes inode)

  there_by : (directory : ℕ) → IsDirectory after.tree directory → is_some (after.tree.node directory) ≡ true
  there_by directory is = directory_used after.tree directory is

  after_tree : (directory : ℕ) → IsDirectory after.tree directory → IsTree after.tree
  after_tree directory is = ⊎_elim (λ tree. tree) (λ none. absurd (true≢false (sym is
      ∙ ap (λ (f : Filesystem ℕ). is_directory_node (f.files.tree.node directory)) none.0)))
      (numbered_all (λ (f : Filesystem ℕ). IsTree f.files.tree) number later.filesystems later_trees.trees)

  -- the parent that a directory has by its name
  pub parent_same : (d : ℕ) → IsDirectory after.tree d → named_parent nat_eq after.tree d
      ≡ named_parent nat_eq before.tree d
  parent_same d is = grind (arith, common_steps, after_tree, node_same, there_by)

  pub removed_same : (d : ℕ) → IsDirectory after.tree d → is_removed nat_eq after.tree d
      ≡ is_removed nat_eq before.tree d
  removed_same d is = cc (parent_same d is, kept.root)

  listed_in : (w : World ℕ) → TreeInvariants nat_eq w → (d : ℕ)
      → is_some ((filesystem_numbered nat_eq w number).files.tree.node d) ≡ true
      → Among d (filesystem_numbered nat_eq w number).files.numbers
  listed_in w invariants d there = ⊎_elim (λ numbers. among_numbers _ d (numbers d ∙ there))
      (λ none. absurd (true≢false (sym there ∙ ap (λ (f : Filesystem ℕ). is_some (f.files.tree.node d)) none.0)))
      (numbered_all (λ (f : Filesystem ℕ). ListsNumbers nat_eq f.files) number w.filesystems invariants.numbers)

  -- the directories above one that has a name
  pub under_same : (top d : ℕ) → IsDirectory after.tree d → is_removed nat_eq after.tree d ≡ false
      → is_directory_under nat_eq after top d ≡ is_directory_under nat_eq before top d
  under_same top d is stays =
      let tree = after_tree d is in
      let reached = not_removed_reached after.tree tree d is stays in
      ap (is_among nat_eq top)
      (chains_alike (named_parent nat_eq after.tree) (named_parent nat_eq after.tree) (λ x. x) after.numbers
      (λ a b e. ap (named_parent nat_eq after.tree) e) (length after.numbers)
      (length after.numbers + length before.numbers) d
      (way_up after tree (named_parent nat_eq after.tree) after.numbers (λ x directory. refl)
      (λ x directory. listed_in later later_trees x (there_by x directory)) d is reached) (omega arith) (omega arith)
      ∙ chains_alike (named_parent nat_eq after.tree) (named_parent nat_eq before.tree) (λ x. x) before.numbers
      (λ a b e. ap (named_parent nat_eq after.tree) e) (length after.numbers + length before.numbers)
      (length before.numbers) d
      (way_up after tree (named_parent nat_eq before.tree) before.numbers (λ x directory. sym (parent_same x directory))
      (λ x directory. listed_in world trees x
      (cc (node_same x (there_by x directory), there_by x directory))) d is reached)
      (omega arith) (omega arith))
