-- What the walks and the rules of calls that make, remove and rename see to.
use Rattle.std.proofs.Common.{arith, Bool, None, ap, false, is_some, nat_eq, not, refl, sym, true, true≢false, ℕ, ⊎_elim, ◌&&◌, ◌||◌, ◌∙◌, ◌≡◌, All}
use Rattle.vt_spec.proofs.Common.{Filesystem, HasOwnParents, IsNewIn, IsTree, IsWorld, ListsNumbers, Location, Looks, Node, NoneFails, Place, Task, World, common_steps, files_at, filesystem_at, is_directory_at, is_directory_node, is_special, looks_of, mount_at, name_of, new_name_rules, object_there, or_false_left}
use Rattle.vt_laws_worlds.specs.Permits.Sees.{MayBeMade}
use Rattle.vt_laws_trees.proofs.trees.ChangesOfCalls.{place_is_free}
use Rattle.vt_laws_trees.proofs.trees.TreesOfWorlds.{numbered_all}
use Rattle.vt_laws_trees.proofs.trees.TreesSizes.{IsFitWord, fit_name_of}
use Rattle.vt_laws_trees.proofs.trees.TreesWalked.{IsFilePlace, IsOldPlace, file_named, place_is_file, place_named}
use Rattle.vt_laws_trees.specs.Trees.{IsFileTree}
use Rattle.vt_laws_trees.specs.Trees.Sizes.{is_fit_node}
use Rattle.vt_laws_trees.proofs.trees.PlacesReached.{NewFilePlace, NewPlace}

-- where a directory is, there is a tree
pub tree_here : (world : World ℕ) → IsWorld nat_eq world → (location : Location ℕ)
    → is_directory_at nat_eq world location ≡ true → IsFileTree (files_at nat_eq world location)
tree_here world whole location is = ⊎_elim (λ tree. ⊎_elim
    (λ own. ⊎_elim (λ numbers. record { tree = tree; numbers = numbers; own_parents = own }) missing
    (numbered_all (λ (f : Filesystem ℕ). ListsNumbers nat_eq f.files)
    (mount_at nat_eq world location).filesystem world.filesystems whole.files.numbers))
    missing (numbered_all (λ (f : Filesystem ℕ). HasOwnParents f.files.tree)
    (mount_at nat_eq world location).filesystem world.filesystems whole.files.own_parents))
    missing (numbered_all (λ (f : Filesystem ℕ). IsTree f.files.tree)
    (mount_at nat_eq world location).filesystem world.filesystems whole.files.trees)
  where
    missing : (filesystem_at nat_eq world location
        ≡ Rattle.vt_spec.specs.Machine.World.no_filesystem (mount_at nat_eq world location).filesystem)
        × All (λ (f : Filesystem ℕ). nat_eq (mount_at nat_eq world location).filesystem f.number
        ≡ false) world.filesystems → IsFileTree (files_at nat_eq world location)
    missing none = absurd (true≢false
        (sym is ∙ ap (λ (f : Filesystem ℕ). is_directory_node (f.files.tree.node location.node)) none.0))

-- what is replaced is of the kind of what replaces it
pub same_kind : (old new : Bool) → (not old && new) ≡ false → (old && not new) ≡ false → new ≡ old
same_kind true true first next = refl
same_kind true false first next = cc
same_kind false true first next = cc
same_kind false false first next = refl

module _ (world : World ℕ) (task : Task ℕ) where
  abbrev looks : Looks ℕ
  looks = looks_of nat_eq world

  -- the object of an old place is seen through its directory's mount
  pub old_mount : (place : Place ℕ) → is_special place.last ≡ false → IsOldPlace world task place
      → (object_there place).mount ≡ place.parent.mount
  old_mount place plain is = grind (arith, common_steps, place_named, true≢false)

module _ (world : World ℕ) (whole : IsWorld nat_eq world) (task : Task ℕ) where
  -- a new inode
  may_be_made : (place : Place ℕ) (node : Node ℕ) → IsFilePlace world place
      → NoneFails (new_name_rules nat_eq world place)
      → IsFitWord place.last → is_special place.last ≡ false → is_some place.object ≡ false
      → IsNewIn place.parent.node node → is_fit_node node ≡ true
      → MayBeMade world place.parent (name_of place.last) node
  may_be_made place node is passed last named missing fits small = record {
    name_is_free = place_is_free world place is named missing passed
        (tree_here world whole place.parent (file_named world place.parent place.last place.object named is).0);
    fit_name = fit_name_of place.last named last;
    fits = fits;
    small = small;
  }

  pub made_at_new : (place : Place ℕ) (node : Node ℕ) → NewPlace world task place → is_special place.last ≡ false
      → is_some place.object ≡ false → IsNewIn place.parent.node node → is_fit_node node ≡ true
      → MayBeMade world place.parent (name_of place.last) node
  made_at_new place node is = may_be_made place node (place_is_file world _ _ _ is.0.0) is.0.1 is.1

  -- and where the name of a file is missing
  pub made_as_file : (place : Place ℕ) (node : Node ℕ) → NewFilePlace world task place
      → (is_special place.last || place.slash) ≡ false → place.object ≡ None
      → IsNewIn place.parent.node node → is_fit_node node ≡ true
      → MayBeMade world place.parent (name_of place.last) node
  made_as_file place node is named missing = may_be_made place node is.0.0 is.0.1 is.1 (or_false_left _ _ named) (cc)
