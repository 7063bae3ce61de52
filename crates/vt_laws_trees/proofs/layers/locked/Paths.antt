-- Where what lies under a layer stays as it was, paths lead from the layer's directory where they led.
use Rattle.std.proofs.Common.{arith, ◌≡◌, ◌≢◌, sym, ap, ◌∙◌, true≢false, eq-eqb, ℕ, nat_eq, true, cond, not, List, Some, is_some, find}
use Rattle.vt_spec.proofs.Common.{Among, Filesystem, Fresh, IsDirectory, IsTree, IsWorld, Layer, ListsNumbers, World, among-append_left, among-append_right, among_from_contains, and_true_right, at_path, call_outcome, common_steps, filesystem_numbered, is_directory_under, is_file_under, is_overlay, is_plain_layer, layers_of, lies_or_counts_under, open_layer, upper_and_work}
use Rattle.vt_laws_trees.specs.Layers.Layers.Locked.{AreNoInodes, LeadsAsBefore, LowerPathsAreLocked, OtherPathsStay}
use Rattle.vt_laws_trees.specs.Layers.Layers.Untouched.{IsKept}
use Rattle.vt_laws_trees.proofs.layers.directories.Lower.{led_below}
use Rattle.vt_laws_trees.proofs.layers.locked.Apart.{layer_plain, under_itself}
use Rattle.vt_laws_trees.proofs.layers.locked.EveryCall.{lower_layers_stay_locked}
use Rattle.vt_laws_trees.proofs.layers.layers.LowersKept.{kept_itself}
use Rattle.vt_laws_trees.proofs.layers.layers.ShownDirectories.{led_is_there}
use Rattle.vt_laws_trees.proofs.layers.layers.UpperWorld.{all_found}
use Rattle.vt_laws_trees.proofs.layers.views.Stay.{led_where}
use Rattle.vt_laws_trees.specs.Trees.Settling.{inode_in}

module _ (world : World ℕ) (conditions : IsWorld nat_eq world) (layer : Layer ℕ)
    (plain : is_plain_layer nat_eq world layer ≡ true) where
  abbrev filesystem : Filesystem ℕ
  filesystem = filesystem_numbered nat_eq world layer.filesystem

  top_directory : IsDirectory filesystem.files.tree layer.directory
  top_directory = and_true_right (not (is_overlay filesystem)) _ plain

  found : find (λ f. nat_eq layer.filesystem f.number) world.filesystems ≡ Some filesystem
  found = grind (arith, common_steps, true≢false)

  pub layer_tree : IsTree filesystem.files.tree
  layer_tree = all_found (λ f. IsTree f.files.tree) _ world.filesystems conditions.files.trees filesystem found

  layer_numbers : ListsNumbers nat_eq filesystem.files
  layer_numbers = all_found (λ f. ListsNumbers nat_eq f.files) _ _ conditions.files.numbers filesystem found

  top_under : is_directory_under nat_eq filesystem.files layer.directory layer.directory ≡ true
  top_under = sym (ap (λ b. cond b (is_directory_under nat_eq filesystem.files layer.directory layer.directory)
      (is_file_under nat_eq filesystem.files layer.directory layer.directory)) top_directory)
      ∙ under_itself filesystem.files layer.directory top_directory

  -- what a path leads to lies under the layer
  pub led_lies : (path : List (List ℕ)) (object : ℕ) → at_path (open_layer nat_eq world layer) path ≡ Some object
      → lies_or_counts_under nat_eq world layer.filesystem object layer ≡ true
  led_lies path object e =
      grind (arith, common_steps, eq-eqb, led_below, layer_tree, layer_numbers, top_under, top_directory)

  pub led_there : (path : List (List ℕ)) (object : ℕ) → at_path (open_layer nat_eq world layer) path ≡ Some object
      → is_some (inode_in world layer.filesystem object) ≡ true
  led_there path object e = led_is_there (open_layer nat_eq world layer) layer_tree top_directory path object e

  -- where each of these is kept, paths lead where they led
  pub leads_as_before : (later : World ℕ)
      → ((inode : ℕ) → lies_or_counts_under nat_eq world layer.filesystem inode layer ≡ true
      → is_some (inode_in world layer.filesystem inode) ≡ true
      → IsKept (inode_in world layer.filesystem inode) (inode_in later layer.filesystem inode))
      → LeadsAsBefore world later layer
  leads_as_before later kept path = grind (arith, common_steps, led_where, led_lies, led_there, kept_itself)

-- what is there has no new number
pub no_new : (fresh : Fresh ℕ) (world : World ℕ) (filesystem inode : ℕ) → AreNoInodes fresh world filesystem
    → is_some (inode_in world filesystem inode) ≡ true → (k : ℕ) → inode ≢ fresh k
no_new fresh world filesystem inode none there k e = cc (there, e, none k)

pub lower_paths_are_locked : LowerPathsAreLocked
lower_paths_are_locked fresh world task call number overlay lower conditions called c is contains none =
    let m : Among lower overlay.lowers = among_from_contains overlay.lowers lower contains in
    let in_layers : Among lower (layers_of overlay) = among-append_right _ overlay.lowers lower m in
    leads_as_before world conditions lower (layer_plain world conditions number overlay is lower in_layers)
    (call_outcome nat_eq fresh world task call).world (λ inode lies there. lower_layers_stay_locked fresh world
    task call number overlay lower inode conditions called c is contains lies (no_new fresh world _ inode none there))

pub other_paths_stay : OtherPathsStay
other_paths_stay fresh world task call through number overlay layer conditions goes differ is contains none =
    let m : Among layer (upper_and_work overlay) = among_from_contains (upper_and_work overlay) layer contains in
    let in_layers : Among layer (layers_of overlay) = among-append_left _ overlay.lowers layer m in
    leads_as_before world conditions layer (layer_plain world conditions number overlay is layer in_layers)
    (call_outcome nat_eq fresh world task call).world (λ inode lies there.
    goes.others number overlay layer inode differ is contains lies
    (no_new fresh world layer.filesystem inode none there))
