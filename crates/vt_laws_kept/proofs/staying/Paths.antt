-- What stays of a tree is led to as it was.
use Rattle.std.proofs.Common.{◌≡◌, refl, ap, subst, ◌∙◌, ⊎_elim, ℕ, nat_eq, nat_lt, eq-eqb, Bool, true, false, cond, not, ◌||◌, List, [], ◌∷◌, Option, Some, None, option_and_then}
use Rattle.vt_spec.proofs.Common.{FileTree, Filesystem, HasName, IsTree, ListsNumbers, Tree, World, among-flat_map, directory_used, entries_in, entry_at, entry_named, filesystem_numbered, is_among, led, named_in, number_at_path, reached_named, targets_in}
use Rattle.vt_spec.proofs.Found.{among_targets}
use Rattle.vt_spec.proofs.Lists.{among_numbers, is_among_numbers}
use Rattle.vt_laws_trees.proofs.layers.layers.UpperLine.{has_entries, is_reached_in}
use Rattle.vt_laws_trees.proofs.layers.layers.UpperShown.{way_to}
use Rattle.vt_laws_trees.proofs.layers.layers.UpperWorld.{overlay_numbers, overlay_tree}
use Rattle.vt_laws_kept.specs.Counts.{locations_on, only_staying, stays_in}
use Rattle.vt_laws_kept.specs.Kept.{is_unnamed}
use Rattle.vt_laws_kept.specs.Staying.{ShownIsLeft}
use Rattle.vt_laws_kept.proofs.staying.Applied.{tree_left}

module _ (files : FileTree ℕ) (tree : IsTree files.tree) (listed : ListsNumbers nat_eq files) where
  -- what an entry leads to is named
  named_among : (number : ℕ) → HasName files.tree number → is_among nat_eq number (named_in files) ≡ true
  named_among number has =
      let directory = has.0 in
      let there = directory_used files.tree directory (has_entries files.tree directory has.1 number has.2) in
      is_among_numbers (named_in files) number (among-flat_map (λ d. targets_in (files.tree.node d)) files.numbers
      directory number (among_numbers files.numbers directory (listed directory ∙ there))
      (among_numbers (targets_in (files.tree.node directory)) number
      (among_targets has.1 (entries_in (files.tree.node directory)) number has.2)))

  pub named_is_not_unnamed : (number : ℕ) → HasName files.tree number → is_unnamed files number ≡ false
  named_is_not_unnamed number has = ap not (ap (λ b. nat_eq number files.tree.root || b) (named_among number has)
      ∙ always (nat_eq number files.tree.root))
    where
      always : (b : Bool) → (b || true) ≡ true
      always true = refl
      always false = refl

  pub root_is_not_unnamed : is_unnamed files files.tree.root ≡ false
  root_is_not_unnamed = ap (λ b. not (b || is_among nat_eq files.tree.root (named_in files)))
      (eq-eqb files.tree.root files.tree.root refl)

  -- a directory with entries is the root, or named
  pub entries_are_of_named : (directory : ℕ) (name : List ℕ) (number : ℕ)
      → entry_at files.tree directory name ≡ Some number → is_unnamed files directory ≡ false
  entries_are_of_named directory name number e =
      let steps = is_reached_in files tree directory name number e in
      ⊎_elim (λ same. subst (λ n. is_unnamed files n ≡ false) same root_is_not_unnamed)
      (named_is_not_unnamed directory) (reached_named files.tree directory (way_to files.tree steps.0 directory
      steps.1))

-- A filesystem with what stays, where that is all but unnamed inodes
module _ (merged : Filesystem ℕ) (tree : IsTree merged.files.tree) (listed : ListsNumbers nat_eq merged.files)
    (stays : ℕ → Bool) (all : (inode : ℕ) → is_unnamed merged.files inode ≡ false → stays inode ≡ true) where
  abbrev still : Tree ℕ
  still = (only_staying stays merged).files.tree

  node_still : (inode : ℕ) → is_unnamed merged.files inode ≡ false → still.node inode ≡ merged.files.tree.node inode
  node_still inode e = ap (λ b. cond b (merged.files.tree.node inode) None) (all inode e)

  entry_still : (directory : ℕ) → is_unnamed merged.files directory ≡ false → (name : List ℕ)
      → entry_at still directory name ≡ entry_at merged.files.tree directory name
  entry_still directory e name = ap (λ o. entry_named name (entries_in o)) (node_still directory e)

  led_still : (path : List (List ℕ)) (from : ℕ) → is_unnamed merged.files from ≡ false
      → led still from path ≡ led merged.files.tree from path
  led_still [] from e = refl
  led_still (name ∷ path) from e =
      ap (option_and_then (λ next. led still next path)) (entry_still from e name)
      ∙ by (entry_at merged.files.tree from name) refl (led_still path)
    where
      by : (o : Option ℕ) → entry_at merged.files.tree from name ≡ o
          → ((next : ℕ) → is_unnamed merged.files next ≡ false → led still next path
          ≡ led merged.files.tree next path)
          → option_and_then (λ next. led still next path) o
          ≡ option_and_then (λ next. led merged.files.tree next path) o
      by None f on = refl
      by (Some next) f on = on next (named_is_not_unnamed merged.files tree listed next (from, name, f))

  pub path_still : (path : List (List ℕ))
      → number_at_path (only_staying stays merged).files path ≡ number_at_path merged.files path
  path_still path = led_still path merged.files.tree.root (root_is_not_unnamed merged.files tree listed)

  pub shown_still : (path : List (List ℕ)) (inode : ℕ) → number_at_path merged.files path ≡ Some inode
      → still.node inode ≡ merged.files.tree.node inode
  shown_still path inode e = node_still inode
      (⊎_elim (λ same. subst (λ n. is_unnamed merged.files n ≡ false) same
      (root_is_not_unnamed merged.files tree listed))
      (named_is_not_unnamed merged.files tree listed inode) (reached_named merged.files.tree inode (path, e)))

  -- a name that was there is there
  pub name_still : (inode : ℕ) → HasName merged.files.tree inode → HasName still inode
  name_still inode has = (
    has.0,
    has.1,
    entry_still has.0 (entries_are_of_named merged.files tree listed has.0 has.1 inode has.2) has.1 ∙ has.2,
  )

-- what is not unnamed stays
pub not_unnamed_stays : (world : World ℕ) (merged : Filesystem ℕ) (inode : ℕ) → is_unnamed merged.files inode ≡ false
    → stays_in world merged inode ≡ true
not_unnamed_stays world merged inode e = ap (λ b. not b || nat_lt 0 (locations_on world merged.number inode)) e

pub shown_is_left : ShownIsLeft
shown_is_left world fresh task permit number overlay is given was alone there path =
    let merged = filesystem_numbered nat_eq world number in
    let left = Rattle.vt_laws_worlds.specs.Permits.Left.left_by fresh world task permit in
    let stays = stays_in left merged in
    let tree = overlay_tree world is number overlay was in
    let listed = overlay_numbers world is number overlay was in
    let same = tree_left world fresh task permit number overlay is given was alone there in (
      ap (λ (f : Filesystem ℕ). number_at_path f.files path) same
          ∙ path_still merged tree listed stays (not_unnamed_stays left merged) path,
      λ inode e. ap (λ (f : Filesystem ℕ). f.files.tree.node inode) same
          ∙ shown_still merged tree listed stays (not_unnamed_stays left merged) path inode e,
    )
