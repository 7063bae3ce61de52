-- A new name and a removed one, on the view of a layer.
use Rattle.std.proofs.Common.{arith, ◌≡◌, ◌≢◌, refl, sym, ap, subst, ◌∙◌, ℕ, nat_eq, Bool, true, false, cond, List, [], ⊎_elim, Option, Some, None}
use Rattle.vt_spec.proofs.Common.{AddName, CopyUp, FileTree, IsDirectory, Make, Move, Node, Remove, SetAttr, SetBytes, SetMark, Tree, changed_node, common_steps, entries-without_parent, entries_in, entries_in-no_directory, entries_of, entry_at, entry_named, eqb_tells, is_directory_node, led, node_other, node_set, node_with_entry, node_without_entry, none_is_some, same_Some, then_some, with_inode, with_name, without_name, without_parent}
use Rattle.vt_laws_trees.specs.Layers.Layers.Mounted.{IsAlike}
use Rattle.vt_laws_trees.specs.Layers.Layers.Untouched.{IsKept}
use Rattle.vt_laws_trees.specs.Layers.Layers.Views.{AddNameAddsPath, AddNameIsSeen, MakeAddsInode, MakeAddsPath, MakeEndsPaths, MakeIsSeen, NamesLeaveInodes, RemoveEndsPaths, RemoveIsSeen, RemoveTakesPath, names_entry, view_in}
use Rattle.vt_laws_trees.proofs.layers.layers.CopyingParts.{KeepsButNames, entry_keeps, without_entry_keeps}
use Rattle.vt_laws_trees.proofs.layers.layers.LowersKept.{kept_by_parent, kept_elsewhere, kept_without_parent}
use Rattle.vt_laws_trees.proofs.layers.layers.ShownDirectories.{led_is_there}
use Rattle.vt_laws_trees.proofs.layers.views.Entries.{given, is_entry, is_that_entry, taken}
use Rattle.vt_laws_trees.proofs.layers.views.Walks.{entry_gone, entry_led, entry_over, goes_through_it, names_it}

-- an inode that has no names in it
pub no_entries : (tree : Tree ℕ) (object : ℕ) → entries_in (tree.node object) ≡ [] → (word : List ℕ)
    → entry_at tree object word ≡ None
no_entries tree object empty word = ap (entry_named word) empty

-- A name given to what has no names in it
module _ (before after : Tree ℕ) (directory : ℕ) (name : List ℕ) (object : ℕ) (told : (other : ℕ) (word : List ℕ)
    → entry_at after other word ≡ cond (is_entry directory name other word) (Some object) (entry_at before other word))
    (other_one : object ≢ directory) (empty : entries_in (before.node object) ≡ []) where
  stays_empty : (word : List ℕ) → entry_at after object word ≡ None
  stays_empty word = grind (arith, common_steps, is_that_entry, no_entries)

  pub given_led : ((k : ℕ) → entry_at before directory name ≡ Some k → entries_in (before.node k) ≡ [])
      → (start : ℕ) (path : List (List ℕ)) → led after start path
      ≡ cond (names_entry (record { leads = λ p. led before start p; node = λ n. before.node n }) directory name path)
      (Some object) (led before start path)
  given_led bare start path = entry_led before after directory name _ told (λ k e. no_entries before k (bare k e))
      (λ k e word. ap (λ n. entry_at after n word) (sym (same_Some object k e)) ∙ stays_empty word) path start
      ∙ ap (λ b. cond b (Some object) (led before start path)) (sym (names_it before directory name path start))

-- Inodes but for their names

pub alike_kept : (one other : Option (Node ℕ)) → IsKept one other → IsAlike one other
alike_kept one other is = record { there = is.there; kind = is.kind; attr = is.attr; bytes = is.bytes; mark = is.mark }

pub alike_same : (one other : Option (Node ℕ)) → other ≡ one → IsAlike one other
alike_same one other e =
    subst (λ o. IsAlike one o) (sym e) (record { there = refl; kind = refl; attr = refl; bytes = refl; mark = refl })

pub alike_both : (one middle other : Option (Node ℕ)) → IsAlike one middle → IsAlike middle other → IsAlike one other
alike_both one middle other a b = grind (arith, common_steps)

pub alike_after : (files : FileTree ℕ) (number : ℕ) (change : Option (Node ℕ) → Option (Node ℕ)) → KeepsButNames change
    → (inode : ℕ) → IsAlike (files.tree.node inode) ((changed_node nat_eq files number change).tree.node inode)
alike_after files number change keeps inode = grind (arith, common_steps, alike_same, kept_elsewhere)

-- a new inode alone, without names in it, leaves all entries
pub inode_entries : (files : FileTree ℕ) (number : ℕ) (node : Node ℕ) → files.tree.node number ≡ None
    → entries_of node.content ≡ [] → (other : ℕ)
    → entries_in ((with_inode nat_eq files number node).tree.node other) ≡ entries_in (files.tree.node other)
inode_entries files number node vacant bare other = ⊎_elim (λ t. cc (t.1, node_set files.tree number (Some node)))
    (λ t. ap entries_in (node_other files.tree number (Some node) other t.1)) (eqb_tells other number)

-- A new inode, and its name
module _ (files : FileTree ℕ) (directory number : ℕ) (name : List ℕ) (node : Node ℕ)
    (is : IsDirectory files.tree directory) (vacant : files.tree.node number ≡ None) where
  abbrev grown : FileTree ℕ
  grown = with_inode nat_eq files number node

  abbrev made : FileTree ℕ
  made = with_name nat_eq grown directory name number

  number_differs : number ≢ directory
  number_differs same = cc

  number_there : made.tree.node number ≡ Some node
  number_there = node_other grown.tree directory _ number number_differs ∙ node_set files.tree number (Some node)

  others_alike : (inode : ℕ) → inode ≢ number → IsAlike (files.tree.node inode) (made.tree.node inode)
  others_alike inode differ = subst (λ o. IsAlike o (made.tree.node inode))
      (node_other files.tree number _ inode differ) (alike_after grown directory _ (entry_keeps name number) inode)

  module _ (bare : entries_of node.content ≡ []) where
    made_told : (other : ℕ) (word : List ℕ) → entry_at made.tree other word
        ≡ cond (is_entry directory name other word) (Some number) (entry_at files.tree other word)
    made_told other word = given grown directory name number
        (ap is_directory_node (node_other files.tree number (Some node) directory (λ same. number_differs (sym same)))
        ∙ is) other word
        ∙ ap (λ entries. cond (is_entry directory name other word) (Some number) (entry_named word entries))
        (inode_entries files number node vacant bare other)

pub make_adds_path : MakeAddsPath
make_adds_path files top directory number name node is vacant bare path =
    given_led files.tree (made files directory number name node is.in_directory vacant).tree directory name number
    (made_told files directory number name node is.in_directory vacant bare)
    (number_differs files directory number name node is.in_directory vacant) (ap entries_in vacant) is.bare top path

pub make_adds_inode : MakeAddsInode
make_adds_inode files top directory number name node is vacant =
    (number_there files directory number name node is vacant, others_alike files directory number name node is vacant)

pub make_ends_paths : MakeEndsPaths
make_ends_paths files top directory number name node is vacant bare not_back path =
    let after = (made files directory number name node is vacant).tree in
    let told = made_told files directory number name node is vacant bare in
    entry_over files.tree after directory name (Some number) told (λ k e names. not_back k names e)
    (λ k e word. ap (λ n. entry_at after n word) (sym (same_Some number k e))
    ∙ stays_empty files.tree after directory name number told
    (number_differs files directory number name node is vacant) (ap entries_in vacant) word) path top
    ∙ sym (λ i. cond (names_it files.tree directory name path top i) (Some number)
    (cond (goes_through_it files.tree directory name path top i) None (led files.tree top path)))

pub add_name_adds_path : AddNameAddsPath
add_name_adds_path files top directory object name is file path =
    given_led files.tree (with_name nat_eq files directory name object).tree directory name object
    (given files directory name object is.in_directory) (λ same. cc (is.in_directory))
    (entries_in-no_directory (files.tree.node object) file) is.bare top path

-- A name taken away
module _ (files : FileTree ℕ) (directory object : ℕ) (name : List ℕ) where
  abbrev left : FileTree ℕ
  left = without_parent nat_eq (without_name nat_eq files directory name) (Some object)

  left_told : (other : ℕ) (word : List ℕ) → entry_at left.tree other word
      ≡ cond (is_entry directory name other word) None (entry_at files.tree other word)
  left_told other word =
      ap (entry_named word) (entries-without_parent (without_name nat_eq files directory name) (Some object) other)
      ∙ taken files directory name other word

pub remove_takes_path : RemoveTakesPath
remove_takes_path files top directory object name named empty path =
    entry_led files.tree (left files directory object name).tree directory name None
    (left_told files directory object name) (λ k e word. no_entries files.tree k
    (ap (λ n. entries_in (files.tree.node n)) (same_Some k object (sym e ∙ named)) ∙ empty) word)
    (λ k e. none_is_some k e) path top
    ∙ ap (λ b. cond b None (led files.tree top path)) (sym (names_it files.tree directory name path top))

pub remove_ends_paths : RemoveEndsPaths
remove_ends_paths files top directory object name path =
    entry_gone files.tree (left files directory object name).tree directory name
    (left_told files directory object name) path top
    ∙ ap (λ b. cond b None (led files.tree top path)) (sym (goes_through_it files.tree directory name path top))

pub names_leave_inodes : NamesLeaveInodes
names_leave_inodes files (AddName directory name object) top inode e =
    alike_after files directory (node_with_entry name object) (entry_keeps name object) inode
names_leave_inodes files (Remove directory name object) top inode e =
    let left = without_name nat_eq files directory name in
    alike_both _ (left.tree.node inode) _ (alike_after files directory _ (without_entry_keeps name) inode)
    (alike_kept (left.tree.node inode) _ (kept_by_parent left object object inode))
names_leave_inodes files (Move from old to new object) top inode e =
    let freed = without_parent nat_eq files (entry_named new (entries_in (files.tree.node to))) in
    let left = without_name nat_eq freed from old in
    let named = with_name nat_eq left to new object in
    alike_both _ _ _ (alike_kept _ _ (kept_without_parent files _ inode)) (alike_both _ (left.tree.node inode) _
    (alike_after freed from (node_without_entry old) (without_entry_keeps old) inode) (alike_both (left.tree.node inode)
    _ _ (alike_after left to _ (entry_keeps new object) inode) (alike_kept _ _ (kept_by_parent named object to inode))))
names_leave_inodes files (CopyUp object) top inode e = alike_same (files.tree.node inode) _ refl
names_leave_inodes files (Make directory name number node) top inode e = cc
names_leave_inodes files (SetBytes file bytes) top inode e = cc
names_leave_inodes files (SetAttr object attr) top inode e = cc
names_leave_inodes files (SetMark directory opaque) top inode e = cc

-- What is at a path

pub make_seen : (one : Option (Node ℕ)) → IsAlike one one
make_seen one = alike_same one one refl

module _ (before after : Tree ℕ) (top : ℕ) (path : List (List ℕ)) where
  -- paths of one tree that lead as they did before, and to what is alike
  seen_by : (b : Bool) (to : Option ℕ) (at : Option (Node ℕ)) → led after top path ≡ cond b to (led before top path)
      → IsAlike at (then_some to after.node)
      → ((inode : ℕ) → led before top path ≡ Some inode → IsAlike (before.node inode) (after.node inode))
      → IsAlike (cond b at (then_some (led before top path) before.node)) (then_some (led after top path) after.node)
  seen_by true to at e here others = subst (λ o. IsAlike at (then_some o after.node)) (sym e) here
  seen_by false to at e here others = grind (arith, common_steps, make_seen)

pub make_is_seen : MakeIsSeen
make_is_seen files top directory number name node tree is_top is vacant bare path =
    seen_by files.tree (made files directory number name node is.in_directory vacant).tree
    top path _ (Some number) (Some node) (make_adds_path files top directory number name node is vacant bare path)
    (alike_same (Some node) _ (number_there files directory number name node is.in_directory vacant))
    (λ inode e. others_alike files directory number name node is.in_directory
    vacant inode (λ same. cc (led_is_there (record { tree = files.tree; directory = top }) tree is_top path inode e)))

pub add_name_is_seen : AddNameIsSeen
add_name_is_seen files top directory object name is file path =
    seen_by files.tree (with_name nat_eq files directory name object).tree top path
    (names_entry (view_in files top) directory name path) (Some object) (files.tree.node object)
    (add_name_adds_path files top directory object name is file path)
    (names_leave_inodes files (AddName directory name object) top object refl)
    (λ inode e. names_leave_inodes files (AddName directory name object) top inode refl)

pub remove_is_seen : RemoveIsSeen
remove_is_seen files top directory object name named empty path = seen_by files.tree (left files _ object name).tree
    top path _ None None (remove_takes_path files top directory object name named empty path)
    (make_seen None) (λ inode e. names_leave_inodes files (Remove directory name object) top inode refl)
