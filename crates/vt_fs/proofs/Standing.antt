-- A filesystem that is there, with this tree; and what a change of that tree changes.
use Rattle.std.proofs.Common.{arith, ◌<◌, ◌≡◌, refl, sym, ap, subst, ◌∙◌, true≢false, ℕ, Bool, true, false, cond, nat_eq, List, map, [], ◌∷◌, not, Option, Some, None, option_copied, option_map, unwrap_or, is_some, Bor, MutBor, IsSome, if◌then◌else◌, eqb-true}
use Rattle.vt_spec.proofs.Common.{Change, Entries, Inode, Inodes, IsDirectory, MayReplace, Node, any_pair, entries_in, entry_at as number_at, has_entry_to, is_directory_node, is_empty_list, list_any, node_in, option_copied_mut, or_false_left, or_false_right, parent_in, pinned, renamed_inode, tree_of as tree_of_inodes, unpinned, uses_in}
use Rattle.vt_spec.specs.Inodes.{changed, is_directory_under}
use Rattle.vt_spec.specs.Fits.{StaysOutside}
use Rattle.vt_location.specs.Numbers.{exchanged}
use Rattle.vt_fs.specs.Trees.Names.{IsNamed, ListsNames, how_often, names_at}
use Rattle.vt_fs.specs.Trees.Paths.{path_in}
use Rattle.vt_fs.specs.Trees.TreeValue.{TreeValue, inodes_of, tree_of}
use Rattle.vt_fs.specs.FilesystemsValue.{ChangesInodes, FilesystemEntry, Filesystems, entry_at, entry_of, files_at, files_seen, inodes_at, inodes_promised, inodes_seen, no_entry, node_seen, seen_in, shown, shown_entry, shown_with, with_changed, with_tree, without}
use Rattle.vt_location.proofs.NumberLemmas.{exchanged_back}
use Rattle.vt_fs.proofs.Renamed.{by_numbers, changed_by_numbers, counted_by_numbers, entry_by_numbers, names_by_numbers, node_by_numbers, often_by_numbers, own_by_numbers, path_by_numbers, pinned_by_numbers, plain_by_numbers, root_by_numbers, under_by_numbers, unpinned_by_numbers, uses_by_numbers}
use Rattle.vt_laws_rules.specs.Renaming.{renamed_change}

-- the filesystem of this count is there, with this tree, and no two have one count
pub record Standing (fs : Filesystems) (f : ℕ) (tree : TreeValue) : Type 0 where
  pub apart : any_pair (λ a b. nat_eq a.count b.count) fs ≡ false
  pub found : option_map (λ entry. entry.tree) (entry_of fs f) ≡ Some tree

-- as it is where its tree is lent for a change
pub standing_of : (fs : Filesystems) (f : ℕ) (lent : Option (MutBor TreeValue)) (tree : MutBor TreeValue)
    → option_copied_mut lent ≡ option_map (λ entry. entry.tree) (entry_of fs f)
    → any_pair (λ a b. nat_eq a.count b.count) fs ≡ false → lent ≡ Some tree → Standing fs f tree.now
standing_of fs f lent tree value apart is = record { apart = apart; found = sym value ∙ ap option_copied_mut is }

-- it has the count that it was found by
pub count_found : (fs : Filesystems) (f : ℕ) (entry : FilesystemEntry) → entry_of fs f ≡ Some entry → entry.count ≡ f
count_found [] f entry e = absurd cc
count_found (x ∷ fs) f entry e = by (nat_eq f x.count) (eqb-true f x.count) e (count_found fs f entry)
  where
    by : (b : Bool) → (b ≡ true → f ≡ x.count) → cond b (Some x) (entry_of fs f) ≡ Some entry
        → (entry_of fs f ≡ Some entry → entry.count ≡ f) → entry.count ≡ f
    by true here e rest = (let is : entry ≡ x = cc in ap (λ n. n.count) is) ∙ sym (here refl)
    by false here e rest = rest e

-- what is looked at in a filesystem by its count and its tree
module _ (fs : Filesystems) (f : ℕ) (tree : TreeValue)
    (found : option_map (λ (entry : FilesystemEntry). entry.tree) (entry_of fs f) ≡ Some tree) where
  pub entry_look : {X : Type 0} (look : ℕ → TreeValue → X)
      → option_map (λ (entry : FilesystemEntry). look entry.count entry.tree) (entry_of fs f) ≡ Some (look f tree)
  entry_look {X} look = by (entry_of fs f) refl found
    where
      by : (o : Option FilesystemEntry) → entry_of fs f ≡ o
          → option_map (λ (entry : FilesystemEntry). entry.tree) o ≡ Some tree
          → option_map (λ (entry : FilesystemEntry). look entry.count entry.tree) o ≡ Some (look f tree)
      by None e there = absurd cc
      by (Some entry) e there =
          let is : entry.tree ≡ tree = cc in
          λ i. Some (look (count_found fs f entry e i) (is i))

  pub at_look : {X : Type 0} (look : ℕ → TreeValue → X) → look (entry_at fs f).count (entry_at fs f).tree ≡ look f tree
  at_look {X} look = by (entry_of fs f) refl found
    where
      by : (o : Option FilesystemEntry) → entry_of fs f ≡ o
          → option_map (λ (entry : FilesystemEntry). entry.tree) o ≡ Some tree
          → look (unwrap_or o (no_entry f)).count (unwrap_or o (no_entry f)).tree ≡ look f tree
      by None e there = absurd cc
      by (Some entry) e there =
          let is : entry.tree ≡ tree = cc in
          λ i. look (count_found fs f entry e i) (is i)

pub nowhere : (fs : Filesystems) (f : ℕ) → option_map (λ (entry : FilesystemEntry). entry.tree) (entry_of fs f) ≡ None
    → entry_of fs f ≡ None
nowhere fs f absent = by (entry_of fs f) absent
  where
    by : (o : Option FilesystemEntry) → option_map (λ (entry : FilesystemEntry). entry.tree) o ≡ None → o ≡ None
    by None e = refl
    by (Some entry) e = absurd cc

pub entry_nowhere : (fs : Filesystems) (f : ℕ)
    → option_map (λ (entry : FilesystemEntry). entry.tree) (entry_of fs f) ≡ None → entry_at fs f ≡ no_entry f
entry_nowhere fs f absent = ap (λ o. unwrap_or o (no_entry f)) (nowhere fs f absent)

-- a filesystem with a directory or a name exists
module _ (fs : Filesystems) (f : ℕ) (lent : Option (MutBor TreeValue))
    (value : option_copied_mut lent ≡ option_map (λ (entry : FilesystemEntry). entry.tree) (entry_of fs f))
    (number : ℕ) where
  pub directory_exists : IsDirectory (files_at fs f).tree number → IsSome lent
  directory_exists is = by lent value
    where
      by : (o : Option (MutBor TreeValue))
          → option_copied_mut o ≡ option_map (λ (entry : FilesystemEntry). entry.tree) (entry_of fs f) → IsSome o
      by None e = absurd (true≢false (sym is
          ∙ ap (λ entry. is_directory_node ((files_seen entry).tree.node number)) (entry_nowhere fs f (sym e))))
      by (Some tree) e = refl

  pub named_exists : (name : List ℕ) (object : ℕ) → number_at (files_at fs f).tree number name ≡ Some object
      → IsSome lent
  named_exists name object named = by lent value
    where
      by : (o : Option (MutBor TreeValue))
          → option_copied_mut o ≡ option_map (λ (entry : FilesystemEntry). entry.tree) (entry_of fs f) → IsSome o
      by None e = absurd (true≢false (ap is_some (sym named)
          ∙ ap (λ entry. is_some (number_at (files_seen entry).tree number name)) (entry_nowhere fs f (sym e))))
      by (Some tree) e = refl

-- so does one with an inode
pub inode_exists : (fs : Filesystems) (f number : ℕ) → is_some ((files_at fs f).tree.node number) ≡ true
    → (lent : Option (Bor TreeValue))
    → option_copied lent ≡ option_map (λ (entry : FilesystemEntry). entry.tree) (entry_of fs f) → IsSome lent
inode_exists fs f number there None e = absurd (true≢false (sym there
    ∙ ap (λ entry. is_some ((files_seen entry).tree.node number)) (entry_nowhere fs f (sym e))))
inode_exists fs f number there (Some tree) e = refl

pub inode_lent : (fs : Filesystems) (f number : ℕ) → is_some ((files_at fs f).tree.node number) ≡ true
    → (lent : Option (MutBor TreeValue))
    → option_copied_mut lent ≡ option_map (λ (entry : FilesystemEntry). entry.tree) (entry_of fs f) → IsSome lent
inode_lent fs f number there None e = absurd (true≢false (sym there
    ∙ ap (λ entry. is_some ((files_seen entry).tree.node number)) (entry_nowhere fs f (sym e))))
inode_lent fs f number there (Some tree) e = refl

-- the tree that is lent for a look
pub tree_found : (fs : Filesystems) (f : ℕ) (lent : Option (Bor TreeValue)) (tree : Bor TreeValue)
    → option_copied lent ≡ option_map (λ (entry : FilesystemEntry). entry.tree) (entry_of fs f) → lent ≡ Some tree
    → option_map (λ (entry : FilesystemEntry). entry.tree) (entry_of fs f) ≡ Some tree.now
tree_found fs f lent tree value is = sym value ∙ ap option_copied is

-- and so does one with promised inodes
pub promised_exists : (fs : Filesystems) (f : ℕ) (lent : Option (MutBor TreeValue))
    → option_copied_mut lent ≡ option_map (λ (entry : FilesystemEntry). entry.tree) (entry_of fs f)
    → 0 < inodes_promised fs f → IsSome lent
promised_exists fs f lent value some = by lent value
  where
    by : (o : Option (MutBor TreeValue))
        → option_copied_mut o ≡ option_map (λ (entry : FilesystemEntry). entry.tree) (entry_of fs f) → IsSome o
    by None e = absurd (omega (
      arith,
      some,
      ap (λ (entry : FilesystemEntry). entry.tree.promised) (entry_nowhere fs f (sym e)),
    ))
    by (Some tree) e = refl

module _ (f : ℕ) (change : Inodes ℕ → Inodes ℕ) where
  -- where no filesystem has the count, none is shown changed
  none_shown : (k : ℕ) (fs : Filesystems) → k ≡ f → list_any (λ other. nat_eq k other.count) fs ≡ false
      → shown_with f change (shown fs) ≡ shown fs
  none_shown k [] is none = refl
  none_shown k (x ∷ fs) is none =
      let other = ap (λ n. nat_eq n x.count) (sym is) ∙ or_false_left _ _ none in
      λ i. (ap (λ b. if b then record (shown_entry x) { inodes = change (inodes_seen x) } else shown_entry x) other) i
      ∷ none_shown k fs is (or_false_right (nat_eq k x.count) _ none) i

  none_with : (k : ℕ) (tree : TreeValue) (fs : Filesystems) → k ≡ f
      → list_any (λ other. nat_eq k other.count) fs ≡ false → with_tree f tree fs ≡ fs
  none_with k tree [] is none = refl
  none_with k tree (x ∷ fs) is none =
      let other = ap (λ n. nat_eq n x.count) (sym is) ∙ or_false_left _ _ none in
      λ i. (ap (λ b. if b then record x { tree = tree } else x) other) i
      ∷ none_with k tree fs is (or_false_right (nat_eq k x.count) _ none) i

  shown_changed : (new old : TreeValue) (fs : Filesystems) → any_pair (λ a b. nat_eq a.count b.count) fs ≡ false
      → option_map (λ entry. entry.tree) (entry_of fs f) ≡ Some old → seen_in f new ≡ change (seen_in f old)
      → shown (with_tree f new fs) ≡ shown_with f change (shown fs)
  shown_changed new old [] apart found is = absurd cc
  shown_changed new old (x ∷ fs) apart found is = by (nat_eq f x.count) (eqb-true f x.count) found
      (λ there. shown_changed new old fs
      (or_false_right (list_any (λ other. nat_eq x.count other.count) fs) _ apart) there is)
    where
      by : (b : Bool) → (b ≡ true → f ≡ x.count)
          → option_map (λ entry. entry.tree) (cond b (Some x) (entry_of fs f)) ≡ Some old
          → (option_map (λ entry. entry.tree) (entry_of fs f) ≡ Some old
          → shown (with_tree f new fs) ≡ shown_with f change (shown fs))
          → shown_entry (cond b (record x { tree = new }) x) ∷ shown (with_tree f new fs)
          ≡ cond b (record (shown_entry x) { inodes = change (inodes_seen x) }) (shown_entry x)
          ∷ shown_with f change (shown fs)
      by true here e rest =
          let old_is : x.tree ≡ old = cc in
          let count_is : f ≡ x.count = here refl in
          let none = or_false_left (list_any (λ (other : FilesystemEntry). nat_eq x.count other.count) fs) _ apart in
          let seen : seen_in x.count new ≡ change (seen_in x.count x.tree) =
          (λ i. seen_in (sym count_is i) new) ∙ is ∙ (λ i. change (seen_in (count_is i) (sym old_is i))) in
          λ i. record { count = x.count; inodes = seen i; mounts = x.mounts }
          ∷ (ap shown (none_with x.count new fs (sym count_is) none)
          ∙ sym (none_shown x.count fs (sym count_is) none)) i
      by false here e rest = ap (λ l. shown_entry x ∷ l) (rest e)

  kept_without : (tree : TreeValue) (fs : Filesystems) → without f (with_tree f tree fs) ≡ without f fs
  kept_without tree [] = refl
  kept_without tree (x ∷ fs) = by (nat_eq f x.count) refl (kept_without tree fs)
    where
      by : (b : Bool) → nat_eq f x.count ≡ b → without f (with_tree f tree fs) ≡ without f fs
          → without f (cond b (record x { tree = tree }) x ∷ with_tree f tree fs)
          ≡ cond (not b) (x ∷ without f fs) (without f fs)
      by true e rest = ap (λ b. cond (not b) (record x { tree = tree } ∷ without f (with_tree f tree fs))
          (without f (with_tree f tree fs))) e ∙ rest
      by false e rest = ap (λ b. cond (not b) (x ∷ without f (with_tree f tree fs)) (without f (with_tree f tree fs))) e
          ∙ ap (λ l. x ∷ l) rest

  pub changes_seen : (fs : Filesystems) (new old : TreeValue) → Standing fs f old
      → seen_in f new ≡ change (seen_in f old) → ChangesInodes f change fs (with_tree f new fs)
  changes_seen fs new old standing is =
      record { changed = shown_changed new old fs standing.apart standing.found is; others = kept_without new fs }

  shown_nowhere : (fs : Filesystems) → entry_of fs f ≡ None → shown fs ≡ shown_with f change (shown fs)
  shown_nowhere [] absent = refl
  shown_nowhere (x ∷ fs) absent = by (nat_eq f x.count) absent (shown_nowhere fs)
    where
      by : (b : Bool) → cond b (Some x) (entry_of fs f) ≡ None
          → (entry_of fs f ≡ None → shown fs ≡ shown_with f change (shown fs))
          → shown_entry x ∷ shown fs ≡ cond b (record (shown_entry x) { inodes = change (inodes_seen x) })
          (shown_entry x) ∷ shown_with f change (shown fs)
      by true found rest = absurd cc
      by false absent rest = ap (λ l. shown_entry x ∷ l) (rest absent)

  -- nothing changes where the filesystem is not there
  pub nothing_changes : (fs new : Filesystems) → new ≡ fs
      → option_map (λ (entry : FilesystemEntry). entry.tree) (entry_of fs f) ≡ None → ChangesInodes f change fs new
  nothing_changes fs new is absent =
      record { changed = ap shown is ∙ shown_nowhere fs (nowhere fs f absent); others = ap (without f) is }

-- A change of the tree in its slots is the change by numbers.
module _ (fs : Filesystems) (f : ℕ) (new old : TreeValue) (standing : Standing fs f old) where
  pub changes : (by_slot by_number : Change ℕ) → renamed_change (exchanged f) (exchanged f) by_slot ≡ by_number
      → inodes_of new ≡ changed nat_eq (inodes_of old) by_slot
      → ChangesInodes f (λ inodes. changed nat_eq inodes by_number) fs (with_tree f new fs)
  changes by_slot by_number same is = changes_seen f (λ inodes. changed nat_eq inodes by_number) fs new old standing
      (ap (by_numbers f) is ∙ sym (changed_by_numbers f (inodes_of old) by_slot)
      ∙ ap (changed nat_eq (seen_in f old)) same)

  pub pins : (slot number : ℕ) → exchanged f slot ≡ number → inodes_of new ≡ pinned nat_eq (inodes_of old) slot
      → ChangesInodes f (λ inodes. pinned nat_eq inodes number) fs (with_tree f new fs)
  pins slot number same is = changes_seen f (λ inodes. pinned nat_eq inodes number) fs new old standing
      (ap (by_numbers f) is ∙ sym (pinned_by_numbers f (inodes_of old) slot) ∙ ap (pinned nat_eq (seen_in f old)) same)

  pub unpins : (slot number : ℕ) → exchanged f slot ≡ number → inodes_of new ≡ unpinned nat_eq (inodes_of old) slot
      → ChangesInodes f (λ inodes. unpinned nat_eq inodes number) fs (with_tree f new fs)
  unpins slot number same is = changes_seen f (λ inodes. unpinned nat_eq inodes number) fs new old standing
      (ap (by_numbers f) is ∙ sym (unpinned_by_numbers f (inodes_of old) slot)
      ∙ ap (unpinned nat_eq (seen_in f old)) same)

-- What the filesystem has by numbers is what its tree has by slots.
module _ (fs : Filesystems) (f : ℕ) (tree : TreeValue)
    (found : option_map (λ (entry : FilesystemEntry). entry.tree) (entry_of fs f) ≡ Some tree) where
  is_seen : inodes_at fs f ≡ by_numbers f (inodes_of tree)
  is_seen = at_look fs f tree found seen_in

  pub node_there : (slot number : ℕ) → exchanged f slot ≡ number
      → (files_at fs f).tree.node number ≡ option_map (node_seen f) ((tree_of tree).node slot)
  node_there slot number same =
      (λ i. (tree_of_inodes (is_seen i)).node (sym same i)) ∙ node_by_numbers f (inodes_of tree) slot

  pub plain_there : (X : Type 0) (look : (A : Type 0) → Option (Node A) → X) (slot number : ℕ)
      → exchanged f slot ≡ number → look ℕ ((files_at fs f).tree.node number) ≡ look ℕ ((tree_of tree).node slot)
  plain_there X look slot number same =
      (λ i. look ℕ ((tree_of_inodes (is_seen i)).node (sym same i))) ∙ plain_by_numbers f (inodes_of tree) X look slot

  pub uses_there : (slot number : ℕ) → exchanged f slot ≡ number
      → uses_in ((inodes_at fs f).inode number) ≡ uses_in ((inodes_of tree).inode slot)
  uses_there slot number same = (λ i. uses_in ((is_seen i).inode (sym same i)))
      ∙ uses_by_numbers f (inodes_of tree) slot

  pub entry_there : (slot number : ℕ) (name : List ℕ) → exchanged f slot ≡ number
      → number_at (files_at fs f).tree number name ≡ option_map (exchanged f) (number_at (tree_of tree) slot name)
  entry_there slot number name same = (λ i. number_at (tree_of_inodes (is_seen i)) (sym same i) name)
      ∙ entry_by_numbers f (inodes_of tree) slot name

  pub root_there : (slot number : ℕ) → exchanged f slot ≡ number
      → nat_eq number (files_at fs f).tree.root ≡ nat_eq slot (inodes_of tree).root
  root_there slot number same = (λ i. nat_eq (sym same i) (is_seen i).root) ∙ root_by_numbers f (inodes_of tree) slot

  pub own_there : (slot number : ℕ) → exchanged f slot ≡ number
      → nat_eq number (parent_in number ((files_at fs f).tree.node number))
      ≡ nat_eq slot (parent_in slot ((tree_of tree).node slot))
  own_there slot number same =
      (λ i. nat_eq (sym same i) (parent_in (sym same i) ((tree_of_inodes (is_seen i)).node (sym same i))))
      ∙ own_by_numbers f (inodes_of tree) slot

  pub under_there : (top_slot top slot number : ℕ) → exchanged f top_slot ≡ top → exchanged f slot ≡ number
      → is_directory_under nat_eq (inodes_at fs f) top number ≡ is_directory_under nat_eq (inodes_of tree) top_slot slot
  under_there top_slot top slot number same_top same =
      (λ i. is_directory_under nat_eq (is_seen i) (sym same_top i) (sym same i))
      ∙ under_by_numbers f (inodes_of tree) top_slot slot

  pub path_there : (top_slot top slot number : ℕ) → exchanged f top_slot ≡ top → exchanged f slot ≡ number
      → path_in nat_eq (inodes_at fs f) top number ≡ path_in nat_eq (inodes_of tree) top_slot slot
  path_there top_slot top slot number same_top same =
      (λ i. path_in nat_eq (is_seen i) (sym same_top i) (sym same i)) ∙ path_by_numbers f (inodes_of tree) top_slot slot

  pub names_there : (slot number object_slot object : ℕ) → exchanged f slot ≡ number → exchanged f object_slot ≡ object
      → has_entry_to nat_eq (files_at fs f).tree number object ≡ has_entry_to nat_eq (tree_of tree) slot object_slot
  names_there slot number object_slot object same same_object =
      (λ i. has_entry_to nat_eq (tree_of_inodes (is_seen i)) (sym same i) (sym same_object i))
      ∙ names_by_numbers f (inodes_of tree) slot object_slot

  -- what lists the names of an object by slots lists them by numbers
  pub listed_there : (slot number : ℕ) → exchanged f slot ≡ number → (directories : List ℕ)
      → ListsNames (tree_of tree) slot directories → ListsNames (files_at fs f).tree number (map (exchanged f) directories)
  listed_there slot number same directories lists directory =
      let back : exchanged f (exchanged f directory) ≡ directory = exchanged_back f directory in
      let names : names_at (files_at fs f).tree number directory ≡ names_at (tree_of tree) slot (exchanged f directory) =
      (λ i. names_at (tree_of_inodes (is_seen i)) (sym same i) (sym back i))
      ∙ counted_by_numbers f (inodes_of tree) slot (exchanged f directory) in
      let listed : how_often directory (map (exchanged f) directories) ≡ how_often (exchanged f directory) directories =
      ap (λ n. how_often n (map (exchanged f) directories)) (sym back)
      ∙ often_by_numbers f (exchanged f directory) directories in
      omega (arith, names, listed, lists (exchanged f directory))

  -- and the other way round
  pub lists_there : (slot number : ℕ) → exchanged f slot ≡ number → (directories : List ℕ)
      → ListsNames (files_at fs f).tree number (map (exchanged f) directories) → ListsNames (tree_of tree) slot directories
  lists_there slot number same directories lists directory =
      let names : names_at (files_at fs f).tree number (exchanged f directory) ≡ names_at (tree_of tree) slot directory =
      (λ i. names_at (tree_of_inodes (is_seen i)) (sym same i) (exchanged f directory))
      ∙ counted_by_numbers f (inodes_of tree) slot directory in
      omega (arith, names, often_by_numbers f directory directories, lists (exchanged f directory))

  -- a slot without a node has no inode
  pub vacant_there : (slot number : ℕ) → exchanged f slot ≡ number → (tree_of tree).node slot ≡ None
      → (inodes_at fs f).inode number ≡ None
  vacant_there slot number same vacant = (λ i. (is_seen i).inode (sym same i))
      ∙ ap (λ n. option_map (renamed_inode (exchanged f) (exchanged f)) ((inodes_of tree).inode n))
      (exchanged_back f slot) ∙ by ((inodes_of tree).inode slot) vacant
    where
      by : (o : Option (Inode ℕ)) → node_in o ≡ None → option_map (renamed_inode (exchanged f) (exchanged f)) o ≡ None
      by None e = refl
      by (Some inode) e = absurd cc

  -- a directory without entries has none by numbers, and the other way round
  pub empty_there : (slot number : ℕ) → exchanged f slot ≡ number → entries_in ((files_at fs f).tree.node number) ≡ []
      → entries_in ((tree_of tree).node slot) ≡ []
  empty_there slot number same empty = by (entries_in ((tree_of tree).node slot))
      (sym (plain_there Bool (λ A node. is_empty_list (entries_in node)) slot number same) ∙ ap is_empty_list empty)
    where
      by : (entries : Entries ℕ) → is_empty_list entries ≡ true → entries ≡ []
      by [] e = refl
      by (entry ∷ rest) e = absurd (true≢false (sym e))

  -- an entry leads to an inode by its slot where it leads to its number
  pub slot_named : (slot number : ℕ) (name : List ℕ) (object_slot object : ℕ) → exchanged f slot ≡ number
      → exchanged f object_slot ≡ object
      → number_at (files_at fs f).tree number name ≡ Some object → number_at (tree_of tree) slot name ≡ Some object_slot
  slot_named slot number name object_slot object same same_object named = by (number_at (tree_of tree) slot name)
      (sym (entry_there slot number name same) ∙ named ∙ ap Some (sym same_object))
    where
      by : (o : Option ℕ) → option_map (exchanged f) o ≡ Some (exchanged f object_slot) → o ≡ Some object_slot
      by None e = absurd cc
      by (Some other) e =
          let is : exchanged f other ≡ exchanged f object_slot = cc in
          ap Some (sym (exchanged_back f other) ∙ ap (exchanged f) is ∙ exchanged_back f object_slot)

  pub named_there : (slot number : ℕ) → exchanged f slot ≡ number → IsNamed (files_at fs f).tree number
      → IsNamed (tree_of tree) slot
  named_there slot number same named = record {
    directory = exchanged f named.directory;
    name = named.name;
    leads = slot_named (exchanged f named.directory) named.directory named.name slot number
        (exchanged_back f named.directory) same named.leads;
  }

  -- a name that is free by numbers is free by slots
  pub free_there : (slot number : ℕ) (name : List ℕ) → exchanged f slot ≡ number
      → number_at (files_at fs f).tree number name ≡ None → number_at (tree_of tree) slot name ≡ None
  free_there slot number name same free =
      by (number_at (tree_of tree) slot name) (sym (entry_there slot number name same) ∙ free)
    where
      by : (o : Option ℕ) → option_map (exchanged f) o ≡ None → o ≡ None
      by None e = refl
      by (Some other) e = absurd cc

  pub directory_there : (slot number : ℕ) → exchanged f slot ≡ number
      → is_directory_node ((files_at fs f).tree.node number) ≡ is_directory_node ((tree_of tree).node slot)
  directory_there slot number same = plain_there Bool (λ A node. is_directory_node node) slot number same

  -- what may be replaced by numbers may be by slots, and what stays outside stays so
  pub replaced_there : (slot number : ℕ) (name : List ℕ) (object_slot object : ℕ) → exchanged f slot ≡ number
      → exchanged f object_slot ≡ object
      → MayReplace (files_at fs f).tree object (number_at (files_at fs f).tree number name)
      → MayReplace (tree_of tree) object_slot (number_at (tree_of tree) slot name)
  replaced_there slot number name object_slot object same same_object may = by (number_at (tree_of tree) slot name)
      (subst (MayReplace (files_at fs f).tree object) (entry_there slot number name same) may)
    where
      by : (o : Option ℕ) → MayReplace (files_at fs f).tree object (option_map (exchanged f) o)
          → MayReplace (tree_of tree) object_slot o
      by None may = tt
      by (Some old) may = (
        (λ is. may.0 (ap (exchanged f) is ∙ same_object)),
        sym (directory_there old _ refl) ∙ may.1 ∙ directory_there object_slot object same_object,
        empty_there old _ refl may.2,
      )

  pub outside_there : (slot number object_slot object : ℕ) → exchanged f slot ≡ number
      → exchanged f object_slot ≡ object
      → StaysOutside (inodes_at fs f) object number → StaysOutside (inodes_of tree) object_slot slot
  outside_there slot number object_slot object same same_object outside = λ is.
      sym (under_there object_slot object slot number same_object same)
      ∙ outside (directory_there object_slot object same_object ∙ is)

-- A tree that is written back as it was changes nothing.
written_back : (fs : Filesystems) (f : ℕ) (tree : TreeValue) → any_pair (λ a b. nat_eq a.count b.count) fs ≡ false
    → option_map (λ (entry : FilesystemEntry). entry.tree) (entry_of fs f) ≡ Some tree → with_tree f tree fs ≡ fs
written_back [] f tree apart found = refl
written_back (x ∷ fs) f tree apart found = by (nat_eq f x.count) (eqb-true f x.count) found
    (written_back fs f tree (or_false_right (list_any (λ other. nat_eq x.count other.count) fs) _ apart))
  where
    by : (b : Bool) → (b ≡ true → f ≡ x.count)
        → option_map (λ (entry : FilesystemEntry). entry.tree) (cond b (Some x) (entry_of fs f)) ≡ Some tree
        → (option_map (λ (entry : FilesystemEntry). entry.tree) (entry_of fs f) ≡ Some tree → with_tree f tree fs ≡ fs)
        → cond b (record x { tree = tree }) x ∷ with_tree f tree fs ≡ x ∷ fs
    by true here e rest =
        let is : x.tree ≡ tree = cc in
        let none = or_false_left (list_any (λ (other : FilesystemEntry). nat_eq x.count other.count) fs) _ apart in
        λ i. record x { tree = sym is i } ∷ none_with f (λ inodes. inodes) x.count tree fs (sym (here refl)) none i
    by false here e rest = ap (λ l. x ∷ l) (rest e)

pub kept : (fs : Filesystems) (f : ℕ) (new old : TreeValue) → Standing fs f old → new ≡ old → with_tree f new fs ≡ fs
kept fs f new old standing is = ap (λ tree. with_tree f tree fs) is
    ∙ written_back fs f old standing.apart standing.found

-- the tree of a filesystem is that which was written to it
pub found_with : (fs : Filesystems) (f : ℕ) (new old : TreeValue)
    → option_map (λ (entry : FilesystemEntry). entry.tree) (entry_of fs f) ≡ Some old
    → option_map (λ (entry : FilesystemEntry). entry.tree) (entry_of (with_tree f new fs) f) ≡ Some new
found_with [] f new old found = absurd cc
found_with (x ∷ fs) f new old found = by (nat_eq f x.count) refl found (found_with fs f new old)
  where
    by : (b : Bool) → nat_eq f x.count ≡ b
        → option_map (λ (entry : FilesystemEntry). entry.tree) (cond b (Some x) (entry_of fs f)) ≡ Some old
        → (option_map (λ (entry : FilesystemEntry). entry.tree) (entry_of fs f) ≡ Some old
        → option_map (λ (entry : FilesystemEntry). entry.tree) (entry_of (with_tree f new fs) f) ≡ Some new)
        → option_map (λ (entry : FilesystemEntry). entry.tree)
        (entry_of (cond b (record x { tree = new }) x ∷ with_tree f new fs) f) ≡ Some new
    by true is found rest = ap (λ b. option_map (λ (entry : FilesystemEntry). entry.tree)
        (cond b (Some (record x { tree = new })) (entry_of (with_tree f new fs) f))) is
    by false is found rest = ap (λ b. option_map (λ (entry : FilesystemEntry). entry.tree)
        (cond b (Some x) (entry_of (with_tree f new fs) f))) is ∙ rest found

-- A tree that is changed changes its filesystem.
module _ (f : ℕ) (change : TreeValue → TreeValue) where
  abbrev changing : FilesystemEntry → FilesystemEntry
  changing entry = record entry { tree = change entry.tree }

  none_changed : (k : ℕ) (fs : Filesystems) → k ≡ f → list_any (λ other. nat_eq k other.count) fs ≡ false
      → with_changed f changing fs ≡ fs
  none_changed k [] is none = refl
  none_changed k (x ∷ fs) is none =
      let other = ap (λ n. nat_eq n x.count) (sym is) ∙ or_false_left _ _ none in
      λ i. (ap (λ b. if b then changing x else x) other) i
      ∷ none_changed k fs is (or_false_right (nat_eq k x.count) _ none) i

  pub tree_changed : (fs : Filesystems) (tree : TreeValue) → Standing fs f tree
      → with_tree f (change tree) fs ≡ with_changed f changing fs
  tree_changed fs tree standing = by fs standing.apart standing.found
    where
      by : (fs : Filesystems) → any_pair (λ a b. nat_eq a.count b.count) fs ≡ false
          → option_map (λ (entry : FilesystemEntry). entry.tree) (entry_of fs f) ≡ Some tree
          → with_tree f (change tree) fs ≡ with_changed f changing fs
      by [] apart found = refl
      by (x ∷ fs) apart found = at (nat_eq f x.count) (eqb-true f x.count) found
          (by fs (or_false_right (list_any (λ other. nat_eq x.count other.count) fs) _ apart))
        where
          at : (b : Bool) → (b ≡ true → f ≡ x.count)
              → option_map (λ (entry : FilesystemEntry). entry.tree) (cond b (Some x) (entry_of fs f)) ≡ Some tree
              → (option_map (λ (entry : FilesystemEntry). entry.tree) (entry_of fs f) ≡ Some tree
              → with_tree f (change tree) fs ≡ with_changed f changing fs)
              → cond b (record x { tree = change tree }) x ∷ with_tree f (change tree) fs
              ≡ cond b (changing x) x ∷ with_changed f changing fs
          at true here e rest =
              let is : x.tree ≡ tree = cc in
              let none = or_false_left (list_any (λ (other : FilesystemEntry). nat_eq x.count other.count) fs) _ apart in
              λ i. record x { tree = change (sym is i) }
              ∷ (none_with f (λ inodes. inodes) x.count (change tree) fs (sym (here refl)) none
              ∙ sym (none_changed x.count fs (sym (here refl)) none)) i
          at false here e rest = ap (λ l. x ∷ l) (rest e)

  pub nowhere_changed : (fs : Filesystems)
      → option_map (λ (entry : FilesystemEntry). entry.tree) (entry_of fs f) ≡ None → fs ≡ with_changed f changing fs
  nowhere_changed fs absent = by fs (nowhere fs f absent)
    where
      by : (fs : Filesystems) → entry_of fs f ≡ None → fs ≡ with_changed f changing fs
      by [] absent = refl
      by (x ∷ fs) absent = at (nat_eq f x.count) absent (by fs)
        where
          at : (b : Bool) → cond b (Some x) (entry_of fs f) ≡ None
              → (entry_of fs f ≡ None → fs ≡ with_changed f changing fs)
              → x ∷ fs ≡ cond b (changing x) x ∷ with_changed f changing fs
          at true found rest = absurd cc
          at false absent rest = ap (λ l. x ∷ l) (rest absent)
