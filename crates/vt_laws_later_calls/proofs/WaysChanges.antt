-- What changes of a tree leave of the ways through it.
use Rattle.std.proofs.Common.{arith, ◌≡◌, ◌≢◌, refl, sym, ap, ◌∙◌, inl, ◌⊎◌, ⊎_elim, true≢false, ℕ, nat_eq, ne_eqb, Bool, true, false, cond, List, Option, Some, None, is_some}
use Rattle.vt_spec.proofs.Common.{Content, Credentials, Directory, FileTree, IsDirectory, Make, Node, Regular, Symlink, Tree, Whiteout, allows, changed, changed_node, common_steps, denial, directory_from_entry, entries-node_with_bytes, entries-node_with_entry, entries_in, entries_of, entry_at, entry_named, entry_named-with_entry, eq_by_cmp, eqb_tells, is_directory-node_with_entry, is_directory_node, kind_of, name_cmp, nat_list_cmp_total, node_allows, node_with_attr, node_with_bytes, node_with_entry, node_without_entry, none_is_not, parent-node_with_entry, parent_in, symlink_text, tied_itself, with_bytes, with_entries, with_entry, with_name, without_entry}
use Rattle.vt_laws_later_calls.proofs.Common.{Attr, Deny, W6, attr_keeps_place, changed_node_there, elsewhere, part_stays}
use Rattle.vt_spec.proofs.Nodes.{is_directory-node_with_bytes, parent-node_with_bytes, same_name}

-- What was there is of its kind, and a directory has its parent, a symlink its text. A name leads where it led, or is
-- missing, and then it was no directory's.
pub record TreeStays (tree later : Tree ℕ) (Refused : Deny → Type 0) : Type 0 where
  pub root : later.root ≡ tree.root
  pub directory : (n : ℕ) → is_some (tree.node n) ≡ true
      → is_directory_node (later.node n) ≡ is_directory_node (tree.node n)
  pub parent : (n : ℕ) → is_some (tree.node n) ≡ true → parent_in n (later.node n) ≡ parent_in n (tree.node n)
  pub link : (n : ℕ) → is_some (tree.node n) ≡ true → symlink_text (later.node n) ≡ symlink_text (tree.node n)
  pub entry : (directory : ℕ) (name : List ℕ) (number : ℕ) → entry_at tree directory name ≡ Some number
      → (entry_at later directory name ≡ Some number)
      ⊎ ((entry_at later directory name ≡ None) × (is_directory_node (tree.node number) ≡ false) × Refused (denial W6))

-- what may be done to what was there stays
abbrev pub RightsStay : Tree ℕ → Tree ℕ → Type 0
RightsStay tree later = (who : Credentials) (wanted n : ℕ) → is_some (tree.node n) ≡ true
    → node_allows who wanted (later.node n) ≡ node_allows who wanted (tree.node n)

-- What changes of an inode leave of a symlink
pub link_with_bytes : (bytes : List ℕ) (o : Option (Node ℕ)) → symlink_text (node_with_bytes bytes o) ≡ symlink_text o
link_with_bytes bytes o = grind (arith, common_steps)

pub link_with_attr : (attr : Attr) (o : Option (Node ℕ)) → symlink_text (node_with_attr attr o) ≡ symlink_text o
link_with_attr attr None = refl
link_with_attr attr (Some node) = refl

link_with_entries : (content : Content ℕ) (attr : Attr) (entries : List (List ℕ × ℕ))
    → symlink_text (Some (record { attr = attr; content = with_entries content entries }))
    ≡ symlink_text (Some (record { attr = attr; content = content }))
link_with_entries (Directory parent old opaque) attr entries = refl
link_with_entries (Regular bytes) attr entries = refl
link_with_entries (Symlink text) attr entries = refl
link_with_entries Whiteout attr entries = refl

link_with_entry : (name : List ℕ) (number : ℕ) (o : Option (Node ℕ))
    → symlink_text (node_with_entry name number o) ≡ symlink_text o
link_with_entry name number None = refl
link_with_entry name number (Some node) =
    link_with_entries node.content node.attr (with_entry name number (entries_of node.content))

pub link_without : (name : List ℕ) (o : Option (Node ℕ)) → symlink_text (node_without_entry name o) ≡ symlink_text o
link_without name None = refl
link_without name (Some node) = link_with_entries node.content node.attr (without_entry name (entries_of node.content))

-- and of rights
allows_with_bytes : (bytes : List ℕ) (who : Credentials) (wanted : ℕ) (o : Option (Node ℕ))
    → node_allows who wanted (node_with_bytes bytes o) ≡ node_allows who wanted o
allows_with_bytes bytes who wanted None = refl
allows_with_bytes bytes who wanted (Some node) = by node.content
  where
    by : (content : Content ℕ) → allows who node.attr (kind_of (with_bytes content bytes)) wanted
        ≡ allows who node.attr (kind_of content) wanted
    by (Directory parent entries opaque) = refl
    by (Regular old) = refl
    by (Symlink text) = refl
    by Whiteout = refl

allows_with_entries : (content : Content ℕ) (attr : Attr) (entries : List (List ℕ × ℕ)) (who : Credentials) (wanted : ℕ)
    → allows who attr (kind_of (with_entries content entries)) wanted ≡ allows who attr (kind_of content) wanted
allows_with_entries (Directory parent old opaque) attr entries who wanted = refl
allows_with_entries (Regular bytes) attr entries who wanted = refl
allows_with_entries (Symlink text) attr entries who wanted = refl
allows_with_entries Whiteout attr entries who wanted = refl

allows_with_entry : (name : List ℕ) (number : ℕ) (who : Credentials) (wanted : ℕ) (o : Option (Node ℕ))
    → node_allows who wanted (node_with_entry name number o) ≡ node_allows who wanted o
allows_with_entry name number who wanted None = refl
allows_with_entry name number who wanted (Some node) =
    allows_with_entries node.content node.attr (with_entry name number (entries_of node.content)) who wanted

pub allows_without : (name : List ℕ) (who : Credentials) (wanted : ℕ) (o : Option (Node ℕ))
    → node_allows who wanted (node_without_entry name o) ≡ node_allows who wanted o
allows_without name who wanted None = refl
allows_without name who wanted (Some node) =
    allows_with_entries node.content node.attr (without_entry name (entries_of node.content)) who wanted

-- what is no directory has no parent
pub no_parent : (n : ℕ) (o : Option (Node ℕ)) → is_directory_node o ≡ false → parent_in n o ≡ n
no_parent n None e = refl
no_parent n (Some node) e = grind (arith, common_steps, true≢false)

module _ (files : FileTree ℕ) (Refused : Deny → Type 0) where
  -- Ways stay where an inode keeps its kind, entries, parent and text
  ways_changed : (number : ℕ) (change : Option (Node ℕ) → Option (Node ℕ))
      → ((o : Option (Node ℕ)) → is_directory_node (change o) ≡ is_directory_node o)
      → ((o : Option (Node ℕ)) → entries_in (change o) ≡ entries_in o)
      → ((own : ℕ) (o : Option (Node ℕ)) → parent_in own (change o) ≡ parent_in own o)
      → ((o : Option (Node ℕ)) → symlink_text (change o) ≡ symlink_text o)
      → TreeStays files.tree (changed_node nat_eq files number change).tree Refused
  ways_changed number change kinds entries parents links = grind (arith, common_steps, part_stays)

  pub ways_with_bytes : (file : ℕ) (bytes : List ℕ) → TreeStays files.tree (changed_node nat_eq files file
      (node_with_bytes bytes)).tree Refused
  ways_with_bytes file bytes =
      ways_changed file (node_with_bytes bytes) (is_directory-node_with_bytes bytes) (entries-node_with_bytes bytes)
      (parent-node_with_bytes bytes) (link_with_bytes bytes)

  pub rights_with_bytes : (file : ℕ) (bytes : List ℕ)
      → RightsStay files.tree (changed_node nat_eq files file (node_with_bytes bytes)).tree
  rights_with_bytes file bytes who wanted n is =
      part_stays files file (node_with_bytes bytes) (node_allows who wanted) (allows_with_bytes bytes who wanted) n

  pub ways_with_attr : (object : ℕ) (attr : Attr) → TreeStays files.tree (changed_node nat_eq files object
      (node_with_attr attr)).tree Refused
  ways_with_attr object attr =
      ways_changed object (node_with_attr attr) (attr_keeps_place attr).kind (attr_keeps_place attr).entries
      (attr_keeps_place attr).parent (link_with_attr attr)

  -- A name more in a directory, where none was
  module _ (directory : ℕ) (name : List ℕ) (object : ℕ) (in_directory : IsDirectory files.tree directory)
      (free : entry_at files.tree directory name ≡ None) where
    abbrev named : FileTree ℕ
    named = with_name nat_eq files directory name object

    entry_now : (other : List ℕ) → entry_at named.tree directory other
        ≡ cond (eq_by_cmp name_cmp other name) (Some object) (entry_at files.tree directory other)
    entry_now other = ap (λ o. entry_named other (entries_in o))
        (changed_node_there files directory (node_with_entry name object))
        ∙ ap (entry_named other) (entries-node_with_entry name object (files.tree.node directory) in_directory)
        ∙ entry_named-with_entry other name object (entries_in (files.tree.node directory))

    -- the name leads to the object
    pub name_leads : entry_at named.tree directory name ≡ Some object
    name_leads = cc (entry_now name, tied_itself nat_list_cmp_total name)

    -- and each other where it led
    entry_stays : (here : ℕ) (other : List ℕ) (next : ℕ) → entry_at files.tree here other ≡ Some next
        → entry_at named.tree here other ≡ Some next
    entry_stays here other next e = ⊎_elim (λ t. cc (
      t.1,
      entry_now other,
      by (eq_by_cmp name_cmp other name) refl (ap (λ m. entry_at files.tree m other) (sym t.1) ∙ e),
    )) (λ t. cc (elsewhere files directory (node_with_entry name object) here t.1)) (eqb_tells here directory)
      where
        by : (b : Bool) → eq_by_cmp name_cmp other name ≡ b → entry_at files.tree directory other ≡ Some next
            → cond b (Some object) (entry_at files.tree directory other) ≡ Some next
        by true tie is = none_is_not (entry_at files.tree directory other) next (cc (same_name other name tie)) is
        by false tie is = is

    pub ways_named : TreeStays files.tree named.tree Refused
    ways_named = record {
      root = refl;
      directory = λ n is. part_stays files directory (node_with_entry name object) is_directory_node
          (is_directory-node_with_entry name object) n;
      parent = λ n is. part_stays files directory (node_with_entry name object) (parent_in n)
          (parent-node_with_entry name object n) n;
      link = λ n is. part_stays files directory (node_with_entry name object) symlink_text
          (link_with_entry name object) n;
      entry = λ here other next e. inl (entry_stays here other next e);
    }

    pub rights_named : RightsStay files.tree named.tree
    rights_named who wanted n is = part_stays files directory (node_with_entry name object) (node_allows who wanted)
        (allows_with_entry name object who wanted) n

    -- what is not the directory is as it was
    pub named_other : (n : ℕ) → n ≢ directory → named.tree.node n ≡ files.tree.node n
    named_other n other = elsewhere files directory (node_with_entry name object) n other

    -- A new object
    module _ (node : Node ℕ) (new : files.tree.node object ≡ None) where
      abbrev made : FileTree ℕ
      made = changed nat_eq files (Make directory name object node)

      not_new : (n : ℕ) → is_some (files.tree.node n) ≡ true → n ≢ object
      not_new n is same = true≢false (cc)

      directory_is : is_some (files.tree.node directory) ≡ true
      directory_is = Rattle.vt_spec.proofs.Nodes.directory_used files.tree directory in_directory

      -- what was there is as it is with the name alone
      made_other : (n : ℕ) → is_some (files.tree.node n) ≡ true → made.tree.node n ≡ named.tree.node n
      made_other n is = grind (arith, common_steps, ne_eqb, not_new, directory_is)

      pub made_entry : entry_at made.tree directory name ≡ Some object
      made_entry = cc (made_other directory directory_is, name_leads)

      pub ways_made : TreeStays files.tree made.tree Refused
      ways_made = record {
        root = refl;
        directory = λ n is. cc (made_other n is, ways_named.directory n is);
        parent = λ n is. cc (made_other n is, ways_named.parent n is);
        link = λ n is. cc (made_other n is, ways_named.link n is);
        entry = λ here other next e.
            inl (cc (made_other here (some_there here other next e), entry_stays here other next e));
      }
        where
          some_there : (here : ℕ) (other : List ℕ) (next : ℕ) → entry_at files.tree here other ≡ Some next
              → is_some (files.tree.node here) ≡ true
          some_there here other next e = Rattle.vt_spec.proofs.Nodes.directory_used files.tree here
              (directory_from_entry other next (files.tree.node here) e)

      pub rights_made : RightsStay files.tree made.tree
      rights_made who wanted n is = cc (made_other n is, rights_named who wanted n is)
