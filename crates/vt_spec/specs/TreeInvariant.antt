-- The invariants of a tree: path_resolution(7), and link(2) on directories.
use Rattle.std.specs.Prelude.{◌≡◌, ◌≢◌, ℕ, true, List, [], ◌∷◌, Option, Some, option_and_then, is_some}
use Rattle.std.specs.FinMap.Entries.{is_sorted}
use Rattle.vt_spec.specs.Tree.{Tree, name_cmp, entry_named, entries_in, parent_in, is_directory_node}

module _ {N : Type 0} where
  -- the number that an entry of a directory leads to
  abbrev pub entry_at : Tree N → N → List ℕ → Option N
  entry_at tree directory name = entry_named name (entries_in (tree.node directory))

  -- where a list of names leads from a directory, through entries alone
  abbrev pub led : Tree N → N → List (List ℕ) → Option N
  led tree from [] = Some from
  led tree from (name ∷ names) = option_and_then (λ next. led tree next names) (entry_at tree from name)

  -- a directory has this number
  abbrev pub IsDirectory : Tree N → N → Type 0
  IsDirectory tree number = is_directory_node (tree.node number) ≡ true

  -- some entry leads to it
  abbrev pub HasName : Tree N → N → Type 0
  HasName tree number = (directory : N) × (name : List ℕ) × (entry_at tree directory name ≡ Some number)

  -- names lead to it from the root
  abbrev pub IsReached : Tree N → N → Type 0
  IsReached tree number = (names : List (List ℕ)) × (led tree tree.root names ≡ Some number)

  -- a directory without a name is its own parent: rmdir(2) while it is in use
  abbrev pub HasOwnParents : Tree N → Type 0
  HasOwnParents tree = (number : N) → IsDirectory tree number → ¬ (HasName tree number)
      → parent_in number (tree.node number) ≡ number

  -- the invariants of a tree
  pub record IsTree (tree : Tree N) : Type 0 where
    -- the root is a directory, its own parent, and no entry leads to it
    pub root_directory : IsDirectory tree tree.root
    pub root_parent : parent_in tree.root (tree.node tree.root) ≡ tree.root
    pub root_unnamed : (directory : N) (name : List ℕ) → entry_at tree directory name ≢ Some tree.root
    -- a directory's names stand in the order of their bytes, each once
    pub in_order : (directory : N) → is_sorted name_cmp (entries_in (tree.node directory)) ≡ true
    -- each entry leads to an object that is there
    pub alive : (directory : N) (name : List ℕ) (number : N) → entry_at tree directory name ≡ Some number
        → is_some (tree.node number) ≡ true
    -- the parent of a directory is there, and has the one entry that leads to it
    pub one_parent : (directory : N) (name : List ℕ) (number : N) → entry_at tree directory name ≡ Some number
        → IsDirectory tree number → parent_in number (tree.node number) ≡ directory
    pub one_name : (directory : N) (name other : List ℕ) (number : N) → entry_at tree directory name ≡ Some number
        → entry_at tree directory other ≡ Some number → IsDirectory tree number → name ≡ other
    pub parent_directory : (number : N) → IsDirectory tree number
        → IsDirectory tree (parent_in number (tree.node number))
    -- every directory with a name is reached from the root, and one without is empty
    pub reached : (number : N) → IsDirectory tree number → HasName tree number → IsReached tree number
    pub unnamed_empty : (number : N) → IsDirectory tree number → number ≢ tree.root → ¬ (HasName tree number)
        → entries_in (tree.node number) ≡ []
