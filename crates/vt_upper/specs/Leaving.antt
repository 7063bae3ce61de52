-- Names that are freed: unlink(2), rmdir(2). Until all is done, what loses a name is held, so that what is made in its place
-- is another inode.
use Rattle.std.specs.Prelude.{All, Bool, List, None, Option, Some, [], false, map, nat_eq, true, ℕ, ◌++◌, ◌<◌, ◌∷◌, ◌≡◌}
use Rattle.std.specs.FinMap.Entries.{is_sorted}
use Rattle.vt_spec.specs.FileTree.{has_entry_to, targets_in}
use Rattle.vt_spec.specs.Inodes.{Inodes, changed, pinned, tree_of, unpinned, uses_in}
use Rattle.vt_spec.specs.Language.Changes.Change.{Make, Remove}
use Rattle.vt_spec.specs.Lists.{folded}
use Rattle.vt_spec.specs.Tree.{Entries, Node, Tree, entries_in, is_directory_node, name_cmp, names_in}
use Rattle.vt_spec.specs.TreeInvariant.{entry_at}
use Rattle.vt_fs.specs.FilesystemsValue.{Filesystems, files_at}
use Rattle.vt_location.specs.declared.locations.InodeRef.{InodeRef}
use Rattle.vt_location.specs.Locations.{inode_of}
use Rattle.vt_location.specs.Numbers.{most_counted}
use Rattle.vt_upper.specs.declared.leaving.Leaving.{Leaving}

-- an inode is used once more, and then has one name less: its uses stay as they are
abbrev pub freed_once : ℕ → Inodes ℕ → List ℕ × ℕ → Inodes ℕ
freed_once directory inodes entry = changed nat_eq (pinned nat_eq inodes entry.1) (Remove directory entry.0 entry.1)

-- what has a name in a directory loses it, and first all that is in it
abbrev pub freed : ℕ → List ℕ → Option ℕ → (within : Entries ℕ) → Inodes ℕ → Inodes ℕ
freed directory name None within inodes = inodes
freed directory name (Some object) within inodes =
    freed_once directory (folded (freed_once object) inodes within) (name, object)

-- these are held then, and let go at the end
abbrev pub held_for : Option ℕ → (within : Entries ℕ) → List ℕ
held_for None within = []
held_for (Some object) within = map (λ entry. entry.1) within ++ (object ∷ [])

abbrev pub let_go : List ℕ → Inodes ℕ → Inodes ℕ
let_go held inodes = folded (unpinned nat_eq) inodes held

-- but for what has the name, if that is kept: it is still in use
abbrev pub let_go_of : (kept : Bool) → List ℕ → ℕ → List ℕ
let_go_of true within object = within
let_go_of false within object = within ++ (object ∷ [])

abbrev pub going : (kept : Bool) → Option ℕ → (within : Entries ℕ) → List ℕ
going kept None within = []
going kept (Some object) within = let_go_of kept (map (λ entry. entry.1) within) object

-- an inode is made in the place of what has a name, and nothing is
abbrev pub made_over : (kept : Bool) → List ℕ → Node ℕ → Option ℕ → (within : Entries ℕ) → (directory object : ℕ)
    → Inodes ℕ → Inodes ℕ
made_over kept name node had within directory object inodes =
    let_go (going kept had within)
    (changed nat_eq (freed directory name had within inodes) (Make directory name object node))

abbrev pub gone_from : (kept : Bool) → List ℕ → Option ℕ → (within : Entries ℕ) → (directory : ℕ) → Inodes ℕ → Inodes ℕ
gone_from kept name had within directory inodes =
    let_go (going kept had within) (freed directory name had within inodes)

-- what is in it
abbrev pub within_of : Tree ℕ → Option ℕ → Entries ℕ
within_of tree None = []
within_of tree (Some object) = entries_in (tree.node object)

-- each inode that has a name is used
abbrev pub NamesAreUsed : Inodes ℕ → Type 0
NamesAreUsed inodes =
    (directory number : ℕ) → has_entry_to nat_eq (tree_of inodes) directory number ≡ true
    → 0 < uses_in (inodes.inode number)

-- Nothing in an inode is a directory, and it and all in it may be held.
pub record MayBeEmptied (inodes : Inodes ℕ) (object : ℕ) : Type 0 where
  pub order : is_sorted name_cmp (entries_in ((tree_of inodes).node object)) ≡ true
  pub plain : (word : List ℕ) (one : ℕ) → entry_at (tree_of inodes) object word ≡ Some one
      → is_directory_node ((tree_of inodes).node one) ≡ false
  pub few : All (λ number. uses_in (inodes.inode number) < most_counted)
      (held_for (Some object) (entries_in ((tree_of inodes).node object)))

-- a plan knows what has a name, and all that is in it
pub record IsLeaving (trees : Filesystems) (leaving : Leaving) : Type 0 where
  pub names : map (λ name. name.items) leaving.names.items
      ≡ names_in ((files_at trees leaving.object.filesystem.count).tree.node (inode_of leaving.object))
  pub inodes : map inode_of leaving.inodes.items
      ≡ targets_in ((files_at trees leaving.object.filesystem.count).tree.node (inode_of leaving.object))
  pub own : All (λ (inode : InodeRef). inode.filesystem ≡ leaving.object.filesystem) leaving.inodes.items
