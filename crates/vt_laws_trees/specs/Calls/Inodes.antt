-- Laws of inodes: what calls leave as it was, in worlds without overlays.
use Rattle.std.specs.Prelude.{Bool, List, None, Ok, Option, Some, [], false, is_some, nat_eq, option_to_list, true, ℕ, ⊤, ◌&&◌, ◌∷◌, ◌≡◌, ◌⊎◌}
use Rattle.std.specs.Str.{bytes_eq}
use Rattle.vt_laws_rules.specs.Given.{may_create}
use Rattle.vt_spec.specs.Machine.Apply.{apply}
use Rattle.vt_spec.specs.Language.Calls.{Call, TaskName}
use Rattle.vt_spec.specs.Language.Calls.Call.{Chmod, Chown, LinkTo, MakeWhiteout, Mkdir, Opaque, OpenFile, Pwrite, Rename, Rmdir, SymlinkAt, Unlink, Write}
use Rattle.vt_spec.specs.Language.Changes.{Change}
use Rattle.vt_spec.specs.Language.Changes.Change.{AddName, CopyUp, Make, Move, Remove, SetAttr, SetBytes, SetMark}
use Rattle.vt_spec.specs.FileTree.{FileTree, symlink_text, opaque_of}
use Rattle.vt_spec.specs.Machine.Judge.{judge_in}
use Rattle.vt_spec.specs.Lists.{Fresh, evens, holds_of, is_among}
use Rattle.vt_spec.specs.Machine.Mounts.{Location}
use Rattle.vt_spec.specs.Machine.Descriptors.{overwritten}
use Rattle.vt_spec.specs.Machine.Permits.{Permit}
use Rattle.vt_spec.specs.Machine.Permits.Permit.{ToChange, ToMake, ToMountPlain, ToOpenNew, ToRemoveDirectory, ToRename, ToWritePart}
use Rattle.vt_spec.specs.Machine.Policy.{policy}
use Rattle.vt_spec.specs.Machine.World.{Task, World, files_at, mount_at, node_at, task_called}
use Rattle.vt_spec.specs.Tree.{Node, bytes_in, bytes_of, entries_in, entries_of, entry_named, kind_of}
use Rattle.vt_laws_trees.specs.Trees.Calls.{mounts_overlay}
use Rattle.vt_laws_rules.specs.Plain.{IsPlain}
use Rattle.vt_laws_trees.specs.Trees.Settling.{inode_in}

-- What a permit names

-- the change that a permit asks for, and the location in whose filesystem it is made; without overlays open(2) copies
-- nothing, and pwrite(2) of no bytes changes nothing
abbrev pub written_if_some : World ℕ → Location ℕ → ℕ → List ℕ → Option (Location ℕ × Change ℕ)
written_if_some world file offset [] = None
written_if_some world file offset (byte ∷ bytes) =
    Some (file, SetBytes file.node (overwritten offset (byte ∷ bytes) (bytes_in (node_at nat_eq world file))))

abbrev pub change_of : Fresh ℕ → World ℕ → Permit ℕ → Option (Location ℕ × Change ℕ)
change_of fresh world (ToChange location change) = Some (location, change)
change_of fresh world (ToMake directory name node) = Some (directory, Make directory.node name (evens fresh 0) node)
change_of fresh world (ToRemoveDirectory parent name directory) = Some (parent, Remove parent.node name directory.node)
change_of fresh world (ToRename from old to new object replaced) =
    Some (from, Move from.node old to.node new object.node)
change_of fresh world (ToOpenNew directory name node access) =
    Some (directory, Make directory.node name (evens fresh 0) node)
change_of fresh world (ToWritePart file offset bytes) = written_if_some world file offset bytes
change_of fresh world permit = None

-- the inodes that a change of a tree names; a rename also what it replaces
abbrev pub named_by : FileTree ℕ → Change ℕ → List ℕ
named_by files (Make directory name number node) = directory ∷ number ∷ []
named_by files (AddName directory name object) = directory ∷ object ∷ []
named_by files (Remove directory name object) = directory ∷ object ∷ []
named_by files (Move from old to new object) =
    from ∷ to ∷ object ∷ option_to_list (entry_named new (entries_in (files.tree.node to)))
named_by files (SetBytes file bytes) = file ∷ []
named_by files (SetAttr object attr) = object ∷ []
named_by files (SetMark directory opaque) = directory ∷ []
named_by files (CopyUp object) = []

-- the filesystem in which a permit changes something, and the inodes that it names there; of a new filesystem its root
abbrev pub own_by : World ℕ → Option (Location ℕ × Change ℕ) → Option (ℕ × List ℕ)
own_by world None = None
own_by world (Some made) =
    Some ((mount_at nat_eq world made.0).filesystem, named_by (files_at nat_eq world made.0) made.1)

abbrev pub own_of : Fresh ℕ → World ℕ → Permit ℕ → Option (ℕ × List ℕ)
own_of fresh world (ToMountPlain place flags) = Some (evens fresh 0, evens fresh 1 ∷ [])
own_of fresh world permit = own_by world (change_of fresh world permit)

abbrev pub is_own : Fresh ℕ → World ℕ → Permit ℕ → ℕ → ℕ → Bool
is_own fresh world permit filesystem number =
    holds_of (λ own. nat_eq filesystem own.0 && is_among nat_eq number own.1) (own_of fresh world permit)

-- a law of each inode before and after a call that is granted, and of what the call is permitted
abbrev pub OfGrantedCalls : (Fresh ℕ → World ℕ → Permit ℕ → World ℕ → ℕ → ℕ → Type 0) → Type 0
OfGrantedCalls law =
    (fresh : Fresh ℕ) (world : World ℕ) (name : TaskName) (call : Call) (task : Task ℕ) (permit : Permit ℕ)
    (filesystem number : ℕ)
    → IsPlain world → mounts_overlay call ≡ false
    → task_called world name ≡ Some task → judge_in nat_eq fresh world task call ≡ Ok permit
    → law fresh world permit (policy nat_eq fresh world name call).world filesystem number

-- A call changes no inode but those that its permit names: another one is as it was, or is gone.
abbrev pub CallsChangeTheirOwn : Type 0
CallsChangeTheirOwn =
    OfGrantedCalls (λ fresh world permit left filesystem number.
    is_own fresh world permit filesystem number ≡ false
    → (inode_in left filesystem number ≡ inode_in world filesystem number)
    ⊎ (inode_in left filesystem number ≡ None))

-- A granted call takes no inode away itself: one that was there is there until what nothing uses goes.
abbrev pub OnlyUnusedInodesEnd : Type 0
OnlyUnusedInodesEnd =
    (fresh : Fresh ℕ) (world : World ℕ) (call : Call) (task : Task ℕ) (permit : Permit ℕ) (filesystem number : ℕ)
    → IsPlain world → mounts_overlay call ≡ false → judge_in nat_eq fresh world task call ≡ Ok permit
    → is_some (inode_in world filesystem number) ≡ true
    → is_some (inode_in (apply nat_eq fresh world task permit).world filesystem number) ≡ true

-- Parts of inodes

-- what is there afterwards was there before, and has this as it was
abbrev pub StaysIfThere : {A : Type 0} → (Node ℕ → A) → Option (Node ℕ) → Option (Node ℕ) → Type 0
StaysIfThere part was None = ⊤
StaysIfThere part None (Some now) = ⊥
StaysIfThere part (Some was) (Some now) = part now ≡ part was

-- the number is none of those that are handed in
abbrev pub IsNotHanded : Fresh ℕ → ℕ → Type 0
IsNotHanded fresh number = (k : ℕ) → nat_eq number (fresh k) ≡ false

-- a call that is none of these leaves this of each inode, but of one that it makes with a number that is handed in
abbrev pub OnlyTheseChange : {A : Type 0} → (Call → Bool) → (Node ℕ → A) → Type 0
OnlyTheseChange these part =
    (fresh : Fresh ℕ) (world : World ℕ) (name : TaskName) (call : Call) (filesystem number : ℕ)
    → IsPlain world → mounts_overlay call ≡ false → these call ≡ false → IsNotHanded fresh number
    → StaysIfThere part (inode_in world filesystem number)
    (inode_in (policy nat_eq fresh world name call).world filesystem number)

abbrev pub writes_bytes : Call → Bool
writes_bytes (Write path bytes) = true
writes_bytes (Pwrite descriptor offset bytes) = true
writes_bytes call = false

abbrev pub sets_mode : Call → Bool
sets_mode (Chmod path mode) = true
sets_mode call = false

abbrev pub sets_owner : Call → Bool
sets_owner (Chown path uid gid) = true
sets_owner call = false

abbrev pub sets_mark : Call → Bool
sets_mark (Opaque path mark) = true
sets_mark call = false

abbrev pub changes_names : Call → Bool
changes_names (Write path bytes) = true
changes_names (Mkdir path mode) = true
changes_names (SymlinkAt text path) = true
changes_names (MakeWhiteout path) = true
changes_names (LinkTo old new) = true
changes_names (Unlink path) = true
changes_names (Rmdir path) = true
changes_names (Rename old new) = true
changes_names (OpenFile path access creation) = may_create creation
changes_names call = false

-- write(2) and pwrite(2)
abbrev pub OnlyWritesChangeBytes : Type 0
OnlyWritesChangeBytes = OnlyTheseChange writes_bytes (λ node. bytes_of node.content)

-- chmod(2); no other call clears or sets a bit
abbrev pub OnlyChmodChangesModes : Type 0
OnlyChmodChangesModes = OnlyTheseChange sets_mode (λ node. node.attr.mode)

-- chown(2)
abbrev pub owner_of : Node ℕ → ℕ × ℕ
owner_of node = (node.attr.uid, node.attr.gid)

abbrev pub OnlyChownChangesOwners : Type 0
OnlyChownChangesOwners = OnlyTheseChange sets_owner owner_of

-- mkdir(2), symlink(2), mknod(2), link(2), open(2) with O_CREAT, unlink(2), rmdir(2), rename(2)
abbrev pub OnlyNamingChangesEntries : Type 0
OnlyNamingChangesEntries = OnlyTheseChange changes_names (λ node. entries_of node.content)

-- setxattr(2) of the opaque mark
abbrev pub OnlyOpaqueChangesMarks : Type 0
OnlyOpaqueChangesMarks = OnlyTheseChange sets_mark (λ node. opaque_of node.content)

-- no call changes what kind of object an inode is, or the text of a link
abbrev pub KindsStay : Type 0
KindsStay = OnlyTheseChange (λ call. false) (λ node. kind_of node.content)

abbrev pub LinkTextsStay : Type 0
LinkTextsStay = OnlyTheseChange (λ call. false) (λ node. symlink_text (Some node))

-- Entries

-- the entries that a change names, each by its directory and its name
abbrev pub entries_named_by : Change ℕ → List (ℕ × List ℕ)
entries_named_by (Make directory name number node) = (directory, name) ∷ []
entries_named_by (AddName directory name object) = (directory, name) ∷ []
entries_named_by (Remove directory name object) = (directory, name) ∷ []
entries_named_by (Move from old to new object) = (from, old) ∷ (to, new) ∷ []
entries_named_by change = []

abbrev pub same_entry : ℕ × List ℕ → ℕ × List ℕ → Bool
same_entry one other = nat_eq one.0 other.0 && bytes_eq one.1 other.1

abbrev pub is_own_entry : Fresh ℕ → World ℕ → Permit ℕ → ℕ → ℕ → List ℕ → Bool
is_own_entry fresh world permit filesystem directory entry =
    holds_of (λ made.
    nat_eq filesystem (mount_at nat_eq world made.0).filesystem
    && is_among same_entry (directory, entry) (entries_named_by made.1)) (change_of fresh world permit)

-- in a directory that stays, a call changes no entry but those that its permit names
abbrev pub OtherEntriesStay : Type 0
OtherEntriesStay =
    (entry : List ℕ)
    → OfGrantedCalls (λ fresh world permit left filesystem directory.
    is_own_entry fresh world permit filesystem directory entry ≡ false → IsNotHanded fresh directory
    → StaysIfThere (λ node. entry_named entry (entries_of node.content)) (inode_in world filesystem directory)
    (inode_in left filesystem directory))
