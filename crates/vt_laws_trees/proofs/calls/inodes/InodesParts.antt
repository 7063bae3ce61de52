-- What calls change of an inode, part by part.
use Rattle.std.proofs.Common.{arith, ◌≡◌, refl, sym, ap, subst, ◌∙◌, true≢false, ℕ, nat_eq, eqb-true, eq-eqb, Bool, true, false, cond, List, [], ◌∷◌, Option, Some, None}
use Rattle.vt_spec.proofs.Common.{AddName, Call, Change, CopyUp, FileTree, Fresh, Location, Make, MakeWhiteout, Mkdir, Move, Node, Permit, Remove, SetAttr, SetBytes, SetMark, SymlinkAt, Task, TaskName, ToChange, ToMake, ToMountOverlay, ToMountPlain, ToOpenNew, ToRemoveDirectory, ToRename, ToWritePart, World, Write, attr_in, attr_with_mode, attr_with_owner, changed, changed_node, common_steps, entries_in, entry_named, evens, files_at, looks_of, node_with_attr, node_with_bytes, node_with_entry, node_with_mark, node_with_parent, node_without_entry, policy, with_inode, with_name, without_name, without_parent}
use Rattle.vt_laws_rules.proofs.given.GivenPermits.{permits_are_for_their_calls}
use Rattle.vt_laws_trees.proofs.calls.inodes.InodesLeft.{ChangeHolds, LeftBy, MadeBy, inode_left}
use Rattle.vt_laws_trees.proofs.calls.inodes.InodesSettled.{inode_after_call}
use Rattle.vt_laws_rules.specs.Given.{IsFor, IsForAttr, makes_a_name}
use Rattle.vt_laws_trees.specs.Calls.Inodes.{IsNotHanded, StaysIfThere, change_of, changes_names, sets_mark, sets_mode, sets_owner, writes_bytes}
use Rattle.vt_spec.specs.declared.attributes.Attr.{Attr}
use Rattle.vt_laws_trees.specs.Trees.Calls.{mounts_overlay}
use Rattle.vt_laws_rules.specs.Plain.{IsPlain}
use Rattle.vt_laws_trees.specs.Trees.Settling.{inode_in}

-- what makes a name changes entries
makes_changes : (call : Call) → makes_a_name call ≡ true → changes_names call ≡ true
makes_changes (Write path bytes) e = refl
makes_changes (Mkdir path mode) e = refl
makes_changes (SymlinkAt text path) e = refl
makes_changes (MakeWhiteout path) e = refl
makes_changes call e = cc

module _ {A : Type 0} (part : Node ℕ → A) where
  abbrev pub Stays : Option (Node ℕ) → Option (Node ℕ) → Type 0
  Stays = StaysIfThere part

  pub itself : (o : Option (Node ℕ)) → Stays o o
  itself None = tt
  itself (Some node) = refl

  next : (a b c : Option (Node ℕ)) → Stays a b → Stays b c → Stays a c
  next a b None first second = tt
  next None None (Some c) first second = second
  next None (Some b) (Some c) first second = absurd first
  next (Some a) None (Some c) first second = absurd second
  next (Some a) (Some b) (Some c) first second = second ∙ first

  -- kept by a change of a node, whatever it is
  abbrev pub KeptBy : (Option (Node ℕ) → Option (Node ℕ)) → Type 0
  KeptBy change = (o : Option (Node ℕ)) → Stays o (change o)

  abbrev pub KeptByParents : Type 0
  KeptByParents = (parent : ℕ) → KeptBy (node_with_parent parent)

  abbrev pub KeptByNames : Type 0
  KeptByNames = ((entry : List ℕ) (object : ℕ) → KeptBy (node_with_entry entry object))
      × ((entry : List ℕ) → KeptBy (node_without_entry entry)) × KeptByParents

  abbrev pub KeptByBytes : Type 0
  KeptByBytes = (bytes : List ℕ) → KeptBy (node_with_bytes bytes)

  abbrev pub KeptByMark : Type 0
  KeptByMark = (opaque : Bool) → KeptBy (node_with_mark opaque)

  abbrev pub KeptByMode : Type 0
  KeptByMode = (mode : ℕ) → KeptBy (λ node. node_with_attr (attr_with_mode (attr_in node) mode) node)

  abbrev pub KeptByOwner : Type 0
  KeptByOwner = (uid gid : Option ℕ) → KeptBy (λ node. node_with_attr (attr_with_owner (attr_in node) uid gid) node)

  module _ (other : ℕ) where
    abbrev pub KeptIn : FileTree ℕ → FileTree ℕ → Type 0
    KeptIn files left = Stays (files.tree.node other) (left.tree.node other)

    pub at_node : (files : FileTree ℕ) (number : ℕ) (new : Option (Node ℕ) → Option (Node ℕ))
        → (other ≡ number → Stays (files.tree.node number) (new (files.tree.node number)))
        → KeptIn files (changed_node nat_eq files number new)
    at_node files number new here = grind (arith, common_steps, eqb-true, itself)

    pub then_kept : (a b c : FileTree ℕ) → KeptIn a b → KeptIn b c → KeptIn a c
    then_kept a b c = next (a.tree.node other) (b.tree.node other) (c.tree.node other)

    pub kept_at : (files : FileTree ℕ) (number : ℕ) (new : Option (Node ℕ) → Option (Node ℕ)) → KeptBy new
        → KeptIn files (changed_node nat_eq files number new)
    kept_at files number new kept = at_node files number new (λ same. kept (files.tree.node number))

    -- a new inode, and its name
    pub made_kept : (files : FileTree ℕ) (directory : ℕ) (name : List ℕ) (number : ℕ) (node : Node ℕ)
        → nat_eq other number ≡ false
        → ((left : FileTree ℕ) → KeptIn left (with_name nat_eq left directory name number))
        → KeptIn files (changed nat_eq files (Make directory name number node))
    made_kept files directory name number node apart named =
        then_kept files (with_inode nat_eq files number node) (changed nat_eq files (Make directory name number node))
        (subst (λ b. Stays (files.tree.node other) (cond b (Some node) (files.tree.node other))) (sym apart)
        (itself (files.tree.node other))) (named (with_inode nat_eq files number node))

    parent_kept : KeptByParents → (files : FileTree ℕ) (object : Option ℕ)
        → KeptIn files (without_parent nat_eq files object)
    parent_kept parents files None = itself (files.tree.node other)
    parent_kept parents files (Some object) = kept_at files object (node_with_parent object) (parents object)

    pub removed_kept : KeptByParents → (files : FileTree ℕ) (directory : ℕ) (name : List ℕ) (object : ℕ)
        → KeptIn files (without_name nat_eq files directory name)
        → KeptIn files (changed nat_eq files (Remove directory name object))
    removed_kept parents files directory name object unnamed =
        then_kept files (without_name nat_eq files directory name) (changed nat_eq files (Remove directory name object))
        unnamed (parent_kept parents (without_name nat_eq files directory name) (Some object))

    pub moved_kept : KeptByParents → (files : FileTree ℕ) (from : ℕ) (old : List ℕ) (to : ℕ) (new : List ℕ) (object : ℕ)
        → ((left : FileTree ℕ) → KeptIn left (without_name nat_eq left from old))
        → ((left : FileTree ℕ) → KeptIn left (with_name nat_eq left to new object))
        → KeptIn files (changed nat_eq files (Move from old to new object))
    moved_kept parents files from old to new object without named =
        then_kept files alone moved (parent_kept parents files replaced) (then_kept alone unnamed moved (without alone)
        (then_kept unnamed renamed moved (named unnamed) (kept_at renamed object (node_with_parent to) (parents to))))
      where
        replaced : Option ℕ
        replaced = entry_named new (entries_in (files.tree.node to))

        alone : FileTree ℕ
        alone = without_parent nat_eq files replaced

        unnamed : FileTree ℕ
        unnamed = without_name nat_eq alone from old

        renamed : FileTree ℕ
        renamed = with_name nat_eq unnamed to new object

        moved : FileTree ℕ
        moved = changed nat_eq files (Move from old to new object)

    named_kept : KeptByNames → (directory : ℕ) (name : List ℕ) (object : ℕ) (left : FileTree ℕ)
        → KeptIn left (with_name nat_eq left directory name object)
    named_kept names directory name object left = kept_at left directory _ (names.0 name object)

    unnamed_kept : KeptByNames → (directory : ℕ) (name : List ℕ) (left : FileTree ℕ)
        → KeptIn left (without_name nat_eq left directory name)
    unnamed_kept names directory name left = kept_at left directory (node_without_entry name) (names.1 name)

    module _ (fresh : Fresh ℕ) (world : World ℕ) (plain : IsPlain world) (filesystem : ℕ)
        (handed : IsNotHanded fresh other) where
      abbrev Was : Option (Node ℕ)
      Was = inode_in world filesystem other

      abbrev Left : Permit ℕ → Type 0
      Left = LeftBy (Stays Was) filesystem other fresh world plain (itself Was)

      -- in the filesystem of a location a change holds if it keeps the inode
      pub change_holds_if_kept : (location : Location ℕ) (change : Change ℕ)
          → KeptIn (files_at nat_eq world location) (changed nat_eq (files_at nat_eq world location) change)
          → ChangeHolds (Stays Was) filesystem other world location change
      change_holds_if_kept location change kept same = subst (λ n. Stays (inode_in world n other)
          ((changed nat_eq (files_at nat_eq world location) change).tree.node other)) (sym same) kept

      module _ (task : Task ℕ) (call : Call) (no_overlay : mounts_overlay call ≡ false)
          (names : changes_names call ≡ true → KeptByNames) (bytes_kept : writes_bytes call ≡ true → KeptByBytes)
          (modes : sets_mode call ≡ true → KeptByMode) (owners : sets_owner call ≡ true → KeptByOwner)
          (marks : sets_mark call ≡ true → KeptByMark) where
        made : changes_names call ≡ true → (directory : Location ℕ) (name : List ℕ) (node : Node ℕ)
            → ChangeHolds (Stays Was) filesystem other world directory (Make directory.node name (evens fresh 0) node)
        made is directory name node = change_holds_if_kept directory (Make directory.node name (evens fresh 0) node)
            (made_kept (files_at nat_eq world directory) directory.node name (evens fresh 0) node (handed 0)
            (named_kept (names is) directory.node name (evens fresh 0)))

        set : (location : Location ℕ) (object : ℕ) (attr : Attr) → object ≡ location.node
            → IsForAttr (looks_of nat_eq world) call location attr
            → ChangeHolds (Stays Was) filesystem other world location (SetAttr object attr)
        set location object attr at for = grind (arith, common_steps, change_holds_if_kept, at_node)

        part_written : (file : Location ℕ) (offset : ℕ) (bytes : List ℕ) → writes_bytes call ≡ true
            → MadeBy (Stays Was) filesystem other fresh world plain (itself Was)
            (change_of fresh world (ToWritePart file offset bytes))
        part_written file offset [] is = tt
        part_written file offset (byte ∷ bytes) is = change_holds_if_kept file (SetBytes file.node _)
            (kept_at (files_at nat_eq world file) file.node (node_with_bytes _) (bytes_kept is _))

        left_kept : (permit : Permit ℕ) → IsFor (looks_of nat_eq world) task call permit → Left permit
        left_kept (ToChange location (Make directory name number node)) for = absurd for
        left_kept (ToChange location (AddName directory name object)) for =
            grind (arith, common_steps, change_holds_if_kept, named_kept)
        left_kept (ToChange location (Remove directory name object)) for =
            grind (arith, common_steps, change_holds_if_kept, removed_kept, unnamed_kept)
        left_kept (ToChange location (Move from old to new object)) for = absurd for
        left_kept (ToChange location (SetBytes file bytes)) for =
            grind (arith, common_steps, change_holds_if_kept, kept_at)
        left_kept (ToChange location (SetAttr object attr)) for = set location object attr for.0 for.1
        left_kept (ToChange location (SetMark directory opaque)) for =
            grind (arith, common_steps, change_holds_if_kept, kept_at)
        left_kept (ToChange location (CopyUp object)) for = absurd for
        left_kept (ToMake directory name node) for = made (makes_changes call for) directory name node
        left_kept (ToRemoveDirectory parent name directory) for =
            grind (arith, common_steps, change_holds_if_kept, removed_kept, unnamed_kept)
        left_kept (ToRename from old to new object replaced) for =
            grind (arith, common_steps, change_holds_if_kept, moved_kept, unnamed_kept, named_kept)
        left_kept (ToOpenNew directory name node access) for = made (ap changes_names for.2 ∙ for.3) directory name node
        left_kept (ToWritePart file offset bytes) for = part_written file offset bytes (ap writes_bytes for.1)
        left_kept (ToMountPlain place flags) for = grind (arith, common_steps, true≢false, eq-eqb)
        left_kept (ToMountOverlay place overlay flags) for = grind (arith, common_steps, true≢false)
        left_kept permit for = tt

  -- so for a call of which these do not hold
  pub only_these : (fresh : Fresh ℕ) (world : World ℕ) (name : TaskName) (call : Call) (filesystem other : ℕ)
      → IsPlain world → mounts_overlay call ≡ false → IsNotHanded fresh other
      → (changes_names call ≡ true → KeptByNames) → (writes_bytes call ≡ true → KeptByBytes)
      → (sets_mode call ≡ true → KeptByMode) → (sets_owner call ≡ true → KeptByOwner)
      → (sets_mark call ≡ true → KeptByMark) → Stays (inode_in world filesystem other)
      (inode_in (policy nat_eq fresh world name call).world filesystem other)
  only_these fresh world name call filesystem other plain no_overlay handed names bytes modes owners marks =
      inode_after_call (Stays was) filesystem other tt fresh world name call (itself was) (λ task permit is judged.
      inode_left (Stays was) filesystem other fresh world plain (itself was) task permit
      (left_kept other fresh world plain filesystem handed task call no_overlay names bytes modes owners marks permit
      (permits_are_for_their_calls fresh world task call permit judged)))
    where
      was : Option (Node ℕ)
      was = inode_in world filesystem other
