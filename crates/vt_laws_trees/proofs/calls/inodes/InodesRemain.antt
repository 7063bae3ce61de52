-- A granted call takes no inode away itself.
use Rattle.std.proofs.Common.{arith, ◌≡◌, refl, ℕ, nat_eq, eqb-true, Bool, true, false, cond, List, Option, Some, None, is_some}
use Rattle.vt_spec.proofs.Common.{AddName, Call, Change, CopyUp, FileTree, Fresh, Location, Make, Move, Node, Permit, Remove, SetAttr, SetBytes, SetMark, Task, ToMountOverlay, ToMountPlain, World, changed, changed_node, common_steps, entries_in, entry_named, files_at, looks_of, node_with_attr, node_with_bytes, node_with_entry, node_with_mark, node_with_parent, node_without_entry, with_inode, with_name, without_name, without_parent}
use Rattle.vt_laws_rules.proofs.given.GivenPermits.{permits_are_for_their_calls}
use Rattle.vt_laws_trees.proofs.calls.inodes.InodesLeft.{LeftBy, MadeBy, inode_left}
use Rattle.vt_laws_rules.specs.Given.{IsFor}
use Rattle.vt_laws_trees.specs.Calls.Inodes.{OnlyUnusedInodesEnd, change_of}
use Rattle.vt_laws_trees.specs.Trees.Calls.{mounts_overlay}
use Rattle.vt_laws_rules.specs.Plain.{IsPlain}
use Rattle.vt_laws_trees.specs.Trees.Settling.{inode_in}

abbrev pub Remains : Option (Node ℕ) → Option (Node ℕ) → Type 0
Remains was now = is_some was ≡ true → is_some now ≡ true

-- a change of a node that is there leaves one
abbrev pub LeavesOne : (Option (Node ℕ) → Option (Node ℕ)) → Type 0
LeavesOne new = (node : Node ℕ) → is_some (new (Some node)) ≡ true

module _ (other : ℕ) where
  abbrev pub RemainsIn : FileTree ℕ → FileTree ℕ → Type 0
  RemainsIn files left = Remains (files.tree.node other) (left.tree.node other)

  pub at_node : (files : FileTree ℕ) (number : ℕ) (new : Option (Node ℕ) → Option (Node ℕ)) → LeavesOne new
      → RemainsIn files (changed_node nat_eq files number new)
  at_node files number new leaves there = grind (arith, common_steps, eqb-true)

  alone_remains : (files : FileTree ℕ) (object : Option ℕ) → RemainsIn files (without_parent nat_eq files object)
  alone_remains files None there = there
  alone_remains files (Some object) there = at_node files object (node_with_parent object) (λ node. refl) there

  pub named_remains : (files : FileTree ℕ) (directory : ℕ) (name : List ℕ) (object : ℕ)
      → RemainsIn files (with_name nat_eq files directory name object)
  named_remains files directory name object = at_node files directory (node_with_entry name object) (λ node. refl)

  unnamed_remains : (files : FileTree ℕ) (directory : ℕ) (name : List ℕ)
      → RemainsIn files (without_name nat_eq files directory name)
  unnamed_remains files directory name = at_node files directory (node_without_entry name) (λ node. refl)

  pub made_remains : (files : FileTree ℕ) (number : ℕ) (node : Node ℕ)
      → RemainsIn files (with_inode nat_eq files number node)
  made_remains files number node there = by (nat_eq other number)
    where
      by : (b : Bool) → is_some (cond b (Some node) (files.tree.node other)) ≡ true
      by true = refl
      by false = there

  pub changed_remains : (files : FileTree ℕ) (change : Change ℕ) → RemainsIn files (changed nat_eq files change)
  changed_remains files (Make directory name number node) there =
      named_remains (with_inode nat_eq files number node) directory name number (made_remains files number node there)
  changed_remains files (AddName directory name object) there = named_remains files directory name object there
  changed_remains files (Remove directory name object) there =
      alone_remains (without_name nat_eq files directory name) (Some object)
      (unnamed_remains files directory name there)
  changed_remains files (Move from old to new object) there =
      at_node (with_name nat_eq unnamed to new object) object (node_with_parent to) (λ node. refl)
      (named_remains unnamed to new object (unnamed_remains alone from old (alone_remains files replaced there)))
    where
      replaced : Option ℕ
      replaced = entry_named new (entries_in (files.tree.node to))

      alone : FileTree ℕ
      alone = without_parent nat_eq files replaced

      unnamed : FileTree ℕ
      unnamed = without_name nat_eq alone from old
  changed_remains files (SetBytes file bytes) there = at_node files file (node_with_bytes bytes) (λ node. refl) there
  changed_remains files (SetAttr object attr) there = at_node files object (node_with_attr attr) (λ node. refl) there
  changed_remains files (SetMark directory mark) there = at_node files _ (node_with_mark mark) (λ node. refl) there
  changed_remains files (CopyUp object) there = there

  module _ (fresh : Fresh ℕ) (world : World ℕ) (plain : IsPlain world) (filesystem : ℕ) where
    abbrev Was : Option (Node ℕ)
    Was = inode_in world filesystem other

    made_left : (made : Option (Location ℕ × Change ℕ))
        → MadeBy (Remains Was) filesystem other fresh world plain (λ there. there) made
    made_left None = tt
    made_left (Some made) = λ same there. changed_remains (files_at nat_eq world made.0) made.1 (cc)

    left : (task : Task ℕ) (call : Call) → mounts_overlay call ≡ false → (permit : Permit ℕ)
        → IsFor (looks_of nat_eq world) task call permit
        → LeftBy (Remains Was) filesystem other fresh world plain (λ there. there) permit
    left task call no_overlay (ToMountPlain place flags) for = λ same is there. refl
    left task call no_overlay (ToMountOverlay place overlay flags) for = cc (for.2, no_overlay)
    left task call no_overlay permit for = made_left (change_of fresh world permit)

pub only_unused_inodes_end : OnlyUnusedInodesEnd
only_unused_inodes_end fresh world call task permit filesystem number plain no_overlay judged =
    inode_left (Remains (inode_in world filesystem number)) filesystem number fresh world plain
    (λ there. there) task permit (left number fresh world plain filesystem task call no_overlay permit
    (permits_are_for_their_calls fresh world task call permit judged))
