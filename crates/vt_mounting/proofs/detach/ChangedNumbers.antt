-- A change of counted inodes gives no number an inode, but the one that it makes.
use Rattle.std.proofs.Common.{◌≡◌, sym, ap, ◌∙◌, ℕ, nat_eq, eqb-true, Option, Some, None, arith}
use Rattle.vt_spec.proofs.Common.{AddName, Change, CopyUp, Inode, Inodes, Make, Move, Node, Remove, SetAttr, SetBytes, SetMark, common_steps, entries_in, entry_named, inode_with_node, node_in, node_with_attr, node_with_bytes, node_with_entry, node_with_mark, node_with_parent, node_without_entry, pinned, unpinned, used_once_less, used_once_more, with_changed, ⊤}
use Rattle.vt_spec.specs.Inodes.{changed, with_inode, without_replaced}

module _ (number : ℕ) where
  abbrev IsNone : Inodes ℕ → Type 0
  IsNone inodes = inodes.inode number ≡ None

  none_with : (inodes : Inodes ℕ) (other : ℕ) (inode : Option (Inode ℕ)) → IsNone inodes
      → (number ≡ other → inode ≡ None) → IsNone (with_inode nat_eq inodes other inode)
  none_with inodes other inode none same = grind (arith, common_steps, eqb-true)

  none_with_node : (o : Option (Node ℕ)) (inode : Option (Inode ℕ)) → inode ≡ None → inode_with_node o inode ≡ None
  none_with_node None inode none = none
  none_with_node (Some node) inode none = ap (inode_with_node (Some node)) none

  none_changed : (inodes : Inodes ℕ) (other : ℕ) (change : Option (Node ℕ) → Option (Node ℕ)) → IsNone inodes
      → IsNone (with_changed nat_eq inodes other change)
  none_changed inodes other change none = grind (arith, common_steps)

  none_pinned : (inodes : Inodes ℕ) (other : ℕ) → IsNone inodes → IsNone (pinned nat_eq inodes other)
  none_pinned inodes other none = none_with inodes other (used_once_more (inodes.inode other)) none
      (λ same. ap used_once_more (ap inodes.inode (sym same) ∙ none))

  none_unpinned : (inodes : Inodes ℕ) (other : ℕ) → IsNone inodes → IsNone (unpinned nat_eq inodes other)
  none_unpinned inodes other none = none_with inodes other (used_once_less (inodes.inode other)) none
      (λ same. ap used_once_less (ap inodes.inode (sym same) ∙ none))

  none_replaced : (inodes : Inodes ℕ) (object : Option ℕ) → IsNone inodes
      → IsNone (without_replaced nat_eq inodes object)
  none_replaced inodes None none = none
  none_replaced inodes (Some object) none =
      none_unpinned (with_changed nat_eq inodes object (node_with_parent object)) object
      (none_changed inodes object (node_with_parent object) none)

  -- the change makes an inode with another number, or none
  abbrev pub MakesOther : Change ℕ → Type 0
  MakesOther (Make directory name made node) = number ≡ made → ⊥
  MakesOther (AddName directory name object) = ⊤
  MakesOther (Remove directory name object) = ⊤
  MakesOther (Move from old to new object) = ⊤
  MakesOther (SetBytes file bytes) = ⊤
  MakesOther (SetAttr object attr) = ⊤
  MakesOther (SetMark directory opaque) = ⊤
  MakesOther (CopyUp object) = ⊤

  pub none_stays : (inodes : Inodes ℕ) (change : Change ℕ) → MakesOther change → IsNone inodes
      → IsNone (changed nat_eq inodes change)
  none_stays inodes (Make directory name made node) other none =
      none_with (with_changed nat_eq inodes directory (node_with_entry name made)) made
      (Some (record { node = node; uses = 1 }))
      (none_changed inodes directory (node_with_entry name made) none) (λ same. absurd (other same))
  none_stays inodes (AddName directory name object) other none =
      none_pinned (with_changed nat_eq inodes directory (node_with_entry name object)) object
      (none_changed inodes directory (node_with_entry name object) none)
  none_stays inodes (Remove directory name object) other none =
      none_replaced (with_changed nat_eq inodes directory (node_without_entry name)) (Some object)
      (none_changed inodes directory (node_without_entry name) none)
  none_stays inodes (Move from old to new object) other none = none_replaced (with_changed nat_eq
      (with_changed nat_eq (with_changed nat_eq inodes from (node_without_entry old)) to (node_with_entry new object))
      object (node_with_parent to)) (entry_named new (entries_in (node_in (inodes.inode to))))
      (none_changed (with_changed nat_eq (with_changed nat_eq inodes from (node_without_entry old)) to
      (node_with_entry new object)) object (node_with_parent to)
      (none_changed (with_changed nat_eq inodes from (node_without_entry old)) to (node_with_entry new object)
      (none_changed inodes from (node_without_entry old) none)))
  none_stays inodes (SetBytes file bytes) other none = none_changed inodes file (node_with_bytes bytes) none
  none_stays inodes (SetAttr object attr) other none = none_changed inodes object (node_with_attr attr) none
  none_stays inodes (SetMark directory opaque) other none = none_changed inodes directory (node_with_mark opaque) none
  none_stays inodes (CopyUp object) other none = none
