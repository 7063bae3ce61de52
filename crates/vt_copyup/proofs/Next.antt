-- The number that the next inode gets.
use Rattle.std.proofs.Common.{◌≡◌, ◌∙◌, ◌∷◌, ◌<◌, ◌≤◌, ◌+◌, ◌-◌, ap, arith, Bool, false, IfSome, inl, inr, is_some, IsSome, length, List, None, option_map, Option, refl, Some, subst, sym, true, true≢false, unwrap_or, ℕ, nat_eq}
use Rattle.vt_spec.proofs.Common.{Content, Node, has_entry_to, node_in, none_is_some, same_Some}
use Rattle.vt_spec.specs.Laws.Trees.{IsNewIn}
use Rattle.vt_spec.specs.Tree.Content.{Directory, Regular, Symlink, Whiteout}
use Rattle.vt_location.specs.declared.births.Birth.TheVariants.{Here}
use Rattle.vt_location.specs.declared.locations.InodeRef.{InodeRef}
use Rattle.vt_location.specs.declared.locations.NodeRef.{NodeRef}
use Rattle.vt_location.specs.declared.numbers.FilesystemId.{FilesystemId}
use Rattle.vt_location.specs.Births.{born_in}
use Rattle.vt_location.specs.Locations.{inode_of, number_of}
use Rattle.vt_location.specs.Numbers.{exchanged, inode_number}
use Rattle.vt_location.proofs.NumberLemmas.{exchanged_same, exchanged_slot}
use Rattle.vt_fs.proofs.Standing.{count_found}
use Rattle.vt_fs.specs.FilesystemsValue.{FilesystemEntry, Filesystems, entry_at, entry_of, files_at, inodes_at, inodes_promised, next_seen, no_entry}
use Rattle.vt_laws_worlds.specs.Merging.UpperChanges.{copy_node}
use Rattle.vt_births.specs.Births.{BirthsValue, node_of}
use Rattle.vt_copyup.specs.Plans.{CopiesAreThere, EntriesAreThere}
use Rattle.vt_copyup.specs.declared.plans.Piece.{Piece}

-- what is vacant is the copy of nothing
pub no_birth_there : (trees : Filesystems) (count : ℕ) (births : BirthsValue) → CopiesAreThere trees count births
    → (slot : ℕ) → (files_at trees count).tree.node (inode_number count slot) ≡ None → node_of births slot ≡ None
no_birth_there trees count births there slot vacant = by (node_of births slot) refl
  where
    by : (n : Option NodeRef) → node_of births slot ≡ n → node_of births slot ≡ None
    by None e = e
    by (Some node) e = absurd (true≢false (sym (there slot node e) ∙ ap is_some vacant))

-- so is what was made, where it was vacant
pub no_birth_in : (trees : Filesystems) (directory : InodeRef) (births : BirthsValue)
    → CopiesAreThere trees directory.filesystem.count births → (made : InodeRef)
    → made.filesystem ≡ directory.filesystem
    → (files_at trees directory.filesystem.count).tree.node (inode_of made) ≡ None → node_of births made.slot ≡ None
no_birth_in trees directory births there made own vacant =
    no_birth_there trees directory.filesystem.count births there made.slot
    (subst (λ (id : FilesystemId). (files_at trees directory.filesystem.count).tree.node (inode_number id.count made.slot)
    ≡ None) own vacant)

-- with a birth more one promise less is left
pub one_left : (births : BirthsValue) (piece : Piece) (rest : List Piece) (after : ℕ)
    → length (piece ∷ rest) ≤ births.promised → after ≡ births.promised - 1 → after + 1 ≡ births.promised
one_left births piece rest after few less = omega (arith, few, less)

module _ (trees : Filesystems) (f : FilesystemId) (o : Option NodeRef) (next : NodeRef) (is : o ≡ Some next)
    (number : option_map number_of o ≡ option_map next_seen (entry_of trees f.count))
    (own : IfSome o (λ n. n.filesystem ≡ f)) (born : IfSome o (λ n. n.birth ≡ Here))
    (vacant : IfSome o (λ n. (inodes_at trees f.count).inode (number_of n) ≡ None)) where
  pub number_is : number_of next ≡ inode_number f.count next.slot
  number_is = (λ i. inode_number (born_in (subst (λ o. IfSome o (λ n. n.filesystem ≡ f)) is own i).count
      (subst (λ o. IfSome o (λ n. n.birth ≡ Here)) is born i)) next.slot)

  pub is_next : number_of next ≡ next_seen (entry_at trees f.count)
  is_next = by (entry_of trees f.count) refl (sym (ap (option_map number_of) is) ∙ number)
    where
      by : (e : Option FilesystemEntry) → entry_of trees f.count ≡ e
          → Some (number_of next) ≡ option_map next_seen e → number_of next ≡ next_seen (entry_at trees f.count)
      by None at same = none_is_some (number_of next) (sym same)
      by (Some entry) at same = same_Some _ _ same
          ∙ ap (λ e. next_seen (unwrap_or e (no_entry f.count))) (sym at)

  pub is_vacant : (files_at trees f.count).tree.node (inode_number f.count next.slot) ≡ None
  is_vacant = ap (λ n. (files_at trees f.count).tree.node n) (sym number_is)
      ∙ ap node_in (subst (λ o. IfSome o (λ n. (inodes_at trees f.count).inode (number_of n) ≡ None)) is vacant)

  pub has_no_birth : (births : BirthsValue) → CopiesAreThere trees f.count births → node_of births next.slot ≡ None
  has_no_birth births there = no_birth_there trees f.count births there next.slot is_vacant

  pub has_no_name : EntriesAreThere (files_at trees f.count).tree → (place : ℕ)
      → has_entry_to nat_eq (files_at trees f.count).tree place (next_seen (entry_at trees f.count)) ≡ false
  has_no_name entries place = by (has_entry_to nat_eq (files_at trees f.count).tree place
      (next_seen (entry_at trees f.count))) refl
    where
      by : (b : Bool) → has_entry_to nat_eq (files_at trees f.count).tree place
          (next_seen (entry_at trees f.count)) ≡ b
          → has_entry_to nat_eq (files_at trees f.count).tree place (next_seen (entry_at trees f.count)) ≡ false
      by false e = e
      by true e = absurd (true≢false (sym (entries place _ e)
          ∙ ap (λ n. is_some ((files_at trees f.count).tree.node n)) (sym is_next ∙ number_is) ∙ ap is_some is_vacant))

-- where an inode is promised there is a next number
pub there_is_next : (trees : Filesystems) (count : ℕ) (o : Option NodeRef)
    → option_map number_of o ≡ option_map next_seen (entry_of trees count) → 0 < inodes_promised trees count → IsSome o
there_is_next trees count (Some next) number some = refl
there_is_next trees count None number some = absurd (by (entry_of trees count) refl number)
  where
    by : (e : Option FilesystemEntry) → entry_of trees count ≡ e → None ≡ option_map next_seen e → ⊥
    by None at same =
        let none : inodes_promised trees count ≡ 0 = ap (λ o. (unwrap_or o (no_entry count)).tree.promised) at in
        omega (arith, none, some)
    by (Some entry) at same = none_is_some (next_seen entry) same

entry_count : (trees : Filesystems) (count : ℕ) → (entry_at trees count).count ≡ count
entry_count trees count = by (entry_of trees count) refl
  where
    by : (e : Option FilesystemEntry) → entry_of trees count ≡ e → (entry_at trees count).count ≡ count
    by None at = ap (λ o. (unwrap_or o (no_entry count)).count) at
    by (Some entry) at = ap (λ o. (unwrap_or o (no_entry count)).count) at ∙ count_found trees count entry at

-- its slot is the next
pub next_slot : (trees : Filesystems) (count slot : ℕ) → slot < 18446744073709551616
    → inode_number count slot ≡ next_seen (entry_at trees count) → slot ≡ (entry_at trees count).tree.next
next_slot trees count slot small number = exchanged_same count slot (entry_at trees count).tree.next
    (exchanged_slot count slot small ∙ number
    ∙ ap (λ c. exchanged c (entry_at trees count).tree.next) (entry_count trees count))

-- a copy may be put into its directory
pub copy_is_new : (directory : ℕ) (node : Node ℕ) → IsNewIn directory (copy_node directory node)
copy_is_new directory node = by node.content
  where
    by : (content : Content ℕ) → IsNewIn directory (copy_node directory (record { attr = node.attr; content = content }))
    by (Directory parent entries opaque) = inl refl
    by (Regular bytes) = inr refl
    by (Symlink text) = inr refl
    by Whiteout = inr refl
