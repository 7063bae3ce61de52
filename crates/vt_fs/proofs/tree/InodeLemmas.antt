-- Changes of slots, as changes of the inodes.
use Rattle.std.proofs.Common.{◌≡◌, ℕ, ◌+◌, ◌-◌, true, false, cond, List, [], Option, Some, None, nat_eq, if◌then◌else◌, refl, sym, ap, ◌∙◌, is_none, is_some, ⊎_elim, zero, suc, ◌<◌, ◌||◌, ◌∷◌, length, true≢false, arith, get_or-set_same, get_or-set_other, slice_index_or, slice_set}
use Rattle.vt_spec.proofs.Common.{Inode, Inodes, Node, bytes_in, bytes_of, cases_lt, chain, count_after, eqb_tells, get_or_past, inode_with_node, is_among, new_directory, node_in, node_with_bytes, node_with_entry, one_directory, overwritten, parent_above, parent_in, pinned, unpinned, used_once_less, used_once_more, uses_in, with_bytes, with_changed}
use Rattle.vt_spec.specs.declared.attributes.Attr.{Attr}
use Rattle.vt_spec.specs.Inodes.{with_new}
use Rattle.vt_fs.proofs.tree.SlotLemmas.{slots_len-with_node_at}
use Rattle.vt_fs.specs.Trees.Slots.{Slots, goes, node_at, with_node_at, inodes_in, put_at, slot_at, slots_len}

-- another node leaves the uses
uses-inode_with_node : (node : Option (Node ℕ)) (inode : Option (Inode ℕ))
    → uses_in (inode_with_node node inode) ≡ uses_in inode
uses-inode_with_node None inode = refl
uses-inode_with_node (Some node) None = refl
uses-inode_with_node (Some node) (Some inode) = refl

pub uses-with_changed : (inodes : Inodes ℕ) (number : ℕ) (change : Option (Node ℕ) → Option (Node ℕ)) (other : ℕ)
    → uses_in ((with_changed nat_eq inodes number change).inode other) ≡ uses_in (inodes.inode other)
uses-with_changed inodes number change other = ⊎_elim (λ here.
    ap (λ b. uses_in (cond b (inode_with_node (change (node_in (inodes.inode number))) (inodes.inode number))
    (inodes.inode other))) here.0 ∙ uses-inode_with_node (change (node_in (inodes.inode number))) (inodes.inode number)
    ∙ ap (λ n. uses_in (inodes.inode n)) (sym here.1))
    (λ there. ap (λ b. uses_in (cond b (inode_with_node (change (node_in (inodes.inode number))) (inodes.inode number))
    (inodes.inode other))) there.0) (eqb_tells other number)

-- how many inodes there are after a release
count-less : (count : ℕ) (inode : Option (Inode ℕ))
    → (if is_none inode then count - 1 else count) ≡ count_after count inode
count-less count None = refl
count-less count (Some inode) = refl

count-released : (count : ℕ) (inode : Option (Inode ℕ)) → (if goes inode then count - 1 else count)
    ≡ (if is_some inode then count_after count (used_once_less inode) else count)
count-released count None = refl
count-released count (Some inode) = count-less count (used_once_less (Some inode))

pub inodes-released : (root : ℕ) (old new : Slots) (object : ℕ)
    → slot_at new ≡ put_at (slot_at old) object (used_once_less (slot_at old object))
    → slots_len new ≡ (if goes (slot_at old object) then slots_len old - 1 else slots_len old)
    → inodes_in root new ≡ unpinned nat_eq (inodes_in root old) object
inodes-released root old new object released counted = λ i. record {
  root = root;
  inode = released i;
  count = (counted ∙ count-released (slots_len old) (slot_at old object)) i;
}

pub inodes-acquired : (root : ℕ) (old new : Slots) (object : ℕ)
    → slot_at new ≡ put_at (slot_at old) object (used_once_more (slot_at old object)) → slots_len new ≡ slots_len old
    → inodes_in root new ≡ pinned nat_eq (inodes_in root old) object
inodes-acquired root old new object acquired counted = λ i.
    record { root = root; inode = acquired i; count = counted i }

-- an inode more, with one use
abbrev with_one_more : Inodes ℕ → ℕ → Node ℕ → Inodes ℕ
with_one_more inodes number node = record {
  root = inodes.root;
  inode = λ other. if nat_eq other number then Some (record { node = node; uses = 1 }) else inodes.inode other;
  count = inodes.count + 1;
}

-- an entry, and then the inode that it leads to
pub inodes-created : (inodes : Inodes ℕ) (entered new : Slots) (directory id made : ℕ) (name : List ℕ) (node : Node ℕ)
    → inodes_in inodes.root entered ≡ with_changed nat_eq inodes directory (node_with_entry name id)
    → slot_at new ≡ put_at (slot_at entered) made (Some (record { node = node; uses = 1 }))
    → slots_len new ≡ slots_len entered + 1 → id ≡ made
    → inodes_in inodes.root new ≡ with_new nat_eq inodes directory name made node
inodes-created inodes entered new directory id made name node entry inserted counted same =
    (λ i. record { root = inodes.root; inode = inserted i; count = counted i })
    ∙ ap (λ changed. with_one_more changed made node) entry
    ∙ ap (λ number. with_one_more (with_changed nat_eq inodes directory (node_with_entry name number)) made node) same

-- a directory below itself: one directory
pub inodes-root : (kept new : Slots) (root made : ℕ) (attr : Attr) (directory : Node ℕ) → slot_at kept ≡ (λ other. None)
    → slots_len kept ≡ 0 → directory ≡ record { attr = attr; content = new_directory root }
    → slot_at new ≡ put_at (slot_at kept) made (Some (record { node = directory; uses = 1 }))
    → slots_len new ≡ slots_len kept + 1 → made ≡ root → inodes_in root new ≡ one_directory nat_eq root attr
inodes-root kept new root made attr directory empty none is inserted counted same =
    (λ i. record { root = root; inode = inserted i; count = counted i }) ∙ (λ i. record {
      root = root;
      inode = put_at (empty i) (same i) (Some (record { node = is i; uses = 1 }));
      count = none i + 1;
    })

-- a slot that is written, and the others
written-slot : (slots : List (Option (Inode ℕ))) (id other : ℕ) (inode : Option (Inode ℕ))
    → is_some (slice_index_or slots id None) ≡ true → slice_index_or (slice_set slots id inode) other None
    ≡ (if nat_eq other id then inode else slice_index_or slots other None)
written-slot slots id other inode there = ⊎_elim (λ here.
    ap (λ n. slice_index_or (slice_set slots id inode) n None) here.1 ∙ get_or-set_same slots id inode None within
    ∙ ap (λ b. if b then inode else slice_index_or slots other None) (sym here.0)) (λ elsewhere.
    get_or-set_other slots id other inode None elsewhere.1
    ∙ ap (λ b. if b then inode else slice_index_or slots other None) (sym elsewhere.0)) (eqb_tells other id)
  where
    within : id < length slots
    within = ⊎_elim (λ less. less)
        (λ past. absurd (true≢false (sym there ∙ ap is_some (get_or_past slots id None past))))
        (cases_lt id (length slots))

-- a write through `get_mut(id)`
changed-through : (root : ℕ) (table : Slots) (id : ℕ) (change : Option (Node ℕ) → Option (Node ℕ)) (old new : Node ℕ)
    → node_at table id ≡ Some old → change (Some old) ≡ Some new
    → inodes_in root (with_node_at table id new) ≡ with_changed nat_eq (inodes_in root table) id change
changed-through root table id change old new was is = λ i. record {
  root = root;
  inode = λ other. at other i;
  count = slots_len-with_node_at table id new i;
}
  where
    there : (o : Option (Inode ℕ)) → node_in o ≡ Some old → is_some o ≡ true
    there None e = ap is_some e
    there (Some inode) e = refl

    at : (other : ℕ) → slot_at (with_node_at table id new) other
        ≡ (if nat_eq other id then inode_with_node (change (node_in (slot_at table id))) (slot_at table id)
        else slot_at table other)
    at other =
        written-slot table.slots id other (inode_with_node (Some new) (slot_at table id)) (there (slot_at table id) was)
        ∙ ap (λ node. if nat_eq other id then inode_with_node node (slot_at table id) else slot_at table other)
        (sym (ap change was ∙ is))

pub written-through : (root : ℕ) (table : Slots) (file : ℕ) (old new : Node ℕ) (offset : ℕ) (bytes : List ℕ)
    → node_at table file ≡ Some old → new ≡ record {
      attr = old.attr;
      content = with_bytes old.content (overwritten offset bytes (bytes_of old.content));
    } → inodes_in root (with_node_at table file new) ≡ with_changed nat_eq (inodes_in root table) file
    (node_with_bytes (overwritten offset bytes (bytes_in (node_at table file))))
written-through root table file old new offset bytes was is = changed-through root table file
    (node_with_bytes (overwritten offset bytes (bytes_in (node_at table file)))) old new was
    (ap (λ o. node_with_bytes (overwritten offset bytes (bytes_in o)) (Some old)) was ∙ sym (ap Some is))

-- one step up
pub climb : (inodes : Inodes ℕ) (top here left : ℕ) → 0 < left → nat_eq top here ≡ false
    → nat_eq here inodes.root ≡ false → is_among nat_eq top (chain left (parent_above nat_eq inodes) here)
    ≡ is_among nat_eq top (chain (left - 1) (parent_above nat_eq inodes) (parent_in here (node_in (inodes.inode here))))
climb inodes top here zero some other below = absurd (omega arith)
climb inodes top here (suc left) some other below =
    let parent = parent_in here (node_in (inodes.inode here)) in
    let one_less : left ≡ suc left - 1 = omega arith in
    ap (λ b. is_among nat_eq top (elim (if b then None else Some parent) [
      | None ↦ here ∷ []
      | Some above ↦ here ∷ chain left (parent_above nat_eq inodes) above
    ])) below ∙ ap (λ b. b || is_among nat_eq top (chain left (parent_above nat_eq inodes) parent)) other
    ∙ ap (λ n. is_among nat_eq top (chain n (parent_above nat_eq inodes) parent)) one_less
