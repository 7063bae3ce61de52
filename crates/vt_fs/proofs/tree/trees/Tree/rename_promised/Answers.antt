use Rattle.std.proofs.Common.{◌≡◌, ℕ, Some, arith, nat_eq, ap, length, subst, sym, ◌-◌, ◌<◌, ◌∙◌, refl, ◌+◌, ◌≤◌}
use Rattle.vt_spec.proofs.Common.{Inodes, entries_in, entry_at, is_sorted, name_cmp, node_with_entry, node_with_parent, node_without_entry, tree_of as nodes_of, with_changed}
use Rattle.vt_spec.specs.Inodes.{without_replaced}
use Rattle.vt_fs.specs.Trees.Slots.{inodes_in, slots_len}
use Rattle.vt_fs.specs.Trees.TreeValue.{TreeValue, inodes_of, tree_of}
use Rattle.vt_fs.proofs.tree.MoveLemmas.{moved, replaced_other}
use Rattle.vt_fs.proofs.tree.NamesKept.{counted_as, name_moved, named_listed, replaced_keeps}
use Rattle.vt_fs.proofs.tree.NameCounts.{most_weaker, one_if_some}
use Rattle.vt_fs.specs.Trees.Names.{NamesAtMost, at_place, less_at, listings, more_at}
use Rattle.vt_fs.proofs.tree.PromisedKept.{promised_kept}
use Rattle.vt_fs.proofs.tree.trees.Tree.rename_promised.Goals as goal
use Rattle.vt_fs.proofs.tree.trees.Tree.rename_promised.Goals.{After-set_parent}

-- the tree with the new entry, without the old one, and with the parent
abbrev with_entries_moved : After-set_parent → Inodes ℕ
with_entries_moved c = with_changed nat_eq
    (with_changed nat_eq (with_changed nat_eq (inodes_of c.args.self.now) c.args.from
    (node_without_entry c.args.old.now)) c.args.to (node_with_entry c.args.new.items c.args.object))
    c.args.object (node_with_parent c.args.to)

placed : (c : After-set_parent) → inodes_in c.self.inside.root c.set_parent.new.slots ≡ with_entries_moved c
placed c =
    let sorted = sym (ap (λ value. is_sorted name_cmp (entries_in ((tree_of value).node c.args.to))) c.self.view_is)
    ∙ c.place_entry.ensures.in_order in
    moved (inodes_of c.args.self.now) c.args.from c.args.old.now c.args.to c.args.new.items c.args.object sorted
    c.requires.named (replaced_other (tree_of c.args.self.now) c.args.object
    (entry_at (tree_of c.args.self.now) c.args.to c.args.new.items) c.requires.replaced)
    (inodes_in c.self.inside.root c.place_entry.new.slots) (inodes_in c.self.inside.root c.remove_entry.new.slots)
    (inodes_in c.self.inside.root c.set_parent.new.slots) (c.place_entry.ensures.placed c.self.inside.root
    ∙ ap (λ value. with_changed nat_eq (inodes_of value) c.args.to
    (node_with_entry c.args.new.items c.args.object)) c.self.view_is)
    (c.remove_entry.ensures.removed c.self.inside.root) (c.set_parent.ensures.set c.self.inside.root)

-- what had the new name
replaced : (c : After-set_parent)
    → c.look-gone.result ≡ entry_at (tree_of c.args.self.now) c.args.to c.args.new.items
replaced c = c.look-gone.ensures ∙ ap (entry_at (tree_of c.args.self.now) c.args.to) c.deref.ensures.value

-- there is room in the directory
pub place_entry-requires : goal.place_entry-requires
place_entry-requires c = subst (λ value. length (entries_in ((tree_of value).node c.args.to)) < c.args.room.now)
    (sym c.self.view_is) c.requires.room

pub returns-in-Some-clause-moved : goal.returns-in-Some-clause-moved
returns-in-Some-clause-moved c =
    let path = (goal.at.returns-in-Some-clause-moved c).After-set_parent in
    c.remove_object.ensures.removed c.self.inside.root
    ∙ ap (λ inodes. without_replaced nat_eq inodes (Some c.in-Some.inode)) (placed path)
    ∙ ap (without_replaced nat_eq (with_entries_moved path)) (sym c.in-Some.is ∙ replaced path)

pub returns-in-Some-clause-promised : goal.returns-in-Some-clause-promised
returns-in-Some-clause-promised c = ap (λ (value : TreeValue). value.promised) c.self.view_is

pub returns-in_default-clause-promised : goal.returns-in_default-clause-promised
returns-in_default-clause-promised c = ap (λ (value : TreeValue). value.promised) c.self.view_is

pub returns-in_default-clause-moved : goal.returns-in_default-clause-moved
returns-in_default-clause-moved c =
    let path = (goal.at.returns-in_default-clause-moved c).After-set_parent in
    placed path ∙ ap (without_replaced nat_eq (with_entries_moved path)) (sym c.in_default.is ∙ replaced path)

-- the old name is listed
pub move_to-requires : goal.move_to-requires
move_to-requires c =
    let named = ap (λ value. entry_at (tree_of value) c.args.from c.args.old.now) c.self.view_is ∙ c.requires.named in
    let listed = named_listed (inodes_in c.self.inside.root c.self.inside.slots) c.args.from c.args.old.now
    c.args.object (listings c.self.inside.names) named c.self.invariant.0 in
    omega (arith, listed)

-- the object has the new directory in the place of the old one, and what had the new name has one less
counted : (c : After-set_parent) → NamesAtMost (nodes_of (inodes_in c.self.inside.root c.set_parent.new.slots))
    (λ number place. more_at c.args.object c.args.to
    (less_at c.args.object c.args.from (listings c.self.inside.names)) number place
    - at_place c.args.to
    (λ number. one_if_some number (entry_at (tree_of c.args.self.now) c.args.to c.args.new.items)) number place)
counted c =
    let root = c.self.inside.root in
    let before = inodes_in root c.self.inside.slots in
    let named = ap (λ value. entry_at (tree_of value) c.args.from c.args.old.now) c.self.view_is ∙ c.requires.named in
    counted_as (with_changed nat_eq (with_changed nat_eq
    (with_changed nat_eq before c.args.to (node_with_entry c.args.new.items c.args.object))
    c.args.from (node_without_entry c.args.old.now)) c.args.object (node_with_parent c.args.to)) _ _ _
    (c.set_parent.ensures.set root
    ∙ ap (λ inodes. with_changed nat_eq inodes c.args.object (node_with_parent c.args.to))
    (c.remove_entry.ensures.removed root
    ∙ ap (λ inodes. with_changed nat_eq inodes c.args.from (node_without_entry c.args.old.now))
    (c.place_entry.ensures.placed root))) (ap (λ value. λ number place. more_at c.args.object c.args.to
    (less_at c.args.object c.args.from (listings c.self.inside.names)) number place
    - at_place c.args.to
    (λ number. one_if_some number (entry_at (tree_of value) c.args.to c.args.new.items)) number place)
    (sym c.self.view_is))
    (name_moved before c.args.from c.args.to c.args.old.now c.args.new.items c.args.object
    (listings c.self.inside.names) c.place_entry.ensures.in_order named c.self.invariant.0)

-- there is as much room, and as many lists
room_kept : (c : After-set_parent) → (c.self.inside.slots.room ≤ c.set_parent.new.slots.room)
    × (slots_len c.set_parent.new.slots + c.set_parent.new.slots.room
    ≤ slots_len c.self.inside.slots + c.self.inside.slots.room)
room_kept c =
    let root = c.self.inside.root in (
      omega (arith, c.place_entry.ensures.room, c.remove_entry.ensures.room, c.set_parent.ensures.room),
      omega (
        arith,
        c.place_entry.ensures.room,
        c.remove_entry.ensures.room,
        c.set_parent.ensures.room,
        ap (λ (inodes : Inodes ℕ). inodes.count) (c.place_entry.ensures.placed root),
        ap (λ (inodes : Inodes ℕ). inodes.count) (c.remove_entry.ensures.removed root),
        ap (λ (inodes : Inodes ℕ). inodes.count) (c.set_parent.ensures.set root),
      ),
    )

pub invariant_of-self : goal.invariant_of-self
invariant_of-self c =
    let path = (goal.at.invariant_of-self c).After-set_parent in
    let root = c.self.inside.root in
    let moved = more_at c.args.object c.args.to
    (less_at c.args.object c.args.from (listings c.self.inside.names)) in (
      counted_as _ _ _ _ (c.remove_object.ensures.removed root)
          (c.take.ensures.listings ∙ ap (less_at c.in-Some.inode c.args.to) c.move_to.ensures.listings)
          (replaced_keeps (inodes_in root c.set_parent.new.slots) c.in-Some.inode _
          (subst (λ found. NamesAtMost (nodes_of (inodes_in root c.set_parent.new.slots)) (λ number place. moved number place
          - at_place c.args.to (λ number. one_if_some number found) number place)) (sym (replaced path) ∙ c.in-Some.is)
          (counted path))),
      promised_kept c.self.inside.promised c.self.inside.slots c.remove_object.new.slots c.self.inside.names
          c.take.new.self (omega (arith, c.move_to.ensures.len, c.take.ensures.len)) c.self.invariant.1
          (omega (arith, (room_kept path).0, c.remove_object.ensures.room))
          (omega (arith, (room_kept path).1, c.remove_object.ensures.total)),
    )

pub invariant_of-self-in_default : goal.invariant_of-self-in_default
invariant_of-self-in_default c =
    let path = (goal.at.invariant_of-self-in_default c).After-set_parent in (
      counted_as (inodes_in c.self.inside.root c.set_parent.new.slots) _ _ _ refl c.move_to.ensures.listings
          (most_weaker (nodes_of (inodes_in c.self.inside.root c.set_parent.new.slots)) _ _ (counted path)
          (λ number place. omega arith)),
      promised_kept c.self.inside.promised c.self.inside.slots c.set_parent.new.slots c.self.inside.names
          c.move_to.new.self (omega (arith, c.move_to.ensures.len)) c.self.invariant.1 (room_kept path).0
          (room_kept path).1,
    )
