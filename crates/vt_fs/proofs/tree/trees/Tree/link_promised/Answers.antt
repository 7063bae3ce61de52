use Rattle.std.proofs.Common.{◌≡◌, nat_eq, ap, length, ◌∙◌, ◌<◌, arith, refl, subst, sym, ℕ}
use Rattle.vt_spec.proofs.Common.{Inodes, entries_in, entry_at, node_with_entry, pinned, tree_of as nodes_of, uses_in}
use Rattle.vt_spec.specs.Inodes.{with_name}
use Rattle.vt_location.specs.Numbers.{most_counted}
use Rattle.vt_fs.specs.Trees.Slots.{inodes_in, slot_at, slots_len}
use Rattle.vt_fs.specs.Trees.TreeValue.{TreeValue, inodes_of, tree_of}
use Rattle.vt_fs.proofs.tree.InodeLemmas.{inodes-acquired, uses-with_changed}
use Rattle.vt_fs.proofs.tree.NamesKept.{counted_as, listed_keeps, name_more, named_listed, pin_keeps}
use Rattle.vt_fs.proofs.tree.NamesListed.{listed_within}
use Rattle.vt_fs.specs.Trees.Names.{ListsNames, listed_as, listings}
use Rattle.vt_fs.proofs.tree.PromisedKept.{promised_kept}
use Rattle.vt_fs.proofs.tree.trees.Tree.link_promised.Goals as goal

-- there is room in the directory
pub place_entry-requires : goal.place_entry-requires
place_entry-requires c = subst (λ value. length (entries_in ((tree_of value).node c.args.directory)) < c.args.room.now)
    (sym c.self.view_is) c.requires.room

-- the object has a name, so it has a list
pub replace-requires-clause-list : goal.replace-requires-clause-list
replace-requires-clause-list c =
    let root = c.self.inside.root in
    let named = c.requires.named in
    listed_within c.self.inside.names c.args.object named.directory
    (named_listed (inodes_in root c.self.inside.slots) named.directory named.name c.args.object
    (listings c.self.inside.names)
    (ap (λ value. entry_at (tree_of value) named.directory named.name) c.self.view_is ∙ named.leads) c.self.invariant.0)

-- an entry leaves the count below its limit
pub count_use-requires : goal.count_use-requires
count_use-requires c =
    let kept : uses_in (slot_at c.place_entry.new.slots c.args.object)
    ≡ uses_in (slot_at c.self.inside.slots c.args.object) =
    ap (λ inodes. uses_in (inodes.inode c.args.object)) (c.place_entry.ensures.placed c.self.inside.root)
    ∙ uses-with_changed (inodes_in c.self.inside.root c.self.inside.slots) c.args.directory
    (node_with_entry c.args.name.items c.args.object) c.args.object in
    let seen : uses_in (slot_at c.self.inside.slots c.args.object)
    ≡ uses_in ((inodes_of c.args.self.now).inode c.args.object) =
    ap (λ value. uses_in ((inodes_of value).inode c.args.object)) c.self.view_is in
    subst (λ n. n < most_counted) (sym (kept ∙ seen)) c.requires.uses

pub returns-clause-linked : goal.returns-clause-linked
returns-clause-linked c =
    inodes-acquired c.self.inside.root c.place_entry.new.slots c.count_use.new.self c.args.object
    c.count_use.ensures.acquired c.count_use.ensures.len
    ∙ ap (λ inodes. pinned nat_eq inodes c.args.object) (c.place_entry.ensures.placed c.self.inside.root)
    ∙ ap (λ value. with_name nat_eq (inodes_of value) c.args.directory c.args.name.items c.args.object) c.self.view_is

-- a name more, and a use
pub invariant_of-self : goal.invariant_of-self
invariant_of-self c =
    let root = c.self.inside.root in
    let before = inodes_in root c.self.inside.slots in
    let names : ListsNames (nodes_of before) c.args.object c.args.links.items =
    subst (λ value. ListsNames (tree_of value) c.args.object c.args.links.items) (sym c.self.view_is) c.requires.names in (
      counted_as _ _ _ _ (inodes-acquired root c.place_entry.new.slots c.count_use.new.self c.args.object
          c.count_use.ensures.acquired c.count_use.ensures.len) c.replace.ensures.listings
          (pin_keeps (inodes_in root c.place_entry.new.slots) c.args.object _
          (counted_as _ _ _ _ (c.place_entry.ensures.placed root) refl
          (name_more before c.args.directory c.args.name.items c.args.object
          (listed_as c.args.object c.args.links.items (listings c.self.inside.names)) c.place_entry.ensures.in_order
          (listed_keeps (nodes_of before) c.args.object c.args.links.items (listings c.self.inside.names) names
          c.self.invariant.0)))),
      promised_kept c.self.inside.promised c.self.inside.slots c.count_use.new.self c.self.inside.names
          c.replace.new.self (omega (arith, c.replace.ensures.len))
          c.self.invariant.1 (omega (arith, c.place_entry.ensures.room, c.count_use.ensures.room)) (omega (
            arith,
            c.place_entry.ensures.room,
            ap (λ (inodes : Inodes ℕ). inodes.count) (c.place_entry.ensures.placed root),
            c.count_use.ensures.room,
            c.count_use.ensures.len,
          )),
    )

pub returns-clause-promised : goal.returns-clause-promised
returns-clause-promised c = ap (λ (value : TreeValue). value.promised) c.self.view_is
