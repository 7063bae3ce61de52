use Rattle.std.proofs.Common.{arith, ◌≡◌, ap, nat_eq, ℕ, ◌∙◌}
use Rattle.vt_spec.proofs.Common.{Node, entries_of, node_in, one_directory, tree_of}
use Rattle.vt_fs.specs.Trees.Slots.{Slots, slot_at, slots_len}
use Rattle.vt_fs.proofs.tree.InodeLemmas.{inodes-root}
use Rattle.vt_fs.proofs.tree.NamesKept.{new_keeps, none_named}
use Rattle.vt_fs.specs.Trees.Slots.{inodes_in}
use Rattle.vt_fs.proofs.tree.trees.Tree.new.Goals as goal

-- the one inode is the root
pub returns : goal.returns
returns c =
    let number : c.insert_reserved.result ≡ c.next-root.result = cc in
    let empty = c.in_ok-reserve.ensures.rest_kept
    ∙ ap (λ (slots : Slots). record slots { room = c.reserve.new.self.room }) c.new-slots.ensures in
    let first : c.next-root.result ≡ 0 = c.next-root.ensures.value ∙ ap (λ (slots : Slots). slots.next) empty in
    record {
      ok = inodes-root c.reserve.new.self c.insert_reserved.new.self c.next-root.result c.insert_reserved.result
          c.args.attr c.new_directory.result
          (ap slot_at empty) (ap slots_len empty) c.new_directory.ensures c.insert_reserved.ensures.inserted
          c.insert_reserved.ensures.len number
          ∙ ap (λ root. one_directory nat_eq root c.args.attr) first;
    }

pub invariant_of-result : goal.invariant_of-result
invariant_of-result c =
    let empty = c.in_ok-reserve.ensures.rest_kept
    ∙ ap (λ (slots : Slots). record slots { room = c.reserve.new.self.room }) c.new-slots.ensures in
    let inodes = inodes_in c.next-root.result in (
      new_keeps (inodes c.reserve.new.self) (inodes c.insert_reserved.new.self)
          c.insert_reserved.result c.new_directory.result _ c.insert_reserved.ensures.inserted
          (ap (λ (node : Node ℕ). entries_of node.content) c.new_directory.ensures)
          (none_named (tree_of (inodes c.reserve.new.self)) _
          (λ number. ap (λ (slots : Slots). node_in (slot_at slots number)) empty)),
      record { room = omega arith; reach = λ some. absurd (omega (arith, some)) },
    )
