use Rattle.std.proofs.Common.{ap, arith, nat_eq, subst, sym, ◌∙◌, ◌≡◌, ◌<◌, ℕ}
use Rattle.vt_spec.proofs.Common.{Inodes}
use Rattle.vt_location.specs.Locations.{number_of}
use Rattle.vt_location.specs.Numbers.{inode_number}
use Rattle.vt_fs.specs.FilesystemsValue.{ChangesInodes, entry_at, next_seen, node_seen}
use Rattle.vt_fs.specs.Trees.TreeValue.{with_unnamed}
use Rattle.vt_laws_worlds.specs.Merging.UpperChanges.{copy_node}
use Rattle.vt_spec.specs.Laws.Trees.{IsNewIn}
use Rattle.vt_copyup.proofs.Next.{copy_is_new, has_no_birth, is_next, next_slot, number_is, there_is_next}
use Rattle.vt_copyup.proofs.Stepping.{copy_seen}
use Rattle.vt_copyup.proofs.unnamed.UnnamedPlan.apply.Goals as goal

pub unwrap-next-requires : goal.unwrap-next-requires
unwrap-next-requires c =
    there_is_next c.args.trees.now c.args.self.upper.count c.next_number.result c.next_number.ensures.number
    c.requires.inode

pub add-requires-clause-slot : goal.add-requires-clause-slot
add-requires-clause-slot c =
    has_no_birth c.args.trees.now c.args.self.upper c.next_number.result c.unwrap-next.result
    c.unwrap-next.ensures c.next_number.ensures.number c.next_number.ensures.filesystem c.next_number.ensures.birth
    c.next_number.ensures.vacant c.args.births.now c.requires.there

pub create_unnamed-requires-clause-node : goal.create_unnamed-requires-clause-node
create_unnamed-requires-clause-node c =
    let f = c.args.self.upper.count in
    let slot = c.unwrap-next.result.slot in
    let small : slot < 18446744073709551616 = omega arith in
    let number : inode_number f slot ≡ next_seen (entry_at c.args.trees.now f) =
    sym (number_is c.args.trees.now c.args.self.upper c.next_number.result c.unwrap-next.result
    c.unwrap-next.ensures c.next_number.ensures.number c.next_number.ensures.filesystem c.next_number.ensures.birth
    c.next_number.ensures.vacant)
    ∙ is_next c.args.trees.now c.args.self.upper c.next_number.result c.unwrap-next.result
    c.unwrap-next.ensures c.next_number.ensures.number c.next_number.ensures.filesystem c.next_number.ensures.birth
    c.next_number.ensures.vacant in
    subst (λ n. IsNewIn n c.under-node.result) (next_slot c.args.trees.now f slot small number)
    (subst (IsNewIn slot) (sym (c.under-node.ensures ∙ ap (λ d. copy_node d c.args.self.node) c.new.ensures))
    (copy_is_new slot c.args.self.node))

pub returns-clause-made : goal.returns-clause-made
returns-clause-made c =
    let f = c.args.self.upper.count in
    let slot = c.unwrap-next.result.slot in
    let small : slot < 18446744073709551616 = omega arith in
    let last : number_of c.create_unnamed.result ≡ inode_number f slot =
    c.create_unnamed.ensures.number
    ∙ sym (is_next c.args.trees.now c.args.self.upper c.next_number.result c.unwrap-next.result
    c.unwrap-next.ensures c.next_number.ensures.number c.next_number.ensures.filesystem c.next_number.ensures.birth
    c.next_number.ensures.vacant)
    ∙ number_is c.args.trees.now c.args.self.upper c.next_number.result c.unwrap-next.result
    c.unwrap-next.ensures c.next_number.ensures.number c.next_number.ensures.filesystem c.next_number.ensures.birth
    c.next_number.ensures.vacant in
    let node : node_seen f c.under-node.result ≡ copy_node (inode_number f slot) c.args.self.node =
    ap (node_seen f) (c.under-node.ensures ∙ ap (λ d. copy_node d c.args.self.node) c.new.ensures)
    ∙ copy_seen f slot c.args.self.node small in
    subst (λ (change : Inodes ℕ → Inodes ℕ). ChangesInodes f change c.args.trees.now c.create_unnamed.new.self)
    (λ i inodes. with_unnamed nat_eq inodes (last i) (node i)) c.create_unnamed.ensures.made
