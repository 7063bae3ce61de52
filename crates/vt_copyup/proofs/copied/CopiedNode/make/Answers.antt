use Rattle.std.proofs.Common.{ap, arith, nat_eq, subst, sym, ◌∙◌, ◌≡◌, ◌<◌, ℕ, Some}
use Rattle.vt_spec.proofs.Common.{Inodes, Make}
use Rattle.vt_spec.specs.Inodes as counting
use Rattle.vt_location.specs.declared.locations.NodeRef.{NodeRef}
use Rattle.vt_location.specs.Locations.{inode_of, number_of}
use Rattle.vt_location.specs.Numbers.{inode_number}
use Rattle.vt_fs.specs.FilesystemsValue.{ChangesInodes, entry_at, files_at, next_seen, node_seen}
use Rattle.vt_laws_worlds.specs.Merging.UpperChanges.{copy_node}
use Rattle.vt_copyup.proofs.Next.{has_no_name, is_next, number_is}
use Rattle.vt_copyup.proofs.Stepping.{copy_seen}
use Rattle.vt_copyup.proofs.copied.CopiedNode.make.Goals as goal

pub create_promised-requires-clause-unnamed : goal.create_promised-requires-clause-unnamed
create_promised-requires-clause-unnamed c = λ place.
    subst (λ (n : NodeRef). Rattle.vt_spec.specs.FileTree.has_entry_to nat_eq
    (files_at c.args.trees.now n.filesystem.count).tree place
    (next_seen (entry_at c.args.trees.now n.filesystem.count)) ≡ Rattle.std.proofs.Common.false)
    (sym c.node_ref.ensures.value)
    (has_no_name c.args.trees.now c.args.at.directory.filesystem c.next_number.result c.unwrap-next.result
    c.unwrap-next.ensures c.next_number.ensures.number c.next_number.ensures.filesystem c.next_number.ensures.birth
    c.next_number.ensures.vacant c.requires.entries place)

pub returns-clause-made : goal.returns-clause-made
returns-clause-made c =
    let f = c.args.at.directory.filesystem.count in
    let new = c.create_promised.new.self in
    let made = subst (λ (n : NodeRef). ChangesInodes n.filesystem.count (λ inodes. counting.changed nat_eq inodes
    (Make (number_of n) c.args.at.name.items (number_of c.create_promised.result)
    (node_seen n.filesystem.count c.under-node.result))) c.args.trees.now new) c.node_ref.ensures.value
    c.create_promised.ensures.made in
    let last : number_of c.create_promised.result ≡ inode_number f c.unwrap-next.result.slot =
    subst (λ (n : NodeRef). number_of c.create_promised.result
    ≡ next_seen (entry_at c.args.trees.now n.filesystem.count)) c.node_ref.ensures.value c.create_promised.ensures.number
    ∙ sym (is_next c.args.trees.now c.args.at.directory.filesystem c.next_number.result c.unwrap-next.result
    c.unwrap-next.ensures c.next_number.ensures.number c.next_number.ensures.filesystem c.next_number.ensures.birth
    c.next_number.ensures.vacant)
    ∙ number_is c.args.trees.now c.args.at.directory.filesystem c.next_number.result c.unwrap-next.result
    c.unwrap-next.ensures c.next_number.ensures.number c.next_number.ensures.filesystem c.next_number.ensures.birth
    c.next_number.ensures.vacant in
    let small : c.args.at.directory.slot < 18446744073709551616 = omega arith in
    let node : node_seen f c.under-node.result ≡ copy_node (inode_of c.args.at.directory) c.args.self =
    ap (node_seen f) (c.under-node.ensures ∙ ap (λ d. copy_node d c.args.self) c.node.ensures)
    ∙ copy_seen f c.args.at.directory.slot c.args.self small in
    subst (λ (change : Inodes ℕ → Inodes ℕ). ChangesInodes f change c.args.trees.now new)
    (λ i inodes. counting.changed nat_eq inodes (Make (inode_of c.args.at.directory) c.args.at.name.items (last i)
    (node i))) made
