use Rattle.std.proofs.Common.{rules, ◌≡◌, ◌∙◌, ◌<◌, ◌≤◌, ap, arith, length, map, false, nat_eq, subst, sym, true}
use Rattle.std.proofs.lemmas.List.{get_or-map, take_all}
use Rattle.std.proofs.lemmas.List.Elements.{All-get_or}
use Rattle.vt_spec.proofs.Common.{length-map, unpinned}
use Rattle.vt_copyup.proofs.Changed.{nothing_changes}
use Rattle.vt_fs.specs.FilesystemsValue.{ChangesInodes}
use Rattle.vt_location.specs.declared.locations.InodeRef.{InodeRef}
use Rattle.vt_location.specs.declared.locations.NodeRef.{NodeRef}
use Rattle.vt_location.specs.declared.numbers.FilesystemId.{FilesystemId}
use Rattle.vt_location.specs.Locations.{inode_of, number_of}
use Rattle.vt_upper.specs.Leaving.{let_go, let_go_of}
use Rattle.vt_upper.proofs.FreedTrees.{let_go_last, let_go_more}
use Rattle.vt_upper.proofs.leaving.Leaving.let_go.Goals as goal

pub loop-index-init : goal.loop-index-init
loop-index-init c = nothing_changes c.args.self.now.object.filesystem.count c.args.trees.now

pub loop-index-preserved : goal.loop-index-preserved
loop-index-preserved c =
    let f = c.args.self.now.object.filesystem.count in
    let inodes = c.args.self.now.inodes.items in
    let inode = c.index.result.now in
    let counted = c.args.self.now.inodes.ok.0 in
    let test = c.loop-index-test.true in
    let end = c.len-index-end.ensures in
    let many = length-map inodes inode_of in
    let within : c.loop-index.index < length inodes = omega (arith, counted, test, end) in
    let own : inode.filesystem ≡ c.args.self.now.object.filesystem =
    subst (λ (one : InodeRef). one.filesystem ≡ c.args.self.now.object.filesystem) (sym c.index.ensures)
    (All-get_or (λ (one : InodeRef). one.filesystem ≡ c.args.self.now.object.filesystem) inodes c.loop-index.index inode
    within c.requires.own) in
    let unpins : ChangesInodes f (λ all. unpinned nat_eq all (inode_of inode)) c.loop-index.trees c.unpin.new.self =
    subst (λ (id : FilesystemId). ChangesInodes id.count (λ all. unpinned nat_eq all (inode_of inode)) c.loop-index.trees
    c.unpin.new.self) own
    (subst (λ (n : NodeRef). ChangesInodes n.filesystem.count (λ all. unpinned nat_eq all (number_of n)) c.loop-index.trees
    c.unpin.new.self) c.node_ref.ensures.value c.unpin.ensures) in
    let_go_more f c.loop-index.index (map inode_of inodes) (inode_of inode) c.args.trees.now c.loop-index.trees
    c.unpin.new.self (omega (arith, many, within))
    (get_or-map inode_of inodes c.loop-index.index inode (inode_of inode) within ∙ ap inode_of (sym c.index.ensures))
    c.loop-index.invariant unpins

pub returns-then-keeps : goal.returns-then-keeps
returns-then-keeps c =
    let f = c.args.self.now.object.filesystem.count in
    let inodes = c.args.self.now.inodes.items in
    let counted = c.args.self.now.inodes.ok.0 in
    let test = c.loop-index-test.false in
    let end = c.len-index-end.ensures in
    let many = length-map inodes inode_of in
    let yes : c.args.keeps ≡ true = search rules in
    let past : length (map inode_of inodes) ≤ c.loop-index.index = omega (arith, counted, test, end, many) in
    subst (λ b. ChangesInodes f (let_go (let_go_of b (map inode_of inodes) (inode_of c.args.self.now.object)))
    c.args.trees.now c.loop-index.trees) (sym yes)
    (subst (λ front. ChangesInodes f (let_go front) c.args.trees.now c.loop-index.trees)
    (take_all c.loop-index.index (map inode_of inodes) past) c.loop-index.invariant)

pub returns : goal.returns
returns c =
    let f = c.args.self.now.object.filesystem.count in
    let inodes = c.args.self.now.inodes.items in
    let counted = c.args.self.now.inodes.ok.0 in
    let test = c.loop-index-test.false in
    let end = c.len-index-end.ensures in
    let many = length-map inodes inode_of in
    let no : c.args.keeps ≡ false = search rules in
    let past : length (map inode_of inodes) ≤ c.loop-index.index = omega (arith, counted, test, end, many) in
    let gone = subst (λ front. ChangesInodes f (let_go front) c.args.trees.now c.loop-index.trees)
    (take_all c.loop-index.index (map inode_of inodes) past) c.loop-index.invariant in
    subst (λ b. ChangesInodes f (let_go (let_go_of b (map inode_of inodes) (inode_of c.args.self.now.object)))
    c.args.trees.now c.unpin-2.new.self) (sym no)
    (let_go_last f (map inode_of inodes) (inode_of c.args.self.now.object) c.args.trees.now c.loop-index.trees
    c.unpin-2.new.self gone
    (subst (λ (n : NodeRef). ChangesInodes n.filesystem.count (λ all. unpinned nat_eq all (number_of n)) c.loop-index.trees
    c.unpin-2.new.self) c.node_ref-2.ensures.value c.unpin-2.ensures))
