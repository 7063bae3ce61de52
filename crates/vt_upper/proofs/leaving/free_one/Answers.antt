use Rattle.std.proofs.Common.{◌≡◌, ◌<◌, ◌∙◌, ap, is_some, nat_eq, Some, subst, sym, ℕ}
use Rattle.vt_spec.proofs.Common.{Remove, Tree, entries_in, entry_at, pinned, uses_in}
use Rattle.vt_spec.specs.Inodes.{changed}
use Rattle.vt_fs.specs.FilesystemsValue.{ChangesInodes, Filesystems, files_at, inodes_at, inodes_promised}
use Rattle.vt_location.specs.declared.locations.NodeRef.{NodeRef}
use Rattle.vt_location.specs.declared.numbers.FilesystemId.{FilesystemId}
use Rattle.vt_location.specs.Locations.{inode_of, number_of}
use Rattle.vt_location.specs.Numbers.{most_counted}
use Rattle.vt_upper.proofs.FreedTrees.{freed_held, tree_held}
use Rattle.vt_upper.proofs.NamesFreed.{used_there}
use Rattle.vt_upper.proofs.leaving.free_one.Goals as goal
use Rattle.vt_upper.proofs.leaving.free_one.Goals.{After-pin_promised}

module _ (c : After-pin_promised) where
  abbrev f : ℕ
  f = c.args.directory.filesystem.count

  abbrev o : ℕ
  o = inode_of c.args.object

  abbrev held : Filesystems
  held = c.pin_promised.new.self

  -- it is pinned in the directory's filesystem
  pins : ChangesInodes f (λ inodes. pinned nat_eq inodes o) c.args.trees.now held
  pins = subst (λ (id : FilesystemId). ChangesInodes id.count (λ inodes. pinned nat_eq inodes o) c.args.trees.now held)
      c.requires.filesystem
      (subst (λ (n : NodeRef). ChangesInodes n.filesystem.count (λ inodes. pinned nat_eq inodes (number_of n))
      c.args.trees.now held) c.node_ref-held.ensures.value c.pin_promised.ensures.pinned)

  tree_is : (files_at held f).tree ≡ (files_at c.args.trees.now f).tree
  tree_is = tree_held c.args.trees.now held f (inode_of c.args.directory) o c.args.name.now c.requires.named pins

pub pin_promised-requires-clause-there : goal.pin_promised-requires-clause-there
pin_promised-requires-clause-there c =
    let trees = c.args.trees.now in
    ap (λ (n : NodeRef). is_some ((files_at trees n.filesystem.count).tree.node (number_of n))) c.node_ref-held.ensures.value
    ∙ ap (λ (id : FilesystemId). is_some ((files_at trees id.count).tree.node (inode_of c.args.object))) c.requires.filesystem
    ∙ used_there ((inodes_at trees c.args.directory.filesystem.count).inode (inode_of c.args.object)) c.requires.used

pub pin_promised-requires-clause-uses : goal.pin_promised-requires-clause-uses
pin_promised-requires-clause-uses c =
    let trees = c.args.trees.now in
    subst (λ (n : NodeRef). uses_in ((inodes_at trees n.filesystem.count).inode (number_of n)) < most_counted)
    (sym c.node_ref-held.ensures.value)
    (subst (λ (id : FilesystemId). uses_in ((inodes_at trees id.count).inode (inode_of c.args.object)) < most_counted)
    (sym c.requires.filesystem) c.requires.few)

pub unlink_promised-requires-clause-one_filesystem : goal.unlink_promised-requires-clause-one_filesystem
unlink_promised-requires-clause-one_filesystem c =
    ap (λ (n : NodeRef). n.filesystem) c.node_ref-held.ensures.value ∙ c.requires.filesystem
    ∙ sym (ap (λ (n : NodeRef). n.filesystem) c.node_ref.ensures.value)

pub unlink_promised-requires-clause-named : goal.unlink_promised-requires-clause-named
unlink_promised-requires-clause-named c =
    let at = (goal.at.unlink_promised-requires-clause-named c).After-pin_promised in
    ap (λ (n : NodeRef). entry_at (files_at (held at) n.filesystem.count).tree (number_of n) c.args.name.now)
    c.node_ref.ensures.value
    ∙ ap (λ (t : Tree ℕ). entry_at t (inode_of c.args.directory) c.args.name.now) (tree_is at) ∙ c.requires.named
    ∙ ap (λ (n : NodeRef). Some (number_of n)) (sym c.node_ref-held.ensures.value)

pub unlink_promised-requires-clause-there : goal.unlink_promised-requires-clause-there
unlink_promised-requires-clause-there c =
    let at = (goal.at.unlink_promised-requires-clause-there c).After-pin_promised in
    (λ i. is_some ((files_at (held at) (c.node_ref.ensures.value i).filesystem.count).tree.node
    (number_of (c.node_ref-held.ensures.value i))))
    ∙ ap (λ (t : Tree ℕ). is_some (t.node (o at))) (tree_is at)
    ∙ used_there ((inodes_at c.args.trees.now (f at)).inode (o at)) c.requires.used

pub unlink_promised-requires-clause-empty : goal.unlink_promised-requires-clause-empty
unlink_promised-requires-clause-empty c =
    let at = (goal.at.unlink_promised-requires-clause-empty c).After-pin_promised in
    (λ i. entries_in ((files_at (held at) (c.node_ref.ensures.value i).filesystem.count).tree.node
    (number_of (c.node_ref-held.ensures.value i))))
    ∙ ap (λ (t : Tree ℕ). entries_in (t.node (o at))) (tree_is at) ∙ c.requires.empty

pub returns-clause-freed : goal.returns-clause-freed
returns-clause-freed c =
    let at = (goal.at.returns-clause-freed c).After-pin_promised in
    let new = c.unlink_promised.new.self in
    let one = subst (λ (n : NodeRef). ChangesInodes n.filesystem.count (λ inodes. changed nat_eq inodes
    (Remove (number_of n) c.args.name.now (number_of c.node_ref-held.result))) (held at) new) c.node_ref.ensures.value
    c.unlink_promised.ensures.removed in
    freed_held c.args.trees.now (held at) (f at) (inode_of c.args.directory) (o at) c.args.name.now c.requires.named
    (pins at) new
    (subst (λ (n : NodeRef). ChangesInodes (f at) (λ inodes. changed nat_eq inodes
    (Remove (inode_of c.args.directory) c.args.name.now (number_of n))) (held at) new) c.node_ref-held.ensures.value one)

pub returns-clause-promised : goal.returns-clause-promised
returns-clause-promised c =
    let at = (goal.at.returns-clause-promised c).After-pin_promised in
    subst (λ (n : NodeRef). inodes_promised c.unlink_promised.new.self n.filesystem.count
    ≡ inodes_promised (held at) n.filesystem.count) c.node_ref.ensures.value c.unlink_promised.ensures.promised
    ∙ subst (λ (id : FilesystemId). inodes_promised (held at) id.count ≡ inodes_promised c.args.trees.now id.count)
    c.requires.filesystem
    (subst (λ (n : NodeRef). inodes_promised (held at) n.filesystem.count
    ≡ inodes_promised c.args.trees.now n.filesystem.count) c.node_ref-held.ensures.value c.pin_promised.ensures.promised)
