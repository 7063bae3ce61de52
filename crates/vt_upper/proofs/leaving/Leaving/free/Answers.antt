use Rattle.std.proofs.Common.{◌≡◌, ◌∙◌, subst, sym, ℕ}
use Rattle.vt_spec.proofs.Common.{entries_in}
use Rattle.vt_spec.specs.Lists.{folded}
use Rattle.vt_copyup.proofs.Changed.{changes_then}
use Rattle.vt_fs.specs.FilesystemsValue.{ChangesInodes, Filesystems, files_at, inodes_at, inodes_promised}
use Rattle.vt_location.specs.declared.numbers.FilesystemId.{FilesystemId}
use Rattle.vt_location.specs.Locations.{inode_of}
use Rattle.vt_upper.specs.Leaving.{MayBeEmptied, NamesAreUsed, freed_once}
use Rattle.vt_upper.proofs.FreedTrees.{still_empty, still_few, still_named, still_used}
use Rattle.vt_upper.proofs.leaving.Leaving.free.Goals as goal
use Rattle.vt_upper.proofs.leaving.Leaving.free.Goals.{After-empty}

pub empty-requires-clause-used : goal.empty-requires-clause-used
empty-requires-clause-used c = subst (λ (id : FilesystemId). NamesAreUsed (inodes_at c.args.trees.now id.count))
    (sym c.requires.filesystem) c.requires.used

pub empty-requires-clause-emptied : goal.empty-requires-clause-emptied
empty-requires-clause-emptied c = subst (λ (id : FilesystemId). MayBeEmptied (inodes_at c.args.trees.now id.count)
    (inode_of c.args.self.now.object)) (sym c.requires.filesystem) c.requires.emptied

module _ (c : After-empty) where
  abbrev f : ℕ
  f = c.args.directory.filesystem.count

  abbrev d : ℕ
  d = inode_of c.args.directory

  abbrev h : ℕ
  h = inode_of c.args.self.now.object

  abbrev trees : Filesystems
  trees = c.args.trees.now

  abbrev mid : Filesystems
  mid = c.empty.new.trees

  gone : ChangesInodes f (λ inodes. folded (freed_once h) inodes (entries_in ((files_at trees f).tree.node h))) trees mid
  gone = subst (λ (id : FilesystemId). ChangesInodes id.count (λ inodes. folded (freed_once h) inodes
      (entries_in ((files_at trees id.count).tree.node h))) trees mid) c.requires.filesystem c.empty.ensures.emptied

pub free_one-requires-clause-named : goal.free_one-requires-clause-named
free_one-requires-clause-named c =
    let at = (goal.at.free_one-requires-clause-named c).After-empty in
    still_named (trees at) (mid at) (f at) (d at) (h at) c.args.name.now c.requires.directory c.requires.named
    c.requires.other c.requires.used c.requires.emptied (gone at)

pub free_one-requires-clause-empty : goal.free_one-requires-clause-empty
free_one-requires-clause-empty c =
    let at = (goal.at.free_one-requires-clause-empty c).After-empty in
    still_empty (trees at) (mid at) (f at) (d at) (h at) c.args.name.now c.requires.directory c.requires.named
    c.requires.other c.requires.used c.requires.emptied (gone at)

pub free_one-requires-clause-used : goal.free_one-requires-clause-used
free_one-requires-clause-used c =
    let at = (goal.at.free_one-requires-clause-used c).After-empty in
    still_used (trees at) (mid at) (f at) (d at) (h at) c.args.name.now c.requires.directory c.requires.named
    c.requires.other c.requires.used c.requires.emptied (gone at)

pub free_one-requires-clause-few : goal.free_one-requires-clause-few
free_one-requires-clause-few c =
    let at = (goal.at.free_one-requires-clause-few c).After-empty in
    still_few (trees at) (mid at) (f at) (d at) (h at) c.args.name.now c.requires.directory c.requires.named
    c.requires.other c.requires.used c.requires.emptied (gone at)

pub returns-clause-freed : goal.returns-clause-freed
returns-clause-freed c =
    let at = (goal.at.returns-clause-freed c).After-empty in
    changes_then (f at) (λ inodes. folded (freed_once (h at)) inodes
    (entries_in ((files_at (trees at) (f at)).tree.node (h at))))
    (λ inodes. freed_once (d at) inodes (c.args.name.now, h at)) (trees at) (mid at) c.free_one.new.trees (gone at)
    c.free_one.ensures.freed

pub returns-clause-promised : goal.returns-clause-promised
returns-clause-promised c =
    let at = (goal.at.returns-clause-promised c).After-empty in
    c.free_one.ensures.promised
    ∙ subst (λ (id : FilesystemId). inodes_promised (mid at) id.count ≡ inodes_promised (trees at) id.count)
    c.requires.filesystem c.empty.ensures.promised
