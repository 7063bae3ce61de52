use Rattle.std.proofs.Common.{◌≡◌, ◌<◌, ◌∙◌, All, ap, Some, subst, sym, true}
use Rattle.vt_spec.proofs.Common.{entries_in, is_sorted, name_cmp, uses_in}
use Rattle.vt_fs.specs.FilesystemsValue.{files_at, inodes_at}
use Rattle.vt_location.specs.declared.locations.InodeRef.{InodeRef}
use Rattle.vt_location.specs.declared.numbers.FilesystemId.{FilesystemId}
use Rattle.vt_location.specs.Locations.{inode_of}
use Rattle.vt_location.specs.Numbers.{most_counted}
use Rattle.vt_upper.specs.Leaving.{held_for}
use Rattle.vt_upper.proofs.making.leaving_from.Goals as goal

pub of-requires : goal.of-requires
of-requires c =
    let trees = c.args.trees.now in
    let object = c.in-Some.object in
    record {
      order = subst (λ (id : FilesystemId). is_sorted name_cmp (entries_in
          ((files_at trees id.count).tree.node (inode_of object))) ≡ true) (sym c.in-Some.ensures.filesystem)
          (c.requires.order (inode_of object));
    }

pub returns-clause-leads : goal.returns-clause-leads
returns-clause-leads c = ap (λ (o : InodeRef). Some (inode_of o)) c.in_ok-leaving.ensures.object ∙ c.in-Some.ensures.leads

pub returns-clause-known : goal.returns-clause-known
returns-clause-known c =
    let trees = c.args.trees.now in
    let object = c.in-Some.object in
    let leaving = c.in_ok-leaving.leaving in
    let same = c.in_ok-leaving.ensures.object in
    record {
      filesystem = ap (λ (o : InodeRef). o.filesystem) same ∙ c.in-Some.ensures.filesystem;
      known = c.in_ok-leaving.ensures.known;
      few = subst (λ (o : InodeRef). All (λ number. uses_in ((inodes_at trees c.args.directory.filesystem.count).inode number)
          < most_counted) (held_for (Some (inode_of o)) (entries_in
          ((files_at trees c.args.directory.filesystem.count).tree.node (inode_of o))))) (sym same)
          (subst (λ (id : FilesystemId). All (λ number. uses_in ((inodes_at trees id.count).inode number) < most_counted)
          (held_for (Some (inode_of object)) (entries_in ((files_at trees id.count).tree.node (inode_of object)))))
          c.in-Some.ensures.filesystem c.in_ok-leaving.ensures.few);
    }
