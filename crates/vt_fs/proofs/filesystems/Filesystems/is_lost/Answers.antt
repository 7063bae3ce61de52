use Rattle.std.proofs.Common.{ap, nat_eq, subst, sym, ◌∙◌}
use Rattle.vt_spec.proofs.Common.{is_removed}
use Rattle.vt_location.specs.declared.numbers.FilesystemId.{FilesystemId}
use Rattle.vt_location.specs.Locations.{number_of}
use Rattle.vt_fs.specs.FilesystemsValue.{files_at}
use Rattle.vt_fs.specs.Laws.{ParentsAreNamed}
use Rattle.vt_fs.proofs.Nowhere.{not_lost_at_root}
use Rattle.vt_fs.proofs.PathsFound.{root_is}
use Rattle.vt_fs.proofs.filesystems.Filesystems.is_lost.Goals as goal

pub is_removed-requires : goal.is_removed-requires
is_removed-requires c = record {
  named = subst (λ (id : FilesystemId). ParentsAreNamed (files_at c.args.self.now id.count).tree)
      (sym c.requires.one_filesystem) c.requires.named;
}

pub returns-in-Some : goal.returns-in-Some
returns-in-Some c =
    let f = c.args.root.filesystem.count in
    let stays = ap (λ (id : FilesystemId). is_removed nat_eq (files_at c.args.self.now id.count).tree
    (number_of c.args.directory)) (sym c.requires.one_filesystem) ∙ sym c.is_removed.ensures ∙ c.if-is_removed.false in
    let same = ap (λ n. nat_eq n (number_of c.args.root))
    (root_is c.args.self.now f c.in-Some.top c.in-Some.ensures.number)
    ∙ sym c.is_same.ensures ∙ c.if-is_same.true in
    sym (not_lost_at_root (files_at c.args.self.now f) (number_of c.args.root) (number_of c.args.directory)
    c.requires.rooted stays same)
