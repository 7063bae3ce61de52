use Rattle.std.proofs.Common.{None, ap, sym, ◌∙◌, ◌≡◌, subst}
use Rattle.vt_location.specs.Locations.{number_of}
use Rattle.vt_location.specs.Numbers.{exchanged}
use Rattle.vt_location.specs.declared.numbers.FilesystemId.{FilesystemId}
use Rattle.vt_fs.specs.FilesystemsValue.{entry_at, inodes_at, numbers_seen}
use Rattle.vt_fs.proofs.Nowhere.{over_none, under_none}
use Rattle.vt_fs.proofs.Numbers.{numbers_counted}
use Rattle.vt_fs.proofs.Parents.{under_by_names}
use Rattle.vt_fs.proofs.Standing.{under_there}
use Rattle.vt_fs.proofs.filesystems.Filesystems.is_under.Goals as goal

pub returns-in-Some-get : goal.returns-in-Some-get
returns-in-Some-get c =
    let f = c.args.top.filesystem.count in
    let entry = entry_at c.args.self.now f in
    let directory = ap (λ id. exchanged id.count c.in-Some-slot_of.lower) (sym c.requires.one_filesystem)
    ∙ c.in-Some-slot_of.ensures.number in
    c.is_under.ensures ∙ sym (under_there c.args.self.now f c.in-Some-get.tree.now
    (sym c.in-Some-get.ensures) c.in-Some.upper _ c.in-Some-slot_of.lower _ c.in-Some.ensures.number directory)
    ∙ under_by_names (inodes_at c.args.self.now f) c.requires.named (numbers_seen entry) (numbers_counted entry) _ _

pub returns-in_default : goal.returns-in_default
returns-in_default c =
    let nowhere = c.slot_of.ensures.nowhere c.in_default.is in
    c.is_same.ensures ∙ sym (over_none c.args.self.now c.args.top.filesystem.count (number_of c.args.top) nowhere
    (number_of c.args.directory))

pub returns-in_default-slot_of : goal.returns-in_default-slot_of
returns-in_default-slot_of c =
    let nowhere = subst (λ (id : FilesystemId). (inodes_at c.args.self.now id.count).inode
    (number_of c.args.directory) ≡ None)
    c.requires.one_filesystem (c.slot_of-2.ensures.nowhere c.in_default-slot_of.is) in
    c.is_same-in_default-slot_of.ensures
    ∙ sym (under_none c.args.self.now c.args.top.filesystem.count (number_of c.args.directory) nowhere
    (number_of c.args.top))
