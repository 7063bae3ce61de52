use Rattle.std.proofs.Common.{ap, refl, sym, ◌∙◌}
use Rattle.vt_spec.proofs.Common.{SetBytes, option_copied_mut}
use Rattle.vt_location.specs.Locations.{number_of}
use Rattle.vt_fs.proofs.Standing.{changes, directory_there, nothing_changes, standing_of}
use Rattle.vt_fs.proofs.Nowhere.{bytes_none, no_inode_there, unchanged}
use Rattle.vt_fs.proofs.filesystems.Filesystems.write.Goals as goal

pub write-requires-clause-file : goal.write-requires-clause-file
write-requires-clause-file c =
    let f = c.args.file.filesystem.count in
    let standing = standing_of c.args.self.now f c.get_mut.result c.in-Some.tree c.get_mut.ensures.value
    c.get_mut.ensures.apart c.in-Some.is in
    sym (directory_there c.args.self.now f c.in-Some.tree.now standing.found c.in-Some-slot_in.slot _
    c.in-Some-slot_in.ensures.number)
    ∙ c.requires.file

pub returns-in-Some-slot_in : goal.returns-in-Some-slot_in
returns-in-Some-slot_in c =
    let f = c.args.file.filesystem.count in
    let standing = standing_of c.args.self.now f c.get_mut.result c.in-Some.tree c.get_mut.ensures.value
    c.get_mut.ensures.apart c.in-Some.is in
    changes c.args.self.now f c.write.new.self c.in-Some.tree.now standing
    (SetBytes c.in-Some-slot_in.slot c.args.bytes.items) _
    (λ i. SetBytes (c.in-Some-slot_in.ensures.number i) c.args.bytes.items)
    c.write.ensures

pub returns-in_default : goal.returns-in_default
returns-in_default c = nothing_changes c.args.file.filesystem.count _ c.args.self.now _ refl
    (sym c.get_mut.ensures.value ∙ ap option_copied_mut c.in_default.is)

pub returns-in_default-slot_in : goal.returns-in_default-slot_in
returns-in_default-slot_in c =
    let f = c.args.file.filesystem.count in
    let standing = standing_of c.args.self.now f c.get_mut.result c.in-Some.tree c.get_mut.ensures.value
    c.get_mut.ensures.apart c.in-Some.is in
    let none = no_inode_there c.args.self.now f c.in-Some.tree.now standing.found (number_of c.args.file)
    (c.slot_in.ensures.nowhere c.in_default-slot_in.is) in
    unchanged c.args.self.now f c.in-Some.tree.now standing _ (bytes_none _ _ none _)
