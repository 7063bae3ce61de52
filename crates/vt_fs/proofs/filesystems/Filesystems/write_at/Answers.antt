use Rattle.std.proofs.Common.{ap, refl, subst, sym, ◌∙◌, ◌+◌, ◌<◌, length, List, Bool, ℕ, IsTrue}
use Rattle.vt_spec.proofs.Common.{SetBytes, bytes_in, is_kind_in, on_err_weaker, on_ok_weaker, option_copied_mut, overwritten}
use Rattle.vt_spec.specs.declared.attributes.Kind.TheVariants.{File}
use Rattle.vt_fs.specs.Trees.TreeValue.{tree_of}
use Rattle.vt_location.specs.Locations.{number_of}
use Rattle.vt_fs.proofs.Standing.{changes, directory_there, kept, nothing_changes, plain_there, standing_of}
use Rattle.vt_fs.proofs.Nowhere.{bytes_none, no_inode_there, unchanged}
use Rattle.vt_fs.proofs.filesystems.Filesystems.write_at.Goals as goal

pub write_at-requires-clause-file : goal.write_at-requires-clause-file
write_at-requires-clause-file c =
    let f = c.args.file.filesystem.count in
    let standing = standing_of c.args.self.now f c.get_mut.result c.in-Some.tree c.get_mut.ensures.value
    c.get_mut.ensures.apart c.in-Some.is in
    sym (directory_there c.args.self.now f c.in-Some.tree.now standing.found c.in-Some-slot_in.slot _
    c.in-Some-slot_in.ensures.number)
    ∙ c.requires.file

pub returns-in-Some-slot_in-clause-ok : goal.returns-in-Some-slot_in-clause-ok
returns-in-Some-slot_in-clause-ok c =
    let f = c.args.file.filesystem.count in
    let standing = standing_of c.args.self.now f c.get_mut.result c.in-Some.tree c.get_mut.ensures.value
    c.get_mut.ensures.apart c.in-Some.is in
    let bytes = plain_there c.args.self.now f c.in-Some.tree.now standing.found (List ℕ)
    (λ A node. bytes_in node) c.in-Some-slot_in.slot _ c.in-Some-slot_in.ensures.number in
    on_ok_weaker c.write_at.result (changes c.args.self.now f c.write_at.new.self c.in-Some.tree.now standing
    (SetBytes c.in-Some-slot_in.slot (overwritten c.args.offset c.args.bytes.now
    (bytes_in ((tree_of c.in-Some.tree.now).node c.in-Some-slot_in.slot)))) _
    (λ i. SetBytes (c.in-Some-slot_in.ensures.number i) (overwritten c.args.offset c.args.bytes.now (sym bytes i))))
    c.write_at.ensures.ok

pub returns-in-Some-slot_in-clause-file : goal.returns-in-Some-slot_in-clause-file
returns-in-Some-slot_in-clause-file c =
    let f = c.args.file.filesystem.count in
    let standing = standing_of c.args.self.now f c.get_mut.result c.in-Some.tree c.get_mut.ensures.value
    c.get_mut.ensures.apart c.in-Some.is in
    on_err_weaker c.write_at.result (subst (λ (is : Bool). IsTrue is)
    (sym (plain_there c.args.self.now f c.in-Some.tree.now standing.found Bool
    (λ A node. is_kind_in File node) c.in-Some-slot_in.slot _ c.in-Some-slot_in.ensures.number)))
    c.write_at.ensures.file

pub returns-in-Some-slot_in-clause-longer : goal.returns-in-Some-slot_in-clause-longer
returns-in-Some-slot_in-clause-longer c =
    let f = c.args.file.filesystem.count in
    let standing = standing_of c.args.self.now f c.get_mut.result c.in-Some.tree c.get_mut.ensures.value
    c.get_mut.ensures.apart c.in-Some.is in
    on_err_weaker c.write_at.result (subst (λ (bytes : List ℕ). length bytes < c.args.offset + length c.args.bytes.now)
    (sym (plain_there c.args.self.now f c.in-Some.tree.now standing.found (List ℕ)
    (λ A node. bytes_in node) c.in-Some-slot_in.slot _ c.in-Some-slot_in.ensures.number))) c.write_at.ensures.longer

pub returns-in-Some-slot_in-clause-err : goal.returns-in-Some-slot_in-clause-err
returns-in-Some-slot_in-clause-err c =
    let f = c.args.file.filesystem.count in
    let standing = standing_of c.args.self.now f c.get_mut.result c.in-Some.tree c.get_mut.ensures.value
    c.get_mut.ensures.apart c.in-Some.is in
    on_err_weaker c.write_at.result
    (kept c.args.self.now f c.write_at.new.self c.in-Some.tree.now standing) c.write_at.ensures.err

pub returns-in_default-clause-ok : goal.returns-in_default-clause-ok
returns-in_default-clause-ok c = nothing_changes c.args.file.filesystem.count _ c.args.self.now _ refl
    (sym c.get_mut.ensures.value ∙ ap option_copied_mut c.in_default.is)

pub returns-in-None-clause-ok : goal.returns-in-None-clause-ok
returns-in-None-clause-ok c =
    let f = c.args.file.filesystem.count in
    let standing = standing_of c.args.self.now f c.get_mut.result c.in-Some.tree c.get_mut.ensures.value
    c.get_mut.ensures.apart c.in-Some.is in
    let none = no_inode_there c.args.self.now f c.in-Some.tree.now standing.found (number_of c.args.file)
    (c.slot_in.ensures.nowhere c.in-None.is) in
    unchanged c.args.self.now f c.in-Some.tree.now standing _ (bytes_none _ _ none _)
