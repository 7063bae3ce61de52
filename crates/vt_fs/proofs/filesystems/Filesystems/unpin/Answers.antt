use Rattle.std.proofs.Common.{ap, refl, sym, ◌∙◌}
use Rattle.vt_spec.proofs.Common.{option_copied_mut}
use Rattle.vt_location.specs.Locations.{number_of}
use Rattle.vt_fs.proofs.Standing.{nothing_changes, standing_of, unpins}
use Rattle.vt_fs.proofs.Nowhere.{no_inode_there, unchanged, unpinned_none}
use Rattle.vt_fs.proofs.filesystems.Filesystems.unpin.Goals as goal

pub returns-in-Some-slot_in : goal.returns-in-Some-slot_in
returns-in-Some-slot_in c =
    let f = c.args.object.filesystem.count in
    let standing = standing_of c.args.self.now f c.get_mut.result c.in-Some.tree c.get_mut.ensures.value
    c.get_mut.ensures.apart c.in-Some.is in
    unpins c.args.self.now f c.unpin.new.self c.in-Some.tree.now standing c.in-Some-slot_in.slot _
    c.in-Some-slot_in.ensures.number c.unpin.ensures

pub returns-in_default : goal.returns-in_default
returns-in_default c = nothing_changes c.args.object.filesystem.count _ c.args.self.now _ refl
    (sym c.get_mut.ensures.value ∙ ap option_copied_mut c.in_default.is)

pub returns-in_default-slot_in : goal.returns-in_default-slot_in
returns-in_default-slot_in c =
    let f = c.args.object.filesystem.count in
    let standing = standing_of c.args.self.now f c.get_mut.result c.in-Some.tree c.get_mut.ensures.value
    c.get_mut.ensures.apart c.in-Some.is in
    let none = no_inode_there c.args.self.now f c.in-Some.tree.now standing.found (number_of c.args.object)
    (c.slot_in.ensures.nowhere c.in_default-slot_in.is) in
    unchanged c.args.self.now f c.in-Some.tree.now standing _ (unpinned_none _ _ none)
