use Rattle.std.proofs.Common.{ap, refl, sym, ◌∙◌}
use Rattle.vt_spec.proofs.Common.{SetAttr, option_copied_mut}
use Rattle.vt_location.specs.Locations.{number_of}
use Rattle.vt_fs.proofs.Standing.{changes, nothing_changes, standing_of}
use Rattle.vt_fs.proofs.Nowhere.{attr_none, no_inode_there, unchanged}
use Rattle.vt_fs.proofs.filesystems.Filesystems.set_attr.Goals as goal

pub returns-in-Some-slot_in : goal.returns-in-Some-slot_in
returns-in-Some-slot_in c =
    let f = c.args.object.filesystem.count in
    let standing = standing_of c.args.self.now f c.get_mut.result c.in-Some.tree c.get_mut.ensures.value
    c.get_mut.ensures.apart c.in-Some.is in
    changes c.args.self.now f c.set_attr.new.self c.in-Some.tree.now standing
    (SetAttr c.in-Some-slot_in.slot c.args.attr) _ (ap (λ n. SetAttr n c.args.attr) c.in-Some-slot_in.ensures.number)
    c.set_attr.ensures

pub returns-in_default : goal.returns-in_default
returns-in_default c = nothing_changes c.args.object.filesystem.count _ c.args.self.now _ refl
    (sym c.get_mut.ensures.value ∙ ap option_copied_mut c.in_default.is)

pub returns-in_default-slot_in : goal.returns-in_default-slot_in
returns-in_default-slot_in c =
    let f = c.args.object.filesystem.count in
    let standing = standing_of c.args.self.now f c.get_mut.result c.in-Some.tree c.get_mut.ensures.value
    c.get_mut.ensures.apart c.in-Some.is in
    let none = no_inode_there c.args.self.now f c.in-Some.tree.now standing.found (number_of c.args.object)
    (c.slot_in.ensures.nowhere c.in_default-slot_in.is) in
    unchanged c.args.self.now f c.in-Some.tree.now standing _ (attr_none _ _ none _)
