use Rattle.std.proofs.Common.{ap, arith, true≢false, refl, subst, sym, ◌∙◌, ◌↔◌, ◌≡◌, IsErr, ℕ}
use Rattle.vt_spec.proofs.Common.{on_err_weaker, on_ok_weaker, option_copied_mut, uses_in}
use Rattle.vt_location.specs.Numbers.{most_counted}
use Rattle.vt_location.specs.Locations.{number_of}
use Rattle.vt_fs.proofs.Standing.{kept, nothing_changes, pins, standing_of, uses_there}
use Rattle.vt_fs.proofs.Nowhere.{no_inode_there, pinned_none, unchanged}
use Rattle.vt_fs.proofs.filesystems.Filesystems.pin.Goals as goal

pub returns-in-Some-slot_in-clause-ok : goal.returns-in-Some-slot_in-clause-ok
returns-in-Some-slot_in-clause-ok c =
    let f = c.args.object.filesystem.count in
    let standing = standing_of c.args.self.now f c.get_mut.result c.in-Some.tree c.get_mut.ensures.value
    c.get_mut.ensures.apart c.in-Some.is in
    on_ok_weaker c.pin.result
    (pins c.args.self.now f c.pin.new.self c.in-Some.tree.now standing c.in-Some-slot_in.slot _
    c.in-Some-slot_in.ensures.number) c.pin.ensures.ok

pub returns-in-Some-slot_in-clause-limit : goal.returns-in-Some-slot_in-clause-limit
returns-in-Some-slot_in-clause-limit c =
    let f = c.args.object.filesystem.count in
    let standing = standing_of c.args.self.now f c.get_mut.result c.in-Some.tree c.get_mut.ensures.value
    c.get_mut.ensures.apart c.in-Some.is in
    subst (λ (uses : ℕ). IsErr c.pin.result ↔ (uses ≡ most_counted))
    (sym (uses_there c.args.self.now f c.in-Some.tree.now standing.found c.in-Some-slot_in.slot _
    c.in-Some-slot_in.ensures.number)) c.pin.ensures.limit

pub returns-in-Some-slot_in-clause-err : goal.returns-in-Some-slot_in-clause-err
returns-in-Some-slot_in-clause-err c =
    let f = c.args.object.filesystem.count in
    let standing = standing_of c.args.self.now f c.get_mut.result c.in-Some.tree c.get_mut.ensures.value
    c.get_mut.ensures.apart c.in-Some.is in
    on_err_weaker c.pin.result (kept c.args.self.now f c.pin.new.self c.in-Some.tree.now standing) c.pin.ensures.err

pub returns-in_default-clause-ok : goal.returns-in_default-clause-ok
returns-in_default-clause-ok c = nothing_changes c.args.object.filesystem.count _ c.args.self.now _ refl
    (sym c.get_mut.ensures.value ∙ ap option_copied_mut c.in_default.is)

pub returns-in-None-clause-ok : goal.returns-in-None-clause-ok
returns-in-None-clause-ok c =
    let f = c.args.object.filesystem.count in
    let standing = standing_of c.args.self.now f c.get_mut.result c.in-Some.tree c.get_mut.ensures.value
    c.get_mut.ensures.apart c.in-Some.is in
    let none = no_inode_there c.args.self.now f c.in-Some.tree.now standing.found (number_of c.args.object)
    (c.slot_in.ensures.nowhere c.in-None.is) in
    unchanged c.args.self.now f c.in-Some.tree.now standing _ (pinned_none _ _ none)

pub returns-in-None-clause-limit : goal.returns-in-None-clause-limit
returns-in-None-clause-limit c =
    let f = c.args.object.filesystem.count in
    let standing = standing_of c.args.self.now f c.get_mut.result c.in-Some.tree c.get_mut.ensures.value
    c.get_mut.ensures.apart c.in-Some.is in
    let none = ap uses_in (no_inode_there c.args.self.now f c.in-Some.tree.now standing.found (number_of c.args.object)
    (c.slot_in.ensures.nowhere c.in-None.is)) in (
      λ failed. absurd (true≢false (sym failed)),
      λ full. absurd (let no : 0 ≡ most_counted = sym none ∙ full in omega (arith, no)),
    )
