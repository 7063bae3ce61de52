use Rattle.std.proofs.Common.{ap, arith, le-leb, nat_le, option_copied, sym, ◌&&◌, ◌∙◌}
use Rattle.vt_spec.proofs.Common.{common_steps, uses_in}
use Rattle.vt_location.specs.Locations.{number_of}
use Rattle.vt_fs.specs.FilesystemsValue.{inodes_seen}
use Rattle.vt_fs.proofs.RootLemmas.{mounts_there, none_there, root_uses_there}
use Rattle.vt_fs.proofs.Standing.{entry_nowhere}
use Rattle.vt_fs.proofs.filesystems.Filesystems.root_has_room.Goals as goal

pub returns-in_default : goal.returns-in_default
returns-in_default c =
    let f = c.args.root.filesystem.count in
    let number = number_of c.args.root in
    let most = c.args.most in
    sym (ap (λ entry. nat_le (uses_in ((inodes_seen entry).inode number)) most && nat_le entry.mounts most)
    (entry_nowhere c.args.self.now f (none_there f number c.self.inside.by_number.entries c.args.self.now
    c.self.view_is (sym c.found_under.ensures ∙ ap option_copied c.in_default.is)))
    ∙ (λ i. le-leb 0 most (omega arith) i && le-leb 0 most (omega arith) i))

pub returns-then-uses_of-most : goal.returns-then-uses_of-most
returns-then-uses_of-most c =
    let f = c.args.root.filesystem.count in
    let number = number_of c.args.root in
    let es = c.self.inside.by_number.entries in
    let there = sym c.found_under.ensures ∙ ap option_copied c.in-Some.is in
    let mounts = mounts_there f number es c.args.self.now c.self.view_is c.in-Some.found.now there in
    let uses = root_uses_there f number es c.args.self.now c.self.view_is c.in-Some.found.now there
    ∙ sym c.uses_of.ensures in
    sym (λ i. (ap (λ n. nat_le n c.args.most) uses ∙ le-leb _ _ c.if-uses_of-most.true) i
    && nat_le (mounts i) c.args.most)

pub returns-else-uses_of-most : goal.returns-else-uses_of-most
returns-else-uses_of-most c =
    let f = c.args.root.filesystem.count in
    let number = number_of c.args.root in
    let es = c.self.inside.by_number.entries in
    let there = sym c.found_under.ensures ∙ ap option_copied c.in-Some.is in
    let uses = root_uses_there f number es c.args.self.now c.self.view_is c.in-Some.found.now there
    ∙ sym c.uses_of.ensures in
    grind (arith, common_steps, uses, c.if-uses_of-most.false)
