use Rattle.std.proofs.Common.{ap, cond, eq-eqb, ne_eqb, sym, ◌∙◌}
use Rattle.vt_spec.proofs.Common.{option_copied_mut}
use Rattle.vt_location.specs.Locations.{number_of}
use Rattle.vt_fs.specs.FilesystemsValue.{held, without}
use Rattle.vt_fs.proofs.RootLemmas.{leaves_none, leaves_root, none_there}
use Rattle.vt_fs.proofs.filesystems.Filesystems.leave_root.Goals as goal

pub returns-in_default : goal.returns-in_default
returns-in_default c = leaves_none c.args.root.filesystem.count (number_of c.args.root) c.args.self.now _
    (ap (λ map. held map.entries) c.get_mut.follows.holds-at-none ∙ c.self.view_is)
    (none_there c.args.root.filesystem.count (number_of c.args.root) c.self.inside.by_number.entries c.args.self.now
    c.self.view_is (sym c.get_mut.ensures.value ∙ ap option_copied_mut c.in_default.is))

pub returns-then-found-eq0 : goal.returns-then-found-eq0
returns-then-found-eq0 c =
    let f = c.args.root.filesystem.count in
    let left = c.get_mut.follows.lender c.leave_root.new.self in
    leaves_root f (number_of c.args.root) c.self.inside.by_number left c.args.self.now c.in-Some.found.now
    c.leave_root.new.self c.self.view_is (sym c.get_mut.ensures.value ∙ ap option_copied_mut c.in-Some.is)
    (c.get_mut.follows.holds _) c.leave_root.ensures.tree c.leave_root.ensures.mounts _
    (c.remove.ensures ∙ sym (ap (λ b. cond b (without f (held left.entries)) (held left.entries))
    (eq-eqb c.leave_root.new.self.mounts 0 c.if-found-eq0.true)))

pub returns-else-found-eq0 : goal.returns-else-found-eq0
returns-else-found-eq0 c =
    let f = c.args.root.filesystem.count in
    let left = c.get_mut.follows.lender c.leave_root.new.self in
    leaves_root f (number_of c.args.root) c.self.inside.by_number left c.args.self.now c.in-Some.found.now
    c.leave_root.new.self c.self.view_is (sym c.get_mut.ensures.value ∙ ap option_copied_mut c.in-Some.is)
    (c.get_mut.follows.holds _) c.leave_root.ensures.tree c.leave_root.ensures.mounts _
    (sym (ap (λ b. cond b (without f (held left.entries)) (held left.entries))
    (ne_eqb c.leave_root.new.self.mounts 0 c.if-found-eq0.false)))
