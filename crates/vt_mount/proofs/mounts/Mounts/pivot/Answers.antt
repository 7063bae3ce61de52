use Rattle.std.proofs.Common.{Some, ap, option_map, sym, ◌∙◌}
use Rattle.vt_location.specs.Locations.{location_of}
use Rattle.vt_location.specs.MountValue.{mount_of}
use Rattle.vt_location.specs.Numbers.{counted}
use Rattle.vt_mount.specs.Moving.{lifted_entry}
use Rattle.vt_mount.specs.MountsValue.{changed}
use Rattle.vt_mount.proofs.KeptLemmas.{on-ok}
use Rattle.vt_mount.proofs.PivotLemmas.{both_pivoted, pointed}
use Rattle.vt_mount.proofs.mounts.Mounts.pivot.Goals as goal

pub returns-in_default-clause-ok : goal.returns-in_default-clause-ok
returns-in_default-clause-ok c =
    let root = c.args.root.now in
    let new = c.args.new.now in
    let put = location_of c.args.put in
    c.lift.ensures ∙ ap (changed (counted new.number.count) lifted_entry) c.in_ok-move_to.ensures.ok
    ∙ ap (λ point. changed (counted new.number.count) (pointed (option_map location_of point))
    (changed (counted root.number.count) (pointed (Some put)) c.args.self.now)) (sym c.in_default.is)
    ∙ both_pivoted (mount_of root) (mount_of new) put c.args.self.now

pub returns-clause-ok : goal.returns-clause-ok
returns-clause-ok c =
    let root = c.args.root.now in
    let new = c.args.new.now in
    let put = location_of c.args.put in
    on-ok c.move_both.result c.move_both.ensures.ok (λ both. both
    ∙ ap (λ point. changed (counted new.number.count) (pointed (option_map location_of point))
    (changed (counted root.number.count) (pointed (Some put)) c.args.self.now)) (sym c.in-Some.is)
    ∙ both_pivoted (mount_of root) (mount_of new) put c.args.self.now)
