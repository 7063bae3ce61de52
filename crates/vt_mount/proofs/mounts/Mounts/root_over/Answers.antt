use Rattle.std.proofs.Common.{None, Some, ap, option_map, sym, ◌∙◌, option_copied}
use Rattle.vt_spec.proofs.Common.{root_of}
use Rattle.vt_location.specs.Locations.{location_of}
use Rattle.vt_location.specs.Numbers.{counted}
use Rattle.vt_mount.proofs.EntryLemmas.{mount-found}
use Rattle.vt_mount.proofs.PointLemmas.{child-found}
use Rattle.vt_mount.proofs.mounts.Mounts.root_over.Goals as goal

pub returns-in_err-kept-clause-root : goal.returns-in_err-kept-clause-root
returns-in_err-kept-clause-root c = ap (option_map location_of) c.from_residual-in_err-kept.ensures ∙ ap (option_map root_of)
    (child-found (location_of c.args.place) c.self.inside.by_number.entries _ c.in_ok-child.child None c.self.view_is
    (ap (option_map (λ id. counted id.count)) (sym c.in_ok-child.was) ∙ c.child_at.ensures.child)
    (sym c.kept_under.ensures ∙ ap option_copied c.in_err-kept.was))

pub returns-clause-root : goal.returns-clause-root
returns-clause-root c = ap (option_map root_of)
    (child-found (location_of c.args.place) c.self.inside.by_number.entries _ c.in_ok-child.child
    (Some c.in_ok-kept.kept.now) c.self.view_is
    (ap (option_map (λ id. counted id.count)) (sym c.in_ok-child.was) ∙ c.child_at.ensures.child)
    (sym c.kept_under.ensures ∙ ap option_copied c.in_ok-kept.was))

pub returns-clause-shown : goal.returns-clause-shown
returns-clause-shown c = ap (option_map (λ mount. mount.filesystem)) (sym (mount-found c.in_ok-child.child
    c.self.inside.by_number.entries _ (Some c.in_ok-kept.kept.now) c.self.view_is
    (sym c.kept_under.ensures ∙ ap option_copied c.in_ok-kept.was)))
