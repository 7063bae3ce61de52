use Rattle.std.proofs.Common.{Err, Ok, Some, ap, false, not, option_copied, rules, sym, [], ◌∙◌, ◌∷◌, ◌≡◌}
use Rattle.vt_spec.proofs.Common.{allows, is_kind, kind_of, unless}
use Rattle.vt_spec.specs.declared.attributes.Kind.TheVariants.{White}
use Rattle.vt_spec.specs.declared.errors.Rule.TheVariants.{B1}
use Rattle.vt_location.specs.Fronts.{front}
use Rattle.vt_location.specs.Locations.{location_of}
use Rattle.vt_tasks.specs.TaskValue.{task_of}
use Rattle.vt_policy.proofs.ReadLemmas.{left-to-mounter}
use Rattle.vt_policy.proofs.looking.may_read.Goals as goal

pub returns-then-not-mounter_may_on : goal.returns-then-not-mounter_may_on
returns-then-not-mounter_may_on g c =
    let looks = g.L.Look.looks c.args.world.now in
    let at = location_of c.args.file in
    let task = task_of c.args.who.now in
    let white : is_kind White (kind_of c.in-Some.object.now.content) ≡ false = search rules in
    ap (λ deny. Err deny) c.denial-then-not-mounter_may_on.ensures
    ∙ ap (λ may. unless {A = Unit {0}} ((not may, B1) ∷ []) (Ok tt))
    (sym c.if-not-mounter_may_on.true ∙ c.mounter_may_on.ensures)
    ∙ left-to-mounter looks task at (Some c.in-Some.object.now)
    (ap front (sym (ap option_copied c.in-Some.is) ∙ c.requires) ∙ g.met.L.Look.alike c.args.world.now at)
    (sym c.is_directory.ensures ∙ c.if-is_directory.false) white
    ((λ i. allows task.credentials (sym c.attr.ensures i) (sym c.kind-2.ensures i) 4) ∙ sym c.allows.ensures.value
    ∙ c.if-not-allows.false)

pub returns : goal.returns
returns g c =
    let looks = g.L.Look.looks c.args.world.now in
    let at = location_of c.args.file in
    let task = task_of c.args.who.now in
    let white : is_kind White (kind_of c.in-Some.object.now.content) ≡ false = search rules in
    ap (λ may. unless {A = Unit {0}} ((not may, B1) ∷ []) (Ok tt))
    (sym c.if-not-mounter_may_on.false ∙ c.mounter_may_on.ensures)
    ∙ left-to-mounter looks task at (Some c.in-Some.object.now)
    (ap front (sym (ap option_copied c.in-Some.is) ∙ c.requires) ∙ g.met.L.Look.alike c.args.world.now at)
    (sym c.is_directory.ensures ∙ c.if-is_directory.false) white
    ((λ i. allows task.credentials (sym c.attr.ensures i) (sym c.kind-2.ensures i) 4) ∙ sym c.allows.ensures.value
    ∙ c.if-not-allows.false)
