use Rattle.std.proofs.Common.{ap, IfOk, is_some, rules, slice_get, subst, sym, true≢false, ◌≡◌, ◌∙◌, ◌++◌, ◌∷◌, []}
use Rattle.vt_location.proofs.NodeLemmas.{small_parts}
use Rattle.vt_copyup.specs.Planned.{AreBirthsOf, IsPlanOf}
use Rattle.vt_upper.specs.Copies.AreCopiesOf.{is_above}
use Rattle.vt_upper_overlay.proofs.Shown.{looked_by}
use Rattle.vt_upper.proofs.BornBelow.{real_there}
use Rattle.vt_upper.proofs.PlansOf.{below_ok, births_of, filesystem_ok, nothing_ready}
use Rattle.vt_upper.proofs.copying.plan_copies.Goals as goal
use Rattle.vt_upper.proofs.copying.plan_copies.Goals.{After-plan}

-- the plan is that of the path where the node was born
planned : (c : After-plan) → (upper : _) (lowers : _) → c.args.overlay.now.layers.lowers ≡ upper ∷ lowers
    → IfOk c.plan.result (IsPlanOf c.args.object.with_bytes c.args.trees.now upper lowers c.args.overlay.now.layers.number
    (c.in-Some-born_at.place.way ++ c.in-Some-born_at.place.name.now ∷ []))
planned c upper lowers is =
    subst (λ path. IfOk c.plan.result (IsPlanOf c.args.object.with_bytes c.args.trees.now upper lowers
    c.args.overlay.now.layers.number path)) c.under-path.ensures
    (subst (λ number. IfOk c.plan.result (IsPlanOf c.args.object.with_bytes c.args.trees.now upper lowers number
    c.under-path.result)) c.requires.own (c.plan.ensures.planned upper lowers (c.layers.ensures ∙ is)))

pub unreachable-requires : goal.unreachable-requires
unreachable-requires c =
    let trees = c.args.trees.now in
    let overlay = c.args.overlay.now in
    let object = c.args.object.node in
    let small = c.real.ensures.small in
    true≢false (sym (real_there trees overlay (looked_by trees overlay object c.requires.standing small c.requires.own)
    object (small_parts object small) c.requires.shown) ∙ ap is_some (sym c.real.ensures.value ∙ c.in_default.is))

pub returns-then-real-eq0-clause-copies : goal.returns-then-real-eq0-clause-copies
returns-then-real-eq0-clause-copies c =
    let zero : c.in-Some.real.layer ≡ 0 = search rules in
    is_above c.nothing.result c.in-Some.real (sym c.real.ensures.value ∙ c.in-Some.is) zero c.nothing.ensures.object
    c.nothing.ensures.nothing

pub returns-then-real-eq0-clause-ready : goal.returns-then-real-eq0-clause-ready
returns-then-real-eq0-clause-ready c = λ inodes more there few_inodes few_births.
    let zero : c.in-Some.real.layer ≡ 0 = search rules in
    nothing_ready c.args.trees.now c.args.overlay.now c.requires.standing c.args.object.node c.in-Some.real
    (sym c.real.ensures.value ∙ c.in-Some.is) zero c.nothing.result c.nothing.ensures.object c.nothing.ensures.nothing
    there inodes more c.args.room.now

pub plan-requires-clause-layers : goal.plan-requires-clause-layers
plan-requires-clause-layers c = λ place layer e.
    c.requires.standing.layers place layer (ap (λ l. slice_get l place) (sym c.layers.ensures) ∙ e)

pub returns-clause-copies : goal.returns-clause-copies
returns-clause-copies c =
    below_ok c.args.trees.now c.args.overlay.now c.requires.standing c.args.object.with_bytes c.args.object.node
    (c.in-Some-born_at.place.way ++ c.in-Some-born_at.place.name.now ∷ []) c.in-Some-born_at.ensures.node c.plan.result
    (planned (goal.at.returns-clause-copies c).After-plan)

pub returns-clause-filesystem : goal.returns-clause-filesystem
returns-clause-filesystem c =
    filesystem_ok c.args.trees.now c.args.overlay.now c.requires.standing c.args.object.with_bytes c.args.object.node
    (c.in-Some-born_at.place.way ++ c.in-Some-born_at.place.name.now ∷ []) c.in-Some-born_at.ensures.node c.plan.result
    (planned (goal.at.returns-clause-filesystem c).After-plan)

pub returns-clause-ready : goal.returns-clause-ready
returns-clause-ready c = λ inodes more there.
    c.plan.ensures.ready c.args.overlay.now.nodes.births inodes more
    (subst (λ number. AreBirthsOf c.args.trees.now c.layers.result.now number c.args.overlay.now.nodes.births)
    (sym c.requires.own) (subst (λ layers. AreBirthsOf c.args.trees.now layers c.args.overlay.now.layers.number
    c.args.overlay.now.nodes.births) (sym c.layers.ensures)
    (births_of c.args.trees.now c.args.overlay.now c.requires.standing there)))
