use Rattle.std.proofs.Common.{[], ◌∷◌, ap, not, refl, sym, Ok, ◌∙◌, ◌≡◌}
use Rattle.vt_spec.proofs.Common.{make_rules, unless, unnumbered}
use Rattle.vt_spec.specs.declared.errors.Rule.TheVariants.{B1, C1, F1, F2, L1}
use Rattle.vt_tasks.specs.TaskValue.{task_of}
use Rattle.vt_walk.specs.WalkValue.{place_of}
use Rattle.vt_later.specs.Passing.{lets_pass, without}
use Rattle.vt_later.specs.Past.{table_past}
use Rattle.vt_later.proofs.Rows.{appended, mounter_asked}
use Rattle.vt_later.proofs.making.made.Goals as goal

pub returns : goal.returns
returns g c asked node =
    let looks = g.L.Look.looks c.args.world.now in
    let passed = c.args.passed.now in
    let task = task_of c.args.who.now in
    let place = place_of c.args.place.now in
    let change = unnumbered place node in
    let mounter = c.mounter_refusal-mounter in
    let rows = make_rules looks task place change in
    let behind : c.unless.result ≡ table_past passed rows = c.unless.ensures
    ∙ mounter_asked passed ((c.is_read_only.result, F1) ∷ [])
    ((c.is_locked.result, L1) ∷ (not c.may.result, C1) ∷ (not c.mounter_may.result, B1) ∷ [])
    (looks.mounter_rules place.parent change) c.has_no_upper.result mounter.result (asked place.parent change)
    (λ upper. mounter.ensures change refl (sym c.has_no_upper.ensures ∙ upper))
    ∙ (λ i. table_past passed ((c.is_read_only.ensures i, F1) ∷ (c.has_no_upper.ensures i, F2)
    ∷ (c.is_locked.ensures i, L1) ∷ (not (c.may.ensures i), C1) ∷ (not (c.mounter_may.ensures i), B1)
    ∷ looks.mounter_rules place.parent change)) in
    c.unless-2.ensures ∙ ap (λ answer. unless (without (lets_pass passed) c.args.words.now) answer) behind
    ∙ sym (appended (lets_pass passed) c.args.words.now rows (Ok tt))
