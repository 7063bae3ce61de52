use Rattle.std.proofs.Common.{[], ◌∷◌, ◌++◌, ◌||◌, Ok, ap, length, nat_eq, nat_lt, option_map, refl, sym, ℕ, ◌∙◌}
use Rattle.vt_spec.proofs.Common.{Location, Place, by_option, file_mode, file_walk, file_word_rules, judging, largest_file, make_rules, new_file, rewrite_rules, unless, unnumbered, walk_end}
use Rattle.vt_spec.specs.declared.errors.Rule.TheVariants.{E2, E6}
use Rattle.vt_location.specs.Locations.{location_of}
use Rattle.vt_tasks.specs.TaskValue.{task_of}
use Rattle.vt_walk.specs.WalkValue.{place_of}
use Rattle.vt_later.specs.Passing.{lets_pass, without}
use Rattle.vt_later.specs.Past.{table_past}
use Rattle.vt_later.proofs.Rows.{appended}
use Rattle.vt_later.proofs.Walked.{arrived}
use Rattle.vt_later.proofs.making.write.Goals as goal

pub returns-in-Some : goal.returns-in-Some
unfolding judging
returns-in-Some g c asked =
    let looks = g.L.Look.looks c.args.world.now in
    let passed = c.args.passed.now in
    let task = task_of c.args.who.now in
    let place = place_of c.in_ok-place.place in
    let bytes = c.args.bytes.now in
    let file = location_of c.in-Some.file in
    let there = λ (at : Place ℕ). λ (file : Location ℕ). table_past passed (file_word_rules at ++ rewrite_rules looks task file bytes) in
    let missing = λ (at : Place ℕ). table_past passed (file_word_rules at ++ ((nat_lt largest_file (length bytes), E6)
    ∷ make_rules looks task at (unnumbered at (new_file task file_mode bytes)))) in
    c.unless.ensures
    ∙ ap (λ answer. unless (without (lets_pass passed) ((c.is_special.result || place.slash, E2) ∷ [])) answer)
    (c.rewritten.ensures asked)
    ∙ sym (appended (lets_pass passed) ((c.is_special.result || place.slash, E2) ∷ []) (rewrite_rules looks task file bytes) (Ok tt))
    ∙ (λ i. table_past passed ((c.is_special.ensures i || place.slash, E2) ∷ rewrite_rules looks task file bytes))
    ∙ ap (λ object. by_option (there place) (missing place) (option_map location_of object)) (sym c.in-Some.is)
    ∙ sym (arrived (walk_end (file_walk nat_eq looks task c.args.path.now)) c.in_ok-place.place
    (λ at. by_option (there at) (missing at) at.object) (λ seen. refl) c.in_ok-place.ensures.ok)

pub returns-in-None : goal.returns-in-None
unfolding judging
returns-in-None g c asked =
    let looks = g.L.Look.looks c.args.world.now in
    let passed = c.args.passed.now in
    let task = task_of c.args.who.now in
    let place = place_of c.in_ok-place.place in
    let bytes = c.args.bytes.now in
    let there = λ (at : Place ℕ). λ (file : Location ℕ). table_past passed (file_word_rules at ++ rewrite_rules looks task file bytes) in
    let missing = λ (at : Place ℕ). table_past passed (file_word_rules at ++ ((nat_lt largest_file (length bytes), E6)
    ∷ make_rules looks task at (unnumbered at (new_file task file_mode bytes)))) in
    c.made.ensures asked (new_file task file_mode bytes)
    ∙ (λ i. table_past passed ((c.is_special.ensures i || place.slash, E2) ∷ (c.is_too_large.ensures i, E6)
    ∷ make_rules looks task place (unnumbered place (new_file task file_mode bytes))))
    ∙ ap (λ object. by_option (there place) (missing place) (option_map location_of object)) (sym c.in-None.is)
    ∙ sym (arrived (walk_end (file_walk nat_eq looks task c.args.path.now)) c.in_ok-place.place
    (λ at. by_option (there at) (missing at) at.object) (λ seen. refl) c.in_ok-place.ensures.ok)
