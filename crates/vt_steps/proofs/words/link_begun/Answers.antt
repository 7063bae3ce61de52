use Rattle.std.proofs.Common.{Err, ap, nat_eq, sym, ◌∙◌}
use Rattle.std.proofs.lemmas.Bool.{ne_eqb}
use Rattle.vt_spec.proofs.Common.{follow_rules, symlink_start}
use Rattle.vt_location.specs.Locations.{location_of}
use Rattle.vt_tasks.specs.TaskValue.{task_of}
use Rattle.vt_steps.specs.StepsValue.{here_of}
use Rattle.vt_steps.proofs.Endings.{ends-refused, walk_unless-refused}
use Rattle.vt_steps.proofs.words.link_begun.Goals as goal

pub returns-then-is_nosymfollow : goal.returns-then-is_nosymfollow
returns-then-is_nosymfollow g c =
    let looks = g.L.Look.looks c.args.walker.now.world.now in
    let task = task_of c.args.walker.now.who.now in
    let symlink = here_of c.args.symlink in
    ends-refused here_of _ c.denial.result c.args.symlink.steps c.refused.result c.refused.ensures
    (walk_unless-refused (follow_rules nat_eq looks symlink c.args.text.now)
    (symlink_start nat_eq looks task (location_of c.args.directory) symlink c.args.text.now)
    symlink.steps c.denial.result
    (rw (sym c.is_nosymfollow.ensures ∙ c.if-is_nosymfollow.true) (ap (λ deny. Err deny) (sym c.denial.ensures))))

pub returns-then-symlink-eq0 : goal.returns-then-symlink-eq0
returns-then-symlink-eq0 g c =
    let looks = g.L.Look.looks c.args.walker.now.world.now in
    let task = task_of c.args.walker.now.who.now in
    let symlink = here_of c.args.symlink in
    ends-refused here_of _ c.denial-then-symlink-eq0.result c.args.symlink.steps c.refused-then-symlink-eq0.result
    c.refused-then-symlink-eq0.ensures
    (walk_unless-refused (follow_rules nat_eq looks symlink c.args.text.now)
    (symlink_start nat_eq looks task (location_of c.args.directory) symlink c.args.text.now)
    symlink.steps c.denial-then-symlink-eq0.result
    (rw (sym c.is_nosymfollow.ensures ∙ c.if-is_nosymfollow.false, c.if-symlink-eq0.true)
    (ap (λ deny. Err deny) (sym c.denial-then-symlink-eq0.ensures))))

pub returns-then-has_long_word : goal.returns-then-has_long_word
returns-then-has_long_word g c =
    let looks = g.L.Look.looks c.args.walker.now.world.now in
    let task = task_of c.args.walker.now.who.now in
    let symlink = here_of c.args.symlink in
    ends-refused here_of _ c.denial-then-has_long_word.result c.args.symlink.steps c.refused-then-has_long_word.result
    c.refused-then-has_long_word.ensures
    (walk_unless-refused (follow_rules nat_eq looks symlink c.args.text.now)
    (symlink_start nat_eq looks task (location_of c.args.directory) symlink c.args.text.now)
    symlink.steps c.denial-then-has_long_word.result
    (rw (
      sym c.is_nosymfollow.ensures ∙ c.if-is_nosymfollow.false,
      ne_eqb c.args.symlink.left 0 c.if-symlink-eq0.false,
      sym c.has_long_word.ensures ∙ c.if-has_long_word.true,
    ) (ap (λ deny. Err deny) (sym c.denial-then-has_long_word.ensures))))
