use Rattle.std.proofs.Common.{Err, ap, nat_eq, sym, ◌∙◌}
use Rattle.vt_spec.proofs.Common.{slash_rules}
use Rattle.vt_location.specs.Locations.{location_of}
use Rattle.vt_steps.specs.StepsValue.{here_of, steps_of}
use Rattle.vt_steps.proofs.Endings.{ends-refused, walk_unless-refused}
use Rattle.vt_steps.proofs.words.asked_by_slash.Goals as goal

pub returns-then-not-is_directory_at : goal.returns-then-not-is_directory_at
returns-then-not-is_directory_at g c =
    ends-refused here_of _ c.denial.result c.args.here.steps c.refused.result c.refused.ensures
    (walk_unless-refused (slash_rules nat_eq (g.L.Look.looks c.args.world.now) c.args.text.now
    (location_of c.args.here.location)) (here_of c.args.here) (steps_of c.args.here.steps) c.denial.result
    (rw (
      sym c.ends_in_slash.ensures ∙ c.if-ends_in_slash.true,
      sym c.is_directory_at.ensures ∙ c.if-not-is_directory_at.true,
    ) (ap (λ deny. Err deny) (sym c.denial.ensures))))
