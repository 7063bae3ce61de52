use Rattle.std.proofs.Common.{◌≢◌, [], rules}
use Rattle.vt_text.specs.Walkable.{IsTooLong}
use Rattle.vt_text.proofs.Limits.{IsTooLong-from_test, not_walkable}
use Rattle.vt_text.proofs.path.PathText.parse.Goals as goal

pub returns-then-is_too_long-clause-too_long : goal.returns-then-is_too_long-clause-too_long
returns-then-is_too_long-clause-too_long c =
    let some : c.args.text.now ≢ [] = search rules in
    let too_long : IsTooLong c.args.text.now = IsTooLong-from_test c.args.text.now (search rules) in
    (λ _. (some, too_long), λ _. search rules)

pub returns-then-is_too_long-clause-ok : goal.returns-then-is_too_long-clause-ok
returns-then-is_too_long-clause-ok c =
    let too_long : IsTooLong c.args.text.now = IsTooLong-from_test c.args.text.now (search rules) in
    (λ e. cc, λ walkable. absurd (not_walkable c.args.text.now too_long walkable))
