use Rattle.std.proofs.Common.{rules, ◌∙◌}
use Rattle.vt_mounting.proofs.detach.CountNoUses.{uses_are_plain}
use Rattle.vt_ns.proofs.forking.has_room.Goals as goal

pub returns-then-writers-lt18446744073709551615 : goal.returns-then-writers-lt18446744073709551615
returns-then-writers-lt18446744073709551615 c =
    let uses = c.uses-then-writers-lt18446744073709551615.ensures
    ∙ uses_are_plain c.args.store.now c.requires c.args.at.node in search rules
