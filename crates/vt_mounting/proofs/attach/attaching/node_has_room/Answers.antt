use Rattle.std.proofs.Common.{ap, ◌∙◌, nat_le}
use Rattle.vt_mounting.proofs.detach.CountNoUses.{uses_are_seen}
use Rattle.vt_mounting.proofs.attach.attaching.node_has_room.Goals as goal

pub returns-clause-room : goal.returns-clause-room
returns-clause-room c =
    ap (λ n. nat_le n c.args.most) (c.uses.ensures ∙ uses_are_seen c.args.store.now c.requires c.args.node)
