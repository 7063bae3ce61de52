use Rattle.std.proofs.Common.{ap, is_some, nat_le, sym, ◌&&◌, ◌∙◌}
use Rattle.vt_mounting.proofs.Common.{counted, number_of, shown, some_copied}
use Rattle.vt_mounting.specs.Attach.Room.{uses_shown}
use Rattle.vt_mounting.specs.Detach.Uses.{mounts_shown}
use Rattle.vt_mounting.proofs.attach.RoomLemmas.{uses_are_shown}
use Rattle.vt_mounting.proofs.detach.CountNoUses.{root_room}
use Rattle.vt_mounting.proofs.detach.Shown.{mounts_are_shown}
use Rattle.vt_mounting.proofs.attach.attaching.root_has_room.Goals as goal

pub returns-then-is_some-clause-room : goal.returns-then-is_some-clause-room
returns-then-is_some-clause-room c = ap (λ n. nat_le n c.args.most) c.uses.ensures
    ∙ root_room c.args.store.now c.requires c.args.root c.args.most
    (sym (ap is_some c.overlay.ensures.value) ∙ sym (some_copied c.overlay.result) ∙ sym c.is_some.ensures
    ∙ c.if-is_some.true)

pub returns-else-is_some-clause-room : goal.returns-else-is_some-clause-room
returns-else-is_some-clause-room c =
    let count = c.args.root.filesystem.count in
    let number = number_of c.args.root in
    let uses = uses_are_shown count number c.plain.result.now
    ∙ ap (λ all. uses_shown (counted count, number) (shown all)) c.plain.ensures in
    let mounts = mounts_are_shown count c.plain.result.now
    ∙ ap (λ all. mounts_shown (counted count) (shown all)) c.plain.ensures in
    c.root_has_room.ensures ∙ (λ i. nat_le (uses i) c.args.most && nat_le (mounts i) c.args.most)
