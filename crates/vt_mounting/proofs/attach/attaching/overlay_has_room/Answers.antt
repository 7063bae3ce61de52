use Rattle.std.proofs.Common.{ap, arith, is_some, rules, sym, ◌≡◌, ◌∙◌, nat_le, le-leb}
use Rattle.vt_mounting.proofs.Common.{some_copied}
use Rattle.vt_mounting.proofs.attach.OverlayCounts.{mounts_are_merged, none_merged, overlay_there}
use Rattle.vt_mounting.proofs.attach.attaching.overlay_has_room.Goals as goal

pub returns-then-is_some : goal.returns-then-is_some
returns-then-is_some c =
    let count = c.args.mount.root.filesystem.count in
    let is : c.is_some.result ≡ is_some c.overlay.result = search rules in
    ap (λ n. nat_le n c.args.most) (c.mounts.ensures ∙ mounts_are_merged c.args.store.now count
    (sym (overlay_there c.args.store.now count _ c.overlay.ensures.value) ∙ sym (some_copied c.overlay.result) ∙ sym is
    ∙ c.if-is_some.true))

pub returns-else-is_some : goal.returns-else-is_some
returns-else-is_some c =
    let count = c.args.mount.root.filesystem.count in
    let is : c.is_some.result ≡ is_some c.overlay.result = search rules in
    sym (ap (λ n. nat_le n c.args.most) (none_merged c.args.store.now count
    (sym (overlay_there c.args.store.now count _ c.overlay.ensures.value) ∙ sym (some_copied c.overlay.result) ∙ sym is
    ∙ c.if-is_some.false)) ∙ le-leb 0 c.args.most (omega arith))
