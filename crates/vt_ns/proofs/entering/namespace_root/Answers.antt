use Rattle.std.proofs.Common.{Some, ap, not, option_map, nat_eq, sym, ◌∙◌}
use Rattle.vt_spec.proofs.Common.{root_of, same_Some, topmost}
use Rattle.vt_ns.proofs.Common.{counted, mount_of, mounts_in}
use Rattle.vt_ns.proofs.entering.RootMounts.{listed_got, no_root_yet, none_is_some, root_found}
use Rattle.vt_ns.proofs.entering.namespace_root.Goals as goal
use Rattle.vt_ns.proofs.entering.namespace_root.Goals.{in-Some+else-is_none, in_default}

pub returns-then-is_none : goal.returns-then-is_none
returns-then-is_none c =
    let entries = c.args.mounts.now in
    let namespace = counted c.args.namespace.count in
    let at = c.loop-id.id-index in
    let from = listed_got entries namespace c.attached_in-id-items.result.now at _ c.get.result
    c.attached_in-id-items.ensures.order c.attached_in-id-items.ensures.are c.loop-id-test.true c.get.ensures in
    ap Some (c.topmost.ensures ∙ ap (topmost nat_eq (mounts_in entries)) c.root_location.ensures)
    ∙ sym (ap (option_map (λ mount. topmost nat_eq (mounts_in entries) (root_of mount)))
    (root_found entries namespace at from.0 c.in-Some.mount c.loop-id.invariant from.1
    (same_Some _ _ (sym (ap (option_map mount_of) c.in-Some.is) ∙ from.2))
    (c.is_none.ensures ∙ ap not c.if-is_none.true)))

pub loop-id-preserved : goal.loop-id-preserved
loop-id-preserved c =
    let entries = c.args.mounts.now in
    let namespace = counted c.args.namespace.count in
    let at = c.loop-id.id-index in
    let from = listed_got entries namespace c.attached_in-id-items.result.now at _ c.get.result
    c.attached_in-id-items.ensures.order c.attached_in-id-items.ensures.are c.loop-id-test.true c.get.ensures in
    elim c.match-get.branch [
      | in-Some+else-is_none w ↦ no_root_yet entries namespace at from.0 w.in-Some.mount c.loop-id.invariant from.1
          (same_Some _ _ (sym (ap (option_map mount_of) w.in-Some.is) ∙ from.2))
          (w.is_none.ensures ∙ ap not w.if-is_none.false)
      | in_default w ↦ absurd (none_is_some from.0 (sym (ap (option_map mount_of) w.in_default.is) ∙ from.2))
    ]
