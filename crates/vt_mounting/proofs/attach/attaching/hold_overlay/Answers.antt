use Rattle.std.proofs.Common.{arith, ap, is_some, rules, subst, sym, ◌+◌, ◌≡◌, ◌∙◌, ◌≤◌, leb-true}
use Rattle.vt_location.specs.Numbers.{most_counted}
use Rattle.vt_mounting.proofs.Common.{StoreValue, some_copied, with_mounts}
use Rattle.vt_store.specs.Counts.{mounts_in}
use Rattle.vt_mounting.specs.Detach.Stored.{under_counts}
use Rattle.vt_mounting.proofs.detach.OverlaysListed.{counted_stay_in}
use Rattle.vt_mounting.proofs.attach.OverlayCounts.{held_over, mounts_are_merged, none_over, overlay_there}
use Rattle.vt_mounting.proofs.attach.RoomLemmas.{not_refused}
use Rattle.vt_mounting.proofs.attach.attaching.hold_overlay.Goals as goal

pub returns-then-is_some-clause-plain : goal.returns-then-is_some-clause-plain
returns-then-is_some-clause-plain c =
    let old = c.args.store.now in
    let count = c.args.mount.now.root.filesystem.count in
    let is : c.is_some.result ≡ is_some c.overlay.result = search rules in
    let there = sym (overlay_there old count _ c.overlay.ensures.value) ∙ sym (some_copied c.overlay.result) ∙ sym is
    ∙ c.if-is_some.true in
    let few : mounts_in old count ≤ 18446744073709551614 =
    subst (λ n. n ≤ 18446744073709551614) (sym (mounts_are_merged old count there))
    (leb-true _ 18446744073709551614 c.requires) in
    (held_over old count there c.hold_mount.new.self (not_refused c.hold_mount.result
    (c.hold_mount.new.self ≡ with_mounts count (λ mounts. mounts + 1) old) (mounts_in old count ≡ most_counted)
    c.hold_mount.ensures.limit.0 c.hold_mount.ensures.ok (λ full. omega (arith, full, few)))).0

pub returns-then-is_some-clause-overlays : goal.returns-then-is_some-clause-overlays
returns-then-is_some-clause-overlays c =
    let old = c.args.store.now in
    let count = c.args.mount.now.root.filesystem.count in
    let is : c.is_some.result ≡ is_some c.overlay.result = search rules in
    let there = sym (overlay_there old count _ c.overlay.ensures.value) ∙ sym (some_copied c.overlay.result) ∙ sym is
    ∙ c.if-is_some.true in
    let few : mounts_in old count ≤ 18446744073709551614 =
    subst (λ n. n ≤ 18446744073709551614) (sym (mounts_are_merged old count there))
    (leb-true _ 18446744073709551614 c.requires) in
    (held_over old count there c.hold_mount.new.self (not_refused c.hold_mount.result
    (c.hold_mount.new.self ≡ with_mounts count (λ mounts. mounts + 1) old) (mounts_in old count ≡ most_counted)
    c.hold_mount.ensures.limit.0 c.hold_mount.ensures.ok (λ full. omega (arith, full, few)))).1

pub returns-else-is_some-clause-overlays : goal.returns-else-is_some-clause-overlays
returns-else-is_some-clause-overlays c =
    let old = c.args.store.now in
    let count = c.args.mount.now.root.filesystem.count in
    let is : c.is_some.result ≡ is_some c.overlay.result = search rules in
    none_over old count
    (sym (overlay_there old count _ c.overlay.ensures.value) ∙ sym (some_copied c.overlay.result) ∙ sym is
    ∙ c.if-is_some.false)

pub returns-then-is_some-clause-stay : goal.returns-then-is_some-clause-stay
returns-then-is_some-clause-stay c =
    let old = c.args.store.now in
    let count = c.args.mount.now.root.filesystem.count in
    let is : c.is_some.result ≡ is_some c.overlay.result = search rules in
    let there = sym (overlay_there old count _ c.overlay.ensures.value) ∙ sym (some_copied c.overlay.result) ∙ sym is
    ∙ c.if-is_some.true in
    let few : mounts_in old count ≤ 18446744073709551614 =
    subst (λ n. n ≤ 18446744073709551614) (sym (mounts_are_merged old count there))
    (leb-true _ 18446744073709551614 c.requires) in
    ap (λ (store : StoreValue). under_counts store.overlays) (not_refused c.hold_mount.result
    (c.hold_mount.new.self ≡ with_mounts count (λ mounts. mounts + 1) old) (mounts_in old count ≡ most_counted)
    c.hold_mount.ensures.limit.0 c.hold_mount.ensures.ok (λ full. omega (arith, full, few)))
    ∙ counted_stay_in old count (λ mounts. mounts + 1)
