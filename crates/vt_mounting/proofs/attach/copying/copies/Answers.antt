use Rattle.std.proofs.Common.{Some, ap, arith, find, map, nat_eq, option_map, rules, sym, ◌∙◌, ℕ, filter_map, take_all}
use Rattle.vt_spec.proofs.Common.{Mount, holds_of}
use Rattle.vt_mounting.proofs.Common.{among-from_filter, ascending_filter, attached_in, counted, mount_of, mounts_in}
use Rattle.vt_mounting.specs.Attach.Copying.{copied_by}
use Rattle.vt_mount.proofs.AttachedLemmas.{as_many, ascending_found, next_made, none_made, picked, rising_ids}
use Rattle.vt_mounting.proofs.attach.copying.copies.Goals as goal
use Rattle.vt_mounting.proofs.attach.copying.copies.Goals.{in-Some+in_ok-push, in_default}

pub copied-requires-clause-order : goal.copied-requires-clause-order
copied-requires-clause-order c = rising_ids c.attached_in-originals.result.now
    (attached_in (counted c.args.namespace.count) c.args.mounts.now) c.attached_in-originals.ensures.are
    (ascending_filter (λ mount. holds_of (nat_eq (counted c.args.namespace.count)) mount.namespace)
    (mounts_in c.args.mounts.now) c.attached_in-originals.ensures.order)

pub copied-requires-clause-room : goal.copied-requires-clause-room
copied-requires-clause-room c =
    let many = as_many c.attached_in-originals.result.now
    (attached_in (counted c.args.namespace.count) c.args.mounts.now) c.attached_in-originals.ensures.are in
    let room = c.requires in
    omega (arith, many, room)

pub loop-id-preserved : goal.loop-id-preserved
loop-id-preserved c =
    let all = attached_in (counted c.args.namespace.count) c.args.mounts.now in
    let change : Mount ℕ → Mount ℕ = copied_by c.args.next all in
    elim c.match-get.branch [
      | in-Some+in_ok-push w ↦ ap (λ copies. map mount_of copies.items) w.copies-is
          ∙ ap (map mount_of) (let pushed = w.in_ok-push.ensures in search rules)
          ∙ next_made mount_of (λ id. option_map change
          (find (λ mount. nat_eq (counted id.count) mount.number) (mounts_in c.args.mounts.now)))
          c.loop-id.id-index _ c.attached_in-originals.result.now (let more = c.loop-id-test.true in search rules)
          c.loop-id.copies.items c.loop-id.invariant w.copied.result
          (ap (option_map change) (sym c.get.ensures ∙ ap (option_map mount_of) w.in-Some.is)
          ∙ ap Some (sym (w.copied.ensures all c.attached_in-originals.ensures.are)))
      | in_default w ↦
          ap (λ copies. map mount_of copies.items) w.copies-is ∙ none_made mount_of (λ id. option_map change
          (find (λ mount. nat_eq (counted id.count) mount.number) (mounts_in c.args.mounts.now)))
          c.loop-id.id-index _ c.attached_in-originals.result.now (let more = c.loop-id-test.true in search rules)
          c.loop-id.copies.items c.loop-id.invariant
          (ap (option_map change) (sym c.get.ensures ∙ ap (option_map mount_of) w.in_default.is))
    ]

pub returns : goal.returns
returns c =
    let all = attached_in (counted c.args.namespace.count) c.args.mounts.now in
    let change : Mount ℕ → Mount ℕ = copied_by c.args.next all in
    c.loop-id.invariant ∙ ap (filter_map (λ id. option_map change
    (find (λ mount. nat_eq (counted id.count) mount.number) (mounts_in c.args.mounts.now))))
    (take_all c.loop-id.id-index c.attached_in-originals.result.now (let done = c.loop-id-test.false in search rules))
    ∙ picked change (mounts_in c.args.mounts.now) all c.attached_in-originals.result.now c.attached_in-originals.ensures.are
    (λ mount m. ascending_found (mounts_in c.args.mounts.now) c.attached_in-originals.ensures.order mount
    (among-from_filter (λ mount. holds_of (nat_eq (counted c.args.namespace.count)) mount.namespace)
    (mounts_in c.args.mounts.now) mount m).0)
