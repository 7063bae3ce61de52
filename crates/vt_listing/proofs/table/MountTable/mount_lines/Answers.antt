use Rattle.std.proofs.Common.{List, Some, ap, find, map, nat_eq, option_map, rules, sym, ◌∙◌, ℕ, filter, filter_map, take_all}
use Rattle.vt_spec.proofs.Common.{Mount, holds_of, mount_line}
use Rattle.vt_location.specs.MountValue.{mount_of}
use Rattle.vt_location.specs.Numbers.{counted}
use Rattle.vt_mount.specs.Attached.{attached_in}
use Rattle.vt_mount.specs.MountsValue.{mounts_in}
use Rattle.vt_mount.proofs.AttachedLemmas.{attached_picked, attached_rising, next_made, none_made}
use Rattle.vt_request.specs.Answers.{mount_line_of}
use Rattle.vt_spec.specs.Language.Answers as answers
use Rattle.vt_listing.proofs.table.MountTable.mount_lines.Goals as goal
use Rattle.vt_listing.proofs.table.MountTable.mount_lines.Goals.{in-Some+in_ok-line+in_ok-push, in_default}

pub mount_line-requires : goal.mount_line-requires
mount_line-requires c = record {
  standing = c.requires.standing;
  once = c.requires.once;
  order = attached_rising (counted c.args.namespace.count) c.args.self.now.mounts.now c.attached_in-listed.ensures.order
      c.attached_in-listed.result.now c.attached_in-listed.ensures.are;
}

pub loop-id-preserved : goal.loop-id-preserved
loop-id-preserved c world shows =
    let mounts = c.args.self.now.mounts.now in
    let all = attached_in (counted c.args.namespace.count) mounts in
    let change : Mount ℕ → answers.MountLine = mount_line nat_eq world all in
    elim c.match-get.branch [
      | in-Some+in_ok-line+in_ok-push w ↦ ap (λ lines. map mount_line_of lines.items) w.lines-is
          ∙ ap (map mount_line_of) (let pushed = w.in_ok-push.ensures in search rules) ∙ next_made mount_line_of (λ id.
          option_map change (find (λ mount. nat_eq (counted id.count) mount.number) (mounts_in mounts)))
          c.loop-id.id-index _ c.attached_in-listed.result.now (let more = c.loop-id-test.true in search rules)
          c.loop-id.lines.items (c.loop-id.invariant world shows) w.in_ok-line.line
          (ap (option_map change) (sym c.get.ensures ∙ ap (option_map mount_of) w.in-Some.is)
          ∙ ap Some (sym (w.in_ok-line.ensures.ok world all shows c.attached_in-listed.ensures.are
          c.in_ok-filesystems.ensures.ok c.in_ok-groups.ensures.ok)))
      | in_default w ↦
          ap (λ lines. map mount_line_of lines.items) w.lines-is ∙ none_made mount_line_of (λ id.
          option_map change (find (λ mount. nat_eq (counted id.count) mount.number) (mounts_in mounts)))
          c.loop-id.id-index _ c.attached_in-listed.result.now (let more = c.loop-id-test.true in search rules)
          c.loop-id.lines.items (c.loop-id.invariant world shows)
          (ap (option_map change) (sym c.get.ensures ∙ ap (option_map mount_of) w.in_default.is))
    ]

pub returns : goal.returns
returns c = record {
  ok = λ world is.
      let mounts = c.args.self.now.mounts.now in
      let namespace = counted c.args.namespace.count in
      let change : Mount ℕ → answers.MountLine = mount_line nat_eq world (attached_in namespace mounts) in
      let here : List (Mount ℕ) → List (Mount ℕ) = filter (λ mount. holds_of (nat_eq namespace) mount.namespace) in
      c.loop-id.invariant world is
      ∙ ap (filter_map (λ id. option_map change (find (λ mount. nat_eq (counted id.count) mount.number)
      (mounts_in mounts))))
      (take_all c.loop-id.id-index c.attached_in-listed.result.now (let done = c.loop-id-test.false in search rules))
      ∙ attached_picked namespace mounts c.attached_in-listed.ensures.order c.attached_in-listed.result.now
      c.attached_in-listed.ensures.are change
      ∙ ap (λ all. map (mount_line nat_eq world (here all)) (here all)) is.mounts;
}
