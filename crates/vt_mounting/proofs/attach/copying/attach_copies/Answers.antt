use Rattle.std.proofs.Common.{List, ap, map, nat_eq, refl, [], ◌++◌, ◌∷◌, ◌≡◌, ◌∙◌}
use Rattle.vt_spec.proofs.Common.{holds_of}
use Rattle.vt_location.specs.declared.locations.Location.{Location}
use Rattle.vt_location.specs.declared.mounts.Mount.{Mount}
use Rattle.vt_mounting.proofs.Common.{are_ascending, ascending_filter, attached_in, counted, location_of, mount_of, mounts_in}
use Rattle.vt_mounting.specs.Attach.Planned.{with_planned}
use Rattle.vt_mounting.specs.Detach.Uses.{Kept, with_attached}
use Rattle.vt_mounting.proofs.attach.UnsharingLemmas.{copies_ascend}
use Rattle.vt_mounting.proofs.attach.copying.attach_copies.Goals as goal

pub attach_planned-requires-clause-ascending : goal.attach_planned-requires-clause-ascending
attach_planned-requires-clause-ascending c = λ order.
    let all = mounts_in c.args.mounts.now in
    ap (λ new. are_ascending (all ++ new)) (ap (map mount_of) c.deref.ensures.value ∙ c.in_ok-added.ensures)
    ∙ copies_ascend c.args.next all
    (attached_in (counted c.args.namespace.count) c.args.mounts.now) order c.requires.before
    (ascending_filter (λ mount. holds_of
    (nat_eq (counted c.args.namespace.count)) mount.namespace) all order)

-- no mount leaves a mount point
none_moves : (copies : List Mount) (left : List Location) (k : Kept) → map location_of left ≡ []
    → with_planned copies [] left k ≡ with_attached copies k
none_moves copies [] k none = refl
none_moves copies (point ∷ rest) k none = absurd cc

pub returns-clause-ok : goal.returns-clause-ok
returns-clause-ok c =
    let made = c.in_ok-attach_planned.ensures.ok in
    record {
      added = c.deref.result.now;
      copied = ap (map mount_of) c.deref.ensures.value ∙ c.in_ok-added.ensures;
      slots = c.in_ok-attach_planned.ensures.slots;
      attached = made.3 ∙ none_moves c.deref.result.now made.0 _ made.1;
      grows = c.in_ok-attach_planned.ensures.groups_ok;
    }
