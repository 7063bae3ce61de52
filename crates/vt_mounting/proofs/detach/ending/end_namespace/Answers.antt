use Rattle.std.proofs.Common.{[], ap, filter, length, map, nat_eq, refl, subst, sym, ◌++◌, ◌<◌, ◌∙◌, ◌≡◌, ◌∷◌, option_copied}
use Rattle.vt_spec.proofs.Common.{regrouped}
use Rattle.vt_mounting.proofs.Common.{Grouping, Has, StillTyped, as_private, counted, no_groups, shown, typed_entry}
use Rattle.vt_group.specs.Together.{with_changed}
use Rattle.vt_group.proofs.Together.{left_live, none_yet, one_more_private}
use Rattle.vt_retype.proofs.Left.{still_at_first, still_done, still_next}
use Rattle.vt_mounting.specs.Detach.NamespacesLeft.{AreDetached, Detached, is_attached_in}
use Rattle.vt_mounting.specs.Detach.Stored.{kept, merged_of}
use Rattle.vt_mounting.specs.Detach.Uses.{Kept, without_attachment}
use Rattle.vt_mounting.proofs.detach.EndingLemmas.{attached_so, none_listed, one_detached_less, one_more_detached}
use Rattle.vt_mounting.proofs.detach.OverlaysListed.{left_itself, left_twice}
use Rattle.vt_mounting.proofs.detach.TypesAside.{all_taken, attached_alike, detached_alike, gone_numbers, is_attached-alike, last_listed, none_alike, one_more_gone, still_detached, with_types}
use Rattle.vt_mounting.proofs.detach.ending.end_namespace.Goals as goal

pub loop-last-init : goal.loop-last-init
loop-last-init c = record {
  gone = [];
  entries = c.args.mounts.now;
  detached = refl;
  only_types = λ groups. refl;
  groups = λ world has live. none_yet as_private world c.args.groups.now live has;
  types = still_at_first c.args.groups.now c.args.mounts.now;
  overlays = left_itself c.args.store.now.overlays c.args.store.now.overlays refl;
  still = c.requires;
}

pub loop-last-smaller : goal.loop-last-smaller
loop-last-smaller c =
    let namespace = counted c.args.id.count in
    let k = kept c.loop-last.mounts c.loop-last.store in
    subst (λ n. n < length (filter (is_attached_in namespace) k.mounts))
    (sym (attached_alike namespace c.detach.new.mounts c.leave.new.mounts c.leave.ensures.types))
    (subst (λ (new : Kept). length (filter (is_attached_in namespace) new.mounts) < length
    (filter (is_attached_in namespace) k.mounts)) (sym c.detach.ensures.left) (one_detached_less namespace k _
    (attached_so namespace c.loop-last.mounts c.loop-last.store.plain (map merged_of c.loop-last.store.overlays)
    c.attached_in.result.now c.detach.result c.attached_in.ensures.order c.attached_in.ensures.are
    (sym c.last.ensures.value ∙ ap option_copied c.in-Some.is) c.detach.ensures.point c.detach.ensures.slot)))

pub loop-last-preserved : goal.loop-last-preserved
loop-last-preserved c =
    let namespace = counted c.args.id.count in
    let sofar = c.loop-last.invariant in
    let number = counted c.in-Some.last.now.count in
    let point = c.detach.result in
    let one : Detached = record { number = number; point = point } in
    let k = kept c.loop-last.mounts c.loop-last.store in
    let alone = kept sofar.entries c.loop-last.store in
    let first = kept c.args.mounts.now c.args.store.now in
    let numbers = gone_numbers sofar.gone in
    let more = one_more_gone sofar.gone one in
    let alike : (groups : Grouping) → with_types groups (without_attachment number point k)
    ≡ with_types groups (without_attachment number point alone) =
    λ groups. detached_alike groups number point k alone (sofar.only_types groups) refl refl in
    record {
      gone = sofar.gone ++ (one ∷ []);
      entries = (without_attachment number point alone).mounts;
      detached = subst (AreDetached namespace (sofar.gone ++ (one ∷ [])) first) (λ i. record {
        mounts = (without_attachment number point alone).mounts;
        filesystems = sym (ap (λ (new : Kept). new.filesystems) c.detach.ensures.left
            ∙ ap (λ (new : Kept). new.filesystems) (alike no_groups)) i;
        overlays = sym (ap (λ (new : Kept). new.overlays) c.detach.ensures.left
            ∙ ap (λ (new : Kept). new.overlays) (alike no_groups)) i;
      }) (one_more_detached sofar.gone first sofar.detached
          (is_attached-alike namespace sofar.entries c.loop-last.mounts sofar.only_types
          (shown c.loop-last.store.plain) (map merged_of c.loop-last.store.overlays)
          (attached_so namespace c.loop-last.mounts c.loop-last.store.plain (map merged_of c.loop-last.store.overlays)
          c.attached_in.result.now point c.attached_in.ensures.order c.attached_in.ensures.are
          (sym c.last.ensures.value ∙ ap option_copied c.in-Some.is) c.detach.ensures.point c.detach.ensures.slot)));
      only_types = λ groups. c.leave.ensures.types groups
          ∙ ap (λ (new : Kept). map (typed_entry groups) new.mounts) c.detach.ensures.left
          ∙ ap (λ (new : Kept). new.mounts) (alike groups);
      groups = λ world has live.
          subst (λ all. Has (regrouped nat_eq (with_changed as_private world all)) c.leave.new.groups) more
          (one_more_private world live numbers number c.leave.new.groups
          (c.leave.ensures.left (regrouped nat_eq (with_changed as_private world numbers))
          (sofar.groups world has live) (left_live world live numbers) tt));
      types = λ typed. subst (λ all. StillTyped c.leave.new.groups all all c.leave.new.mounts) more
          (still_next c.loop-last.groups c.leave.new.groups (numbers ++ number ∷ []) numbers number c.detach.new.mounts
          c.leave.new.mounts
          (subst (λ (new : Kept). StillTyped c.loop-last.groups (numbers ++ number ∷ []) numbers new.mounts)
          (sym c.detach.ensures.left) (still_detached number point k (sofar.types typed))) (last_listed number numbers)
          c.leave.ensures.told c.leave.ensures.slaves);
      overlays = left_twice c.args.store.now.overlays c.loop-last.store.overlays c.detach.new.store.overlays
          sofar.overlays c.detach.ensures.overlays;
      still = c.detach.ensures.still;
    }

pub returns-clause-left : goal.returns-clause-left
returns-clause-left c =
    let namespace = counted c.args.id.count in
    let sofar = c.loop-last.invariant in
    let first = kept c.args.mounts.now c.args.store.now in
    let last = kept sofar.entries c.loop-last.store in
    let none = none_alike namespace sofar.entries c.loop-last.mounts sofar.only_types
    (none_listed c.loop-last.mounts namespace c.attached_in.result.now c.attached_in.ensures.are
    (sym c.last.ensures.value ∙ ap option_copied c.in_default.is)) in
    record {
      entries = sofar.entries;
      ends = record { gone = sofar.gone; detached = sofar.detached; none_left = none };
      groups = all_taken namespace c.args.groups.now c.loop-last.groups sofar.gone first last sofar.detached none
          sofar.groups;
      types = λ ordered typed.
          sym (still_done c.loop-last.groups (gone_numbers sofar.gone) c.loop-last.mounts (sofar.types typed))
          ∙ sofar.only_types c.loop-last.groups;
    }

pub returns-clause-overlays : goal.returns-clause-overlays
returns-clause-overlays c = c.loop-last.invariant.overlays
