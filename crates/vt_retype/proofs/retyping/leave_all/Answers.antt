use Rattle.std.proofs.Common.{map, nat_eq, refl, subst, sym, take, ◌∙◌, take_all}
use Rattle.vt_spec.proofs.Common.{regrouped}
use Rattle.vt_location.specs.Numbers.{counted}
use Rattle.vt_group.specs.Grouping.{Has}
use Rattle.vt_group.specs.Together.{as_private, with_changed}
use Rattle.vt_group.proofs.Together.{left_live, none_yet, numbers_more, one_more_private, privately_has, taken_has, unbindably_has}
use Rattle.vt_retype.proofs.Left.{StillTyped, listed_at, still_begin, still_done, still_next}
use Rattle.vt_retype.proofs.retyping.leave_all.Goals as goal

pub loop-id-init : goal.loop-id-init
loop-id-init c = record {
  groups = λ world has live. none_yet as_private world c.args.groups.now live has;
  types = λ none typed.
      still_begin c.args.groups.now (map (λ id. counted id.count) c.args.ids.now) c.args.mounts.now typed none;
  only_types = λ groups. refl;
}

pub loop-id-preserved : goal.loop-id-preserved
loop-id-preserved c =
    let ids = c.args.ids.now in
    let all = map (λ id. counted id.count) ids in
    let left = map (λ id. counted id.count) (take c.loop-id.id-index ids) in
    let more = numbers_more ids c.loop-id.id-index _ c.loop-id-test.true in
    record {
      groups = λ world has live.
          subst (λ numbers. Has (regrouped nat_eq (with_changed as_private world numbers)) c.leave.new.groups) more
          (one_more_private world live left _ c.leave.new.groups
          (c.leave.ensures.left (regrouped nat_eq (with_changed as_private world left))
          (c.loop-id.invariant.groups world has live) (left_live world live left) tt));
      types = λ none typed. subst (λ numbers. StillTyped c.leave.new.groups all numbers c.leave.new.mounts) more
          (still_next c.loop-id.groups c.leave.new.groups all left _ c.loop-id.mounts c.leave.new.mounts
          (c.loop-id.invariant.types none typed) (listed_at ids c.loop-id.id-index _ c.loop-id-test.true)
          c.leave.ensures.told c.leave.ensures.slaves);
      only_types = λ groups. c.leave.ensures.types groups ∙ c.loop-id.invariant.only_types groups;
    }

pub returns-clause-detached : goal.returns-clause-detached
returns-clause-detached c world has live =
    taken_has world live (map (λ id. counted id.count) c.args.ids.now) c.loop-id.groups
    (subst (λ ids. Has (regrouped nat_eq (with_changed as_private world (map (λ id. counted id.count) ids)))
    c.loop-id.groups) (take_all c.loop-id.id-index c.args.ids.now c.loop-id-test.false)
    (c.loop-id.invariant.groups world has live))

pub returns-clause-private : goal.returns-clause-private
returns-clause-private c world group named has live are lacks =
    privately_has world live (map (λ id. counted id.count) c.args.ids.now) group named are lacks c.loop-id.groups
    (subst (λ ids. Has (regrouped nat_eq (with_changed as_private world (map (λ id. counted id.count) ids)))
    c.loop-id.groups) (take_all c.loop-id.id-index c.args.ids.now c.loop-id-test.false)
    (c.loop-id.invariant.groups world has live))

pub returns-clause-unbindable : goal.returns-clause-unbindable
returns-clause-unbindable c world group named has live are lacks =
    unbindably_has world live (map (λ id. counted id.count) c.args.ids.now) group named are lacks c.loop-id.groups
    (subst (λ ids. Has (regrouped nat_eq (with_changed as_private world (map (λ id. counted id.count) ids)))
    c.loop-id.groups) (take_all c.loop-id.id-index c.args.ids.now c.loop-id-test.false)
    (c.loop-id.invariant.groups world has live))

pub returns-clause-types : goal.returns-clause-types
returns-clause-types c ordered none typed =
    let all = map (λ id. counted id.count) c.args.ids.now in
    sym (still_done c.loop-id.groups all c.loop-id.mounts
    (subst (λ ids. StillTyped c.loop-id.groups all (map (λ id. counted id.count) ids) c.loop-id.mounts)
    (take_all c.loop-id.id-index c.args.ids.now c.loop-id-test.false) (c.loop-id.invariant.types none typed)))
    ∙ c.loop-id.invariant.only_types c.loop-id.groups
