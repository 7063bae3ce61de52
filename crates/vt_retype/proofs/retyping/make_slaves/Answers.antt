use Rattle.std.proofs.Common.{map, nat_eq, refl, subst, sym, take, ◌∙◌, take_all}
use Rattle.vt_spec.proofs.Common.{regrouped}
use Rattle.vt_location.specs.Numbers.{counted}
use Rattle.vt_group.specs.Grouping.{Has}
use Rattle.vt_group.specs.Together.{as_slave, with_changed}
use Rattle.vt_group.proofs.Together.{none_yet, numbers_more, slave_or_same, slavishly_has}
use Rattle.vt_retype.proofs.Left.{slaves_next}
use Rattle.vt_retype.proofs.Retyped.{typed_already}
use Rattle.vt_retype.proofs.retyping.make_slaves.Goals as goal

pub loop-id-init : goal.loop-id-init
loop-id-init c = record {
  groups = λ world has live. none_yet as_slave world c.args.groups.now live has;
  types = λ typed. record {
    typed = sym (typed_already c.args.groups.now c.args.mounts.now typed);
    only_types = λ groups. refl;
  };
}

pub loop-id-preserved : goal.loop-id-preserved
loop-id-preserved c = record {
  groups = λ world has live.
      subst (λ numbers. Has (regrouped nat_eq (with_changed as_slave world numbers)) c.make_slave.new.groups)
      (numbers_more c.args.ids.now c.loop-id.id-index _ c.loop-id-test.true)
      (slave_or_same world live (map (λ id. counted id.count) (take c.loop-id.id-index c.args.ids.now)) _
      c.loop-id.groups c.make_slave.new.groups (c.loop-id.invariant.groups world has live)
      c.make_slave.ensures.member c.make_slave.ensures.other);
  types = λ typed.
      slaves_next c.loop-id.groups c.make_slave.new.groups _ c.args.mounts.now c.loop-id.mounts c.make_slave.new.mounts
      (c.loop-id.invariant.types typed) c.make_slave.ensures.told c.make_slave.ensures.types;
}

pub returns-clause-groups : goal.returns-clause-groups
returns-clause-groups c world group named has live are lacks =
    slavishly_has world live (map (λ id. counted id.count) c.args.ids.now) group named are lacks c.loop-id.groups
    (subst (λ ids. Has (regrouped nat_eq (with_changed as_slave world (map (λ id. counted id.count) ids)))
    c.loop-id.groups) (take_all c.loop-id.id-index c.args.ids.now c.loop-id-test.false)
    (c.loop-id.invariant.groups world has live))

pub returns-clause-types : goal.returns-clause-types
returns-clause-types c typed =
    let sofar = c.loop-id.invariant.types typed in sym sofar.typed ∙ sofar.only_types c.loop-id.groups
