use Rattle.vt_group.proofs.index.take_out.Goals as goal

pub loop-name-preserved : goal.loop-name-preserved
loop-name-preserved g c = record {
  others = λ at other apart there.
      c.take_out_of.ensures.others at other apart (c.loop-name.invariant.others at other apart there);
  own = λ at other stays there.
      c.take_out_of.ensures.own at other stays (c.loop-name.invariant.own at other stays there);
}

pub returns-in-Some-take_out_of-clause-own : goal.returns-in-Some-take_out_of-clause-own
returns-in-Some-take_out_of-clause-own g c at other stays there =
    c.take_out_of.ensures.own at other stays (c.loop-name.invariant.own at other stays there)
