use Rattle.std.proofs.Common.{arith, refl, subst, sym}
use Rattle.vt_upper.specs.Linking.{IsLinkable, MayBeLinked}
use Rattle.vt_upper.proofs.linking.LinkPlan.apply.Goals as goal
use Rattle.vt_upper.proofs.linking.LinkPlan.apply.Goals.{After-apply-ends}

-- once the copies are made, the name may be put in
may : (c : After-apply-ends) → MayBeLinked c.args.self c.apply-ends.result c.apply-ends.new.trees c.args.room.now
may c = c.requires.link c.apply-ends.new.trees c.apply-ends.new.births c.apply-ends.result (omega arith)
    c.apply-ends.ensures

pub listed-links-requires : goal.listed-links-requires
listed-links-requires c = (may (goal.at.listed-links-requires c).After-apply-ends).room_for_links

pub link-requires : goal.link-requires
link-requires c =
    let is = may (goal.at.link-requires c).After-apply-ends in
    record {
      name = is.name;
      white = is.white;
      linkable = subst (λ links. IsLinkable (record { object = c.apply-ends.result.object; links = links })
          c.apply-ends.result.second c.apply-ends.new.trees c.args.room.now) (sym c.listed-links.ensures) is.linkable;
    }

pub returns-clause-linked : goal.returns-clause-linked
returns-clause-linked c = record {
  between = c.apply-ends.new.trees;
  ends = c.apply-ends.result;
  small = omega arith;
  made = c.apply-ends.ensures;
  is_object = refl;
  linking = c.link.ensures;
}
