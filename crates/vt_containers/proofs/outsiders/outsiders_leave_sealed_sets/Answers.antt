use Rattle.std.proofs.Common.{Err, Ok, nat_eq, subst, sym, ℕ}
use Rattle.vt_spec.proofs.Common.{World, part_of}
use Rattle.vt_laws_rules.proofs.numbers.Texts.{room_serves}
use Rattle.vt_laws_trees.proofs.runs.answered.AlikeWorlds.{sameness_is_an_equivalence}
use Rattle.vt_laws_trees.specs.Runs.Handed.{may_be_given}
use Rattle.vt_laws_containers.proofs.same_sets.outsiders.LeftSealed.{outsiders_leave_same_worlds_sealed}
use Rattle.vt_laws_containers.specs.SameSets.Outsiders.{LeavesTheSameSealed}
use Rattle.vt_containers.specs.Outsiders.{OutsidersLeaveSealedSets}
use Rattle.vt_containers.proofs.outsiders.outsiders_leave_sealed_sets.Goals as goal

left_sealed : {W : Type 0} (seen : W → World ℕ) → OutsidersLeaveSealedSets seen
left_sealed seen old new names name call (Ok answer) another ends =
    outsiders_leave_same_worlds_sealed (seen old) (seen old) (sameness_is_an_equivalence.itself (seen old))
    ends.allotment.new names name call (record {
      is = another.is;
      sealed_off = another.sealed_off;
      there = another.there;
      outside = another.outside;
      apart = another.apart;
      serves = room_serves may_be_given (seen old) ends.allotment ends.serves.serves;
      few_groups = another.few_groups;
    }) (seen new) ends.outcome.1
left_sealed seen old new names name call (Err deny) another ends =
    subst (λ w. LeavesTheSameSealed (seen old) (seen w) names) (sym ends.outcome.1) (record {
      sealed_off = another.sealed_off;
      part = sameness_is_an_equivalence.itself (part_of nat_eq (seen old) names);
      no_more = λ filesystem has alone. alone;
    })

pub returns : goal.returns
returns g c = left_sealed g.C.Calls.world
