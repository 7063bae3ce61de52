use Rattle.std.proofs.Common.{Err, List, Ok, Result, ap, inl, inr, nat_eq, subst, sym, ◌∙◌, ◌≡◌, ℕ}
use Rattle.vt_spec.proofs.Common.{Call, Fresh, SameWorlds, TaskName, World, part_of, policy}
use Rattle.vt_spec.specs.declared.errors.Deny.{Deny}
use Rattle.vt_laws_rules.proofs.numbers.Texts.{room_serves}
use Rattle.vt_laws_rules.proofs.rules.OwnRules.{denial_changes_nothing}
use Rattle.vt_laws_trees.proofs.runs.answered.AlikeWorlds.{sameness_is_an_equivalence}
use Rattle.vt_laws_trees.specs.Runs.Handed.{may_be_given}
use Rattle.vt_laws_members.proofs.each_call.EachCall.{each_call_ends_alike}
use Rattle.vt_laws_members.specs.Changes.Changes.{IsCallOfTheirs, grown}
use Rattle.vt_laws_containers.proofs.same_sets.members.EndedAlike.{calls_end_alike_in_same_worlds}
use Rattle.vt_laws_containers.specs.SameSets.Members.{EndsTheSame}
use Rattle.vt_request.specs.declared.answer.Answer.{Answer}
use Rattle.vt_request.specs.Answers.{result_of}
use Rattle.vt_answers.specs.Ends.{Ends}
use Rattle.vt_containers.specs.Members.{EndsAsInTheirPart, MembersEndAsInTheirPart}
use Rattle.vt_containers.proofs.members.members_end_as_in_their_part.Goals as goal

module _ {W : Type 0} (seen : W → World ℕ) (old new : W) (names : List TaskName) (name : TaskName) (call : Call)
    (result : Result Answer Deny) (theirs : IsCallOfTheirs (seen old) names name call)
    (ends : Ends seen old name call result new) where
  abbrev fresh : Fresh ℕ
  fresh = ends.allotment.new

  -- where it ends as the policy says
  as_policy : (policy nat_eq fresh (seen old) name call).answer ≡ result_of result
      → SameWorlds (policy nat_eq fresh (seen old) name call).world (seen new)
      → EndsAsInTheirPart (seen old) (seen new) names name call result
  as_policy told left =
      let serves = room_serves may_be_given (seen old) ends.allotment ends.serves.serves in (
        fresh,
        serves,
        subst (λ answer. EndsTheSame (grown names name call answer) answer (seen new)
            (policy nat_eq fresh (part_of nat_eq (seen old) names) name call)) told
            (calls_end_alike_in_same_worlds (seen old) (seen old) (sameness_is_an_equivalence.itself (seen old)) theirs.is
            names name call fresh fresh (each_call_ends_alike (seen old) names name call theirs fresh serves) (seen new) left),
      )

members_end : {W : Type 0} (seen : W → World ℕ) → MembersEndAsInTheirPart seen
members_end seen old new names name call (Ok answer) theirs ends =
    inl (as_policy seen old new names name call (Ok answer) theirs ends ends.outcome.0 ends.outcome.1)
members_end seen old new names name call (Err deny) theirs ends = elim ends.outcome.0 [
  | inl denied ↦ inl (as_policy seen old new names name call (Err deny) theirs ends denied
      (subst (SameWorlds (policy nat_eq ends.allotment.new (seen old) name call).world)
      (denial_changes_nothing ends.allotment.new (seen old) name call deny denied ∙ ap seen (sym ends.outcome.1))
      (sameness_is_an_equivalence.itself (policy nat_eq ends.allotment.new (seen old) name call).world)))
  | inr short ↦ inr (ap Err short.0, ends.outcome.1)
]

pub returns : goal.returns
returns g c = members_end g.C.Calls.world
