-- Sealed sets in states of a scheduler that are the same, and in turns that are made one by one.
use Rattle.std.proofs.Common.{arith, ◌≡◌, sym, ap, subst, ◌∙◌, ℕ, nat_eq, true, List, [], ◌++◌, option_to_list}
use Rattle.vt_spec.proofs.Common.{SameWorlds, Sched, Someone, Task, common_steps, part_of, queue_of, turn}
use Rattle.vt_laws_containers.proofs.Common.{are_all_called, left_by}
use Rattle.vt_laws_containers.proofs.members_turns.EachTurn.{each_turn_of_theirs_is_of_their_part}
use Rattle.vt_laws_containers.proofs.same_sets.sets.PartsAlike.{same_worlds_have_same_parts}
use Rattle.vt_laws_containers.proofs.same_sets.sets.SealedAlike.{same_worlds_are_sealed_alike}
use Rattle.vt_laws_containers.proofs.sealed_turns.outsiders.Turned.{outsiders_turns_leave_it_sealed_in_turn}
use Rattle.vt_laws_containers.specs.MembersTurns.TheirTurns.{set_left}
use Rattle.vt_laws_containers.specs.SameSets.Turns.{OthersPlayedLeaveItSealed, SameSchedsHaveItSealed, TheirTurnsPlayedGoAsInThePart}
use Rattle.vt_laws_containers.specs.SealedTurns.OutsidersTurns.{their_calls}
use Rattle.vt_laws_worlds.proofs.one_text.same.SameWhole.{any_same_worlds_are_worlds}

pub same_scheds_have_it_sealed : SameSchedsHaveItSealed
same_scheds_have_it_sealed one other names same has = record {
  sealed_off = record {
    is = any_same_worlds_are_worlds one.world other.world same.world.same has.is;
    sealed_off = sym (same_worlds_are_sealed_alike one.world other.world same.world.same names) ∙ has.sealed_off;
    there = subst (λ (tasks : List (Task ℕ)). are_all_called (record other.world { tasks = tasks }) names ≡ true)
        same.world.tasks has.there;
  };
  part = same_worlds_have_same_parts one.world other.world same.world.same names;
  calls = ap (their_calls names) (sym same.under_way);
  queues = λ member theirs. ap (λ queues. queue_of queues (Someone member)) (sym same.queues);
}

pub others_played_leave_it_sealed : OthersPlayedLeaveItSealed
others_played_leave_it_sealed first now schedule told names played has of =
    let left : Sched ℕ = left_by first schedule in
    let leave = outsiders_turns_leave_it_sealed_in_turn first names schedule has of in
    let too = same_scheds_have_it_sealed left now names played.left leave.sealed_off in
    record {
      sealed_off = too.sealed_off;
      part = subst (λ part. SameWorlds part (part_of nat_eq now.world names)) leave.part too.part;
      calls = too.calls ∙ leave.calls;
      queues = λ member theirs. too.queues member theirs ∙ leave.queues member theirs;
    }

append-nil : {A : Type 0} (list : List A) → list ++ [] ≡ list
append-nil list = grind (arith, common_steps)

pub their_turns_played_go_as_in_the_part : TheirTurnsPlayedGoAsInThePart
their_turns_played_go_as_in_the_part first now told names name fresh played it =
    let alike = each_turn_of_theirs_is_of_their_part first names name fresh it in
    let set = set_left first names name fresh in
    record {
      replies = sym played.replies ∙ append-nil (option_to_list (turn nat_eq first (Someone name) fresh).reply)
          ∙ ap option_to_list (sym alike.reply);
      part = subst (λ part. SameWorlds part (part_of nat_eq now.world set))
          (sym (ap (λ (sched : Sched ℕ). sched.world) alike.left))
          (same_worlds_have_same_parts (turn nat_eq first (Someone name) fresh).sched.world now.world
          played.left.world.same set);
      calls = ap (their_calls set) (sym played.left.under_way)
          ∙ sym (ap (λ (sched : Sched ℕ). sched.under_way) alike.left);
    }
