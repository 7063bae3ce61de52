use Rattle.std.proofs.Common.{option_to_list, ℕ}
use Rattle.vt_spec.proofs.Common.{Someone, World}
use Rattle.vt_laws_containers.proofs.same_sets.turns.SealedToo.{their_turns_played_go_as_in_the_part}
use Rattle.vt_turns.specs.SchedValue.{sched_meant}
use Rattle.vt_sealed_turns.specs.Members.{MembersTurnsGoAsInTheirPart}
use Rattle.vt_sealed_turns.proofs.OneTurn.{handed, hands_unused, is_played}
use Rattle.vt_sealed_turns.proofs.members.members_turns_go_as_in_their_part.Goals as goal

go_as_in_their_part : {C : Type 0} (seen : C → World ℕ) → MembersTurnsGoAsInTheirPart seen
go_as_in_their_part seen old new names name reply its turns =
    let who = Someone name in
    let unused = hands_unused seen old who reply new turns in (
      handed seen old who reply new turns,
      unused,
      their_turns_played_go_as_in_the_part (sched_meant seen old) (sched_meant seen new) (option_to_list reply) names name
          (handed seen old who reply new turns) (is_played seen old who reply new turns) (record {
            has = its.has;
            sealed_off = its.sealed_off;
            theirs = its.theirs;
            among_them = its.among_them;
            no_directive = its.no_directive;
            serves = unused;
          }),
    )

pub returns : goal.returns
returns g c = go_as_in_their_part g.C.TakesTurns.world
