-- Turns of others leave a sealed set as it was.
use Rattle.std.proofs.Common.{sym, subst, ◌∙◌, ℕ, [], ◌∷◌, option_to_list}
use Rattle.vt_spec.proofs.Common.{World}
use Rattle.vt_laws_trees.proofs.runs.answered.AlikeWorlds.{sameness_is_an_equivalence}
use Rattle.vt_laws_turns.proofs.same_states.TurnsAlike.{same_state_is_an_equivalence}
use Rattle.vt_laws_containers.proofs.same_sets.turns.SealedToo.{others_played_leave_it_sealed, same_scheds_have_it_sealed}
use Rattle.vt_laws_containers.specs.SameSets.Turns.{HasItSealedToo}
use Rattle.vt_turns.specs.SchedValue.{Sched as SchedCode, sched_meant}
use Rattle.vt_sealed_turns.specs.Outsiders.{OthersPlayLeavesSetsSealed, OthersTurnsLeaveSetsSealed}
use Rattle.vt_sealed_turns.proofs.OneTurn.{handed, hands_unused, is_played}

module _ {C : Type 0} (seen : C → World ℕ) where
  pub others_turns_leave_sets_sealed : OthersTurnsLeaveSetsSealed seen
  others_turns_leave_sets_sealed old new names who reply has another turns =
      others_played_leave_it_sealed (sched_meant seen old) (sched_meant seen new)
      ((who, handed seen old who reply new turns) ∷ []) (option_to_list reply) names
      (is_played seen old who reply new turns) has (
        record {
          outside = another.outside;
          apart = another.apart;
          few_groups = another.few_groups;
          serves = hands_unused seen old who reply new turns;
        },
        tt,
      )

  pub others_play_leaves_sets_sealed : OthersPlayLeavesSetsSealed seen
  others_play_leaves_sets_sealed old new names [] replies has plays others =
      subst (λ (state : SchedCode C). HasItSealedToo (sched_meant seen old) (sched_meant seen state) names) (sym plays.1)
      (same_scheds_have_it_sealed (sched_meant seen old) (sched_meant seen old) names
      (same_state_is_an_equivalence.itself (sched_meant seen old)) has)
  others_play_leaves_sets_sealed old new names (who ∷ schedule) replies has plays others =
      let one = others_turns_leave_sets_sealed old plays.1 names who plays.0 has others.0 plays.3 in
      let then = others_play_leaves_sets_sealed plays.1 new names schedule plays.2 one.sealed_off plays.5 others.1 in
      record {
        sealed_off = then.sealed_off;
        part = sameness_is_an_equivalence.onward _ _ _ one.part then.part;
        calls = then.calls ∙ one.calls;
        queues = λ member theirs. then.queues member theirs ∙ one.queues member theirs;
      }
