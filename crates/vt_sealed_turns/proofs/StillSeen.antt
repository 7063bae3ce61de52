-- Calls under way hold what their tasks see.
use Rattle.std.proofs.Common.{sym, subst, ℕ, nat_eq, [], ◌∷◌}
use Rattle.vt_spec.proofs.Common.{IsWorld, Sched, World}
use Rattle.vt_laws_worlds.proofs.one_text.same.SameWhole.{any_same_worlds_are_worlds}
use Rattle.vt_laws_turns.proofs.holds.Holding.{schedulers_begin_so, turns_hold_what_is_seen}
use Rattle.vt_laws_turns.specs.Holds.Held.{HoldsWhatIsSeen}
use Rattle.vt_laws_turns.specs.SameStates.{SameSched}
use Rattle.vt_queues.specs.QueuesValue.{queues_meant}
use Rattle.vt_turns.specs.SchedValue.{Sched as SchedCode, sched_meant}
use Rattle.vt_sealed_turns.specs.Seen.{PlayHoldsWhatIsSeen, SchedulersHoldWhatIsSeen}
use Rattle.vt_sealed_turns.proofs.OneTurn.{handed, hands_unused, is_played}

-- what is seen is told by mounts, tasks, namespaces and calls under way
seen_so : (one other : Sched ℕ) → SameSched one other → HoldsWhatIsSeen one → HoldsWhatIsSeen other
seen_so one other same holds =
    let mixed : Sched ℕ = record {
      world = record other.world {
        mounts = one.world.mounts;
        namespaces = one.world.namespaces;
        tasks = one.world.tasks;
      };
      queues = other.queues;
      under_way = one.under_way;
    } in
    let holds_mixed : HoldsWhatIsSeen mixed = record {
      there = holds.there;
      no_more = λ task progress under. holds.no_more task progress
          (record { under_way = under.under_way; called = under.called });
      seen = λ task progress under current held c. holds.seen task progress
          (record { under_way = under.under_way; called = under.called })
          (record { task_change = current.task_change; namespace_change = current.namespace_change }) held c;
    } in
    subst HoldsWhatIsSeen (λ i. record {
      world = record other.world {
        mounts = same.world.same.mounts i;
        namespaces = same.world.namespaces i;
        tasks = same.world.tasks i;
      };
      queues = other.queues;
      under_way = same.under_way i;
    }) holds_mixed

module _ {C : Type 0} (seen : C → World ℕ) where
  pub schedulers_hold_what_is_seen : SchedulersHoldWhatIsSeen seen
  schedulers_hold_what_is_seen world queues new is =
      subst HoldsWhatIsSeen (sym is) (schedulers_begin_so (seen world) (queues_meant queues))

  pub play_holds_what_is_seen : PlayHoldsWhatIsSeen seen
  play_holds_what_is_seen old new [] replies is holds plays few =
      subst (λ (state : SchedCode C). IsWorld nat_eq (seen state.state.world) × HoldsWhatIsSeen (sched_meant seen state))
      (sym plays.1) (is, holds)
  play_holds_what_is_seen old new (who ∷ schedule) replies is holds plays few =
      let fresh = handed seen old who plays.0 plays.1 plays.3 in
      let left = turns_hold_what_is_seen (sched_meant seen old) (who, fresh) is holds (record {
        serves = hands_unused seen old who plays.0 plays.1 plays.3;
        few_groups = λ line call first. few.0 call (line, first);
      }) in
      let same = (is_played seen old who plays.0 plays.1 plays.3).left in
      play_holds_what_is_seen plays.1 new schedule plays.2
      (any_same_worlds_are_worlds _ _ same.world.same left.0) (seen_so _ _ same left.1) plays.5 few.1
