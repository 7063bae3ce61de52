-- A turn of code is a schedule of one turn of the definitions.
use Rattle.std.proofs.Common.{append-nil, ap, ◌∙◌, ℕ, nat_eq, [], ◌∷◌, Option, option_to_list}
use Rattle.vt_spec.proofs.Common.{Fresh, Reply, Sched, Who, World, turn}
use Rattle.vt_laws_turns.specs.SameStates.{HandsUnused, IsPlayed}
use Rattle.vt_turns.specs.SchedValue.{Sched as SchedCode, sched_meant}
use Rattle.vt_turns.specs.Turned.{TurnsAs, first_allocates, supply}
use Rattle.vt_turns.proofs.SchedTurns.{unused}

module _ {C : Type 0} (seen : C → World ℕ) (old : SchedCode C) (who : Who) (reply : Option Reply) (new : SchedCode C)
    (turns : TurnsAs seen old who reply new) where
  abbrev pub first : Sched ℕ
  first = sched_meant seen old

  -- the numbers that it is handed
  abbrev pub handed : Option (Fresh ℕ)
  handed = supply turns.given

  pub is_played : IsPlayed first ((who, handed) ∷ []) (option_to_list reply) (sched_meant seen new)
  is_played = record {
    replies = append-nil (option_to_list (turn nat_eq first who handed).reply) ∙ ap option_to_list turns.replies;
    left = record { world = turns.world; queues = turns.queues_left; under_way = turns.under_way };
  }

  pub hands_unused : HandsUnused first (who, handed)
  hands_unused = unused (first_allocates seen first who) (seen old.state.world) turns.given turns.handed
