-- Turns that are made one after the other are those of a schedule of the definitions.
use Rattle.std.proofs.Common.{append-nil, append_assoc, sym, subst, ◌∙◌, ap, ℕ, List, [], ◌∷◌, ◌++◌, option_to_list}
use Rattle.vt_spec.proofs.Common.{Reply, Who, World}
use Rattle.vt_turns.specs.Ends.{IsReady}
use Rattle.vt_turns.specs.Turned.{AreRunWhole, IsPlayedBy, PlaysAs}
use Rattle.vt_turns.specs.SchedValue.{Sched as SchedCode}
use Rattle.vt_turns.proofs.SchedTurns.{nothing_played, played_on, run_whole_so}

module _ {C : Type 0} (seen : C → World ℕ) (old : SchedCode C) where
  -- behind turns that were made
  played_behind : (rest done : List Who) (told more : List Reply) (now new : SchedCode C) → IsPlayedBy seen old done told now
      → IsReady (seen now.state.world) → PlaysAs seen now rest more new
      → IsPlayedBy seen old (done ++ rest) (told ++ more) new
  played_behind [] done told more now new by ready plays =
      subst (λ (schedule : List Who). IsPlayedBy seen old schedule (told ++ more) new) (sym (append-nil done))
      (subst (λ (replies : List Reply). IsPlayedBy seen old done replies new)
      (sym (ap (λ (r : List Reply). told ++ r) plays.0 ∙ append-nil told))
      (subst (λ (state : SchedCode C). IsPlayedBy seen old done told state) (sym plays.1) by))
  played_behind (who ∷ rest) done told more now new by ready plays =
      subst (λ (schedule : List Who). IsPlayedBy seen old schedule (told ++ more) new) (append_assoc done (who ∷ []) rest)
      (subst (λ (replies : List Reply). IsPlayedBy seen old ((done ++ (who ∷ [])) ++ rest) replies new)
      (append_assoc told (option_to_list plays.0) plays.2 ∙ ap (λ (r : List Reply). told ++ r) (sym plays.4))
      (played_behind rest (done ++ (who ∷ [])) (told ++ option_to_list plays.0) plays.2 plays.1 new
      (played_on seen done told old now by ready who plays.0 plays.1 plays.3) plays.3.ready plays.5))

  pub plays_are_played : (schedule : List Who) (replies : List Reply) (new : SchedCode C) → IsReady (seen old.state.world)
      → PlaysAs seen old schedule replies new → IsPlayedBy seen old schedule replies new
  plays_are_played schedule replies new ready plays =
      played_behind schedule [] [] replies old new (nothing_played seen old) ready plays

  pub plays_run_whole : (schedule : List Who) (replies : List Reply) (new : SchedCode C) → IsReady (seen old.state.world)
      → PlaysAs seen old schedule replies new → AreRunWhole seen old schedule replies new
  plays_run_whole schedule replies new ready plays =
      run_whole_so seen schedule replies old new (plays_are_played schedule replies new ready plays)
