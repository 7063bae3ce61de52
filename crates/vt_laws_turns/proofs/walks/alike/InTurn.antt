-- So they do after calls of others, where no change number that is held is overtaken.
use Rattle.std.proofs.Common.{◌≡◌, ℕ, nat_eq, List, [], ◌∷◌}
use Rattle.vt_spec.proofs.Common.{IsWorld, World, mounts_of}
use Rattle.vt_laws_turns.specs.Frames.Detached.{StandsWhereItStood}
use Rattle.vt_laws_turns.specs.Frames.InTurn.{AreBeside, CallBetween, after_call, after_calls}
use Rattle.vt_laws_turns.proofs.frames.in_turn.FilesystemsRise.{filesystems_stay_in_turn}
use Rattle.vt_laws_turns.proofs.frames.in_turn.MountsStoodOn.{other_tasks_stand_in_turn}
use Rattle.vt_laws_turns.proofs.frames.in_turn.NumbersRise.{keep_mounts_in_turn, next_is, tasks_stay_in_turn}
use Rattle.vt_laws_turns.specs.Walks.HalfWalks.{FirstWordsLeadAlikeInTurn}
use Rattle.vt_laws_turns.proofs.walks.alike.WalkersAlike.{first_words_lead_alike}

worlds_after : (number : ℕ) (calls : List CallBetween) (world : World ℕ) → IsWorld nat_eq world
    → AreBeside number world calls → IsWorld nat_eq (after_calls world calls)
worlds_after number [] world is beside = is
worlds_after number (one ∷ rest) world is beside =
    worlds_after number rest (after_call world one) (next_is number world one is beside.0) beside.1

pub first_words_lead_alike_in_turn : FirstWordsLeadAlikeInTurn
first_words_lead_alike_in_turn world calls task aim path count is called others beside unraised held =
    let later : World ℕ = after_calls world calls in
    let are : IsWorld nat_eq later = worlds_after task.namespace calls world is beside in
    let same : mounts_of nat_eq later task.namespace ≡ mounts_of nat_eq world task.namespace =
    keep_mounts_in_turn world calls task.namespace is beside unraised in
    let stands : StandsWhereItStood world later task =
    other_tasks_stand_in_turn world calls task.name task is beside others called unraised in
    first_words_lead_alike world later task aim path count is are (record {
      before = called;
      after = tasks_stay_in_turn world calls task.name task is beside others called unraised;
      mounts = same;
      root = stands.root;
      directory = stands.directory;
    }) (λ number met. let its = held number met in filesystems_stay_in_turn world calls number is its.0 its.1)
