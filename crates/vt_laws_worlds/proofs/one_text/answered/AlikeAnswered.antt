-- Each call is answered alike in two worlds that are the same, if one has all invariants.
use Rattle.vt_laws_rules.proofs.same.SameNames.{worlds_have_one_name}
use Rattle.vt_laws_trees.proofs.runs.answered.AlikeAnswered.{policy_alike}
use Rattle.vt_laws_trees.proofs.runs.answered.AlikeApplied.{apply_alike}
use Rattle.vt_laws_trees.proofs.runs.answered.AlikeDirected.{directed_alike}
use Rattle.vt_laws_trees.proofs.runs.answered.AlikeSettled.{settled_alike}
use Rattle.vt_laws_trees.proofs.runs.answered.AlikeWorlds.{alike_from_same, same_from_alike}
use Rattle.vt_laws_worlds.proofs.one_text.answered.CopiesOfWorlds.{copies_of_worlds}
use Rattle.vt_laws_worlds.specs.OneText.Answered.{PermitsLeaveAlike, AnySameWorldsAreAnsweredAlike, AnySameWorldsAreDirectedAlike, AnySameWorldsAreSweptAlike}

-- A permit for two tasks that are the same but for change numbers
pub permits_leave_alike : PermitsLeaveAlike
permits_leave_alike one other same is fresh task again alike permit =
    let left = apply_alike fresh (alike_from_same one other same)
    (copies_of_worlds one other (alike_from_same one other same) is) task again alike permit in
    record { answer = left.answer; worlds = same_from_alike _ _ left.worlds }

pub any_same_worlds_are_swept_alike : AnySameWorldsAreSweptAlike
any_same_worlds_are_swept_alike one other same =
    same_from_alike _ _ (settled_alike one other (alike_from_same one other same))

pub any_same_worlds_are_answered_alike : AnySameWorldsAreAnsweredAlike
any_same_worlds_are_answered_alike one other same is fresh name call =
    let same = alike_from_same one other same in
    let alike = policy_alike fresh one other same (worlds_have_one_name one is) (copies_of_worlds one other same is)
    call name in
    record { answer = alike.answer; worlds = same_from_alike _ _ alike.worlds }

pub any_same_worlds_are_directed_alike : AnySameWorldsAreDirectedAlike
any_same_worlds_are_directed_alike one other same directive =
    let alike = directed_alike one other (alike_from_same one other same) directive in
    record { answer = alike.answer; worlds = same_from_alike _ _ alike.worlds }
