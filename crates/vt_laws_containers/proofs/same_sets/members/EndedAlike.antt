-- Calls of theirs end alike in all worlds that are the same.
use Rattle.std.proofs.Common.{arith, subst, nat_eq}
use Rattle.vt_spec.proofs.Common.{SameWorlds, common_steps, part_of, policy}
use Rattle.vt_laws_containers.proofs.Common.{grown, sameness_is_an_equivalence}
use Rattle.vt_laws_worlds.proofs.one_text.answered.AlikeAnswered.{any_same_worlds_are_answered_alike}
use Rattle.vt_laws_containers.proofs.same_sets.sets.PartsAlike.{same_worlds_have_same_parts}
use Rattle.vt_laws_containers.specs.SameSets.Members.{CallsEndAlikeInSameWorlds}

pub calls_end_alike_in_same_worlds : CallsEndAlikeInSameWorlds
calls_end_alike_in_same_worlds world other same is names name call fresh given ends later left =
    let here = policy nat_eq fresh world name call in
    let there = policy nat_eq fresh other name call in
    let in_part = policy nat_eq given (part_of nat_eq world names) name call in
    let alike = any_same_worlds_are_answered_alike world other same is fresh name call in
    let set = grown names name call here.answer in
    let kept : SameWorlds (part_of nat_eq later set) (part_of nat_eq in_part.world set) =
    subst (SameWorlds (part_of nat_eq later set)) ends.part
    (sameness_is_an_equivalence.back (part_of nat_eq here.world set) (part_of nat_eq later set)
    (same_worlds_have_same_parts here.world later
    (sameness_is_an_equivalence.onward here.world there.world later alike.worlds left) set)) in
    grind (arith, common_steps)
