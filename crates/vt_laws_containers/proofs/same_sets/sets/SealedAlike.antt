-- Whether tasks are sealed off is told alike by two worlds that are the same.
use Rattle.std.proofs.Common.{◌≡◌, nat_eq}
use Rattle.vt_spec.proofs.Common.{used_alone}
use Rattle.vt_laws_containers.specs.SameSets.Sets.{SameWorldsAreSealedAlike, SameWorldsGiveFootholdsAlike}
use Rattle.vt_laws_containers.proofs.Common.{Alike, alike_from_same, alone_same, mounts_of_one, sealed_alike}

pub same_worlds_are_sealed_alike : SameWorldsAreSealedAlike
same_worlds_are_sealed_alike one other same names = sealed_alike names one other (alike_from_same one other same)

pub same_worlds_give_footholds_alike : SameWorldsGiveFootholdsAlike
same_worlds_give_footholds_alike one other same names filesystem =
    let alike = alike_from_same one other same in
    mounts_of_one (λ world. Alike one world
    → used_alone nat_eq one names filesystem ≡ used_alone nat_eq world names filesystem) one other alike
    (λ alike. alone_same one other alike names filesystem) alike
