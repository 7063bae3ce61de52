use Rattle.std.proofs.Common.{◌≡◌, map, option_map}
use Rattle.vt_location.specs.Numbers.{counted, group_number}
use Rattle.vt_retype.specs.Leaving.{after_end_of}
use Rattle.vt_retype.proofs.handing.hand_to_all.Given as goal

-- what is left to be handed leads to what is wanted
abbrev pub invariant-loop-id : goal.invariant-loop-id
invariant-loop-id l =
    map (after_end_of (map (λ id. counted id.count) l.id-iterator) (counted l.lost.count) (option_map group_number l.heir))
    l.mounts ≡ map (after_end_of (map (λ id. counted id.count) l.initial.id-iterator) (counted l.lost.count)
    (option_map group_number l.heir)) l.fn.mounts
