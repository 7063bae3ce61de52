use Rattle.std.proofs.Common.{◌≡◌, ◌++◌, map, take}
use Rattle.vt_overlay.proofs.merge.naming.push_copies.Given as goal

abbrev pub invariant-loop-name : goal.invariant-loop-name
invariant-loop-name l = map (λ name. name.items) l.all.items
    ≡ map (λ name. name.items) l.initial.all.items ++ map (λ name. name.items) (take l.name-index l.names)
