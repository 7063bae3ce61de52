use Rattle.std.proofs.Common.{◌++◌, drop, map, IsPermutation}
use Rattle.vt_overlay.specs.Merge.LayerValue.{names_had}
use Rattle.vt_overlay.proofs.merge.naming.all_names.Given as goal

-- the names so far, and those of the directories that are left
abbrev pub invariant-loop-top : goal.invariant-loop-top
invariant-loop-top l =
    IsPermutation (map (λ name. name.items) l.all.items ++ names_had l.trees (drop l.top-index l.merged))
    (names_had l.trees l.merged)
