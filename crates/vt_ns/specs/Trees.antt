-- The mounts that a recursive bind copies, walked with a stack: mount(2) with MS_BIND and MS_REC.
use Rattle.std.specs.Prelude.{List, [], map, nat_eq, suc, zero, ℕ, ◌++◌, ◌∷◌}
use Rattle.std.specs.List.{flat_map}
use Rattle.vt_spec.specs.Machine.Attach.{bindable_children}
use Rattle.vt_spec.specs.Machine.Mounts.{Mount}
use Rattle.vt_location.specs.Numbers.{counted}
use Rattle.vt_ns.specs.declared.trees.Branch.{Branch}

-- the numbers of the mounts of a tree, down to this depth, without unbindable mounts and what is below them
abbrev pub bindable_numbers : List (Mount ℕ) → ℕ → ℕ → List ℕ
bindable_numbers mounts zero number = number ∷ []
bindable_numbers mounts (suc depth) number =
    number ∷ flat_map (bindable_numbers mounts depth)
    (map (λ child. child.number) (bindable_children nat_eq mounts number))

-- the trees of the stack, from its top down
abbrev pub bindable_to_come : List (Mount ℕ) → List Branch → List ℕ
bindable_to_come mounts [] = []
bindable_to_come mounts (branch ∷ waiting) =
    bindable_to_come mounts waiting ++ bindable_numbers mounts branch.depth (counted branch.mount.count)
