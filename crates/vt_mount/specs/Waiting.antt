-- The tree of a mount, walked with a stack.
use Rattle.std.specs.Prelude.{List, [], map, nat_eq, suc, zero, ℕ, ◌++◌, ◌∷◌}
use Rattle.std.specs.List.{flat_map}
use Rattle.vt_spec.specs.Machine.Mounts.{Mount, children}
use Rattle.vt_location.specs.Numbers.{counted}
use Rattle.vt_mount.specs.declared.trees.Branch.{Branch}

-- the numbers of the mounts of a tree, down to this depth
abbrev pub tree_numbers : List (Mount ℕ) → ℕ → ℕ → List ℕ
tree_numbers mounts zero number = number ∷ []
tree_numbers mounts (suc depth) number =
    number ∷ flat_map (tree_numbers mounts depth) (map (λ child. child.number) (children nat_eq mounts number))

-- the trees of the stack, from its top down
abbrev pub to_come : List (Mount ℕ) → List Branch → List ℕ
to_come mounts [] = []
to_come mounts (branch ∷ waiting) =
    to_come mounts waiting ++ tree_numbers mounts branch.depth (counted branch.mount.count)
