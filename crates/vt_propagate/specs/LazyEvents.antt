-- The mounts of a tree level by level, by the list of mounts alone. Turned round they are the events of a lazy unmount.
use Rattle.std.specs.Prelude.{List, flat_map, map, nat_eq, suc, zero, ℕ, ◌++◌}
use Rattle.vt_spec.specs.Machine.Mounts.{Mount, children}

-- the children of these mounts
abbrev pub children_of : List (Mount ℕ) → List ℕ → List ℕ
children_of mounts numbers =
    flat_map (λ number. map (λ mount. mount.number) (children nat_eq mounts number)) numbers

-- these mounts, their children, the children of these, and so on, so many levels further
abbrev pub levels_from : ℕ → List (Mount ℕ) → List ℕ → List ℕ
levels_from zero mounts level = level
levels_from (suc most) mounts level = level ++ levels_from most mounts (children_of mounts level)
