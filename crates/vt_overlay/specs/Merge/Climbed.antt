-- Names found by going up from a directory of a tree: path_resolution(7) on "..".
use Rattle.std.specs.Prelude.{List, Option, [], find, is_some, nat_eq, option_map, suc, true, unwrap_or, zero, ℕ, ◌+◌, ◌<◌, ◌∷◌, ◌≡◌, ◌^◌}
use Rattle.vt_spec.specs.Tree.{Tree, entries_in, parent_in}
use Rattle.vt_fs.specs.Trees.Paths.{NamesDirectoriesOnce}

-- the directory so many steps up
abbrev pub climbed : Tree ℕ → ℕ → ℕ → ℕ
climbed tree zero directory = directory
climbed tree (suc steps) directory =
    parent_in (climbed tree steps directory) (tree.node (climbed tree steps directory))

-- the name of a directory in its parent
abbrev pub name_up : Tree ℕ → ℕ → Option (List ℕ)
name_up tree directory =
    option_map (λ entry. entry.0)
    (find (λ entry. nat_eq directory entry.1) (entries_in (tree.node (parent_in directory (tree.node directory)))))

-- the names of a directory and those above it, so many of them, from the highest down
abbrev pub names_up : Tree ℕ → ℕ → ℕ → List (List ℕ)
names_up tree zero directory = []
names_up tree (suc steps) directory =
    unwrap_or (name_up tree (climbed tree steps directory)) [] ∷ names_up tree steps directory

-- so many steps up each directory has a name
abbrev pub AreNamed : Tree ℕ → ℕ → ℕ → Type 0
AreNamed tree len directory =
    (steps : ℕ) → steps < len → is_some (name_up tree (climbed tree steps directory)) ≡ true

-- a way up in a tree that names each directory once; it leaves room for one more name
pub record IsWay (tree : Tree ℕ) (len directory : ℕ) : Type 0 where
  pub once : NamesDirectoriesOnce tree
  pub named : AreNamed tree len directory
  pub room : len + 1 < 2 ^ 64
