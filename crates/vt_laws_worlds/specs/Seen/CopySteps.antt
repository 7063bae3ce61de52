-- Copies to the upper layer, one missing prefix at a time: the kernel's overlayfs document, "non-directories".
use Rattle.std.specs.Prelude.{List, None, Some, [], length, map, nat_eq, option_map, unwrap_or, ℕ, ⊤, ◌++◌, ◌∷◌, ◌≡◌}
use Rattle.vt_spec.specs.FileTree.{FileTree}
use Rattle.vt_spec.specs.Language.Changes.{changed}
use Rattle.vt_spec.specs.Language.Changes.Change.{Make}
use Rattle.vt_spec.specs.Lists.{Fresh}
use Rattle.vt_spec.specs.Machine.CopyUp.{Stack}
use Rattle.vt_spec.specs.Machine.Invariants.{number_at_path}
use Rattle.vt_spec.specs.Tree.{Node}
use Rattle.vt_laws_worlds.specs.Merging.UpperChanges.{OfCopies, copied_to, copy_node, led_above, node_seen}

-- What is to be copied at a path is the same before copies and after them.
abbrev pub CopiesShowTheSame : Type 0
CopiesShowTheSame =
    OfCopies (λ fresh stack merge.
    (path other : List (List ℕ)) (object parent : ℕ) → number_at_path merge.files path ≡ Some object
    → option_map (copy_node parent) (node_seen stack (copied_to fresh stack merge.upper path) other)
    ≡ option_map (copy_node parent) (node_seen stack merge.upper other))

-- A missing prefix is one new inode more.
abbrev pub CopiesGoStepByStep : Type 0
CopiesGoStepByStep =
    OfCopies (λ fresh stack merge.
    (path : List (List ℕ)) (name : List ℕ) (parent above : ℕ) (node : Node ℕ)
    → number_at_path merge.files path ≡ Some parent
    → led_above stack merge.upper (path ++ name ∷ []) ≡ None
    → node_seen stack merge.upper (path ++ name ∷ []) ≡ Some node
    → above ≡ unwrap_or (led_above stack merge.upper path) (fresh (length path))
    → copied_to fresh stack merge.upper (path ++ name ∷ [])
    ≡ changed nat_eq (copied_to fresh stack merge.upper path)
    (Make above name (fresh (length (path ++ name ∷ []))) (copy_node above node)))

-- a copy that is planned: its name, the inode that is shown, and the number that the copy gets
pub record Copy : Type 0 where
  pub name : List ℕ
  pub node : Node ℕ
  pub number : ℕ

-- copies made one in the other, the first in a directory
abbrev pub made_in_turn : FileTree ℕ → ℕ → List Copy → FileTree ℕ
made_in_turn files directory [] = files
made_in_turn files directory (copy ∷ rest) =
    made_in_turn
    (changed nat_eq files (Make directory copy.name copy.number (copy_node directory copy.node))) copy.number rest

-- A plan, from a path that the upper layer has: each further name leads nowhere in the upper layer, its inode is the
-- one that the layers show there, before anything is copied, and its number the new one at the place of the prefix.
abbrev pub ArePlanned : Fresh ℕ → Stack ℕ → FileTree ℕ → List (List ℕ) → List Copy → Type 0
ArePlanned fresh stack upper path [] = ⊤
ArePlanned fresh stack upper path (copy ∷ rest) =
    (led_above stack upper (path ++ copy.name ∷ []) ≡ None)
    × (node_seen stack upper (path ++ copy.name ∷ []) ≡ Some copy.node)
    × (copy.number ≡ fresh (length (path ++ copy.name ∷ [])))
    × ArePlanned fresh stack upper (path ++ copy.name ∷ []) rest

-- Copies that are planned so, made one in the other, are the copy of the path.
abbrev pub CopiesAreMadeInTurn : Type 0
CopiesAreMadeInTurn =
    OfCopies (λ fresh stack merge.
    (path : List (List ℕ)) (above : ℕ) (copies : List Copy)
    → led_above stack merge.upper path ≡ Some above → ArePlanned fresh stack merge.upper path copies
    → copied_to fresh stack merge.upper (path ++ map (λ (copy : Copy). copy.name) copies)
    ≡ made_in_turn merge.upper above copies)

-- Each path that leads somewhere has such a plan, from the longest prefix that the upper layer has.
abbrev pub PathsHaveTheirCopies : Type 0
PathsHaveTheirCopies =
    OfCopies (λ fresh stack merge.
    (path : List (List ℕ)) (object : ℕ) → number_at_path merge.files path ≡ Some object
    → (prefix : List (List ℕ)) × (above : ℕ) × (copies : List Copy)
    × (prefix ++ map (λ (copy : Copy). copy.name) copies ≡ path)
    × (led_above stack merge.upper prefix ≡ Some above) × ArePlanned fresh stack merge.upper prefix copies)
