-- How the entries of a directory are kept, and what contracts see of them.
use Rattle.std.specs.Prelude.{List, Some, [], ℕ, ◌∷◌, ◌≡◌}
use Rattle.std.specs.declared.vec.Vec.{Vec}
use Rattle.vt_spec.specs.Tree.{Entries, entry_named, with_entry}

-- the entries in the order of their names, in whatever order they are kept
abbrev pub listed : {A : Type 0} → List (Vec ℕ A × ℕ) → Entries ℕ
listed [] = []
listed (e ∷ es) = with_entry e.0.items e.1 (listed es)

-- a number has one name at most
abbrev pub HasOneName : ℕ → Entries ℕ → Type 0
HasOneName id entries =
    (name other : List ℕ) → entry_named name entries ≡ Some id → entry_named other entries ≡ Some id → name ≡ other
