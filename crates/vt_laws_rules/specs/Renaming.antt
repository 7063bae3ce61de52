-- Numbers that are given other numbers.
use Rattle.std.specs.Prelude.{Bool, true, ℕ, ◌≡◌}
use Rattle.vt_spec.specs.Language.Changes.{Change}
use Rattle.vt_spec.specs.Language.Changes.Change.{AddName, CopyUp, Make, Move, Remove, SetAttr, SetBytes, SetMark}
use Rattle.vt_spec.specs.Machine.Renaming.{renamed_node}

-- each number gets a number of its own, and none is left out
pub record Renaming (N M : Type 0) : Type 0 where
  pub there : N → M
  pub back : M → N
  pub there_back : (number : M) → there (back number) ≡ number
  pub back_there : (number : N) → back (there number) ≡ number

-- the renaming leaves these numbers where they are
abbrev pub Leaves : Renaming ℕ ℕ → (ℕ → Bool) → Type 0
Leaves renaming named = (number : ℕ) → named number ≡ true → renaming.there number ≡ number

-- a change of a tree with other numbers
module _ {N M : Type 0} (there : N → M) (back : M → N) where
  abbrev pub renamed_change : Change N → Change M
  renamed_change (Make directory name number node) =
      Make (there directory) name (there number) (renamed_node there back node)
  renamed_change (AddName directory name object) = AddName (there directory) name (there object)
  renamed_change (Remove directory name object) = Remove (there directory) name (there object)
  renamed_change (Move from old to new object) = Move (there from) old (there to) new (there object)
  renamed_change (SetBytes file bytes) = SetBytes (there file) bytes
  renamed_change (SetAttr object attr) = SetAttr (there object) attr
  renamed_change (SetMark directory opaque) = SetMark (there directory) opaque
  renamed_change (CopyUp object) = CopyUp (there object)
