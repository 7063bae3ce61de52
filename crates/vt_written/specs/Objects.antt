-- The objects of answers, as they are written one after the other.
use Rattle.std.specs.Prelude.{List, [], false, ℕ, ◌++◌, ◌∷◌, ◌≡◌, ◌⊎◌}
use Rattle.vt_written.specs.declared.text.Text.{Text}

-- a text was appended, and no allocation failed before
pub record Adds (text : List ℕ) (old new : Text) : Type 0 where
  pub not_failed : old.failed ≡ false
  pub bytes : new.bytes.items ≡ old.bytes.items ++ text

-- If no allocation failed, this text was appended.
abbrev pub Pushes : List ℕ → Text → Text → Type 0
Pushes text old new = new.failed ≡ false → Adds text old new

-- If no allocation failed, some text was appended.
abbrev pub PushesSome : Text → Text → Type 0
PushesSome old new = new.failed ≡ false → (text : List ℕ) × Adds text old new

-- If no allocation failed, a text was appended that ends with a brace and a newline, as an object does.
abbrev pub PushesEnd : Text → Text → Type 0
PushesEnd old new = new.failed ≡ false → (text : List ℕ) × Adds (text ++ 125 ∷ 10 ∷ []) old new

-- If no allocation failed, an object was appended: a line between braces.
abbrev pub PushesObject : Text → Text → Type 0
PushesObject old new = new.failed ≡ false → (text : List ℕ) × Adds (123 ∷ text ++ 125 ∷ 10 ∷ []) old new
