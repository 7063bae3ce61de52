-- What is kept under the numbers of filesystems.
use Rattle.std.specs.Prelude.{List, None, nat_eq, nat_lt, true, ℕ, ◌≡◌}
use Rattle.std.specs.Map.{lookup}
use Rattle.vt_location.specs.declared.numbers.FilesystemId.{FilesystemId}

-- none has a smaller number
abbrev pub AreNotOlder : {V : Type 0} → ℕ → List (FilesystemId × V) → Type 0
AreNotOlder {V} oldest kept =
    (id : FilesystemId) → nat_lt id.count oldest ≡ true → lookup (λ other. nat_eq id.count other.count) kept ≡ None
