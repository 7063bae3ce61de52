-- The rights of a request by their bits in a class of a mode: inode(7).
use Rattle.std.specs.Prelude.{ℕ, List, [], ◌∷◌, codes}
use Rattle.vt_spec.specs.Rights.{read_right, write_right, execute_right}
use Rattle.vt_cred.specs.declared.requests.Rights.{Rights}

-- the bits of a set of rights
abbrev pub right_bits : Rights → ℕ
right_bits rights = rights.0

-- the rights of a request, each by its name and its bit
abbrev pub right_table : List (List ℕ × ℕ)
right_table = (codes "READ", read_right) ∷ (codes "WRITE", write_right) ∷ (codes "EXECUTE", execute_right) ∷ []
