-- What worked examples of lines in which an allocation may fail speak of.
use Rattle.std.specs.Prelude.{List, Some, [], codes, ℕ, ◌∷◌}
use Rattle.vt_spec.specs.Language.Script.Version.{One}
use Rattle.vt_spec.specs.Machine.Run.{first_world, numbers_for}
use Rattle.vt_spec.specs.Machine.World.{World}
use Rattle.vt_script.specs.Refused.{world_left}

-- a line that makes a directory, and a script that has it twice
abbrev pub making : List ℕ
making = codes "t mkdir /a"

abbrev pub making_twice : List (List ℕ)
making_twice = making ∷ making ∷ []

-- the world once the directory exists
abbrev pub made : World ℕ
made = world_left One first_world making (Some (numbers_for 1))
