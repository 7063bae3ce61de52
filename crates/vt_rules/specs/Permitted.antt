-- What is permitted where the walk of a call ends: by its last table, with the permit that it leads to.
use Rattle.std.specs.Prelude.{Bool, List, Ok, [], length, nat_lt, ℕ, ◌∷◌}
use Rattle.vt_spec.specs.declared.attributes.Attr.{Attr}
use Rattle.vt_spec.specs.declared.errors.Rule.TheVariants.{E6}
use Rattle.vt_spec.specs.Errors.{unless}
use Rattle.vt_spec.specs.Language.Calls.{Access}
use Rattle.vt_spec.specs.Language.Changes.Change.{SetAttr, SetBytes}
use Rattle.vt_spec.specs.Language.Limits.{largest_file}
use Rattle.vt_spec.specs.Machine.Judging.{Judgement, make_permit, open_new_permit, unnumbered}
use Rattle.vt_spec.specs.Machine.Looks.{Looks}
use Rattle.vt_spec.specs.Machine.Mounts.{Location}
use Rattle.vt_spec.specs.Machine.Permits.Permit.{ToChange, ToOpen}
use Rattle.vt_spec.specs.Machine.Rows.{file_mode, new_file}
use Rattle.vt_spec.specs.Machine.Rules.Attributes.{attr_rules}
use Rattle.vt_spec.specs.Machine.Rules.Descriptors.{open_rules}
use Rattle.vt_spec.specs.Machine.Rules.Making.{make_rules, rewrite_rules}
use Rattle.vt_spec.specs.Machine.Walking.{Place}
use Rattle.vt_spec.specs.Machine.World.{Task}

-- other attributes of an object, by one who is allowed to set them: chmod(2), chown(2)
abbrev pub attr_permit : Looks ℕ → Location ℕ → (permitted : Bool) → Attr → Judgement ℕ
attr_permit looks object permitted attr =
    unless (attr_rules looks object permitted attr) (Ok (ToChange object (SetAttr object.node attr)))

-- a file that exists is opened: open(2)
abbrev pub open_file_permit : Looks ℕ → Task ℕ → Location ℕ → Access → Judgement ℕ
open_file_permit looks task file access = unless (open_rules looks task file access) (Ok (ToOpen file access))

-- a file is made and opened: open(2) with O_CREAT
abbrev pub create_file_permit : Looks ℕ → Task ℕ → Place ℕ → Access → ℕ → Judgement ℕ
create_file_permit looks task place access mode =
    unless (make_rules looks task place (unnumbered place (new_file task mode [])))
    (Ok (open_new_permit task place access mode))

-- the whole content of a file that exists: open(2) with O_TRUNC, then write(2)
abbrev pub rewrite_permit : Looks ℕ → Task ℕ → Location ℕ → List ℕ → Judgement ℕ
rewrite_permit looks task file bytes =
    unless (rewrite_rules looks task file bytes) (Ok (ToChange file (SetBytes file.node bytes)))

-- a file is made with this content: open(2) with O_CREAT, then write(2)
abbrev pub new_file_permit : Looks ℕ → Task ℕ → Place ℕ → List ℕ → Judgement ℕ
new_file_permit looks task place bytes =
    unless ((nat_lt largest_file (length bytes), E6)
    ∷ make_rules looks task place (unnumbered place (new_file task file_mode bytes)))
    (Ok (make_permit place (new_file task file_mode bytes)))
