-- The rules of calls that look.
use Rattle.std.specs.Prelude.{[], not, ◌∷◌}
use Rattle.vt_spec.specs.Errors.{Rules}
use Rattle.vt_spec.specs.Machine.Looks.{Looks, is_directory_at, mount_at}
use Rattle.vt_spec.specs.Machine.Mounts.{Location}
use Rattle.vt_spec.specs.Machine.Rules.Conditions.{kind_at, may_not, mounter_may_not}
use Rattle.vt_spec.specs.Machine.World.{Task}
use Rattle.vt_spec.specs.Rights.{execute_right, read_right}
use Rattle.vt_spec.specs.declared.attributes.Kind.TheVariants.{File, Symlink, White}
use Rattle.vt_spec.specs.declared.errors.Rule.TheVariants.{B1, C1, E2, E5, E8, E9, F3}

module _ {N : Type 0} where
  -- getdents(2) after open(2): EACCES
  abbrev pub list_rules : Looks N → Task N → Location N → Rules
  list_rules looks task directory =
      (may_not looks task directory read_right, C1)
      ∷ (mounter_may_not looks directory read_right, B1)
      ∷ []

  -- open(2) for reading: EISDIR, ENXIO, EACCES
  abbrev pub read_rules : Looks N → Task N → Location N → Rules
  read_rules looks task file =
      (is_directory_at looks file, E2)
      ∷ (kind_at looks file White, E9)
      ∷ (may_not looks task file read_right, C1)
      ∷ (mounter_may_not looks file read_right, B1)
      ∷ []

  -- execve(2): EACCES
  abbrev pub exec_rules : Looks N → Task N → Location N → Rules
  exec_rules looks task file =
      (not (kind_at looks file File), E8)
      ∷ ((mount_at looks file).flags.noexec, F3)
      ∷ (may_not looks task file execute_right, C1)
      ∷ (mounter_may_not looks file execute_right, B1)
      ∷ []

  -- readlink(2): EINVAL
  abbrev pub readlink_rules : Looks N → Location N → Rules
  readlink_rules looks object = (not (kind_at looks object Symlink), E5) ∷ []
