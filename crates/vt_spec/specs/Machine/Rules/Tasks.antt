-- The rules of calls on tasks.
use Rattle.std.specs.Prelude.{[], length, nat_le, not, ◌&&◌, ◌==◌, ◌||◌, ◌∷◌}
use Rattle.std.specs.Str.{bytes_eq}
use Rattle.vt_spec.specs.Language.Limits.{deepest_name, most_forks}
use Rattle.vt_spec.specs.Errors.{Rules}
use Rattle.vt_spec.specs.Machine.Looks.{Looks}
use Rattle.vt_spec.specs.Machine.Mounts.{Location}
use Rattle.vt_spec.specs.Machine.Rules.Conditions.{lacks, may_not, mounter_may_not}
use Rattle.vt_spec.specs.Machine.World.{Task}
use Rattle.vt_spec.specs.Rights.{Credentials, cap_setgid, cap_setuid, execute_right}
use Rattle.vt_spec.specs.declared.errors.Rule.TheVariants.{B1, C1, K1, S6}

module _ {N : Type 0} where
  -- EAGAIN of fork(2) is the profile's ENOSPC; EPERM of setuid(2), setgid(2), setgroups(2) and capset(2)
  abbrev pub fork_rules : Task N → Credentials → Rules
  fork_rules task child =
      (nat_le most_forks task.forks || nat_le deepest_name (length task.name), S6)
      ∷ (not (child.uid == task.credentials.uid) && lacks task cap_setuid, K1)
      ∷ (
        not (child.gid == task.credentials.gid && bytes_eq child.groups task.credentials.groups)
            && lacks task cap_setgid,
        K1,
      )
      ∷ (lacks task child.capabilities, K1)
      ∷ []

  -- chdir(2), chroot(2): EACCES
  abbrev pub enter_rules : Looks N → Task N → Location N → Rules
  enter_rules looks task directory =
      (may_not looks task directory execute_right, C1)
      ∷ (mounter_may_not looks directory execute_right, B1)
      ∷ []
