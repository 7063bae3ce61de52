-- The flags of a mount by their bits: mount(2).
use Rattle.std.specs.Prelude.{List, [], codes, ℕ, ◌∷◌}
use Rattle.vt_spec.specs.Language.Calls as spec
use Rattle.vt_spec.specs.Rights.{has_all}
use Rattle.vt_cred.specs.declared.mount_flags.MountFlags.{MountFlags}

abbrev pub flag_bits : MountFlags → ℕ
flag_bits flags = flags.0

abbrev pub flag_table : List (List ℕ × ℕ)
flag_table = (codes "MS_RDONLY", 1) ∷ (codes "MS_NOEXEC", 2) ∷ (codes "MS_NOSYMFOLLOW", 4) ∷ []

abbrev pub flags_of : MountFlags → spec.MountFlags
flags_of flags =
    record { read_only = has_all flags.0 1; noexec = has_all flags.0 2; nosymfollow = has_all flags.0 4 }
