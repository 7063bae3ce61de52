-- Capabilities by their bits: capabilities(7).
use Rattle.std.specs.Prelude.{ℕ, List, [], ◌∷◌, codes}
use Rattle.vt_spec.specs.Rights.{cap_chown, cap_dac_override, cap_dac_read_search, cap_fowner, cap_setgid, cap_setuid, cap_sys_chroot, cap_sys_admin}
use Rattle.vt_cred.specs.declared.capabilities.Caps.{Caps}

-- the bits of a set of capabilities
abbrev pub capability_bits : Caps → ℕ
capability_bits caps = caps.0

-- the capabilities of this profile, each by its name and its bit
abbrev pub capability_table : List (List ℕ × ℕ)
capability_table =
    (codes "CAP_CHOWN", cap_chown)
    ∷ (codes "CAP_DAC_OVERRIDE", cap_dac_override)
    ∷ (codes "CAP_DAC_READ_SEARCH", cap_dac_read_search)
    ∷ (codes "CAP_FOWNER", cap_fowner)
    ∷ (codes "CAP_SETGID", cap_setgid)
    ∷ (codes "CAP_SETUID", cap_setuid)
    ∷ (codes "CAP_SYS_CHROOT", cap_sys_chroot)
    ∷ (codes "CAP_SYS_ADMIN", cap_sys_admin)
    ∷ []
