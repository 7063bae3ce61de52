-- Who may do what to an object, in the words of path_resolution(7), "Permissions", and capabilities(7).
use Rattle.std.specs.Prelude.{ℕ, ◌≡◌, ◌+◌, ◌⊎◌, ◌↔◌, Contains, IsBitSet}
use Rattle.vt_spec.specs.declared.attributes.Kind.{Kind}
use Rattle.vt_spec.specs.declared.attributes.Kind.TheVariants.{Dir}
use Rattle.vt_spec.specs.declared.attributes.Attr.{Attr}
use Rattle.vt_spec.specs.Rights.{Credentials, read_right, execute_right, cap_dac_override, cap_dac_read_search, cap_fowner, owner_bits, group_bits, other_bits}

-- each bit of the wanted set is a bit of the other: all of it, and not a part
abbrev pub Includes : ℕ → ℕ → Type 0
Includes set wanted = (place : ℕ) → IsBitSet wanted place → IsBitSet set place

-- what is left has just those bits of a set that are not taken away
abbrev pub IsWithout : ℕ → ℕ → ℕ → Type 0
IsWithout set taken left = (place : ℕ) → IsBitSet left place ↔ (IsBitSet set place × ¬ IsBitSet taken place)

-- the caller has the capability
abbrev pub HasCapability : Credentials → ℕ → Type 0
HasCapability who capability = Includes who.capabilities capability

-- the caller's user is the object's owner
abbrev pub IsOwner : Credentials → Attr → Type 0
IsOwner who attr = who.uid ≡ attr.uid

-- the group is the caller's own, or one of the supplementary groups
abbrev pub IsInGroup : Credentials → ℕ → Type 0
IsInGroup who gid = (who.gid ≡ gid) ⊎ Contains who.groups gid

-- The owner has what the owner bits grant, and no more. Whoever else is in the object's group has what the
-- group bits grant, and no more. All others have what the other bits grant.
abbrev pub ClassGrants : Credentials → Attr → ℕ → Type 0
ClassGrants who attr wanted =
    (IsOwner who attr × Includes (owner_bits attr.mode) wanted)
    ⊎ ((¬ IsOwner who attr) × IsInGroup who attr.gid × Includes (group_bits attr.mode) wanted)
    ⊎ ((¬ IsOwner who attr) × (¬ IsInGroup who attr.gid) × Includes (other_bits attr.mode) wanted)

-- one of the three classes may execute
abbrev pub HasExecuteBit : ℕ → Type 0
HasExecuteBit mode =
    Includes (owner_bits mode) execute_right
    ⊎ Includes (group_bits mode) execute_right
    ⊎ Includes (other_bits mode) execute_right

-- CAP_DAC_OVERRIDE grants everything on a directory, everything without execute, and execute where one of the
-- three classes has it
abbrev pub OverrideGrants : Credentials → Attr → Kind → ℕ → Type 0
OverrideGrants who attr kind wanted =
    HasCapability who cap_dac_override
    × ((kind ≡ Dir) ⊎ (¬ Includes wanted execute_right) ⊎ HasExecuteBit attr.mode)

-- CAP_DAC_READ_SEARCH grants read of everything, and read and search of a directory
abbrev pub ReadSearchGrants : Credentials → Kind → ℕ → Type 0
ReadSearchGrants who kind wanted =
    HasCapability who cap_dac_read_search
    × (Includes read_right wanted ⊎ ((kind ≡ Dir) × Includes (read_right + execute_right) wanted))

-- one of the three grants all that is wanted: the class that counts, CAP_DAC_OVERRIDE or CAP_DAC_READ_SEARCH.
-- What two of them grant in part is not added up
abbrev pub Allows : Credentials → Attr → Kind → ℕ → Type 0
Allows who attr kind wanted =
    ClassGrants who attr wanted ⊎ OverrideGrants who attr kind wanted ⊎ ReadSearchGrants who kind wanted

-- the caller owns the object, or CAP_FOWNER stands for that: chmod(2)
abbrev pub Owns : Credentials → Attr → Type 0
Owns who attr = IsOwner who attr ⊎ HasCapability who cap_fowner

-- the mode has the bit S_ISVTX, 0o1000: inode(7)
abbrev pub IsSticky : ℕ → Type 0
IsSticky mode = IsBitSet mode 9

-- the directory is not sticky, or the caller owns the object or the directory, or has CAP_FOWNER: unlink(2), EPERM
abbrev pub MayDeleteSticky : Credentials → Attr → Attr → Type 0
MayDeleteSticky who directory object =
    (¬ IsSticky directory.mode) ⊎ IsOwner who object ⊎ IsOwner who directory ⊎ HasCapability who cap_fowner
