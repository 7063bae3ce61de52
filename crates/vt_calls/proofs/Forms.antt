-- Which permits a call may be given: of a call that does not allocate one whose change does not.
use Rattle.std.proofs.Common.{nat_eq, not, refl, Bool, List, Ok, false, true, ℕ, ◌||◌, ◌≡◌}
use Rattle.vt_spec.proofs.Common.{Allowed, Call, Change, Looks, Permit, SetAttr, SetMark, SetType, Task, ToChange, ToClose, ToExit, ToPrivate, ToSetCredentials, ToSetFlags, ToSetType, ToSetUmask, ToShared, ToSlave, ToStat, ToUnbindable, TypeWord, judge}
use Rattle.vt_laws_rules.proofs.given.Ways.{calls_are_granted}
use Rattle.vt_laws_rules.proofs.given.Ways.{IsGranted}
use Rattle.vt_laws_rules.proofs.given.Ways.IsGranted.{changes_flags, changes_mark, changes_mode, changes_owner, changes_type, changes_umask, closes, drops_capabilities, exits, may_execute, shows_object, shows_symlink}
use Rattle.vt_laws_worlds.specs.Permits.Steps.{makes_shared}
use Rattle.vt_permits.specs.Allocating.{TakesMemory}

-- a change that does not allocate
abbrev pub is_free_change : Change ℕ → Bool
is_free_change (SetAttr object attr) = true
is_free_change (SetMark directory opaque) = true
is_free_change change = false

abbrev pub is_free : Permit ℕ → Bool
is_free Allowed = true
is_free (ToStat object) = true
is_free (ToChange location change) = is_free_change change
is_free (ToClose descriptor) = true
is_free (ToSetUmask umask) = true
is_free (ToSetCredentials credentials) = true
is_free ToExit = true
is_free (ToSetFlags mount flags) = true
is_free (ToSetType mount word recursive) = not (recursive || makes_shared (ToSetType mount word recursive))
is_free permit = false

free_type : (path : List ℕ) (word : TypeWord) (recursive : Bool) → ¬ TakesMemory (SetType path word recursive)
    → (mount : ℕ) → is_free (ToSetType mount word recursive) ≡ true
free_type path ToShared recursive none mount = absurd (none tt)
free_type path ToSlave true none mount = absurd (none refl)
free_type path ToSlave false none mount = refl
free_type path ToPrivate true none mount = absurd (none refl)
free_type path ToPrivate false none mount = refl
free_type path ToUnbindable true none mount = absurd (none refl)
free_type path ToUnbindable false none mount = refl

-- the permits of calls that do not allocate
free : (looks : Looks ℕ) (too_many : Permit ℕ → Bool) (task : Task ℕ) (call : Call) (permit : Permit ℕ)
    → IsGranted nat_eq looks too_many task call permit → ¬ TakesMemory call → is_free permit ≡ true
free looks too_many task call permit (shows_object _ _ _) none = refl
free looks too_many task call permit (shows_symlink _ _ _) none = refl
free looks too_many task call permit (may_execute _ _ _ _) none = refl
free looks too_many task call permit (changes_mode _ _ _ _ _) none = refl
free looks too_many task call permit (changes_owner _ _ _ _ _ _) none = refl
free looks too_many task call permit (changes_mark _ _ _ _ _ _) none = refl
free looks too_many task call permit (changes_umask _) none = refl
free looks too_many task call permit (drops_capabilities _) none = refl
free looks too_many task call permit (closes _ _ _) none = refl
free looks too_many task call permit exits none = refl
free looks too_many task call permit (changes_flags _ _ _ _ _ _) none = refl
free looks too_many task call permit (changes_type path word recursive here _ _ _) none =
    free_type path word recursive none here.location.mount
free looks too_many task call permit granted none = absurd (none tt)

pub frees : (looks : Looks ℕ) (too_many : Permit ℕ → Bool) (task : Task ℕ) (call : Call) (permit : Permit ℕ)
    → judge nat_eq looks too_many task call ≡ Ok permit → is_free permit ≡ false → ¬ TakesMemory call → ⊥
frees looks too_many task call permit e taken none =
    let there : is_free permit ≡ true = free looks too_many task call permit
    (calls_are_granted nat_eq looks too_many task call permit e) none in
    cc
