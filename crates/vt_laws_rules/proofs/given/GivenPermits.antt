-- Which calls a permit is given to.
use Rattle.std.proofs.Common.{inl, inr, refl, Bool, Some, nat_eq, ℕ}
use Rattle.vt_spec.proofs.Common.{Call, Exclusive, Looks, NoCreation, OrCreate, Permit, Task, looks_of, overfills}
use Rattle.vt_laws_rules.proofs.given.Ways.{calls_are_granted}
use Rattle.vt_laws_rules.specs.Given.{IsFor, PermitsAreForTheirCalls}
use Rattle.vt_laws_rules.proofs.given.Ways.{IsGranted}
use Rattle.vt_laws_rules.proofs.given.Ways.IsGranted.{binds, closes, creates, creates_exclusively, drops_capabilities, enters_namespace, exits, forks, keeps_names, lists_directory, lists_mounts, makes_directory, makes_hard_link, makes_symlink, makes_whiteout, may_execute, mounts_overlayfs, mounts_tmpfs, moves_mount, opens, opens_existing, overwrites_file, pivots_root, reads_file, reads_part, reads_symlink, removes_directory, renames, changes_directory, changes_flags, changes_mode, changes_mark, changes_owner, changes_root, changes_type, changes_umask, shows_object, shows_symlink, unlinks, unmounts, unmounts_lazily, unshares, writes_new_file, writes_part}

-- by the ways in which calls are granted
is_for : (looks : Looks ℕ) (too_many : Permit ℕ → Bool) (task : Task ℕ) (call : Call) (permit : Permit ℕ)
    → IsGranted nat_eq looks too_many task call permit → IsFor looks task call permit
is_for looks too_many task call permit (lists_directory path _ _ _) = (path, refl)
is_for looks too_many task call permit (shows_object path _ _) = inl (path, refl)
is_for looks too_many task call permit (shows_symlink path _ _) = inr (path, refl)
is_for looks too_many task call permit (reads_symlink path _ _ _) = inr (path, refl)
is_for looks too_many task call permit (reads_file path _ _ _) = inl (path, refl)
is_for looks too_many task call permit (may_execute _ _ _ _) = refl
is_for looks too_many task call permit (overwrites_file path _ _ _ _ _ _ _) = (path, refl, refl)
is_for looks too_many task call permit (writes_new_file _ _ _ _ _ _ _ _) = refl
is_for looks too_many task call permit (makes_directory _ _ _ _ _) = refl
is_for looks too_many task call permit (makes_symlink _ _ _ _ _ _) = refl
is_for looks too_many task call permit (makes_whiteout _ _ _ _) = refl
is_for looks too_many task call permit (makes_hard_link old new _ _ _ _ _ _) = (old, new, refl, refl)
is_for looks too_many task call permit (unlinks path _ _ _ _) = (path, refl, refl)
is_for looks too_many task call permit (removes_directory path _ _ _ _) = (path, refl)
is_for looks too_many task call permit (keeps_names _ _ _ _ _ _ _) = refl
is_for looks too_many task call permit (renames old new _ _ _ _ _) = (old, new, refl)
is_for looks too_many task call permit (changes_mode path mode _ _ _) = (refl, inl (path, mode, refl, refl))
is_for looks too_many task call permit (changes_owner path uid gid _ _ _) = (refl, inr (path, uid, gid, refl, refl))
is_for looks too_many task call permit (changes_mark path _ _ _ _ _) = (path, refl, refl)
is_for looks too_many task call permit (opens path _ _ _ _ _) = (path, NoCreation, refl)
is_for looks too_many task call permit (opens_existing path _ mode _ _ _ _ _ _ _) = (path, OrCreate mode, refl)
is_for looks too_many task call permit (creates path _ mode _ _ _ _ _ _) = (path, OrCreate mode, refl, refl)
is_for looks too_many task call permit (creates_exclusively path _ mode _ _ _ _ _) = (path, Exclusive mode, refl, refl)
is_for looks too_many task call permit (reads_part number _ _ _ _) = (number, refl)
is_for looks too_many task call permit (writes_part number _ _ _ _ _) = (number, refl)
is_for looks too_many task call permit (closes _ _ _) = refl
is_for looks too_many task call permit (changes_directory path _ _ _) = (path, refl)
is_for looks too_many task call permit (changes_root path _ _ _ _) = (path, refl)
is_for looks too_many task call permit (changes_umask mode) = (mode, refl, refl)
is_for looks too_many task call permit (drops_capabilities which) = (which, refl, refl)
is_for looks too_many task call permit (forks words passed) = (words, refl, refl, passed)
is_for looks too_many task call permit exits = refl
is_for looks too_many task call permit (unshares _) = refl
is_for looks too_many task call permit (enters_namespace name _ _ _) = (name, refl)
is_for looks too_many task call permit (mounts_tmpfs path _ _ _ _ _) = (path, refl)
is_for looks too_many task call permit (mounts_overlayfs path words _ _ _ _ _ _ _ _) = (path, Some words, refl)
is_for looks too_many task call permit (binds source path _ _ _ _ _ _ _) = (source, path, refl)
is_for looks too_many task call permit (moves_mount source path _ _ _ _ _ _) = (source, path, refl)
is_for looks too_many task call permit (unmounts path _ _ _ _) = (path, refl)
is_for looks too_many task call permit (unmounts_lazily path _ _ _ _) = (path, refl)
is_for looks too_many task call permit (changes_flags path _ _ _ _ _) = (path, refl)
is_for looks too_many task call permit (changes_type path _ _ _ _ _ _) = (path, refl)
is_for looks too_many task call permit (pivots_root new put _ _ _ _ _ _) = (new, put, refl)
is_for looks too_many task call permit lists_mounts = refl

pub permits_are_for_their_calls : PermitsAreForTheirCalls
permits_are_for_their_calls fresh world task call permit e =
    is_for (looks_of nat_eq world) (overfills nat_eq fresh world task) task call permit
    (calls_are_granted nat_eq (looks_of nat_eq world) (overfills nat_eq fresh world task) task call permit e)
