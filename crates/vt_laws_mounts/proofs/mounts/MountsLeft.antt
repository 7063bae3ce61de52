-- Calls that are of no mount leave the mounts as they were.
use Rattle.std.proofs.Common.{arith, ◌≡◌, refl, ℕ, nat_eq, Bool, true, false, List, [], ◌∷◌}
use Rattle.vt_spec.proofs.Common.{Bind, Call, Change, Exit, Fresh, Lazy, Location, MountOverlay, MountPlain, MoveMount, Permit, PivotRoot, Remount, Rename, Rmdir, SetBytes, SetMark, SetType, Setns, Task, Umount, Unshare, World, apply, common_steps, evens, file_mode, is_copied_up, linking, looks_of, making, new_file, object_there, odds, overfills, pwritten, removing, with_change, with_copy}
use Rattle.vt_laws_mounts.specs.Mounts.FileCalls.{FileCallsLeaveMounts, is_of_no_mount}
use Rattle.vt_laws_mounts.proofs.mounts.MountsGranted.{policy_leaves}
use Rattle.vt_laws_rules.proofs.given.CallsGranted.{call_holds}
use Rattle.vt_laws_rules.proofs.given.Ways.{IsGranted}
use Rattle.vt_spec.specs.Machine.Judging.{directory_made, symlink_made, whiteout_made}
use Rattle.vt_laws_rules.proofs.given.Ways.IsGranted.{changes_mark, changes_mode, changes_owner, creates, creates_exclusively, makes_directory, makes_hard_link, makes_symlink, makes_whiteout, opens, opens_existing, overwrites_file, unlinks, writes_new_file, writes_part}

module _ (world : World ℕ) where
  pub mounts-with_change : (fresh : Fresh ℕ) (location : Location ℕ) (change : Change ℕ)
      → (with_change nat_eq fresh world location change).mounts ≡ world.mounts
  mounts-with_change fresh location change = grind (arith, common_steps)

  copied_leaves : (b : Bool) (fresh : Fresh ℕ) (file : Location ℕ)
      → (with_copy nat_eq b fresh world file).mounts ≡ world.mounts
  copied_leaves true fresh file = mounts-with_change fresh file _
  copied_leaves false fresh file = refl

  pwritten_leaves : (fresh : Fresh ℕ) (file : Location ℕ) (offset : ℕ) (bytes : List ℕ)
      → (pwritten nat_eq fresh world file offset bytes).mounts ≡ world.mounts
  pwritten_leaves fresh file offset [] = refl
  pwritten_leaves fresh file offset (byte ∷ bytes) = mounts-with_change fresh file _

  -- each way in which a call is granted
  granted_leaves : (fresh : Fresh ℕ) (task : Task ℕ) (call : Call) (permit : Permit ℕ) → is_of_no_mount call ≡ true
      → IsGranted nat_eq (looks_of nat_eq world) (overfills nat_eq fresh world task) task call permit
      → (apply nat_eq fresh world task permit).world.mounts ≡ world.mounts
  granted_leaves fresh task call permit e (overwrites_file path bytes place file end named there passed) =
      mounts-with_change fresh file (SetBytes file.node bytes)
  granted_leaves fresh task call permit e (writes_new_file path bytes place end named missing fits passed) =
      mounts-with_change (odds fresh) place.parent (making place (evens fresh 0) (new_file task file_mode bytes))
  granted_leaves fresh task call permit e (makes_directory path mode place end passed) =
      mounts-with_change (odds fresh) place.parent (making place (evens fresh 0) (directory_made task place mode))
  granted_leaves fresh task call permit e (makes_symlink text path place fits end passed) =
      mounts-with_change (odds fresh) place.parent (making place (evens fresh 0) (symlink_made task text))
  granted_leaves fresh task call permit e (makes_whiteout path place end passed) =
      mounts-with_change (odds fresh) place.parent (making place (evens fresh 0) (whiteout_made task))
  granted_leaves fresh task call permit e (makes_hard_link old new from place start end named passed) =
      mounts-with_change fresh place.parent (linking from.location place)
  granted_leaves fresh task call permit e (unlinks path place end named passed) =
      mounts-with_change fresh place.parent (removing place (object_there place))
  granted_leaves fresh task call permit e (changes_mode path mode here end passed) =
      mounts-with_change fresh here.location _
  granted_leaves fresh task call permit e (changes_owner path uid gid here end passed) =
      mounts-with_change fresh here.location _
  granted_leaves fresh task call permit e (changes_mark path mark here admin end passed) =
      mounts-with_change fresh here.location (SetMark here.location.node mark)
  granted_leaves fresh task call permit e (opens path access here room end passed) =
      copied_leaves (is_copied_up nat_eq world here.location access) fresh here.location
  granted_leaves fresh task call permit e (opens_existing path access mode place file room end named there passed) =
      copied_leaves (is_copied_up nat_eq world file access) fresh file
  granted_leaves fresh task call permit e (creates path access mode place room end named missing passed) =
      mounts-with_change (odds fresh) place.parent (making place (evens fresh 0) (new_file task mode []))
  granted_leaves fresh task call permit e (creates_exclusively path access mode place room end named passed) =
      mounts-with_change (odds fresh) place.parent (making place (evens fresh 0) (new_file task mode []))
  granted_leaves fresh task call permit e (writes_part number offset bytes descriptor found passed) =
      pwritten_leaves fresh descriptor.location offset bytes
  granted_leaves fresh task (Rmdir path) permit e granted = absurd cc
  granted_leaves fresh task (Rename old new) permit e granted = absurd cc
  granted_leaves fresh task Exit permit e granted = absurd cc
  granted_leaves fresh task Unshare permit e granted = absurd cc
  granted_leaves fresh task (Setns name) permit e granted = absurd cc
  granted_leaves fresh task (MountPlain path flags) permit e granted = absurd cc
  granted_leaves fresh task (MountOverlay path options flags) permit e granted = absurd cc
  granted_leaves fresh task (Bind source path recursive) permit e granted = absurd cc
  granted_leaves fresh task (MoveMount source path) permit e granted = absurd cc
  granted_leaves fresh task (Umount path) permit e granted = absurd cc
  granted_leaves fresh task (Lazy path) permit e granted = absurd cc
  granted_leaves fresh task (Remount path flags) permit e granted = absurd cc
  granted_leaves fresh task (SetType path word recursive) permit e granted = absurd cc
  granted_leaves fresh task (PivotRoot new put) permit e granted = absurd cc
  granted_leaves fresh task call permit e granted = refl

pub file_calls_leave_mounts : FileCallsLeaveMounts
file_calls_leave_mounts fresh world name call e = policy_leaves fresh world name call (λ task.
    call_holds (λ later. later.mounts ≡ world.mounts) fresh world task call refl
    (λ permit. granted_leaves world fresh task call permit e))
