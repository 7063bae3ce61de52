-- Permits that change no file leave the filesystems.
use Rattle.std.proofs.Common.{arith, ◌≡◌, refl, ◌∙◌, ℕ, nat_eq, Bool, true, false, cond, List, [], ◌∷◌, true≢false}
use Rattle.vt_spec.proofs.Common.{Fresh, Mount, Permit, Task, ToChange, ToMake, ToMountOverlay, ToMountPlain, ToOpen, ToOpenNew, ToRemoveDirectory, ToRename, ToWritePart, TypeWord, World, apply, common_steps, filesystems-taken_away, folded, unmounted, unmounted_if_there, with_type}
use Rattle.vt_spec.proofs.Worlds.{filesystems-regrouped}

-- Mounts that go, or get another type, leave the filesystems

pub lazily_filesystems : (mounts : List (Mount ℕ)) (world : World ℕ)
    → (folded (unmounted_if_there nat_eq) world mounts).filesystems ≡ world.filesystems
lazily_filesystems [] world = refl
lazily_filesystems (mount ∷ mounts) world = lazily_filesystems mounts (unmounted_if_there nat_eq world mount) ∙ by _
  where
    by : (b : Bool) → (cond b (unmounted nat_eq world mount.number) world).filesystems ≡ world.filesystems
    by true = filesystems-taken_away world _
    by false = refl

pub typed_filesystems : (fresh : Fresh ℕ) (world : World ℕ) (number : ℕ) (word : TypeWord) (recursive : Bool)
    → (with_type nat_eq fresh world number word recursive).filesystems ≡ world.filesystems
typed_filesystems fresh world number word recursive = grind (arith, common_steps, filesystems-regrouped)

-- the permits of changes of files, and of mounts of new filesystems
abbrev pub changes_files : Permit ℕ → Bool
changes_files (ToChange location change) = true
changes_files (ToMake directory name node) = true
changes_files (ToRemoveDirectory parent name directory) = true
changes_files (ToRename from old to new object replaced) = true
changes_files (ToOpen file access) = true
changes_files (ToOpenNew directory name node access) = true
changes_files (ToWritePart file offset bytes) = true
changes_files (ToMountPlain destination flags) = true
changes_files (ToMountOverlay destination overlay flags) = true
changes_files permit = false

-- the others leave the filesystems
pub files_stay : (fresh : Fresh ℕ) (world : World ℕ) (task : Task ℕ) (permit : Permit ℕ) → changes_files permit ≡ false
    → (apply nat_eq fresh world task permit).world.filesystems ≡ world.filesystems
files_stay fresh world task permit e =
    grind (arith, common_steps, true≢false, filesystems-taken_away, lazily_filesystems, typed_filesystems)
