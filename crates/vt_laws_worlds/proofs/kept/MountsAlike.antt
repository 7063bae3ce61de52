-- Worlds with the same mounts and masters, as changes of files and of tasks leave them.
use Rattle.std.proofs.Common.{arith, ◌≡◌, refl, sym, true, false, nat_eq, ℕ, Bool, List, [], ◌∷◌}
use Rattle.vt_spec.proofs.Common.{Change, CopyUp, Fresh, Location, MountInvariants, SetBytes, Stands, World, all_from_among, among_from_all, at_root, bytes_in, common_steps, node_at, on_parent, overwritten, pwritten, with_change, with_copy}

-- Standing is of the mounts alone.
stands_alike : (a b : World ℕ) → a.mounts ≡ b.mounts → (number : ℕ) → Stands nat_eq a number → Stands nat_eq b number
stands_alike a b same number (at_root it e) = at_root it (cc)
stands_alike a b same number (on_parent it place e f stands) =
    on_parent it place (cc) (cc) (stands_alike a b same _ stands)

-- The invariants of mounts are of the mounts and of the masters of groups.
pub same_mounts : (a b : World ℕ) → a.mounts ≡ b.mounts → a.master ≡ b.master → MountInvariants nat_eq a
    → MountInvariants nat_eq b
same_mounts a b mounts master kept = grind (arith, common_steps, all_from_among, stands_alike, among_from_all)

-- All but files stays.
pub record IsOfFiles (before after : World ℕ) : Type 0 where
  pub mounts : after.mounts ≡ before.mounts
  pub master : after.master ≡ before.master
  pub namespaces : after.namespaces ≡ before.namespaces
  pub tasks : after.tasks ≡ before.tasks

pub itself_of_files : (world : World ℕ) → IsOfFiles world world
itself_of_files world = record { mounts = refl; master = refl; namespaces = refl; tasks = refl }

pub mounts_of_files : (before after : World ℕ) → IsOfFiles before after → MountInvariants nat_eq before
    → MountInvariants nat_eq after
mounts_of_files before after same kept = same_mounts before after (sym same.mounts) (sym same.master) kept

module _ (fresh : Fresh ℕ) (world : World ℕ) where
  pub change_of_files : (location : Location ℕ) (change : Change ℕ)
      → IsOfFiles world (with_change nat_eq fresh world location change)
  change_of_files location change = grind (arith, common_steps, itself_of_files)

  pub copy_of_files : (copies : Bool) (file : Location ℕ) → IsOfFiles world (with_copy nat_eq copies fresh world file)
  copy_of_files true file = change_of_files file (CopyUp file.node)
  copy_of_files false file = itself_of_files world

  pub writing_of_files : (file : Location ℕ) (offset : ℕ) (bytes : List ℕ)
      → IsOfFiles world (pwritten nat_eq fresh world file offset bytes)
  writing_of_files file offset [] = itself_of_files world
  writing_of_files file offset (byte ∷ bytes) = change_of_files file (SetBytes file.node
      (overwritten offset (byte ∷ bytes) (bytes_in (node_at nat_eq world file))))
