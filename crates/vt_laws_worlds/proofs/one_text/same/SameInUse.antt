-- What is in use is the same in worlds that are the same.
use Rattle.std.proofs.Common.{◌≡◌, sym, ◌∙◌, ℕ, nat_eq, true, ◌||◌, is_some}
use Rattle.vt_spec.proofs.Common.{Filesystem, Location, Mount, SameFilesystem, World, filesystem_lives, list_all, list_any, list_any-IsPermutation, used_in}
use Rattle.vt_laws_mounts.specs.LettingGo.InUse.{AllInUse, is_inode_used}
use Rattle.vt_laws_trees.proofs.runs.answered.AlikeChanges.{locations_same}
use Rattle.vt_laws_trees.proofs.runs.answered.AlikeSettled.{lives_same, used_permuted}
use Rattle.vt_laws_trees.proofs.runs.answered.AlikeWorlds.{Alike, with_mounts_of}
use Rattle.vt_laws_trees.proofs.runs.EachHas.{each_all, each_holds}
use Rattle.vt_laws_trees.proofs.runs.Permuted.{list_all-IsPermutation}

-- Two worlds with the very same mounts
module _ (one second : World ℕ) (same : Alike one (with_mounts_of one second)) where
  abbrev other : World ℕ
  other = with_mounts_of one second

  inodes_used : (a b : Filesystem ℕ) → SameFilesystem a b
      → list_all (is_inode_used one a) a.files.numbers ≡ list_all (is_inode_used other b) b.files.numbers
  inodes_used a b alike =
      list_all-IsPermutation (is_inode_used one a) a.files.numbers b.files.numbers alike.files.numbers
      ∙ (λ i. list_all (λ number. list_any-IsPermutation (nat_eq number) (used_in nat_eq one a) (used_in nat_eq other b)
      (used_permuted one other same a b alike) i) b.files.numbers)

  pub in_use : AllInUse one → AllInUse other
  in_use is = record {
    mounts = (λ i. list_all (λ (mount : Mount ℕ). is_some mount.namespace
        || list_any (λ (location : Location ℕ). nat_eq mount.number location.mount)
        (sym (locations_same one other same) i)) one.mounts) ∙ is.mounts;
    filesystems =
        sym (each_all SameFilesystem (filesystem_lives nat_eq one) (filesystem_lives nat_eq other)
        (lives_same one other same)
        one.filesystems other.filesystems same.filesystems) ∙ is.filesystems;
    inodes = each_holds SameFilesystem (λ f. list_all (is_inode_used one f) f.files.numbers ≡ true)
        (λ f. list_all (is_inode_used other f) f.files.numbers ≡ true)
        (λ a b alike holds. sym (inodes_used a b alike) ∙ holds) one.filesystems other.filesystems same.filesystems
        is.inodes;
    groups = is.groups;
  }
