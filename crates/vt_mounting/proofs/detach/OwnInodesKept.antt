-- Each inode keeps a number of its own filesystem, whatever changes in the filesystems.
use Rattle.std.proofs.Common.{◌≡◌, ap, ℕ, nat_eq, eqb-true, false, Option, None, arith}
use Rattle.vt_spec.proofs.Common.{Inode, Inodes, common_steps, pinned, unpinned, used_once_less, used_once_more}
use Rattle.vt_spec.specs.Inodes.{with_inode}
use Rattle.vt_mounting.proofs.Common.{is_own_number}

abbrev pub IsOwn : ℕ → Inodes ℕ → Type 0
IsOwn count inodes = (number : ℕ) → is_own_number count number ≡ false → inodes.inode number ≡ None

module _ (count : ℕ) where
  inode_set : (inodes : Inodes ℕ) (number : ℕ) (inode : Option (Inode ℕ))
      → (is_own_number count number ≡ false → inode ≡ None)
      → IsOwn count inodes → IsOwn count (with_inode nat_eq inodes number inode)
  inode_set inodes number inode none own other e = grind (arith, common_steps, eqb-true)

  pub own_pinned : (inodes : Inodes ℕ) (number : ℕ) → IsOwn count inodes → IsOwn count (pinned nat_eq inodes number)
  own_pinned inodes number own = inode_set inodes number (used_once_more (inodes.inode number))
      (λ e. ap used_once_more (own number e)) own

  pub own_unpinned : (inodes : Inodes ℕ) (number : ℕ) → IsOwn count inodes → IsOwn count (unpinned nat_eq inodes number)
  own_unpinned inodes number own = inode_set inodes number (used_once_less (inodes.inode number))
      (λ e. ap used_once_less (own number e)) own
