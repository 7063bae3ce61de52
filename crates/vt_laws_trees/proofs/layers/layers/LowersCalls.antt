-- Calls leave what is locked as it was, in a filesystem that no overlay writes to.
use Rattle.std.proofs.Common.{arith, ◌≡◌, ◌≢◌, sym, ap, subst, ◌∙◌, true≢false, eqb-true, ℕ, nat_eq, true, false, ⊎_elim, None, unwrap_or, find}
use Rattle.vt_spec.proofs.Common.{Change, Fresh, Location, World, changed, common_steps, eqb_tells, filesystem_at, filesystem_changed, filesystem_numbered, is_among, is_locked, is_locked_at, mount_at, no_filesystem, with_change, with_files}
use Rattle.vt_laws_trees.specs.Layers.Layers.Untouched.{HasNoUpperLayer, IsKept, inodes_changed}
use Rattle.vt_laws_trees.proofs.layers.layers.LowersKept.{kept_itself, kept_same, others_stay}
use Rattle.vt_laws_trees.proofs.layers.layers.LowersWorld.{filesystem_there, number_of_filesystem, others_elsewhere}
use Rattle.vt_laws_trees.specs.Trees.Settling.{inode_in}

-- a filesystem is found in its list alone
pub same_filesystem : (world other : World ℕ) (number : ℕ) → other.filesystems ≡ world.filesystems
    → filesystem_numbered nat_eq other number ≡ filesystem_numbered nat_eq world number
same_filesystem world other number e =
    ap (λ list. unwrap_or (find (λ filesystem. nat_eq number filesystem.number) list) (no_filesystem number)) e

module _ (world : World ℕ) (filesystem inode : ℕ) where
  abbrev pub Stays : World ℕ → Type 0
  Stays later = IsKept (inode_in world filesystem inode) (inode_in later filesystem inode)

  pub stays_itself : Stays world
  stays_itself = kept_itself (inode_in world filesystem inode)

  pub stays_where_same : (later : World ℕ) → later.filesystems ≡ world.filesystems → Stays later
  stays_where_same later e = kept_same _ _ (ap (λ f. f.files.tree.node inode) (same_filesystem world later _ e))

  -- a change that is not of the inode, in a world with the same filesystems
  module _ (own : HasNoUpperLayer world filesystem) (fresh : Fresh ℕ) (before : World ℕ)
      (same : before.filesystems ≡ world.filesystems) (location : Location ℕ) (change : Change ℕ) where
    abbrev mounted : ℕ
    mounted = (mount_at nat_eq before location).filesystem

    plain_stays : filesystem ≡ mounted → is_among nat_eq inode (inodes_changed change) ≡ false
        → Stays (with_change nat_eq fresh before location change)
    plain_stays at other =
        subst (λ o. Stays (filesystem_changed nat_eq fresh before (filesystem_at nat_eq before location) o change)) (sym
        (ap (λ f. f.overlay) (ap (filesystem_numbered nat_eq before) (sym at) ∙ same_filesystem world before _ same)
        ∙ own.plain)) (filesystem_there (λ f. IsKept (inode_in world filesystem inode) (f.files.tree.node inode))
        before (with_files (filesystem_at nat_eq before location) (changed nat_eq _ change))
        filesystem (at ∙ sym (number_of_filesystem before mounted)) (subst (λ f. IsKept (f.files.tree.node inode)
        ((changed nat_eq (filesystem_at nat_eq before location).files change).tree.node inode))
        (ap (filesystem_numbered nat_eq before) (sym at) ∙ same_filesystem world before filesystem same)
        (others_stay _ change inode other)) (λ none. kept_same (inode_in world filesystem inode)
        None (sym (ap (λ f. f.files.tree.node inode) (sym (same_filesystem world before filesystem same) ∙ none)))))

    elsewhere_stays : filesystem ≢ mounted → Stays (with_change nat_eq fresh before location change)
    elsewhere_stays away = kept_same (inode_in world filesystem inode) _ (ap (λ f. f.files.tree.node inode)
        (others_elsewhere fresh before location change filesystem away
        (λ overlay upper is has. own.no_upper mounted overlay upper
        (cc (same_filesystem world before mounted same)) has) ∙ same_filesystem world before filesystem same))

    pub change_stays : (filesystem ≡ mounted → is_among nat_eq inode (inodes_changed change) ≡ false)
        → Stays (with_change nat_eq fresh before location change)
    change_stays other = ⊎_elim (λ t. plain_stays t.1 (other t.1)) (λ t. elsewhere_stays t.1) (eqb_tells _ mounted)

  -- what is not locked is not the inode
  module _ (locked : is_locked nat_eq world filesystem inode ≡ true) where
    pub unlocked_differs : (location : Location ℕ) → is_locked_at nat_eq world location ≡ false
        → filesystem ≡ (mount_at nat_eq world location).filesystem → nat_eq inode location.node ≡ false
    unlocked_differs location open_to_all at = grind (arith, common_steps, true≢false, eqb-true)
