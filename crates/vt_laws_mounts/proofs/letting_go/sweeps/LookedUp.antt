-- A mount, a filesystem, an inode or a group that is looked at is looked up by its number.
use Rattle.std.proofs.Common.{arith, ◌≡◌, refl, sym, ap, ◌∙◌, ℕ, nat_eq, eqb-true, Bool, true, false, cond, not, ◌&&◌, ◌||◌}
use Rattle.vt_spec.proofs.Common.{Filesystem, common_steps, filesystem_lives, filesystem_numbered, filter_alike, filter_all, map_alike}
use Rattle.vt_laws_mounts.specs.LettingGo.InUse.{is_inode_used}
use Rattle.vt_laws_mounts.specs.LettingGo.OneByOne.{FilesystemIsLookedUp, GroupIsLookedUp, InodeIsLookedUp, MountIsLookedUp, is_filesystem_used, is_inode_used_in, let_go_filesystem, let_go_inode, without_filesystem, without_inode, without_inode_at}
use Rattle.vt_laws_mounts.proofs.letting_go.Lists.{Among, found_by, map_same}
use Rattle.vt_laws_mounts.proofs.letting_go.leaving.PlacesLeft.{found_itself}

kept_used : (same lives : Bool) → (same ≡ true → lives ≡ true) → (not same || lives) ≡ true
kept_used true lives h = h refl
kept_used false lives h = refl

gone_unused : (same lives : Bool) → (same ≡ true → lives ≡ false) → (not same || lives) ≡ not same
gone_unused true lives h = h refl
gone_unused false lives h = refl

pub mount_is_looked_up : MountIsLookedUp
mount_is_looked_up world number one =
    grind (arith, common_steps, eqb-true, found_itself, filter_all, kept_used, filter_alike, gone_unused)

pub filesystem_is_looked_up : FilesystemIsLookedUp
filesystem_is_looked_up world number = by _ refl
  where
    its_use : (filesystem : Filesystem ℕ) → nat_eq filesystem.number number ≡ true
        → filesystem_lives nat_eq world filesystem ≡ is_filesystem_used world number
    its_use filesystem e = ap (is_filesystem_used world) (eqb-true filesystem.number number e)

    by : (b : Bool) → is_filesystem_used world number ≡ b
        → let_go_filesystem world number ≡ cond b world (without_filesystem world number)
    by true e = grind (arith, common_steps, filter_all, kept_used, its_use)
    by false e = grind (arith, common_steps, filter_alike, gone_unused, its_use)

pub inode_is_looked_up : InodeIsLookedUp
inode_is_looked_up world inode one = by _ refl
  where
    its_use : (filesystem : Filesystem ℕ) → Among filesystem world.filesystems → nat_eq filesystem.number inode.0 ≡ true
        → is_inode_used world filesystem inode.1 ≡ is_inode_used_in world inode
    its_use filesystem m e =
        let it : filesystem_numbered nat_eq world inode.0 ≡ filesystem =
        ap (filesystem_numbered nat_eq world) (sym (eqb-true filesystem.number inode.0 e)) ∙ found_by _ _ _ one _ m
        in ap (λ f. is_inode_used world f inode.1) (sym it)

    left_or : Filesystem ℕ → Bool → Filesystem ℕ
    left_or filesystem b = cond b (record filesystem { files = without_inode inode.1 filesystem.files }) filesystem

    stays : (filesystem : Filesystem ℕ) → (same used : Bool) → (same ≡ true → used ≡ true)
        → left_or filesystem (same && not used) ≡ filesystem
    stays filesystem true used h = ap (λ b. left_or filesystem (not b)) (h refl)
    stays filesystem false used h = refl

    goes : (filesystem : Filesystem ℕ) → (same used : Bool) → (same ≡ true → used ≡ false)
        → left_or filesystem (same && not used) ≡ left_or filesystem same
    goes filesystem true used h = ap (λ b. left_or filesystem (not b)) (h refl)
    goes filesystem false used h = refl

    by : (b : Bool) → is_inode_used_in world inode ≡ b
        → let_go_inode world inode ≡ cond b world (without_inode_at world inode)
    by true e = ap (λ filesystems. record world { filesystems = filesystems })
        (map_same _ _ (λ filesystem m. stays _ _ _ (λ same. its_use _ m same ∙ e)))
    by false e = ap (λ filesystems. record world { filesystems = filesystems })
        (map_alike _ _ _ (λ filesystem m. goes _ _ _ (λ same. its_use _ m same ∙ e)))

pub group_is_looked_up : GroupIsLookedUp
group_is_looked_up world group = grind (arith, common_steps, eqb-true)
