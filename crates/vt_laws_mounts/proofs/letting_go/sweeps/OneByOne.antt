-- The sweep, one thing at a time.
use Rattle.std.proofs.Common.{arith, ◌≡◌, refl, sym, ap, ◌∙◌, ℕ, nat_eq, Bool, true, false, cond, not, ◌||◌, ◌&&◌, List, [], ◌∷◌, filter, None}
use Rattle.vt_spec.proofs.Common.{Filesystem, World, and-false, common_steps, filesystem_lives, filter_alike, filter_all, has_members, is_among, mount_lives, or_parts, with_mounts}
use Rattle.vt_laws_mounts.specs.LettingGo.OneByOne.{FilesystemsGoOneByOne, GroupsGoOneByOne, MountsGoOneByOne, let_go_filesystem, let_go_filesystems, let_go_group, let_go_groups, let_go_mount, let_go_mounts}
use Rattle.vt_laws_mounts.proofs.letting_go.Lists.{among_from_list_all, any-filter, filter_twice}

-- one after the other: looked at here, or looked at later
pub looked_at : (here later lives : Bool)
    → (not (here || later) || lives) ≡ ((not here || lives) && (not later || lives))
looked_at here later lives = grind (arith, common_steps)

-- a thing that lives, or was looked at
pub kept_alike : (among lives : Bool) → (among || lives) ≡ true → lives ≡ (not among || lives)
kept_alike true true e = refl
kept_alike true false e = refl
kept_alike false true e = refl
kept_alike false false e = cc

-- Mounts
mounts_folded : (world : World ℕ) (losers : List ℕ) → let_go_mounts world losers
    ≡ with_mounts world (filter (λ mount. not (is_among nat_eq mount.number losers)
    || mount_lives nat_eq world mount) world.mounts)
mounts_folded world [] = ap (with_mounts world) (sym (filter_all (λ mount. true) world.mounts (λ mount m. refl)))
mounts_folded world (number ∷ rest) = mounts_folded (let_go_mount world number) rest ∙ ap (with_mounts world)
    (filter_twice (λ mount. not (is_among nat_eq mount.number rest) || mount_lives nat_eq world mount)
    (λ mount. not (nat_eq mount.number number) || mount_lives nat_eq world mount)
    (λ mount. not (is_among nat_eq mount.number (number ∷ rest)) || mount_lives nat_eq world mount)
    (λ mount. looked_at (nat_eq mount.number number) (is_among nat_eq mount.number rest)
    (mount_lives nat_eq world mount)) world.mounts)

pub mounts_go_one_by_one : MountsGoOneByOne
mounts_go_one_by_one world losers others = grind
    (arith, common_steps, filter_alike, kept_alike, among_from_list_all, mounts_folded)

-- Filesystems: one that is not mounted keeps none
filesystem_by_others : (world : World ℕ) (number : ℕ) (filesystem : Filesystem ℕ)
    → filesystem_lives nat_eq (let_go_filesystem world number) filesystem ≡ filesystem_lives nat_eq world filesystem
filesystem_by_others world number filesystem = grind (arith, common_steps, any-filter, or_parts, and-false)

filesystems_folded : (world : World ℕ) (losers : List ℕ) → let_go_filesystems world losers ≡ record world {
  filesystems = filter (λ filesystem. not (is_among nat_eq filesystem.number losers)
      || filesystem_lives nat_eq world filesystem) world.filesystems;
}
filesystems_folded world [] = ap (λ filesystems. record world { filesystems = filesystems })
    (sym (filter_all (λ filesystem. true) world.filesystems (λ filesystem m. refl)))
filesystems_folded world (number ∷ rest) = filesystems_folded (let_go_filesystem world number) rest
    ∙ ap (λ filesystems. record world { filesystems = filesystems })
    (filter_alike (λ filesystem. not (is_among nat_eq filesystem.number rest)
    || filesystem_lives nat_eq (let_go_filesystem world number) filesystem)
    (λ filesystem. not (is_among nat_eq filesystem.number rest) || filesystem_lives nat_eq world filesystem)
    (let_go_filesystem world number).filesystems
    (λ filesystem m. ap (λ b. not (is_among nat_eq filesystem.number rest) || b)
    (filesystem_by_others world number filesystem))
    ∙ filter_twice (λ filesystem. not (is_among nat_eq filesystem.number rest)
    || filesystem_lives nat_eq world filesystem)
    (λ filesystem. not (nat_eq filesystem.number number) || filesystem_lives nat_eq world filesystem)
    (λ filesystem. not (is_among nat_eq filesystem.number (number ∷ rest)) || filesystem_lives nat_eq world filesystem)
    (λ filesystem. looked_at (nat_eq filesystem.number number) (is_among nat_eq filesystem.number rest)
    (filesystem_lives nat_eq world filesystem)) world.filesystems)

pub filesystems_go_one_by_one : FilesystemsGoOneByOne
filesystems_go_one_by_one world losers others =
    grind (arith, common_steps, filter_alike, kept_alike, among_from_list_all, filesystems_folded)

-- Groups
groups_folded : (world : World ℕ) (losers : List ℕ) → let_go_groups world losers ≡ record world {
  master = λ other. cond (is_among nat_eq other losers && not (has_members nat_eq world.mounts other)) None
      (world.master other);
}
groups_folded world [] = refl
groups_folded world (group ∷ rest) = grind (arith, common_steps, groups_folded (let_go_group world group) rest)

pub groups_go_one_by_one : GroupsGoOneByOne
groups_go_one_by_one world losers others = grind (arith, common_steps, groups_folded world losers)
