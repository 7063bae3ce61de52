-- Filesystems, inodes and groups go in any order before the sweep.
use Rattle.std.proofs.Common.{arith, ◌≡◌, refl, sym, ap, subst, ◌∙◌, true≢false, ℕ, nat_eq, eqb-true, Bool, true, false, cond, not, ◌||◌, ◌&&◌, List, [], ◌∷◌, filter, None, is_some, All}
use Rattle.vt_spec.proofs.Common.{All-filter, All-map, Filesystem, HasName, World, any-filter_same, common_steps, directory_used, filesystem_lives, folded, is_among, is_overlay, located_in, settled}
use Rattle.vt_laws_mounts.proofs.letting_go.sweeps.WithOverlays.{upper_without, overlay_without}
use Rattle.vt_laws_trees.specs.Trees.{IsFileTree}
use Rattle.vt_laws_trees.specs.Trees.Settling.{HasFileTrees, HoldsTree}
use Rattle.vt_laws_trees.proofs.trees.TreesForgotten.{kept_file_tree, named_is_used}
use Rattle.vt_laws_mounts.specs.LettingGo.InUse.{HasTrees, IsListedTree, MountsInUse, has_upper_in, is_inode_used}
use Rattle.vt_laws_mounts.specs.LettingGo.OneByOne.{Inode, let_go_filesystem}
use Rattle.vt_laws_mounts.specs.LettingGo.Overlays.{let_go_in}
use Rattle.vt_laws_mounts.proofs.letting_go.Lists.{all_from_among, among-from_filter, among_from_all, filter_alike, is_among_numbers}
use Rattle.vt_laws_mounts.proofs.letting_go.sweeps.InUse.{mounts_stay, nothing_goes}
use Rattle.vt_laws_mounts.proofs.letting_go.sweeps.Merged.{HasReals, without_all}
use Rattle.vt_laws_worlds.specs.Seen.SweptBefore.{AnyMayGoBefore, AnyOrderIsTheSweep, HasMountsInUse, LocationsStay, Loser, let_go_loser}
use Rattle.vt_laws_worlds.specs.Seen.SweptBefore.Loser.{AFilesystem, AGroup, AnInode}
use Rattle.vt_laws_worlds.proofs.seen.swept.Inodes.{inodes_may_go_before, let_go_is_less, went, went_unused}
use Rattle.vt_laws_worlds.proofs.seen.swept.Stages.{less, reals_less, with_less}
use Rattle.vt_laws_worlds.proofs.seen.swept.Wholes.{filesystems_may_go_before, groups_may_go_before}

-- A tree without inodes that are not its root and have no name is a tree.
module _ (gone : ℕ → Bool) (f : Filesystem ℕ) (tree : IsFileTree f.files) (root : gone f.files.tree.root ≡ false)
    (named : (number : ℕ) → HasName f.files.tree number → gone number ≡ false) where
  abbrev stays : List ℕ
  stays = filter (λ k. not (gone k)) f.files.numbers

  among_stays : (k : ℕ) → is_among nat_eq k stays ≡ (not (gone k) && is_some (f.files.tree.node k))
  among_stays k = cc (
    any-filter_same (nat_eq k) (λ m. not (gone m)) (not (gone k))
        (λ m same. ap (λ n. not (gone n)) (sym (eqb-true k m same))) f.files.numbers,
    tree.numbers k,
  )

  holds : HoldsTree stays f.files
  holds = record {
    root = among_stays f.files.tree.root ∙ (λ i. not (root i)
        && directory_used f.files.tree f.files.tree.root tree.tree.root_directory i);
    named = λ k has. among_stays k ∙ (λ i. not (named k has i) && tree.tree.alive has.0 has.1 k has.2 i);
  }

  same_node : (k : ℕ) → cond (is_among nat_eq k stays) (f.files.tree.node k) None
      ≡ cond (gone k) None (f.files.tree.node k)
  same_node k = grind (arith, common_steps, among_stays)

  same_numbers : filter (λ k. is_among nat_eq k stays) f.files.numbers ≡ stays
  same_numbers = filter_alike (λ k. is_among nat_eq k stays) (λ k. not (gone k)) f.files.numbers (λ k m.
      among_stays k ∙ ap (λ b. not (gone k) && b) (sym (tree.numbers k) ∙ is_among_numbers k f.files.numbers m)
      ∙ by (gone k))
    where
      by : (b : Bool) → (not b && true) ≡ not b
      by true = refl
      by false = refl

  file_tree_less : IsFileTree (without_all gone f).files
  file_tree_less = subst IsFileTree (λ i. record {
    tree = record { root = f.files.tree.root; node = λ k. same_node k i };
    numbers = same_numbers i;
  }) (kept_file_tree stays f.files holds tree)

locations_stay : (world : World ℕ) → MountsInUse world → LocationsStay world
locations_stay world all filesystem number is =
    subst (λ w. is_among nat_eq number (located_in nat_eq w filesystem) ≡ true) (mounts_stay world all) is

listed : (world : World ℕ) → HasFileTrees world → HasTrees world
listed world trees = all_from_among (λ (f : Filesystem ℕ). IsListedTree f.files) world.filesystems (λ f m.
    let tree = among_from_all (λ (g : Filesystem ℕ). IsFileTree g.files) world.filesystems trees f m in
    record { tree = tree.tree; numbers = tree.numbers })

-- What is asked of the world holds when one is looked at.
abbrev UpperApart : World ℕ → Filesystem ℕ → Type 0
UpperApart world f = is_overlay f ≡ true → All (λ g. has_upper_in f.number g ≡ false) world.filesystems

filesystem_kept : (world : World ℕ) (number : ℕ) → HasMountsInUse world
    → HasMountsInUse (let_go_filesystem world number)
filesystem_kept world number can = record {
  mounts = can.mounts;
  trees = All-filter lives (λ (f : Filesystem ℕ). IsFileTree f.files) world.filesystems can.trees;
  uppers = all_from_among (UpperApart (let_go_filesystem world number)) (filter lives world.filesystems) (λ f m is.
      All-filter lives (λ g. has_upper_in f.number g ≡ false) world.filesystems
      (among_from_all (UpperApart world) world.filesystems can.uppers f
      (among-from_filter lives world.filesystems f m).0 is));
  reals = All-filter lives HasReals world.filesystems can.reals;
}
  where
    lives : Filesystem ℕ → Bool
    lives f = not (nat_eq f.number number) || filesystem_lives nat_eq world f

module _ (chosen : Filesystem ℕ → Bool) (world : World ℕ) (inode : Inode) (can : HasMountsInUse world) where
  abbrev goes : Filesystem ℕ → ℕ → Bool
  goes = went chosen world inode

  -- what is used does not go
  used_stays : (f : Filesystem ℕ) (k : ℕ) → is_inode_used world f k ≡ true → goes f k ≡ false
  used_stays f k used = grind (arith, common_steps, true≢false, went_unused)

  tree_kept : (f : Filesystem ℕ) → IsFileTree f.files → IsFileTree (less goes f).files
  tree_kept f tree =
      let used = named_is_used world f tree in
      file_tree_less (goes f) f tree (used_stays f f.files.tree.root used.root)
      (λ k has. used_stays f k (used.named k has))

  upper_kept : (f : Filesystem ℕ) → UpperApart world f → UpperApart (with_less goes world) (less goes f)
  upper_kept f apart is = All-map (λ g. has_upper_in f.number g ≡ false) (less goes) world.filesystems
      (all_from_among (λ g. has_upper_in f.number (less goes g) ≡ false) world.filesystems (λ g m.
      upper_without f.number (goes g) g ∙ among_from_all (λ x. has_upper_in f.number x ≡ false) world.filesystems
      (apart (sym (overlay_without (goes f) f) ∙ is)) g m))

  inode_kept : HasMountsInUse (let_go_in chosen world inode)
  inode_kept = subst HasMountsInUse (sym (let_go_is_less chosen world inode)) (record {
    mounts = can.mounts;
    trees = All-map (λ (f : Filesystem ℕ). IsFileTree f.files) (less goes) world.filesystems
        (all_from_among (λ f. IsFileTree (less goes f).files) world.filesystems (λ f m.
        tree_kept f (among_from_all (λ (g : Filesystem ℕ). IsFileTree g.files) world.filesystems can.trees f m)));
    uppers = All-map (UpperApart (with_less goes world)) (less goes) world.filesystems
        (all_from_among (λ f. UpperApart (with_less goes world) (less goes f)) world.filesystems (λ f m.
        upper_kept f (among_from_all (UpperApart world) world.filesystems can.uppers f m)));
    reals = All-map HasReals (less goes) world.filesystems
        (all_from_among (λ f. HasReals (less goes f)) world.filesystems (λ f m.
        reals_less (goes f) f (among_from_all HasReals world.filesystems can.reals f m)));
  })

loser_kept : (world : World ℕ) (loser : Loser) → HasMountsInUse world → HasMountsInUse (let_go_loser world loser)
loser_kept world (AFilesystem number) can = filesystem_kept world number can
loser_kept world (AnInode chosen inode) can = inode_kept chosen world inode can
loser_kept world (AGroup group) can = record {
  mounts = can.mounts;
  trees = can.trees;
  uppers = can.uppers;
  reals = can.reals;
}

loser_before : (world : World ℕ) (loser : Loser) → HasMountsInUse world
    → settled nat_eq (let_go_loser world loser) ≡ settled nat_eq world
loser_before world (AFilesystem number) can = filesystems_may_go_before world number
loser_before world (AnInode chosen inode) can =
    inodes_may_go_before chosen world inode (listed world can.trees) can.uppers can.reals
    (locations_stay world can.mounts)
loser_before world (AGroup group) can = groups_may_go_before world group

pub any_may_go_before : AnyMayGoBefore
any_may_go_before world [] can = refl
any_may_go_before world (loser ∷ rest) can =
    any_may_go_before (let_go_loser world loser) rest (loser_kept world loser can) ∙ loser_before world loser can

pub any_order_is_the_sweep : AnyOrderIsTheSweep
any_order_is_the_sweep world losers can all =
    sym (nothing_goes (folded let_go_loser world losers) all) ∙ any_may_go_before world losers can
