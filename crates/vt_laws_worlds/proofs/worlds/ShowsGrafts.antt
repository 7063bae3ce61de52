-- Binds, new mounts and moves leave mounts that show what is there, and stand on what is there.
use Rattle.std.proofs.Common.{◌≡◌, refl, sym, ap, subst, ◌∙◌, ◌⊎◌, inl, inr, ⊎_elim, ℕ, zero, suc, ◌+◌, ◌*◌, arith, nat_eq, eqb-true, eq-eqb, Bool, true, false, cond, true≢false, flat_map, filter, List, [], ◌∷◌, ◌++◌, Some, None, length, map}
use Rattle.vt_spec.proofs.Common.{Among, Filesystem, Fresh, IsWorld, Location, Mount, MountFlags, Serves, World, among-append, among-append_left, among-append_right, among-flat_map, among-from_filter, among-from_flat_map, attach, bind_tree, bindable_children, bindable_tree, bound, bound_at, children, common_steps, first_of_list, group_of, holds_of, is_directory_at, is_directory_node, is_top, mount_at, mount_numbered, mount_tree, mounted, new_directory, new_mount, none_from_among, number-mount_in, numbers_in_use, odds, plain_filesystem, root_attr, stands_on, stands_under, tree_among, tree_from, twig_of, used_by_filesystem, used_by_mount, with_new_filesystem}
use Rattle.vt_laws_mounts.proofs.attached.BindsStand.{binds_keep_numbers, moves_keep_numbers, new_mounts_keep_numbers}
use Rattle.vt_laws_mounts.proofs.mounts.MountsAttached.{graft, supplied}
use Rattle.vt_laws_mounts.proofs.mounts.Standing.{bindable_child}
use Rattle.vt_laws_trees.proofs.trees.TreesOfWorlds.{numbered}
use Rattle.vt_laws_worlds.proofs.worlds.Roots.{is_numbered, itself}
use Rattle.vt_laws_worlds.proofs.worlds.Seen.{KeepsWhatIsSeen, directory_after}
use Rattle.vt_laws_worlds.proofs.worlds.SeenMounts.{added_seen, attached_seen}
use Rattle.vt_laws_worlds.proofs.worlds.SeenTrees.{unused_by_filesystem, unused_number}
use Rattle.vt_laws_worlds.proofs.worlds.Shows.{AllShow, IsPlace, all_show_after, world_shows}
use Rattle.vt_laws_worlds.proofs.worlds.ShowsAttached.{attached_show}
use Rattle.vt_spec.proofs.FreshNumbers.{served-differ}
use Rattle.vt_laws_trees.specs.Trees.Settling.{inode_in}

module _ (world : World ℕ) (is : IsWorld nat_eq world) where
  -- the mount of a tree on which another one stands
  abbrev pub HasParent : List (Mount ℕ) → Mount ℕ → Type 0
  HasParent mounts mount = Among mount world.mounts
      × ((on : Mount ℕ) × Among on mounts × (stands_on nat_eq on.number mount ≡ true))

  child_of : (on child : Mount ℕ) → Among child (children nat_eq world.mounts on.number) → (whole : List (Mount ℕ))
      → Among on whole → HasParent whole child
  child_of on child m whole n =
      let there = among-from_filter (stands_on nat_eq on.number) world.mounts child m in
      (there.0, (on, n, there.1))

  wider : (some whole : List (Mount ℕ)) (mount : Mount ℕ) → ((x : Mount ℕ) → Among x some → Among x whole)
      → HasParent some mount → HasParent whole mount
  wider some whole mount within has = (has.0, (has.1.0, within has.1.0 has.1.1, has.1.2))

  tree_parents : (depth : ℕ) (top mount : Mount ℕ) → Among mount (tree_from nat_eq depth world.mounts top)
      → (mount ≡ top) ⊎ HasParent (tree_from nat_eq depth world.mounts top) mount
  tree_parents zero top mount m = ⊎_elim inl (λ none. absurd none) m
  tree_parents (suc depth) top mount m = ⊎_elim inl (λ later.
      let below = children nat_eq world.mounts top.number in
      let from = among-from_flat_map (tree_from nat_eq depth world.mounts) below mount later in
      inr (⊎_elim (λ e. subst (HasParent (tree_from nat_eq (suc depth) world.mounts top)) (sym e)
      (child_of top from.0 from.1 (tree_from nat_eq (suc depth) world.mounts top) (inl refl)))
      (wider (tree_from nat_eq depth world.mounts from.0) (tree_from nat_eq (suc depth) world.mounts top) mount
      (λ x n. inr (among-flat_map (tree_from nat_eq depth world.mounts) below from.0 x from.1 n)))
      (tree_parents depth from.0 mount from.2))) m

  bindable_parents : (depth : ℕ) (top mount : Mount ℕ) → Among mount (bindable_tree nat_eq depth world.mounts top)
      → (mount ≡ top) ⊎ HasParent (bindable_tree nat_eq depth world.mounts top) mount
  bindable_parents zero top mount m = ⊎_elim inl (λ none. absurd none) m
  bindable_parents (suc depth) top mount m = ⊎_elim inl (λ later.
      let below = bindable_children nat_eq world.mounts top.number in
      let from = among-from_flat_map (bindable_tree nat_eq depth world.mounts) below mount later in
      inr (⊎_elim (λ e. subst (HasParent (bindable_tree nat_eq (suc depth) world.mounts top)) (sym e)
      (child_of top from.0 (bindable_child world top.number from.0 from.1)
      (bindable_tree nat_eq (suc depth) world.mounts top) (inl refl)))
      (wider (bindable_tree nat_eq depth world.mounts from.0) (bindable_tree nat_eq (suc depth) world.mounts top) mount
      (λ x n. inr (among-flat_map (bindable_tree nat_eq depth world.mounts) below from.0 x from.1 n)))
      (bindable_parents depth from.0 mount from.2))) m

  pub bind_parents : (source : Location ℕ) (recursive : Bool) (mount : Mount ℕ)
      → Among mount (bind_tree nat_eq world source recursive)
      → (mount ≡ bound nat_eq world source) ⊎ HasParent (bind_tree nat_eq world source recursive) mount
  bind_parents source false mount m = ⊎_elim inl (λ none. absurd none) m
  bind_parents source true mount m = ⊎_elim inl (λ later.
      let whole = bind_tree nat_eq world source true in
      let under = bindable_children nat_eq world.mounts source.mount in
      let chosen = filter (stands_under nat_eq world source) under in
      let from = among-from_flat_map _ chosen mount later in
      let child = bindable_child world _ from.0
      (among-from_filter (stands_under nat_eq world source) under from.0 from.1).0 in
      inr (⊎_elim (λ e. subst (HasParent whole) (sym e) (child_of _ from.0
      (subst (λ n. Among from.0 (children nat_eq world.mounts n)) (sym (number-mount_in _ _)) child) whole (inl refl)))
      (wider _ whole mount (λ x n. inr (among-flat_map _ chosen from.0 x from.1 n)))
      (bindable_parents _ from.0 mount from.2))) m

  -- a mount of the list shows the filesystem of its number
  abbrev IsNumberedWell : Mount ℕ → Type 0
  IsNumberedWell mount = (mount_numbered nat_eq world mount.number).filesystem ≡ mount.filesystem

  listed_well : (mount : Mount ℕ) → Among mount world.mounts → IsNumberedWell mount
  listed_well mount m = cc (itself world is mount m)

  -- so its child stands on what is there
  pub stands_there_well : (mounts : List (Mount ℕ)) → ((mount : Mount ℕ) → Among mount mounts → IsNumberedWell mount)
      → (mount : Mount ℕ) → HasParent mounts mount → (at : Location ℕ) → mount.mount_point ≡ Some at
      → (on : Mount ℕ) × Among on mounts × (on.number ≡ at.mount)
      × (is_directory_node (inode_in world on.filesystem at.node) ≡ true)
  stands_there_well mounts well mount has at e =
      let on = has.1.0 in
      let number : on.number ≡ at.mount = eqb-true on.number at.mount (cc) in (
        on,
        has.1.1,
        number,
        cc (well on has.1.1, ((world_shows world is mount has.0).mount_point at e).directory),
      )

  -- Binds
  pub bound_show : (fresh : Fresh ℕ) (source place : Location ℕ) (recursive : Bool) → Serves nat_eq world fresh
      → is_directory_at nat_eq world source ≡ true → IsPlace world place
      → AllShow (bound_at nat_eq fresh world source place recursive)
  bound_show fresh source place recursive serves directory at =
      attached_show world (supplied world fresh place mounts) place false mounts
      (attached_seen world fresh place mounts) (world_shows world is) at is.mounts.one_number
      (binds_keep_numbers world fresh source place recursive serves is.mounts.one_number is.mounts.standing)
      (λ origin m. ⊎_elim
      (λ e. ap (λ (x : Mount ℕ). is_directory_node (inode_in world x.filesystem x.root)) e ∙ directory)
      (λ has. (world_shows world is origin has.0).root) (bind_parents source recursive origin m))
      (λ origin m below on e. ⊎_elim (λ top. absurd (cc (top_is_top origin top)))
      (λ has. stands_there_well mounts well origin has on e) (bind_parents source recursive origin m))
      (λ moved. absurd cc)
    where
      mounts : List (Mount ℕ)
      mounts = bind_tree nat_eq world source recursive

      well : (mount : Mount ℕ) → Among mount (bind_tree nat_eq world source recursive) → IsNumberedWell mount
      well mount m = ⊎_elim (λ e. subst IsNumberedWell (sym e)
          (ap (λ n. (mount_numbered nat_eq world n).filesystem) (number-mount_in world.mounts source.mount)))
          (λ has. listed_well mount has.0) (bind_parents source recursive mount m)

      first_is : (r : Bool) (origin : Mount ℕ) → origin ≡ bound nat_eq world source
          → is_top nat_eq (graft world (supplied world fresh place (bind_tree nat_eq world source r)) place false
          (bind_tree nat_eq world source r)) origin.number ≡ true
      first_is true origin e = eq-eqb origin.number (bound nat_eq world source).number
          (ap (λ (x : Mount ℕ). x.number) e)
      first_is false origin e = eq-eqb origin.number (bound nat_eq world source).number
          (ap (λ (x : Mount ℕ). x.number) e)

      top_is_top : (origin : Mount ℕ) → origin ≡ bound nat_eq world source
          → is_top nat_eq (graft world (supplied world fresh place mounts) place false mounts) origin.number ≡ true
      top_is_top = first_is recursive

  -- Moves
  pub moved_show : (fresh : Fresh ℕ) (mount : ℕ) (place : Location ℕ) → Serves nat_eq world fresh
      → Among (mount_numbered nat_eq world mount) world.mounts → KeepsWhatIsSeen world
      (attach nat_eq world fresh place true (mount_tree nat_eq world.mounts (mount_numbered nat_eq world mount)))
      → IsPlace world place → AllShow (attach nat_eq world fresh place true
      (mount_tree nat_eq world.mounts (mount_numbered nat_eq world mount)))
  moved_show fresh mount place serves there seen at =
      attached_show world (supplied world fresh place mounts) place true mounts seen
      (world_shows world is) at is.mounts.one_number (moves_keep_numbers world fresh
      (record { mount = mount; node = 0 }) place serves is.mounts.one_number is.mounts.standing)
      (λ origin m. (world_shows world is origin (listed origin m)).root) (λ origin m below on e. ⊎_elim
      (λ same. absurd (cc (top_is_top (length world.mounts) origin.number (ap (λ (x : Mount ℕ). x.number) same))))
      (λ has. stands_there_well mounts (λ x n. listed_well x (listed x n)) origin has on e)
      (tree_parents (length world.mounts) top origin m))
      (λ moved origin m. (is_numbered world is origin (listed origin m), listed_well origin (listed origin m)))
    where
      top : Mount ℕ
      top = mount_numbered nat_eq world mount

      mounts : List (Mount ℕ)
      mounts = mount_tree nat_eq world.mounts (mount_numbered nat_eq world mount)

      listed : (origin : Mount ℕ) → Among origin mounts → Among origin world.mounts
      listed origin m = ⊎_elim (λ e. subst (λ x. Among x world.mounts) (sym e) there) (λ l. l)
          (tree_among (length world.mounts) world.mounts (mount_numbered nat_eq world mount) origin m)

      top_is_top : (n k : ℕ) → k ≡ (mount_numbered nat_eq world mount).number
          → holds_of (λ twig. nat_eq k twig.origin.number)
          (first_of_list (map (twig_of (supplied world fresh place mounts)
          (group_of (mount_at nat_eq world place).propagation))
          (tree_from nat_eq n world.mounts (mount_numbered nat_eq world mount)))) ≡ true
      top_is_top zero k e = eq-eqb k (mount_numbered nat_eq world mount).number e
      top_is_top (suc n) k e = eq-eqb k (mount_numbered nat_eq world mount).number e

-- A new mount
module _ (world : World ℕ) (is : IsWorld nat_eq world) (fresh : Fresh ℕ) (serves : Serves nat_eq world fresh) where
  abbrev filesystem : Filesystem ℕ
  filesystem = plain_filesystem nat_eq fresh

  abbrev larger : World ℕ
  larger = with_new_filesystem world (plain_filesystem nat_eq fresh)

  not_used : (k : ℕ) (number : ℕ) → Among number (used_by_filesystem filesystem) → nat_eq (odds fresh k) number ≡ false
  not_used k number m = grind (arith, common_steps, served-differ)

  pub odds_serve : Serves nat_eq larger (odds fresh)
  odds_serve = record {
    unused = λ k. none_from_among (nat_eq (odds fresh k)) (numbers_in_use larger) (λ number m. unused k number m);
    apart = λ j k e. half j k (serves.apart (2 * j + 1) (2 * k + 1) e);
  }
    where
      half : (j k : ℕ) → 2 * j + 1 ≡ 2 * k + 1 → j ≡ k
      half j k e = omega (arith, e)

      mounts : List ℕ
      mounts = flat_map used_by_mount world.mounts

      namespaces : List ℕ
      namespaces = map (λ namespace. namespace.number) world.namespaces

      unused : (k number : ℕ) → Among number (numbers_in_use larger) → nat_eq (odds fresh k) number ≡ false
      unused k number m = ⊎_elim (λ front. ⊎_elim (λ in_mounts. unused_number world fresh serves (2 * k + 1) number
          (among-append_left (mounts ++ flat_map used_by_filesystem world.filesystems) namespaces number
          (among-append_left mounts (flat_map used_by_filesystem world.filesystems) number in_mounts)))
          (λ in_filesystems.
          let from = among-from_flat_map used_by_filesystem
          (world.filesystems ++ (filesystem ∷ [])) number in_filesystems in
          ⊎_elim (λ old. unused_by_filesystem world fresh serves (2 * k + 1) from.0 old number from.2)
          (λ new. ⊎_elim (λ e. not_used k number (subst (λ f. Among number (used_by_filesystem f)) e from.2))
          (λ none. absurd none) new) (among-append world.filesystems (filesystem ∷ []) from.0 from.1))
          (among-append mounts (flat_map used_by_filesystem (world.filesystems ++ (filesystem ∷ []))) number front))
          (λ in_namespaces. unused_number world fresh serves (2 * k + 1) number (among-append_right (mounts
          ++ flat_map used_by_filesystem world.filesystems) namespaces number in_namespaces))
          (among-append (mounts ++ flat_map used_by_filesystem
          (world.filesystems ++ (filesystem ∷ []))) namespaces number m)

  -- the new filesystem is found by its number
  found_behind : (list : List (Filesystem ℕ))
      → ((old : Filesystem ℕ) → Among old list → nat_eq filesystem.number old.number ≡ false)
      → numbered filesystem.number (list ++ (filesystem ∷ [])) ≡ filesystem
  found_behind [] none = cc (eq-eqb filesystem.number filesystem.number refl)
  found_behind (first ∷ rest) none = cc (none first (inl refl), found_behind rest (λ old m. none old (inr m)))

  pub mounted_show : (place : Location ℕ) (flags : MountFlags) → IsPlace world place
      → AllShow (mounted nat_eq (odds fresh) world place (plain_filesystem nat_eq fresh) flags)
  mounted_show place flags at = attached_show larger (supplied larger (odds fresh) place mounts) place false mounts
      (attached_seen larger (odds fresh) place mounts)
      (all_show_after world larger (added_seen filesystem world) refl (world_shows world is))
      (record { listed = at.listed; directory = directory_in at }) is.mounts.one_number
      (new_mounts_keep_numbers world (odds fresh) place filesystem flags odds_serve is.mounts.one_number)
      (λ origin m. ⊎_elim (λ e. ap (λ (x : Mount ℕ). is_directory_node (inode_in larger x.filesystem x.root)) e
      ∙ root) (λ none. absurd none) m) (λ origin m below on e. ⊎_elim
      (λ same. absurd (true≢false (sym (eq-eqb origin.number mount.number (ap (λ (x : Mount ℕ). x.number) same))
      ∙ below))) (λ none. absurd none) m) (λ moved. absurd (true≢false (sym moved)))
    where
      mount : Mount ℕ
      mount = new_mount filesystem.number filesystem.files.tree.root flags

      mounts : List (Mount ℕ)
      mounts = new_mount filesystem.number filesystem.files.tree.root flags ∷ []

      directory_in : IsPlace world place → is_directory_at nat_eq larger place ≡ true
      directory_in p = directory_after world larger (added_seen filesystem world) place p.listed p.directory

      root : is_directory_node (inode_in larger filesystem.number filesystem.files.tree.root) ≡ true
      root = ap (λ (f : Filesystem ℕ). is_directory_node (f.files.tree.node filesystem.files.tree.root))
          (found_behind world.filesystems
          (λ old m. unused_by_filesystem world fresh serves 0 old m old.number (inl refl))) ∙ ap (λ b. is_directory_node
          (cond b (Some (record { attr = root_attr; content = new_directory filesystem.files.tree.root })) None))
          (eq-eqb filesystem.files.tree.root filesystem.files.tree.root refl)
