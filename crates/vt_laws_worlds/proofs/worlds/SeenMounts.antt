-- Changes of mounts keep what is seen: mounts that are taken away, attached, moved, copied or changed.
use Rattle.std.proofs.Common.{arith, ◌≡◌, refl, sym, ap, subst, ◌∙◌, inl, inr, ⊎_elim, ℕ, zero, suc, nat_eq, eqb-true, Bool, true, false, length, List, [], ◌∷◌, ◌++◌, map}
use Rattle.vt_spec.proofs.Common.{Among, Copies, Filesystem, Fresh, Location, Mount, MountFlags, Stands, TypeWord, World, among-from_filter, among-from_flat_map, among-from_map, among_numbers, at_root, attach, common_steps, copy_at, deepest_first, filesystems-taken_away, folded, graft_of, group_of, is_among, is_among_left, is_among_numbers, lazily_unmounted, mount_at, mount_in, mount_numbered, mount_tree, mounted, new_mount, number-mount_in, number-pivoted_mount, on_parent, parts_of, pivoted, pivoted_mount, stands_on, taken_away, tree_among, tree_from, twig_of, unmounted_if_there, with_mount, with_mounts, with_new_filesystem, with_type}
use Rattle.vt_laws_mounts.specs.Mounts.Attaching.{OneNumberAMount, is_mount, numbers_of}
use Rattle.vt_laws_mounts.proofs.mounts.MountsAttached.{arrives, arriving, attach_keeps_mounts, found_attached, moved_mounts_show, moved_ones, numbers_attached, others, push_keeps, supplied}
use Rattle.vt_laws_mounts.proofs.mounts.MountsFound.{found-map_there, numbers-map}
use Rattle.vt_laws_mounts.proofs.mounts.MountsReplaced.{found-append, found_itself, numbers-with_mount, related-with_mount}
use Rattle.vt_laws_mounts.proofs.mounts.MountsRetyped.{numbers_with_type, type_is_all_that_changes, types_are_of_mounts}
use Rattle.vt_laws_mounts.proofs.ends.Unmounting.{numbers_taken}
use Rattle.vt_laws_mounts.proofs.ends.UnmountingEnds.{others_are_kept, taken_are_detached}
use Rattle.vt_laws_trees.proofs.trees.TreesOfWorlds.{numbered}
use Rattle.vt_laws_worlds.proofs.worlds.Seen.{KeepsKind, KeepsView, KeepsWhatIsSeen, is_in, same_seen, same_view, seen_alike, seen_by_mounts, seen_on}

-- Mounts are taken away
module _ (world : World ℕ) (gone : List ℕ) where
  taken_view : (number : ℕ) → KeepsView (mount_numbered nat_eq world number)
      (mount_numbered nat_eq (taken_away nat_eq world gone) number)
  taken_view number = grind (arith, common_steps, taken_are_detached, others_are_kept)

  pub taken_seen : KeepsWhatIsSeen world (taken_away nat_eq world gone)
  taken_seen = seen_by_mounts world _ (filesystems-taken_away world gone)
      (λ number is. cc (numbers_taken world gone)) (λ number is. taken_view number)

lazy_step : (world : World ℕ) (mount : Mount ℕ) → KeepsWhatIsSeen world (unmounted_if_there nat_eq world mount)
lazy_step world mount = grind (arith, common_steps, taken_seen, same_seen)

lazy_steps : (mounts : List (Mount ℕ)) (world : World ℕ)
    → KeepsWhatIsSeen world (folded (unmounted_if_there nat_eq) world mounts)
lazy_steps [] world = same_seen world
lazy_steps (mount ∷ mounts) world =
    let next = unmounted_if_there nat_eq world mount in
    seen_on world next _ (lazy_step world mount) (lazy_steps mounts next)

pub lazy_seen : (world : World ℕ) (number : ℕ) → KeepsWhatIsSeen world (lazily_unmounted nat_eq world number)
lazy_seen world number =
    lazy_steps (deepest_first nat_eq world (mount_tree nat_eq world.mounts (mount_numbered nat_eq world number))) world

pub ended_seen : (world : World ℕ) (gone : List ℕ) (after : World ℕ)
    → after.mounts ≡ (taken_away nat_eq world gone).mounts
    → after.filesystems ≡ (taken_away nat_eq world gone).filesystems → KeepsWhatIsSeen world after
ended_seen world gone after mounts filesystems =
    seen_on world _ after (taken_seen world gone) (seen_alike _ after mounts filesystems)

-- Mounts are attached
pub attached_seen : (world : World ℕ) (fresh : Fresh ℕ) (place : Location ℕ) (mounts : List (Mount ℕ))
    → KeepsWhatIsSeen world (attach nat_eq world fresh place false mounts)
attached_seen world fresh place mounts =
    let new = supplied world fresh place mounts in
    seen_by_mounts world _ refl (λ number is. cc (
      numbers_attached world new place false mounts,
      is_among_left number (numbers_of world.mounts) (numbers_of (others world new place false mounts)) is,
    )) (λ number is.
    let kept = attach_keeps_mounts world fresh place mounts number is in
    record {
      filesystem = kept.filesystem;
      root = kept.root;
      namespace = λ own in_it. cc;
    })

-- a filesystem is added
module _ (filesystem : Filesystem ℕ) where
  added_keeps : (list : List (Filesystem ℕ)) (number k : ℕ) → KeepsKind ((numbered number list).files.tree.node k)
      ((numbered number (list ++ (filesystem ∷ []))).files.tree.node k)
  added_keeps [] number k test e = cc
  added_keeps (first ∷ rest) number k test e = grind (arith, common_steps, added_keeps rest number k test)

  pub added_seen : (world : World ℕ) → KeepsWhatIsSeen world (with_new_filesystem world filesystem)
  added_seen world = record {
    listed = λ number is. is;
    views = λ number is. same_view (mount_numbered nat_eq world number);
    nodes = added_keeps world.filesystems;
  }

pub mounted_seen : (world : World ℕ) (fresh : Fresh ℕ) (place : Location ℕ) (filesystem : Filesystem ℕ)
    (flags : MountFlags) → KeepsWhatIsSeen world (mounted nat_eq fresh world place filesystem flags)
mounted_seen world fresh place filesystem flags =
    seen_on world _ _ (added_seen _ world) (attached_seen (with_new_filesystem world filesystem) fresh place
    (new_mount filesystem.number filesystem.files.tree.root flags ∷ []))

-- Mounts change their types or flags
pub retyped_seen : (world : World ℕ) (fresh : Fresh ℕ) (one : ℕ) (word : TypeWord) (recursive : Bool)
    → KeepsWhatIsSeen world (with_type nat_eq fresh world one word recursive)
retyped_seen world fresh one word recursive = seen_by_mounts world _ (types_are_of_mounts world fresh one word
    recursive).filesystems (λ number is. cc (numbers_with_type world fresh one word recursive)) (λ number is.
    let kept = type_is_all_that_changes world fresh one word recursive number in
    record {
      filesystem = kept.filesystem;
      root = kept.root;
      namespace = λ own in_it. cc;
    })

pub flags_seen : (world : World ℕ) (one : ℕ) (flags : MountFlags) → KeepsWhatIsSeen world
    (with_mounts world (with_mount nat_eq world.mounts (record (mount_numbered nat_eq world one) { flags = flags })))
flags_seen world one flags =
    let new = record (mount_numbered nat_eq world one) { flags = flags } in
    seen_by_mounts world (with_mounts world (with_mount nat_eq world.mounts new)) refl
    (λ number is. ap (is_among nat_eq number) (numbers-with_mount new world.mounts) ∙ is) (λ number is.
    related-with_mount KeepsView same_view world.mounts new
    (subst (λ n. KeepsView (mount_in nat_eq world.mounts n) new) (sym (number-mount_in world.mounts one))
    (record { filesystem = refl; root = refl; namespace = λ own in_it. in_it })) number)

-- The root is pivoted
module _ (root new : Mount ℕ) (put : Location ℕ) where
  pub pivoted_view : (mount : Mount ℕ) → KeepsView mount (pivoted_mount nat_eq root new put mount)
  pivoted_view mount = grind (arith, common_steps, same_view)

  pub pivoted_seen : (world : World ℕ) (namespace : ℕ)
      → KeepsWhatIsSeen world (pivoted nat_eq world namespace root new put)
  pivoted_seen world namespace = seen_by_mounts world _ refl (λ number is. cc
      (numbers-map (pivoted_mount nat_eq root new put) (number-pivoted_mount root new put) world.mounts))
      (λ number is. subst (KeepsView (mount_numbered nat_eq world number))
      (sym (found-map_there _ (number-pivoted_mount root new put) _ number is))
      (pivoted_view (mount_numbered nat_eq world number)))

-- The mounts of a namespace are copied
pub copied_seen : (world after : World ℕ) (copies : List (Mount ℕ)) → after.mounts ≡ world.mounts ++ copies
    → after.filesystems ≡ world.filesystems → KeepsWhatIsSeen world after
copied_seen world after copies mounts filesystems = grind (
  arith,
  common_steps,
  seen_on,
  seen_by_mounts,
  is_among_numbers,
  among_numbers (numbers_of world.mounts),
  found-append world.mounts copies,
  same_view,
  seen_alike (with_mounts world (world.mounts ++ copies)) after mounts filesystems,
)

-- A tree of mounts moves: it is all in one namespace
module _ (world : World ℕ) (one : OneNumberAMount world.mounts)
    (stand : (mount : Mount ℕ) → Among mount world.mounts → Stands nat_eq world mount.number) where
  child_namespace : (child : Mount ℕ) → Among child world.mounts → (parent : ℕ) → stands_on nat_eq parent child ≡ true
      → child.namespace ≡ (mount_numbered nat_eq world parent).namespace
  child_namespace child m parent on = by (stand child m) (found_itself _ one child m)
    where
      by : Stands nat_eq world child.number → mount_numbered nat_eq world child.number ≡ child
          → child.namespace ≡ (mount_numbered nat_eq world parent).namespace
      by (at_root number e) itself = cc
      by (on_parent number place e same later) itself =
          let it : parent ≡ place.mount = eqb-true parent place.mount (cc) in
          cc

  pub tree_namespace : (depth : ℕ) (top : Mount ℕ) → mount_numbered nat_eq world top.number ≡ top → (mount : Mount ℕ)
      → Among mount (tree_from nat_eq depth world.mounts top) → mount.namespace ≡ top.namespace
  tree_namespace zero top itself mount m = ⊎_elim (λ e. cc) (λ none. absurd none) m
  tree_namespace (suc depth) top itself mount m = ⊎_elim (λ e. cc) (λ later.
      let under = among-from_flat_map _ _ mount later in
      let child = among-from_filter (stands_on nat_eq top.number) world.mounts under.0 under.1 in
      cc (
        tree_namespace depth under.0 (found_itself world.mounts one under.0 child.0) mount under.2,
        child_namespace under.0 child.0 top.number child.1,
      )) m

-- the namespaces of mounts that are replaced, where each new one is in that of the old one
namespaces_replaced : (before mounts copies : List (Mount ℕ))
    → ((number : ℕ) → (mount_in nat_eq mounts number).namespace ≡ (mount_in nat_eq before number).namespace)
    → ((copy : Mount ℕ) → Among copy copies → copy.namespace ≡ (mount_in nat_eq before copy.number).namespace)
    → (number : ℕ) → (mount_in nat_eq
    (folded (with_mount nat_eq) mounts copies) number).namespace ≡ (mount_in nat_eq before number).namespace
namespaces_replaced before mounts [] so each number = so number
namespaces_replaced before mounts (copy ∷ copies) so each number =
    namespaces_replaced before (with_mount nat_eq mounts copy) copies (λ n.
    related-with_mount (λ (a b : Mount ℕ). b.namespace ≡ a.namespace) (λ (a : Mount ℕ). refl) mounts copy
    (each copy (inl refl) ∙ sym (so copy.number)) n ∙ so n) (λ c m. each c (inr m)) number

pub moved_seen : (world : World ℕ) (fresh : Fresh ℕ) (mount : ℕ) (place : Location ℕ) → OneNumberAMount world.mounts
    → ((one : Mount ℕ) → Among one world.mounts → Stands nat_eq world one.number)
    → (mount_numbered nat_eq world mount).namespace ≡ (mount_at nat_eq world place).namespace → KeepsWhatIsSeen world
    (attach nat_eq world fresh place true (mount_tree nat_eq world.mounts (mount_numbered nat_eq world mount)))
moved_seen world fresh mount place one stand same = seen_by_mounts world after refl (λ number is.
    ap (is_among nat_eq number) (numbers_attached world new place true mounts)
    ∙ is_among_left number (numbers_of world.mounts) (numbers_of (others world new place true mounts)) is) (λ number is.
    let kept = moved_mounts_show world fresh (record { mount = mount; node = 0 }) place number one is in
    record {
      filesystem = kept.filesystem;
      root = kept.root;
      namespace = λ own in_it.
          ap (λ n. is_in own (record (mount_numbered nat_eq world number) { namespace = n })) (namespace number is)
          ∙ in_it;
    })
  where
    top : Mount ℕ
    top = mount_numbered nat_eq world mount

    mounts : List (Mount ℕ)
    mounts = mount_tree nat_eq world.mounts (mount_numbered nat_eq world mount)

    new : Copies ℕ
    new = supplied world fresh place (mount_tree nat_eq world.mounts (mount_numbered nat_eq world mount))

    after : World ℕ
    after = attach nat_eq world fresh place true (mount_tree nat_eq world.mounts (mount_numbered nat_eq world mount))

    namespace : (number : ℕ) → is_mount world number ≡ true
        → (mount_numbered nat_eq after number).namespace ≡ (mount_numbered nat_eq world number).namespace
    namespace number is = ap (λ (x : Mount ℕ). x.namespace) (found_attached world new place true mounts number is)
        ∙ (push_keeps world new (graft_of nat_eq world new place true mounts) (parts_of nat_eq world place)
        (mount_in nat_eq (moved_ones world new place true mounts) number)).namespace
        ∙ namespaces_replaced world.mounts world.mounts (arriving world new place true mounts) (λ n. refl) each number
      where
        itself : mount_numbered nat_eq world top.number ≡ top
        itself = ap (mount_numbered nat_eq world) (number-mount_in world.mounts mount)

        found : (origin : Mount ℕ) → Among origin mounts → mount_numbered nat_eq world origin.number ≡ origin
        found origin m = ⊎_elim (λ e. ap (λ (x : Mount ℕ). mount_numbered nat_eq world x.number) e ∙ itself ∙ sym e)
            (λ there. found_itself world.mounts one origin there)
            (tree_among (length world.mounts) world.mounts top origin m)

        each : (copy : Mount ℕ) → Among copy (arriving world new place true mounts)
            → copy.namespace ≡ (mount_in nat_eq world.mounts copy.number).namespace
        each copy m =
            let from = among-from_map (copy_at nat_eq world new (graft_of nat_eq world new place true mounts)
            (parts_of nat_eq world place) (mount_at nat_eq world place))
            (map (twig_of new (group_of (mount_at nat_eq world place).propagation)) mounts) copy m in
            let comes = arrives world new place mounts copy m in
            ap (λ (x : Mount ℕ). x.namespace) from.2 ∙ sym same
            ∙ sym (tree_namespace world one stand (length world.mounts) top itself comes.0 comes.1)
            ∙ ap (λ (x : Mount ℕ). x.namespace) (sym (found comes.0 comes.1))
            ∙ ap (λ n. (mount_numbered nat_eq world n).namespace) (sym comes.2.number)
