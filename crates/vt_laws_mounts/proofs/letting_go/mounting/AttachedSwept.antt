-- What goes when mounts are attached.
use Rattle.std.proofs.Common.{◌≡◌, refl, sym, ap, subst, inl, inr, ⊎_elim, ℕ, nat_eq, eq-eqb, true, false, List, [], ◌∷◌, filter, flat_map, length, suc, zero, ◌++◌, ◌&&◌, option_to_list, All, Contains}
use Rattle.vt_spec.proofs.Common.{Copies, Filesystem, Location, Mount, World, among_from_contains, attach, attached_by, bind_tree, bindable_children, bindable_tree, bound, children, contains_from_among, copies_from, evens, mount_lives, mount_numbered, new_mount, odds, parts_of, plain_filesystem, settled, stands_under, tree_among, tree_from, with_new_filesystem}
use Rattle.vt_laws_mounts.specs.LettingGo.Attaching.{BindsKeepAll, CopiesKeepAll, MovedTreesLetGo, MovesLetGo, NewFilesystemsKeepAll, NewMountsOfTreesKeepAll, inodes_of_mount_point, is_attached}
use Rattle.vt_laws_mounts.specs.LettingGo.Keeping.{LocationsStand}
use Rattle.vt_laws_mounts.specs.LettingGo.Leaving.{MountsStand}
use Rattle.vt_laws_mounts.specs.LettingGo.InUse.{AllInUse}
use Rattle.vt_laws_mounts.specs.LettingGo.OneByOne.{let_go_inodes}
use Rattle.vt_laws_mounts.proofs.letting_go.mounting.Attached.{attached_groups, attached_loses, first_shown}
use Rattle.vt_laws_mounts.proofs.letting_go.Lists.{Among, all_from_among, among-append, among-append_left, among_from_all, or_left}
use Rattle.vt_laws_mounts.proofs.letting_go.mounting.MountingLosers.{Comes, IsNew, losers_go}
use Rattle.vt_laws_mounts.proofs.letting_go.mounting.MountingOverlays.{nothing_lost}
use Rattle.vt_laws_mounts.proofs.letting_go.leaving.PlacesLeft.{found_is_there}

-- the mounts of the tree of a mount in a namespace are those of the world
pub of_tree : (world : World ℕ) (number : ℕ) → is_attached world number ≡ true → (depth : ℕ) (mount : Mount ℕ)
    → Among mount (tree_from nat_eq depth world.mounts (mount_numbered nat_eq world number)) → Among mount world.mounts
of_tree world number is depth mount m = ⊎_elim (λ e. subst (λ x. Among x world.mounts) (sym e)
    (found_is_there _ number is)) (λ l. l) (tree_among depth _ _ mount m)

-- a tree of copies, of mounts that show filesystems of the world or a new one
copies_with : (world : World ℕ) (filesystems : List (Filesystem ℕ)) (new : Copies ℕ) (place : Location ℕ)
    (first : Mount ℕ) (rest : List (Mount ℕ))
    → AllInUse world → MountsStand world → LocationsStand world → is_attached world place.mount ≡ true
    → Comes world (attached_by nat_eq (record world { filesystems = filesystems }) new place false (first ∷ rest))
    → settled nat_eq (attached_by nat_eq (record world { filesystems = filesystems }) new place false (first ∷ rest))
    ≡ attached_by nat_eq (record world { filesystems = filesystems }) new place false (first ∷ rest)
copies_with world filesystems new place first rest in_use stand located at_attached come =
    nothing_lost world after.mounts after.master filesystems in_use stand
    (attached_loses world filesystems new place false first rest in_use stand located at_attached (λ e. absurd cc))
    (attached_groups world filesystems new place false first rest in_use stand located at_attached
    (λ e. absurd cc)) come
  where
    after : World ℕ
    after = attached_by nat_eq (record world { filesystems = filesystems }) new place false (first ∷ rest)

pub copies_keep_all : CopiesKeepAll
copies_keep_all world new place first rest in_use stand located at_attached = copies_with world _ new place first rest
    in_use stand located at_attached (record { kept = λ f m. m; new = λ f m. inl m })

pub binds_keep_all : BindsKeepAll
binds_keep_all fresh world task source place false in_use stand located at_attached =
    copies_keep_all world (copies_from nat_eq fresh (parts_of nat_eq world place)
    (bind_tree nat_eq world source false)) place (bound nat_eq world source) [] in_use stand located at_attached
binds_keep_all fresh world task source place true in_use stand located at_attached =
    copies_keep_all world (copies_from nat_eq fresh (parts_of nat_eq world place)
    (bind_tree nat_eq world source true)) place (bound nat_eq world source)
    (flat_map (bindable_tree nat_eq (length world.mounts) world.mounts)
    (filter (stands_under nat_eq world source) (bindable_children nat_eq world.mounts source.mount)))
    in_use stand located at_attached

pub new_filesystems_keep_all : NewFilesystemsKeepAll
new_filesystems_keep_all fresh world place filesystem flags in_use stand located at_attached named =
    copies_with world _ new place mount [] in_use stand located at_attached (record {
      kept = λ f m. among-append_left _ _ f m;
      new = λ f m. ⊎_elim inl (λ last. ⊎_elim (λ same. inr (subst (IsNew after) (sym same) (
        shown.0,
        (shown.1.0, (shown.1.1.0, (eq-eqb filesystem.number shown.0.filesystem (sym shown.1.1.1), named))),
      ))) (λ none. absurd none) last) (among-append _ _ f m);
    })
  where
    mount : Mount ℕ
    mount = new_mount filesystem.number filesystem.files.tree.root flags

    base : World ℕ
    base = with_new_filesystem world filesystem

    new : Copies ℕ
    new = copies_from nat_eq fresh (parts_of nat_eq base place) (mount ∷ [])

    after : World ℕ
    after = attached_by nat_eq base new place false (mount ∷ [])

    shown : (x : Mount ℕ) × (Among x after.mounts
        × ((mount_lives nat_eq after x ≡ true) × (x.filesystem ≡ filesystem.number)))
    shown = first_shown world (world.filesystems
        ++ (filesystem ∷ [])) new place false mount [] in_use stand located at_attached (λ e. absurd cc) refl

pub new_mounts_of_trees_keep_all : NewMountsOfTreesKeepAll
new_mounts_of_trees_keep_all fresh world task place flags in_use stand located at_attached =
    new_filesystems_keep_all (odds fresh) world place (plain_filesystem nat_eq fresh) flags in_use stand located
    at_attached (ap (λ b. b && true) (or_left _ _ (eq-eqb root root refl)))
  where
    root : ℕ
    root = evens fresh 1

pub moved_trees_let_go : MovedTreesLetGo
moved_trees_let_go world new place first rest settles located at_attached of_world =
    losers_go world after.mounts after.master world.namespaces world.tasks []
    (option_to_list first.mount_point) [] settles
    (attached_loses world world.filesystems new place true first rest settles.in_use settles.mounts located at_attached
    its) (λ group among none.
    attached_groups world world.filesystems new place true first rest settles.in_use settles.mounts located
    at_attached its group none)
  where
    after : World ℕ
    after = attached_by nat_eq world new place true (first ∷ rest)

    its : true ≡ true → (mount : Mount ℕ) → Among mount (first ∷ rest) → Among mount world.mounts
    its e mount m = among_from_contains world.mounts mount
        (among_from_all (Contains world.mounts) (first ∷ rest) of_world mount m)

pub moves_let_go : MovesLetGo
moves_let_go fresh world task number place settles located at_attached is = by _
  where
    mount : Mount ℕ
    mount = mount_numbered nat_eq world number

    all_of_world : (depth : ℕ) → All (Contains world.mounts) (tree_from nat_eq depth world.mounts mount)
    all_of_world depth = all_from_among _ _ (λ x m. contains_from_among _ x (of_tree world number is depth x m))

    new : List (Mount ℕ) → Copies ℕ
    new mounts = copies_from nat_eq fresh (parts_of nat_eq world place) mounts

    by : (depth : ℕ) → settled nat_eq (attach nat_eq world fresh place true (tree_from nat_eq depth world.mounts mount))
        ≡ let_go_inodes (attach nat_eq world fresh place true (tree_from nat_eq depth world.mounts mount))
        (inodes_of_mount_point world mount)
    by zero = moved_trees_let_go world (new (mount ∷ [])) place mount [] settles located at_attached (all_of_world zero)
    by (suc depth) = moved_trees_let_go world (new (tree_from nat_eq (suc depth) world.mounts mount)) place mount
        (flat_map (tree_from nat_eq depth world.mounts)
        (children nat_eq world.mounts mount.number)) settles located at_attached (all_of_world (suc depth))
