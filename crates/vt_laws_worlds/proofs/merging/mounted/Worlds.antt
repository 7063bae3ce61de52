-- What `mount overlay` leaves is a world with all invariants.
use Rattle.std.proofs.Common.{◌≡◌, refl, sym, ap, subst, ◌∙◌, true≢false, arith, inl, inr, ⊎_elim, ℕ, ◌+◌, ◌*◌, nat_eq, eq-eqb, Bool, true, false, not, List, [], ◌∷◌, ◌++◌, filter, flat_map, map, Option, Some, None, unwrap_or, filter_map, option_map}
use Rattle.vt_spec.proofs.Common.{Among, Filesystem, Fresh, IsWorld, Location, Merged, MergedInode, Mount, MountFlags, MountInvariants, MountOverlay, Namespace, NamespaceInvariants, Node, OpenLayer, Overlay, OverlayWords, Permit, Serves, Task, TaskInvariants, World, among-append, among-append_left, among-append_right, among-from_flat_map, among-from_map, and_parts, apply, call_outcome, common_steps, cons_option, each_once, evens, evens-distinct, has_its_root, has_too_many, index_from, inode_count, is_directory_node, is_one_inode, is_there, list_all, looks_of, merged_inode, merged_objects, mount_at, mounted, nat_eq_itself, new_mount, no_filesystem, none_from_among, numbers_in_use, odds, open_layer, overfills, overlay_filesystem, overlay_mounted, served-distinct, shown_layers, task_called, used_by_filesystem, used_by_mount, with_new_filesystem, ⊤}
use Rattle.vt_spec.proofs.Tables.{destination_walk, overlay_at}
use Rattle.vt_laws_mounts.specs.Mounts.Attached.{IsAttachedAt}
use Rattle.vt_laws_mounts.specs.Mounts.Attaching.{is_mount}
use Rattle.vt_laws_mounts.proofs.attached.AttachedKept.{new_mounts_keep_groups}
use Rattle.vt_laws_mounts.proofs.attached.AttachedNowhere.{new_mounts_keep_nowhere}
use Rattle.vt_laws_mounts.proofs.attached.BindsStand.{new_mounts_keep_numbers, new_mounts_keep_places, new_mounts_keep_standing}
use Rattle.vt_laws_mounts.proofs.GroupsLiving.{all_live, tested_live}
use Rattle.vt_laws_mounts.proofs.mounts.MountsAttached.{supplied}
use Rattle.vt_laws_mounts.proofs.moves.MovingRoots.{new_mounts_keep_root_mounts, new_mounts_stay_in_namespaces}
use Rattle.vt_laws_trees.proofs.trees.TreesWalked.{at_end}
use Rattle.vt_laws_trees.specs.Layers.Layers.Mounted.{AreLayers}
use Rattle.vt_laws_trees.specs.Layers.Layers.Mounting.{AreNewNumbers}
use Rattle.vt_laws_trees.proofs.layers.directories.Fit.{new_overlay_is_tree}
use Rattle.vt_laws_trees.proofs.layers.directories.Later.{not_found}
use Rattle.vt_laws_trees.proofs.layers.directories.Still.{find_new}
use Rattle.vt_laws_trees.proofs.layers.mounting.Walked.{are_walked, has_layers, shown_plain}
use Rattle.vt_laws_worlds.specs.Worlds.Permits.{IsDestination}
use Rattle.vt_laws_worlds.proofs.kept.NamespacesListed.{are_namespaces, attached_stay, from_namespaces, namespaces_stay, same_tasks_stay}
use Rattle.vt_laws_worlds.proofs.worlds.Placed.{all_are_placed, all_placed_after, locations_are_there, open_files_are_regular, tasks_stand_on_directories}
use Rattle.vt_laws_worlds.proofs.worlds.ReachedPlaces.{IsTopmost, destination_walk_end}
use Rattle.vt_laws_worlds.proofs.worlds.Seen.{KeepsWhatIsSeen, directory_after}
use Rattle.vt_laws_worlds.proofs.worlds.SeenMounts.{added_seen, attached_seen, mounted_seen}
use Rattle.vt_laws_worlds.proofs.worlds.SeenTrees.{unused_by_filesystem, unused_number}
use Rattle.vt_laws_worlds.proofs.worlds.Shows.{AllShow, IsPlace, all_show_after, mounts_show, world_shows}
use Rattle.vt_laws_worlds.proofs.worlds.ShowsAttached.{attached_show}
use Rattle.vt_laws_worlds.specs.Merging.MountedAnew.{MountingLeavesAWorld}
use Rattle.vt_laws_worlds.proofs.merging.mounted.Left.{mounting_lets_nothing_go}
use Rattle.vt_laws_trees.proofs.layers.mounting.Kept.{mounting_keeps_overlays, mounting_keeps_trees}
use Rattle.vt_spec.proofs.FreshNumbers.{served-differ}
use Rattle.vt_laws_trees.specs.Trees.Settling.{inode_in}
use Rattle.vt_laws_worlds.proofs.worlds.FitPermits.{destination}
use Rattle.vt_laws_rules.proofs.given.CallsGranted.{call_holds}
use Rattle.vt_laws_rules.proofs.given.Ways.{IsGranted}
use Rattle.vt_laws_rules.proofs.given.Ways.IsGranted.{mounts_overlayfs}

-- each of a list is one of the numbers that are handed in
abbrev AreOf : Fresh ℕ → List ℕ → Type 0
AreOf fresh [] = ⊤
AreOf fresh (number ∷ list) = ((k : ℕ) × (number ≡ fresh k)) × AreOf fresh list

one_of : (fresh : Fresh ℕ) (list : List ℕ) → AreOf fresh list → (number : ℕ) → Among number list
    → (k : ℕ) × (number ≡ fresh k)
one_of fresh [] are number m = absurd m
one_of fresh (first ∷ list) are number (inl e) = (are.0.0, cc)
one_of fresh (first ∷ list) are number (inr m) = one_of fresh list are.1 number m

filtered_are : (fresh : Fresh ℕ) (test : ℕ → Bool) (list : List ℕ) → AreOf fresh list → AreOf fresh (filter test list)
filtered_are fresh test [] are = tt
filtered_are fresh test (number ∷ list) are = grind (arith, common_steps, filtered_are fresh test list are.1, are.0)

once_are : (fresh : Fresh ℕ) (list : List ℕ) → AreOf fresh list → AreOf fresh (each_once nat_eq list)
once_are fresh [] are = tt
once_are fresh (number ∷ list) are = (
  are.0,
  filtered_are fresh (λ other. not (nat_eq number other)) (each_once nat_eq list) (once_are fresh list are.1),
)

made_are : (fresh : Fresh ℕ) (has_upper : Bool) (layers : List (OpenLayer ℕ)) (objects list : List (Merged ℕ))
    → AreOf fresh (map (λ (inode : MergedInode ℕ). inode.number)
    (filter_map (merged_inode nat_eq fresh has_upper layers objects) list))
made_are fresh has_upper layers objects [] = tt
made_are fresh has_upper layers objects (object ∷ list) = by _ (made_are fresh has_upper layers objects list)
  where
    rest : List (MergedInode ℕ)
    rest = filter_map (merged_inode nat_eq fresh has_upper layers objects) list

    made : Node ℕ → MergedInode ℕ
    made node = record {
      number = Rattle.vt_spec.specs.Machine.Merging.merged_number nat_eq fresh has_upper objects object;
      node = record {
        attr = node.attr;
        content = Rattle.vt_spec.specs.Machine.Merging.merged_content nat_eq fresh has_upper objects object.path
            node.content;
      };
      real = Rattle.vt_spec.specs.Machine.Merging.real_object has_upper object.seen.layer object;
    }

    by : (o : Option (Node ℕ)) → AreOf fresh (map (λ (inode : MergedInode ℕ). inode.number)
        (filter_map (merged_inode nat_eq fresh has_upper layers objects) list))
        → AreOf fresh (map (λ (inode : MergedInode ℕ). inode.number)
        (cons_option (option_map (λ (node : Node ℕ). record {
          number = Rattle.vt_spec.specs.Machine.Merging.merged_number nat_eq fresh has_upper objects object;
          node = record {
            attr = node.attr;
            content = Rattle.vt_spec.specs.Machine.Merging.merged_content nat_eq fresh has_upper objects object.path
                node.content;
          };
          real = Rattle.vt_spec.specs.Machine.Merging.real_object has_upper object.seen.layer object;
        }) o) (filter_map (merged_inode nat_eq fresh has_upper layers objects) list)))
    by None later = later
    by (Some node) later = ((unwrap_or (index_from (is_one_inode nat_eq has_upper object) 0 objects) 0, refl), later)

module _ (world : World ℕ) (is : IsWorld nat_eq world) (fresh : Fresh ℕ) (serves : Serves nat_eq world fresh)
    (task : Task ℕ) (called : task_called world task.name ≡ Some task) where
  pub are_new : AreNewNumbers fresh world
  are_new = record {
    distinct = served-distinct world fresh serves;
    unused = λ k. none_from_among (nat_eq (fresh k)) (map (λ (f : Filesystem ℕ). f.number) world.filesystems)
        (λ number m.
        let from = among-from_map (λ (f : Filesystem ℕ). f.number) world.filesystems number m in
        unused_by_filesystem world fresh serves k from.0 from.1 number (inl from.2));
  }

  module _ (overlay : Overlay ℕ) (are_layers : AreLayers world overlay) where
    abbrev new : Filesystem ℕ
    new = overlay_filesystem nat_eq (evens fresh) world overlay

    abbrev larger : World ℕ
    larger = with_new_filesystem world new

    abbrev opened : List (OpenLayer ℕ)
    opened = map (open_layer nat_eq world) (shown_layers overlay)

    abbrev objects : List (Merged ℕ)
    objects = merged_objects opened (inode_count world)

    -- its numbers are even ones
    made_even : (number : ℕ) → Among number (used_by_filesystem new) → (k : ℕ) × (number ≡ evens fresh k)
    made_even number known = grind (arith, common_steps, one_of, once_are, made_are)

    not_used : (k number : ℕ) → Among number (used_by_filesystem new) → nat_eq (odds fresh k) number ≡ false
    not_used k number m =
        let even = made_even number m in
        cc (served-differ world fresh serves (2 * k + 1) (2 * even.0) (apart even.0))
      where
        apart : (j : ℕ) → 2 * k + 1 ≡ 2 * j → ⊥
        apart j e = omega (arith, e)

    odds_serve : Serves nat_eq larger (odds fresh)
    odds_serve = record {
      unused = λ k. none_from_among (nat_eq (odds fresh k)) (numbers_in_use larger) (λ number m. unused k number m);
      apart = λ j k e. half j k (serves.apart (2 * j + 1) (2 * k + 1) e);
    }
      where
        half : (j k : ℕ) → 2 * j + 1 ≡ 2 * k + 1 → j ≡ k
        half j k e = omega (arith, e)

        mounts : List ℕ
        mounts = flat_map used_by_mount world.mounts

        namespaces : List ℕ
        namespaces = map (λ (namespace : Namespace ℕ). namespace.number) world.namespaces

        unused : (k number : ℕ) → Among number (numbers_in_use larger) → nat_eq (odds fresh k) number ≡ false
        unused k number m = ⊎_elim (λ front. ⊎_elim (λ in_mounts. unused_number world fresh serves (2 * k + 1) number
            (among-append_left (mounts ++ flat_map used_by_filesystem world.filesystems) namespaces number
            (among-append_left mounts (flat_map used_by_filesystem world.filesystems) number in_mounts)))
            (λ in_filesystems.
            let from = among-from_flat_map used_by_filesystem (world.filesystems ++ (new ∷ [])) number in_filesystems in
            ⊎_elim (λ old. unused_by_filesystem world fresh serves (2 * k + 1) from.0 old number from.2)
            (λ last. ⊎_elim (λ e. not_used k number (subst (λ f. Among number (used_by_filesystem f)) e from.2))
            (λ none. absurd none) last) (among-append world.filesystems (new ∷ []) from.0 from.1))
            (among-append mounts (flat_map used_by_filesystem (world.filesystems ++ (new ∷ []))) number front))
            (λ in_namespaces. unused_number world fresh serves (2 * k + 1) number
            (among-append_right (mounts ++ flat_map used_by_filesystem world.filesystems) namespaces number
            in_namespaces)) (among-append (mounts ++ flat_map used_by_filesystem
            (world.filesystems ++ (new ∷ []))) namespaces number m)

    module _ (place : Location ℕ) (flags : MountFlags) (destination : IsDestination world task place) where
      abbrev later : World ℕ
      later = mounted nat_eq (odds fresh) world place new flags

      there : is_mount world place.mount ≡ true
      there = (and_parts (is_mount world place.mount)
          (is_there nat_eq world (mount_at nat_eq world place).filesystem place.node)
          destination.directory.reached.there).0

      attached : IsAttachedAt world place
      attached = cc

      mounts_kept : MountInvariants nat_eq later
      mounts_kept = record {
        one_number = new_mounts_keep_numbers world (odds fresh) place new flags odds_serve is.mounts.one_number;
        one_child = new_mounts_keep_places world
            (odds fresh) place new flags odds_serve is.mounts.one_number is.mounts.nowhere
            is.mounts.standing there destination.free is.mounts.one_child;
        standing = new_mounts_keep_standing world
            (odds fresh) place new flags odds_serve is.mounts.one_number is.mounts.nowhere is.mounts.standing there;
        nowhere = new_mounts_keep_nowhere world (odds fresh) place new flags is.mounts.nowhere attached;
        groups = all_live later (new_mounts_keep_groups world (odds fresh) place new flags odds_serve
            (tested_live world is.mounts.groups));
      }

      namespaces_kept : has_too_many nat_eq later ≡ false → NamespaceInvariants nat_eq later
      namespaces_kept few = from_namespaces later (namespaces_stay world later (record {
        namespaces = refl;
        mounts = attached_stay world later (new_mounts_stay_in_namespaces world (odds fresh) place new flags);
        roots = new_mounts_keep_root_mounts world (odds fresh) place new flags;
        tasks = same_tasks_stay world.tasks;
      }) (are_namespaces world is.namespaces)) few

      abbrev seen : KeepsWhatIsSeen world later
      seen = mounted_seen world (odds fresh) place new flags

      tasks_kept : TaskInvariants nat_eq later
      tasks_kept =
          let placed = all_placed_after world later seen _
          (all_are_placed world is.tasks.locations_live is.tasks.directories is.tasks.open_files) in
          record {
            one_task = is.tasks.one_task;
            small_tasks = is.tasks.small_tasks;
            forks_counted = is.tasks.forks_counted;
            locations_live = locations_are_there later placed;
            directories = tasks_stand_on_directories later placed;
            open_files = open_files_are_regular later placed;
          }

      root_there : is_directory_node (inode_in larger new.number new.files.tree.root) ≡ true
      root_there = ap (λ (o : Option (Filesystem ℕ)). is_directory_node
          ((unwrap_or o (no_filesystem new.number)).files.tree.node new.files.tree.root))
          (find_new (λ (f : Filesystem ℕ). nat_eq new.number f.number) world.filesystems new
          (not_found new.number world.filesystems (are_new.unused (2 * (2 * 0)))) (nat_eq_itself new.number))
          ∙ (new_overlay_is_tree (evens fresh) world overlay is are_layers
          (evens-distinct fresh (served-distinct world fresh serves))).root_directory

      at_place : IsPlace world place
      at_place = record { listed = there; directory = destination.directory.directory }

      shows : AllShow later
      shows = attached_show larger (supplied larger (odds fresh) place mounts) place false mounts
          (attached_seen larger (odds fresh) place mounts)
          (all_show_after world larger (added_seen new world) refl (world_shows world is)) (record {
            listed = there;
            directory = directory_after world larger (added_seen new world) place there destination.directory.directory;
          }) is.mounts.one_number
          (new_mounts_keep_numbers world (odds fresh) place new flags odds_serve is.mounts.one_number)
          (λ origin m. ⊎_elim (λ e. ap (λ (x : Mount ℕ). is_directory_node (inode_in larger x.filesystem x.root)) e
          ∙ root_there) (λ none. absurd none) m) (λ origin m below on e. ⊎_elim
          (λ same. absurd (true≢false (sym (eq-eqb origin.number mount.number (ap (λ (x : Mount ℕ). x.number) same))
          ∙ below))) (λ none. absurd none) m) (λ moved. absurd (true≢false (sym moved)))
        where
          mount : Mount ℕ
          mount = new_mount new.number new.files.tree.root flags

          mounts : List (Mount ℕ)
          mounts = new_mount new.number new.files.tree.root flags ∷ []

  -- The whole world
  record MayLeave (later : World ℕ) : Type 0 where
    mounts : MountInvariants nat_eq later
    namespaces : NamespaceInvariants nat_eq later
    tasks : TaskInvariants nat_eq later
    roots : list_all (has_its_root nat_eq later) later.mounts ≡ true

  granted_leaves : (path : List ℕ) (options : Option OverlayWords) (flags : MountFlags) (permit : Permit ℕ)
      → IsGranted nat_eq (looks_of nat_eq world) (overfills nat_eq fresh world task) task
      (MountOverlay path options flags) permit → MayLeave (apply nat_eq fresh world task permit).world
  granted_leaves path options flags permit (mounts_overlayfs _ words _ here places admin end walked passed free) =
      let reached = are_walked world task words places walked in
      let overlay = overlay_at nat_eq world task places in
      let layers : AreLayers world overlay =
      (has_layers world task places reached passed, shown_plain world task places reached passed) in
      let top = at_end (IsTopmost world is task called) (destination_walk nat_eq world task path) here
      (destination_walk_end world is task called path) end in
      let to = destination world is task called here top free.0 in
      record {
        mounts = mounts_kept overlay layers here.location flags to;
        namespaces = namespaces_kept overlay layers here.location flags to free.1.0;
        tasks = tasks_kept overlay layers here.location flags to;
        roots = mounts_show (overlay_mounted nat_eq fresh world task here.location places flags)
            (shows overlay layers here.location flags to);
      }

  module _ (path : List ℕ) (options : Option OverlayWords) (flags : MountFlags) where
    leaves : MayLeave (call_outcome nat_eq fresh world task (MountOverlay path options flags)).world
    leaves = call_holds MayLeave fresh world task (MountOverlay path options flags)
        (record { mounts = is.mounts; namespaces = is.namespaces; tasks = is.tasks; roots = is.roots })
        (granted_leaves path options flags)

    pub leaves_a_world : IsWorld nat_eq (call_outcome nat_eq fresh world task (MountOverlay path options flags)).world
    leaves_a_world = record {
      files = mounting_keeps_trees fresh world task path options flags is are_new;
      overlays = mounting_keeps_overlays fresh world task path options flags is are_new;
      mounts = leaves.mounts;
      namespaces = leaves.namespaces;
      tasks = leaves.tasks;
      roots = leaves.roots;
      nothing_unused = mounting_lets_nothing_go fresh world task path options flags is are_new;
    }

pub mounting_leaves_a_world : MountingLeavesAWorld
mounting_leaves_a_world fresh world task path options flags is serves called =
    leaves_a_world world is fresh serves task called path _ flags
