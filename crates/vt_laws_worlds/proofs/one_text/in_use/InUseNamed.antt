-- Each number that a world has is in use, those of its overlays too.
use Rattle.std.proofs.Common.{arith, eqb-true, ◌≡◌, refl, sym, ap, subst, ◌∙◌, ⊎_elim, inl, inr, true≢false, ℕ, nat_eq, Bool, true, false, cond, not, List, [], ◌∷◌, ◌++◌, map, flat_map, Option, Some, None, is_some, option_to_list, is_eq}
use Rattle.vt_spec.proofs.Common.{Content, Descriptor, Directory, Entries, Filesystem, HasLivingGroups, IsMerged, IsTree, IsWorld, Layer, ListsNumbers, Location, Lower, Mount, Namespace, Node, Overlay, Private, Propagation, Real, Regular, Shared, Slave, Symlink, Task, Tree, Unbindable, Upper, Whiteout, World, all_locations, and_parts, below_all, common_steps, directory_used, entries_in, entry_named, entry_named-below, eq_by_cmp, filesystem_numbered, group_of, has_members, holds_of, is_directory_node, is_listed, is_located_well, is_member_of, is_overlay, is_plain_layer, is_sorted, is_there, list_all, list_all-append, locations_of, name_cmp, nat_list_cmp_total, none_from_not_some, numbers_in_use, parent_in, source_of, tied_itself, used_by_filesystem, used_by_mount}
use Rattle.vt_laws_rules.specs.Numbers.{FilesystemNamed, IsFoundAmong, OverlayIfAnyNamed, WorldNamed, content_named, descriptor_named, layer_named, location_named, mount_named, namespace_named, node_named, none_or, propagation_named, real_named, task_named}
use Rattle.vt_laws_mounts.proofs.letting_go.Lists.{Among, all_from_among, among-append_left, among-append_right, among-flat_map, among-from_map, among-map, among_from_all, among_from_list_all, among_numbers, any_among, is_among_numbers, list_all_from_among}
use Rattle.vt_laws_worlds.specs.OneText.InUse.{AnyWorldsHaveNumbersInUse}
use Rattle.vt_laws_worlds.specs.Permits.InUse.{is_in_use}
use Rattle.vt_spec.proofs.Nodes.{same_name}
use Rattle.vt_laws_trees.proofs.trees.TreesOfWorlds.{number_numbered, numbered_all}
use Rattle.vt_laws_trees.proofs.trees.TreesTasks.{and_from}
use Rattle.vt_laws_worlds.proofs.worlds.Shows.{world_shows}
use Rattle.vt_laws_mounts.proofs.letting_go.sweeps.OfWorlds.{all_in_use, found_filesystem}
use Rattle.vt_spec.proofs.NodeChanges.{directory_is_there}
use Rattle.vt_laws_mounts.proofs.GroupsUp.{master_has_members}

found_by_name : (entries : Entries ℕ) (entry : List ℕ × ℕ) → is_sorted name_cmp entries ≡ true → Among entry entries
    → entry_named entry.0 entries ≡ Some entry.1
found_by_name [] entry sorted among = absurd among
found_by_name (first ∷ entries) entry sorted (inl same) =
    subst (λ (e : List ℕ × ℕ). entry_named e.0 (first ∷ entries) ≡ Some e.1) (sym same)
    (ap (λ o. cond (is_eq o) (Some first.1) (entry_named first.0 entries)) (tied_itself nat_list_cmp_total first.0))
found_by_name (first ∷ entries) entry sorted (inr among) =
    by (eq_by_cmp name_cmp entry.0 first.0) refl (found_by_name entries entry parts.1 among)
  where
    parts : (below_all name_cmp first.0 entries ≡ true) × (is_sorted name_cmp entries ≡ true)
    parts = and_parts (below_all name_cmp first.0 entries) (is_sorted name_cmp entries) sorted

    there : Option ℕ → Bool
    there None = false
    there (Some number) = true

    by : (tied : Bool) → eq_by_cmp name_cmp entry.0 first.0 ≡ tied → entry_named entry.0 entries ≡ Some entry.1
        → cond tied (Some first.1) (entry_named entry.0 entries) ≡ Some entry.1
    by true t named = absurd (cc (same_name entry.0 first.0 t, entry_named-below first.0 entries parts.0))
    by false t named = named

-- the group of a member is its source
member_source : (number : ℕ) (kind : Propagation ℕ) → holds_of (nat_eq number) (group_of kind) ≡ true
    → source_of kind ≡ Some number
member_source number (Shared group) e = cc (eqb-true number group e)
member_source number (Slave master) e = cc
member_source number Private e = cc
member_source number Unbindable e = cc

module _ (world : World ℕ) (whole : IsWorld nat_eq world) where
  abbrev Used : ℕ → Type 0
  Used number = is_in_use world number ≡ true

  abbrev of_mounts : List ℕ
  of_mounts = flat_map used_by_mount world.mounts

  abbrev of_filesystems : List ℕ
  of_filesystems = flat_map used_by_filesystem world.filesystems

  abbrev of_namespaces : List ℕ
  of_namespaces = map (λ (namespace : Namespace ℕ). namespace.number) world.namespaces

  used_mount : (mount : Mount ℕ) (number : ℕ) → Among mount world.mounts → Among number (used_by_mount mount)
      → Used number
  used_mount mount number there among = is_among_numbers number (numbers_in_use world)
      (among-append_left (of_mounts ++ of_filesystems) of_namespaces number
      (among-append_left of_mounts of_filesystems number
      (among-flat_map used_by_mount world.mounts mount number there among)))

  used_filesystem : (filesystem : Filesystem ℕ) (number : ℕ) → Among filesystem world.filesystems
      → Among number (used_by_filesystem filesystem) → Used number
  used_filesystem filesystem number there among = is_among_numbers number (numbers_in_use world)
      (among-append_left (of_mounts ++ of_filesystems) of_namespaces number
      (among-append_right of_mounts of_filesystems number
      (among-flat_map used_by_filesystem world.filesystems filesystem number there among)))

  used_namespace : (number : ℕ) → is_listed nat_eq world number ≡ true → Used number
  used_namespace number listed = is_among_numbers number (numbers_in_use world)
      (among-append_right (of_mounts ++ of_filesystems) of_namespaces number
      (among_numbers number of_namespaces listed))

  -- Inodes
  listed_used : (filesystem : Filesystem ℕ) → Among filesystem world.filesystems → (number : ℕ)
      → is_some (filesystem.files.tree.node number) ≡ true → Used number
  listed_used filesystem there number is = used_filesystem _ number there
      (inr (among_numbers number filesystem.files.numbers (among_from_all (λ (f : Filesystem ℕ). ListsNumbers nat_eq
      f.files) world.filesystems whole.files.numbers filesystem there number ∙ is)))

  abbrev ThereIsUsed : Filesystem ℕ → Type 0
  ThereIsUsed filesystem = Used filesystem.number
      × ((number : ℕ) → is_some (filesystem.files.tree.node number) ≡ true → Used number)

  -- of a filesystem in which some inode is
  found_used : (filesystem number : ℕ)
      → is_some ((filesystem_numbered nat_eq world filesystem).files.tree.node number) ≡ true
      → Used filesystem × Used number
  found_used filesystem number is = ⊎_elim
      (λ used. (subst Used (number_numbered filesystem world.filesystems) used.0, used.1 number is))
      (λ missing. absurd (true≢false
      (sym is ∙ ap (λ (f : Filesystem ℕ). is_some (f.files.tree.node number)) missing.0)))
      (numbered_all ThereIsUsed filesystem world.filesystems (all_from_among ThereIsUsed world.filesystems (λ f there. (
        used_filesystem f f.number there (inl refl),
        listed_used f there,
      ))))

  -- Locations
  located_named : (location : Location ℕ) → is_located_well nat_eq world location ≡ true
      → location_named (is_in_use world) location ≡ true
  located_named location is =
      let parts = and_parts _ _ is in
      let found = among-from_map _ _ _
      (among_numbers _ (map (λ (mount : Mount ℕ). mount.number) world.mounts) parts.0) in
      and_from _ _ (used_mount _ _ found.1 (inl found.2)) (found_used _ _ parts.1).1

  -- Groups
  member_of : (number : ℕ) → has_members nat_eq world.mounts number ≡ true
      → (mount : Mount ℕ) × Among mount world.mounts × (source_of mount.propagation ≡ Some number)
  member_of number has =
      let found = any_among (is_member_of nat_eq number) world.mounts has in
      (found.0, found.1, member_source number _ found.2)

  source_used : (mount : Mount ℕ) (number : ℕ) → Among mount world.mounts → source_of mount.propagation ≡ Some number
      → Used number
  source_used mount number there e =
      used_mount mount number there (inr (subst (λ o. Among number (option_to_list o)) (sym e) (inl refl)))

  members_used : (number : ℕ) → has_members nat_eq world.mounts number ≡ true → Used number
  members_used number has =
      let found = member_of number has in
      source_used _ number found.1 found.2

  masterless : (number : ℕ) → has_members nat_eq world.mounts number ≡ false → world.master number ≡ None
  masterless = (all_in_use world whole).groups

  masters : IsFoundAmong (is_in_use world) (is_in_use world) world.master
  masters = record {
    nowhere_else = λ number out. none number out (has_members nat_eq world.mounts number) refl;
    has_only = λ number. only number (world.master number) refl (has_members nat_eq world.mounts number) refl;
  }
    where
      none : (number : ℕ) → is_in_use world number ≡ false → (b : Bool) → has_members nat_eq world.mounts number ≡ b
          → world.master number ≡ None
      none number out true e = cc (members_used number e)
      none number out false e = masterless number e

      only : (number : ℕ) (o : Option ℕ) → world.master number ≡ o → (b : Bool)
          → has_members nat_eq world.mounts number ≡ b → none_or (is_in_use world) o ≡ true
      only number None e b f = refl
      only number (Some above) e false f = cc (masterless number f)
      only number (Some above) e true f =
          let found = member_of number f in
          members_used above (master_has_members _ _ number above (among_from_all (HasLivingGroups nat_eq world)
          world.mounts whole.mounts.groups found.0 found.1 number found.2) e)

  propagation_of : (mount : Mount ℕ) → Among mount world.mounts → (kind : Propagation ℕ) → mount.propagation ≡ kind
      → propagation_named (is_in_use world) kind ≡ true
  propagation_of mount there (Shared group) e = source_used mount group there (cc)
  propagation_of mount there (Slave master) e = source_used mount master there (cc)
  propagation_of mount there Private e = refl
  propagation_of mount there Unbindable e = refl

  -- Mounts
  namespace_of : (o : Option ℕ) → list_all (is_listed nat_eq world) (option_to_list o) ≡ true
      → none_or (is_in_use world) o ≡ true
  namespace_of None e = refl
  namespace_of (Some number) e = used_namespace number (and_parts (is_listed nat_eq world number) true e).0

  place_of : (mount : Mount ℕ) → Among mount world.mounts → (o : Option (Location ℕ)) → mount.mount_point ≡ o
      → none_or (location_named (is_in_use world)) o ≡ true
  place_of mount there None e = refl
  place_of mount there (Some place) e =
      let shown = (world_shows world whole mount there).mount_point place e in
      located_named place (and_from _ _ shown.listed (directory_is_there _ shown.directory))

  mount_is : (mount : Mount ℕ) → Among mount world.mounts → mount_named (is_in_use world) mount ≡ true
  mount_is mount there =
      let root = found_used _ _ (directory_is_there _ (and_parts _ _ (among_from_list_all _ _ whole.roots mount
      there)).0) in
      and_from _ _ (and_from _ _ (and_from _ _ (and_from _ _ (and_from _ _ (used_mount mount _ there (inl refl))
      (namespace_of _ (among_from_list_all _ _ whole.namespaces.mounts_listed mount there)))
      (place_of mount there _ refl)) root.0) root.1) (propagation_of mount there _ refl)

  -- Filesystems
  module _ (filesystem : Filesystem ℕ) (there : Among filesystem world.filesystems) where
    abbrev tree : Tree ℕ
    tree = filesystem.files.tree

    is_tree : IsTree tree
    is_tree = among_from_all
        (λ (f : Filesystem ℕ). IsTree f.files.tree) world.filesystems whole.files.trees filesystem there

    content_is : (number : ℕ) (node : Node ℕ) (content : Content ℕ) → tree.node number ≡ Some node
        → node.content ≡ content → content_named (is_in_use world) content ≡ true
    content_is number node (Directory parent entries opaque) e f =
        let here : tree.node number ≡ Some (record { attr = node.attr; content = Directory parent entries opaque }) =
        e ∙ (λ i. Some (record { attr = node.attr; content = f i })) in
        and_from _ _ (listed_used _ there parent (directory_used tree parent
        (subst (λ (o : Option (Node ℕ)). is_directory_node (tree.node (parent_in number o)) ≡ true) here
        (is_tree.parent_directory number (cc))))) (list_all_from_among (λ (entry : List ℕ × ℕ). is_in_use world entry.1)
        entries (λ entry among. listed_used _ there _ (is_tree.alive number entry.0 entry.1
        (cc (found_by_name entries entry (ap (λ (o : Option (Node ℕ)). is_sorted name_cmp (entries_in o)) (sym here)
        ∙ is_tree.in_order number) among)))))
    content_is number node (Regular bytes) e f = refl
    content_is number node (Symlink text) e f = refl
    content_is number node Whiteout e f = refl

    node_is : (number : ℕ) (o : Option (Node ℕ)) → tree.node number ≡ o
        → none_or (node_named (is_in_use world)) o ≡ true
    node_is number None e = refl
    node_is number (Some node) e = content_is number node _ e refl

    node_out : (number : ℕ) → is_in_use world number ≡ false → (b : Bool) → is_some (tree.node number) ≡ b
        → tree.node number ≡ None
    node_out number out true e = cc (listed_used filesystem there number e)
    node_out number out false e = none_from_not_some _ e

    overlay_is : (o : Option (Overlay ℕ)) → filesystem.overlay ≡ o → OverlayIfAnyNamed (is_in_use world) o
    overlay_is None e = tt
    overlay_is (Some overlay) e = record {
      upper = some_layer overlay.upper above.0;
      work = some_layer overlay.work above.1;
      lowers = all_layers overlay.lowers layers.1;
      real = record {
        nowhere_else = λ number out. merged.real_there number
            (ap (λ (f : Filesystem ℕ). f.files.tree.node number) itself
            ∙ node_out number out (is_some (tree.node number)) refl);
        has_only = λ number. real_is number (overlay.real number) refl;
      };
    }
      where
        itself : filesystem_numbered nat_eq world filesystem.number ≡ filesystem
        itself = found_filesystem world.filesystems whole.files.one_filesystem filesystem there

        merged : IsMerged nat_eq world (filesystem_numbered nat_eq world filesystem.number) overlay
        merged =
            whole.overlays.overlays_merge filesystem.number overlay (ap (λ (f : Filesystem ℕ). f.overlay) itself ∙ e)

        layer_is : (layer : Layer ℕ) → is_plain_layer nat_eq world layer ≡ true
            → layer_named (is_in_use world) layer ≡ true
        layer_is layer is =
            let used = found_used layer.filesystem layer.directory
            (directory_is_there ((filesystem_numbered nat_eq world layer.filesystem).files.tree.node layer.directory)
            (and_parts (not (is_overlay (filesystem_numbered nat_eq world layer.filesystem)))
            (is_directory_node ((filesystem_numbered nat_eq world layer.filesystem).files.tree.node layer.directory))
            is).1) in
            and_from (is_in_use world layer.filesystem) (is_in_use world layer.directory) used.0 used.1

        all_layers : (layers : List (Layer ℕ)) → list_all (is_plain_layer nat_eq world) layers ≡ true
            → list_all (layer_named (is_in_use world)) layers ≡ true
        all_layers layers is = list_all_from_among (layer_named (is_in_use world)) layers
            (λ layer among. layer_is layer (among_from_list_all (is_plain_layer nat_eq world) layers is layer among))

        some_layer : (o : Option (Layer ℕ)) → list_all (is_plain_layer nat_eq world) (option_to_list o) ≡ true
            → none_or (layer_named (is_in_use world)) o ≡ true
        some_layer None is = refl
        some_layer (Some layer) is = layer_is layer (and_parts (is_plain_layer nat_eq world layer) true is).0

        layers : (list_all (is_plain_layer nat_eq world) (option_to_list overlay.upper ++ option_to_list overlay.work)
            ≡ true) × (list_all (is_plain_layer nat_eq world) overlay.lowers ≡ true)
        layers = grind (arith, common_steps, and_parts, list_all-append, among_from_list_all)

        above : (list_all (is_plain_layer nat_eq world) (option_to_list overlay.upper) ≡ true)
            × (list_all (is_plain_layer nat_eq world) (option_to_list overlay.work) ≡ true)
        above = and_parts (list_all (is_plain_layer nat_eq world) (option_to_list overlay.upper))
            (list_all (is_plain_layer nat_eq world) (option_to_list overlay.work))
            (sym (list_all-append (is_plain_layer nat_eq world) (option_to_list overlay.upper)
            (option_to_list overlay.work)) ∙ layers.0)

        upper_is : (object : ℕ) (upper : Option (Layer ℕ))
            → holds_of (λ layer. is_there nat_eq world layer.filesystem object) upper ≡ true
            → is_in_use world object ≡ true
        upper_is object None is = absurd cc
        upper_is object (Some layer) is = (found_used layer.filesystem object is).1

        real_is : (number : ℕ) (real : Option (Real ℕ)) → overlay.real number ≡ real
            → none_or (real_named (is_in_use world)) real ≡ true
        real_is number None f = refl
        real_is number (Some (Upper object)) f = upper_is object overlay.upper (merged.upper_there number object f)
        real_is number (Some (Lower layer path)) f = refl

    filesystem_is : FilesystemNamed (is_in_use world) filesystem
    filesystem_is = record {
      number = used_filesystem filesystem filesystem.number there (inl refl);
      root = listed_used filesystem there tree.root (directory_used tree tree.root is_tree.root_directory);
      nodes = record {
        nowhere_else = λ number out. node_out number out (is_some (tree.node number)) refl;
        has_only = λ number. node_is number (tree.node number) refl;
      };
      numbers = list_all_from_among (is_in_use world) filesystem.files.numbers
          (λ number among. used_filesystem filesystem number there (inr among));
      overlay = overlay_is filesystem.overlay refl;
    }

  -- Tasks
  task_is : (task : Task ℕ) → Among task world.tasks → task_named (is_in_use world) task ≡ true
  task_is task there = and_from _ (list_all (descriptor_named (is_in_use world)) task.descriptors)
      (and_from _ (location_named (is_in_use world) task.directory)
      (and_from (is_in_use world task.namespace) (location_named (is_in_use world) task.root)
      (used_namespace task.namespace
      (among_from_list_all (λ (t : Task ℕ). is_listed nat_eq world t.namespace) world.tasks
      whole.namespaces.tasks_listed task
      there)) (of_location task.root (inl refl))) (of_location task.directory (inr (inl refl))))
      (list_all_from_among (descriptor_named (is_in_use world)) task.descriptors (λ descriptor among.
      of_location descriptor.location
      (inr (inr (among-map (λ (d : Descriptor ℕ). d.location) task.descriptors descriptor among)))))
    where
      of_location : (location : Location ℕ) → Among location (locations_of task)
          → location_named (is_in_use world) location ≡ true
      of_location location among = located_named location
          (among_from_list_all (is_located_well nat_eq world) (all_locations world) whole.tasks.locations_live location
          (among-flat_map locations_of world.tasks task location there among))

  world_is : WorldNamed (is_in_use world) world
  world_is = record {
    mounts = list_all_from_among (mount_named (is_in_use world)) world.mounts mount_is;
    masters = masters;
    filesystems = all_from_among (FilesystemNamed (is_in_use world)) world.filesystems filesystem_is;
    namespaces = list_all_from_among (namespace_named (is_in_use world)) world.namespaces (λ namespace among.
        used_namespace namespace.number (is_among_numbers namespace.number of_namespaces
        (among-map (λ (n : Namespace ℕ). n.number) world.namespaces namespace among)));
    tasks = list_all_from_among (task_named (is_in_use world)) world.tasks task_is;
  }

pub any_worlds_have_numbers_in_use : AnyWorldsHaveNumbersInUse
any_worlds_have_numbers_in_use world whole = world_is world whole
