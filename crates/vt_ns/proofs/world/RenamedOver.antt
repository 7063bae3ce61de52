-- The event that renames, with the mounts on what is replaced: rename(2).
use Rattle.std.proofs.Common.{◌≡◌, ◌≢◌, refl, sym, ap, subst, ◌∙◌, true, ℕ, nat_eq, ◌&&◌, List, [], ◌∷◌, Option, None, Some, option_map, map, length, IfSome, option_to_list, map-id}
use Rattle.vt_spec.proofs.Common.{Change, Fresh, Mount, Move, Permit, TaskName, ToChange, ToRename, World, apply, entry_at, filesystem_at, filesystem_numbered, mount_at, mount_numbered, mounts_on, regrouped, same_Some, with_change, with_mounts, without_replaced}
use Rattle.vt_spec.specs.Machine.Mounts as meant
use Rattle.vt_ns.proofs.Common.{Among, ChangesFiles, ChangesInodes, Filesystems, Grouping, HasChildrenOf, IsDone, IsFilesEvent, IsHeld, IsSmall, LeaveTogether, Merged, MountEntry, NamesWhatIsThere, OverlaysLeft, Permits, StoreValue, WorldValue, counted, detached_world, inodes_seen, is_counted_before, is_small_node, kept, kept_of, kept_with, location_of, merged_of, mounts_in, nodes_named, number_of, numbers_of_trees, permit_named, remade_with, taken_regroups, with_filesystems, with_store, world_of}
use Rattle.vt_spec.specs.Inodes.{changed}
use Rattle.vt_group.proofs.Together.{regrouped_living}
use Rattle.vt_laws_mounts.specs.LettingGo.FileChanges.{names_lost}
use Rattle.vt_location.specs.declared.locations.Location.{Location}
use Rattle.vt_location.specs.declared.numbers.MountId.{MountId}
use Rattle.vt_laws_worlds.specs.Permits.Sees.{MayBeRenamed}
use Rattle.vt_laws_worlds.specs.Worlds.Permits.{IsReached}
use Rattle.vt_mounting.specs.Detach.Detached.{trees_of_replaced}
use Rattle.vt_ns.proofs.world.ChangedWithMounts.{changed_then_detached, nothing_goes}
use Rattle.vt_ns.proofs.world.FileRenaming as Renaming
use Rattle.vt_mounting.proofs.detach.LazilyUnmounted.{trees_have_children}
use Rattle.vt_ns.proofs.world.DetachedStored.{collected_leave, left_is_stored, none_goes, some_go}
use Rattle.vt_ns.proofs.world.MountsOn.{none_on, one_on, tops_on, trees_collected}
use Rattle.vt_ns.proofs.world.PlainStored.{files_stored}

-- the mounts on what is replaced
abbrev pub tops_on_replaced : WorldValue → Option Location → List (Mount ℕ)
tops_on_replaced value None = []
tops_on_replaced value (Some other) = tops_on value other

module _ (value : WorldValue) (held : IsHeld value) (name : TaskName) (from : Location) (old : List ℕ) (to : Location)
    (new : List ℕ) (object : Location) (replaced : Option Location) (small : IsSmall from) (small_to : IsSmall to)
    (small_object : IsSmall object) (small_replaced : IfSome replaced (λ other. is_small_node other.node ≡ true))
    (permits : Permits value name (ToRename (location_of from) old (location_of to) new (location_of object)
    (option_map location_of replaced))) where
  abbrev world : World ℕ
  world = world_of value

  abbrev permit : Permit ℕ
  permit = ToRename (location_of from) old (location_of to) new (location_of object) (option_map location_of replaced)

  abbrev change : Change ℕ
  change = Move (number_of from.node) old (number_of to.node) new (number_of object.node)

  abbrev gone : List ℕ
  gone = numbers_of_trees world (tops_on_replaced value replaced)

  names : NamesWhatIsThere world permits.task permit
  names = Renaming.names value held name from old to new object replaced small small_to small_object permits

  sees : MayBeRenamed world (location_of from) old (location_of to) new (location_of object)
      (option_map location_of replaced)
  sees = Renaming.sees value held name from old to new object replaced small small_to small_object permits

  -- what is collected are these, with their descendants
  pub replaced_collected : (numbers : List ℕ) → numbers ≡ trees_of_replaced (mounts_in value.mounts) replaced
      → numbers ≡ gone
  replaced_collected numbers is = is ∙ by replaced small_replaced names.3
    where
      by : (o : Option Location) → IfSome o (λ other. is_small_node other.node ≡ true)
          → ((other : meant.Location ℕ) → option_map location_of o ≡ Some other
          → IsReached (world_of value) permits.task other)
          → trees_of_replaced (mounts_in value.mounts) o ≡ numbers_of_trees (world_of value) (tops_on_replaced value o)
      by None few there = refl
      by (Some other) few there = trees_collected value held other few (there (location_of other) refl).there

  -- where none is collected none stands on what is replaced
  pub nothing_on_replaced : gone ≡ []
      → IfSome replaced (λ other. mounts_on nat_eq (world_of value) (location_of other) ≡ [])
  nothing_on_replaced none = by replaced none
    where
      by : (o : Option Location) → numbers_of_trees (world_of value) (tops_on_replaced value o) ≡ []
          → IfSome o (λ other. mounts_on nat_eq (world_of value) (location_of other) ≡ [])
      by None e = tt
      by (Some other) e = none_on world (tops_on value other) e

  closed : HasChildrenOf gone world.mounts
  closed = trees_have_children world held.in_world.mounts (tops_on_replaced value replaced)

  taken : (o : Option Location) → without_replaced nat_eq world (option_map location_of o)
      ≡ regrouped nat_eq (detached_world (numbers_of_trees world (tops_on_replaced value o)) world)
  taken None = sym (regrouped_living world held.in_world.mounts.groups)
      ∙ ap (λ mounts. regrouped nat_eq (with_mounts world mounts)) (sym (map-id world.mounts))
  taken (Some other) = taken_regroups world (numbers_of_trees world (tops_on value other))
      (trees_have_children world held.in_world.mounts (tops_on value other))

  applied : (supply : Fresh ℕ) → (apply nat_eq supply world permits.task permit).world
      ≡ with_change nat_eq supply (regrouped nat_eq (detached_world gone world)) (location_of from) change
  applied supply = ap (λ w. with_change nat_eq supply w (location_of from) change) (taken replaced)

  -- a mount that stands on what is replaced
  record IsOnReplaced : Type 0 where
    inode : ℕ
    lost : names_lost (filesystem_at nat_eq world (location_of from)).files change ≡ inode ∷ []
    mount : Mount ℕ
    among : Among mount world.mounts
    place : meant.Location ℕ
    placed : mount.mount_point ≡ Some place
    at : place.node ≡ inode
    shows : (mount_at nat_eq world place).filesystem ≡ (mount_at nat_eq world (location_of from)).filesystem

  facts : (other : Location) → replaced ≡ Some other
      → (names_lost (filesystem_at nat_eq world (location_of from)).files change ≡ number_of other.node ∷ [])
      × ((location_of other).mount ≡ (location_of from).mount)
  facts other is = by (entry_at (filesystem_at nat_eq world (location_of to)).files.tree (number_of to.node) new) refl
      (sym (ap (option_map location_of) is) ∙ sees.replaces)
    where
      by : (o : Option ℕ) → entry_at (filesystem_at nat_eq world (location_of to)).files.tree (number_of to.node) new
          ≡ o
          → Some (location_of other) ≡ option_map (λ number. record { mount = (location_of to).mount; node = number }) o
          → (names_lost (filesystem_at nat_eq world (location_of from)).files change ≡ number_of other.node ∷ [])
          × ((location_of other).mount ≡ (location_of from).mount)
      by None e h = absurd cc
      by (Some n) e h =
          let same : location_of other ≡ record { mount = (location_of to).mount; node = n } = same_Some _ _ h in (
            ap option_to_list (ap (λ m. entry_at (filesystem_numbered nat_eq world
                (mount_numbered nat_eq world m).filesystem).files.tree (number_of to.node) new) (sym sees.to_mount) ∙ e)
                ∙ ap (λ k. k ∷ []) (sym (ap (λ (l : meant.Location ℕ). l.node) same)),
            ap (λ (l : meant.Location ℕ). l.mount) same ∙ sees.to_mount,
          )

  some_on : (o : Option Location) → replaced ≡ o → IfSome o (λ other. is_small_node other.node ≡ true)
      → numbers_of_trees world (tops_on_replaced value o) ≢ [] → IsOnReplaced
  some_on None is few some = absurd (some refl)
  some_on (Some other) is few some =
      let on = one_on value held other few (λ none. some (ap (numbers_of_trees world) none)) in record {
        inode = number_of other.node;
        lost = (facts other is).0;
        mount = on.mount;
        among = on.among;
        place = on.place;
        placed = on.placed;
        at = on.at_inode;
        shows = on.shows ∙ ap (λ n. (mount_numbered nat_eq world n).filesystem) (facts other is).1;
      }

  -- an object is renamed over one on which mounts stand
  pub rename_is_done : (filesystems others : Filesystems) (overlays : List Merged)
      (mounts : List MountEntry) (groups : Grouping) → gone ≢ []
      → ChangesInodes from.node.filesystem.count (λ inodes. changed nat_eq inodes change) value.filesystems filesystems
      → LeaveTogether gone (kept_of (with_filesystems value filesystems)) value.groups
      (kept_with mounts others overlays) groups
      → IsDone value name permit (record (remade_with value mounts others overlays value.tasks) { groups = groups })
  rename_is_done filesystems others overlays mounts groups some changes together =
      let seen = Renaming.from_seen value held name from old to new object replaced small small_to small_object permits in
      let made : ChangesFiles value (location_of from) change filesystems = record {
        entry = seen.entry;
        among = seen.among;
        found = seen.found;
        shows = seen.shows;
        fits = Renaming.change_fits value held name from old to new object replaced small small_to small_object permits
            (inodes_seen seen.entry) refl;
        links = tt;
        changes =
            subst (λ count. ChangesInodes count (λ inodes. changed nat_eq inodes change) value.filesystems filesystems)
            (sym seen.count_is) changes;
        own = λ number other. tt;
      } in
      let reached : NamesWhatIsThere world permits.task (ToChange (location_of from) change) = (names.0.reached, tt) in
      let named : permit_named (is_counted_before value.next) (ToChange (location_of from) change) ≡ true =
      (λ i. seen.named i && (nodes_named value.next from.node i && nodes_named value.next to.node i
      && nodes_named value.next object.node i)) in
      let is_named = Renaming.is_named value held name from old to new object replaced small small_to small_object permits in
      let on = some_on replaced refl small_replaced some in
      changed_then_detached value held
      (location_of from) change filesystems made name permit permits gone reached named is_named applied
      (nothing_goes value held (location_of from) change filesystems made name permit permits gone reached named is_named applied
      on.inode on.lost (record { named = sees.moves.named; in_directory = sees.moves.in_directory }) on.mount on.among
      on.place on.placed on.at on.shows) closed mounts groups others overlays together

-- What code does with its store

module _ (base : WorldValue) (store : StoreValue) (held : IsHeld (with_store store base)) (name : TaskName)
    (from : Location) (old : List ℕ) (to : Location) (new : List ℕ) (object : Location) (replaced : Option Location)
    (small : IsSmall from) (small_to : IsSmall to) (small_object : IsSmall object)
    (small_replaced : IfSome replaced (λ other. is_small_node other.node ≡ true))
    (permits : Permits (with_store store base) name (ToRename (location_of from) old (location_of to) new
    (location_of object) (option_map location_of replaced))) (ids : List MountId)
    (collected : map (λ id. counted id.count) ids ≡ trees_of_replaced (mounts_in base.mounts) replaced) where
  abbrev renamed : Permit ℕ
  renamed = ToRename (location_of from) old (location_of to) new (location_of object) (option_map location_of replaced)

  abbrev trees : List ℕ
  trees = numbers_of_trees (world_of (with_store store base)) (tops_on_replaced (with_store store base) replaced)

  are : map (λ id. counted id.count) ids ≡ trees
  are = replaced_collected (with_store store base) held name from old to new object replaced small small_to small_object
      small_replaced permits (map (λ id. counted id.count) ids) collected

  -- the mounts that are collected leave with what is replaced
  pub rename_over : length ids ≢ 0 → (plain : Filesystems) → ChangesInodes from.node.filesystem.count
      (λ inodes. changed nat_eq inodes (Move (number_of from.node) old (number_of to.node) new (number_of object.node)))
      store.plain plain → (mounts : List MountEntry) (groups : Grouping) (last : StoreValue)
      → LeaveTogether (map (λ id. counted id.count) ids) (kept base.mounts (record store { plain = plain }))
      base.groups (kept mounts last) groups → OverlaysLeft store.overlays last.overlays
      → IsDone (with_store store base) name renamed (with_store last (record base { mounts = mounts; groups = groups }))
  rename_over some plain changes mounts groups last left overlays =
      left_is_stored base store held ids trees are plain mounts groups last left overlays name renamed permits
      (rename_is_done (with_store store base) held name from old to new object replaced small small_to small_object
      small_replaced permits plain last.plain (map merged_of last.overlays) mounts groups
      (some_go base store held ids trees are some) changes
      (collected_leave base store held ids trees are plain mounts groups last left))

  -- none leaves where none is collected
  pub rename_stays : length ids ≡ 0 → (plain : Filesystems) → ChangesInodes from.node.filesystem.count
      (λ inodes. changed nat_eq inodes (Move (number_of from.node) old (number_of to.node) new (number_of object.node)))
      store.plain plain
      → IsFilesEvent (with_store store base) name renamed (with_store (record store { plain = plain }) base)
  rename_stays none plain changes = files_stored base store held name renamed permits plain
      (Renaming.rename_alone_is_done (with_store store base) held name from old to new object replaced small small_to
      small_object permits
      (nothing_on_replaced (with_store store base) held name from old to new object replaced small small_to small_object
      small_replaced permits (none_goes base store held ids trees are none)) plain changes)
