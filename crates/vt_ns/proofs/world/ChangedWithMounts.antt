-- A tree is changed first, and then mounts are detached that stand on what is removed: rmdir(2), rename(2).
use Rattle.std.proofs.Common.{◌≡◌, refl, sym, ap, subst, ◌∙◌, ℕ, nat_eq, eq-eqb, Bool, true, false, cond, not, ◌&&◌, List, [], ◌∷◌, ◌++◌, map, filter, flat_map, Option, None, Some, option_map, is_some, filter_map, arith}
use Rattle.vt_spec.proofs.Common.{Change, Filesystem, Fresh, IsTree, IsWorld, ListsNumbers, Location, Mount, Overlay, OverlayInvariants, Permit, SameWorlds, TaskName, ToChange, TreeInvariants, World, all_locations, apply, filesystem_at, filesystem_changed, filesystem_numbered, has_too_many, inheriting, is_among, is_overlay, is_within_limits, layers_in, list_all, list_any, located_in, lost_a_group, mount_at, named_in, objects_of_overlay, overlay_or, regrouped, regrouped_by, replaced_if_numbered, root_of, settled, shown-mapped, with_change, with_files, with_filesystem, common_steps}
use Rattle.vt_spec.proofs.Worlds.{filesystems-regrouped}
use Rattle.vt_laws_mounts.specs.Counts.Changing.{filesystem_of}
use Rattle.vt_ns.proofs.Common.{Among, ChangesFiles, CountsWhatIsInIt, Filesystems, Grouping, Has, HasChildrenOf, Inode, IsDone, IsHeld, IsKeptBut, IsUnderWay, LeaveInTurn, LeaveTogether, Merged, MountEntry, NamesWhatIsThere, Permits, WorldValue, all_from_among, among-append_right, among-map, among_from_all, detached_world, filesystem_seen, found_plain_one, given_permits_are_under_way_anywhere, given_permits_leave_every_world, given_to_task, has_ordered, in_use_of, is_among_numbers, is_counted_before, kept_of, kept_with, permit_named, remade_with, sameness_is_an_equivalence, supply_of, taken_regroups, with_filesystems, world_of}
use Rattle.vt_group.specs.Together.{TakesAway}
use Rattle.vt_laws_worlds.proofs.permits.named.PermitsKeepTo.{permits_keep_to_numbers}
use Rattle.vt_laws_worlds.proofs.one_text.same.SameNumbers.{any_same_worlds_keep_to_numbers}
use Rattle.vt_laws_worlds.proofs.one_text.same.SameWhole.{any_same_worlds_are_under_way, any_same_worlds_are_worlds}
use Rattle.vt_laws_worlds.proofs.overlay_permits.kept.KeptOverlays.{overlays_in}
use Rattle.vt_laws_worlds.proofs.overlay_permits.worlds.LowersGoOn.{Layers, changed_layers, layers, layers_at}
use Rattle.vt_laws_worlds.specs.OverlaysRead.Writers.{WritersHaveLayers}
use Rattle.vt_laws_worlds.proofs.overlays_read.Swept.{same_worlds_have_layers_alike, sweeps_keep_writers, writers_alike}
use Rattle.vt_mounting.proofs.detach.Writers.{left_writers}
use Rattle.vt_laws_worlds.proofs.overlay_permits.worlds.SweptWorlds.{settling_leaves_every_world}
use Rattle.vt_laws_mounts.proofs.letting_go.Lists.{among-filter, among-filter_map, is_among_left, is_among_right, map_same, or_right}
use Rattle.vt_laws_mounts.proofs.letting_go.leaving.NamesKept.{changes_keep_names}
use Rattle.vt_laws_mounts.proofs.letting_go.sweeps.OfWorlds.{worlds_are_settled, worlds_have_trees}
use Rattle.vt_laws_mounts.proofs.letting_go.leaving.TreesWithOverlays.{unnamed_go_with_overlays}
use Rattle.vt_laws_mounts.specs.LettingGo.FileChanges.{MayChange, names_lost}
use Rattle.vt_laws_mounts.specs.LettingGo.InUse.{IsListedTree, is_inode_used}
use Rattle.vt_laws_mounts.specs.LettingGo.Overlays.{let_go_all_inodes, let_go_in, let_go_in_of, uppers_of_inode_in, without_inode_of}
use Rattle.vt_laws_mounts.specs.LettingGo.TreeChanges.{ChangesTree}
use Rattle.vt_laws_trees.proofs.runs.answered.AlikeMounts.{regrouped_alike}
use Rattle.vt_laws_trees.proofs.runs.answered.AlikeSettled.{settled_alike}
use Rattle.vt_laws_trees.proofs.runs.answered.AlikeWorlds.{Alike, alike_from_same, same_from_alike}
use Rattle.vt_laws_worlds.specs.Worlds.Permits.{IsFitPermit}
use Rattle.vt_laws_worlds.proofs.kept.MountsKept.{all_mounts_kept}
use Rattle.vt_laws_worlds.proofs.kept.NamespacesKept.{all_namespaces_kept}
use Rattle.vt_laws_worlds.proofs.worlds.PermitsNamed.{all_permits_keep_counting_forks, all_permits_keep_names}
use Rattle.vt_laws_worlds.proofs.worlds.PermitsPlaced.{directories_stay, locations_stay, open_files_stay}
use Rattle.vt_laws_worlds.proofs.worlds.PermitsShow.{all_permits_keep_mounts_showing}
use Rattle.vt_mounting.proofs.detach.ChangedFiles.{change_is_held, change_is_swept}
use Rattle.vt_mounting.proofs.detach.Bridging.{MayBeSwept, swept_is_same}
use Rattle.vt_mounting.proofs.detach.DetachingBegins.{detaching_begins}
use Rattle.vt_mounting.proofs.detach.DetachingEnds.{detached_counted, detached_is_private, detached_swept, held_is_kept}
use Rattle.vt_mounting.proofs.detach.Finishing.{swept_held}
use Rattle.vt_mounting.proofs.detach.FollowedTypes.{own_types}
use Rattle.vt_mounting.proofs.detach.Overlaid.{plain_one_among}
use Rattle.vt_mounting.proofs.detach.Keeping.{detached_in}
use Rattle.vt_mounting.proofs.detach.MountsGone.{pending_filesystem, pending_number}
use Rattle.vt_mounting.proofs.detach.Moving.{nat_eq_turned}
use Rattle.vt_mounting.proofs.detach.Staying.{becomes_so}
use Rattle.vt_mounting.proofs.detach.TypedEvents.{counts_typed, swept_typed, typed_value}
use Rattle.vt_mounting.proofs.detach.TypedWorlds.{settled_typed, settled_typed_has, typed_world}
use Rattle.vt_mounting.proofs.detach.UnmountedLazily.{all_detached}
use Rattle.vt_spec.specs.Language.Changes as Trees

-- whether an overlay has no upper layer is told by its layers

abbrev lacking : Option Layers → Bool
lacking None = false
lacking (Some all) = not (is_some all.0)

lacks_by_layers : (o : Option (Overlay ℕ))
    → overlay_or false (λ overlay. not (is_some overlay.upper)) o ≡ lacking (option_map layers o)
lacks_by_layers o = grind (arith, common_steps)

lacks_alike : (a b : Option (Overlay ℕ)) → option_map layers a ≡ option_map layers b
    → overlay_or false (λ overlay. not (is_some overlay.upper)) a
    ≡ overlay_or false (λ overlay. not (is_some overlay.upper)) b
lacks_alike a b same = lacks_by_layers a ∙ ap lacking same ∙ sym (lacks_by_layers b)

module _ (value : WorldValue) (held : IsHeld value) (location : Location ℕ) (change : Change ℕ)
    (filesystems : Filesystems) (made : ChangesFiles value location change filesystems) where
  abbrev world : World ℕ
  world = world_of value

  abbrev changed_first : Fresh ℕ → World ℕ
  changed_first fresh = with_change nat_eq fresh world location change

  abbrev changed_files : Filesystem ℕ
  changed_files = with_files (filesystem_at nat_eq world location)
      (Trees.changed nat_eq (filesystem_at nat_eq world location).files change)

  no_overlay : (filesystem_at nat_eq world location).overlay ≡ None
  no_overlay = grind (arith, common_steps, found_plain_one)

  -- the change of the world is that of one filesystem
  pub changed_is : (fresh : Fresh ℕ) → changed_first fresh ≡ with_filesystem nat_eq world changed_files
  changed_is fresh = cc no_overlay

  -- it leaves each overlay its layers, so no descriptor is open for writing in one
  pub change_keeps_writers : (fresh : Fresh ℕ) → WritersHaveLayers (changed_first fresh)
  change_keeps_writers fresh = subst WritersHaveLayers (sym (changed_is fresh))
      (writers_alike world (with_filesystem nat_eq world changed_files) (λ at.
      lacks_alike (filesystem_at nat_eq (with_filesystem nat_eq world changed_files) at).overlay
      (filesystem_at nat_eq world at).overlay (subst (λ w. layers_at w (mount_at nat_eq world at).filesystem
      ≡ layers_at world (mount_at nat_eq world at).filesystem) (changed_is fresh)
      (changed_layers fresh world location change (mount_at nat_eq world at).filesystem)))
      (λ test. refl) held.overlays.writers)

  -- mounts that are detached and a tree that is changed are apart
  pub changed_detached : (fresh : Fresh ℕ) (gone : List ℕ)
      → with_change nat_eq fresh (detached_world gone world) location change ≡ detached_world gone (changed_first fresh)
  changed_detached fresh gone =
      ap (λ n. filesystem_changed nat_eq fresh (detached_world gone world) (filesystem_numbered nat_eq world n)
      (filesystem_numbered nat_eq world n).overlay change)
      (shown-mapped (detached_in gone) (pending_number gone) (pending_filesystem gone) world.mounts location.mount)
      ∙ ap (λ overlay. filesystem_changed nat_eq fresh (detached_world gone world)
      (filesystem_at nat_eq world location) overlay change) no_overlay
      ∙ ap (detached_world gone) (sym (changed_is fresh))

  -- also where the groups that lost their last member end
  abbrev loses : World ℕ → Bool
  loses one = list_any (lost_a_group nat_eq one) one.mounts

  -- it is the same before and after mounts are detached
  pub changed_regrouped : (fresh : Fresh ℕ) (gone : List ℕ)
      → with_change nat_eq fresh (regrouped nat_eq (detached_world gone world)) location change
      ≡ regrouped nat_eq (detached_world gone (changed_first fresh))
  changed_regrouped fresh gone = by (loses (detached_world gone world))
      ∙ ap (λ b. regrouped_by nat_eq b (detached_world gone (changed_first fresh)))
      (ap (λ w. loses (detached_world gone w)) (sym (changed_is fresh)))
    where
      by : (b : Bool) → with_change nat_eq fresh (regrouped_by nat_eq b (detached_world gone world)) location change
          ≡ regrouped_by nat_eq b (detached_world gone (changed_first fresh))
      by false = changed_detached fresh gone
      by true = ap (λ n. filesystem_changed nat_eq fresh (regrouped_by nat_eq true (detached_world gone world))
          (filesystem_numbered nat_eq world n) (filesystem_numbered nat_eq world n).overlay change)
          (shown-mapped (inheriting nat_eq (detached_world gone world)) (λ mount. refl) (λ mount. refl)
          (detached_world gone world).mounts location.mount ∙ shown-mapped (detached_in gone) (pending_number gone)
          (pending_filesystem gone) world.mounts location.mount)
          ∙ ap (λ overlay. filesystem_changed nat_eq fresh (regrouped_by nat_eq true (detached_world gone world))
          (filesystem_at nat_eq world location) overlay change) no_overlay
          ∙ ap (λ w. regrouped_by nat_eq true (detached_world gone w)) (sym (changed_is fresh))

  module _ (name : TaskName) (permit : Permit ℕ) (permits : Permits value name permit) (gone : List ℕ)
      (names : NamesWhatIsThere world permits.task (ToChange location change))
      (named : permit_named (is_counted_before value.next) (ToChange location change) ≡ true)
      (is_named : permit_named (is_counted_before value.next) permit ≡ true)
      (applied : (supply : Fresh ℕ) → (apply nat_eq supply world permits.task permit).world
      ≡ with_change nat_eq supply (regrouped nat_eq (detached_world gone world)) location change) where
    abbrev fresh : Fresh ℕ
    fresh = supply_of value permit

    -- what the permit leaves before the sweep, whatever numbers are handed in
    leaves : (supply : Fresh ℕ) → (apply nat_eq supply world permits.task permit).world
        ≡ regrouped nat_eq (detached_world gone (changed_first fresh))
    leaves supply = cc (applied supply, changed_regrouped supply gone, changed_is supply, changed_is fresh)

    -- the invariants of a world before the sweep
    abbrev IsReady : World ℕ → Type 0
    IsReady one = IsUnderWay one × OverlayInvariants nat_eq one

    last_under_way : IsReady (regrouped nat_eq (detached_world gone (changed_first fresh)))
    last_under_way = subst IsReady (leaves fresh)
        (given_permits_are_under_way_anywhere world fresh permits.task permit held.in_world
        (given_to_task fresh world permits.task permit permits.given))

    -- groups that end leave the trees as they are
    trees_under_way : (b : Bool) → IsReady (regrouped_by nat_eq b (detached_world gone (changed_first fresh)))
        → TreeInvariants nat_eq (changed_first fresh) × OverlayInvariants nat_eq (changed_first fresh)
    trees_under_way true last = (
      record {
        trees = last.0.files.trees;
        own_parents = last.0.files.own_parents;
        numbers = last.0.files.numbers;
        one_filesystem = last.0.files.one_filesystem;
        fit_filesystems = last.0.files.fit_filesystems;
      },
      overlays_in (changed_first fresh) (regrouped_by nat_eq true (detached_world gone (changed_first fresh))) refl
          last.1,
    )
    trees_under_way false last = (
      record {
        trees = last.0.files.trees;
        own_parents = last.0.files.own_parents;
        numbers = last.0.files.numbers;
        one_filesystem = last.0.files.one_filesystem;
        fit_filesystems = last.0.files.fit_filesystems;
      },
      overlays_in (changed_first fresh) (regrouped_by nat_eq false (detached_world gone (changed_first fresh))) refl
          last.1,
    )

    trees_ready : TreeInvariants nat_eq (changed_first fresh) × OverlayInvariants nat_eq (changed_first fresh)
    trees_ready = trees_under_way (loses (detached_world gone (changed_first fresh))) last_under_way

    fit : IsFitPermit fresh world permits.task (ToChange location change)
    fit = record {
      names = names;
      few_mounts = subst (λ (w : World ℕ). has_too_many nat_eq w ≡ false)
          (sym (changed_is fresh)) held.in_world.namespaces.few_mounts;
    }

    first_under_way : IsUnderWay (changed_first fresh)
    first_under_way =
        let is = held.in_world in
        let serves = permits.given.serves in
        let found = permits.given.called in
        let task = permits.task in
        record {
          files = trees_ready.0;
          mounts = all_mounts_kept world fresh task (ToChange location change) is serves found fit;
          namespaces = all_namespaces_kept world fresh task (ToChange location change) is serves found fit;
          tasks = record {
            one_task = all_permits_keep_names world fresh task (ToChange location change) is serves found fit;
            small_tasks = subst (λ (w : World ℕ). list_all is_within_limits w.tasks ≡ true)
                (sym (changed_is fresh)) is.tasks.small_tasks;
            forks_counted = all_permits_keep_counting_forks world fresh task
                (ToChange location change) is serves found fit;
            locations_live = locations_stay world fresh task (ToChange location change) is serves found fit tt;
            directories = directories_stay world fresh task (ToChange location change) is serves found fit tt;
            open_files = open_files_stay world fresh task (ToChange location change) is serves found fit tt;
          };
          roots = all_permits_keep_mounts_showing world fresh task (ToChange location change) is serves found fit;
        }

    -- the world with the tree changed has its invariants, and counts what is in it
    pub changed_first_is_held : IsHeld (with_filesystems value filesystems)
    changed_first_is_held = change_is_held value held location change filesystems made
        (any_same_worlds_are_worlds (settled nat_eq (changed_first fresh))
        (world_of (with_filesystems value filesystems))
        (change_is_swept value held location change filesystems made fresh)
        (settling_leaves_every_world (changed_first fresh) first_under_way trees_ready.1))
        (any_same_worlds_keep_to_numbers (is_counted_before value.next)
        (settled nat_eq (apply nat_eq (λ k. 0) world permits.task (ToChange location change)).world)
        (world_of (with_filesystems value filesystems))
        (change_is_swept value held location change filesystems made (λ k. 0))
        (permits_keep_to_numbers (is_counted_before value.next) (λ k. 0) world permits.task (ToChange location change)
        permits.given.called held.given (λ k. refl) named))
        (same_worlds_have_layers_alike (settled nat_eq (changed_first fresh))
        (world_of (with_filesystems value filesystems))
        (change_is_swept value held location change filesystems made fresh) (sweeps_keep_writers (changed_first fresh)
        (change_keeps_writers fresh)))

    abbrev number : ℕ
    number = filesystem_of world location

    filesystem_is : filesystem_at nat_eq world location ≡ filesystem_seen made.entry
    filesystem_is = ap (filesystem_numbered nat_eq world) made.shows ∙ found_plain_one value held made.entry made.among

    seen_among : Among (filesystem_at nat_eq world location) world.filesystems
    seen_among = subst (λ f. Among f world.filesystems) (sym filesystem_is)
        (plain_one_among value held.overlays.merged made.entry made.among)

    abbrev changed_plainly : World ℕ
    changed_plainly = with_filesystem nat_eq world changed_files

    changed_among : Among changed_files changed_plainly.filesystems
    changed_among = grind (arith, common_steps, cond, eq-eqb, among-map, seen_among)

    listed_after : IsListedTree changed_files.files
    listed_after =
        let files = subst IsUnderWay (changed_is fresh) first_under_way in
        record {
          tree = among_from_all (λ (f : Filesystem ℕ). IsTree f.files.tree) changed_plainly.filesystems
              files.files.trees changed_files changed_among;
          numbers = among_from_all (λ (f : Filesystem ℕ). ListsNumbers nat_eq f.files) changed_plainly.filesystems
              files.files.numbers changed_files changed_among;
        }

    -- Where the one object that loses its name is a mount point, nothing goes by the change alone.
    module _ (object : ℕ) (lost_is : names_lost (filesystem_at nat_eq world location).files change ≡ object ∷ [])
        (may : MayChange (filesystem_at nat_eq world location).files change)
        (mount : Mount ℕ) (among : Among mount world.mounts) (place : Location ℕ)
        (placed : mount.mount_point ≡ Some place)
        (at : place.node ≡ object) (shows : filesystem_of world place ≡ number) where
      changes_tree : ChangesTree (filesystem_at nat_eq world location).files changed_files.files (object ∷ [])
      changes_tree = subst (ChangesTree (filesystem_at nat_eq world location).files changed_files.files) lost_is
          (changes_keep_names (filesystem_at nat_eq world location).files change
          (among_from_all (λ (f : Filesystem ℕ). IsListedTree f.files) world.filesystems
          (worlds_have_trees world held.in_world) (filesystem_at nat_eq world location) seen_among) listed_after may)

      -- the filesystem that is changed is one of the world
      filesystem_listed : is_among nat_eq number (map (λ (f : Filesystem ℕ). f.number) world.filesystems) ≡ true
      filesystem_listed = is_among_numbers number (map (λ (f : Filesystem ℕ). f.number) world.filesystems)
          (subst (λ n. Among n (map (λ (f : Filesystem ℕ). f.number) world.filesystems)) (sym made.shows)
          (among-map (λ (f : Filesystem ℕ). f.number) world.filesystems (filesystem_seen made.entry)
          (plain_one_among value held.overlays.merged made.entry made.among)))

      located : (f : Filesystem ℕ) → nat_eq f.number number ≡ true
          → is_among nat_eq object (located_in nat_eq changed_plainly f.number) ≡ true
      located f same = is_among_numbers object (located_in nat_eq changed_plainly f.number)
          (subst (λ n. Among n (located_in nat_eq changed_plainly f.number)) at
          (among-map (λ (one : Location ℕ). one.node)
          (filter (λ (one : Location ℕ). nat_eq f.number (mount_at nat_eq world one).filesystem)
          (all_locations world ++ map root_of world.mounts
          ++ filter_map (λ (x : Mount ℕ). x.mount_point) world.mounts)) place
          (among-filter (λ (one : Location ℕ). nat_eq f.number (mount_at nat_eq world one).filesystem)
          (all_locations world ++ map root_of world.mounts
          ++ filter_map (λ (x : Mount ℕ). x.mount_point) world.mounts) place
          (among-append_right (all_locations world ++ map root_of world.mounts)
          (filter_map (λ (x : Mount ℕ). x.mount_point) world.mounts) place
          (among-filter_map (λ (x : Mount ℕ). x.mount_point) world.mounts mount place among placed))
          (ap (nat_eq f.number) shows ∙ same))))

      used : (f : Filesystem ℕ) → nat_eq f.number number ≡ true → is_inode_used changed_plainly f object ≡ true
      used f same = or_right (nat_eq object f.files.tree.root) _
          (is_among_left object ((named_in f.files ++ located_in nat_eq changed_plainly f.number)
          ++ layers_in nat_eq changed_plainly f.number)
          (flat_map (objects_of_overlay nat_eq f.number) changed_plainly.filesystems)
          (is_among_left object (named_in f.files ++ located_in nat_eq changed_plainly f.number)
          (layers_in nat_eq changed_plainly f.number)
          (is_among_right object (named_in f.files) (located_in nat_eq changed_plainly f.number) (located f same))))

      -- so it stays, in plain filesystems and in overlays
      stays_in : (chosen : Filesystem ℕ → Bool) → let_go_in chosen changed_plainly (number, object) ≡ changed_plainly
      stays_in chosen = ap (λ all. record changed_plainly { filesystems = all })
          (map_same (let_go_in_of chosen changed_plainly (number, object)) changed_plainly.filesystems
          (λ f m. by f (chosen f) (nat_eq f.number number) refl))
        where
          by : (f : Filesystem ℕ) (a b : Bool) → nat_eq f.number number ≡ b
              → cond ((a && b) && not (is_inode_used changed_plainly f object)) (without_inode_of object f) f ≡ f
          by f true true e = ap (λ c. cond (not c) (without_inode_of object f) f) (used f e)
          by f true false e = refl
          by f false b e = refl

      files_numbered : changed_files.number ≡ number
      files_numbered = ap (λ (f : Filesystem ℕ). f.number) filesystem_is ∙ sym made.shows

      -- and it has no object in an upper layer, since it is in no overlay
      no_object : (all : List (Filesystem ℕ))
          → flat_map (uppers_of_inode_in (number, object)) (map (replaced_if_numbered nat_eq changed_files) all) ≡ []
      no_object [] = refl
      no_object (f ∷ rest) = λ i. by (nat_eq changed_files.number f.number) refl i ++ no_object rest i
        where
          neither : (b : Bool) (none : List Inode) → none ≡ [] → cond b none [] ≡ []
          neither b none e = grind (arith, common_steps)

          by : (b : Bool) → nat_eq changed_files.number f.number ≡ b
              → uppers_of_inode_in (number, object) (cond b changed_files f) ≡ []
          by b e = grind (arith, common_steps, neither, no_overlay, cond, nat_eq_turned, files_numbered)

      object_stays : let_go_all_inodes changed_plainly ((number, object) ∷ []) ≡ changed_plainly
      object_stays = grind (arith, common_steps, stays_in, no_object)

      -- after the change nothing goes that nothing used before
      pub nothing_goes : settled nat_eq (changed_first fresh) ≡ changed_first fresh
      nothing_goes = subst (λ w. settled nat_eq w ≡ w) (sym (changed_is fresh))
          (unnamed_go_with_overlays world number changed_files.files (object ∷ [])
          (worlds_are_settled world held.in_world) held.in_world.files.one_filesystem filesystem_listed
          (ap is_overlay filesystem_is) changes_tree ∙ object_stays)

    -- Where nothing goes by the change alone, the mounts are detached in the world with the tree changed.
    module _ (still : settled nat_eq (changed_first fresh) ≡ changed_first fresh)
        (closed : HasChildrenOf gone world.mounts) where
      abbrev value_changed : WorldValue
      value_changed = with_filesystems value filesystems

      abbrev after : World ℕ
      after = detached_world gone (world_of value_changed)

      abbrev last : World ℕ
      last = detached_world gone (changed_first fresh)

      same_first : SameWorlds (changed_first fresh) (world_of value_changed)
      same_first = subst (λ w. SameWorlds w (world_of value_changed)) still
          (change_is_swept value held location change filesystems made fresh)

      last_alike : Alike (regrouped nat_eq last) (regrouped nat_eq after)
      last_alike =
          let alike = alike_from_same (changed_first fresh) (world_of value_changed) same_first in
          regrouped_alike last after (record {
            mounts = ap (map (detached_in gone)) alike.mounts;
            master = alike.master;
            filesystems = alike.filesystems;
            namespaces = alike.namespaces;
            tasks = alike.tasks;
          })

      same_left : SameWorlds (settled nat_eq (regrouped nat_eq last)) (settled nat_eq (regrouped nat_eq after))
      same_left =
          same_from_alike (settled nat_eq (regrouped nat_eq last)) (settled nat_eq (regrouped nat_eq after))
          (settled_alike (regrouped nat_eq last) (regrouped nat_eq after) last_alike)

      after_under_way : IsReady (regrouped nat_eq after)
      after_under_way =
          let same = any_same_worlds_are_under_way (regrouped nat_eq last) (regrouped nat_eq after)
          (same_from_alike (regrouped nat_eq last) (regrouped nat_eq after) last_alike) last_under_way.0
          last_under_way.1 in (same.0, same.1)

      left_world : IsWorld nat_eq (settled nat_eq (regrouped nat_eq last))
      left_world = subst (λ w. IsWorld nat_eq (settled nat_eq w)) (leaves fresh)
          (given_permits_leave_every_world world fresh permits.task permit held.in_world
          (given_to_task fresh world permits.task permit permits.given))

      -- They leave their groups at once, and all mounts get the types that the groups then tell.
      module _ (groups : Grouping) (follows : TakesAway value.groups groups gone) where
        has_after : Has (regrouped nat_eq after) groups
        has_after = subst (λ one. Has one groups) (taken_regroups (world_of value_changed) gone closed)
            (follows (world_of value_changed) changed_first_is_held.groups changed_first_is_held.in_world.mounts.groups)

        abbrev typed : World ℕ
        typed = typed_world groups after

        same_typed : SameWorlds (settled nat_eq (regrouped nat_eq last)) (settled nat_eq typed)
        same_typed = grind (arith, common_steps, settled_typed after groups has_after, same_left)

        typed_is_world : IsWorld nat_eq (settled nat_eq typed)
        typed_is_world =
            any_same_worlds_are_worlds (settled nat_eq (regrouped nat_eq last)) (settled nat_eq typed) same_typed
            left_world

        writers_after : WritersHaveLayers (settled nat_eq typed)
        writers_after =
            same_worlds_have_layers_alike (settled nat_eq (regrouped nat_eq last)) (settled nat_eq typed) same_typed
            (subst (λ w. WritersHaveLayers (settled nat_eq w)) (leaves fresh)
            (left_writers value held permits.task permit permits.given))

        may_be_swept : MayBeSwept typed
        may_be_swept = record {
          policy = regrouped nat_eq after;
          under = after_under_way.0;
          overlays = after_under_way.1;
          left = settled_typed after groups has_after;
          files = filesystems-regrouped after;
        }

        has_typed : Has (settled nat_eq typed) groups
        has_typed = settled_typed_has after groups has_after
            (detached_is_private (world_of value_changed) gone changed_first_is_held.in_world.mounts.nowhere)

        typed_then_detached : (mounts : List MountEntry) (others : Filesystems) (overlays : List Merged)
            → LeaveInTurn gone (kept_of (with_filesystems value filesystems)) (kept_with mounts others overlays)
            → IsDone value name permit (typed_value groups (remade_with value mounts others overlays value.tasks))
        typed_then_detached mounts others overlays turn =
            let untyped = remade_with value mounts others overlays value.tasks in
            let new = typed_value groups untyped in
            let held_first = changed_first_is_held in
            let detaching = all_detached value_changed [] (in_use_of after) gone
            (kept_of (with_filesystems value filesystems)) (kept_with mounts others overlays)
            (detaching_begins value_changed [] [] (world_of value_changed)
            (kept_of (with_filesystems value filesystems)) (held_is_kept value_changed held_first) gone closed) turn in
            let lost = detaching.lost in
            let kept_last = subst (λ one. IsKeptBut value_changed [] [] [] lost one
            (kept_with mounts others overlays)) detaching.ends detaching.is in
            let swept = swept_typed groups untyped value_changed after [] lost
            (detached_swept value_changed after [] lost untyped overlays kept_last refl refl refl refl refl) in
            let same = sameness_is_an_equivalence.onward (settled nat_eq (regrouped nat_eq last)) (settled nat_eq typed)
            (world_of new) same_typed
            (swept_is_same value_changed held_first typed may_be_swept [] lost new swept has_typed typed_is_world) in
            let counts = counts_typed groups untyped
            (detached_counted value_changed after [] lost untyped overlays kept_last refl refl
            (all_from_among (CountsWhatIsInIt (world_of untyped)) value.namespaces (λ entry m.
            let was = among_from_all (CountsWhatIsInIt
            (world_of value)) value.namespaces held.namespaces entry m in record { tasks = was.tasks }))) in
            record {
              held = swept_held value_changed held_first typed may_be_swept typed_is_world [] lost new swept has_typed counts
                  (any_same_worlds_keep_to_numbers (is_counted_before value.next)
                  (settled nat_eq (apply nat_eq (λ k. 0) world permits.task permit).world) (world_of new)
                  (subst (λ w. SameWorlds (settled nat_eq w) (world_of new)) (sym (leaves (λ k. 0))) same)
                  (permits_keep_to_numbers (is_counted_before value.next) (λ k. 0) world permits.task permit
                  permits.given.called held.given (λ k. refl) is_named)) writers_after;
              becomes = becomes_so value name permit new permits.task permits.called
                  (subst (λ w. SameWorlds (settled nat_eq w) (world_of new)) (sym (leaves fresh)) same);
            }

      -- a change and then a detachment do what the permit does
      pub changed_then_detached : (mounts : List MountEntry) (groups : Grouping) (others : Filesystems)
          (overlays : List Merged) → LeaveTogether gone (kept_of (with_filesystems value filesystems)) value.groups
          (kept_with mounts others overlays) groups
          → IsDone value name permit (record (remade_with value mounts others overlays value.tasks) { groups = groups })
      changed_then_detached mounts groups others overlays together = subst (λ all. IsDone value name permit
          (record (remade_with value all others overlays value.tasks) { groups = groups }))
          (sym (together.types (has_ordered (world_of value) value.groups held.groups) (own_types value held)))
          (typed_then_detached groups together.groups together.entries others overlays together.turn)
