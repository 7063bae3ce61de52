-- A new file is made in a directory, and opened: open(2) with O_CREAT.
use Rattle.std.proofs.Common.{◌≡◌, refl, sym, ap, subst, ◌∙◌, inl, inr, true≢false, ℕ, ◌&&◌, true, nat_eq, eq-eqb, List, [], ◌∷◌, map, Some, leb-false, arith, unwrap_or}
use Rattle.vt_spec.proofs.Common.{Change, Descriptor, Fits, Fresh, Inodes, IsNewIn, IsWorld, Make, Node, OverlayInvariants, Permit, SameWorlds, Task, ToMake, ToOpenNew, World, all_locations, among_from_list_all, apply, free_number, is_located_well, is_within_limits, list_all, locations_of, odds, opens_for_reading, opens_for_writing, settled, tree_of, uses_in, with_change, with_descriptor, with_task, without_dead_mounts, common_steps}
use Rattle.vt_spec.specs.Inodes.{changed}
use Rattle.vt_laws_mounts.proofs.counts.changing.Changes.{only_files_change_beside_overlays}
use Rattle.vt_laws_mounts.proofs.counts.changing.KeptAll.{names_keep_all_beside_overlays}
use Rattle.vt_ns.proofs.Common.{Among, ChangesFiles, ChangesInodes, Filesystems, Has, IsDone, IsHeld, IsLocated, IsSwept, IsUnderWay, Merged, MountEntry, Moves, Permits, Tasks, WorldValue, after, among-append_right, among-map, called, changed_called, counted, entry_of, given_changes_fit, given_permits_are_seen_to, given_permits_are_under_way_anywhere, given_permits_leave_every_world, given_to_task, here_number, inode_at, inodes_at, inodes_seen, is_counted_before, is_own_number, kept_of, kept_with, located_filesystem, located_inodes, location_of, next_inode, next_seen, node_seen, nodes_named, number_of, permit_fits, permit_named, remade, replaced, replaced_split, sameness_is_an_equivalence, seen_where_located, supply_of, with_filesystems, with_location, with_use, world_of, no_entry}
use Rattle.vt_fs.specs.FilesystemsValue.{entry_at}
use Rattle.vt_laws_mounts.proofs.letting_go.Lists.{among-flat_map}
use Rattle.vt_location.specs.declared.locations.Location.{Location}
use Rattle.vt_permits.specs.GrantValue.{node_in}
use Rattle.vt_laws_worlds.specs.Permits.Sees.{HasRoom, MayBeMade}
use Rattle.vt_laws_worlds.proofs.permits.named.PermitsKeepTo.{permits_keep_to_numbers}
use Rattle.vt_laws_worlds.proofs.one_text.answered.AlikeAnswered.{any_same_worlds_are_swept_alike}
use Rattle.vt_laws_worlds.proofs.one_text.same.SameNumbers.{any_same_worlds_keep_to_numbers}
use Rattle.vt_laws_worlds.proofs.one_text.same.SameWhole.{any_same_worlds_are_under_way, any_same_worlds_are_worlds}
use Rattle.vt_laws_worlds.proofs.overlay_permits.kept.KeptOverlays.{overlays_in}
use Rattle.vt_laws_worlds.specs.OverlaysRead.Writers.{WritersHaveLayers}
use Rattle.vt_laws_worlds.proofs.overlays_read.Swept.{same_worlds_have_layers_alike}
use Rattle.vt_mounting.proofs.detach.Writers.{left_writers}
use Rattle.vt_ns.proofs.world.ChangedWithMounts.{change_keeps_writers}
use Rattle.vt_laws_worlds.proofs.overlay_permits.worlds.SweptWorlds.{settling_leaves_every_world}
use Rattle.vt_tasks.specs.TasksValue.{MayOpenMore}
use Rattle.vt_laws_worlds.specs.Worlds.Permits.{IsFitPermit}
use Rattle.vt_laws_worlds.proofs.kept.MountsKept.{all_mounts_kept}
use Rattle.vt_laws_worlds.proofs.kept.NamespacesKept.{all_namespaces_kept}
use Rattle.vt_laws_worlds.proofs.worlds.PermitsNamed.{all_permits_keep_counting_forks, all_permits_keep_names}
use Rattle.vt_laws_worlds.proofs.worlds.PermitsPlaced.{directories_stay, locations_stay, open_files_stay}
use Rattle.vt_laws_worlds.proofs.worlds.PermitsShow.{all_permits_keep_mounts_showing}
use Rattle.vt_mounting.proofs.detach.Bridging.{MayBeSwept, swept_is_same}
use Rattle.vt_mounting.proofs.detach.Grouped.{left_has}
use Rattle.vt_mounting.proofs.detach.ChangedFiles.{change_is_held, change_is_swept, inodes_after, is_change, partner}
use Rattle.vt_ns.proofs.world.OpeningGranted.{IsNext, MayOpen, directory_seen, made_is_numbered, open_permitted, own_made}
use Rattle.vt_ns.proofs.world.FileMaking.{made_in_tree, new_in_slot, new_is_named, next_of_entry}
use Rattle.vt_ns.proofs.world.FilesOpened.{inserted_goes, opened_moves, opened_stays, opened_tasks}
use Rattle.vt_mounting.proofs.detach.FilesSeen.{one_entry}
use Rattle.vt_mounting.proofs.detach.Overlaid.{plain_ones_apart}
use Rattle.vt_mounting.proofs.detach.Finishing.{swept_held}
use Rattle.vt_mounting.proofs.detach.Closing.{used_by}
use Rattle.vt_mounting.proofs.detach.Remaining.{remains_counted, remains_swept}
use Rattle.vt_mounting.proofs.detach.Staying.{becomes_so}

-- a new inode has one use
used_when_made : (inodes : Inodes ℕ) (directory : ℕ) (name : List ℕ) (number : ℕ) (node : Node ℕ)
    → uses_in ((changed nat_eq inodes (Make directory name number node)).inode number) ≡ 1
used_when_made inodes directory name number node = cc (eq-eqb number number refl)

module _ (value : WorldValue) (may : MayOpen value) (it : IsNext value may) where
  open may use {held, name, directory, entry, node, access, small}
  open it use {made, inside, small_made}

  -- the directory stands where the world has it
  abbrev stands : IsLocated value directory
  stands = directory_seen value may

  permits : Permits value name (ToOpenNew (location_of directory) entry
      (node_seen directory.node.filesystem.count node) access)
  permits = grind (arith, common_steps, made_in_tree directory stands.born_here node, open_permitted value may it)

  abbrev count : ℕ
  count = directory.node.filesystem.count

  abbrev permit : Permit ℕ
  permit = ToOpenNew (location_of directory) entry (node_seen count node) access

  abbrev making : Permit ℕ
  making = ToMake (location_of directory) entry (node_seen count node)

  abbrev handed : Fresh ℕ
  handed = supply_of value permit

  abbrev next_number : ℕ
  next_number = next_inode value (location_of directory)

  -- the permit names what is there
  permit_is_fit : IsFitPermit handed (world_of value) permits.task permit
  permit_is_fit = permit_fits value held name permit permits

  sees : MayBeMade (world_of value) (location_of directory) entry (node_seen count node) × HasRoom permits.task
  sees = given_permits_are_seen_to (world_of value) handed permits.task permit held.in_world permits.given

  -- the new file is new in its directory
  pub new_in_directory : IsNewIn directory.node.slot node
  new_in_directory = new_in_slot count directory.node.slot small node
      (subst (λ number. IsNewIn number (node_seen count node)) (here_number directory.node stands.born_here)
      sees.0.fits)

  -- the task may open another file
  pub may_open_one : MayOpenMore (called name value.tasks)
  may_open_one = subst MayOpenMore (sym permits.called) (leb-false _ _ sees.1)

  abbrev change : ℕ → Change ℕ
  change number = Make (number_of directory.node) entry number (node_seen count node)

  fits_next : (inodes : Inodes ℕ) → inodes ≡ inodes_seen stands.entry → Fits inodes (change next_number)
  fits_next inodes same = given_changes_fit (world_of value) handed permits.task permit (location_of directory)
      (change next_number) inodes held.in_world permits.given refl
      (ap tree_of same ∙ ap (λ filesystem. filesystem.files.tree)
      (sym (located_filesystem value held directory stands)))

  -- the parent is a directory, and the name is free
  pub make_fits : Fits (inodes_at value.filesystems count) (change next_number)
  make_fits = fits_next (inodes_at value.filesystems count) (located_inodes value directory stands)

  named : permit_named (is_counted_before value.next) making ≡ true
  named = λ i. stands.named i
      && new_is_named (is_counted_before value.next) (number_of directory.node) (node_seen count node)
      (nodes_named value.next directory.node) sees.0.fits i

  -- the invariants of a world before the sweep
  abbrev IsReady : World ℕ → Type 0
  IsReady one = IsUnderWay one × OverlayInvariants nat_eq one

  under_way : IsReady (apply nat_eq handed (world_of value) permits.task permit).world
  under_way =
      given_permits_are_under_way_anywhere (world_of value) handed permits.task permit held.in_world
      (given_to_task handed (world_of value) permits.task permit permits.given)

  making_fits : IsFitPermit handed (world_of value) permits.task making
  making_fits = record { names = permit_is_fit.names.0; few_mounts = permit_is_fit.few_mounts }

  -- the file is made
  module _ (made_in : Filesystems) (changes : ChangesInodes count (λ inodes.
      changed nat_eq inodes (change (next_seen (entry_at value.filesystems count)))) value.filesystems made_in) where
    abbrev mid : WorldValue
    mid = with_filesystems value made_in

    next_is : next_number ≡ number_of made
    next_is = next_of_entry value (location_of directory) stands.entry count stands.shows
        stands.found stands.count_is ∙ sym (made_is_numbered value may it)

    is_made : ChangesFiles value (location_of directory) (change (number_of made)) made_in
    is_made = record {
      entry = stands.entry;
      among = stands.among;
      found = stands.found;
      shows = stands.shows;
      fits = subst (λ n. Fits (inodes_seen stands.entry) (change n)) next_is
          (fits_next (inodes_seen stands.entry) refl);
      links = tt;
      changes = subst (λ n. ChangesInodes n (λ inodes.
          changed nat_eq inodes (change (number_of made))) value.filesystems made_in) (sym stands.count_is)
          (subst (λ n. ChangesInodes count (λ inodes. changed nat_eq inodes (change n)) value.filesystems made_in)
          (sym (made_is_numbered value may it)) changes);
      own = λ n other same. true≢false (sym (ap (λ k. is_own_number k (number_of made))
          (stands.count_is ∙ ap (λ filesystem. filesystem.count) (sym inside)) ∙ own_made value may it)
          ∙ ap (is_own_number stands.entry.count) (sym same) ∙ other);
    }

    -- the world once it is made, whatever numbers are left over
    abbrev with_made : Fresh ℕ → World ℕ
    with_made rest = with_change nat_eq rest (world_of value) (location_of directory) (change (number_of made))

    nothing_goes : (rest : Fresh ℕ) → settled nat_eq (with_made rest) ≡ with_made rest
    nothing_goes rest =
        names_keep_all_beside_overlays rest (world_of value) (location_of directory) (inodes_seen is_made.entry)
        (change (number_of made))
        (is_change value held (location_of directory) (change (number_of made)) made_in is_made) tt

    same_tasks : (rest : Fresh ℕ) → (with_made rest).tasks ≡ value.tasks
    same_tasks rest = ap (λ (world : World ℕ). world.tasks) (sym (nothing_goes rest)
        ∙ only_files_change_beside_overlays rest (world_of value) (location_of directory) (inodes_seen is_made.entry)
        (change (number_of made))
        (is_change value held (location_of directory) (change (number_of made)) made_in is_made))

    made_same : (rest : Fresh ℕ) → SameWorlds (with_made rest) (world_of mid)
    made_same rest = subst (λ world. SameWorlds world (world_of mid)) (nothing_goes rest)
        (change_is_swept value held (location_of directory) (change (number_of made)) made_in is_made rest)

    -- it is a world
    is_applied : (apply nat_eq handed (world_of value) permits.task making).world ≡ with_made (odds handed)
    is_applied = ap (λ n. with_change nat_eq (odds handed) (world_of value) (location_of directory) (change n)) next_is

    unsettled : IsUnderWay (apply nat_eq handed (world_of value) permits.task making).world
    unsettled =
        let world = world_of value in
        let is = held.in_world in
        let serves = permits.given.serves in
        let found = permits.given.called in
        let task = permits.task in
        record {
          files = record {
            trees = under_way.0.files.trees;
            own_parents = under_way.0.files.own_parents;
            numbers = under_way.0.files.numbers;
            one_filesystem = under_way.0.files.one_filesystem;
            fit_filesystems = under_way.0.files.fit_filesystems;
          };
          mounts = all_mounts_kept world handed task making is serves found making_fits;
          namespaces = all_namespaces_kept world handed task making is serves found making_fits;
          tasks = record {
            one_task = all_permits_keep_names world handed task making is serves found making_fits;
            small_tasks = ap (λ (world : World ℕ). list_all is_within_limits world.tasks) is_applied
                ∙ ap (list_all is_within_limits) (same_tasks (odds handed)) ∙ held.in_world.tasks.small_tasks;
            forks_counted = all_permits_keep_counting_forks world handed task making is serves found making_fits;
            locations_live = locations_stay world handed task making is serves found making_fits tt;
            directories = directories_stay world handed task making is serves found making_fits tt;
            open_files = open_files_stay world handed task making is serves found making_fits tt;
          };
          roots = all_permits_keep_mounts_showing world handed task making is serves found making_fits;
        }

    overlays_ready : OverlayInvariants nat_eq (apply nat_eq handed (world_of value) permits.task making).world
    overlays_ready = overlays_in (apply nat_eq handed (world_of value) permits.task making).world
        (apply nat_eq handed (world_of value) permits.task permit).world refl under_way.1

    mid_is_world : IsWorld nat_eq (world_of mid)
    mid_is_world = any_same_worlds_are_worlds (settled nat_eq (with_made (odds handed))) (world_of mid)
        (change_is_swept value held (location_of directory) (change (number_of made)) made_in is_made (odds handed))
        (subst (λ world. IsWorld nat_eq (settled nat_eq world)) is_applied
        (settling_leaves_every_world (apply nat_eq handed (world_of value) permits.task making).world unsettled
        overlays_ready))

    -- what holds of each world holds once the file is made
    pub mid_held : IsHeld mid
    mid_held = change_is_held value held (location_of directory) (change (number_of made)) made_in is_made mid_is_world
        (any_same_worlds_keep_to_numbers (is_counted_before value.next)
        (settled nat_eq (apply nat_eq (λ k. number_of made) (world_of value) permits.task making).world) (world_of mid)
        (change_is_swept value held (location_of directory) (change (number_of made)) made_in is_made
        (λ k. number_of made))
        (permits_keep_to_numbers (is_counted_before value.next) (λ k. number_of made) (world_of value) permits.task
        making permits.given.called held.given (λ k. nodes_named value.next made) named))
        (same_worlds_have_layers_alike (with_made (odds handed)) (world_of mid) (made_same (odds handed))
        (change_keeps_writers value held (location_of directory) (change (number_of made)) made_in is_made
        (odds handed)))

    -- the new inode has one use
    pub used_once : uses_in ((inodes_at made_in count).inode (number_of made)) ≡ 1
    unfolding is_made
    used_once =
        let with_file = partner value held (location_of directory) (change (number_of made)) made_in is_made in
        let found : entry_of made_in count ≡ Some with_file.entry =
        ap (entry_of made_in) (sym (with_file.is.count_is ∙ stands.count_is))
        ∙ one_entry made_in (plain_ones_apart mid mid_held) with_file.entry with_file.among in
        ap (λ o. uses_in ((inodes_seen (unwrap_or o (no_entry count))).inode (number_of made))) found
        ∙ ap (λ (inodes : Inodes ℕ). uses_in (inodes.inode (number_of made)))
        (inodes_after value held (location_of directory) (change (number_of made)) made_in is_made)
        ∙ used_when_made (inodes_seen is_made.entry) (number_of directory.node) entry (number_of made)
        (node_seen count node)

    -- and then it is opened
    abbrev file : Location
    file = record { mount = directory.mount; node = made }

    abbrev descriptor : Descriptor ℕ
    descriptor = record {
      number = free_number permits.task;
      location = location_of file;
      reads = opens_for_reading access;
      writes = opens_for_writing access;
    }

    abbrev opens : Task ℕ
    opens = with_descriptor permits.task (location_of file) access

    abbrev tasks : Tasks
    tasks = replaced opens value.tasks

    abbrev next : World ℕ
    next = world_of (after mid tasks)

    abbrev opened_at : Fresh ℕ → World ℕ
    opened_at rest = with_task (with_made rest) opens

    opened_same : (rest : Fresh ℕ) → SameWorlds (opened_at rest) next
    opened_same rest = grind (arith, common_steps, made_same, tasks, map, same_tasks)

    opened_applied : (apply nat_eq handed (world_of value) permits.task permit).world ≡ opened_at (odds handed)
    opened_applied = grind (arith, common_steps, next_is)

    ready_next : IsReady next
    ready_next =
        let ready = subst IsReady opened_applied under_way in
        let same = any_same_worlds_are_under_way (opened_at (odds handed)) next (opened_same (odds handed)) ready.0
        ready.1 in (same.0, same.1)

    under_next : IsUnderWay next
    under_next = ready_next.0

    may_be_swept : MayBeSwept next
    may_be_swept = record { policy = next; under = ready_next.0; overlays = ready_next.1; left = refl; files = refl }

    -- the new file is a location of the world
    file_located : is_located_well nat_eq (world_of mid) (location_of file) ≡ true
    file_located =
        among_from_list_all (is_located_well nat_eq next) (all_locations next) under_next.tasks.locations_live
        (location_of file)
        (among-flat_map locations_of tasks opens (location_of file) opens_among (inr (inr file_among)))
      where
        opens_among : Among opens tasks
        opens_among =
            let split = replaced_split name value.tasks permits.task opens held.in_world.tasks.one_task permits.called
            refl in
            subst (λ all. Among opens all) (sym split.is)
            (among-append_right split.front (opens ∷ split.back) opens (inl refl))

        file_among : Among (location_of file) (map (λ (one : Descriptor ℕ). one.location) opens.descriptors)
        file_among =
            let goes = inserted_goes descriptor permits.task.descriptors in
            among-map (λ (one : Descriptor ℕ). one.location) opens.descriptors descriptor
            (subst (λ all. Among descriptor all) (sym goes.was)
            (among-append_right goes.front (descriptor ∷ goes.back) descriptor (inl refl)))

    moves : Moves mid tasks (used_by descriptor ∷ []) []
    moves = opened_moves mid mid_held name permits.task permits.called descriptor file_located

    stay : without_dead_mounts nat_eq next ≡ next
    stay = opened_stays mid mid_held name permits.task permits.called descriptor file_located

    opened_alike : (rest : Fresh ℕ) → SameWorlds (settled nat_eq (opened_at rest)) (settled nat_eq next)
    opened_alike rest = any_same_worlds_are_swept_alike (opened_at rest) next (opened_same rest)

    -- the world that the sweep leaves has the invariants
    settled_is_world : IsWorld nat_eq (settled nat_eq next)
    settled_is_world = any_same_worlds_are_worlds (settled nat_eq (opened_at (odds handed))) (settled nat_eq next)
        (opened_alike (odds handed)) (subst (λ world. IsWorld nat_eq (settled nat_eq world)) opened_applied
        (given_permits_leave_every_world (world_of value) handed permits.task permit held.in_world
        (given_to_task handed (world_of value) permits.task permit permits.given)))

    -- no descriptor is open for writing in an overlay
    writers_after : WritersHaveLayers (settled nat_eq next)
    writers_after = same_worlds_have_layers_alike (settled nat_eq (opened_at (odds handed))) (settled nat_eq next)
        (opened_alike (odds handed)) (subst (λ world. WritersHaveLayers (settled nat_eq world)) opened_applied
        (left_writers value held permits.task permit permits.given))

    -- a use of its mount and of its inode
    module _ (mounts : List MountEntry) (filesystems : Filesystems) (overlays : List Merged)
        (is_kept : kept_with mounts filesystems overlays
        ≡ with_location file (opens_for_writing access) (kept_of (with_filesystems value made_in))) where
      abbrev new : WorldValue
      new = remade mid mounts filesystems tasks

      moved : kept_with mounts filesystems overlays
          ≡ with_use (counted directory.mount.count) (inode_at (world_of mid) (location_of file))
          (opens_for_writing access) (kept_of (with_filesystems value made_in))
      moved = is_kept ∙ (λ i. with_use (counted directory.mount.count)
          (sym (seen_where_located mid mid_held file small_made file_located) i, number_of made)
          (opens_for_writing access) (kept_of (with_filesystems value made_in)))

      swept : IsSwept mid next (inode_at (world_of mid) (location_of file) ∷ []) [] new
      swept = remains_swept mid mid_held tasks (used_by descriptor ∷ []) [] moves mounts filesystems overlays moved stay

      -- and has the groups that code has
      settled_has_groups : Has (settled nat_eq next) new.groups
      settled_has_groups = left_has mid mid_held next refl (λ group. refl)

      -- and is code's world but for change numbers
      settled_same : (rest : Fresh ℕ) → SameWorlds (settled nat_eq (opened_at rest)) (world_of new)
      settled_same rest =
          sameness_is_an_equivalence.onward (settled nat_eq (opened_at rest)) (settled nat_eq next) (world_of new)
          (opened_alike rest)
          (swept_is_same mid mid_held next may_be_swept (inode_at (world_of mid) (location_of file) ∷ []) [] new swept
          settled_has_groups settled_is_world)

      new_is_opened : IsDone value name permit new
      new_is_opened = record {
        held = swept_held mid mid_held next may_be_swept settled_is_world (inode_at (world_of mid) (location_of file) ∷ []) [] new
            swept settled_has_groups
            (remains_counted mid mid_held tasks (used_by descriptor ∷ []) [] moves mounts filesystems overlays moved stay
            (opened_tasks mid mid_held name permits.task permits.called descriptor file_located))
            (any_same_worlds_keep_to_numbers (is_counted_before value.next)
            (settled nat_eq (apply nat_eq (λ k. number_of made) (world_of value) permits.task permit).world)
            (world_of new) (settled_same (λ k. number_of made))
            (permits_keep_to_numbers (is_counted_before value.next) (λ k. number_of made) (world_of value)
            permits.task permit permits.given.called held.given (λ k. nodes_named value.next made) named))
            writers_after;
        becomes = becomes_so value name permit new permits.task permits.called
            (subst (λ world. SameWorlds (settled nat_eq world) (world_of new)) (sym opened_applied)
            (settled_same (odds handed)));
      }

      -- with the tasks as code opens the file
      pub new_opens : (opened : Tasks)
          → opened ≡ changed_called name (λ task. with_descriptor task (location_of file) access) value.tasks
          → IsDone value name (ToOpenNew (location_of directory) entry (node_in directory node) access)
          (remade mid mounts filesystems opened)
      new_opens opened is =
          grind (arith, common_steps, made_in_tree directory stands.born_here node, permits.called, new_is_opened)
