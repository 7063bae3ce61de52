-- What each way in which a call is granted asks for: what may be done.
use Rattle.std.proofs.Common.{List, Option, Some, [], ap, arith, drop, false, inl, inr, is_some, le-leb, leb-true, ltb-false, nat_eq, nat_le, not, refl, sym, take, true, true≢false, ℕ, ◌&&◌, ◌*◌, ◌+◌, ◌==◌, ◌∙◌, ◌∷◌, ◌≡◌, length-append, length-drop, length-take, length, nat_lt, ◌++◌}
use Rattle.vt_spec.proofs.Common.{Access, Call, Descriptor, Filesystem, Fresh, Here, IsNewIn, IsWorld, ListsNumbers, Location, Looks, Node, NoneFails, Permit, Place, Serves, Task, ToOpen, World, all_from_among, among_from_list_all, and_true_first, bytes_in, common_steps, descriptor_found, descriptor_numbered, entries_in, entries_in-no_directory, evens, file_is_there, file_mode, files_at, found_among, has_regular_files_open, is_directory_node, is_directory_there, is_empty, is_fit_filesystem, is_kind, is_kind_in, is_special, kind_of, largest_file, longest_path, looks_of, make_permit, mount_at, name_of, new_file, new_name_rules, nil_from_not_some, node_at, object_there, object_walk, or_false_left, overfills, overwritten, padded, special_word, symlink_walk, task_called}
use Rattle.vt_laws_trees.specs.Calls.Inodes.{written_if_some}
use Rattle.vt_laws_rules.proofs.given.Ways.{calls_are_granted}
use Rattle.vt_laws_rules.proofs.given.Ways.{IsGranted}
use Rattle.vt_spec.specs.Machine.Judging.{directory_made, symlink_made, whiteout_made}
use Rattle.vt_laws_rules.proofs.given.Ways.IsGranted.{changes_mark, changes_mode, changes_owner, creates, creates_exclusively, makes_directory, makes_hard_link, makes_symlink, makes_whiteout, opens, opens_existing, overwrites_file, removes_directory, renames, unlinks, writes_new_file, writes_part}
use Rattle.vt_laws_trees.proofs.trees.ChangesOfSizes.{fits}
use Rattle.vt_laws_trees.proofs.overlays.whole.UpperSizes.{fits_here}
use Rattle.vt_laws_worlds.specs.OverlayPermits.Asked.{AsksWellIf, PermitsAskWell, change_asked}
use Rattle.vt_laws_worlds.proofs.permits.sees.SeesNames.{old_mount, tree_here}
use Rattle.vt_spec.proofs.NodeChanges.{allowed_is_there}
use Rattle.vt_spec.specs.declared.attributes.Kind.TheVariants.{File, White}
use Rattle.vt_laws_trees.proofs.trees.ChangesByLinks.{may_link}
use Rattle.vt_laws_trees.proofs.trees.ChangesByRemoving.{may_move, old_removable}
use Rattle.vt_laws_trees.proofs.trees.ChangesOfCalls.{place_is_free}
use Rattle.vt_laws_trees.proofs.trees.TreesOfWorlds.{new_at, numbered_anyhow}
use Rattle.vt_laws_trees.proofs.trees.TreesSizes.{IsFitWord, fit_name_of, no_longer}
use Rattle.vt_laws_trees.proofs.trees.TreesTasks.{and_from, called_there}
use Rattle.vt_laws_trees.proofs.trees.TreesWalked.{IsFilePlace, IsOldPlace, at_end, file_named, place_is_file, place_named}
use Rattle.vt_laws_trees.specs.Trees.{MayMake}
use Rattle.vt_laws_trees.specs.Trees.Sizes.{is_fit_node}
use Rattle.vt_laws_worlds.proofs.worlds.CallsKept.{new_numbers}
use Rattle.vt_laws_worlds.proofs.worlds.ReachedWalks.{Found, link_walk_found, object_end}
use Rattle.vt_laws_trees.proofs.trees.PlacesReached.{NewPlace, file_is, new_is, new_leaf_is, old_is, old_leaf_is, rename_new_is}

module _ {world : World ℕ} (whole : IsWorld nat_eq world) {task : Task ℕ}
    (called : task_called world task.name ≡ Some task) {fresh : Fresh ℕ} (serves : Serves nat_eq world fresh) where
  abbrev looks : Looks ℕ
  looks = looks_of nat_eq world

  abbrev pub Asks : Permit ℕ → Type 0
  Asks permit = AsksWellIf world (change_asked fresh world permit)

  -- a new inode
  may_be_made : (place : Place ℕ) (node : Node ℕ) → IsFilePlace world place
      → NoneFails (new_name_rules nat_eq world place)
      → is_special place.last ≡ false → is_some place.object ≡ false → IsNewIn place.parent.node node
      → MayMake (files_at nat_eq world place.parent).tree place.parent.node (name_of place.last) (evens fresh 0) node
  may_be_made place node is passed named missing fits = record {
    name_is_free = place_is_free world place is named missing passed
        (tree_here world whole place.parent (file_named world place.parent place.last place.object named is).0);
    number_is_new = new_at fresh world place.parent (new_numbers world fresh whole serves) (2 * 0);
    fits = fits;
  }

  -- at the end of the walk for a new name
  made_asked : (place : Place ℕ) (node : Node ℕ) → NewPlace world task place → is_special place.last ≡ false
      → is_some place.object ≡ false → IsNewIn place.parent.node node → is_kind White (kind_of node.content) ≡ false
      → is_fit_node node ≡ true → Asks (make_permit place node)
  made_asked place node is named missing fits white small = (
    (
      may_be_made place node (place_is_file world place.parent place.last place.object is.0.0) is.0.1 named missing
          fits,
      λ overlay. white,
    ),
    (fit_name_of place.last named is.1, small),
  )

  -- a new file
  file_asked : (place : Place ℕ) (mode : ℕ) (bytes : List ℕ) → IsFilePlace world place
      → NoneFails (new_name_rules nat_eq world place) → IsFitWord place.last → is_special place.last ≡ false
      → is_some place.object ≡ false → nat_le (length bytes) largest_file ≡ true
      → Asks (make_permit place (new_file task mode bytes))
  file_asked place mode bytes is new last named missing small = (
    (may_be_made place (new_file task mode bytes) is new named missing (inr refl), λ overlay. refl),
    (fit_name_of place.last named last, ap (λ b. b && true && true) small),
  )

  -- open(2) of a file that exists
  opened_asked : (file : Location ℕ) (access : Access) → is_some (node_at nat_eq world file) ≡ true
      → Asks (ToOpen file access)
  opened_asked file access = grind (arith, common_steps)

  -- the object of an old place is seen through its directory's mount
  seen_in : (place : Place ℕ) (plain : is_special place.last ≡ false) (is : IsOldPlace world task place)
      → node_at nat_eq world (object_there place)
      ≡ (files_at nat_eq world place.parent).tree.node (object_there place).node
  seen_in place plain is = cc (old_mount world task place plain is)

  -- an open file is a regular one
  open_file_is : (number : ℕ) (descriptor : Descriptor ℕ) → descriptor_numbered task number ≡ Some descriptor
      → is_kind_in File (node_at nat_eq world descriptor.location) ≡ true
  open_file_is number descriptor e =
      among_from_list_all (λ (d : Descriptor ℕ). is_kind_in File (node_at nat_eq world d.location)) task.descriptors
      (among_from_list_all (has_regular_files_open nat_eq world) world.tasks whole.tasks.open_files task
      (called_there world.tasks task.name task called))
      descriptor (found_among (λ (d : Descriptor ℕ). number == d.number) task.descriptors descriptor e)

  -- whose bytes are within the limit
  bytes_small : (o : Option (Node ℕ)) → is_kind_in File o ≡ true → fits o ≡ true
      → nat_le (length (bytes_in o)) largest_file ≡ true
  bytes_small o e k = grind (arith, common_steps, true≢false, fits, and_true_first)

  file_fits : (file : Location ℕ) → is_some (node_at nat_eq world file) ≡ true → fits (node_at nat_eq world file) ≡ true
  file_fits file there = fits_here (files_at nat_eq world file)
      (numbered_anyhow (λ (f : Filesystem ℕ). ListsNumbers nat_eq f.files)
      (mount_at nat_eq world file).filesystem world.filesystems whole.files.numbers (λ k. refl))
      (numbered_anyhow (λ (f : Filesystem ℕ). is_fit_filesystem f ≡ true)
      (mount_at nat_eq world file).filesystem world.filesystems
      (all_from_among (λ (f : Filesystem ℕ). is_fit_filesystem f ≡ true) world.filesystems
      (λ f m. among_from_list_all is_fit_filesystem world.filesystems whole.files.fit_filesystems f m)) refl)
      file.node there

  written_asked : (file : Location ℕ) (offset : ℕ) (bytes : List ℕ) → is_kind_in File (node_at nat_eq world file) ≡ true
      → (not (is_empty bytes) && nat_lt largest_file (offset + length bytes)) ≡ false
      → AsksWellIf world (written_if_some world file offset bytes)
  written_asked file offset [] kind short = tt
  written_asked file offset (byte ∷ bytes) kind short =
      let old = bytes_in (node_at nat_eq world file) in
      let there = file_is_there _ kind in
      let small = leb-true (length old) largest_file (bytes_small _ kind (file_fits file there)) in
      let room = ltb-false largest_file (offset + length (byte ∷ bytes)) short in (
        there,
        le-leb (length (overwritten offset (byte ∷ bytes) old)) largest_file (omega (
          arith,
          length-append (take offset (padded offset old) ++ (byte ∷ bytes)) (drop (offset + length (byte ∷ bytes)) old),
          length-append (take offset (padded offset old)) (byte ∷ bytes),
          length-drop (offset + length (byte ∷ bytes)) old,
          length-take offset (padded offset old),
          room,
          small,
        )),
      )

  pub granted_asks : (call : Call) (permit : Permit ℕ)
      → IsGranted nat_eq looks (overfills nat_eq fresh world task) task call permit → Asks permit
  granted_asks call permit (overwrites_file path bytes place file end named there passed) =
      (allowed_is_there _ _ _ passed.1.1.1.1.1.1.0, no_longer largest_file bytes passed.1.0)
  granted_asks call permit (writes_new_file path bytes place end named missing short passed) =
      let is = file_is world task path place end in
      file_asked place file_mode bytes is.0.0 is.0.1 is.1 (or_false_left (is_special place.last) place.slash named.0)
      (ap is_some missing) (no_longer largest_file bytes short.0)
  granted_asks call permit (makes_directory path mode place end passed) =
      made_asked place (directory_made task place mode) (new_is world task path place end) passed.0 passed.1.0
      (inl refl) refl refl
  granted_asks call permit (makes_symlink text path place short end passed) =
      made_asked place (symlink_made task text) (new_leaf_is world task path place end) passed.0 passed.1.0
      (inr refl) refl
      (ap (λ b. b && true) (and_from (not (is_empty text)) (nat_le (length text) longest_path) (ap not short.0)
      (no_longer longest_path text short.1.0)))
  granted_asks call permit (makes_whiteout path place end passed) =
      let is = new_leaf_is world task path place end in (
        (
          may_be_made place (whiteout_made task) (place_is_file world place.parent place.last place.object is.0.0)
              is.0.1 passed.0 passed.1.0 (inr refl),
          λ overlay. absurd (cc (passed.1.1.1.1.1.1.0)),
        ),
        (fit_name_of place.last passed.0 is.1, refl),
      )
  granted_asks call permit (makes_hard_link old new from place from_end end named passed) =
      let found : Found world whole task called from.location =
      at_end (λ (here : Here ℕ). Found world whole task called here.location) (symlink_walk nat_eq looks task old)
      from (link_walk_found world whole task called old) from_end in
      let is = new_leaf_is world task new place end in (
        may_link world task from.location place found.1 is.0 named.0 passed (tree_here world whole place.parent
            (place_named world place.parent place.last place.object named.0 is.0.0).0),
        fit_name_of place.last named.0 is.1,
      )
  granted_asks call permit (unlinks path place end named passed) =
      let is = old_leaf_is world task path place end in (
        old_removable world place named.0 is.0 is.1
            (entries_in-no_directory (node_at nat_eq world (object_there place)) passed.0),
        tt,
      )
  granted_asks call permit (removes_directory path place end word passed) =
      let is = old_is world task path place end in (
        old_removable world place (special_word place.last word.0 word.1.0 word.1.1.0) is.0 is.1
            (nil_from_not_some (entries_in (node_at nat_eq world (object_there place))) passed.1.0),
        tt,
      )
  granted_asks call permit (renames old new from to names another passed) =
      let is = old_leaf_is world task old from names.from_end in
      let to_is = rename_new_is world task new (is_directory_there nat_eq looks from) to names.to_end in (
        (
          may_move world task from to names.from_named.0 is.0 is.1 names.to_named.0 to_is.0.0 to_is.0.1 another passed
              (tree_here world whole from.parent
              (place_named world from.parent from.last from.object names.from_named.0 is.0).0),
          λ directory. sym (ap (λ b. b && looks.has_lower_directory from.parent (name_of from.last))
              (ap is_directory_node (seen_in from names.from_named.0 is) ∙ directory))
              ∙ passed.1.1.1.1.1.1.1.1.1.1.1.1.0,
        ),
        fit_name_of to.last names.to_named.0 to_is.1,
      )
  granted_asks call permit (changes_mode path mode here end passed) =
      ((at_end _ (object_walk nat_eq looks task path) here (object_end world whole task called path) end).0.1, tt)
  granted_asks call permit (changes_owner path uid gid here end passed) =
      ((at_end _ (object_walk nat_eq looks task path) here (object_end world whole task called path) end).0.1, tt)
  granted_asks call permit (changes_mark path mark here admin end passed) = (passed.1.1.1.0, tt)
  granted_asks call permit (opens path access here room end passed) =
      opened_asked here.location access (allowed_is_there _ _ _ passed.1.1.1.1.1.0)
  granted_asks call permit (opens_existing path access mode place file room end named there passed) =
      opened_asked file access (allowed_is_there _ _ _ passed.1.1.1.1.1.0)
  granted_asks call permit (creates path access mode place room end named missing passed) =
      let is = file_is world task path place end in
      file_asked place mode [] is.0.0 is.0.1 is.1 (or_false_left (is_special place.last) place.slash named.0)
      (ap is_some missing) (le-leb 0 largest_file (omega arith))
  granted_asks call permit (creates_exclusively path access mode place room end named passed) =
      let is = new_is world task path place end in
      file_asked place mode [] (place_is_file world place.parent place.last place.object is.0.0) is.0.1 is.1 named.0
      named.1.1.0 (le-leb 0 largest_file (omega arith))
  granted_asks call permit (writes_part number offset bytes descriptor found passed) =
      written_asked descriptor.location offset bytes (open_file_is number descriptor
      (descriptor_found task number (λ d. d.writes) descriptor found).0) passed.0
  granted_asks call permit granted = tt

pub permits_ask_well : PermitsAskWell
permits_ask_well world fresh task call permit whole serves called judged =
    granted_asks whole called serves call permit (calls_are_granted nat_eq _ _ task call permit judged)
