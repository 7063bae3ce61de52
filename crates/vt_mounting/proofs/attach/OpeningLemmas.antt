-- The opening world is held.
use Rattle.std.proofs.Common.{◌≡◌, refl, sym, ap, subst, ◌∙◌, true≢false, ℕ, ◌+◌, nat_eq, eq-eqb, eqb-true, Bool, true, false, cond, List, [], ◌∷◌, ◌++◌, map, Some, None, is_some, arith, All, if◌then◌else◌}
use Rattle.vt_spec.proofs.Common.{All-cons, All-nil, Filesystem, Inodes, IsWorld, Private as IsPrivate, common_steps, first_mount, first_task, is_among, is_overlay, new_directory, new_plain, node_in, of_overlay, one_directory, opening, pinned, plain_flags, root_attr, tree_of}
use Rattle.vt_spec.specs.declared.attributes.Attr.{Attr}
use Rattle.vt_spec.specs.Machine.World as meant
use Rattle.vt_spec.specs.Tree.{tree_of_root}
use Rattle.vt_mounting.proofs.Common.{ChangesInodes, CountsItsMounts, CountsItsUses, CountsWhatIsInIt, FilesystemEntry, Filesystems, Grouping, Has, HasOwnInodes, IsCounted, IsHeld, IsNew, KeepsTo, MountEntry, NamespaceEntry, Shown, WorldValue, counted, filesystem_seen, has_only_named, inode_number, inodes_seen, is_counted_before, is_own_number, layer_count, location_of, mount_of, mounts_in, mounts_showing, namespace_of, no_groups, numbers_listed, numbers_seen, shown, shown_entry, with_changed, world_of}
use Rattle.vt_world.proofs.counting.Lowered.{counted_lowered}
use Rattle.vt_laws_mounts.specs.Counts.Using.{one_counted, root_counted}
use Rattle.vt_laws_mounts.proofs.counts.using.Places.{opening_is_counted}
use Rattle.vt_laws_rules.proofs.numbers.Supports.{opening_keeps_to_four}
use Rattle.vt_group.proofs.Showing.{opening_has_no_groups}
use Rattle.vt_cred.specs.declared.mount_flags.MountFlags.{MountFlags}
use Rattle.vt_location.specs.declared.births.Birth.TheVariants.{Here}
use Rattle.vt_location.specs.declared.locations.NodeRef.{NodeRef}
use Rattle.vt_location.specs.declared.mounts.Propagation.TheVariants.{Private}
use Rattle.vt_location.specs.declared.numbers.FilesystemId.{FilesystemId}
use Rattle.vt_location.specs.declared.numbers.MountId.{MountId}
use Rattle.vt_location.specs.declared.numbers.NamespaceId.{NamespaceId}
use Rattle.vt_cred.specs.MountFlags.{flags_of}
use Rattle.vt_location.proofs.NumberLemmas.{is_own}
use Rattle.vt_laws_worlds.proofs.opening.OpeningWorld.{opening_is_a_world}
use Rattle.vt_fs.proofs.NewFilesystem.{only_one}
use Rattle.vt_fs.proofs.Numbers.{numbers_counted}
use Rattle.vt_tasks.specs.TasksValue.{first_task_at}
use Rattle.vt_mounting.specs.Attach.Opening.{first_shown, opening_numbers}

-- One filesystem, with a use more of its root again and again
pub pinned_once : (root uses : ℕ) → pinned nat_eq (one_counted root uses) root ≡ one_counted root (uses + 1)
pinned_once root uses = grind (arith, common_steps, eq-eqb)

module _ (count : ℕ) where
  abbrev root_number : ℕ
  root_number = inode_number count 0

  abbrev so_used : ℕ → ℕ → List Shown
  so_used uses mounts = record { count = count; inodes = one_counted root_number uses; mounts = mounts } ∷ []

  once_more : {old new : Filesystems} (uses : ℕ)
      → ChangesInodes count (λ inodes. pinned nat_eq inodes root_number) old new
      → shown old ≡ so_used uses 1 → shown new ≡ so_used (uses + 1) 1
  once_more uses changes is = grind (arith, common_steps, eq-eqb)

  mounted : {entry : FilesystemEntry} {old new : Filesystems} {attr : Attr} → attr ≡ root_attr → old ≡ entry ∷ []
      → IsNew count attr entry
      → new ≡ with_changed count (λ (entry : FilesystemEntry). record entry { mounts = entry.mounts + 1 }) old
      → shown new ≡ so_used 1 1
  mounted {entry} is_attr is made changed = ap shown (changed ∙ ap (with_changed count
      (λ (entry : FilesystemEntry). record entry { mounts = entry.mounts + 1 })) is)
      ∙ ap (λ b. shown_entry (cond b (record entry { mounts = entry.mounts + 1 }) entry) ∷ [])
      (eq-eqb count entry.count (sym made.counts)) ∙ (λ i. record {
        count = made.counts i;
        inodes = (made.inodes ∙ ap (one_directory nat_eq root_number) is_attr) i;
        mounts = ap (λ n. n + 1) made.unmounted i;
      } ∷ [])

  pub first_made : (entry : FilesystemEntry) (attr : Attr) (none added held one two three : Filesystems)
      → attr ≡ root_attr → none ≡ [] → added ≡ none ++ entry ∷ [] → IsNew count attr entry
      → held ≡ with_changed count (λ (entry : FilesystemEntry). record entry { mounts = entry.mounts + 1 }) added
      → ChangesInodes count (λ inodes. pinned nat_eq inodes root_number) held one
      → ChangesInodes count (λ inodes. pinned nat_eq inodes root_number) one two
      → ChangesInodes count (λ inodes. pinned nat_eq inodes root_number) two three → shown three ≡ first_shown count
  first_made entry attr none added held one two three is_attr empty is made changed first second third =
      once_more 3 third (once_more 2 second (once_more 1 first
      (mounted is_attr (is ∙ ap (λ l. l ++ entry ∷ []) empty) made changed)))

-- what is shown of one filesystem is that of its entry
record IsFirst (filesystems : Filesystems) : Type 0 where
  pub entry : FilesystemEntry
  pub alone : filesystems ≡ entry ∷ []
  pub counts : entry.count ≡ 2
  pub inodes : inodes_seen entry ≡ one_counted (inode_number 2 0) 4
  pub mounts : entry.mounts ≡ 1

is_first : (filesystems : Filesystems) → shown filesystems ≡ first_shown 2 → IsFirst filesystems
is_first [] is = absurd cc
is_first (x ∷ y ∷ rest) is = absurd cc
is_first (x ∷ []) is = record {
  entry = x;
  alone = refl;
  counts = ap (λ (one : Shown). one.count) same;
  inodes = ap (λ (one : Shown). one.inodes) same;
  mounts = ap (λ (one : Shown). one.mounts) same;
}
  where
    same : shown_entry x ≡ record { count = 2; inodes = one_counted (inode_number 2 0) 4; mounts = 1 }
    same = cc

module _ (entry : FilesystemEntry) (counts : entry.count ≡ 2)
    (inodes : inodes_seen entry ≡ one_counted (inode_number 2 0) 4) where
  abbrev root : ℕ
  root = inode_number 2 0

  node_of : (b : Bool) → node_in (if b then Some (root_counted root 4) else None)
      ≡ (if b then Some (record { attr = root_attr; content = new_directory root }) else None)
  node_of true = refl
  node_of false = refl

  first_seen : filesystem_seen entry ≡ new_plain nat_eq (counted 2) root
  first_seen =
      let there : is_among nat_eq root (numbers_seen entry) ≡ true =
      numbers_listed entry root ∙ ap (λ (all : Inodes ℕ). is_some ((tree_of all).node root)) inodes in
      let numbers = only_one root (numbers_seen entry)
      (numbers_counted entry ∙ ap (λ (all : Inodes ℕ). all.count) inodes) there in
      let tree : tree_of (inodes_seen entry) ≡ tree_of_root nat_eq root root_attr =
      ap tree_of inodes ∙ (λ i. record { root = root; node = λ other. node_of (nat_eq other root) i }) in
      λ i. record {
        number = counted (counts i);
        files = record { tree = tree i; numbers = numbers i };
        overlay = None;
        change = 0;
      }

  own : HasOwnInodes entry
  own number other = ap (λ (all : Inodes ℕ). all.inode number) inodes ∙ by (nat_eq number root) refl
    where
      by : (b : Bool) → nat_eq number root ≡ b → (if b then Some (root_counted root 4) else None) ≡ None
      by true e =
          absurd (true≢false (sym (is_own 2 0 (omega arith) (omega arith)) ∙ ap (is_own_number 2) (sym (eqb-true number root e))
          ∙ ap (λ c. is_own_number c number) (sym counts) ∙ other))
      by false e = refl

numbers_apart : (j k : ℕ) → opening_numbers j ≡ opening_numbers k → j ≡ k
numbers_apart j k e = grind (arith, common_steps, eqb-true)

abbrev first_mount_entries : List MountEntry
first_mount_entries = record { mount = first_mount nat_eq opening_numbers; uses = 2; writers = 0 } ∷ []

abbrev first_namespace_entries : List NamespaceEntry
first_namespace_entries = record { count = 1; tasks = 1 } ∷ []

abbrev first_tasks : List (meant.Task ℕ)
first_tasks = first_task nat_eq opening_numbers ∷ []

abbrev first_value : FilesystemEntry → WorldValue
first_value entry = record {
  mounts = first_mount_entries;
  groups = no_groups;
  filesystems = entry ∷ [];
  overlays = [];
  namespaces = first_namespace_entries;
  tasks = first_tasks;
  births = 1;
  next = 3;
}

module _ (entry : FilesystemEntry) (counts : entry.count ≡ 2)
    (inodes : inodes_seen entry ≡ one_counted (inode_number 2 0) 4) (mounts : entry.mounts ≡ 1) where
  abbrev seen : filesystem_seen entry ≡ new_plain nat_eq (counted 2) (inode_number 2 0)
  seen = first_seen entry counts inodes

  first_world : world_of (first_value entry) ≡ opening nat_eq opening_numbers
  first_world = λ i. record {
    mounts = mounts_in first_mount_entries;
    master = λ group. None;
    filesystems = seen i ∷ [];
    namespaces = map namespace_of first_namespace_entries;
    tasks = first_tasks;
    change = 0;
  }

  first_held : IsHeld (first_value entry)
  first_held = record {
    in_world = subst (IsWorld nat_eq) (sym first_world) (opening_is_a_world opening_numbers numbers_apart).0;
    groups = subst (λ world. Has world no_groups) (sym first_world) (opening_has_no_groups opening_numbers);
    given = subst (KeepsTo (is_counted_before 3)) (sym first_world)
        (opening_keeps_to_four (is_counted_before 3) opening_numbers refl refl refl refl);
    mounts = subst (λ world. All (CountsItsUses world) first_mount_entries) (sym first_world)
        (All-cons (CountsItsUses (opening nat_eq opening_numbers)) _ [] (record { uses = refl; writers = refl })
        (All-nil _));
    filesystems = subst (λ world. All (CountsItsMounts world) (entry ∷ [])) (sym first_world)
        (All-cons (CountsItsMounts (opening nat_eq opening_numbers)) entry [] (record {
          mounts = mounts ∙ ap (λ count. mounts_showing (opening nat_eq opening_numbers) (counted count)
              + layer_count (opening nat_eq opening_numbers) (counted count)) (sym counts);
          inodes = counted_lowered (opening nat_eq opening_numbers)
              (opening_is_a_world opening_numbers numbers_apart).0
              (All-cons (λ (filesystem : Filesystem ℕ).
              of_overlay false (λ overlay. is_some overlay.upper) filesystem ≡ false) _ [] refl (All-nil _))
              (filesystem_seen entry) (inodes_seen entry)
              (subst (λ (all : Inodes ℕ). IsCounted (opening nat_eq opening_numbers) (filesystem_seen entry) all)
              (sym inodes) (subst (λ (filesystem : Filesystem ℕ). IsCounted (opening nat_eq opening_numbers) filesystem
              (one_counted (inode_number 2 0) 4)) (sym seen) (opening_is_counted opening_numbers)));
        }) (All-nil _));
    own_inodes = All-cons HasOwnInodes entry [] (own entry counts inodes) (All-nil _);
    overlays = record {
      merged = All-nil _;
      read_only = All-cons (λ (filesystem : Filesystem ℕ).
          of_overlay false (λ overlay. is_some overlay.upper) filesystem ≡ false) (filesystem_seen entry) [] refl
          (All-nil _);
      writers = refl;
      named = All-cons (λ (filesystem : Filesystem ℕ). is_overlay filesystem ≡ true
          → has_only_named filesystem ≡ true) (filesystem_seen entry) []
          (λ e. absurd (true≢false (sym e))) (All-nil _);
      overlays_rise = refl;
      all_rise = refl;
      mounts = All-nil _;
      own_nodes = All-nil _;
    };
    namespaces = subst (λ world. All (CountsWhatIsInIt world) first_namespace_entries) (sym first_world)
        (All-cons (CountsWhatIsInIt (opening nat_eq opening_numbers)) _ [] (record { tasks = refl }) (All-nil _));
  }

-- what is made for the opening world is held, and is seen as that
module _ (mounts : List MountEntry) (groups : Grouping) (filesystems : Filesystems) (namespaces : List NamespaceEntry)
    (tasks : List (meant.Task ℕ)) (births : ℕ) (mounts_are : mounts ≡ first_mount_entries) (groups_are : groups ≡ no_groups)
    (filesystems_are : shown filesystems ≡ first_shown 2)
    (namespaces_are : namespaces ≡ first_namespace_entries) (tasks_are : tasks ≡ first_tasks)
    (births_are : births ≡ 1) where
  abbrev made : WorldValue
  made = record {
    mounts = mounts;
    groups = groups;
    filesystems = filesystems;
    overlays = [];
    namespaces = namespaces;
    tasks = tasks;
    births = births;
    next = 3;
  }

  abbrev first : IsFirst filesystems
  first = is_first filesystems filesystems_are

  is_made : made ≡ first_value first.entry
  is_made = λ i. record {
    mounts = mounts_are i;
    groups = groups_are i;
    filesystems = first.alone i;
    overlays = [];
    namespaces = namespaces_are i;
    tasks = tasks_are i;
    births = births_are i;
    next = 3;
  }

  pub opening_held : IsHeld made
  opening_held = subst IsHeld (sym is_made) (first_held first.entry first.counts first.inodes first.mounts)

  pub opening_seen : world_of made ≡ opening nat_eq opening_numbers
  opening_seen = ap world_of is_made ∙ first_world first.entry first.counts first.inodes first.mounts

-- what it is made of, with the numbers that are given out first
module _ (number : MountId) (namespace : NamespaceId) (filesystem : FilesystemId) (flags : MountFlags)
    (number_is : number ≡ record { count = 0 }) (namespace_is : namespace ≡ record { count = 1 })
    (filesystem_is : filesystem ≡ record { count = 2 }) (flags_are : flags_of flags ≡ plain_flags) where
  abbrev root_place : NodeRef
  root_place = record { filesystem = filesystem; slot = 0; birth = Here }

  pub mounts_made : record {
    mount = mount_of (record {
      number = number;
      namespace = Some namespace;
      mount_point = None;
      root = root_place;
      flags = flags;
      propagation = Private;
    });
    uses = 2;
    writers = 0;
  } ∷ [] ≡ first_mount_entries
  mounts_made = λ i. record {
    mount = record {
      number = counted (number_is i).count;
      namespace = Some (counted (namespace_is i).count);
      mount_point = None;
      filesystem = counted (filesystem_is i).count;
      root = inode_number (filesystem_is i).count 0;
      flags = flags_are i;
      propagation = IsPrivate;
    };
    uses = 2;
    writers = 0;
  } ∷ []

  pub namespaces_made : record { count = namespace.count; tasks = 1 } ∷ [] ≡ first_namespace_entries
  namespaces_made = λ i. record { count = (namespace_is i).count; tasks = 1 } ∷ []

  pub tasks_made : first_task_at (counted namespace.count) (location_of (record { mount = number; node = root_place }))
      ∷ [] ≡ first_tasks
  tasks_made = λ i. first_task_at (counted (namespace_is i).count)
      (record { mount = counted (number_is i).count; node = inode_number (filesystem_is i).count 0 }) ∷ []
