-- The code's world is one of the definitions: the same mounts, overlays, namespaces and tasks, and filesystems whose
-- counted inodes are counted there.
use Rattle.std.proofs.Common.{◌≡◌, refl, sym, ap, subst, ◌∙◌, inl, inr, ℕ, nat_eq, true, List, [], ◌∷◌, map, None, is_some, filter, All, arith}
use Rattle.vt_spec.proofs.Common.{Filesystem, IsWorld, ListsNumbers, SameFilesystem, SameFilesystems, SameWorlds, World, common_steps, filesystem_numbered, is_overlay, without_changes}
use Rattle.vt_mounting.proofs.Common.{Among, FilesystemEntry, Filesystems, Has, IsCounted, WorldValue, all_from_among, among-from_filter, among_from_all, any_same_worlds_count_alike, are_rising, counted, filesystem_seen, filesystems_seen, found_filesystem, inodes_seen, mounts_in, numbers_apart_each, numbers_listed, overlays_seen, same_numbers_are_permuted, sameness_is_an_equivalence, world_of, woven_lists_are_alike}
use Rattle.vt_laws_worlds.proofs.overlays_stay.weaving.WovenLists.{rising_lists_are_woven}
use Rattle.vt_mounting.proofs.detach.Grouped.{master_is, same_has}
use Rattle.vt_mounting.proofs.detach.Overlaid.{is_plain_one, plain_one_among}

-- Filesystems by their numbers

-- filesystems with the same numbers are the same, one after the other
same_filesystems : (filesystems : List (Filesystem ℕ)) (entries : Filesystems)
    → map (λ f. f.number) filesystems ≡ map (λ entry. counted entry.count) entries
    → ((f : Filesystem ℕ) → Among f filesystems → (entry : FilesystemEntry) → Among entry entries
    → f.number ≡ counted entry.count → SameFilesystem f (filesystem_seen entry))
    → SameFilesystems filesystems (filesystems_seen entries)
same_filesystems [] [] numbers same = tt
same_filesystems [] (entry ∷ entries) numbers same = absurd cc
same_filesystems (f ∷ filesystems) [] numbers same = absurd cc
same_filesystems (f ∷ filesystems) (entry ∷ entries) numbers same =
    let heads : f.number ≡ counted entry.count = cc in
    let tails : map (λ g. g.number) filesystems ≡ map (λ other. counted other.count) entries = cc in (
      same f (inl refl) entry (inl refl) heads,
      same_filesystems filesystems entries tails (λ g m other n. same g (inr m) other (inr n)),
    )

-- What code keeps, against a world
pub record ShowsAs (world : World ℕ) (new : WorldValue) : Type 0 where
  pub overlays : filter is_overlay world.filesystems ≡ overlays_seen new.overlays
  pub rise : are_rising world.filesystems ≡ true
  pub mounts : world.mounts ≡ mounts_in new.mounts
  pub groups : Has world new.groups
  pub numbers : map (λ f. f.number) (filter is_plain_one world.filesystems)
      ≡ map (λ entry. counted entry.count) new.filesystems
  pub inodes : (entry : FilesystemEntry) → Among entry new.filesystems
      → IsCounted world (filesystem_numbered nat_eq world (counted entry.count)) (inodes_seen entry)
  pub namespaces : (without_changes world).namespaces ≡ (without_changes (world_of new)).namespaces
  pub tasks : (without_changes world).tasks ≡ (without_changes (world_of new)).tasks

module _ {world : World ℕ} {new : WorldValue} (shows : ShowsAs world new) (is_world : IsWorld nat_eq world) where
  no_overlay : (f : Filesystem ℕ) → is_plain_one f ≡ true → f.overlay ≡ None
  no_overlay f e = grind (arith, common_steps)

  same_one : (f : Filesystem ℕ) → Among f (filter is_plain_one world.filesystems) → (entry : FilesystemEntry)
      → Among entry new.filesystems → f.number ≡ counted entry.count → SameFilesystem f (filesystem_seen entry)
  same_one f among entry n same =
      let plain = among-from_filter is_plain_one world.filesystems f among in
      let m = plain.0 in
      let is : IsCounted world f (inodes_seen entry) = subst (λ g. IsCounted world g (inodes_seen entry))
      (ap (filesystem_numbered nat_eq world) (sym same)
      ∙ found_filesystem world.filesystems is_world.files.one_filesystem f m) (shows.inodes entry n) in
      let tree_is : f.files.tree ≡ (filesystem_seen entry).files.tree = λ i.
      record { root = sym is.root i; node = λ number. sym (is.node number) i } in
      record {
        number = same;
        files = record {
          tree = tree_is;
          numbers = same_numbers_are_permuted f.files.numbers (filesystem_seen entry).files.numbers is.once
              (numbers_apart_each entry) (λ number. among_from_all (λ g.
              ListsNumbers nat_eq g.files) world.filesystems is_world.files.numbers f m number
              ∙ ap (λ tree. is_some (tree.node number)) tree_is ∙ sym (numbers_listed entry number));
        };
        overlay = no_overlay f plain.1;
      }

  -- the code's world is that one
  pub shown_is_same : SameWorlds world (world_of new)
  shown_is_same = record {
    mounts = shows.mounts;
    master = λ i. λ group. master_is world new.groups is_world shows.groups group i;
    filesystems = subst (λ list. SameFilesystems list (world_of new).filesystems)
        (rising_lists_are_woven is_overlay world.filesystems shows.rise)
        (woven_lists_are_alike (filter is_plain_one world.filesystems) (filter is_overlay world.filesystems)
        (filesystems_seen new.filesystems) (overlays_seen new.overlays)
        (same_filesystems (filter is_plain_one world.filesystems) new.filesystems shows.numbers same_one)
        (subst (SameFilesystems (filter is_overlay world.filesystems)) shows.overlays (sameness_is_an_equivalence.itself
        (record world { filesystems = filter is_overlay world.filesystems })).filesystems));
    namespaces = shows.namespaces;
    tasks = shows.tasks;
  }

  -- and has the groups that are kept
  pub shown_has : Has (world_of new) new.groups
  shown_has = same_has (world_of new) shows.groups (sym shows.mounts)
      (λ group. sym (master_is world new.groups is_world shows.groups group))

  -- its overlays are overlays
  merged : All (λ filesystem. is_overlay filesystem ≡ true) (overlays_seen new.overlays)
  merged = subst (All (λ filesystem. is_overlay filesystem ≡ true)) shows.overlays
      (all_from_among (λ filesystem. is_overlay filesystem ≡ true) (filter is_overlay world.filesystems)
      (λ f m. (among-from_filter is_overlay world.filesystems f m).1))

  -- and its inodes count what is in it
  pub shown_is_counted : (entry : FilesystemEntry) → Among entry new.filesystems → IsWorld nat_eq (world_of new)
      → IsCounted (world_of new) (filesystem_seen entry) (inodes_seen entry)
  shown_is_counted entry m is = subst (λ f. IsCounted (world_of new) f (inodes_seen entry))
      (found_filesystem (world_of new).filesystems is.files.one_filesystem (filesystem_seen entry)
      (plain_one_among new merged entry m))
      (any_same_worlds_count_alike world (world_of new) (counted entry.count) (inodes_seen entry) shown_is_same
      (shows.inodes entry m))
