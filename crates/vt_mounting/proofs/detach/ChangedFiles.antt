-- Where the counted inodes of one filesystem have changed, the code's world is the one that the sweep after the change
-- leaves,
-- and counts what is in it.
use Rattle.std.proofs.Common.{◌≡◌, refl, sym, ap, subst, ◌∙◌, ◌+◌, ⊎_elim, inl, inr, true≢false, ℕ, nat_eq, eq-eqb, eqb-true, Bool, true, false, cond, [], ◌∷◌, map, Some, None, is_some, arith}
use Rattle.vt_spec.proofs.Common.{Change, Filesystem, Fits, Fresh, Inodes, IsWorld, Location, Permit, SameFiles, SameFilesystem, SameFilesystems, SameWorlds, Task, TaskName, World, apply, common_steps, filesystem_at, filesystem_numbered, is_overlay, node_in, replaced_if_numbered, same_Some, settled, tree_of, with_change, with_files, with_filesystem, ⊤}
use Rattle.vt_spec.specs.Inodes.{changed}
use Rattle.vt_laws_mounts.specs.Counts.BesideOverlays.{IsChangeOfPlain}
use Rattle.vt_laws_mounts.specs.Counts.Changing.{LinksWhatIsThere, after_change, filesystem_of}
use Rattle.vt_mounting.proofs.Common.{Among, ChangesInodes, CountsItsMounts, CountsItsUses, CountsWhatIsInIt, FilesystemEntry, Filesystems, HasOwnInodes, IsCounted, IsHeld, KeepsTo, Shown, WorldValue, WritersHaveLayers, all_from_among, among_from_all, any_same_worlds_are_worlds, any_same_worlds_count_alike, any_same_worlds_keep_to_numbers, are_rising, counted, counted_same, counted_test, entry_of, filesystem_seen, filesystems_seen, found_filesystem, given_permits_leave_every_world, given_to_task, inodes_seen, is_counted_before, is_own_number, layer_count, mounts_showing, numbers_apart_each, numbers_listed, numbers_seen, overlays_seen, permit_named, permits_keep_to_numbers, same_numbers_are_permuted, same_worlds_have_layers_alike, sameness_is_an_equivalence, shown_entry, world_of, woven_lists_are_alike}
use Rattle.vt_world.specs.Held.{HoldsOverlays}
use Rattle.vt_world.proofs.counting.Lowered.{counted_lowered, counts_there}
use Rattle.vt_laws_mounts.proofs.counts.changing.Changes.{counts_follow_changes_beside_overlays, only_files_change_beside_overlays, other_counts_stay_beside_overlays}
use Rattle.vt_laws_mounts.proofs.counts.changing.SameAfter.{counted_changes_are_swept_beside_overlays}
use Rattle.vt_laws_mounts.proofs.counts.using.Exchanged.{numbers_mapped}
use Rattle.vt_fs.specs.FilesystemsValue.{files_seen, shown_if}
use Rattle.vt_laws_rules.specs.Numbers.{IsSuppliedFrom}
use Rattle.vt_laws_mounts.specs.LettingGo.TreeChanges.{with_tree}
use Rattle.vt_mounting.proofs.detach.Writers.{left_writers}
use Rattle.vt_mounting.specs.Detach.Events.{Becomes, Permits, left_by, supply_of}
use Rattle.vt_mounting.proofs.detach.ChangedNumbers.{MakesOther, none_stays}
use Rattle.vt_mounting.proofs.detach.Grouped.{same_has}
use Rattle.vt_mounting.proofs.detach.FilesSeen.{one_entry}
use Rattle.vt_mounting.proofs.detach.Overlaid.{found_plain_one, layers_kept, overlay_apart, overlays_counted, overlays_hold_still, plain_one_among, plain_ones_apart, same_files_rise, same_numbers_rise, woven_mapped}

abbrev pub with_filesystems : WorldValue → Filesystems → WorldValue
with_filesystems value filesystems = record value { filesystems = filesystems }

abbrev pub changed_by : Change ℕ → Inodes ℕ → Inodes ℕ
changed_by change inodes = changed nat_eq inodes change

-- Filesystems one after the other, of which those with one count have other inodes

pub record IsChangedEntry (count : ℕ) (change : Inodes ℕ → Inodes ℕ) (was entry : FilesystemEntry) : Type 0 where
  pub count_is : entry.count ≡ was.count
  pub inodes_are : inodes_seen entry ≡ cond (nat_eq count was.count) (change (inodes_seen was)) (inodes_seen was)
  pub mounts_are : entry.mounts ≡ was.mounts

module _ (count : ℕ) (change : Inodes ℕ → Inodes ℕ) where
  changed_entry : (was entry : FilesystemEntry) → shown_entry entry ≡ shown_if count change (shown_entry was)
      → IsChangedEntry count change was entry
  changed_entry was entry same = record {
    count_is = counts (nat_eq count was.count) same;
    inodes_are = inodes (nat_eq count was.count) same;
    mounts_are = mounts (nat_eq count was.count) same;
  }
    where
      one : Bool → Shown
      one b = cond b (record (shown_entry was) { inodes = change (inodes_seen was) }) (shown_entry was)

      counts : (b : Bool) → shown_entry entry ≡ one b → entry.count ≡ was.count
      counts true e = ap (λ s. s.count) e
      counts false e = ap (λ s. s.count) e

      inodes : (b : Bool) → shown_entry entry ≡ one b
          → inodes_seen entry ≡ cond b (change (inodes_seen was)) (inodes_seen was)
      inodes true e = ap (λ s. s.inodes) e
      inodes false e = ap (λ s. s.inodes) e

      mounts : (b : Bool) → shown_entry entry ≡ one b → entry.mounts ≡ was.mounts
      mounts true e = ap (λ s. s.mounts) e
      mounts false e = ap (λ s. s.mounts) e

  abbrev ArePaired : Filesystems → Filesystems → Type 0
  ArePaired [] [] = ⊤
  ArePaired [] (entry ∷ news) = ⊥
  ArePaired (was ∷ olds) [] = ⊥
  ArePaired (was ∷ olds) (entry ∷ news) = IsChangedEntry count change was entry × ArePaired olds news

  paired : (olds news : Filesystems) → map shown_entry news ≡ map (shown_if count change) (map shown_entry olds)
      → ArePaired olds news
  paired [] [] same = tt
  paired [] (entry ∷ news) same = absurd cc
  paired (was ∷ olds) [] same = absurd cc
  paired (was ∷ olds) (entry ∷ news) same =
      let heads : shown_entry entry ≡ shown_if count change (shown_entry was) = cc in
      let tails : map shown_entry news ≡ map (shown_if count change) (map shown_entry olds) = cc in
      (changed_entry was entry heads, paired olds news tails)

  -- what becomes of an entry, and what an entry was
  pub record HasPartner (was : FilesystemEntry) (news : Filesystems) : Type 0 where
    pub entry : FilesystemEntry
    pub among : Among entry news
    pub is : IsChangedEntry count change was entry

  becomes_one : (olds news : Filesystems) → ArePaired olds news → (was : FilesystemEntry) → Among was olds
      → HasPartner was news
  becomes_one [] news pairs was m = absurd m
  becomes_one (first ∷ olds) [] pairs was m = absurd pairs
  becomes_one (first ∷ olds) (entry ∷ news) pairs was m = ⊎_elim (λ same. record {
    entry = entry;
    among = inl refl;
    is = subst (λ x. IsChangedEntry count change x entry) (sym same) pairs.0;
  })
      (λ later. let rest = becomes_one olds news pairs.1 was later in record { entry = rest.entry; among = inr rest.among; is = rest.is }) m

  pub record HasSource (entry : FilesystemEntry) (olds : Filesystems) : Type 0 where
    pub was : FilesystemEntry
    pub among : Among was olds
    pub is : IsChangedEntry count change was entry

  was_one : (olds news : Filesystems) → ArePaired olds news → (entry : FilesystemEntry) → Among entry news
      → HasSource entry olds
  was_one [] [] pairs entry m = absurd m
  was_one [] (first ∷ news) pairs entry m = absurd pairs
  was_one (was ∷ olds) [] pairs entry m = absurd m
  was_one (was ∷ olds) (first ∷ news) pairs entry m = ⊎_elim
      (λ same. record { was = was; among = inl refl; is = subst (IsChangedEntry count change was) (sym same) pairs.0 })
      (λ later. let rest = was_one olds news pairs.1 entry later in record { was = rest.was; among = inr rest.among; is = rest.is }) m

-- the same inodes, the same tree
same_files : (a b : FilesystemEntry) → inodes_seen a ≡ inodes_seen b → SameFiles (files_seen a) (files_seen b)
same_files a b same = record {
  tree = ap tree_of same;
  numbers = same_numbers_are_permuted (numbers_seen a) (numbers_seen b) (numbers_apart_each a) (numbers_apart_each b)
      (λ number. numbers_listed a number ∙ ap (λ (inodes : Inodes ℕ). is_some (node_in (inodes.inode number))) same
      ∙ sym (numbers_listed b number));
}

-- A change of the files at a location of the code's world: the filesystem that the location is in, and how it changes
pub record ChangesFiles (value : WorldValue) (location : Location ℕ) (change : Change ℕ)
    (filesystems : Filesystems) : Type 0 where
  pub entry : FilesystemEntry
  pub among : Among entry value.filesystems
  pub found : entry_of value.filesystems entry.count ≡ Some entry
  pub shows : filesystem_of (world_of value) location ≡ counted entry.count
  pub fits : Fits (inodes_seen entry) change
  pub links : LinksWhatIsThere (inodes_seen entry) change
  pub changes : ChangesInodes entry.count (changed_by change) value.filesystems filesystems
  pub own : (number : ℕ) → is_own_number entry.count number ≡ false → MakesOther number change

module _ (value : WorldValue) (held : IsHeld value) (location : Location ℕ) (change : Change ℕ)
    (filesystems : Filesystems) (made : ChangesFiles value location change filesystems) where
  abbrev count : ℕ
  count = made.entry.count

  abbrev new : WorldValue
  new = with_filesystems value filesystems

  filesystem_is : filesystem_at nat_eq (world_of value) location ≡ filesystem_seen made.entry
  filesystem_is = ap (filesystem_numbered nat_eq (world_of value)) made.shows
      ∙ found_plain_one value held made.entry made.among

  pub is_change : IsChangeOfPlain (world_of value) location (inodes_seen made.entry) change
  is_change = record {
    in_world = held.in_world;
    plain = ap is_overlay filesystem_is;
    counted = subst (λ f. IsCounted (world_of value) f (inodes_seen made.entry)) (sym filesystem_is)
        (counts_there value held made.entry made.among);
    fits = made.fits;
    links = made.links;
  }

  the_one : (entry : FilesystemEntry) → Among entry value.filesystems → nat_eq count entry.count ≡ true
      → entry ≡ made.entry
  the_one entry m same = same_Some entry made.entry
      (sym (one_entry value.filesystems (plain_ones_apart value held) entry m)
      ∙ ap (entry_of value.filesystems) (sym (eqb-true count entry.count same)) ∙ made.found)

  pairs : ArePaired count (changed_by change) value.filesystems filesystems
  pairs = paired count (changed_by change) value.filesystems filesystems made.changes.changed

  pub partner : HasPartner count (changed_by change) made.entry filesystems
  partner = becomes_one count (changed_by change) value.filesystems filesystems pairs made.entry made.among

  pub inodes_after : inodes_seen partner.entry ≡ changed nat_eq (inodes_seen made.entry) change
  inodes_after = partner.is.inodes_are
      ∙ ap (λ b. cond b (changed nat_eq (inodes_seen made.entry) change) (inodes_seen made.entry))
      (eq-eqb count count refl)

  -- with the changed files in the place of the old ones
  abbrev put : Filesystem ℕ
  put = with_files (filesystem_seen made.entry) (files_seen partner.entry)

  same_put : (olds news : Filesystems) → ((entry : FilesystemEntry) → Among entry olds → Among entry value.filesystems)
      → ArePaired count (changed_by change) olds news
      → SameFilesystems (map (replaced_if_numbered nat_eq put) (filesystems_seen olds)) (filesystems_seen news)
  same_put [] [] all two = tt
  same_put [] (entry ∷ news) all two = absurd two
  same_put (was ∷ olds) [] all two = absurd two
  same_put (was ∷ olds) (entry ∷ news) all two = (
    subst (λ b. SameFilesystem (cond b put (filesystem_seen was)) (filesystem_seen entry))
        (sym (counted_test count was.count)) (by (nat_eq count was.count) refl two.0.inodes_are),
    same_put olds news (λ other m. all other (inr m)) two.1,
  )
    where
      by : (b : Bool) → nat_eq count was.count ≡ b
          → inodes_seen entry ≡ cond b (changed nat_eq (inodes_seen was) change) (inodes_seen was)
          → SameFilesystem (cond b put (filesystem_seen was)) (filesystem_seen entry)
      by true e is = let same = the_one was (all was (inl refl)) e in record {
        number = ap counted (ap (λ (x : FilesystemEntry). x.count) (sym same) ∙ sym two.0.count_is);
        files = same_files partner.entry entry
            (inodes_after ∙ ap (λ x. changed nat_eq (inodes_seen x) change) (sym same) ∙ sym is);
        overlay = refl;
      }
      by false e is = record {
        number = ap counted (sym two.0.count_is);
        files = same_files was entry (sym is);
        overlay = refl;
      }

  numbers_kept : (f : Filesystem ℕ) → (replaced_if_numbered nat_eq put f).number ≡ f.number
  numbers_kept f = grind (arith, common_steps, eqb-true)

  same_with_tree : SameWorlds (with_tree (world_of value) (filesystem_of (world_of value) location)
      (files_seen partner.entry)) (world_of new)
  same_with_tree =
      subst (λ f. SameWorlds (with_filesystem nat_eq (world_of value) (with_files f (files_seen partner.entry)))
      (world_of new)) (sym filesystem_is) (record {
        mounts = refl;
        master = refl;
        filesystems = subst (λ list. SameFilesystems list (world_of new).filesystems)
            (sym (woven_mapped (replaced_if_numbered nat_eq put) numbers_kept (filesystems_seen value.filesystems)
            (overlays_seen value.overlays) (λ f m.
            ap (λ b. cond b put f) (overlay_apart held made.entry made.among f m))))
            (woven_lists_are_alike (map (replaced_if_numbered nat_eq put) (filesystems_seen value.filesystems))
            (overlays_seen value.overlays) (filesystems_seen filesystems) (overlays_seen value.overlays)
            (same_put value.filesystems filesystems (λ entry m. m) pairs) (sameness_is_an_equivalence.itself
            (record (world_of value) { filesystems = overlays_seen value.overlays })).filesystems);
        namespaces = refl;
        tasks = refl;
      })

  abbrev after : Fresh ℕ → World ℕ
  after fresh = after_change fresh (world_of value) location change

  -- the code's world is the one after the change, with what nothing uses gone
  pub change_is_swept : (fresh : Fresh ℕ) → SameWorlds (after fresh) (world_of new)
  change_is_swept fresh = sameness_is_an_equivalence.onward (after fresh)
      (with_tree (world_of value) (filesystem_of (world_of value) location) (files_seen partner.entry)) (world_of new)
      (sameness_is_an_equivalence.back
      (with_tree (world_of value) (filesystem_of (world_of value) location) (files_seen partner.entry)) (after fresh)
      (counted_changes_are_swept_beside_overlays fresh (world_of value) location (inodes_seen made.entry) change
      is_change (files_seen partner.entry) (ap tree_of inodes_after) (numbers_apart_each partner.entry)
      (numbers_listed partner.entry))) same_with_tree

  -- Counts

  abbrev fresh : Fresh ℕ
  fresh k = 0

  at_the_one : filesystem_at nat_eq (after fresh) location ≡ filesystem_numbered nat_eq (after fresh) (counted count)
  at_the_one = subst (λ w. filesystem_at nat_eq w location
      ≡ filesystem_numbered nat_eq w (filesystem_of (world_of value) location))
      (sym (only_files_change_beside_overlays fresh (world_of value) location (inodes_seen made.entry) change
      is_change)) refl ∙ ap (filesystem_numbered nat_eq (after fresh)) made.shows

  counted_then : {was entry : FilesystemEntry} → Among was value.filesystems
      → IsChangedEntry count (changed_by change) was entry
      → IsCounted (after fresh) (filesystem_numbered nat_eq (after fresh) (counted was.count)) (inodes_seen entry)
  counted_then {was} {entry} m is = by (nat_eq count was.count) refl is.inodes_are
    where
      by : (b : Bool) → nat_eq count was.count ≡ b
          → inodes_seen entry ≡ cond b (changed nat_eq (inodes_seen was) change) (inodes_seen was)
          → IsCounted (after fresh) (filesystem_numbered nat_eq (after fresh) (counted was.count)) (inodes_seen entry)
      by true e inodes =
          let same = the_one was m e in
          subst (λ n. IsCounted (after fresh) (filesystem_numbered nat_eq (after fresh) (counted n))
          (inodes_seen entry)) (eqb-true count was.count e)
          (subst (IsCounted (after fresh) (filesystem_numbered nat_eq (after fresh) (counted count)))
          (ap (λ x. changed nat_eq (inodes_seen x) change) (sym same) ∙ sym inodes)
          (subst (λ f. IsCounted (after fresh) f (changed nat_eq (inodes_seen made.entry) change)) at_the_one
          (counts_follow_changes_beside_overlays fresh (world_of value) location (inodes_seen made.entry) change
          is_change)))
      by false e inodes =
          subst (IsCounted (after fresh) (filesystem_numbered nat_eq (after fresh) (counted was.count))) (sym inodes)
          (other_counts_stay_beside_overlays fresh (world_of value) location (inodes_seen made.entry) change is_change
          (counted was.count) (inodes_seen was)
          (λ same. true≢false (sym (eq-eqb count was.count (counted_same count was.count (sym (same ∙ made.shows))))
          ∙ e)) (subst (λ f. IsCounted (world_of value) f (inodes_seen was)) (sym (found_plain_one value held was m))
          (counts_there value held was m)))

  own_after : (entry : FilesystemEntry) → Among entry filesystems → HasOwnInodes entry
  own_after entry m number other = by (nat_eq count source.was.count) refl source.is.inodes_are
    where
      source : HasSource count (changed_by change) entry value.filesystems
      source = was_one count (changed_by change) value.filesystems filesystems pairs entry m

      other_too : is_own_number source.was.count number ≡ false
      other_too = ap (λ n. is_own_number n number) (sym source.is.count_is) ∙ other

      none_before : (inodes_seen source.was).inode number ≡ None
      none_before = among_from_all HasOwnInodes value.filesystems held.own_inodes source.was source.among number other_too

      by : (b : Bool) → nat_eq count source.was.count ≡ b
          → inodes_seen entry ≡ cond b (changed nat_eq (inodes_seen source.was) change) (inodes_seen source.was)
          → (inodes_seen entry).inode number ≡ None
      by true e is = ap (λ (inodes : Inodes ℕ). inodes.inode number) is
          ∙ none_stays number (inodes_seen source.was) change
          (made.own number (ap (λ n. is_own_number n number) (eqb-true count source.was.count e) ∙ other_too)) none_before
      by false e is = ap (λ (inodes : Inodes ℕ). inodes.inode number) is ∙ none_before

  pub change_is_held : IsWorld nat_eq (world_of new) → KeepsTo (is_counted_before value.next) (world_of new)
      → WritersHaveLayers (world_of new) → IsHeld new
  change_is_held is keeps writers = record {
    in_world = is;
    groups = same_has (world_of new) held.groups refl (λ group. refl);
    given = keeps;
    mounts = all_from_among (CountsItsUses (world_of new)) value.mounts (λ entry m.
        let was = among_from_all (CountsItsUses (world_of value)) value.mounts held.mounts entry m in
        record { uses = was.uses; writers = was.writers });
    filesystems = all_from_among (CountsItsMounts (world_of new)) filesystems (λ entry m.
        let source = was_one count (changed_by change) value.filesystems filesystems pairs entry m in
        let was = among_from_all (CountsItsMounts
        (world_of value)) value.filesystems held.filesystems source.was source.among in
        record {
          mounts = source.is.mounts_are ∙ was.mounts ∙ ap (λ n. mounts_of_filesystem n) (sym source.is.count_is)
              ∙ ap (λ layers. mounts_showing (world_of value) (counted entry.count) + layers)
              (sym (layers_kept value new held.overlays refl (counted entry.count)));
          inodes = counted_lowered (world_of new) is overlays_then.read_only (filesystem_seen entry) (inodes_seen entry)
              (subst (λ f. IsCounted (world_of new) f (inodes_seen entry))
              (found_filesystem (world_of new).filesystems is.files.one_filesystem (filesystem_seen entry)
              (plain_one_among new held.overlays.merged entry m))
              (subst (λ n. IsCounted (world_of new) (filesystem_numbered nat_eq (world_of new) (counted n))
              (inodes_seen entry)) (sym source.is.count_is)
              (any_same_worlds_count_alike (after fresh) (world_of new) (counted source.was.count) (inodes_seen entry)
              (change_is_swept fresh) (counted_then source.among source.is))));
        });
    own_inodes = all_from_among HasOwnInodes filesystems own_after;
    overlays = overlays_then;
    namespaces = all_from_among (CountsWhatIsInIt (world_of new)) value.namespaces (λ entry m.
        let was = among_from_all (CountsWhatIsInIt (world_of value)) value.namespaces held.namespaces entry m in
        record { tasks = was.tasks });
  }
    where
      mounts_of_filesystem : ℕ → ℕ
      mounts_of_filesystem n = mounts_showing (world_of value) (counted n) + layer_count (world_of value) (counted n)

      rising_with_tree : are_rising (with_tree (world_of value) (filesystem_of (world_of value) location)
          (files_seen partner.entry)).filesystems ≡ true
      rising_with_tree = subst (λ f. are_rising (with_filesystem nat_eq (world_of value)
          (with_files f (files_seen partner.entry))).filesystems ≡ true) (sym filesystem_is)
          (same_numbers_rise (world_of value).filesystems
          (map (replaced_if_numbered nat_eq put) (world_of value).filesystems)
          (numbers_mapped (replaced_if_numbered nat_eq put) numbers_kept (world_of value).filesystems)
          held.overlays.all_rise)

      overlays_then : HoldsOverlays new
      overlays_then = overlays_hold_still new held.overlays refl (same_files_rise
          (with_tree (world_of value) (filesystem_of (world_of value) location) (files_seen partner.entry)).filesystems
          (world_of new).filesystems same_with_tree.filesystems rising_with_tree)
          (overlays_counted value new held.overlays refl (λ number. refl)) writers

-- an event that leaves the invariants and does what its permit says
pub record IsFilesEvent (value : WorldValue) (name : TaskName) (permit : Permit ℕ) (new : WorldValue) : Type 0 where
  pub held : IsHeld new
  pub becomes : Becomes value name permit new

-- the permit asks for this change, whatever numbers are handed in; of those that are named some do
pub record AsksForChange (value : WorldValue) (task : Task ℕ) (permit : Permit ℕ) (location : Location ℕ)
    (change : Change ℕ) : Type 0 where
  pub named : permit_named (is_counted_before value.next) permit ≡ true
  pub rest : Fresh ℕ
  pub applied : (apply nat_eq (supply_of value permit) (world_of value) task permit).world
      ≡ with_change nat_eq rest (world_of value) location change
  pub named_supply : Fresh ℕ
  pub are_named : IsSuppliedFrom (is_counted_before value.next) named_supply
  pub named_rest : Fresh ℕ
  pub applied_named : (apply nat_eq named_supply (world_of value) task permit).world
      ≡ with_change nat_eq named_rest (world_of value) location change

pub files_are_changed : (value : WorldValue) (name : TaskName) (permit : Permit ℕ) (location : Location ℕ)
    (change : Change ℕ) (filesystems : Filesystems) → IsHeld value → (permits : Permits value name permit)
    → AsksForChange value permits.task permit location change → ChangesFiles value location change filesystems
    → IsFilesEvent value name permit (with_filesystems value filesystems)
files_are_changed value name permit location change filesystems held permits asks made = record {
  held = change_is_held value held location change filesystems made
      (any_same_worlds_are_worlds (left_by value permits.task permit) (world_of new) same
      (given_permits_leave_every_world (world_of value) (supply_of value permit) permits.task permit held.in_world
      (given_to_task (supply_of value permit) (world_of value) permits.task permit permits.given))) (any_same_worlds_keep_to_numbers (is_counted_before value.next)
      (settled nat_eq (apply nat_eq asks.named_supply (world_of value) permits.task permit).world) (world_of new)
      (subst (λ w. SameWorlds (settled nat_eq w) (world_of new)) (sym asks.applied_named)
      (change_is_swept value held location change filesystems made asks.named_rest))
      (permits_keep_to_numbers (is_counted_before value.next) asks.named_supply (world_of value) permits.task permit
      permits.given.called held.given asks.are_named asks.named))
      (same_worlds_have_layers_alike (left_by value permits.task permit) (world_of new) same
      (left_writers value held permits.task permit permits.given));
  becomes = λ other called. subst (λ task. SameWorlds (left_by value task permit) (world_of new))
      (same_Some permits.task other (sym permits.called ∙ called)) same;
}
  where
    new : WorldValue
    new = with_filesystems value filesystems

    same : SameWorlds (left_by value permits.task permit) (world_of new)
    same = subst (λ w. SameWorlds (settled nat_eq w) (world_of new)) (sym asks.applied)
        (change_is_swept value held location change filesystems made asks.rest)
