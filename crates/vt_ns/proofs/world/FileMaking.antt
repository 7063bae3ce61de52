-- The event that makes an inode: mkdir(2), symlink(2), mknod(2).
use Rattle.std.proofs.Common.{◌≡◌, refl, sym, ap, subst, ◌∙◌, ⊎_elim, inl, inr, true≢false, ℕ, ◌<◌, ◌%◌, ◌/◌, ◌==◌, ◌&&◌, Bool, true, false, nat_eq, List, [], ◌∷◌, map, None, Some, option_map, unwrap_or, arith}
use Rattle.vt_spec.proofs.Common.{Change, Content, Directory, Entries, Fits, Inodes, IsNewIn, Make, Node, Permit, Regular, Symlink, TaskName, ToMake, Whiteout, list_all, mount_at, odds, renamed_entry, tree_of, with_change, common_steps}
use Rattle.vt_spec.specs.Inodes.{changed}
use Rattle.vt_ns.proofs.Common.{ChangesInodes, FilesystemEntry, Filesystems, IsFilesEvent, IsHeld, IsLocated, IsPlainAt, IsSmall, Permits, WorldValue, counted, counts_from, entry_of, files_are_changed, given_changes_fit, given_permits_are_seen_to, here_number, inode_number, inodes_at, inodes_seen, is_counted_before, is_own_number, is_small_node, located, located_filesystem, located_inodes, location_of, mounts_in, next_inode, next_seen, no_entry, node_seen, nodes_named, number_of, supply_of, with_filesystems, world_of}
use Rattle.vt_fs.specs.FilesystemsValue.{entry_at}
use Rattle.vt_laws_rules.specs.Numbers.{content_named}
use Rattle.vt_location.specs.declared.births.Birth.TheVariants.{Here}
use Rattle.vt_location.specs.declared.locations.Location.{Location}
use Rattle.vt_location.specs.declared.locations.NodeRef.{NodeRef}
use Rattle.vt_location.specs.Numbers.{exchanged}
use Rattle.vt_location.proofs.NodeLemmas.{here_is_own, small_parts}
use Rattle.vt_location.proofs.NumberLemmas.{exchanged_same, exchanged_slot}
use Rattle.vt_permits.specs.GrantValue.{node_in}
use Rattle.vt_laws_worlds.proofs.overlays_read.Changes.{plain_ones_are_changed}
use Rattle.vt_laws_worlds.proofs.worlds.FitPermitsNamed.{all_permits_fit}
use Rattle.vt_laws_worlds.specs.Permits.Left.{IsGiven}
use Rattle.vt_laws_worlds.specs.Permits.Sees.{MayBeMade}
use Rattle.vt_laws_worlds.specs.Worlds.Permits.{IsFitPermit}
use Rattle.vt_mount.specs.Sources.{has_counted_source}
use Rattle.vt_ns.specs.Grants.{Grants}
use Rattle.vt_ns.specs.Vacancy.{IsVacant, NextInodeIsVacant}
use Rattle.vt_ns.proofs.Granting.{counts, given_with, handed, permitted}
use Rattle.vt_ns.proofs.world.SlotsFilled.{made_was_nowhere}
use Rattle.vt_ns.proofs.world.VacantNumbers.{is_vacant}
use Rattle.vt_spec.specs.Machine.Mounts as meant

-- what is made in a directory of a tree has its slots
pub made_in_tree : (directory : Location) → directory.node.birth ≡ Here → (node : Node ℕ)
    → node_in directory node ≡ node_seen directory.node.filesystem.count node
made_in_tree directory here node = cc

-- a new node, in the slots of its filesystem
pub new_in_slot : (count slot : ℕ) → slot < 18446744073709551616 → (node : Node ℕ)
    → IsNewIn (inode_number count slot) (node_seen count node) → IsNewIn slot node
new_in_slot count slot small node fits = by node.content fits
  where
    no_entries : (entries : Entries ℕ) → map (renamed_entry (exchanged count) (exchanged count)) entries ≡ []
        → entries ≡ []
    no_entries [] e = refl
    no_entries (entry ∷ entries) e = absurd cc

    by : (content : Content ℕ)
        → IsNewIn (inode_number count slot) (node_seen count (record { attr = node.attr; content = content }))
        → IsNewIn slot (record { attr = node.attr; content = content })
    by (Directory parent entries opaque) new = ⊎_elim (λ same.
        let up : exchanged count parent ≡ inode_number count slot = cc in
        let names : map (renamed_entry (exchanged count) (exchanged count)) entries ≡ [] = cc in
        let mark : opaque ≡ false = cc in
        inl (λ i. Directory (exchanged_same count parent slot (up ∙ sym (exchanged_slot count slot small)) i)
        (no_entries entries names i) (mark i))) (λ none. absurd (true≢false none)) new
    by (Regular bytes) new = inr refl
    by (Symlink text) new = inr refl
    by Whiteout new = inr refl

-- what a new inode names is what its permit names
pub new_is_named : (named : ℕ → Bool) (directory : ℕ) (node : Node ℕ) → named directory ≡ true → IsNewIn directory node
    → content_named named node.content ≡ true
new_is_named named directory node there new = grind (arith, common_steps)

-- the next inode of a filesystem that a location shows
pub next_of_entry : (value : WorldValue) (at : meant.Location ℕ) (entry : FilesystemEntry) (count : ℕ)
    → (mount_at nat_eq (world_of value) at).filesystem ≡ counted entry.count
    → entry_of value.filesystems entry.count ≡ Some entry → entry.count ≡ count
    → next_inode value at ≡ next_seen (entry_at value.filesystems count)
next_of_entry value at entry count shows found is =
    ap (λ n. unwrap_or (option_map next_seen (entry_of value.filesystems (n / 4))) (inode_number value.next 0)) shows
    ∙ ap (λ n. unwrap_or (option_map next_seen (entry_of value.filesystems n)) (inode_number value.next 0)) quarter
    ∙ ap (λ o. unwrap_or (option_map next_seen o) (inode_number value.next 0)) found
    ∙ ap (λ o. next_seen (unwrap_or o (no_entry count))) (sym (ap (entry_of value.filesystems) (sym is) ∙ found))
  where
    quarter : counted entry.count / 4 ≡ entry.count
    quarter = omega arith

-- A task is granted to make an inode in a directory.
pub record MayMake (value : WorldValue) : Type 0 where
  pub held : IsHeld value
  pub name : TaskName
  pub directory : Location
  pub entry : List ℕ
  pub node : Node ℕ
  pub small : IsSmall directory
  pub granted : Grants value name (ToMake (location_of directory) entry (node_in directory node))

module _ (value : WorldValue) (may : MayMake value) where
  open may use {held, name, directory, entry, node, small, granted}

  abbrev count : ℕ
  count = directory.node.filesystem.count

  abbrev asked : Permit ℕ
  asked = ToMake (location_of directory) entry (node_in directory node)

  abbrev permit : Permit ℕ
  permit = ToMake (location_of directory) entry (node_seen count node)

  -- What is granted does not go by the numbers that are handed in, so counts serve here.
  given_asked : IsGiven (counts_from value.next) (world_of value) granted.task asked
  given_asked = given_with value name asked granted (counts_from value.next) (counts value held)

  -- what is made is made in no overlay
  directory_plain : IsPlainAt value directory
  directory_plain =
      plain_ones_are_changed (world_of value) (counts_from value.next) granted.task asked (location_of directory) _
      held.overlays.read_only held.overlays.writers given_asked refl

  asked_fits : IsFitPermit (counts_from value.next) (world_of value) granted.task asked
  asked_fits = all_permits_fit (world_of value) (counts_from value.next) granted.task given_asked.call asked
      held.in_world given_asked.serves given_asked.called given_asked.no_overlay given_asked.judged

  -- the directory stands where the world has it
  directory_seen : IsLocated value directory
  directory_seen = located value held directory small directory_plain asked_fits.names.reached.there

  given : IsGiven (counts_from value.next) (world_of value) granted.task permit
  given = grind (arith, common_steps, made_in_tree directory directory_seen.born_here node, given_asked)

  sees : MayBeMade (world_of value) (location_of directory) entry (node_seen count node)
  sees = given_permits_are_seen_to (world_of value) (counts_from value.next) granted.task permit held.in_world given

  -- it is new in its directory
  pub new_in_directory : IsNewIn directory.node.slot node
  new_in_directory = new_in_slot count directory.node.slot small node
      (subst (λ number. IsNewIn number (node_seen count node)) (here_number directory.node directory_seen.born_here)
      sees.fits)

  abbrev change : ℕ → Change ℕ
  change number = Make (number_of directory.node) entry number (node_seen count node)

  fits_in : (inodes : Inodes ℕ) → inodes ≡ inodes_seen directory_seen.entry
      → Fits inodes (change (counts_from value.next 0))
  fits_in inodes same =
      given_changes_fit (world_of value) (counts_from value.next) granted.task permit (location_of directory)
      (change (counts_from value.next 0)) inodes held.in_world given refl
      (ap tree_of same ∙ ap (λ filesystem. filesystem.files.tree)
      (sym (located_filesystem value held directory directory_seen)))

  -- the parent is a directory, and the name is free
  pub make_fits : Fits (inodes_at value.filesystems count) (change (counts_from value.next 0))
  make_fits = fits_in (inodes_at value.filesystems count) (located_inodes value directory directory_seen)

  -- an inode is made under its name
  pub record IsMade (filesystems : Filesystems) : Type 0 where
    pub odd : list_all (λ mount. mount.number % 4 == 1) (mounts_in value.mounts) ≡ true
    pub sources : list_all has_counted_source (mounts_in value.mounts) ≡ true
    pub made : NodeRef
    pub small_made : is_small_node made ≡ true
    pub born : made.birth ≡ Here
    pub inside : made.filesystem ≡ directory.node.filesystem
    pub number : number_of made ≡ next_seen (entry_at value.filesystems count)
    pub changes : ChangesInodes count (λ inodes. changed nat_eq inodes (change (number_of made))) value.filesystems
        filesystems

  module _ (filesystems : Filesystems) (it : IsMade filesystems) where
    open it use {odd, sources, made, small_made, born, inside, number, changes}

    own_made : is_own_number made.filesystem.count (number_of made) ≡ true
    own_made = let small = small_parts made small_made in here_is_own made small.filesystem small.slot born

    next_is : next_inode value (location_of directory) ≡ number_of made
    next_is = next_of_entry value (location_of directory) directory_seen.entry count directory_seen.shows
        directory_seen.found directory_seen.count_is ∙ sym number

    -- which nothing had
    was_nowhere : (inodes_seen directory_seen.entry).inode (number_of made) ≡ None
    was_nowhere = made_was_nowhere value.filesystems filesystems count (number_of directory.node) entry (number_of made)
        (node_seen count node) changes directory_seen.entry
        (ap (entry_of value.filesystems) (sym directory_seen.count_is) ∙ directory_seen.found)

    pub make_vacant : NextInodeIsVacant value (location_of directory)
    make_vacant = subst (IsVacant value) (sym next_is)
        (is_vacant value held odd sources directory_seen.entry directory_seen.among made small_made born
        (ap (λ filesystem. filesystem.count) inside ∙ sym directory_seen.count_is) was_nowhere)

    -- so it is permitted, and done
    pub make_permitted : Permits value name asked
    make_permitted = permitted value name asked granted
        (handed value held 0 (next_inode value (location_of directory)) make_vacant)

    permits : Permits value name permit
    permits = grind (arith, common_steps, made_in_tree directory directory_seen.born_here node, make_permitted)

    pub make_is_done : IsFilesEvent value name asked (with_filesystems value filesystems)
    make_is_done = subst (λ n. IsFilesEvent value name (ToMake (location_of directory) entry n)
        (with_filesystems value filesystems)) (sym (made_in_tree directory directory_seen.born_here node))
        (files_are_changed value name permit (location_of directory) (change (number_of made)) filesystems held permits
        (record {
          named = λ i. directory_seen.named i
              && new_is_named (is_counted_before value.next) (number_of directory.node) (node_seen count node)
              (nodes_named value.next directory.node) sees.fits i;
          rest = odds (supply_of value permit);
          applied = ap (λ n. with_change nat_eq (odds (supply_of value permit)) (world_of value) (location_of directory)
              (change n)) next_is;
          named_supply = λ k. number_of made;
          are_named = λ k. nodes_named value.next made;
          named_rest = λ k. number_of made;
          applied_named = refl;
        }) (record {
          entry = directory_seen.entry;
          among = directory_seen.among;
          found = directory_seen.found;
          shows = directory_seen.shows;
          fits = let fit = fits_in (inodes_seen directory_seen.entry) refl in (fit.0, fit.1, was_nowhere, fit.3);
          links = tt;
          changes = subst (λ n. ChangesInodes n (λ inodes.
              changed nat_eq inodes (change (number_of made))) value.filesystems filesystems)
              (sym directory_seen.count_is) changes;
          own = λ n other same. true≢false (sym (ap (λ k. is_own_number k (number_of made))
              (directory_seen.count_is ∙ ap (λ filesystem. filesystem.count) (sym inside)) ∙ own_made)
              ∙ ap (is_own_number directory_seen.entry.count) (sym same) ∙ other);
        }))
