-- The filesystem that a location of the code's world is in, by what is kept of it.
use Rattle.std.proofs.Common.{◌≡◌, refl, sym, ap, ◌∙◌, inl, inr, true≢false, ℕ, ◌<◌, nat_eq, eq-eqb, eqb-true, Bool, true, false, cond, ◌&&◌, List, [], ◌∷◌, ◌++◌, map, flat_map, Some, is_some, unwrap_or, arith, All}
use Rattle.vt_spec.proofs.Common.{All-head, All-tail, Filesystem, Inodes, IsTree, Mount, Namespace, and_parts, any_pair, common_steps, filesystem_at, filesystem_numbered, is_among, is_among_left, is_located_well, is_overlay, mount_at, node_in, or_right, used_by_filesystem, used_by_mount}
use Rattle.vt_mounting.proofs.Common.{Among, FilesystemEntry, Filesystems, HasOwnInodes, IsHeld, WorldValue, among-map, among_from_all, born_in, counted, counted_same, counted_test, entry_of, filesystem_seen, filesystems_seen, inode_number, inodes_at, inodes_seen, is_counted_before, is_own_number, leaves_two, location_named, location_of, no_entry, none_among, number_of, used_numbers_are_named, world_of}
use Rattle.vt_fs.specs.FilesystemsValue.{files_at}
use Rattle.vt_location.specs.declared.locations.Location.{Location}
use Rattle.vt_location.specs.declared.locations.NodeRef.{NodeRef}
use Rattle.vt_location.specs.declared.births.Birth.TheVariants.{Here}
use Rattle.vt_location.proofs.NodeLemmas.{own_birth, own_count}
use Rattle.vt_mounting.proofs.detach.Overlaid.{found_plain_one, plain_one_among}
use Rattle.vt_mounting.proofs.detach.PlainFound.{found_where_plain}
use Rattle.vt_mounting.proofs.detach.FilesystemsFound.{filesystem_found, found_if}

-- Filesystems by their counts

-- no two have one count
pub one_entry : (fs : Filesystems)
    → any_pair (λ (a b : Filesystem ℕ). nat_eq a.number b.number) (filesystems_seen fs) ≡ false
    → (entry : FilesystemEntry) → Among entry fs → entry_of fs entry.count ≡ Some entry
one_entry [] one entry m = absurd m
one_entry (first ∷ rest) one entry m =
    grind (arith, common_steps, one_entry rest, eq-eqb, eqb-true, none_among, among-map)

-- The filesystem with a number, and an inode that is in it
pub record IsSeenIn (fs : Filesystems) (number inode : ℕ) : Type 0 where
  pub entry : FilesystemEntry
  pub among : Among entry fs
  pub found : entry_of fs entry.count ≡ Some entry
  pub number_is : number ≡ counted entry.count
  pub own : is_own_number entry.count inode ≡ true

-- an inode that is found stands in a filesystem of code
pub seen_in : (fs : Filesystems) → All HasOwnInodes fs → (number inode : ℕ)
    → is_some ((filesystem_found fs number).files.tree.node inode) ≡ true → IsSeenIn fs number inode
seen_in [] own number inode there = absurd (true≢false (sym there))
seen_in (x ∷ fs) own number inode there =
    by (nat_eq number (counted x.count)) refl there (seen_in fs (All-tail HasOwnInodes x fs own) number inode)
  where
    here : (b : Bool) → is_own_number x.count inode ≡ b → is_some ((filesystem_seen x).files.tree.node inode) ≡ true
        → is_own_number x.count inode ≡ true
    here true e there = e
    here false e there =
        absurd (true≢false (sym there ∙ ap (λ o. is_some (node_in o)) (All-head HasOwnInodes x fs own inode e)))

    by : (b : Bool) → nat_eq number (counted x.count) ≡ b
        → is_some ((found_if b x fs number).files.tree.node inode) ≡ true
        → (is_some ((filesystem_found fs number).files.tree.node inode) ≡ true → IsSeenIn fs number inode)
        → IsSeenIn (x ∷ fs) number inode
    by true e there rest = record {
      entry = x;
      among = inl refl;
      found = ap (λ b. cond b (Some x) (entry_of fs x.count)) (eq-eqb x.count x.count refl);
      number_is = eqb-true number (counted x.count) e;
      own = here (is_own_number x.count inode) refl there;
    }
    by false e there rest = let later = rest there in record {
      entry = later.entry;
      among = inr later.among;
      found = ap (λ b. cond b (Some x) (entry_of fs later.entry.count))
          (sym (counted_test later.entry.count x.count) ∙ ap (λ n. nat_eq n (counted x.count)) (sym later.number_is)
          ∙ e) ∙ later.found;
      number_is = later.number_is;
      own = later.own;
    }

-- Numbers that are counted before the next one

-- the number of a node was counted
inodes_named : (next f slot : ℕ) → is_counted_before next (inode_number f slot) ≡ true
inodes_named next f slot = grind (arith, common_steps, eq-eqb)

pub nodes_named : (next : ℕ) (node : NodeRef) → is_counted_before next (number_of node) ≡ true
nodes_named next node = inodes_named next (born_in node.filesystem.count node.birth) node.slot

among_goes_on : (n : ℕ) (a b c : List ℕ) → is_among nat_eq n (b ++ c) ≡ true → is_among nat_eq n ((a ++ b) ++ c) ≡ true
among_goes_on n [] b c m = m
among_goes_on n (x ∷ a) b c m = or_right (nat_eq n x) (is_among nat_eq n ((a ++ b) ++ c)) (among_goes_on n a b c m)

-- mounts that are there are in use
used_mount : (n : ℕ) (mounts : List (Mount ℕ)) (rest : List ℕ)
    → is_among nat_eq n (map (λ (mount : Mount ℕ). mount.number) mounts) ≡ true
    → is_among nat_eq n (flat_map used_by_mount mounts ++ rest) ≡ true
used_mount n [] rest m = absurd (true≢false (sym m))
used_mount n (first ∷ mounts) rest m = grind (arith, common_steps, used_mount n mounts rest, among_goes_on)

-- and so was that of a mount
pub mount_named : (value : WorldValue) → IsHeld value → (number : ℕ)
    → is_among nat_eq number (map (λ (mount : Mount ℕ). mount.number) (world_of value).mounts) ≡ true
    → is_counted_before value.next number ≡ true
mount_named value held number there =
    used_numbers_are_named (is_counted_before value.next) (world_of value) held.given (leaves_two value.next) number
    (is_among_left number
    (flat_map used_by_mount (world_of value).mounts ++ flat_map used_by_filesystem (world_of value).filesystems)
    (map (λ (namespace : Namespace ℕ). namespace.number) (world_of value).namespaces)
    (used_mount number (world_of value).mounts (flat_map used_by_filesystem (world_of value).filesystems) there))

-- A location that is there: the filesystem that it is in, as it is kept
pub record IsLocated (value : WorldValue) (at : Location) : Type 0 where
  pub entry : FilesystemEntry
  pub among : Among entry value.filesystems
  pub found : entry_of value.filesystems entry.count ≡ Some entry
  pub count_is : entry.count ≡ at.node.filesystem.count
  pub born_here : at.node.birth ≡ Here
  pub shows : (mount_at nat_eq (world_of value) (location_of at)).filesystem ≡ counted entry.count
  pub named : location_named (is_counted_before value.next) (location_of at) ≡ true

-- an inode that is there, where that is no overlay, is one of those that are kept
pub there_where_plain : {value : WorldValue} → IsHeld value → (number inode : ℕ)
    → is_overlay (filesystem_numbered nat_eq (world_of value) number) ≡ false
    → is_some ((filesystem_numbered nat_eq (world_of value) number).files.tree.node inode) ≡ true
    → is_some ((filesystem_found value.filesystems number).files.tree.node inode) ≡ true
there_where_plain {value} held number inode plain there =
    ap (λ (filesystem : Filesystem ℕ). is_some (filesystem.files.tree.node inode))
    (sym (found_where_plain value held number plain)) ∙ there

-- it is in no overlay
abbrev pub IsPlainAt : WorldValue → Location → Type 0
IsPlainAt value at = is_overlay (filesystem_at nat_eq (world_of value) (location_of at)) ≡ false

-- a location of the world that is in no overlay stands in a filesystem of code
pub located : (value : WorldValue) → IsHeld value → (at : Location) → at.node.slot < 18446744073709551616
    → IsPlainAt value at → is_located_well nat_eq (world_of value) (location_of at) ≡ true → IsLocated value at
located value held at small plain there =
    let parts = and_parts (is_among nat_eq (counted at.mount.count)
    (map (λ (mount : Mount ℕ). mount.number) (world_of value).mounts)) _ there in
    let seen = seen_in value.filesystems held.own_inodes (mount_at nat_eq (world_of value) (location_of at)).filesystem
    (number_of at.node) (there_where_plain held (mount_at nat_eq (world_of value) (location_of at)).filesystem
    (number_of at.node) plain parts.1) in
    record {
      entry = seen.entry;
      among = seen.among;
      found = seen.found;
      count_is = own_count seen.entry.count at.node small seen.own;
      born_here = own_birth seen.entry.count at.node small seen.own;
      shows = seen.number_is;
      named = λ i. mount_named value held (counted at.mount.count) parts.0 i && nodes_named value.next at.node i;
    }

-- the definitions find it there
pub located_filesystem : (value : WorldValue) → IsHeld value → (at : Location) (seen : IsLocated value at)
    → filesystem_at nat_eq (world_of value) (location_of at) ≡ filesystem_seen seen.entry
located_filesystem value held at seen =
    ap (filesystem_numbered nat_eq (world_of value)) seen.shows ∙ found_plain_one value held seen.entry seen.among

-- so it is no overlay
pub located_plain : (value : WorldValue) → IsHeld value → (at : Location) (seen : IsLocated value at)
    → IsPlainAt value at
located_plain value held at seen = ap is_overlay (located_filesystem value held at seen)

-- and so does code
pub located_inodes : (value : WorldValue) (at : Location) (seen : IsLocated value at)
    → inodes_at value.filesystems at.node.filesystem.count ≡ inodes_seen seen.entry
located_inodes value at seen = ap (inodes_at value.filesystems) (sym seen.count_is)
    ∙ ap (λ found. inodes_seen (unwrap_or found (no_entry seen.entry.count))) seen.found

-- which has the same inodes there
pub kept_there : (value : WorldValue) → IsHeld value → (at : Location) (seen : IsLocated value at) (number : ℕ)
    → is_some ((filesystem_at nat_eq (world_of value) (location_of at)).files.tree.node number) ≡ true
    → is_some ((files_at value.filesystems at.node.filesystem.count).tree.node number) ≡ true
kept_there value held at seen number there =
    ap (λ (inodes : Inodes ℕ). is_some (node_in (inodes.inode number))) (located_inodes value at seen)
    ∙ ap (λ (filesystem : Filesystem ℕ). is_some (filesystem.files.tree.node number))
    (sym (located_filesystem value held at seen)) ∙ there

-- another inode of that filesystem
pub also_there : (value : WorldValue) → IsHeld value → (at : Location) (seen : IsLocated value at) (object : NodeRef)
    → object.slot < 18446744073709551616
    → is_some ((filesystem_at nat_eq (world_of value) (location_of at)).files.tree.node (number_of object)) ≡ true
    → object.filesystem ≡ at.node.filesystem
also_there value held at seen object small there =
    let own = seen_in value.filesystems held.own_inodes (mount_at nat_eq (world_of value) (location_of at)).filesystem
    (number_of object)
    (there_where_plain held (mount_at nat_eq (world_of value) (location_of at)).filesystem (number_of object)
    (located_plain value held at seen) there) in
    let same : object.filesystem.count ≡ at.node.filesystem.count = sym (own_count own.entry.count object small own.own)
    ∙ counted_same own.entry.count seen.entry.count (sym own.number_is ∙ seen.shows) ∙ seen.count_is in
    λ i. record { count = same i }

-- its tree is one
pub tree_of_entry : (value : WorldValue) → IsHeld value → (entry : FilesystemEntry) → Among entry value.filesystems
    → IsTree (filesystem_seen entry).files.tree
tree_of_entry value held entry m = among_from_all (λ (filesystem : Filesystem ℕ). IsTree filesystem.files.tree)
    (world_of value).filesystems held.in_world.files.trees
    (filesystem_seen entry) (plain_one_among value held.overlays.merged entry m)
