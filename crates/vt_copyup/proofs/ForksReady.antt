-- Copies for two objects are ready, those of each once the ones before are made.
use Rattle.std.proofs.Common.{All, append-nil, ◌≡◌, ◌∙◌, ◌+◌, ◌<◌, ◌≤◌, ◌∷◌, ◌++◌, [], arith, ap, Bool, cond, eqb-true, false, length, List, map, nat_eq, None, Option, refl, reverse, Some, subst, sym, true, true≢false, suc, zero, ℕ, if◌then◌else◌}
use Rattle.std.specs.Prelude.{⊤}
use Rattle.vt_spec.proofs.Common.{All-cons, All-head, All-nil, All-tail, Inodes, Make, Node, Tree, entries_in, entry_at, entry_named, is_directory_node, length-reverse, map_twice, node_in}
use Rattle.vt_spec.specs.Inodes as counting
use Rattle.vt_spec.specs.Rights.{is_directory}
use Rattle.vt_spec.specs.Tree.{kind_of}
use Rattle.vt_spec.specs.TreeInvariant.{IsDirectory}
use Rattle.vt_location.specs.declared.locations.InodeRef.{InodeRef}
use Rattle.vt_location.specs.declared.locations.NodeRef.{NodeRef}
use Rattle.vt_location.specs.declared.numbers.FilesystemId.{FilesystemId}
use Rattle.vt_location.specs.Locations.{inode_of}
use Rattle.vt_location.specs.Numbers.{inode_number}
use Rattle.vt_location.specs.SameNodes.{same_node}
use Rattle.vt_fs.specs.FilesystemsValue.{Filesystems, files_at, inodes_at, inodes_promised}
use Rattle.vt_births.specs.Births.{BirthsValue, copy_of, is_born_below}
use Rattle.vt_laws_worlds.specs.Merging.UpperChanges.{copy_node}
use Rattle.vt_laws_worlds.specs.Seen.CopySteps.{Copy}
use Rattle.vt_copyup.specs.ForkLaws.{Elsewhere, ForksAreReady, NoneOf}
use Rattle.vt_copyup.specs.Forks.{HeadsDiffer, IsForkOf, IsForkReady, all_in, branch_at, pieces_in, start_in}
use Rattle.vt_copyup.specs.Made.{AreMade, Made, last_made, made_copies, made_copy, slots_with, with_copies}
use Rattle.vt_copyup.specs.Planned.{names_of}
use Rattle.vt_copyup.specs.Plans.{AreApart, AreNested, AreReady, CopiesAreThere, EntriesAreThere, FirstFits, Fits, IsReady, copies_of, in_turn}
use Rattle.vt_copyup.specs.declared.forks.Fork.{Fork}
use Rattle.vt_copyup.specs.declared.plans.Piece.{Piece}
use Rattle.vt_copyup.specs.declared.plans.Plan.{Plan}
use Rattle.vt_copyup.specs.declared.plans.PlannedCopy.{PlannedCopy}
use Rattle.vt_copyup.proofs.Changed.{inodes_after, is_there}
use Rattle.vt_copyup.proofs.Grown.{IsBeside, beside, not_eq, one_made}
use Rattle.vt_copyup.proofs.Parted.{all_back, all_front, apart_back, apart_front, elsewhere_apart, elsewhere_first, elsewhere_last, nested_back, nested_front}
use Rattle.vt_copyup.proofs.Stepping.{directory-copy, entries-copy, last_filesystem}

-- The births of copies
none_made_of : (made : List Made) (slots : NodeRef → Option ℕ) (node : NodeRef)
    → NoneOf (map (λ (one : Made). one.copy) made) node → slots node ≡ None → slots_with slots made node ≡ None
none_made_of [] slots node none is = is
none_made_of (one ∷ made) slots node none is =
    none_made_of made (λ other. if same_node one.copy.born other then Some one.slot else slots other) node none.1
    (ap (λ b. cond b (Some one.slot) (slots node)) none.0 ∙ is)

abbrev HasNoCopy : BirthsValue → Piece → Type 0
HasNoCopy births piece = copy_of births piece.copy.born ≡ None

module _ (directory : InodeRef) (copies : List PlannedCopy) (trees : Filesystems) (births : BirthsValue)
    (after : Filesystems) (births_after : BirthsValue) (last : InodeRef)
    (are : AreMade directory copies trees births after births_after last) where
  -- nodes elsewhere have no copy yet
  pub new_still : (pieces : List Piece) → Elsewhere copies pieces → All (HasNoCopy births) pieces
      → All (HasNoCopy births_after) pieces
  new_still [] elsewhere new = All-nil (HasNoCopy births_after)
  new_still (piece ∷ pieces) elsewhere new = All-cons (HasNoCopy births_after) piece pieces
      (ap (λ (slots : NodeRef → Option ℕ). slots piece.copy.born) are.slots
      ∙ none_made_of are.made (copy_of births) piece.copy.born
      (subst (λ l. NoneOf l piece.copy.born) (sym are.all) elsewhere.0) (All-head (HasNoCopy births) piece pieces new))
      (new_still pieces elsewhere.1 (All-tail (HasNoCopy births) piece pieces new))

  pub last_beside : last.filesystem ≡ directory.filesystem
  last_beside = ap (λ (l : InodeRef). l.filesystem) are.is_last ∙ last_filesystem are.made directory

  -- other copies are ready then, where they were
  pub still_ready : (pieces : List Piece) (start : InodeRef) → start.filesystem ≡ last.filesystem
      → Elsewhere copies pieces → EntriesAreThere (files_at after last.filesystem.count).tree
      → CopiesAreThere after last.filesystem.count births_after
      → length copies + length pieces ≤ inodes_promised trees directory.filesystem.count
      → length copies + length pieces ≤ births.promised
      → AreNested pieces → All (λ (piece : Piece). is_born_below piece.copy.born ≡ true) pieces
      → All (HasNoCopy births) pieces → AreApart pieces → AreReady pieces start after births_after
  still_ready pieces start own elsewhere entries there inodes more nested below new apart =
      let left : inodes_promised after start.filesystem.count + length copies
      ≡ inodes_promised trees directory.filesystem.count =
      ap (λ (id : FilesystemId). inodes_promised after id.count + length copies) (own ∙ last_beside) ∙ are.inodes_left in
      let births_left = are.births_left in
      record {
        entries = subst (λ (id : FilesystemId). EntriesAreThere (files_at after id.count).tree) (sym own) entries;
        there = subst (λ (id : FilesystemId). CopiesAreThere after id.count births_after) (sym own) there;
        many_inodes = omega (arith, left, inodes);
        many_births = omega (arith, births_left, more);
        nested = nested;
        below = below;
        new = new_still pieces elsewhere new;
        apart = apart;
      }

  inodes_are : IsDirectory (files_at trees directory.filesystem.count).tree (inode_of directory)
      → inodes_at after directory.filesystem.count
      ≡ with_copies (inodes_at trees directory.filesystem.count) (inode_of directory)
      (made_copies directory.filesystem.count are.made)
  inodes_are there = inodes_after directory.filesystem.count
      (λ inodes. with_copies inodes (inode_of directory) (made_copies directory.filesystem.count are.made)) trees after
      are.inodes (is_there trees directory.filesystem.count (inode_of directory) there)

  names_made : map (λ (copy : Copy). copy.name) (made_copies directory.filesystem.count are.made)
      ≡ map (λ (copy : PlannedCopy). copy.name.items) copies
  names_made = map_twice (λ (copy : Copy). copy.name) (made_copy directory.filesystem.count) are.made
      ∙ sym (map_twice (λ (copy : PlannedCopy). copy.name.items) (λ (one : Made). one.copy) are.made)
      ∙ ap (map (λ (copy : PlannedCopy). copy.name.items)) are.all

  -- a directory that was there, and a name in it under which nothing is copied
  pub made_beside : IsDirectory (files_at trees directory.filesystem.count).tree (inode_of directory)
      → (other : InodeRef) → other.filesystem ≡ directory.filesystem
      → IsDirectory (files_at trees other.filesystem.count).tree (inode_of other) → (name : List ℕ)
      → (inode_of other ≡ inode_of directory
      → HeadsDiffer (map (λ (copy : PlannedCopy). copy.name.items) copies) (name ∷ []))
      → IsBeside (inodes_at trees other.filesystem.count) (inodes_at after other.filesystem.count) (inode_of other) name
  made_beside there other own is_directory name differ =
      subst (λ (id : FilesystemId). IsBeside (inodes_at trees id.count) (inodes_at after id.count) (inode_of other) name)
      (sym own)
      (subst (λ all. IsBeside (inodes_at trees directory.filesystem.count) all (inode_of other) name)
      (sym (inodes_are there))
      (beside (inodes_at trees directory.filesystem.count) (inode_of directory)
      (made_copies directory.filesystem.count are.made) are.free (inode_of other)
      (subst (λ (id : FilesystemId). IsDirectory (files_at trees id.count).tree (inode_of other)) own is_directory) name
      (λ same. subst (λ names. HeadsDiffer names (name ∷ [])) (sym names_made) (differ same))))

-- The last copy
abbrev LastIsDirectory : List PlannedCopy → Type 0
LastIsDirectory [] = ⊤
LastIsDirectory (copy ∷ []) = is_directory (kind_of copy.node.content) ≡ true
LastIsDirectory (copy ∷ next ∷ copies) = LastIsDirectory (next ∷ copies)

abbrev pub IsEmptyDirectory : Option (Node ℕ) → Type 0
IsEmptyDirectory node = (is_directory_node node ≡ true) × (entries_in node ≡ [])

last_empty : (f : FilesystemId) (one : Made) (made : List Made) (inodes : Inodes ℕ) (slot : ℕ)
    → LastIsDirectory (map (λ (m : Made). m.copy) (one ∷ made))
    → IsEmptyDirectory (node_in ((with_copies inodes (inode_number f.count slot)
    (made_copies f.count (one ∷ made))).inode
    (inode_of (last_made (record { filesystem = f; slot = slot }) (one ∷ made)))))
last_empty f one [] inodes slot kind =
    let d = inode_number f.count slot in
    let at = ap node_in (one_made inodes d one.copy.name.items (inode_number f.count one.slot)
    (copy_node d one.copy.node)) in (
      ap is_directory_node at ∙ directory-copy d one.copy.node kind,
      ap entries_in at ∙ entries-copy d one.copy.node,
    )
last_empty f one (next ∷ made) inodes slot kind =
    let d = inode_number f.count slot in
    last_empty f next made (counting.changed nat_eq inodes (Make d one.copy.name.items (inode_number f.count one.slot)
    (copy_node d one.copy.node))) one.slot kind

nested_last : (xs : List Piece) (y : Piece) (ys : List Piece) → AreNested (xs ++ y ∷ ys) → LastIsDirectory (copies_of xs)
nested_last [] y ys nested = tt
nested_last (x ∷ []) y ys nested = nested.0
nested_last (x ∷ next ∷ xs) y ys nested = nested_last (next ∷ xs) y ys nested.2

-- after some copies, of which the last is a directory, this is empty
pub ends_empty : (directory : InodeRef) (pieces : List Piece) (trees : Filesystems) (births : BirthsValue)
    (after : Filesystems) (births_after : BirthsValue) (last : InodeRef)
    → AreMade directory (copies_of pieces) trees births after births_after last → 0 < length pieces
    → IsDirectory (files_at trees directory.filesystem.count).tree (inode_of directory)
    → LastIsDirectory (copies_of pieces)
    → IsEmptyDirectory ((files_at after last.filesystem.count).tree.node (inode_of last))
ends_empty directory pieces trees births after births_after last are some there kind =
    subst (λ (id : FilesystemId). IsEmptyDirectory ((files_at after id.count).tree.node (inode_of last)))
    (sym (last_beside directory (copies_of pieces) trees births after births_after last are))
    (subst (λ (l : InodeRef). IsEmptyDirectory ((files_at after directory.filesystem.count).tree.node (inode_of l))) (sym are.is_last)
    (subst (λ (all : Inodes ℕ). IsEmptyDirectory (node_in (all.inode (inode_of (last_made directory are.made)))))
    (sym (inodes_are directory (copies_of pieces) trees births after births_after last are there))
    (by are.made pieces are.all some kind)))
  where
    by : (made : List Made) (pieces : List Piece) → map (λ (one : Made). one.copy) made ≡ copies_of pieces
        → 0 < length pieces → LastIsDirectory (copies_of pieces)
        → IsEmptyDirectory (node_in ((with_copies (inodes_at trees directory.filesystem.count) (inode_of directory)
        (made_copies directory.filesystem.count made)).inode (inode_of (last_made directory made))))
    by made [] same some kind = absurd (let no : ⊥ = omega (arith, some) in no)
    by [] (piece ∷ pieces) same some kind = absurd cc
    by (one ∷ made) (piece ∷ pieces) same some kind =
        last_empty directory.filesystem one made (inodes_at trees directory.filesystem.count) directory.slot (subst LastIsDirectory (sym same) kind)

-- A directory is open for the first of some copies: it has no such name, and there is room for one more.
record IsOpen (pieces : List Piece) (room : ℕ) (directory : InodeRef) (trees : Filesystems) : Type 0 where
  there : IsDirectory (files_at trees directory.filesystem.count).tree (inode_of directory)
  free : (piece : Piece) (rest : List Piece) → pieces ≡ piece ∷ rest
      → entry_at (files_at trees directory.filesystem.count).tree (inode_of directory) piece.copy.name.items ≡ None
  has_room : length (entries_in ((files_at trees directory.filesystem.count).tree.node (inode_of directory))) + 1 < room

fits_open : (pieces : List Piece) (room : ℕ) (directory : InodeRef) (trees : Filesystems)
    → (0 < length pieces → IsOpen pieces room directory trees) → FirstFits pieces room directory trees
fits_open [] room directory trees is_open = tt
fits_open (piece ∷ rest) room directory trees is_open =
    let is = is_open (omega arith) in
    let has_room = is.has_room in
    record { there = is.there; free = is.free piece rest refl; has_room = omega (arith, has_room) }

-- what fits, with room for one more
open_there : (pieces more : List Piece) (room new : ℕ) (directory : InodeRef) (trees : Filesystems)
    → FirstFits (pieces ++ more) room directory trees
    → (0 < length pieces
    → length (entries_in ((files_at trees directory.filesystem.count).tree.node (inode_of directory))) + 1 < new)
    → 0 < length pieces → IsOpen pieces new directory trees
open_there [] more room new directory trees fits has_room some = absurd (let no : ⊥ = omega (arith, some) in no)
open_there (piece ∷ pieces) more room new directory trees fits has_room some = record {
  there = fits.there;
  free = λ other rest same.
      let head : piece ≡ other = cc in
      subst (λ (p : Piece). entry_at (files_at trees directory.filesystem.count).tree (inode_of directory)
      p.copy.name.items ≡ None) head fits.free;
  has_room = has_room some;
}

open_empty : (pieces : List Piece) (room : ℕ) (directory : InodeRef) (trees : Filesystems)
    → IsEmptyDirectory ((files_at trees directory.filesystem.count).tree.node (inode_of directory)) → 1 < room
    → IsOpen pieces room directory trees
open_empty pieces room directory trees empty has_room =
    let none = ap length empty.1 in
    record {
      there = empty.0;
      free = λ piece rest same. ap (entry_named piece.copy.name.items) empty.1;
      has_room = omega (arith, none, has_room);
    }

-- in trees of the same inodes it is open, too
open_in : (pieces : List Piece) (room : ℕ) (directory : InodeRef) (trees after : Filesystems)
    → (files_at after directory.filesystem.count).tree ≡ (files_at trees directory.filesystem.count).tree
    → IsOpen pieces room directory trees → IsOpen pieces room directory after
open_in pieces room directory trees after same is = record {
  there = ap (λ (t : Tree ℕ). is_directory_node (t.node (inode_of directory))) same ∙ is.there;
  free = λ piece rest e. ap (λ (t : Tree ℕ). entry_at t (inode_of directory) piece.copy.name.items) same
      ∙ is.free piece rest e;
  has_room = subst (λ (t : Tree ℕ). length (entries_in (t.node (inode_of directory))) + 1 < room) (sym same) is.has_room;
}

heads_differ : (names : List (List ℕ)) (piece : Piece) (pieces rest : List Piece) → pieces ≡ piece ∷ rest
    → HeadsDiffer names (names_of pieces) → HeadsDiffer names (piece.copy.name.items ∷ [])
heads_differ [] piece pieces rest is differ = tt
heads_differ (name ∷ names) piece pieces rest is differ =
    subst (λ l. HeadsDiffer (name ∷ names) (names_of l)) is differ

pub none_in : (pieces : List Piece) → length pieces ≡ 0 → pieces ≡ []
none_in [] none = refl
none_in (piece ∷ pieces) none = absurd (let no : ⊥ = omega (arith, none) in no)

names_copied : (pieces : List Piece)
    → map (λ (copy : PlannedCopy). copy.name.items) (copies_of pieces) ≡ names_of pieces
names_copied pieces = map_twice (λ (copy : PlannedCopy). copy.name.items) (λ (piece : Piece). piece.copy) pieces

length_copied : (pieces : List Piece) → length (copies_of pieces) ≡ length pieces
length_copied [] = refl
length_copied (piece ∷ pieces) = let rest = length_copied pieces in omega (arith, rest)

pub same_inode : (a b : InodeRef) → a.filesystem ≡ b.filesystem → inode_of a ≡ inode_of b → a.slot ≡ b.slot
same_inode a b own same =
    let both : inode_number b.filesystem.count a.slot ≡ inode_number b.filesystem.count b.slot =
    ap (λ (id : FilesystemId). inode_number id.count a.slot) (sym own) ∙ same in omega (arith, both)

-- The fork of two plans that are ready
module _ (first second : Plan) (trees : Filesystems) (births : BirthsValue) (room other_room : ℕ)
    (ready : IsReady first trees births room) (next_ready : IsReady second trees births other_room)
    (one_filesystem : second.directory.filesystem ≡ first.directory.filesystem) (fork : Fork)
    (is : IsForkOf trees first second fork)
    (inodes : all_in fork ≤ inodes_promised trees first.directory.filesystem.count)
    (more : all_in fork ≤ births.promised)
    (elsewhere : Elsewhere (copies_of (in_turn first)) (pieces_in fork.second))
    (some_first : 0 < length fork.shared.pieces.items → 0 < length fork.first.pieces.items) where
  abbrev d : InodeRef
  d = first.directory

  abbrev a : List Piece
  a = pieces_in fork.shared

  abbrev b : List Piece
  b = pieces_in fork.first

  abbrev c : List Piece
  c = pieces_in fork.second

  all_first : AreReady (a ++ b) d trees births
  all_first = subst (λ l. AreReady l d trees births) is.first_is ready.all

  all_second : AreReady (is.twice ++ c) second.directory trees births
  all_second = subst (λ l. AreReady l second.directory trees births) is.second_is next_ready.all

  first_fits : FirstFits (a ++ b) room d trees
  first_fits = subst (λ l. FirstFits l room d trees) is.first_is ready.first

  second_fits : FirstFits (is.twice ++ c) other_room second.directory trees
  second_fits = subst (λ l. FirstFits l other_room second.directory trees) is.second_is next_ready.first

  many_a : length a ≡ length fork.shared.pieces.items
  many_a = length-reverse fork.shared.pieces.items

  many_b : length b ≡ length fork.first.pieces.items
  many_b = length-reverse fork.first.pieces.items

  many_c : length c ≡ length fork.second.pieces.items
  many_c = length-reverse fork.second.pieces.items

  abbrev below : Piece → Type 0
  below piece = is_born_below piece.copy.born ≡ true

  split_copies : (xs ys : List Piece) → copies_of (xs ++ ys) ≡ copies_of xs ++ copies_of ys
  split_copies [] ys = refl
  split_copies (x ∷ xs) ys = ap (λ l. x.copy ∷ l) (split_copies xs ys)

  both_elsewhere : Elsewhere (copies_of a ++ copies_of b) c
  both_elsewhere = subst (λ l. Elsewhere l c) (ap copies_of is.first_is ∙ split_copies a b) elsewhere

  shared_ready : IsReady (branch_at d fork.shared) trees births fork.shared.room
  shared_ready = record {
    first = fits_open a fork.shared.room d trees (open_there a b room fork.shared.room d trees first_fits
        (λ some. is.shared_room (subst (λ n. 0 < n) many_a some)));
    all = record {
      entries = all_first.entries;
      there = all_first.there;
      many_inodes = omega (arith, inodes, many_a);
      many_births = omega (arith, more, many_a);
      nested = nested_front a b all_first.nested;
      below = all_front below a b all_first.below;
      new = all_front (HasNoCopy births) a b all_first.new;
      apart = apart_front a b all_first.apart;
    };
  }

  -- once the shared ones are made
  module _ (one : Filesystems) (one_births : BirthsValue) (here : InodeRef)
      (are : AreMade d (copies_of a) trees births one one_births here)
      (entries : EntriesAreThere (files_at one here.filesystem.count).tree)
      (there : CopiesAreThere one here.filesystem.count one_births) where
    abbrev start : InodeRef
    start = start_in fork here

    own : here.filesystem ≡ d.filesystem
    own = last_beside d (copies_of a) trees births one one_births here are

    count_a : length (copies_of a) ≡ length fork.shared.pieces.items
    count_a = length_copied a ∙ many_a

    first_all : AreReady b here one one_births
    first_all = still_ready d (copies_of a) trees births one one_births here are b here refl
        (elsewhere_apart a b all_first.apart) entries there (omega (arith, count_a, many_b, inodes))
        (omega (arith, count_a, many_b, more)) (nested_back a b all_first.nested)
        (all_back below a b all_first.below) (all_back (HasNoCopy births) a b all_first.new)
        (apart_back a b all_first.apart)

    -- nothing is shared
    module _ (none : length fork.shared.pieces.items ≡ 0) where
      no_a : a ≡ []
      no_a = ap reverse (none_in fork.shared.pieces.items none)

      nothing : AreMade d [] trees births one one_births here
      nothing = subst (λ l. AreMade d (copies_of l) trees births one one_births here) no_a are

      no_made : (made : List Made) → map (λ (m : Made). m.copy) made ≡ [] → made ≡ []
      no_made [] same = refl
      no_made (m ∷ made) same = absurd cc

      is_here : here ≡ d
      is_here = nothing.is_last ∙ ap (last_made d) (no_made nothing.made nothing.all)

      same_tree : (files_at one d.filesystem.count).tree ≡ (files_at trees d.filesystem.count).tree
      same_tree = nothing.tree ∙ ap (λ made. (Rattle.vt_laws_worlds.specs.Seen.CopySteps.made_in_turn
          (files_at trees d.filesystem.count) (inode_of d) (made_copies d.filesystem.count made)).tree)
          (no_made nothing.made nothing.all)

      no_twice : is.twice ≡ []
      no_twice = by is.twice (is.same ∙ ap names_of no_a)
        where
          by : (twice : List Piece) → names_of twice ≡ [] → twice ≡ []
          by [] same = refl
          by (piece ∷ twice) same = absurd cc

      start_is : start ≡ second.directory
      start_is = ap (λ n. if nat_eq n 0 then fork.other else here) none ∙ is.other

      open_first_there : 0 < length b → IsOpen b fork.first.room here one
      open_first_there some = subst (λ l. IsOpen b fork.first.room l one) (sym is_here)
          (open_in b fork.first.room d trees one same_tree (open_there b [] room fork.first.room d trees
          (subst (λ l. FirstFits l room d trees)
          (ap (λ l. l ++ b) no_a ∙ sym (append-nil b)) first_fits)
          (λ some. (is.first_room (subst (λ n. 0 < n) many_b some)).1 none) some))

      open_second_there : 0 < length c → IsOpen c fork.second.room start one
      open_second_there some = subst (λ l. IsOpen c fork.second.room l one) (sym start_is)
          (open_in c fork.second.room second.directory trees one
          (subst (λ (id : FilesystemId). (files_at one id.count).tree ≡ (files_at trees id.count).tree)
          (sym one_filesystem) same_tree)
          (open_there c [] other_room fork.second.room second.directory trees
          (subst (λ l. FirstFits l other_room second.directory trees)
          (ap (λ l. l ++ c) no_twice ∙ sym (append-nil c)) second_fits)
          (λ some. (is.second_room (subst (λ n. 0 < n) many_c some)).1 none) some))

      beside_there : inode_of start ≡ inode_of here → first.directory.slot ≡ second.directory.slot
      beside_there same = same_inode first.directory second.directory (sym one_filesystem)
          (ap inode_of (sym is_here) ∙ sym same ∙ ap inode_of start_is)

      start_own_there : start.filesystem ≡ here.filesystem
      start_own_there = ap (λ (l : InodeRef). l.filesystem) start_is ∙ one_filesystem ∙ sym own

    -- some are
    module _ (some : 0 < length fork.shared.pieces.items) where
      more_b : (y : Piece) × (ys : List Piece) × (b ≡ y ∷ ys)
      more_b = by b (omega (arith, many_b, some_first some))
        where
          by : (l : List Piece) → 0 < length l → (y : Piece) × (ys : List Piece) × (l ≡ y ∷ ys)
          by [] less = absurd (let no : ⊥ = omega (arith, less) in no)
          by (y ∷ ys) less = (y, ys, refl)

      there_d : IsDirectory (files_at trees d.filesystem.count).tree (inode_of d)
      there_d = by a first_fits (omega (arith, many_a, some))
        where
          by : (l : List Piece) → FirstFits (l ++ b) room d trees → 0 < length l
              → IsDirectory (files_at trees d.filesystem.count).tree (inode_of d)
          by [] fits less = absurd (let no : ⊥ = omega (arith, less) in no)
          by (x ∷ xs) fits less = fits.there

      empty : IsEmptyDirectory ((files_at one here.filesystem.count).tree.node (inode_of here))
      empty = ends_empty d a trees births one one_births here are (omega (arith, many_a, some)) there_d
          (nested_last a more_b.0 more_b.1 (subst (λ l. AreNested (a ++ l)) more_b.2 all_first.nested))

      start_here : start ≡ here
      start_here = ap (λ b. if b then fork.other else here) (not_eq (length fork.shared.pieces.items) 0
          (λ e. let no : ⊥ = omega (arith, some, e) in no))

    abbrev none_shared : Bool
    none_shared = nat_eq (length fork.shared.pieces.items) 0

    none_so : none_shared ≡ true → length fork.shared.pieces.items ≡ 0
    none_so e = eqb-true (length fork.shared.pieces.items) 0 e

    some_so : none_shared ≡ false → 0 < length fork.shared.pieces.items
    some_so e = by (length fork.shared.pieces.items) e
      where
        by : (n : ℕ) → nat_eq n 0 ≡ false → 0 < n
        by zero e = absurd (true≢false e)
        by (suc n) e = omega arith

    open_first : 0 < length b → IsOpen b fork.first.room here one
    open_first less = by none_shared refl
      where
        by : (none : Bool) → none_shared ≡ none → IsOpen b fork.first.room here one
        by true e = open_first_there (none_so e) less
        by false e = open_empty b fork.first.room here one (empty (some_so e))
            (is.first_room (subst (λ n. 0 < n) many_b less)).0

    open_second : 0 < length c → IsOpen c fork.second.room start one
    open_second less = by none_shared refl
      where
        by : (none : Bool) → none_shared ≡ none → IsOpen c fork.second.room start one
        by true e = open_second_there (none_so e) less
        by false e = subst (λ l. IsOpen c fork.second.room l one) (sym (start_here (some_so e)))
            (open_empty c fork.second.room here one (empty (some_so e))
            (is.second_room (subst (λ n. 0 < n) many_c less)).0)

    in_one_slot : inode_of start ≡ inode_of here → first.directory.slot ≡ second.directory.slot
    in_one_slot same = by none_shared refl
      where
        by : (none : Bool) → none_shared ≡ none → first.directory.slot ≡ second.directory.slot
        by true e = beside_there (none_so e) same
        by false e = is.beside (some_so e)

    start_own : start.filesystem ≡ here.filesystem
    start_own = by none_shared refl
      where
        by : (none : Bool) → none_shared ≡ none → start.filesystem ≡ here.filesystem
        by true e = start_own_there (none_so e)
        by false e = ap (λ (l : InodeRef). l.filesystem) (start_here (some_so e))

    first_ready : IsReady (branch_at here fork.first) one one_births fork.first.room
    first_ready = record { first = fits_open b fork.first.room here one open_first; all = first_all }

    -- and once those of the first object are
    module _ (two : Filesystems) (two_births : BirthsValue) (object : InodeRef)
        (made : AreMade here (copies_of b) one one_births two two_births object)
        (entries_two : EntriesAreThere (files_at two object.filesystem.count).tree)
        (there_two : CopiesAreThere two object.filesystem.count two_births) where
      left_one : inodes_promised one here.filesystem.count + length fork.shared.pieces.items
          ≡ inodes_promised trees d.filesystem.count
      left_one = ap (λ (id : FilesystemId). inodes_promised one id.count + length fork.shared.pieces.items) own
          ∙ ap (λ n. inodes_promised one d.filesystem.count + n) (sym count_a) ∙ are.inodes_left

      births_one : one_births.promised + length fork.shared.pieces.items ≡ births.promised
      births_one = ap (λ n. one_births.promised + n) (sym count_a) ∙ are.births_left

      count_b : length (copies_of b) ≡ length fork.first.pieces.items
      count_b = length_copied b ∙ many_b

      second_all : AreReady c start two two_births
      second_all = still_ready here (copies_of b) one one_births two two_births object made c start
          (start_own ∙ sym (last_beside here (copies_of b) one one_births two two_births object made))
          (elsewhere_last (copies_of a) (copies_of b) c both_elsewhere) entries_two there_two
          (omega (arith, count_b, many_c, inodes, left_one)) (omega (arith, count_b, many_c, more, births_one))
          (nested_back is.twice c all_second.nested) (all_back below is.twice c all_second.below)
          (new_still d (copies_of a) trees births one one_births here are c
          (elsewhere_first (copies_of a) (copies_of b) c both_elsewhere)
          (all_back (HasNoCopy births) is.twice c all_second.new)) (apart_back is.twice c all_second.apart)

      -- where nothing is copied for the first object
      empty_made : (made : List Made) → map (λ (m : Made). m.copy) made ≡ [] → made ≡ []
      empty_made [] same = refl
      empty_made (m ∷ made) same = absurd cc

      no_copies : b ≡ [] → (files_at two start.filesystem.count).tree ≡ (files_at one start.filesystem.count).tree
      no_copies none =
          let nothing_made : AreMade here [] one one_births two two_births object =
          subst (λ l. AreMade here (copies_of l) one one_births two two_births object) none made in
          subst (λ (id : FilesystemId). (files_at two id.count).tree ≡ (files_at one id.count).tree) (sym start_own)
          (nothing_made.tree ∙ ap (λ all. (Rattle.vt_laws_worlds.specs.Seen.CopySteps.made_in_turn
          (files_at one here.filesystem.count) (inode_of here) (made_copies here.filesystem.count all)).tree)
          (empty_made nothing_made.made nothing_made.all))

      module _ (piece : Piece) (rest : List Piece) (same : c ≡ piece ∷ rest) where
        was : IsOpen c fork.second.room start one
        was = open_second (subst (λ l. 0 < length l) (sym same) (omega arith))

        before : Fits piece.copy fork.second.room start one
        before =
            let has_room = was.has_room in
            record { there = was.there; free = was.free piece rest same; has_room = omega (arith, has_room) }

        same_fits : (files_at two start.filesystem.count).tree ≡ (files_at one start.filesystem.count).tree
            → Fits piece.copy fork.second.room start two
        same_fits still = record {
          there = ap (λ (t : Tree ℕ). is_directory_node (t.node (inode_of start))) still ∙ before.there;
          free = ap (λ (t : Tree ℕ). entry_at t (inode_of start) piece.copy.name.items) still ∙ before.free;
          has_room = subst (λ (t : Tree ℕ). length (entries_in (t.node (inode_of start))) < fork.second.room)
              (sym still) before.has_room;
        }

        grown_fits : 0 < length b → Fits piece.copy fork.second.room start two
        grown_fits some =
            let at = made_beside here (copies_of b) one one_births two two_births object made
            (open_first some).there start start_own was.there piece.copy.name.items
            (λ at. heads_differ (map (λ (copy : PlannedCopy). copy.name.items) (copies_of b)) piece c rest same
            (subst (λ names. HeadsDiffer names (names_of c)) (sym (names_copied b)) (is.differ (in_one_slot at)))) in
            let few = at.few in
            let has_room = was.has_room in
            record {
              there = at.directory;
              free = at.entry ∙ was.free piece rest same;
              has_room = omega (arith, few, has_room);
            }

        all_fits : (l : List Piece) → b ≡ l → Fits piece.copy fork.second.room start two
        all_fits [] e = same_fits (no_copies e)
        all_fits (first_piece ∷ l) e = grown_fits (subst (λ l. 0 < length l) (sym e) (omega arith))

      second_fits_then : FirstFits c fork.second.room start two
      second_fits_then = by c refl
        where
          by : (l : List Piece) → c ≡ l → FirstFits c fork.second.room start two
          by [] e = subst (λ l. FirstFits l fork.second.room start two) (sym e) tt
          by (piece ∷ rest) e = subst (λ l. FirstFits l fork.second.room start two) (sym e)
              (all_fits piece rest e b refl)

      second_ready : IsReady (branch_at start fork.second) two two_births fork.second.room
      second_ready = record { first = second_fits_then; all = second_all }

  pub fork_ready : IsForkReady fork trees births
  fork_ready = subst (λ directory. IsForkReady (record fork { directory = directory }) trees births) (sym is.directory)
      (record {
        shared = shared_ready;
        next = λ one one_births here are entries there. record {
          first = first_ready one one_births here are entries there;
          second = λ two two_births object made entries_two there_two. second_ready one one_births here are entries there
              two two_births object made entries_two there_two;
        };
      })

pub forks_are_ready : ForksAreReady
forks_are_ready first second trees births room other_room ready next_ready one_filesystem fork is inodes more elsewhere
    some_first =
    fork_ready first second trees births room other_room ready next_ready one_filesystem fork is inodes more elsewhere
    some_first
