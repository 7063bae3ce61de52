-- The copies of a fork, row by row: what each row leaves of the inodes.
use Rattle.std.proofs.Common.{◌≡◌, ◌∙◌, ◌<◌, ◌∷◌, [], arith, ap, false, is_some, length, List, map, nat_eq, None, refl, subst, sym, true, ℕ, Bool, if◌then◌else◌}
use Rattle.vt_spec.proofs.Common.{entry_at, map_twice}
use Rattle.vt_births.specs.Births.{BirthsValue}
use Rattle.vt_copyup.specs.declared.forks.Fork.{Fork}
use Rattle.vt_copyup.specs.declared.forks.Forked.{Forked}
use Rattle.vt_copyup.specs.declared.plans.Piece.{Piece}
use Rattle.vt_copyup.specs.declared.plans.PlannedCopy.{PlannedCopy}
use Rattle.vt_copyup.specs.Forks.{AreForked, AreNextReady, IsForkReady, branch_at, pieces_in, start_in}
use Rattle.vt_copyup.specs.Made.{AreMade, Made, last_made, made_copies, made_copy, with_copies}
use Rattle.vt_copyup.specs.Planned.{names_of}
use Rattle.vt_copyup.specs.Plans.{AreNested, FirstFits, IsReady, copies_of}
use Rattle.vt_copyup.proofs.Changed.{inodes_after, still_there}
use Rattle.vt_copyup.proofs.ForksReady.{last_beside}
use Rattle.vt_copyup.proofs.Grown.{not_eq}
use Rattle.vt_copyup.proofs.Stepping.{last_number, last_number_is}
use Rattle.vt_fs.specs.FilesystemsValue.{Filesystems, entry_of, files_at, inodes_at}
use Rattle.vt_laws_worlds.specs.Seen.CopySteps.{Copy}
use Rattle.vt_location.specs.declared.locations.InodeRef.{InodeRef}
use Rattle.vt_location.specs.declared.numbers.FilesystemId.{FilesystemId}
use Rattle.vt_location.specs.Locations.{inode_of}
use Rattle.vt_upper.proofs.CopiesBeside.{IsGrown, Opens}
use Rattle.vt_upper.proofs.CopiesNamed.{AreNestedCopies}
use Rattle.vt_spec.specs.Rights.{is_directory}
use Rattle.vt_spec.specs.Tree.{kind_of}

-- as many are made as there are pieces, under their names
pub none_made : (made : List Made) (pieces : List Piece) → map (λ (one : Made). one.copy) made ≡ copies_of pieces
    → pieces ≡ [] → made ≡ []
none_made [] pieces same none = refl
none_made (one ∷ made) [] same none = absurd cc
none_made (one ∷ made) (piece ∷ pieces) same none = absurd cc

pub made_names : (f : ℕ) (made : List Made) (pieces : List Piece) → map (λ (one : Made). one.copy) made ≡ copies_of pieces
    → map (λ (copy : Copy). copy.name) (made_copies f made) ≡ names_of pieces
made_names f made pieces same = map_twice (λ (copy : Copy). copy.name) (made_copy f) made
    ∙ sym (map_twice (λ (copy : PlannedCopy). copy.name.items) (λ (one : Made). one.copy) made)
    ∙ ap (map (λ (copy : PlannedCopy). copy.name.items)) same
    ∙ map_twice (λ (copy : PlannedCopy). copy.name.items) (λ (piece : Piece). piece.copy) pieces

pub some_made : (f : ℕ) (made : List Made) (pieces : List Piece) → map (λ (one : Made). one.copy) made ≡ copies_of pieces
    → 0 < length pieces → 0 < length (made_copies f made)
some_made f made [] same some = absurd (let no : ⊥ = omega (arith, some) in no)
some_made f [] (piece ∷ pieces) same some = absurd cc
some_made f (one ∷ made) (piece ∷ pieces) same some = omega arith

pub nested_made : (f : ℕ) (made : List Made) (pieces : List Piece) → map (λ (one : Made). one.copy) made ≡ copies_of pieces
    → AreNested pieces → AreNestedCopies (made_copies f made)
nested_made f [] pieces same nested = tt
nested_made f (one ∷ []) pieces same nested = tt
nested_made f (one ∷ next ∷ made) [] same nested = absurd cc
nested_made f (one ∷ next ∷ made) (piece ∷ []) same nested = absurd cc
nested_made f (one ∷ next ∷ made) (piece ∷ other ∷ pieces) same nested =
    let head : one.copy ≡ piece.copy = cc in
    let rest : map (λ (m : Made). m.copy) (next ∷ made) ≡ copies_of (other ∷ pieces) = cc in (
      subst (λ (copy : PlannedCopy). is_directory
          (kind_of copy.node.content) ≡ true) (sym head) nested.0,
      nested_made f (next ∷ made) (other ∷ pieces) rest nested.2,
    )

opened : (directory : InodeRef) (room : ℕ) (trees : Filesystems) (pieces : List Piece)
    → FirstFits pieces room directory trees → (made : List Made)
    → map (λ (one : Made). one.copy) made ≡ copies_of pieces
    → Opens (inodes_at trees directory.filesystem.count) (inode_of directory)
    (made_copies directory.filesystem.count made)
opened directory room trees pieces fits [] same = tt
opened directory room trees [] fits (one ∷ made) same = absurd cc
opened directory room trees (piece ∷ rest) fits (one ∷ made) same =
    let head : one.copy ≡ piece.copy = cc in (
      fits.there,
      subst (λ (copy : PlannedCopy). entry_at (files_at trees directory.filesystem.count).tree (inode_of directory)
          copy.name.items ≡ None) (sym head) fits.free,
    )

-- one row of copies, in the filesystem with this count
pub record IsRow (f : ℕ) (directory : InodeRef) (pieces : List Piece) (trees after : Filesystems) (last : InodeRef)
    : Type 0 where
  pub made : List Made
  pub all : map (λ (one : Made). one.copy) made ≡ copies_of pieces
  pub grown : IsGrown (inodes_at trees f) (inodes_at after f) (inode_of directory) (made_copies f made)
  pub there : is_some (entry_of after f) ≡ true
  pub count : last.filesystem.count ≡ f
  pub is_last : last ≡ last_made directory made
  pub last_is : inode_of last ≡ last_number (inode_of directory) (made_copies f made)

pub row_made : (f : ℕ) (directory : InodeRef) → directory.filesystem.count ≡ f → (pieces : List Piece) (room : ℕ)
    (trees : Filesystems) (births : BirthsValue) (after : Filesystems) (births_after : BirthsValue) (last : InodeRef)
    → is_some (entry_of trees f) ≡ true → FirstFits pieces room directory trees
    → (are : AreMade directory (copies_of pieces) trees births after births_after last)
    → (row : IsRow f directory pieces trees after last) × (row.made ≡ are.made)
row_made f directory count pieces room trees births after births_after last there fits are =
    subst (λ n. is_some (entry_of trees n) ≡ true
    → (row : IsRow n directory pieces trees after last) × (row.made ≡ are.made)) count own there
  where
    own : is_some (entry_of trees directory.filesystem.count) ≡ true
        → (row : IsRow directory.filesystem.count directory pieces trees after last) × (row.made ≡ are.made)
    own there = (
      record {
        made = are.made;
        all = are.all;
        grown = record {
          is = inodes_after directory.filesystem.count (λ inodes. with_copies inodes (inode_of directory)
              (made_copies directory.filesystem.count are.made)) trees after are.inodes there;
          free = are.free;
          opens = opened directory room trees pieces fits are.made are.all;
        };
        there = still_there directory.filesystem.count (λ inodes. with_copies inodes (inode_of directory)
            (made_copies directory.filesystem.count are.made)) trees after are.inodes there;
        count = ap (λ (id : FilesystemId). id.count)
            (last_beside directory (copies_of pieces) trees births after births_after last are);
        is_last = are.is_last;
        last_is = ap inode_of are.is_last ∙ last_number_is are.made directory;
      },
      refl,
    )

-- where nothing is copied nothing changes
module _ (f : ℕ) (directory : InodeRef) (pieces : List Piece) (trees after : Filesystems) (last : InodeRef)
    (row : IsRow f directory pieces trees after last) (none : pieces ≡ []) where
  pub no_rows : made_copies f row.made ≡ []
  no_rows = ap (made_copies f) (none_made row.made pieces row.all none)

  pub same_inodes : inodes_at after f ≡ inodes_at trees f
  same_inodes = row.grown.is ∙ ap (with_copies (inodes_at trees f) (inode_of directory)) no_rows

  pub same_last : last ≡ directory
  same_last = row.is_last ∙ ap (last_made directory) (none_made row.made pieces row.all none)

-- the rows of a fork
module _ (f : ℕ) (fork : Fork) (promised : Filesystems) (births : BirthsValue) (ready : IsForkReady fork promised births)
    (after : Filesystems) (births_after : BirthsValue) (ends : Forked)
    (made : AreForked fork promised births after births_after ends)
    (count : fork.directory.filesystem.count ≡ f) (other_count : fork.other.filesystem.count ≡ f)
    (there : is_some (entry_of promised f) ≡ true) where
  abbrev start : InodeRef
  start = start_in fork made.here

  pub next : AreNextReady fork made.here made.one made.one_births
  next = ready.next made.one made.one_births made.here made.shared made.shared_entries made.shared_there

  pub third : IsReady (branch_at start fork.second) made.two made.two_births fork.second.room
  third = next.second made.two made.two_births ends.object made.first made.first_entries made.first_there

  shared_made : (row : IsRow f fork.directory (pieces_in fork.shared) promised made.one made.here)
      × (row.made ≡ made.shared.made)
  shared_made = row_made f fork.directory count (pieces_in fork.shared) fork.shared.room promised births made.one
      made.one_births made.here there ready.shared.first made.shared

  pub shared_row : IsRow f fork.directory (pieces_in fork.shared) promised made.one made.here
  shared_row = shared_made.0

  first_made : (row : IsRow f made.here (pieces_in fork.first) made.one made.two ends.object)
      × (row.made ≡ made.first.made)
  first_made = row_made f made.here shared_row.count (pieces_in fork.first) fork.first.room made.one made.one_births
      made.two made.two_births ends.object shared_row.there next.first.first made.first

  pub first_row : IsRow f made.here (pieces_in fork.first) made.one made.two ends.object
  first_row = first_made.0

  pub first_row_is : first_row.made ≡ made.first.made
  unfolding first_row first_made
  first_row_is = first_made.1

  pub start_count : start.filesystem.count ≡ f
  start_count = by (nat_eq (length fork.shared.pieces.items) 0)
    where
      by : (b : Bool) → (if b then fork.other else made.here).filesystem.count ≡ f
      by true = other_count
      by false = shared_row.count

  pub second_row : IsRow f start (pieces_in fork.second) made.two after ends.second
  second_row = (row_made f start start_count (pieces_in fork.second) fork.second.room made.two made.two_births after
      births_after ends.second first_row.there third.first made.second).0

  -- where the copies of the second object begin
  pub start_there : length fork.shared.pieces.items ≡ 0 → start ≡ fork.other
  start_there none = ap (λ n. if nat_eq n 0 then fork.other else made.here) none

  pub start_shared : 0 < length fork.shared.pieces.items → start ≡ made.here
  start_shared some = ap (λ b. if b then fork.other else made.here) (not_eq (length fork.shared.pieces.items) 0
      (λ e. let no : ⊥ = omega (arith, some, e) in no))
