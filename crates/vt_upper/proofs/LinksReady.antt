-- A further name may be made once the copies of its object and of its directory are.
use Rattle.std.proofs.Common.{◌≡◌, ◌∙◌, ◌+◌, ◌<◌, ◌≤◌, ◌∷◌, ◌++◌, [], append-nil, arith, ap, false, IfSome, is_some, length, List, map, nat_eq, None, option_map, Option, refl, slice_get, Some, subst, sym, true, true≢false, ℕ}
use Rattle.std.proofs.lemmas.List.{length-append}
use Rattle.smallvec.specs.SmallVec.{HasRoomFor}
use Rattle.vt_spec.proofs.Common.{FileTree, Inodes, IsDirectory, Tree, entries_in, entry_at, entry_named, is_directory_node, is_kind_in, length-reverse, node_in, tree_of, uses_in}
use Rattle.vt_spec.specs.declared.attributes.Kind.TheVariants.{White}
use Rattle.vt_births.specs.Births.{BirthsValue}
use Rattle.vt_copyup.specs.declared.forks.Fork.{Fork}
use Rattle.vt_copyup.specs.declared.forks.Forked.{Forked}
use Rattle.vt_copyup.specs.declared.plans.Piece.{Piece}
use Rattle.vt_copyup.specs.declared.plans.Plan.{Plan}
use Rattle.vt_copyup.specs.Forks.{AreForked, HeadsDiffer, IsForkOf, IsForkReady, all_in, branch_at, pieces_in, start_in}
use Rattle.vt_copyup.specs.Made.{made_copies}
use Rattle.vt_copyup.specs.Planned.{names_of}
use Rattle.vt_copyup.specs.Plans.{AreNested, FirstFits, IsReady, in_turn, many}
use Rattle.vt_copyup.proofs.Changed.{is_there, promised_files, promised_more}
use Rattle.vt_copyup.proofs.ForksReady.{forks_are_ready}
use Rattle.vt_copyup.proofs.Grown.{not_eq, IsBeside, beside}
use Rattle.vt_copyup.proofs.Stepping.{last_number}
use Rattle.vt_fs.specs.FilesystemsValue.{Filesystems, entry_of, files_at, inodes_at, inodes_promised, promising, with_changed}
use Rattle.vt_fs.specs.Trees.Names.{IsNamed, ListsNames}
use Rattle.vt_laws_worlds.specs.Seen.CopySteps.{Copy}
use Rattle.vt_location.specs.declared.locations.InodeRef.{InodeRef}
use Rattle.vt_location.specs.declared.locations.NodeRef.{NodeRef}
use Rattle.vt_location.specs.declared.numbers.FilesystemId.{FilesystemId}
use Rattle.vt_location.specs.Locations.{inode_of, number_of}
use Rattle.vt_location.specs.NodeNumbers.{IsSmall}
use Rattle.vt_location.specs.Numbers.{exchanged, inode_number, most_counted}
use Rattle.vt_location.proofs.NumberLemmas.{exchanged_slot}
use Rattle.vt_upper.specs.Copies.{AreCopiesOf, IsLastOf}
use Rattle.vt_upper.specs.declared.leaving.Leaving.{Leaving}
use Rattle.vt_upper.specs.declared.linking.LinkPlan.{LinkPlan}
use Rattle.vt_upper.specs.declared.linking.Links.{Links}
use Rattle.vt_upper.specs.declared.linking.Links.TheVariants.{Copied, There}
use Rattle.vt_upper.specs.declared.making.Spot.{Spot}
use Rattle.vt_upper.specs.Leaving.{NamesAreUsed}
use Rattle.vt_upper.specs.Linking.{AreLinks, IsLinkReady, IsWhiteAt, MayBeLinked, MayLinkIn, links_at, spot_at}
use Rattle.vt_upper.specs.New.{HasName, IsAbove, IsKnown, MayBeFreed, object_in, IsEmptyNode}
use Rattle.vt_upper.proofs.BranchesMade.{IsRow, first_row, first_row_is, made_names, nested_made, next, no_rows, same_inodes, same_last, second_row, shared_row, some_made, start_shared, start_there, third, start_count}
use Rattle.vt_upper.proofs.CopiesBeside.{HasWhite, IsGrown, IsNamedIn, IsWhite, name_beside, name_still, not_last, object_stays, used_still, white_still}
use Rattle.vt_upper.proofs.CopiesNamed.{IsNamedOnce, last_named, parent_filesystem, parent_number, parent_number_is}
use Rattle.vt_upper.proofs.EmptyCopies.{empty_copy}
use Rattle.vt_upper.proofs.FreedTrees.{named_there}
use Rattle.vt_upper.proofs.LastMade.{copy_kind, last_is}
use Rattle.vt_upper.proofs.LinksFound.{IsADirectory, IsAtPath, IsPlain, at_path_of, elsewhere, head_differs, is_alive, is_named, is_plain, last_plain, no_whiteout, object_alone, one_filesystem, one_front, one_way, there_above}
use Rattle.vt_upper.proofs.PiecesSplit.{both_nil, items_nil, last_back, last_front, names_nil, open_there, same_long}
use Rattle.vt_upper.proofs.PlacesFound.{above_there, last_copied, may_put, name_there, promised_inodes, white_there}
use Rattle.vt_upper.proofs.PlansOf.{AreSplit, count_is, is_first, split_layers}
use Rattle.vt_upper_overlay.specs.MergedAbove.{number_at, upper_count}
use Rattle.vt_upper_overlay.specs.UpperValue.{UpperOverlayValue}
use Rattle.vt_upper_overlay.proofs.Shown.{IsLooked}
use Rattle.vt_copyup.proofs.ForksMade.{names_both}

-- no name is in a directory, but for one that is not this
record IsOpen (name : List ℕ) (inodes : Inodes ℕ) (directory : ℕ) : Type 0 where
  there : IsDirectory (tree_of inodes) directory
  free : entry_at (tree_of inodes) directory name ≡ None
  few : length (entries_in ((tree_of inodes).node directory)) ≤ 1

module _ (trees : Filesystems) (overlay : UpperOverlayValue) (looked : IsLooked trees overlay)
    (object directory : NodeRef) (object_small : IsSmall object) (directory_small : IsSmall directory) (plan : LinkPlan)
    (may : MayLinkIn trees overlay object directory plan.name.items) (first second : Plan)
    (object_copies : AreCopiesOf true trees overlay object first)
    (directory_copies : AreCopiesOf true trees overlay directory second)
    (first_count : first.directory.filesystem.count ≡ upper_count overlay)
    (second_count : second.directory.filesystem.count ≡ upper_count overlay)
    (forked : IsForkOf trees first second plan.copies) (first_room second_room : ℕ)
    (first_ready : IsReady first
    (with_changed first.directory.filesystem.count (promising (all_in plan.copies)) trees)
    (record overlay.nodes.births { promised = overlay.nodes.births.promised + all_in plan.copies }) first_room)
    (second_ready : IsReady second
    (with_changed second.directory.filesystem.count (promising (all_in plan.copies)) trees)
    (record overlay.nodes.births { promised = overlay.nodes.births.promised + all_in plan.copies }) second_room) where
  abbrev f : ℕ
  f = first.directory.filesystem.count

  abbrev fork : Fork
  fork = plan.copies

  abbrev name : List ℕ
  name = plan.name.items

  abbrev n : ℕ
  n = all_in fork

  abbrev promised : Filesystems
  promised = with_changed f (promising n) trees

  abbrev births : BirthsValue
  births = record overlay.nodes.births { promised = overlay.nodes.births.promised + n }

  abbrev a : List Piece
  a = pieces_in fork.shared

  abbrev b : List Piece
  b = pieces_in fork.first

  abbrev c : List Piece
  c = pieces_in fork.second

  abbrev split : AreSplit overlay.layers.lowers
  split = split_layers overlay.layers.lowers looked.stands.upper

  top_first : slice_get overlay.layers.lowers 0 ≡ Some split.upper
  top_first = is_first trees overlay looked.stands

  count_f : f ≡ split.upper.directory.filesystem.count
  count_f = first_count ∙ count_is trees overlay looked.stands split.upper top_first

  abbrev tree : Tree ℕ
  tree = (files_at trees f).tree

  same_files : files_at promised f ≡ files_at trees f
  same_files = promised_files f n trees

  same_start : inodes_at promised f ≡ inodes_at trees f
  same_start = promised_inodes f n trees

  its_filesystem : second.directory.filesystem ≡ first.directory.filesystem
  its_filesystem = one_filesystem trees overlay looked object directory object_small directory_small name may first second
      object_copies directory_copies first_count second_count fork forked

  its_count : second.directory.filesystem.count ≡ f
  its_count = ap (λ (id : FilesystemId). id.count) its_filesystem

  upper_there : IsDirectory tree (inode_of split.upper.directory)
  upper_there = subst (λ m. IsDirectory (files_at trees m).tree (inode_of split.upper.directory)) (sym count_f)
      (looked.stands.layers 0 split.upper top_first).directory

  there : is_some (entry_of promised f) ≡ true
  there = is_there promised f (inode_of split.upper.directory)
      (subst (λ (files : FileTree ℕ). IsDirectory files.tree (inode_of split.upper.directory)) (sym same_files) upper_there)

  next_ready : IsReady second promised births second_room
  next_ready = subst (λ m. IsReady second (with_changed m (promising n) trees) births second_room) its_count second_ready

  long_first : length (in_turn first) ≡ many first
  long_first = length-reverse first.pieces.items

  long_second : length (in_turn second) ≡ many second
  long_second = length-reverse second.pieces.items

  first_there : 0 < length (in_turn first) → IsDirectory tree (inode_of first.directory)
  first_there some = by (in_turn first) first_ready.first some
    where
      by : (pieces : List Piece) → FirstFits pieces first_room first.directory promised → 0 < length pieces
          → IsDirectory tree (inode_of first.directory)
      by [] fits some = absurd (let no : ⊥ = omega (arith, some) in no)
      by (piece ∷ rest) fits some =
          subst (λ (files : FileTree ℕ). IsDirectory files.tree (inode_of first.directory)) same_files fits.there

  -- the last copies
  second_last : 0 < length (in_turn second) → IsLastOf IsADirectory (λ node. false ≡ true) (in_turn second) None
  second_last some = last_copied trees overlay looked directory directory_small may.may_make.shown_there
      may.may_make.directory second directory_copies second_count some

  first_last : IsLastOf IsPlain IsPlain (in_turn first) (tree.node (inode_of first.directory))
  first_last = last_plain trees overlay looked object object_small may.object_shown may.plain first object_copies
      first_count

  long_shared : length a ≡ length fork.shared.pieces.items
  long_shared = length-reverse fork.shared.pieces.items

  long_own : length b ≡ length fork.first.pieces.items
  long_own = length-reverse fork.first.pieces.items

  first_both : length (in_turn first) ≡ length a + length b
  first_both = ap length forked.first_is ∙ length-append a b

  second_both : length (in_turn second) ≡ length forked.twice + length c
  second_both = ap length forked.second_is ∙ length-append forked.twice c

  twice_shared : length forked.twice ≡ length a
  twice_shared = same_long forked.twice a forked.same

  -- the object has copies of its own
  some_own : 0 < length fork.shared.pieces.items → 0 < length fork.first.pieces.items
  some_own shared = by b refl
    where
      by : (pieces : List Piece) → b ≡ pieces → 0 < length fork.first.pieces.items
      by (piece ∷ rest) e = let long = ap length e in omega (arith, long, long_own)
      by [] e =
          let some : 0 < length (in_turn first) = omega (arith, first_both, long_shared, shared) in
          let other_some : 0 < length (in_turn second) =
          omega (arith, second_both, twice_shared, long_shared, shared) in
          absurd (object_alone trees overlay looked object directory object_small directory_small name may first second
          object_copies directory_copies first_count second_count fork forked first_there shared
          (at_path_of trees overlay looked object first object_copies some)
          (at_path_of trees overlay looked directory second directory_copies other_some) some e)

  some_copies : 0 < length (in_turn first) → 0 < length b
  some_copies some = by fork.shared.pieces.items refl
    where
      by : (items : List Piece) → fork.shared.pieces.items ≡ items → 0 < length b
      by [] e = let none = ap length e in omega (arith, first_both, long_shared, none, some)
      by (piece ∷ rest) e =
          let long = ap length e in
          let own = some_own (omega (arith, long)) in omega (arith, long_own, own)

  fork_promised : IsForkOf promised first second fork
  fork_promised =
      let room_still : (d : InodeRef) → d.filesystem.count ≡ f → (room : ℕ)
      → length (entries_in ((files_at trees d.filesystem.count).tree.node (inode_of d))) + 1 < room
      → length (entries_in ((files_at promised d.filesystem.count).tree.node (inode_of d))) + 1 < room =
      λ d count room few. subst (λ (files : FileTree ℕ). length (entries_in (files.tree.node (inode_of d))) + 1 < room)
      (sym (subst (λ m. files_at promised m ≡ files_at trees m) (sym count) same_files)) few in
      record {
        directory = forked.directory;
        other = forked.other;
        twice = forked.twice;
        first_is = forked.first_is;
        second_is = forked.second_is;
        same = forked.same;
        beside = forked.beside;
        differ = forked.differ;
        shared_room = λ some. room_still first.directory refl fork.shared.room (forked.shared_room some);
        first_room = λ some. (
          (forked.first_room some).0,
          λ none. room_still first.directory refl fork.first.room ((forked.first_room some).1 none),
        );
        second_room = λ some. (
          (forked.second_room some).0,
          λ none. room_still second.directory its_count fork.second.room ((forked.second_room some).1 none),
        );
      }

  enough : n ≤ inodes_promised promised f
  enough =
      let more = promised_more f n trees (is_there trees f (inode_of split.upper.directory) upper_there) in
      omega (arith, more)

  pub fork_is_ready : IsForkReady fork promised births
  fork_is_ready = forks_are_ready first second promised births first_room second_room first_ready next_ready
      its_filesystem fork fork_promised enough (omega arith)
      (elsewhere trees overlay looked object directory object_small directory_small name may first second
      object_copies directory_copies first_count second_count fork forked next_ready.all.nested second_last) some_own

  -- once they are made
  module _ (links : AreLinks trees first plan.links)
      (leads : many second ≡ 0 → option_map object_in plan.leaving
      ≡ entry_at (files_at trees second.directory.filesystem.count).tree (inode_of second.directory) name)
      (known : IfSome plan.leaving (IsKnown trees second.directory))
      (nothing : 0 < many second → plan.leaving ≡ None) (room : ℕ) (two : 2 ≤ room)
      (room_there : many second ≡ 0 → length (entries_in ((files_at trees second.directory.filesystem.count).tree.node
      (inode_of second.directory))) + 2 ≤ room)
      (after : Filesystems) (births_after : BirthsValue) (ends : Forked)
      (small : ends.parent.slot < 18446744073709551616)
      (made : AreForked fork promised births after births_after ends) where
    count : fork.directory.filesystem.count ≡ f
    count = ap (λ (d : InodeRef). d.filesystem.count) forked.directory

    other_count : fork.other.filesystem.count ≡ f
    other_count = ap (λ (d : InodeRef). d.filesystem.count) forked.other ∙ its_count

    abbrev here : InodeRef
    here = made.here

    abbrev start : InodeRef
    start = start_in fork here

    abbrev one : IsRow f fork.directory a promised made.one here
    one = shared_row f fork promised births fork_is_ready after births_after ends made count other_count there

    abbrev own : IsRow f here b made.one made.two ends.object
    own = first_row f fork promised births fork_is_ready after births_after ends made count other_count there

    abbrev last : IsRow f start c made.two after ends.second
    last = second_row f fork promised births fork_is_ready after births_after ends made count other_count there

    abbrev i0 : Inodes ℕ
    i0 = inodes_at promised f

    abbrev i1 : Inodes ℕ
    i1 = inodes_at made.one f

    abbrev i2 : Inodes ℕ
    i2 = inodes_at made.two f

    abbrev i3 : Inodes ℕ
    i3 = inodes_at after f

    used_first : NamesAreUsed i1
    used_first = used_still i0 i1 (inode_of fork.directory) (made_copies f one.made) one.grown
        (subst NamesAreUsed (sym same_start) (subst (λ m. NamesAreUsed (inodes_at trees m)) (sym first_count)
        may.may_make.used))

    used_last : NamesAreUsed i3
    used_last = used_still i2 i3 (inode_of start) (made_copies f last.made) last.grown
        (used_still i1 i2 (inode_of here) (made_copies f own.made) own.grown used_first)

    abbrev o : ℕ
    o = inode_of ends.object

    abbrev listed : List ℕ
    listed = map (exchanged f) (links_at plan.links ends.parent).items

    -- The object, where it is in the upper layer
    module _ (none : in_turn first ≡ []) where
      no_shared : a ≡ []
      no_shared = (both_nil a b (sym forked.first_is ∙ none)).0

      no_own : b ≡ []
      no_own = (both_nil a b (sym forked.first_is ∙ none)).1

      pub object_is : ends.object ≡ first.directory
      object_is = same_last f here b made.one made.two ends.object own no_own
          ∙ same_last f fork.directory a promised made.one here one no_shared ∙ forked.directory

      inodes_are : i2 ≡ inodes_at trees f
      inodes_are = same_inodes f here b made.one made.two ends.object own no_own
          ∙ same_inodes f fork.directory a promised made.one here one no_shared ∙ same_start

      named_above : IsNamedIn i2 o listed
      named_above = subst (λ all. IsNamedIn all o listed) (sym inodes_are)
          (subst (λ (d : InodeRef). IsNamedIn (inodes_at trees f) (inode_of d) listed) (sym object_is)
          (by plan.links links))
        where
          by : (l : Links) → AreLinks trees first l
              → IsNamedIn (inodes_at trees f) (inode_of first.directory) (map (exchanged f) (links_at l ends.parent).items)
          by (There list) is = record {
            there = is_alive trees overlay looked object object_small may.object_shown may.plain first object_copies
                first_count none;
            plain = is_plain trees overlay looked object object_small may.object_shown may.plain first object_copies
                first_count none;
            named = is_named trees overlay looked object object_small may.object_shown may.plain first object_copies
                first_count none;
            few = is.3;
            lists = is.1;
          }
          by (Copied list) is =
              let zero = ap length none in
              let some = is.0 in absurd (let no : ⊥ = omega (arith, zero, some, long_first) in no)

    -- where it is copied
    module _ (some : 0 < length (in_turn first)) where
      abbrev rows : List Copy
      rows = made_copies f own.made

      abbrev p : ℕ
      p = parent_number (inode_of here) rows

      some_rows : 0 < length rows
      some_rows = some_made f own.made b own.all (some_copies some)

      pub here_there : IsDirectory (tree_of i1) (inode_of here)
      here_there = open_there i1 (inode_of here) rows some_rows own.grown.opens

      once : IsNamedOnce i2 p o
      once = subst (IsNamedOnce i2 p) (sym own.last_is)
          (subst (λ all. IsNamedOnce all p (last_number (inode_of here) rows)) (sym own.grown.is)
          (last_named rows i1 (inode_of here) some_rows own.grown.free here_there (named_there i1 used_first)
          (nested_made f own.made b own.all
          (next f fork promised births fork_is_ready after births_after ends made count other_count there).first.all.nested)))

      parent_count : ends.parent.filesystem.count ≡ f
      parent_count = ap (λ (d : InodeRef). d.filesystem.count) made.parent
          ∙ ap (λ (id : FilesystemId). id.count) (parent_filesystem made.first.made here) ∙ one.count

      parent_is : inode_of ends.parent ≡ p
      parent_is = ap inode_of made.parent ∙ parent_number_is made.first.made here
          ∙ (λ i. parent_number (inode_of here) (made_copies (one.count i) (sym (first_row_is f fork promised births
          fork_is_ready after births_after ends made count other_count there) i)))

      slot_is : exchanged f ends.parent.slot ≡ p
      slot_is = exchanged_slot f ends.parent.slot small
          ∙ ap (λ m. inode_number m ends.parent.slot) (sym parent_count) ∙ parent_is

      copy_plain : IsPlain (node_in (i2.inode o))
      copy_plain = subst (λ m. IsPlain ((files_at made.two m).tree.node o)) one.count
          (last_is IsPlain IsPlain (λ parent node is. copy_kind parent node ∙ is) (branch_at here fork.first) made.one
          made.one_births fork.first.room
          (next f fork promised births fork_is_ready after births_after ends made count other_count there).first
          made.two made.two_births ends.object made.first _ refl
          (last_back IsPlain IsPlain a b (tree.node (inode_of first.directory)) _ (some_copies some)
          (subst (λ pieces. IsLastOf IsPlain IsPlain pieces (tree.node (inode_of first.directory))) forked.first_is
          first_last)))

      named_copied : IsNamedIn i2 o listed
      named_copied = record {
        there = once.there;
        plain = copy_plain;
        named = once.named;
        few = subst (λ m. m < most_counted) (sym once.once) (omega arith);
        lists = subst (ListsNames (tree_of i2) o) (sym (by plan.links links)) once.lists;
      }
        where
          by : (l : Links) → AreLinks trees first l → map (exchanged f) (links_at l ends.parent).items ≡ p ∷ []
          by (There list) is =
              let zero = is.0 in absurd (let no : ⊥ = omega (arith, zero, some, long_first) in no)
          by (Copied list) is = ap (λ items. map (exchanged f) (items ++ ends.parent.slot ∷ [])) is.1
              ∙ ap (λ m. m ∷ []) slot_is

    named_two : IsNamedIn i2 o listed
    named_two = by (in_turn first) refl
      where
        by : (pieces : List Piece) → in_turn first ≡ pieces → IsNamedIn i2 o listed
        by [] e = named_above e
        by (piece ∷ rest) e = named_copied (subst (λ (l : List Piece). 0 < length l) (sym e) (omega arith))

    object_named : IsNamedIn i3 o listed
    object_named = object_stays i2 i3 (inode_of start) (made_copies f last.made) last.grown o listed named_two

    -- the names of the object's own copies, beside the new name
    own_names : map (λ (copy : Copy). copy.name) (made_copies f own.made) ≡ names_of b
    own_names = made_names f own.made b own.all

    own_differ : (path : List (List ℕ)) → number_at trees overlay path ≡ Some (number_of directory)
        → ((object_at : IsAtPath trees overlay looked object first) → 0 < length (in_turn first)
        → object_at.is.front ++ names_of a ≡ path)
        → HeadsDiffer (map (λ (copy : Copy). copy.name) (made_copies f own.made)) (name ∷ [])
    own_differ path numbered same = subst (λ names. HeadsDiffer names (name ∷ [])) (sym own_names)
        (by (in_turn first) refl)
      where
        by : (pieces : List Piece) → in_turn first ≡ pieces → HeadsDiffer (names_of b) (name ∷ [])
        by [] e = subst (λ l. HeadsDiffer (names_of l) (name ∷ [])) (sym (no_own e)) tt
        by (piece ∷ rest) e =
            let some : 0 < length (in_turn first) = subst (λ (l : List Piece). 0 < length l) (sym e) (omega arith) in
            let object_at = at_path_of trees overlay looked object first object_copies some in
            head_differs trees overlay looked object directory object_small directory_small name may first second
            object_copies directory_copies first_count second_count fork forked object_at path numbered
            (same object_at some)

    -- The spot of the new name
    record IsSpotReady : Type 0 where
      has : HasName after (spot_at plan ends) name
      white : HasWhite after (spot_at plan ends)
      apart : IfSome plan.leaving (λ leaving. nat_eq (inode_of leaving.object) o ≡ false)
      has_room : length (entries_in ((tree_of i3).node (inode_of ends.second))) < room

    -- where the directory is in the upper layer
    module _ (none : in_turn second ≡ []) where
      zero : many second ≡ 0
      zero = let long = ap length none in omega (arith, long, long_second)

      no_twice : forked.twice ≡ []
      no_twice = (both_nil forked.twice c (sym forked.second_is ∙ none)).0

      no_last : c ≡ []
      no_last = (both_nil forked.twice c (sym forked.second_is ∙ none)).1

      none_shared : a ≡ []
      none_shared = names_nil a (sym forked.same ∙ ap names_of no_twice)

      abbrev spot : Spot
      spot = record { directory = second.directory; leaving = plan.leaving; keeps = false }

      above : IsAbove trees overlay directory second.directory
      above = above_there trees overlay looked directory directory_small may.may_make.shown_there second none
          directory_copies

      second_is : ends.second ≡ second.directory
      second_is = same_last f start c made.two after ends.second last no_last
          ∙ start_there f fork promised births fork_is_ready after births_after ends made count other_count there
          (items_nil fork.shared.pieces.items none_shared) ∙ forked.other

      here_is : here ≡ first.directory
      here_is = same_last f fork.directory a promised made.one here one none_shared ∙ forked.directory

      has_start : HasName promised spot name
      has_start = subst (λ m. HasName (with_changed m (promising n) trees) spot name) its_count
          (name_there trees overlay looked directory directory_small may.may_make.shown_there may.may_make.directory
          second directory_copies second_count none name
          (may_put trees overlay looked.stands directory name may.may_make) plan.leaving (leads zero) known n)

      white_start : HasWhite promised spot
      white_start = by plan.leaving refl
        where
          by : (l : Option Leaving) → plan.leaving ≡ l
              → IfSome l (λ leaving. IsWhite ((files_at promised second.directory.filesystem.count).tree.node
              (inode_of leaving.object)))
          by None e = tt
          by (Some leaving) e =
              subst (λ (files : FileTree ℕ). IsWhite (files.tree.node (inode_of leaving.object)))
              (sym (subst (λ m. files_at promised m ≡ files_at trees m) (sym its_count) same_files))
              (white_there trees overlay looked.stands directory name may.may_make second.directory
              (inode_of leaving.object) above second_count (sym (leads zero) ∙ ap (option_map object_in) e))

      grown_at : (pieces : List Piece) (d to : InodeRef) (was now : Filesystems) → (row : IsRow f d pieces was now to)
          → IsGrown (inodes_at was second.directory.filesystem.count) (inodes_at now second.directory.filesystem.count)
          (inode_of d) (made_copies f row.made)
      grown_at pieces d to was now row = subst (λ m. IsGrown (inodes_at was m) (inodes_at now m) (inode_of d)
          (made_copies f row.made)) (sym its_count) row.grown

      none_differ : (copies : List Copy) → copies ≡ [] → HeadsDiffer (map (λ (copy : Copy). copy.name) copies) (name ∷ [])
      none_differ copies e = subst (λ l. HeadsDiffer (map (λ (copy : Copy). copy.name) l) (name ∷ [])) (sym e) tt

      differ_start : inode_of second.directory ≡ inode_of fork.directory
          → HeadsDiffer (map (λ (copy : Copy). copy.name) (made_copies f one.made)) (name ∷ [])
      differ_start same = none_differ (made_copies f one.made)
          (no_rows f fork.directory a promised made.one here one none_shared)

      has_one : HasName made.one spot name
      has_one = name_still promised made.one spot name (inode_of fork.directory) (made_copies f one.made)
          (grown_at a fork.directory here promised made.one one) has_start white_start differ_start

      white_one : HasWhite made.one spot
      white_one = white_still promised made.one spot name (inode_of fork.directory) (made_copies f one.made)
          (grown_at a fork.directory here promised made.one one) has_start white_start differ_start

      differ_own : inode_of second.directory ≡ inode_of here
          → HeadsDiffer (map (λ (copy : Copy). copy.name) (made_copies f own.made)) (name ∷ [])
      differ_own same = own_differ above.path above.numbered (λ object_at some.
          ap (λ l. object_at.is.front ++ names_of l) none_shared ∙ append-nil object_at.is.front
          ∙ one_way trees overlay looked object directory object_small directory_small name may first second
          object_copies directory_copies first_count second_count fork forked object_at.is.front above.path
          (inode_of first.directory) object_at.is.leads
          (above.leads split.upper top_first ∙ ap Some (same ∙ ap inode_of here_is))
          (there_above trees overlay looked object directory object_small directory_small name may first second
          object_copies directory_copies first_count second_count fork forked first_there some))

      has_two : HasName made.two spot name
      has_two = name_still made.one made.two spot name (inode_of here) (made_copies f own.made)
          (grown_at b here ends.object made.one made.two own) has_one white_one differ_own

      white_two : HasWhite made.two spot
      white_two = white_still made.one made.two spot name (inode_of here) (made_copies f own.made)
          (grown_at b here ends.object made.one made.two own) has_one white_one differ_own

      differ_last : inode_of second.directory ≡ inode_of start
          → HeadsDiffer (map (λ (copy : Copy). copy.name) (made_copies f last.made)) (name ∷ [])
      differ_last same = none_differ (made_copies f last.made)
          (no_rows f start c made.two after ends.second last no_last)

      has_last : HasName after spot name
      has_last = name_still made.two after spot name (inode_of start) (made_copies f last.made)
          (grown_at c start ends.second made.two after last) has_two white_two differ_last

      white_last : HasWhite after spot
      white_last = white_still made.two after spot name (inode_of start) (made_copies f last.made)
          (grown_at c start ends.second made.two after last) has_two white_two differ_last

      same_spot : spot ≡ spot_at plan ends
      same_spot = λ i. record { directory = sym second_is i; leaving = plan.leaving; keeps = false }

      few_names : length (entries_in ((tree_of i3).node (inode_of second.directory)))
          ≤ length (entries_in (tree.node (inode_of second.directory))) + 1
      few_names =
          let beside = (name_beside made.one made.two spot name (inode_of here) (made_copies f own.made)
          (grown_at b here ends.object made.one made.two own) has_one white_one differ_own).few in
          subst (λ (all : Inodes ℕ). length (entries_in ((tree_of all).node (inode_of second.directory)))
          ≤ length (entries_in (tree.node (inode_of second.directory))) + 1)
          (sym (same_inodes f start c made.two after ends.second last no_last))
          (subst (λ (all : Inodes ℕ). length (entries_in ((tree_of i2).node (inode_of second.directory)))
          ≤ length (entries_in ((tree_of all).node (inode_of second.directory))) + 1)
          (same_inodes f fork.directory a promised made.one here one none_shared ∙ same_start)
          (subst (λ m. length (entries_in ((tree_of (inodes_at made.two m)).node (inode_of second.directory)))
          ≤ length (entries_in ((tree_of (inodes_at made.one m)).node (inode_of second.directory))) + 1) its_count beside))

      -- the whiteout is not the object
      apart_so : (leaving : Leaving) → plan.leaving ≡ Some leaving → nat_eq (inode_of leaving.object) o ≡ false
      apart_so leaving e = by (in_turn first) refl
        where
          by : (pieces : List Piece) → in_turn first ≡ pieces → nat_eq (inode_of leaving.object) o ≡ false
          by [] g = not_eq (inode_of leaving.object) o (λ same.
              let is : IsWhite ((files_at promised second.directory.filesystem.count).tree.node (inode_of leaving.object)) =
              subst (λ l. IfSome l (λ (gone : Leaving). IsWhite
              ((files_at promised second.directory.filesystem.count).tree.node (inode_of gone.object)))) e white_start in
              let at = above_there trees overlay looked object object_small may.object_shown first g object_copies in
              let shown = no_whiteout trees overlay looked object object_small at.path at.numbered
              (inode_of first.directory) (at.leads split.upper top_first) in
              true≢false (sym is.kind
              ∙ ap (λ m. is_kind_in White ((files_at promised m).tree.node (inode_of leaving.object))) its_count
              ∙ ap (λ (files : FileTree ℕ). is_kind_in White (files.tree.node (inode_of leaving.object))) same_files
              ∙ ap (λ m. is_kind_in White (tree.node m)) (same ∙ ap inode_of (object_is g))
              ∙ ap (λ m. is_kind_in White ((files_at trees m).tree.node (inode_of first.directory))) count_f ∙ shown))
          by (piece ∷ rest) g = not_eq (inode_of leaving.object) o (λ same.
              let some : 0 < length (in_turn first) = subst (λ (l : List Piece). 0 < length l) (sym g) (omega arith) in
              let is : IsWhite (node_in (i1.inode (inode_of leaving.object))) =
              subst (λ m. IsWhite ((files_at made.one m).tree.node (inode_of leaving.object))) its_count
              (subst (λ l. IfSome l (λ (gone : Leaving). IsWhite
              ((files_at made.one second.directory.filesystem.count).tree.node (inode_of gone.object)))) e white_one) in
              not_last (made_copies f own.made) i1 (inode_of here) (inode_of leaving.object) own.grown.free is.there
              (λ here_so. true≢false (sym (here_there some)
              ∙ ap (λ m. is_directory_node (node_in (i1.inode m))) (sym here_so) ∙ is.other))
              (same ∙ own.last_is))

      spot_there : IsSpotReady
      spot_there = record {
        has = subst (λ s. HasName after s name) same_spot has_last;
        white = subst (HasWhite after) same_spot white_last;
        apart = each plan.leaving refl;
        has_room =
            let few = few_names in
            let enough_room = room_there zero in
            let start_names = ap (λ m. length (entries_in ((files_at trees m).tree.node (inode_of second.directory))))
            its_count in
            subst (λ (d : InodeRef). length (entries_in ((tree_of i3).node (inode_of d))) < room) (sym second_is)
            (omega (arith, few, enough_room, start_names));
      }
        where
          each : (l : Option Leaving) → plan.leaving ≡ l
              → IfSome l (λ leaving. nat_eq (inode_of leaving.object) o ≡ false)
          each None e = tt
          each (Some leaving) e = apart_so leaving e

    -- where it is copied
    module _ (some : 0 < length (in_turn second)) where
      gone : plan.leaving ≡ None
      gone = nothing (omega (arith, some, long_second))

      open_copied : 0 < length c → IsOpen name i3 (inode_of ends.second)
      open_copied more =
          let empty = subst (λ m. IsEmptyNode
          ((files_at after m).tree.node (inode_of ends.second)))
          (start_count f fork promised births fork_is_ready after births_after ends
          made count other_count there)
          (empty_copy (branch_at start fork.second) made.two made.two_births fork.second.room
          (third f fork promised births fork_is_ready after births_after ends made count other_count there) after
          births_after ends.second made.second
          (last_back IsADirectory (λ node. false ≡ true) forked.twice c None None more
          (subst (λ pieces. IsLastOf IsADirectory (λ node. false ≡ true) pieces None) forked.second_is
          (second_last some)))) in
          let none = ap length empty.1 in
          record { there = empty.0; free = ap (entry_named name) empty.1; few = omega (arith, none) }

      -- where all its copies are shared
      module _ (no_copies : c ≡ []) where
        shared : 0 < length fork.shared.pieces.items
        shared =
            let zero = ap length no_copies in omega (arith, second_both, twice_shared, long_shared, zero, some)

        some_object : 0 < length (in_turn first)
        some_object = omega (arith, first_both, long_shared, shared)

        own_some : 0 < length b
        own_some = some_copies some_object

        empty_one : IsEmptyNode (node_in (i1.inode (inode_of here)))
        empty_one = subst (λ m. IsEmptyNode
            ((files_at made.one m).tree.node (inode_of here))) count
            (empty_copy (branch_at fork.directory fork.shared) promised births fork.shared.room fork_is_ready.shared
            made.one made.one_births here made.shared
            (last_front a b (omega (arith, long_shared, shared)) own_some
            (subst AreNested forked.first_is first_ready.all.nested)))

        second_at : IsAtPath trees overlay looked directory second
        second_at = at_path_of trees overlay looked directory second directory_copies some

        directory_path : (object_at : IsAtPath trees overlay looked object first) → 0 < length (in_turn first)
            → object_at.is.front ++ names_of a ≡ second_at.path
        directory_path object_at some_first = (λ i. one_front trees overlay looked object directory object_small
            directory_small name may first second object_copies directory_copies first_count second_count fork forked
            first_there object_at second_at some_first shared i ++ sym forked.same i)
            ∙ ap (λ l. second_at.is.front ++ l) (sym (append-nil (names_of forked.twice))
            ∙ ap (λ l. names_of forked.twice ++ names_of l) (sym no_copies)
            ∙ sym (ap names_of forked.second_is
            ∙ names_both forked.twice c)) ∙ second_at.is.whole

        beside_own : IsBeside i1 i2 (inode_of here) name
        beside_own = subst (λ all. IsBeside i1 all (inode_of here) name)
            (sym own.grown.is)
            (beside i1 (inode_of here) (made_copies f own.made) own.grown.free
            (inode_of here) empty_one.0 name
            (λ same. own_differ second_at.path second_at.numbered directory_path))

        end_is : ends.second ≡ here
        end_is = same_last f start c made.two after ends.second last no_copies
            ∙ start_shared f fork promised births fork_is_ready after births_after ends made count other_count there
            shared

        end_inodes : i3 ≡ i2
        end_inodes = same_inodes f start c made.two after ends.second last no_copies

        open_two : IsOpen name i2 (inode_of here)
        open_two =
            let few = beside_own.few in
            let none = ap length empty_one.1 in
            record {
              there = beside_own.directory;
              free = beside_own.entry ∙ ap (entry_named name) empty_one.1;
              few = omega (arith, few, none);
            }

        open_shared : IsOpen name i3 (inode_of ends.second)
        open_shared = subst (λ (d : InodeRef). IsOpen name i3 (inode_of d)) (sym end_is)
            (subst (λ all. IsOpen name all (inode_of here)) (sym end_inodes) open_two)

      is_open : IsOpen name i3 (inode_of ends.second)
      is_open = by c refl
        where
          by : (pieces : List Piece) → c ≡ pieces → IsOpen name i3 (inode_of ends.second)
          by [] e = open_shared e
          by (piece ∷ rest) e = open_copied (subst (λ (l : List Piece). 0 < length l) (sym e) (omega arith))

      spot_copied : IsSpotReady
      spot_copied =
          let few = is_open.few in
          record {
            has = record {
              directory_there = subst (λ m. IsDirectory (files_at after m).tree (inode_of ends.second)) (sym last.count)
                  is_open.there;
              leads = ap (λ m. entry_at (files_at after m).tree (inode_of ends.second) name) last.count
                  ∙ is_open.free ∙ ap (option_map object_in) (sym gone);
              leaves = subst (λ l. IfSome l (MayBeFreed after ends.second)) (sym gone) tt;
              used = subst (λ m. NamesAreUsed (inodes_at after m)) (sym last.count) used_last;
            };
            white = subst (λ l. IfSome l (λ (leaving : Leaving). IsWhite
                ((files_at after ends.second.filesystem.count).tree.node (inode_of leaving.object)))) (sym gone) tt;
            apart = subst (λ l. IfSome l (λ (leaving : Leaving). nat_eq (inode_of leaving.object) o ≡ false)) (sym gone)
                tt;
            has_room = omega (arith, few, two);
          }

    spot_ready : IsSpotReady
    spot_ready = by (in_turn second) refl
      where
        by : (pieces : List Piece) → in_turn second ≡ pieces → IsSpotReady
        by [] e = spot_there e
        by (piece ∷ rest) e = spot_copied (subst (λ (l : List Piece). 0 < length l) (sym e) (omega arith))

    links_room : HasRoomFor (links_at plan.links ends.parent) 1
    links_room = by plan.links links
      where
        by : (l : Links) → AreLinks trees first l → HasRoomFor (links_at l ends.parent) 1
        by (There list) is = is.2
        by (Copied list) is =
            let none = ap length is.1 in
            let has_room = is.2 in
            let long = length-append list.items (ends.parent.slot ∷ []) in omega (arith, none, has_room, long)

    is_white : IsWhiteAt after (spot_at plan ends) o
    is_white = by plan.leaving spot_ready.white spot_ready.apart
      where
        by : (l : Option Leaving)
            → IfSome l (λ (leaving : Leaving). IsWhite
            ((files_at after ends.second.filesystem.count).tree.node (inode_of leaving.object)))
            → IfSome l (λ (leaving : Leaving). nat_eq (inode_of leaving.object) o ≡ false)
            → IfSome l (λ (leaving : Leaving). IsPlain
            ((files_at after ends.second.filesystem.count).tree.node (inode_of leaving.object))
            × (nat_eq (inode_of leaving.object) o ≡ false))
        by None white apart = tt
        by (Some leaving) white apart = (white.other, apart)

    pub may_be_linked : MayBeLinked plan ends after room
    may_be_linked = record {
      name = spot_ready.has;
      room_for_links = links_room;
      white = is_white;
      linkable = record {
        beside = λ i. record { count = (own.count ∙ sym last.count) i };
        there = ap (λ m. is_some ((files_at after m).tree.node o)) last.count ∙ object_named.there;
        plain = ap (λ m. is_directory_node ((files_at after m).tree.node o)) last.count ∙ object_named.plain;
        named = subst (λ m. IsNamed (files_at after m).tree o) (sym last.count) object_named.named;
        few = subst (λ m. uses_in ((inodes_at after m).inode o) < most_counted) (sym last.count) object_named.few;
        lists = subst (λ m. ListsNames (files_at after m).tree o
            (map (exchanged m) (links_at plan.links ends.parent).items)) (sym last.count) object_named.lists;
        place = links_room;
        has_room = subst (λ m. length (entries_in ((files_at after m).tree.node (inode_of ends.second))) < room)
            (sym last.count) spot_ready.has_room;
      };
    }

  pub link_ready : (room : ℕ) → AreLinks trees first plan.links
      → (many second ≡ 0 → option_map object_in plan.leaving
      ≡ entry_at (files_at trees second.directory.filesystem.count).tree (inode_of second.directory) name)
      → IfSome plan.leaving (IsKnown trees second.directory)
      → (0 < many second → plan.leaving ≡ None) → 2 ≤ room
      → (many second ≡ 0 → length (entries_in ((files_at trees second.directory.filesystem.count).tree.node
      (inode_of second.directory))) + 2 ≤ room)
      → IsLinkReady plan promised births room
  link_ready room links leads known nothing two room_there = record {
    copies = fork_is_ready;
    link = λ after births_after ends small made.
        may_be_linked links leads known nothing room two room_there after births_after ends small made;
  }
