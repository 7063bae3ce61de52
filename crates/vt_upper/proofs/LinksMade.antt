-- What plans of further names make is what the definitions' change makes.
use Rattle.std.proofs.Common.{◌≡◌, ◌≢◌, ◌∙◌, ◌<◌, ◌++◌, ◌∷◌, ◌||◌, [], ap, append-nil, arith, Bool, eqb-true, false, is_some, length, List, map, nat_eq, None, option_map, Option, refl, reverse, Some, subst, sym, true, unwrap_or, ℕ, if◌then◌else◌}
use Rattle.vt_spec.proofs.Common.{AddName, FileTree, Fresh, Inodes, IsDirectory, Make, Merge, Stack, Tree, changed, entries_in-no_directory, entry_at, evens, map-append, number_at_path, odds, tree_of, length-reverse}
use Rattle.vt_spec.specs.Rights.{Credentials}
use Rattle.vt_births.specs.Births.{BirthsValue}
use Rattle.vt_copyup.specs.declared.forks.Fork.{Fork}
use Rattle.vt_copyup.specs.declared.plans.Piece.{Piece}
use Rattle.vt_copyup.specs.declared.plans.Plan.{Plan}
use Rattle.vt_copyup.specs.ForkLaws.{AreMadeOf, with_fork}
use Rattle.vt_copyup.specs.Forks.{AreForked, IsForkOf, pieces_in, start_in}
use Rattle.vt_copyup.specs.Laws.{AreHanded}
use Rattle.vt_copyup.specs.Made.{Made, last_made, made_copies}
use Rattle.vt_copyup.specs.Planned.{AreCopiesFrom, ArePlannedBy, IsPlanOf, names_of, stack_of}
use Rattle.vt_copyup.specs.Plans.{FirstFits, copies_of, in_turn}
use Rattle.vt_copyup.proofs.Changed.{inodes_after, is_there}
use Rattle.vt_copyup.proofs.ForksCopied.{forks_make, leads_to_last}
use Rattle.vt_copyup.proofs.ForksReady.{last_beside}
use Rattle.vt_fs.specs.FilesystemsValue.{Filesystems, entry_of, files_at, inodes_at}
use Rattle.vt_laws_trees.specs.Overlays.WhatIsShown.{IsWhole}
use Rattle.vt_laws_trees.specs.Overlays.WholeChanges.{IsAskedWell}
use Rattle.vt_laws_upper_layers.specs.Rows.{after_row, removal, row_linked}
use Rattle.vt_laws_upper_layers.specs.RowsAbove.{RowsAreChangesAbove}
use Rattle.vt_laws_worlds.proofs.merging.upper.Places.{path_there}
use Rattle.vt_laws_worlds.proofs.merging.upper.UpperKinds.{even_new}
use Rattle.vt_laws_worlds.specs.Merging.UpperCalls.{changed_above}
use Rattle.vt_laws_worlds.specs.Merging.UpperCalls.Asks.{links}
use Rattle.vt_laws_worlds.specs.Merging.UpperCalls.ChangeAt.{LinkAt}
use Rattle.vt_laws_worlds.specs.Merging.UpperChanges.{AreNew, LeadsToDirectory, copied_to, copy_node, led_above, object_of}
use Rattle.vt_laws_worlds.specs.Merging.UpperChanges.Place.{Named}
use Rattle.vt_laws_worlds.specs.Seen.CopySteps.{Copy, made_in_turn}
use Rattle.vt_location.specs.declared.locations.InodeRef.{InodeRef}
use Rattle.vt_location.specs.declared.numbers.FilesystemId.{FilesystemId}
use Rattle.vt_location.specs.Locations.{inode_of}
use Rattle.vt_overlay.specs.declared.merge.layers.LayerRef.{LayerRef}
use Rattle.vt_upper.specs.declared.leaving.Leaving.{Leaving}
use Rattle.vt_upper.specs.declared.linking.LinkPlan.{LinkPlan}
use Rattle.vt_upper.specs.Leaving.{within_of}
use Rattle.vt_upper.specs.LinkLaws.{LinksAreMade, PlansAboveAreOfPaths}
use Rattle.vt_upper.specs.Linking.{IsLinked, IsLinkReady, IsWhiteAt, MayBeLinked, linked_over}
use Rattle.vt_upper.specs.New.{object_in}
use Rattle.vt_upper.proofs.ChangesMade.{object_is}
use Rattle.vt_upper.proofs.RowsAlike.{AreAlike}
use Rattle.vt_upper.proofs.RowsReplaced.{freeing_row, goes_with, linked_alike_all}

-- copies are made alike in trees that are the same
in_turn_tree : (copies : List Copy) (one two : FileTree ℕ) (d : ℕ) → one.tree ≡ two.tree
    → (made_in_turn one d copies).tree ≡ (made_in_turn two d copies).tree
in_turn_tree [] one two d same = same
in_turn_tree (copy ∷ rest) one two d same = in_turn_tree rest
    (changed nat_eq one (Make d copy.name copy.number (copy_node d copy.node)))
    (changed nat_eq two (Make d copy.name copy.number (copy_node d copy.node))) copy.number
    (ap (λ (t : Tree ℕ). (changed nat_eq (record { tree = t; numbers = [] })
    (Make d copy.name copy.number (copy_node d copy.node))).tree) same)

last_both : (xs ys : List Made) (d : InodeRef) → last_made d (xs ++ ys) ≡ last_made (last_made d xs) ys
last_both [] ys d = refl
last_both (x ∷ xs) ys d = last_both xs ys (record { filesystem = d.filesystem; slot = x.slot })

module _ (rows : RowsAreChangesAbove) (fresh : Fresh ℕ) (mounter : Credentials) (merge : Merge ℕ)
    (trees promised : Filesystems) (upper : LayerRef) (lowers : List LayerRef) (overlay : FilesystemId)
    (path other : List (List ℕ)) (directory object : ℕ) (plan : LinkPlan) (first second : Plan) (births : BirthsValue)
    (room : ℕ) (after : Filesystems) (births_after : BirthsValue) (above : InodeRef)
    (whole : IsWhole (stack_of trees upper lowers mounter) merge) (new : AreNew fresh merge.upper)
    (same_upper : merge.upper ≡ files_at trees upper.directory.filesystem.count)
    (same_promised : merge.upper ≡ files_at promised upper.directory.filesystem.count)
    (leads : number_at_path merge.files path ≡ Some object) (other_leads : LeadsToDirectory merge other directory)
    (well : IsAskedWell (stack_of trees upper lowers mounter) merge (AddName directory plan.name.items object))
    (is : IsPlanOf true trees upper lowers overlay path first)
    (next : IsPlanOf true trees upper lowers overlay other second) (forked : IsForkOf trees first second plan.copies)
    (ready : IsLinkReady plan promised births room) (linked : IsLinked plan promised births after births_after above)
    (handed : AreHanded (evens fresh) upper.directory.filesystem.count (length is.front)
    (linked.made.shared.made ++ linked.made.first.made))
    (last_handed : AreHanded (odds fresh) upper.directory.filesystem.count
    (length (next.front ++ names_of forked.twice)) linked.made.second.made) where
  abbrev stack : Stack ℕ
  stack = stack_of trees upper lowers mounter

  abbrev f : FilesystemId
  f = upper.directory.filesystem

  abbrev fork : Fork
  fork = plan.copies

  abbrev name : List ℕ
  name = plan.name.items

  abbrev made : AreForked fork promised births linked.between births_after linked.ends
  made = linked.made

  abbrev start : InodeRef
  start = start_in fork made.here

  abbrev a : List Made
  a = made.shared.made

  abbrev b : List Made
  b = made.first.made

  abbrev c : List Made
  c = made.second.made

  abbrev d : ℕ
  d = inode_of linked.ends.second

  abbrev o : ℕ
  o = inode_of linked.ends.object

  abbrev had : Option ℕ
  had = option_map object_in plan.leaving

  own_first : fork.directory.filesystem ≡ f
  own_first = ap (λ (l : InodeRef). l.filesystem) forked.directory ∙ is.filesystem

  own_here : made.here.filesystem ≡ f
  own_here = last_beside fork.directory (copies_of (pieces_in fork.shared)) promised births made.one made.one_births
      made.here made.shared ∙ own_first

  own_start : start.filesystem ≡ f
  own_start = by (nat_eq (length fork.shared.pieces.items) 0)
    where
      by : (none : Bool) → (if none then fork.other else made.here).filesystem ≡ f
      by true = ap (λ (l : InodeRef). l.filesystem) forked.other ∙ next.filesystem
      by false = own_here

  own_end : linked.ends.second.filesystem ≡ f
  own_end = last_beside start (copies_of (pieces_in fork.second)) made.two made.two_births linked.between births_after
      linked.ends.second made.second ∙ own_start

  -- the tree once all is copied
  one_tree : (files_at made.one f.count).tree
      ≡ (made_in_turn merge.upper (inode_of fork.directory) (made_copies f.count a)).tree
  one_tree = subst (λ (id : FilesystemId). (files_at made.one id.count).tree
      ≡ (made_in_turn (files_at promised id.count) (inode_of fork.directory) (made_copies id.count a)).tree) own_first
      made.shared.tree
      ∙ ap (λ files. (made_in_turn files (inode_of fork.directory) (made_copies f.count a)).tree) (sym same_promised)

  two_tree : (files_at made.two f.count).tree
      ≡ (made_in_turn (made_in_turn merge.upper (inode_of fork.directory) (made_copies f.count a)) (inode_of made.here)
      (made_copies f.count b)).tree
  two_tree = subst (λ (id : FilesystemId). (files_at made.two id.count).tree
      ≡ (made_in_turn (files_at made.one id.count) (inode_of made.here) (made_copies id.count b)).tree) own_here
      made.first.tree
      ∙ in_turn_tree (made_copies f.count b) (files_at made.one f.count)
      (made_in_turn merge.upper (inode_of fork.directory) (made_copies f.count a)) (inode_of made.here) one_tree

  all_tree : (files_at linked.between f.count).tree ≡ (with_fork merge.upper f.count fork a b c).tree
  all_tree = subst (λ (id : FilesystemId). (files_at linked.between id.count).tree
      ≡ (made_in_turn (files_at made.two id.count) (inode_of start) (made_copies id.count c)).tree) own_start
      made.second.tree
      ∙ in_turn_tree (made_copies f.count c) (files_at made.two f.count)
      (made_in_turn (made_in_turn merge.upper (inode_of fork.directory) (made_copies f.count a)) (inode_of made.here)
      (made_copies f.count b)) (inode_of start) two_tree
      ∙ ap (λ (here : InodeRef). (made_in_turn (made_in_turn
      (made_in_turn merge.upper (inode_of fork.directory) (made_copies f.count a)) (inode_of here)
      (made_copies f.count b)) (inode_of (start_in fork here)) (made_copies f.count c)).tree) made.shared.is_last

  are : AreMadeOf fork a b c
  are = record { shared_are = made.shared.all; made_are = made.first.all; last_are = made.second.all }

  begins_there : 0 < length fork.shared.pieces.items → IsDirectory merge.upper.tree (inode_of fork.directory)
  begins_there some = by (pieces_in fork.shared) ready.copies.shared.first
      (let long = length-reverse fork.shared.pieces.items in omega (arith, long, some))
    where
      by : (pieces : List Piece) → FirstFits pieces fork.shared.room fork.directory promised → 0 < length pieces
          → IsDirectory merge.upper.tree (inode_of fork.directory)
      by [] fits some = absurd (let no : ⊥ = omega (arith, some) in no)
      by (piece ∷ rest) fits some =
          subst (λ (files : FileTree ℕ). IsDirectory files.tree (inode_of fork.directory)) (sym same_promised)
          (subst (λ (id : FilesystemId). IsDirectory (files_at promised id.count).tree (inode_of fork.directory)) own_first
          fits.there)

  abbrev copied : FileTree ℕ
  copied = copied_to (odds fresh) stack (copied_to (evens fresh) stack merge.upper path) other

  copied_is : copied ≡ with_fork merge.upper f.count fork a b c
  copied_is = forks_make fresh mounter merge trees upper lowers overlay path other object first second fork a b c is next
      forked whole same_upper new leads begins_there are handed last_handed

  between_tree : (files_at linked.between f.count).tree ≡ copied.tree
  between_tree = all_tree ∙ ap (λ (files : FileTree ℕ). files.tree) (sym copied_is)

  -- the directory, and the object
  leads_there : led_above stack copied other ≡ Some d
  leads_there = leads_to_last fresh mounter merge trees upper lowers overlay path other object first second fork a b c is next
      forked whole same_upper new leads begins_there are handed last_handed (ap is_some other_leads.0)
      ∙ ap (λ (here : InodeRef). Some (inode_of (last_made (start_in fork here) c))) (sym made.shared.is_last)
      ∙ ap (λ (l : InodeRef). Some (inode_of l)) (sym made.second.is_last)

  all_made : map (λ (one : Made). one.copy) (a ++ b) ≡ copies_of (in_turn first)
  all_made = map-append (λ (one : Made). one.copy) a b ∙ (λ i. made.shared.all i ++ made.first.all i)
      ∙ sym (map-append (λ (piece : Piece). piece.copy) (pieces_in fork.shared) (pieces_in fork.first))
      ∙ ap copies_of (sym forked.first_is)

  object_there : object_of (evens fresh) stack merge.upper (Named path) ≡ o
  object_there = object_is (evens fresh) mounter merge trees upper lowers overlay path first (a ++ b) whole
      (same_upper ∙ ap (λ (id : FilesystemId). files_at trees id.count) (sym is.filesystem))
      (even_new fresh merge.upper new) all_made is
      (subst (λ (id : FilesystemId). AreHanded (evens fresh) id.count (length is.front) (a ++ b)) (sym is.filesystem)
      handed)
      ∙ ap inode_of (last_both a b first.directory
      ∙ ap (λ (l : InodeRef). last_made (last_made l a) b) (sym forked.directory)
      ∙ ap (λ (l : InodeRef). last_made l b) (sym made.shared.is_last) ∙ sym made.first.is_last)

  -- the name
  may : MayBeLinked plan linked.ends linked.between room
  may = ready.link linked.between births_after linked.ends linked.small made

  entry_is : entry_at copied.tree d name ≡ had
  entry_is = ap (λ (t : Tree ℕ). entry_at t d name) (sym between_tree)
      ∙ ap (λ (id : FilesystemId). entry_at (files_at linked.between id.count).tree d name) (sym own_end)
      ∙ may.name.leads

  none_within : within_of (files_at linked.between linked.ends.second.filesystem.count).tree had ≡ []
  none_within = by plan.leaving may.white
    where
      by : (l : Option Leaving) → IsWhiteAt linked.between
          (record { directory = linked.ends.second; leaving = l; keeps = false }) o
          → within_of (files_at linked.between linked.ends.second.filesystem.count).tree (option_map object_in l) ≡ []
      by None white = refl
      by (Some leaving) white = entries_in-no_directory
          ((files_at linked.between linked.ends.second.filesystem.count).tree.node (inode_of leaving.object)) white.0

  freed_removal : (h : Option ℕ) → freeing_row d name h [] ≡ removal d name h
  freed_removal None = refl
  freed_removal (Some one) = refl

  same_row : after_row copied (freeing_row d name had [] ++ (AddName d name o ∷ []))
      ≡ changed_above fresh stack merge.upper (LinkAt (Named path) other name)
  same_row = ap (λ r. after_row copied (r ++ (AddName d name o ∷ []))) (freed_removal had)
      ∙ ap (λ h. after_row copied (removal d name h ++ (AddName d name o ∷ []))) (sym entry_is)
      ∙ (λ i. after_row copied (row_linked copied (sym (ap (λ l. unwrap_or l 0) leads_there) i) name (sym object_there i)))
      ∙ rows fresh stack merge whole new (AddName directory name object) (LinkAt (Named path) other name) well
      (links (Named path) other directory object name other_leads (path_there stack merge whole path object leads, leads))

  abbrev gone : ℕ → Bool
  gone = goes_with had []

  stays_so : (inode : ℕ) → had ≢ Some inode → gone inode ≡ false
  stays_so inode other = by had other
    where
      by : (h : Option ℕ) → h ≢ Some inode → goes_with h [] inode ≡ false
      by None other = refl
      by (Some one) other = test (nat_eq inode one) refl
        where
          test : (same : Bool) → nat_eq inode one ≡ same → (nat_eq inode one || false) ≡ false
          test false e = ap (λ b. b || false) e
          test true e = absurd (other (ap Some (sym (eqb-true inode one e))))

  is_there_so : is_some (entry_of linked.between linked.ends.second.filesystem.count) ≡ true
  is_there_so = is_there linked.between linked.ends.second.filesystem.count d may.name.directory_there

  abbrev change : Inodes ℕ → Inodes ℕ
  change = linked_over false name had [] d o

  after_is : inodes_at after f.count ≡ change (inodes_at linked.between f.count)
  after_is = subst (λ (id : FilesystemId). inodes_at after id.count ≡ change (inodes_at linked.between id.count)) own_end
      (inodes_after linked.ends.second.filesystem.count (linked_over false name had
      (within_of (files_at linked.between linked.ends.second.filesystem.count).tree had) d o) linked.between after
      linked.linking is_there_so
      ∙ ap (λ within. linked_over false name had within d o
      (inodes_at linked.between linked.ends.second.filesystem.count)) none_within)

  alike : AreAlike gone (tree_of (inodes_at linked.between f.count)) copied.tree
  alike m stays = ap (λ (t : Tree ℕ). t.node m) between_tree

  tree_after : (inode : ℕ) → had ≢ Some inode → (files_at after f.count).tree.node inode
      ≡ (changed_above fresh stack merge.upper (LinkAt (Named path) other name)).tree.node inode
  tree_after inode apart = ap (λ (all : Inodes ℕ). (tree_of all).node inode) after_is
      ∙ linked_alike_all d name had [] (inodes_at linked.between f.count) copied alike false o inode
      (stays_so inode apart)
      ∙ ap (λ (files : FileTree ℕ). files.tree.node inode) same_row

pub links_made : RowsAreChangesAbove → LinksAreMade
links_made rows fresh mounter merge trees promised upper lowers overlay path other directory object plan first second births
    room after births_after above whole new same_upper same_promised leads other_leads well is next forked ready linked
    handed last_handed inode apart =
    tree_after rows fresh mounter merge trees promised upper lowers overlay path other directory object plan first second
    births room after births_after above whole new same_upper same_promised leads other_leads well is next forked ready
    linked handed last_handed inode apart

pub above_of_paths : PlansAboveAreOfPaths
above_of_paths with_bytes trees upper lowers overlay path plan leads own none =
    let no : in_turn plan ≡ [] = ap reverse none in
    record {
      front = path;
      whole = ap (λ pieces. path ++ names_of pieces) no ∙ append-nil path;
      leads = leads;
      filesystem = own;
      planned = λ fresh mounter. subst (ArePlannedBy with_bytes fresh mounter trees upper lowers path) (sym no)
          (record { copies = []; planned = tt; names = refl; nodes = refl });
      copies = subst (AreCopiesFrom with_bytes trees (upper ∷ lowers) overlay path) (sym no) tt;
    }
