-- Copies made one after the other.
use Rattle.std.proofs.Common.{◌≡◌, ◌≢◌, ◌∙◌, ◌+◌, ◌<◌, ◌∷◌, ◌++◌, [], arith, ap, Bool, cond, false, is_some, length, length-append, List, nat_eq, None, Option, refl, Some, subst, sym, true, true≢false, ℕ, if◌then◌else◌}
use Rattle.std.specs.Prelude.{⊤}
use Rattle.vt_spec.proofs.Common.{FileTree, Inodes, Make, Node, Tree, All-tail, changed, common_steps, directory_used, entries_in, entries_of, is_directory_node, kind_of, map-append, tree_of}
use Rattle.vt_spec.specs.Inodes as counting
use Rattle.vt_spec.specs.Rights.{is_directory}
use Rattle.vt_spec.specs.Tree.{Content}
use Rattle.vt_spec.specs.Tree.Content.{Directory, Regular, Symlink, Whiteout}
use Rattle.vt_spec.specs.TreeInvariant.{IsDirectory}
use Rattle.vt_location.specs.declared.locations.InodeRef.{InodeRef}
use Rattle.vt_location.specs.declared.locations.NodeRef.{NodeRef}
use Rattle.vt_location.specs.declared.numbers.FilesystemId.{FilesystemId}
use Rattle.vt_location.specs.Locations.{inode_of}
use Rattle.vt_location.specs.Numbers.{inode_number}
use Rattle.vt_location.specs.SameNodes.{same_node}
use Rattle.vt_location.proofs.NumberLemmas.{exchanged_slot}
use Rattle.vt_fs.specs.FilesystemsValue.{ChangesInodes, Filesystems, files_at, inodes_at, inodes_promised, node_seen}
use Rattle.vt_laws_worlds.specs.Merging.UpperChanges.{copy_node}
use Rattle.vt_laws_worlds.specs.Seen.CopySteps.{Copy, made_in_turn}
use Rattle.vt_births.specs.Births.{BirthsValue, copy_of, is_born_below, node_of}
use Rattle.vt_copyup.specs.Made.{AreFree, AreMade, Made, last_made, made_copies, made_copy, nodes_with, parent_made, slots_with, with_copies}
use Rattle.vt_copyup.specs.Plans.{AreNested, AreReady, CopiesAreThere, EntriesAreThere, Fits}
use Rattle.vt_copyup.specs.declared.plans.Piece.{Piece}
use Rattle.vt_copyup.specs.declared.plans.PlannedCopy.{PlannedCopy}
use Rattle.vt_copyup.proofs.Changed.{changes_then, inodes_after, is_there, nothing_changes, was_there}
use Rattle.vt_copyup.proofs.Making.{alive_after, node_new, stays_there, tree_grown, tree_made}

-- the inode after copies
abbrev pub last_number : ℕ → List Copy → ℕ
last_number directory [] = directory
last_number directory (copy ∷ rest) = last_number copy.number rest

with_copies-append : (copies : List Copy) (copy : Copy) (inodes : Inodes ℕ) (directory : ℕ)
    → with_copies inodes directory (copies ++ copy ∷ [])
    ≡ counting.changed nat_eq (with_copies inodes directory copies)
    (Make (last_number directory copies) copy.name copy.number (copy_node (last_number directory copies) copy.node))
with_copies-append [] copy inodes directory = refl
with_copies-append (first ∷ copies) copy inodes directory = with_copies-append copies copy
    (counting.changed nat_eq inodes (Make directory first.name first.number (copy_node directory first.node)))
    first.number

free-append : (copies : List Copy) (copy : Copy) (inodes : Inodes ℕ) (directory : ℕ)
    → AreFree inodes directory copies
    → (tree_of (with_copies inodes directory copies)).node copy.number ≡ None
    → AreFree inodes directory (copies ++ copy ∷ [])
free-append [] copy inodes directory are free = (free, tt)
free-append (first ∷ copies) copy inodes directory are free = (
  are.0,
  free-append copies copy
      (counting.changed nat_eq inodes (Make directory first.name first.number (copy_node directory first.node)))
      first.number are.1 free,
)

made_in_turn-append : (copies : List Copy) (copy : Copy) (files : FileTree ℕ) (directory : ℕ)
    → made_in_turn files directory (copies ++ copy ∷ [])
    ≡ changed nat_eq (made_in_turn files directory copies)
    (Make (last_number directory copies) copy.name copy.number (copy_node (last_number directory copies) copy.node))
made_in_turn-append [] copy files directory = refl
made_in_turn-append (first ∷ copies) copy files directory = made_in_turn-append copies copy
    (changed nat_eq files (Make directory first.name first.number (copy_node directory first.node))) first.number

nodes_with-append : (made : List Made) (one : Made) (nodes : ℕ → Option NodeRef) (slot : ℕ)
    → nodes_with nodes (made ++ one ∷ []) slot
    ≡ (if nat_eq one.slot slot then Some one.copy.born else nodes_with nodes made slot)
nodes_with-append [] one nodes slot = refl
nodes_with-append (first ∷ made) one nodes slot = nodes_with-append made one
    (λ other. if nat_eq first.slot other then Some first.copy.born else nodes other) slot

slots_with-append : (made : List Made) (one : Made) (slots : NodeRef → Option ℕ) (node : NodeRef)
    → slots_with slots (made ++ one ∷ []) node
    ≡ (if same_node one.copy.born node then Some one.slot else slots_with slots made node)
slots_with-append [] one slots node = refl
slots_with-append (first ∷ made) one slots node = slots_with-append made one
    (λ other. if same_node first.copy.born other then Some first.slot else slots other) node

last_made-append : (made : List Made) (one : Made) (directory : InodeRef)
    → last_made directory (made ++ one ∷ []) ≡ record { filesystem = directory.filesystem; slot = one.slot }
last_made-append [] one directory = refl
last_made-append (first ∷ made) one directory =
    last_made-append made one (record { filesystem = directory.filesystem; slot = first.slot })

pub parent_made-append : (made : List Made) (one : Made) (directory : InodeRef)
    → parent_made directory (made ++ one ∷ []) ≡ last_made directory made
parent_made-append [] one directory = refl
parent_made-append (first ∷ []) one directory = refl
parent_made-append (first ∷ next ∷ made) one directory =
    parent_made-append (next ∷ made) one (record { filesystem = directory.filesystem; slot = first.slot })

pub last_number_is : (made : List Made) (directory : InodeRef)
    → inode_of (last_made directory made)
    ≡ last_number (inode_of directory) (made_copies directory.filesystem.count made)
last_number_is [] directory = refl
last_number_is (first ∷ made) directory =
    last_number_is made (record { filesystem = directory.filesystem; slot = first.slot })

pub last_filesystem : (made : List Made) (directory : InodeRef)
    → (last_made directory made).filesystem ≡ directory.filesystem
last_filesystem [] directory = refl
last_filesystem (first ∷ made) directory =
    last_filesystem made (record { filesystem = directory.filesystem; slot = first.slot })

-- one copy was made in a directory
pub record IsStep (copy : PlannedCopy) (here : InodeRef) (old : Filesystems) (births : BirthsValue)
    (new : Filesystems) (births_new : BirthsValue) (last : InodeRef) : Type 0 where
  pub made : ChangesInodes here.filesystem.count (λ inodes. counting.changed nat_eq inodes
      (Make (inode_of here) copy.name.items (inode_of last) (copy_node (inode_of here) copy.node))) old new
  pub vacant : (files_at old here.filesystem.count).tree.node (inode_of last) ≡ None
  pub filesystem : last.filesystem ≡ here.filesystem
  pub nodes : (slot : ℕ) → node_of births_new slot
      ≡ (if nat_eq last.slot slot then Some copy.born else node_of births slot)
  pub slots : (node : NodeRef) → copy_of births_new node
      ≡ (if same_node copy.born node then Some last.slot else copy_of births node)
  pub inodes_left : inodes_promised new here.filesystem.count + 1 ≡ inodes_promised old here.filesystem.count
  pub births_left : births_new.promised + 1 ≡ births.promised

-- a copy has no entries, and is a directory if that is copied
pub entries-copy : (parent : ℕ) (node : Node ℕ) → entries_of (copy_node parent node).content ≡ []
entries-copy parent node = by node.content
  where
    by : (content : Content ℕ) → entries_of (Rattle.vt_spec.specs.Machine.CopyUp.copied_content parent content) ≡ []
    by (Directory old entries opaque) = refl
    by (Regular bytes) = refl
    by (Symlink text) = refl
    by Whiteout = refl

pub directory-copy : (parent : ℕ) (node : Node ℕ) → is_directory (kind_of node.content) ≡ true
    → is_directory (kind_of (copy_node parent node).content) ≡ true
directory-copy parent node = by node.content
  where
    by : (content : Content ℕ) → is_directory (kind_of content) ≡ true
        → is_directory (kind_of (Rattle.vt_spec.specs.Machine.CopyUp.copied_content parent content)) ≡ true
    by (Directory old entries opaque) d = refl
    by (Regular bytes) d = d
    by (Symlink text) d = d
    by Whiteout d = d

-- what holds after a copy in a directory
module _ (copy : PlannedCopy) (here : InodeRef) (old : Filesystems) (births : BirthsValue) (new : Filesystems)
    (births_new : BirthsValue) (last : InodeRef) (step : IsStep copy here old births new births_new last)
    (directory : IsDirectory (files_at old here.filesystem.count).tree (inode_of here)) where
  abbrev f : ℕ
  f = here.filesystem.count

  abbrev was : Tree ℕ
  was = (files_at old f).tree

  abbrev node : Node ℕ
  node = copy_node (inode_of here) copy.node

  pub differs : inode_of here ≢ inode_of last
  differs e = true≢false (sym (directory_used was (inode_of here) directory) ∙ ap (λ n. is_some (was.node n)) e
      ∙ ap is_some step.vacant)

  inodes_are : inodes_at new f ≡ counting.changed nat_eq (inodes_at old f)
      (Make (inode_of here) copy.name.items (inode_of last) node)
  inodes_are = inodes_after f (λ inodes. counting.changed nat_eq inodes
      (Make (inode_of here) copy.name.items (inode_of last) node)) old new step.made
      (is_there old f (inode_of here) directory)

  pub tree_is : (files_at new f).tree
      ≡ Rattle.vt_spec.specs.Tree.with_object nat_eq was (inode_of here) copy.name.items (inode_of last) node
  tree_is = ap tree_of inodes_are
      ∙ tree_grown (inodes_at old f) (inode_of here) (inode_of last) copy.name.items node differs

  pub tree_so : (files : FileTree ℕ) → files.tree ≡ was
      → (files_at new f).tree ≡ (changed nat_eq files (Make (inode_of here) copy.name.items (inode_of last) node)).tree
  tree_so files same = tree_is
      ∙ tree_made (inodes_at old f) (inode_of here) (inode_of last) copy.name.items node differs files same

  pub entries_still : EntriesAreThere was → EntriesAreThere (files_at new f).tree
  entries_still alive = subst EntriesAreThere (sym tree_is)
      (alive_after was (inode_of here) copy.name.items (inode_of last) node directory differs
      (entries-copy (inode_of here) copy.node) alive)

  pub copy_is : (files_at new f).tree.node (inode_of last) ≡ Some node
  copy_is = ap (λ (t : Tree ℕ). t.node (inode_of last)) tree_is
      ∙ node_new was (inode_of here) copy.name.items (inode_of last) node directory differs
      (entries-copy (inode_of here) copy.node)

  last_is : inode_number f last.slot ≡ inode_of last
  last_is = ap (λ (id : FilesystemId). inode_number id.count last.slot) (sym step.filesystem)

  pub copies_still : CopiesAreThere old f births → CopiesAreThere new f births_new
  copies_still there slot born e = by (nat_eq last.slot slot) refl (sym (step.nodes slot) ∙ e)
    where
      by : (b : Bool) → nat_eq last.slot slot ≡ b
          → cond b (Some copy.born) (node_of births slot) ≡ Some born
          → is_some ((files_at new f).tree.node (inode_number f slot)) ≡ true
      by true own is =
          let same : last.slot ≡ slot = grind (arith, common_steps) in
          ap (λ s. is_some ((files_at new f).tree.node (inode_number f s))) (sym same)
          ∙ ap (λ n. is_some ((files_at new f).tree.node n)) last_is ∙ ap is_some copy_is
      by false own is = ap (λ (t : Tree ℕ). is_some (t.node (inode_number f slot))) tree_is
          ∙ stays_there was (inode_of here) copy.name.items (inode_of last) node directory differs
          (entries-copy (inode_of here) copy.node) (inode_number f slot) (there slot born is)

  pub none_still : (born : NodeRef) → same_node copy.born born ≡ false → copy_of births born ≡ None
      → copy_of births_new born ≡ None
  none_still born other none = step.slots born ∙ ap (λ b. cond b (Some last.slot) (copy_of births born)) other ∙ none

-- the first of what is left has a place in the copy before it
abbrev pub OwnFits : List Piece → InodeRef → Filesystems → Type 0
OwnFits [] here trees = ⊤
OwnFits (piece ∷ rest) here trees = Fits piece.copy piece.room here trees

pub nested_tail : (piece : Piece) (rest : List Piece) → AreNested (piece ∷ rest) → AreNested rest
nested_tail piece [] nested = tt
nested_tail piece (next ∷ rest) nested = nested.2

-- what is left of copies after the first
module _ (piece : Piece) (rest : List Piece) (here : InodeRef) (old : Filesystems) (births : BirthsValue)
    (new : Filesystems) (births_new : BirthsValue) (last : InodeRef)
    (step : IsStep piece.copy here old births new births_new last)
    (directory : IsDirectory (files_at old here.filesystem.count).tree (inode_of here))
    (ready : AreReady (piece ∷ rest) here old births) where
  own : record { filesystem = here.filesystem; slot = last.slot } ≡ last
  own = λ i. record { filesystem = sym step.filesystem i; slot = last.slot }

  abbrev last_here : InodeRef
  last_here = record { filesystem = here.filesystem; slot = last.slot }

  pub ready_next : AreReady rest last new births_new
  ready_next = subst (λ l. AreReady rest l new births_new) own (record {
    entries = entries_still piece.copy here old births new births_new last step directory ready.entries;
    there = copies_still piece.copy here old births new births_new last step directory ready.there;
    many_inodes = omega (arith, step.inodes_left, ready.many_inodes);
    many_births = omega (arith, step.births_left, ready.many_births);
    nested = nested_tail piece rest ready.nested;
    below = All-tail (λ (one : Piece). is_born_below one.copy.born ≡ true) piece rest ready.below;
    new = λ k d less. none_still piece.copy here old births new births_new last step directory
        (Rattle.std.specs.Prelude.slice_index_or rest k d).copy.born (ready.apart.0 k d less)
        (All-tail (λ (one : Piece). copy_of births one.copy.born ≡ None) piece rest ready.new k d less);
    apart = ready.apart.1;
  })

  pub fits_next : OwnFits rest last new
  fits_next = by rest ready.nested
    where
      by : (rest : List Piece) → AreNested (piece ∷ rest) → OwnFits rest last new
      by [] nested = tt
      by (next ∷ after) nested = subst (λ l. Fits next.copy next.room l new) own (record {
        there = ap is_directory_node at ∙ directory-copy (inode_of here) piece.copy.node nested.0;
        free = ap (λ o. Rattle.vt_spec.specs.Tree.entry_named next.copy.name.items (entries_in o)) at
            ∙ ap (Rattle.vt_spec.specs.Tree.entry_named next.copy.name.items)
            (entries-copy (inode_of here) piece.copy.node);
        has_room = subst (λ n. n < next.room) (sym (ap (λ o. length (entries_in o)) at
            ∙ ap length (entries-copy (inode_of here) piece.copy.node))) nested.1;
      })
        where
          at : (files_at new here.filesystem.count).tree.node (inode_of last_here)
              ≡ Some (copy_node (inode_of here) piece.copy.node)
          at = ap (λ n. (files_at new here.filesystem.count).tree.node n)
              (last_is piece.copy here old births new births_new last step directory)
              ∙ copy_is piece.copy here old births new births_new last step directory

-- no copies yet
pub none_made : (directory : InodeRef) (trees : Filesystems) (births : BirthsValue)
    → AreMade directory [] trees births trees births directory
none_made directory trees births = record {
  made = [];
  all = refl;
  inodes = nothing_changes directory.filesystem.count trees;
  free = tt;
  tree = refl;
  nodes = refl;
  slots = refl;
  is_last = refl;
  inodes_left = omega arith;
  births_left = omega arith;
}

-- nor a parent
pub none_parent : (directory : InodeRef) (trees : Filesystems) (births : BirthsValue)
    → directory ≡ parent_made directory (none_made directory trees births).made
unfolding none_made
none_parent directory trees births = refl

-- one copy more
module _ (directory : InodeRef) (done : List PlannedCopy) (copy : PlannedCopy) (start : Filesystems)
    (births_start : BirthsValue) (old : Filesystems) (births : BirthsValue) (new : Filesystems)
    (births_new : BirthsValue) where
  abbrev upper : ℕ
  upper = directory.filesystem.count

  module _ (slot : ℕ) (last : InodeRef) (made : List Made)
      (number : inode_number upper slot ≡ last_number (inode_of directory) (made_copies upper made))
      (own : inode_number upper last.slot ≡ inode_of last) where
    abbrev one : Made
    one = record { copy = copy; slot = last.slot }

    copies : made_copies upper (made ++ one ∷ []) ≡ made_copies upper made ++ made_copy upper one ∷ []
    copies = map-append (made_copy upper) made (one ∷ [])

    with_copies_more : (inodes : Inodes ℕ)
        → counting.changed nat_eq (with_copies inodes (inode_of directory) (made_copies upper made))
        (Make (inode_number upper slot) copy.name.items (inode_of last) (copy_node (inode_number upper slot) copy.node))
        ≡ with_copies inodes (inode_of directory) (made_copies upper (made ++ one ∷ []))
    with_copies_more inodes = (λ i. counting.changed nat_eq
        (with_copies inodes (inode_of directory) (made_copies upper made))
        (Make (number i) copy.name.items (sym own i) (copy_node (number i) copy.node)))
        ∙ sym (with_copies-append (made_copies upper made) (made_copy upper one) inodes (inode_of directory))
        ∙ ap (with_copies inodes (inode_of directory)) (sym copies)

    made_more : changed nat_eq (made_in_turn (files_at start upper) (inode_of directory) (made_copies upper made))
        (Make (inode_number upper slot) copy.name.items (inode_of last) (copy_node (inode_number upper slot) copy.node))
        ≡ made_in_turn (files_at start upper) (inode_of directory) (made_copies upper (made ++ one ∷ []))
    made_more = (λ i. changed nat_eq
        (made_in_turn (files_at start upper) (inode_of directory) (made_copies upper made))
        (Make (number i) copy.name.items (sym own i) (copy_node (number i) copy.node)))
        ∙ sym (made_in_turn-append (made_copies upper made) (made_copy upper one) (files_at start upper)
        (inode_of directory))
        ∙ ap (made_in_turn (files_at start upper) (inode_of directory)) (sym copies)

  -- it was free
  vacant_then : (slot : ℕ) (last : InodeRef)
      → (are : AreMade directory done start births_start old births
      (record { filesystem = directory.filesystem; slot = slot }))
      → IsStep copy (record { filesystem = directory.filesystem; slot = slot }) old births new births_new last
      → IsDirectory (files_at old upper).tree (inode_number upper slot)
      → inode_number upper last.slot ≡ inode_of last
      → (tree_of (with_copies (inodes_at start upper) (inode_of directory) (made_copies upper are.made))).node
      (inode_number upper last.slot) ≡ None
  vacant_then slot last are step in_directory own =
      let change : Inodes ℕ → Inodes ℕ =
      λ inodes. with_copies inodes (inode_of directory) (made_copies upper are.made) in
      let there = was_there upper change start old are.inodes
      (is_there old upper (inode_number upper slot) in_directory) in
      ap (λ (all : Inodes ℕ). (tree_of all).node (inode_number upper last.slot))
      (sym (inodes_after upper change start old are.inodes there))
      ∙ ap (λ n. (files_at old upper).tree.node n) own ∙ step.vacant

  one_more_here : (slot : ℕ) (last : InodeRef)
      → AreMade directory done start births_start old births (record { filesystem = directory.filesystem; slot = slot })
      → IsStep copy (record { filesystem = directory.filesystem; slot = slot }) old births new births_new last
      → IsDirectory (files_at old upper).tree (inode_number upper slot)
      → (made : AreMade directory (done ++ copy ∷ []) start births_start new births_new last)
      × (record { filesystem = directory.filesystem; slot = slot } ≡ parent_made directory made.made)
  one_more_here slot last are step in_directory =
      let new_one : Made = record { copy = copy; slot = last.slot } in
      let here : InodeRef = record { filesystem = directory.filesystem; slot = slot } in
      let number : inode_number upper slot ≡ last_number (inode_of directory) (made_copies upper are.made) =
      ap inode_of are.is_last ∙ last_number_is are.made directory in
      let own : inode_number upper last.slot ≡ inode_of last =
      last_is copy here old births new births_new last step in_directory in
      let made : AreMade directory (done ++ copy ∷ []) start births_start new births_new last = record {
        made = are.made ++ new_one ∷ [];
        all = map-append (λ (m : Made). m.copy) are.made (new_one ∷ []) ∙ ap (λ l. l ++ copy ∷ []) are.all;
        inodes = subst (λ (change : Inodes ℕ → Inodes ℕ). ChangesInodes upper change start new)
            (λ i inodes. with_copies_more slot last are.made number own inodes i)
            (changes_then upper (λ inodes. with_copies inodes (inode_of directory) (made_copies upper are.made))
            (λ inodes. counting.changed nat_eq inodes
            (Make (inode_number upper slot) copy.name.items (inode_of last)
            (copy_node (inode_number upper slot) copy.node))) start old new are.inodes step.made);
        free = subst (λ l. AreFree (inodes_at start upper) (inode_of directory) l)
            (sym (copies slot last are.made number own))
            (free-append (made_copies upper are.made) (made_copy upper new_one) (inodes_at start upper)
            (inode_of directory) are.free (vacant_then slot last are step in_directory own));
        tree = tree_so copy here old births new births_new last step in_directory
            (made_in_turn (files_at start upper) (inode_of directory) (made_copies upper are.made)) (sym are.tree)
            ∙ ap (λ (files : FileTree ℕ). files.tree) (made_more slot last are.made number own);
        nodes = λ i s. (step.nodes s ∙ ap (λ (nodes : ℕ → Option NodeRef). if nat_eq last.slot s then Some copy.born
            else nodes s) are.nodes ∙ sym (nodes_with-append are.made new_one (node_of births_start) s)) i;
        slots = λ i n. (step.slots n ∙ ap (λ (slots : NodeRef → Option ℕ). if same_node copy.born n
            then Some last.slot else slots n) are.slots
            ∙ sym (slots_with-append are.made new_one (copy_of births_start) n)) i;
        is_last = (λ i. record { filesystem = step.filesystem i; slot = last.slot })
            ∙ sym (last_made-append are.made new_one directory);
        inodes_left = omega (arith, step.inodes_left, are.inodes_left, length-append done (copy ∷ []));
        births_left = omega (arith, step.births_left, are.births_left, length-append done (copy ∷ []));
      } in
      (made, are.is_last ∙ sym (parent_made-append are.made new_one directory))

  pub one_more : (here last : InodeRef) → AreMade directory done start births_start old births here
      → IsStep copy here old births new births_new last
      → IsDirectory (files_at old here.filesystem.count).tree (inode_of here)
      → (made : AreMade directory (done ++ copy ∷ []) start births_start new births_new last)
      × (here ≡ parent_made directory made.made)
  one_more here last are step in_directory =
      let same : here.filesystem ≡ directory.filesystem =
      ap (λ (l : InodeRef). l.filesystem) are.is_last ∙ last_filesystem are.made directory in
      let is : here ≡ record { filesystem = directory.filesystem; slot = here.slot } =
      (λ i. record { filesystem = same i; slot = here.slot }) in
      let both = one_more_here here.slot last
      (subst (λ h. AreMade directory done start births_start old births h) is are)
      (subst (λ h. IsStep copy h old births new births_new last) is step)
      (subst (λ (h : InodeRef). IsDirectory (files_at old h.filesystem.count).tree (inode_of h)) is in_directory) in
      (both.0, is ∙ both.1)

-- a copy by slots is one by numbers
pub copy_seen : (f slot : ℕ) (node : Node ℕ) → slot < 18446744073709551616
    → node_seen f (copy_node slot node) ≡ copy_node (inode_number f slot) node
copy_seen f slot node small = by node.content
  where
    by : (content : Content ℕ)
        → node_seen f (copy_node slot (record { attr = node.attr; content = content }))
        ≡ copy_node (inode_number f slot) (record { attr = node.attr; content = content })
    by (Directory parent entries opaque) = λ i. record {
      attr = node.attr;
      content = Directory (exchanged_slot f slot small i) [] false;
    }
    by (Regular bytes) = refl
    by (Symlink text) = refl
    by Whiteout = refl
