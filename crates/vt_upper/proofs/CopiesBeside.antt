-- What copies leave as it was: what is there and is no directory, its names, and the name of a whiteout.
use Rattle.std.proofs.Common.{◌≡◌, ◌≢◌, ◌∙◌, ◌<◌, ◌≤◌, ◌∷◌, [], arith, ap, Bool, cond, Equal, eqb-true, false, Greater, IfSome, is_some, Less, List, map, nat_eq, None, Option, refl, Some, subst, sym, true, true≢false, ℕ, All}
use Rattle.std.specs.Prelude.{⊤}
use Rattle.std.specs.declared.cmp.Ordering.{Ordering}
use Rattle.vt_spec.proofs.Common.{All-cons, All-head, All-nil, Content, Entries, Inode, Inodes, IsDirectory, Make, Node, by_order, entries_in, entry_at, entry_named, inode_with_node, is_directory_node, is_kind_in, is_sorted, name_cmp, names_in, node_in, node_with_entry, none_is_some, tree_of, uses_in, with_entry}
use Rattle.vt_spec.specs.FileTree.{targets_in}
use Rattle.vt_spec.specs.Inodes as counting
use Rattle.vt_spec.specs.Tree.Content.{Directory, Regular, Symlink, Whiteout}
use Rattle.vt_spec.specs.declared.attributes.Kind.TheVariants.{White}
use Rattle.vt_laws_trees.proofs.layers.layers.UpperLine.{has_entries}
use Rattle.vt_laws_worlds.specs.Merging.UpperChanges.{copy_node}
use Rattle.vt_laws_worlds.specs.Seen.CopySteps.{Copy}
use Rattle.vt_copyup.specs.Forks.{HeadsDiffer}
use Rattle.vt_copyup.specs.Made.{AreFree, with_copies}
use Rattle.vt_copyup.proofs.Grown.{IsBeside, beside, is_other, not_eq, stays}
use Rattle.vt_copyup.proofs.Stepping.{entries-copy, last_number}
use Rattle.vt_fs.specs.FilesystemsValue.{Filesystems, files_at, inodes_at}
use Rattle.vt_fs.specs.Trees.Names.{IsNamed, ListsNames, how_often, names_at, one_if}
use Rattle.vt_location.specs.declared.numbers.FilesystemId.{FilesystemId}
use Rattle.vt_location.specs.Locations.{inode_of}
use Rattle.vt_location.specs.Numbers.{most_counted}
use Rattle.vt_upper.specs.declared.leaving.Leaving.{Leaving}
use Rattle.vt_upper.specs.declared.making.Spot.{Spot}
use Rattle.vt_upper.specs.Leaving.{NamesAreUsed, held_for}
use Rattle.vt_upper.specs.New.{HasName, MayBeFreed}
use Rattle.vt_upper.proofs.CopiesUsed.{copies_used}

-- the first copy is made under a free name of a directory
abbrev pub Opens : Inodes ℕ → ℕ → List Copy → Type 0
Opens inodes d [] = ⊤
Opens inodes d (copy ∷ rest) = IsDirectory (tree_of inodes) d × (entry_at (tree_of inodes) d copy.name ≡ None)

-- copies were made, the first in a directory
pub record IsGrown (was now : Inodes ℕ) (d : ℕ) (copies : List Copy) : Type 0 where
  pub is : now ≡ with_copies was d copies
  pub free : AreFree was d copies
  pub opens : Opens was d copies

-- with an entry more of another inode no directory has more names for an inode
often_put : (name : List ℕ) (number o : ℕ) → nat_eq o number ≡ false → (entries : Entries ℕ)
    → how_often o (map (λ e. e.1) (with_entry name number entries)) ≤ how_often o (map (λ e. e.1) entries)
often_put name number o other [] =
    let none : one_if o number ≡ 0 = ap (λ b. cond b 1 0) other in omega (arith, none)
often_put name number o other (first ∷ entries) =
    by (name_cmp name first.0) (often_put name number o other entries)
  where
    none : one_if o number ≡ 0
    none = ap (λ b. cond b 1 0) other

    by : (order : Ordering)
        → how_often o (map (λ e. e.1) (with_entry name number entries)) ≤ how_often o (map (λ e. e.1) entries)
        → how_often o (map (λ e. e.1) (by_order order ((name, number) ∷ first ∷ entries)
        ((first.0, number) ∷ entries) (first ∷ with_entry name number entries)))
        ≤ how_often o (map (λ e. e.1) (first ∷ entries))
    by Less rest = omega (arith, none)
    by Equal rest = omega (arith, none)
    by Greater rest = omega (arith, rest)

-- one copy
module _ (inodes : Inodes ℕ) (d : ℕ) (copy : Copy) where
  abbrev pub after : Inodes ℕ
  after = counting.changed nat_eq inodes (Make d copy.name copy.number (copy_node d copy.node))

  abbrev new : Option (Inode ℕ)
  new = Some (record { node = copy_node d copy.node; uses = 1 })

  abbrev grown : Option (Inode ℕ)
  grown = inode_with_node (node_with_entry copy.name copy.number (node_in (inodes.inode d))) (inodes.inode d)

  node_grown : (inode : Option (Inode ℕ))
      → node_in (inode_with_node (node_with_entry copy.name copy.number (node_in inode)) inode)
      ≡ node_with_entry copy.name copy.number (node_in inode)
  node_grown None = refl
  node_grown (Some inode) = refl

  targets_put : (o : ℕ) → nat_eq o copy.number ≡ false → (node : Option (Node ℕ))
      → how_often o (targets_in (node_with_entry copy.name copy.number node)) ≤ how_often o (targets_in node)
  targets_put o other None = omega arith
  targets_put o other (Some node) = by node.content
    where
      by : (content : Content ℕ)
          → how_often o (targets_in (node_with_entry copy.name copy.number
          (Some (record { attr = node.attr; content = content }))))
          ≤ how_often o (targets_in (Some (record { attr = node.attr; content = content })))
      by (Directory parent entries opaque) = often_put copy.name copy.number o other entries
      by (Regular bytes) = omega arith
      by (Symlink text) = omega arith
      by Whiteout = omega arith

  pub names_step : (o m : ℕ) → nat_eq o copy.number ≡ false
      → names_at (tree_of after) o m ≤ names_at (tree_of inodes) o m
  names_step o m other = by (nat_eq m copy.number) refl (nat_eq m d) refl
    where
      at : (b here : Bool) → nat_eq m copy.number ≡ b → nat_eq m d ≡ here
          → node_in (after.inode m) ≡ node_in (cond b new (cond here grown (inodes.inode m)))
      at b here e f = λ i. node_in (cond (e i) new (cond (f i) grown (inodes.inode m)))

      by : (b : Bool) → nat_eq m copy.number ≡ b → (here : Bool) → nat_eq m d ≡ here
          → names_at (tree_of after) o m ≤ names_at (tree_of inodes) o m
      by true e here f = subst (λ node. how_often o (targets_in node) ≤ names_at (tree_of inodes) o m) (sym (at true here e f))
          (subst (λ (es : Entries ℕ). how_often o (map (λ x. x.1) es) ≤ names_at (tree_of inodes) o m) (sym (entries-copy d copy.node))
          (omega arith))
      by false e true f = subst (λ node. how_often o (targets_in node) ≤ names_at (tree_of inodes) o m)
          (sym (at false true e f ∙ node_grown (inodes.inode d)))
          (subst (λ k. how_often o (targets_in (node_with_entry copy.name copy.number (node_in (inodes.inode d))))
          ≤ names_at (tree_of inodes) o k) (sym (eqb-true m d f)) (targets_put o other (node_in (inodes.inode d))))
      by false e false f = subst (λ node. how_often o (targets_in node) ≤ names_at (tree_of inodes) o m) (sym (at false false e f)) (omega arith)

lists_after : (copies : List Copy) (inodes : Inodes ℕ) (d o : ℕ) → AreFree inodes d copies
    → is_some (node_in (inodes.inode o)) ≡ true → o ≢ d → (m : ℕ)
    → names_at (tree_of (with_copies inodes d copies)) o m ≤ names_at (tree_of inodes) o m
lists_after [] inodes d o free there other m = omega arith
lists_after (copy ∷ rest) inodes d o free there other m =
    let new : o ≢ copy.number = is_other inodes copy.number o free.0 there in
    let still = stays (copy ∷ []) inodes d (free.0, tt) o there other in
    let more = lists_after rest (after inodes d copy) copy.number o free.1
    (ap (λ i. is_some (node_in i)) still ∙ there) new m in
    let one = names_step inodes d copy o m (not_eq o copy.number new) in
    omega (arith, more, one)

-- what was there is not the last copy
pub not_last : (copies : List Copy) (inodes : Inodes ℕ) (d o : ℕ) → AreFree inodes d copies
    → is_some (node_in (inodes.inode o)) ≡ true → o ≢ d
    → o ≢ last_number d copies
not_last [] inodes d o free there other = other
not_last (copy ∷ rest) inodes d o free there other =
    let new : o ≢ copy.number = is_other inodes copy.number o free.0 there in
    let still = stays (copy ∷ []) inodes d (free.0, tt) o there other in
    not_last rest (after inodes d copy) copy.number o free.1 (ap (λ i. is_some (node_in i)) still ∙ there) new

-- An object that is no directory and no whiteout has a name, fewer than 2^64 - 1 uses, and names in these directories alone.
pub record IsNamedIn (inodes : Inodes ℕ) (o : ℕ) (directories : List ℕ) : Type 0 where
  pub there : is_some (node_in (inodes.inode o)) ≡ true
  pub plain : is_directory_node (node_in (inodes.inode o)) ≡ false
  pub named : IsNamed (tree_of inodes) o
  pub few : uses_in (inodes.inode o) < most_counted
  pub lists : ListsNames (tree_of inodes) o directories

module _ (was now : Inodes ℕ) (d : ℕ) (copies : List Copy) (is_grown : IsGrown was now d copies) where
  -- what is no directory is not that in which the first copy is made
  pub plain_other : (n : ℕ) → is_directory_node (node_in (was.inode n)) ≡ false → (copy : Copy) (rest : List Copy)
      → Opens was d (copy ∷ rest) → n ≢ d
  plain_other n plain copy rest opens same =
      true≢false (sym opens.0 ∙ ap (λ m. is_directory_node (node_in (was.inode m))) (sym same) ∙ plain)

  pub plain_stays : (n : ℕ) → is_some (node_in (was.inode n)) ≡ true → is_directory_node (node_in (was.inode n)) ≡ false
      → now.inode n ≡ was.inode n
  plain_stays n there plain = ap (λ (all : Inodes ℕ). all.inode n) is_grown.is ∙ by copies is_grown.free is_grown.opens
    where
      by : (copies : List Copy) → AreFree was d copies → Opens was d copies
          → (with_copies was d copies).inode n ≡ was.inode n
      by [] free opens = refl
      by (copy ∷ rest) free opens = stays (copy ∷ rest) was d free n there (plain_other n plain copy rest opens)

  named_stays : (o : ℕ) → IsNamed (tree_of was) o → IsNamed (tree_of now) o
  named_stays o named = subst (λ (all : Inodes ℕ). IsNamed (tree_of all) o) (sym is_grown.is)
      (by copies is_grown.free is_grown.opens)
    where
      by : (copies : List Copy) → AreFree was d copies → Opens was d copies
          → IsNamed (tree_of (with_copies was d copies)) o
      by [] free opens = named
      by (copy ∷ rest) free opens =
          let at = beside was d (copy ∷ rest) free named.directory
          (has_entries (tree_of was) named.directory named.name o named.leads) named.name
          (λ same word. none_is_some o (sym opens.1 ∙ (λ i. entry_at (tree_of was) (sym same i) (word i))
          ∙ named.leads)) in
          record { directory = named.directory; name = named.name; leads = at.entry ∙ named.leads }

  names_stay : (o : ℕ) → is_some (node_in (was.inode o)) ≡ true → is_directory_node (node_in (was.inode o)) ≡ false
      → (m : ℕ) → names_at (tree_of now) o m ≤ names_at (tree_of was) o m
  names_stay o there plain m = subst (λ (all : Inodes ℕ). names_at (tree_of all) o m ≤ names_at (tree_of was) o m)
      (sym is_grown.is) (by copies is_grown.free is_grown.opens)
    where
      by : (copies : List Copy) → AreFree was d copies → Opens was d copies
          → names_at (tree_of (with_copies was d copies)) o m ≤ names_at (tree_of was) o m
      by [] free opens = omega arith
      by (copy ∷ rest) free opens = lists_after (copy ∷ rest) was d o free there (plain_other o plain copy rest opens) m

  -- so is an object with its names
  pub object_stays : (o : ℕ) (directories : List ℕ) → IsNamedIn was o directories → IsNamedIn now o directories
  object_stays o directories is =
      let same = plain_stays o is.there is.plain in
      record {
        there = ap (λ i. is_some (node_in i)) same ∙ is.there;
        plain = ap (λ i. is_directory_node (node_in i)) same ∙ is.plain;
        named = named_stays o is.named;
        few = subst (λ i. uses_in i < most_counted) (sym same) is.few;
        lists = λ m. let less = names_stay o is.there is.plain m in
            let listed = is.lists m in omega (arith, less, listed);
      }

  pub used_still : NamesAreUsed was → NamesAreUsed now
  used_still used = subst NamesAreUsed (sym is_grown.is) (copies_used copies was d used)

-- a whiteout has no entries, and is no directory
pub record IsWhite (node : Option (Node ℕ)) : Type 0 where
  pub there : is_some node ≡ true
  pub empty : entries_in node ≡ []
  pub other : is_directory_node node ≡ false
  pub kind : is_kind_in White node ≡ true

-- what has the name, if anything has, is a whiteout
abbrev pub HasWhite : Filesystems → Spot → Type 0
HasWhite trees spot =
    IfSome spot.leaving (λ leaving. IsWhite ((files_at trees spot.directory.filesystem.count).tree.node
    (inode_of leaving.object)))

-- A name that leads nowhere, or to a whiteout, is as it was if no copy gets it.
module _ (trees now : Filesystems) (spot : Spot) (name : List ℕ) (d : ℕ) (copies : List Copy)
    (is_grown : IsGrown (inodes_at trees spot.directory.filesystem.count)
    (inodes_at now spot.directory.filesystem.count) d copies)
    (has : HasName trees spot name) (white : HasWhite trees spot)
    (differ : inode_of spot.directory ≡ d → HeadsDiffer (map (λ (copy : Copy). copy.name) copies) (name ∷ [])) where
  abbrev f : ℕ
  f = spot.directory.filesystem.count

  abbrev old : Inodes ℕ
  old = inodes_at trees f

  pub name_beside : IsBeside old (inodes_at now f) (inode_of spot.directory) name
  name_beside = subst (λ all. IsBeside old all (inode_of spot.directory) name) (sym is_grown.is)
      (beside old d copies is_grown.free (inode_of spot.directory) has.directory_there name differ)

  module _ (l : Leaving) (may : MayBeFreed trees spot.directory l)
      (is : IsWhite ((files_at trees f).tree.node (inode_of l.object))) where
    abbrev h : ℕ
    h = inode_of l.object

    same : (inodes_at now f).inode h ≡ old.inode h
    same = plain_stays old (inodes_at now f) d copies is_grown h is.there is.other

    own : l.object.filesystem.count ≡ f
    own = ap (λ (id : FilesystemId). id.count) may.filesystem

    node : (files_at now l.object.filesystem.count).tree.node h
        ≡ (files_at trees l.object.filesystem.count).tree.node h
    node = ap (λ n. (files_at now n).tree.node h) own ∙ ap node_in same
        ∙ ap (λ n. (files_at trees n).tree.node h) (sym own)

    empty_now : entries_in (node_in ((inodes_at now f).inode h)) ≡ []
    empty_now = ap (λ i. entries_in (node_in i)) same ∙ is.empty

    abbrev IsFew : Inodes ℕ → ℕ → Type 0
    IsFew all number = uses_in (all.inode number) < most_counted

    few_now : All (IsFew (inodes_at now f))
        (held_for (Some h) (entries_in (node_in ((inodes_at now f).inode h))))
    few_now = subst (λ es. All (IsFew (inodes_at now f)) (held_for (Some h) es)) (sym empty_now)
        (All-cons (IsFew (inodes_at now f)) h [] (subst (λ i. uses_in i < most_counted) (sym same)
        (All-head (IsFew old) h []
        (subst (λ es. All (IsFew old) (held_for (Some h) es)) is.empty may.emptied.few)))
        (All-nil (IsFew (inodes_at now f))))

    freed_now : MayBeFreed now spot.directory l
    freed_now = record {
      filesystem = may.filesystem;
      known = record {
        names = may.known.names ∙ ap names_in (sym node);
        inodes = may.known.inodes ∙ ap targets_in (sym node);
        own = may.known.own;
      };
      other = may.other;
      emptied = record {
        order = ap (λ i. is_sorted name_cmp (entries_in (node_in i))) same ∙ may.emptied.order;
        plain = λ word one leads. none_is_some one (sym (ap (entry_named word) empty_now) ∙ leads);
        few = few_now;
      };
    }

    white_now : IsWhite ((files_at now f).tree.node h)
    white_now = subst IsWhite (ap node_in (sym same)) is

  each_freed : (o : Option Leaving) → IfSome o (MayBeFreed trees spot.directory)
      → IfSome o (λ l. IsWhite ((files_at trees f).tree.node (inode_of l.object)))
      → IfSome o (MayBeFreed now spot.directory)
  each_freed None may is = tt
  each_freed (Some l) may is = freed_now l may is

  each_white : (o : Option Leaving) → IfSome o (MayBeFreed trees spot.directory)
      → IfSome o (λ l. IsWhite ((files_at trees f).tree.node (inode_of l.object)))
      → IfSome o (λ l. IsWhite ((files_at now f).tree.node (inode_of l.object)))
  each_white None may is = tt
  each_white (Some l) may is = white_now l may is

  pub name_still : HasName now spot name
  name_still = record {
    directory_there = name_beside.directory;
    leads = name_beside.entry ∙ has.leads;
    leaves = each_freed spot.leaving has.leaves white;
    used = used_still old (inodes_at now f) d copies is_grown has.used;
  }

  pub white_still : HasWhite now spot
  white_still = each_white spot.leaving has.leaves white
