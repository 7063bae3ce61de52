-- What plans of new objects make is what the definitions' change makes.
use Rattle.std.proofs.Common.{◌≡◌, ◌≢◌, ◌∙◌, ◌++◌, ◌∷◌, ◌||◌, [], ap, Bool, eqb-true, false, is_some, List, nat_eq, None, Option, refl, Some, sym, true, true≢false, ℕ}
use Rattle.vt_spec.proofs.Common.{Change, FileTree, Fresh, Inodes, Make, Merge, Node, Stack, Tree, changed, entry_at, evens, is_directory_node, odds, tree_of}
use Rattle.vt_spec.specs.Language.Changes.{content_with_parent}
use Rattle.vt_spec.specs.Lists.{folded}
use Rattle.vt_spec.specs.Rights.{Credentials}
use Rattle.vt_laws_trees.specs.Overlays.WhatIsShown.{IsWhole}
use Rattle.vt_laws_trees.specs.Overlays.WholeChanges.{IsAskedWell}
use Rattle.vt_laws_worlds.specs.Merging.UpperCalls.{changed_above}
use Rattle.vt_laws_worlds.specs.Merging.UpperCalls.Asks.{makes}
use Rattle.vt_laws_worlds.specs.Merging.UpperCalls.ChangeAt.{MakeAt}
use Rattle.vt_laws_worlds.specs.Merging.UpperChanges.{AreNew, LeadsToDirectory, copied_to, copy_node, directory_below}
use Rattle.vt_laws_upper_layers.specs.Rows.{after_row, marking, removal}
use Rattle.vt_laws_upper_layers.specs.RowsAbove.{RowsAreChangesAbove}
use Rattle.vt_copyup.specs.Planned.{stack_of}
use Rattle.vt_copyup.proofs.Changed.{inodes_after}
use Rattle.vt_fs.specs.FilesystemsValue.{ChangesInodes, Filesystems, entry_of, files_at, inodes_at}
use Rattle.vt_location.specs.declared.locations.InodeRef.{InodeRef}
use Rattle.vt_location.specs.declared.numbers.FilesystemId.{FilesystemId}
use Rattle.vt_location.specs.Locations.{inode_of}
use Rattle.vt_overlay.specs.declared.merge.layers.LayerRef.{LayerRef}
use Rattle.vt_upper.specs.Below.{is_directory_below}
use Rattle.vt_upper.specs.declared.making.Place.{Place}
use Rattle.vt_upper.specs.Leaving.{made_over, within_of}
use Rattle.vt_upper.specs.New.{keeps_in, leaves_in, made_new, start_of}
use Rattle.vt_upper.specs.NewLaws.{HasNothing, NewObjectsAreMade}
use Rattle.vt_upper.proofs.PlacesMade.{IsMadeAt, made_at, object_there, place_named, upper_there}
use Rattle.vt_upper.proofs.RowsAlike.{AllSuit, AreAlike, row_alike}
use Rattle.vt_upper.proofs.RowsReplaced.{folded-both, freeing_row, goes_with, made_alike_all}

module _ (rows : RowsAreChangesAbove) (fresh : Fresh ℕ) (mounter : Credentials) (merge : Merge ℕ)
    (trees promised : Filesystems) (upper : LayerRef) (lowers : List LayerRef) (overlay : FilesystemId)
    (path : List (List ℕ)) (directory number : ℕ) (name : List ℕ) (node : Node ℕ)
    (whole : IsWhole (stack_of trees upper lowers mounter) merge) (new : AreNew fresh merge.upper)
    (leads : LeadsToDirectory merge path directory) where
  abbrev stack : Stack ℕ
  stack = stack_of trees upper lowers mounter

  abbrev copied : FileTree ℕ
  copied = copied_to (evens fresh) stack merge.upper path

  abbrev mark : Bool
  mark = directory_below stack merge.upper (path ++ name ∷ [])

  -- the row that the definitions' change makes
  abbrev put : ℕ → Node ℕ
  put parent = record { attr = node.attr; content = content_with_parent parent node.content }

  abbrev row : Option ℕ → ℕ → ℕ → Node ℕ → Bool → List (Change ℕ)
  row white at object made opaque =
      (removal at name white ++ (Make at name object made ∷ [])) ++ marking opaque object

  module _ (well : IsAskedWell stack merge (Make directory name number node)) (has_nothing : HasNothing node)
      (place : Place) (between : Filesystems) (at object : InodeRef)
      (is : IsMadeAt fresh mounter merge trees promised upper lowers overlay path directory name whole new leads place
      between at)
      (opaque : Bool) (marked : opaque ≡ mark) (numbered : inode_of object ≡ odds fresh 0) where
    abbrev d : ℕ
    d = inode_of at

    same_row : after_row copied (row (leaves_in place) d (inode_of object) (copy_node d node) opaque)
        ≡ changed_above fresh stack merge.upper (MakeAt path name node)
    same_row = ap (after_row copied)
        ((λ i. row (leaves_in place) d (numbered i) (copy_node d node) (marked i))
        ∙ (λ i. row (leaves_in place) d (odds fresh 0) (record { attr = node.attr; content = sym (has_nothing d) i }) mark)
        ∙ ap (λ w. row w d (odds fresh 0) (put d) mark) (sym is.leaves)
        ∙ ap (λ p. row (entry_at copied.tree p name) p (odds fresh 0) (put p) mark) (sym (object_there fresh mounter
        merge trees promised upper lowers overlay path directory name whole new leads place between at is)))
        ∙ rows fresh stack merge whole new (Make directory name number node) (MakeAt path name node) well
        (makes path directory name number node leads)

    abbrev had : Option ℕ
    had = leaves_in place

    -- and what is made of the tree
    module _ (after : Filesystems)
        (vacant : (files_at between (start_of place).filesystem.count).tree.node (inode_of object) ≡ None)
        (there : is_some (entry_of between (start_of place).filesystem.count) ≡ true)
        (empty : within_of merge.upper.tree had ≡ [])
        (making : ChangesInodes (start_of place).filesystem.count (made_new place name node opaque
        (within_of (files_at between (start_of place).filesystem.count).tree had) d (inode_of object)) between after) where
      abbrev f : ℕ
      f = (start_of place).filesystem.count

      abbrev o : ℕ
      o = inode_of object

      abbrev gone : ℕ → Bool
      gone = goes_with had []

      within_is : within_of (files_at between f).tree had ≡ []
      within_is = ap (λ t. within_of t had) is.tree ∙ is.within ∙ empty

      differ : d ≢ o
      differ e = true≢false (sym there_directory ∙ ap (λ n. is_directory_node ((files_at between f).tree.node n)) e
          ∙ ap is_directory_node vacant)
        where
          there_directory : is_directory_node ((files_at between f).tree.node d) ≡ true
          there_directory = ap (λ (t : Tree ℕ). is_directory_node (t.node d)) is.tree ∙ is.directory_there

      start : AreAlike gone (tree_of (inodes_at between f)) copied.tree
      start m stays = ap (λ (t : Tree ℕ). t.node m) is.tree

      freed_removal : (o : Option ℕ) → freeing_row d name o [] ≡ removal d name o
      freed_removal None = refl
      freed_removal (Some one) = refl

      marks_suit : (b : Bool) → AllSuit gone (marking b o)
      marks_suit true = (tt, tt)
      marks_suit false = tt

      made : AreAlike gone (tree_of (made_new place name node opaque [] d o (inodes_at between f)))
          (after_row copied (row had d o (copy_node d node) opaque)).tree
      made m stays =
          row_alike gone (marking opaque o) (made_over (keeps_in place) name (copy_node d node) had [] d o
          (inodes_at between f))
          (folded (changed nat_eq) copied (freeing_row d name had [] ++ (Make d name o (copy_node d node) ∷ [])))
          (marks_suit opaque)
          (made_alike_all d name had [] (inodes_at between f) copied start (keeps_in place) o (copy_node d node) differ) m
          stays
          ∙ ap (λ (files : FileTree ℕ). files.tree.node m) (folded-both (changed nat_eq)
          (freeing_row d name had [] ++ (Make d name o (copy_node d node) ∷ [])) (marking opaque o) copied)
          ∙ ap (λ r. (after_row copied ((r ++ (Make d name o (copy_node d node) ∷ [])) ++ marking opaque o)).tree.node m)
          (freed_removal had)

      stays_so : (inode : ℕ) → had ≢ Some inode → gone inode ≡ false
      stays_so inode other = by had other
        where
          by : (o : Option ℕ) → o ≢ Some inode → goes_with o [] inode ≡ false
          by None other = refl
          by (Some one) other = test (nat_eq inode one) refl
            where
              test : (b : Bool) → nat_eq inode one ≡ b → (nat_eq inode one || false) ≡ false
              test false e = ap (λ b. b || false) e
              test true e = absurd (other (ap Some (sym (eqb-true inode one e))))

      tree_after : (inode : ℕ) → leaves_in place ≢ Some inode
          → (files_at after f).tree.node inode
          ≡ (changed_above fresh stack merge.upper (MakeAt path name node)).tree.node inode
      tree_after inode other =
          ap (λ (inodes : Inodes ℕ). (tree_of inodes).node inode) (inodes_after f (made_new place name node opaque
          (within_of (files_at between f).tree had) d o) between after making there)
          ∙ ap (λ within. (tree_of (made_new place name node opaque within d o (inodes_at between f))).node inode) within_is
          ∙ made inode (stays_so inode other)
          ∙ ap (λ (files : FileTree ℕ). files.tree.node inode) same_row

pub new_made : RowsAreChangesAbove → NewObjectsAreMade
new_made rows fresh mounter merge trees promised upper lowers overlay path directory number name node place opaque births
    room after births_after object whole new own same_upper same_promised leads well has_nothing marked ready empty made at
    numbered inode other =
    let stack = stack_of trees upper lowers mounter in
    let is = made_at fresh mounter merge trees promised upper lowers overlay path directory name whole new leads births room
    made.between births_after made.directory place own same_upper same_promised
    (place_named place name promised births room ready) made.made at in
    let there = upper_there fresh mounter merge trees promised upper lowers place births made.between births_after
    made.directory whole same_promised made.made in
    let below : is_directory_below trees upper lowers (path ++ name ∷ [])
    ≡ directory_below stack merge.upper (path ++ name ∷ []) =
    ap (λ (files : FileTree ℕ). directory_below stack files (path ++ name ∷ []))
    (sym (same_upper ∙ ap (λ (id : FilesystemId). files_at trees id.count) own)) in
    tree_after rows fresh mounter merge trees promised upper lowers overlay path directory number name node whole new leads
    well has_nothing place made.between made.directory object is opaque (marked ∙ below) numbered after made.vacant there empty
    made.making inode other
