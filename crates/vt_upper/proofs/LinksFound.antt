-- The object of a further name and the directory of that, in the layers and in the plans of their copies.
use Rattle.std.proofs.Common.{◌≡◌, ◌∙◌, ◌+◌, ◌<◌, ◌∷◌, ◌++◌, [], append-nil, append_assoc, arith, ap, Bool, false, is_some, IsSome, length, List, None, not, Option, refl, reverse, slice_get, Some, subst, sym, true, true≢false, ⊎_elim, ℕ, option_and_then, length-append}
use Rattle.vt_spec.proofs.Common.{Fresh, IsDirectory, IsTree, Node, OpenLayer, Shown, Tree, at_path, entry_at, is_directory_node, is_kind_in, layer_node, led, none_is_some, same_Some, shown, then_some, when}
use Rattle.vt_spec.specs.declared.attributes.Kind.TheVariants.{White}
use Rattle.vt_laws_trees.proofs.layers.layers.ShownDirectories.{shown_in_directory}
use Rattle.vt_laws_trees.proofs.layers.layers.ShownPaths.{one_path}
use Rattle.vt_copyup.specs.declared.forks.Fork.{Fork}
use Rattle.vt_copyup.specs.declared.plans.Piece.{Piece}
use Rattle.vt_copyup.specs.declared.plans.Plan.{Plan}
use Rattle.vt_copyup.specs.ForkLaws.{AreDirectories, Elsewhere}
use Rattle.vt_copyup.specs.Forks.{HeadsDiffer, IsForkOf, pieces_in}
use Rattle.vt_copyup.specs.Planned.{IsPlanOf, names_of}
use Rattle.vt_copyup.specs.Plans.{AreNested, copies_of, in_turn}
use Rattle.vt_copyup.proofs.ForksApart.{planned_apart}
use Rattle.vt_copyup.proofs.ForksMade.{names_both}
use Rattle.vt_copyup.proofs.Parted.{elsewhere_none}
use Rattle.vt_copyup.proofs.Seen.{front_shown, open_layers}
use Rattle.vt_fs.specs.FilesystemsValue.{Filesystems, files_at}
use Rattle.vt_fs.specs.Trees.Names.{IsNamed}
use Rattle.vt_location.specs.declared.locations.InodeRef.{InodeRef}
use Rattle.vt_location.specs.declared.locations.NodeRef.{NodeRef}
use Rattle.vt_location.specs.Locations.{inode_of, number_of}
use Rattle.vt_location.specs.NodeNumbers.{IsSmall}
use Rattle.vt_overlay.specs.Merge.LayerValue.{layer_of, layers_of}
use Rattle.vt_overlay.specs.MergedTree.{AreLayers}
use Rattle.vt_upper.specs.Copies.{AreCopiesOf, IsLastOf}
use Rattle.vt_upper.specs.Copies.AreCopiesOf.{is_above, is_below}
use Rattle.vt_upper.specs.Linking.{MayLinkIn}
use Rattle.vt_upper.specs.New.{IsAbove}
use Rattle.vt_upper.proofs.FitCopies.{fit_copies, fit_shown, shown_first}
use Rattle.vt_upper.proofs.PlacesFound.{above_there}
use Rattle.vt_upper.proofs.PlansOf.{AreSplit, count_is, split_layers}
use Rattle.vt_upper_overlay.specs.MergedAbove.{number_at, object_lent, object_shown, upper_count}
use Rattle.vt_upper_overlay.specs.UpperValue.{UpperOverlayValue}
use Rattle.vt_upper_overlay.proofs.Objects.{real_shown_at}
use Rattle.vt_upper_overlay.proofs.Shown.{IsLooked, shown_node}

abbrev pub IsPlain : Option (Node ℕ) → Type 0
IsPlain node = is_directory_node node ≡ false

abbrev pub IsADirectory : Option (Node ℕ) → Type 0
IsADirectory node = is_directory_node node ≡ true

pub plain_kind : (a b : Option (Node ℕ)) → is_directory_node a ≡ is_directory_node b → IsPlain a → IsPlain b
plain_kind a b same is = sym same ∙ is

directory_kind : (a b : Option (Node ℕ)) → is_directory_node a ≡ is_directory_node b → IsADirectory a → IsADirectory b
directory_kind a b same is = sym same ∙ is

-- what is shown is no whiteout
when_shown : (b : Bool) (seen : Shown ℕ) → IsSome (when (not b) seen) → b ≡ false
when_shown true seen some = absurd (true≢false (sym some))
when_shown false seen some = refl

-- where names lead is named
named_by : (tree : Tree ℕ) (name : List ℕ) (names : List (List ℕ)) (from to : ℕ) → led tree from (name ∷ names) ≡ Some to
    → IsNamed tree to
named_by tree name [] from to leads = by (entry_at tree from name) refl leads
  where
    by : (o : Option ℕ) → entry_at tree from name ≡ o
        → option_and_then (λ next. led tree next []) o ≡ Some to → IsNamed tree to
    by None e f = none_is_some to f
    by (Some next) e f = record { directory = from; name = name; leads = e ∙ f }
named_by tree name (word ∷ words) from to leads =
    by (entry_at tree from name) leads (λ next. named_by tree word words next to)
  where
    by : (o : Option ℕ) → option_and_then (λ next. led tree next (word ∷ words)) o ≡ Some to
        → ((next : ℕ) → led tree next (word ∷ words) ≡ Some to → IsNamed tree to) → IsNamed tree to
    by None f on = none_is_some to f
    by (Some next) f on = on next f

-- pieces that are nested are all of directories, if the last one is
nested_directories : (pieces : List Piece) → AreNested pieces
    → (0 < length pieces → IsLastOf IsADirectory (λ node. false ≡ true) pieces None) → AreDirectories pieces
nested_directories [] nested last = tt
nested_directories (piece ∷ []) nested last = (last (omega arith), tt)
nested_directories (piece ∷ next ∷ rest) nested last =
    (nested.0, nested_directories (next ∷ rest) nested.2 (λ some. last (omega arith)))

directories_back : (xs ys : List Piece) → AreDirectories (xs ++ ys) → AreDirectories ys
directories_back [] ys all = all
directories_back (x ∷ xs) ys all = directories_back xs ys all.1

module _ (trees : Filesystems) (overlay : UpperOverlayValue) (looked : IsLooked trees overlay) where
  abbrev layers : List (OpenLayer ℕ)
  layers = layers_of trees overlay.layers.lowers

  abbrev are : AreLayers trees overlay.layers.lowers
  are = looked.stands.layers

  abbrev split : AreSplit overlay.layers.lowers
  split = split_layers overlay.layers.lowers looked.stands.upper

  first_is : slice_get overlay.layers.lowers 0 ≡ Some split.upper
  first_is = ap (λ l. slice_get l 0) split.is

  upper_is : upper_count overlay ≡ split.upper.directory.filesystem.count
  upper_is = count_is trees overlay looked.stands split.upper first_is

  abbrev tree : Tree ℕ
  tree = (layer_of trees split.upper).tree

  is_tree : IsTree tree
  is_tree = (are 0 split.upper first_is).tree

  -- what is shown at a path is shown at each front of it, in a directory
  shown_fronts : (path rest : List (List ℕ)) → IsSome (shown layers (path ++ rest)) → IsSome (shown layers path)
  shown_fronts path [] some = subst (λ p. IsSome (shown layers p)) (append-nil path) some
  shown_fronts path (name ∷ rest) some = front_shown trees overlay.layers.lowers are path name
      (shown_fronts (path ++ name ∷ []) rest
      (subst (λ p. IsSome (shown layers p)) (sym (append_assoc path (name ∷ []) rest)) some))

  front_kind : (path : List (List ℕ)) (name : List ℕ) → IsSome (shown layers (path ++ name ∷ []))
      → IsADirectory (then_some (shown layers path) (layer_node layers))
  front_kind path name some = by (shown layers (path ++ name ∷ [])) refl some
    where
      by : (o : Option (Shown ℕ)) → shown layers (path ++ name ∷ []) ≡ o → IsSome o
          → IsADirectory (then_some (shown layers path) (layer_node layers))
      by None e s = absurd (true≢false (sym s))
      by (Some seen) e s =
          let there = shown_in_directory layers (open_layers trees overlay.layers.lowers are) 0 path name seen e in
          let zero_more : 0 + there.place ≡ there.place = omega arith in
          let node : then_some (shown layers path) (layer_node layers) ≡ there.layer.tree.node there.object =
          ap (λ o. then_some o (layer_node layers)) there.is
          ∙ ap (λ n. then_some (slice_get layers n) (λ (layer : OpenLayer ℕ). layer.tree.node there.object)) zero_more
          ∙ ap (λ o. then_some o (λ (layer : OpenLayer ℕ). layer.tree.node there.object)) there.there in
          ap is_directory_node node ∙ there.directory

  -- a node is shown at its path
  module _ (node : NodeRef) (small : IsSmall node) (path : List (List ℕ))
      (numbered : number_at trees overlay path ≡ Some (number_of node)) where
    pub shown_there : IsSome (shown layers path)
    shown_there = ⊎_elim (λ a. ap is_some a.is) (λ b. ap is_some b.is)
        (shown_node trees overlay looked path node small numbered)

    kind_there : (Fits : Option (Node ℕ) → Type 0)
        → ((a b : Option (Node ℕ)) → is_directory_node a ≡ is_directory_node b → Fits a → Fits b)
        → Fits (object_lent trees overlay node) → Fits (then_some (shown layers path) (layer_node layers))
    kind_there Fits fits_kind fit = fit_shown trees overlay Fits fits_kind looked node small fit (shown layers path)
        (real_shown_at trees overlay looked node small path numbered)

    -- in the upper layer it is no whiteout
    pub no_whiteout : (object : ℕ) → at_path (layer_of trees split.upper) path ≡ Some object
        → is_kind_in White (tree.node object) ≡ false
    no_whiteout object leads = when_shown (is_kind_in White (tree.node object)) (record { layer = 0; object = object })
        (subst IsSome (shown_first trees overlay.layers.lowers split.upper first_is path object leads) shown_there)

  -- an object that is no directory
  module _ (object : NodeRef) (object_small : IsSmall object)
      (some : IsSome (object_shown trees overlay (number_of object)))
      (plain : is_directory_node (object_lent trees overlay object) ≡ false) (first : Plan)
      (copies : AreCopiesOf true trees overlay object first)
      (count : first.directory.filesystem.count ≡ upper_count overlay) where
    abbrev own : Tree ℕ
    own = (files_at trees first.directory.filesystem.count).tree

    own_count : first.directory.filesystem.count ≡ split.upper.directory.filesystem.count
    own_count = count ∙ upper_is

    -- its last copy is none, or what is there
    pub last_plain : IsLastOf IsPlain IsPlain (in_turn first) (own.node (inode_of first.directory))
    last_plain = fit_copies trees overlay IsPlain plain_kind looked object object_small plain trees true first copies
        (ap (files_at trees) own_count)

    -- in the upper layer it is there, and has a name
    module _ (none : in_turn first ≡ []) where
      abbrev above_at : IsAbove trees overlay object first.directory
      above_at = above_there trees overlay looked object object_small some first none copies

      pub is_plain : IsPlain (own.node (inode_of first.directory))
      is_plain = subst (λ pieces. IsLastOf IsPlain IsPlain pieces (own.node (inode_of first.directory))) none last_plain

      led_there : led own (inode_of split.upper.directory) above_at.path ≡ Some (inode_of first.directory)
      led_there = ap (λ m. led (files_at trees m).tree (inode_of split.upper.directory) above_at.path) own_count
          ∙ above_at.leads split.upper first_is

      root_there : IsDirectory own (inode_of split.upper.directory)
      root_there = subst (λ m. IsDirectory (files_at trees m).tree (inode_of split.upper.directory)) (sym own_count)
          (are 0 split.upper first_is).directory

      pub is_named : IsNamed own (inode_of first.directory)
      is_named = by above_at.path led_there
        where
          by : (path : List (List ℕ)) → led own (inode_of split.upper.directory) path ≡ Some (inode_of first.directory)
              → IsNamed own (inode_of first.directory)
          by [] e = absurd (true≢false (sym (subst (IsDirectory own) (same_Some (inode_of split.upper.directory)
              (inode_of first.directory) e) root_there) ∙ is_plain))
          by (word ∷ words) e = named_by own word words (inode_of split.upper.directory) (inode_of first.directory) e

      pub is_alive : is_some (own.node (inode_of first.directory)) ≡ true
      is_alive = (subst (λ m. IsTree (files_at trees m).tree) (sym own_count) is_tree).alive is_named.directory
          is_named.name (inode_of first.directory) is_named.leads

  -- where something is copied, the copies are those of a path
  pub record IsAtPath (node : NodeRef) (plan : Plan) : Type 0 where
    pub path : List (List ℕ)
    pub numbered : number_at trees overlay path ≡ Some (number_of node)
    pub is : IsPlanOf true trees split.upper split.lowers overlay.layers.number path plan

  pub at_path_of : (node : NodeRef) (plan : Plan) → AreCopiesOf true trees overlay node plan → 0 < length (in_turn plan)
      → IsAtPath node plan
  at_path_of node plan (is_above _ real is zero_layer same nothing) some =
      let none : length (in_turn plan) ≡ 0 = ap (λ (items : List Piece). length (reverse items)) nothing in
      absurd (let no : ⊥ = omega (arith, some, none) in no)
  at_path_of node plan (is_below _ path numbered planned) some =
      record { path = path; numbered = numbered; is = planned split.upper split.lowers split.is }

  module _ (object directory : NodeRef) (object_small : IsSmall object) (directory_small : IsSmall directory)
      (name : List ℕ) (may : MayLinkIn trees overlay object directory name) (first second : Plan)
      (object_copies : AreCopiesOf true trees overlay object first)
      (directory_copies : AreCopiesOf true trees overlay directory second)
      (first_count : first.directory.filesystem.count ≡ upper_count overlay)
      (second_count : second.directory.filesystem.count ≡ upper_count overlay) (fork : Fork)
      (forked : IsForkOf trees first second fork) where
    abbrev f : ℕ
    f = first.directory.filesystem.count

    abbrev a : List Piece
    a = pieces_in fork.shared

    abbrev b : List Piece
    b = pieces_in fork.first

    abbrev c : List Piece
    c = pieces_in fork.second

    pub one_filesystem : second.directory.filesystem ≡ first.directory.filesystem
    one_filesystem = λ i. record { count = (second_count ∙ sym first_count) i }

    count_f : f ≡ split.upper.directory.filesystem.count
    count_f = first_count ∙ upper_is

    first_names : names_of (in_turn first) ≡ names_of a ++ names_of b
    first_names = ap names_of forked.first_is ∙ names_both a b

    second_names : names_of (in_turn second) ≡ names_of forked.twice ++ names_of c
    second_names = ap names_of forked.second_is ∙ names_both forked.twice c

    -- no copy of the object alone begins under the new name in the directory
    pub head_differs : (at : IsAtPath object first) (path : List (List ℕ))
        → number_at trees overlay path ≡ Some (number_of directory) → at.is.front ++ names_of a ≡ path
        → HeadsDiffer (names_of b) (name ∷ [])
    head_differs at path numbered same = by b refl
      where
        by : (pieces : List Piece) → b ≡ pieces → HeadsDiffer (names_of pieces) (name ∷ [])
        by [] e = tt
        by (piece ∷ rest) e = λ word.
            let whole : (path ++ name ∷ []) ++ names_of rest ≡ at.path =
            append_assoc path (name ∷ []) (names_of rest)
            ∙ (λ i. sym same i ++ (sym word i ∷ names_of rest))
            ∙ append_assoc at.is.front (names_of a) (piece.copy.name.items ∷ names_of rest)
            ∙ ap (λ l. at.is.front ++ (names_of a ++ names_of l)) (sym e)
            ∙ ap (λ l. at.is.front ++ l) (sym first_names) ∙ at.is.whole in
            true≢false (sym (shown_fronts (path ++ name ∷ []) (names_of rest)
            (subst (λ p. IsSome (shown layers p)) (sym whole) (shown_there object object_small at.path at.numbered)))
            ∙ ap is_some (may.may_make.free path numbered))

    -- paths that lead to one directory of the upper layer are one
    pub one_way : (path other : List (List ℕ)) (to : ℕ) → led tree (inode_of split.upper.directory) path ≡ Some to
        → led tree (inode_of split.upper.directory) other ≡ Some to → IsDirectory tree to → path ≡ other
    one_way path other to leads other_leads is =
        one_path tree is_tree (inode_of split.upper.directory) path other to leads other_leads is

    module _ (there : 0 < length (in_turn first) → IsDirectory (files_at trees f).tree (inode_of first.directory)) where
      pub there_above : 0 < length (in_turn first) → IsDirectory tree (inode_of first.directory)
      there_above some = subst (λ n. IsDirectory (files_at trees n).tree (inode_of first.directory)) count_f (there some)

      -- where copies are shared both begin in one directory
      pub one_front : (at : IsAtPath object first) (other : IsAtPath directory second) → 0 < length (in_turn first)
          → 0 < length fork.shared.pieces.items → at.is.front ≡ other.is.front
      one_front at other some shared = one_way at.is.front other.is.front (inode_of first.directory) at.is.leads
          (other.is.leads ∙ ap (λ (d : InodeRef). Some (inode_of d)) (sym same)) (there_above some)
        where
          same : first.directory ≡ second.directory
          same = λ i. record { filesystem = sym one_filesystem i; slot = forked.beside shared i }

      -- the object has copies of its own, since it is no directory
      module _ (shared : 0 < length fork.shared.pieces.items) (at : IsAtPath object first)
          (other : IsAtPath directory second) (some : 0 < length (in_turn first)) (none : b ≡ []) where
        object_path : at.path ≡ at.is.front ++ names_of a
        object_path = sym at.is.whole ∙ ap (λ l. at.is.front ++ l) (first_names
            ∙ ap (λ l. names_of a ++ names_of l) none ∙ append-nil (names_of a))

        directory_path : other.path ≡ at.path ++ names_of c
        directory_path = sym other.is.whole ∙ ap (λ l. other.is.front ++ l) second_names
            ∙ sym (append_assoc other.is.front (names_of forked.twice) (names_of c))
            ∙ (λ i. (sym (one_front at other some shared) i ++ forked.same i) ++ names_of c)
            ∙ ap (λ p. p ++ names_of c) (sym object_path)

        path_plain : IsPlain (then_some (shown layers at.path) (layer_node layers))
        path_plain = kind_there object object_small at.path at.numbered IsPlain plain_kind may.plain

        pub object_alone : ⊥
        object_alone = by c refl
          where
            by : (pieces : List Piece) → c ≡ pieces → ⊥
            by [] e = true≢false (sym (subst (λ p. IsADirectory (then_some (shown layers p) (layer_node layers)))
                (directory_path ∙ ap (λ l. at.path ++ names_of l) e ∙ append-nil at.path)
                (kind_there directory directory_small other.path other.numbered IsADirectory directory_kind
                may.may_make.directory)) ∙ path_plain)
            by (piece ∷ rest) e = true≢false (sym (front_kind at.path piece.copy.name.items
                (shown_fronts (at.path ++ piece.copy.name.items ∷ []) (names_of rest)
                (subst (λ p. IsSome (shown layers p))
                (directory_path ∙ ap (λ l. at.path ++ names_of l) e
                ∙ sym (append_assoc at.path (piece.copy.name.items ∷ []) (names_of rest)))
                (shown_there directory directory_small other.path other.numbered)))) ∙ path_plain)

    -- the copies that the directory's plan does not share are of other nodes
    pub elsewhere : AreNested (in_turn second)
        → (0 < length (in_turn second) → IsLastOf IsADirectory (λ node. false ≡ true) (in_turn second) None)
        → Elsewhere (copies_of (in_turn first)) c
    elsewhere nested last = by (in_turn first) refl c refl
      where
        by : (pieces : List Piece) → in_turn first ≡ pieces → (others : List Piece) → c ≡ others
            → Elsewhere (copies_of (in_turn first)) c
        by [] e others g = subst (λ l. Elsewhere (copies_of l) c) (sym e) (elsewhere_none c)
        by (piece ∷ rest) e [] g = subst (Elsewhere (copies_of (in_turn first))) (sym g) tt
        by (piece ∷ rest) e (next ∷ others) g =
            let some : 0 < length (in_turn first) = subst (λ (l : List Piece). 0 < length l) (sym e) (omega arith) in
            let long : length (in_turn second) ≡ length (forked.twice ++ c) = ap length forked.second_is in
            let sum = length-append forked.twice c in
            let more : length c ≡ length (next ∷ others) = ap length g in
            let other_some : 0 < length (in_turn second) = omega (arith, long, sum, more) in
            let at = at_path_of object first object_copies some in
            let other = at_path_of directory second directory_copies other_some in
            let fresh : Fresh ℕ = λ n. n in
            planned_apart fresh overlay.layers.mounter true true trees split.upper split.lowers overlay.layers.number
            at.path other.path first second fork (subst (AreLayers trees) split.is are) at.is other.is forked
            (directories_back forked.twice c (subst AreDirectories forked.second_is
            (nested_directories (in_turn second) nested last)))
