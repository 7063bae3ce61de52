-- A tree that is found along the paths of layers: its directories, their names and their parents.
use Rattle.std.proofs.Common.{◌≡◌, ◌≢◌, ◌∙◌, ◌∷◌, ◌++◌, ◌||◌, ◌+◌, ◌≤◌, [], ap, Bool, cond, false, filter, find, List, map, None, Option, option_map, refl, Some, subst, sym, true, true≢false, ℕ, filter_map, if◌then◌else◌, is_some, length, nat_eq, not, slice_get, unwrap_or, arith, eq-eqb, eqb-true}
use Rattle.vt_spec.proofs.Common.{Entries, Node, OpenLayer, Overlay, Real, Shown, Tree, World, cons_option, entries_in, entry_named, entry_to, found_passes, has_entry_to, holds_of, is_among, is_directory_node, is_removed, layer_node, list_any, named_parent, names_in, names_shown, node_shown, none_is_some, or_right, parent_in, paths_from, real_node, same_Some, shown, targets_in, then_some, when, without_last, common_steps}
use Rattle.vt_spec.proofs.Nodes.{same_name}
use Rattle.vt_laws_trees.proofs.layers.layers.ShownAtPath.{computed}
use Rattle.vt_laws_trees.proofs.layers.layers.ShownDirectories.{AreOpen, last_of, shown_in_directory}
use Rattle.vt_laws_trees.proofs.layers.layers.ShownNames.{is_name, name_found, names_are_those_shown}
use Rattle.vt_laws_trees.proofs.layers.layers.ShownObjects.{Among, paths_complete, shown_before}
use Rattle.vt_laws_trees.proofs.layers.layers.ShownPaths.{not_empty}
use Rattle.vt_laws_trees.proofs.layers.layers.UpperShown.{without_last_of_longer}
use Rattle.vt_laws_trees.proofs.overlays.seen.SeenTrees.{shown_number}
use Rattle.vt_laws_trees.specs.Overlays.MergedTrees.{entries_shown, inode_shown, layers_shown, node_as, number_shown, parent_shown}
use Rattle.vt_laws_trees.specs.Overlays.TreesSeen.{path_numbered, tree_seen}
use Rattle.vt_upper_overlay.specs.Naming.{only_directory, way_numbered}

-- entries that are made of names with numbers
abbrev pub with_names : (List ℕ → Option ℕ) → List (List ℕ) → Entries ℕ
with_names number names = filter_map (λ name. option_map (λ n. (name, n)) (number name)) names

entry_listed : (number : List ℕ → Option ℕ) (name : List ℕ) (names : List (List ℕ))
    → entry_named name (with_names number names) ≡ cond (list_any (is_name name) names) (number name) None
entry_listed number name [] = refl
entry_listed number name (other ∷ names) =
    by (number other) refl (is_name name other) refl (entry_listed number name names)
  where
    by : (o : Option ℕ) → number other ≡ o → (b : Bool) → is_name name other ≡ b
        → entry_named name (with_names number names) ≡ cond (list_any (is_name name) names) (number name) None
        → entry_named name (cons_option (option_map (λ n. (other, n)) o) (with_names number names))
        ≡ cond (b || list_any (is_name name) names) (number name) None
    by o e b same rest = grind (arith, common_steps, same, is_name, same_name)

-- names that have numbers stay
names_kept : (number : List ℕ → Option ℕ) (test : List ℕ → Bool) → ((name : List ℕ) → is_some (number name) ≡ test name)
    → (names : List (List ℕ)) → map (λ (entry : List ℕ × ℕ). entry.0)
    (filter_map (λ name. option_map (λ n. (name, n)) (number name)) (filter test names)) ≡ filter test names
names_kept number test same [] = refl
names_kept number test same (name ∷ names) =
    grind (arith, common_steps, names_kept number test same names, map, is_some)

-- what is among a list and passes is not missed
not_missed : {A : Type 0} (test : A → Bool) (list : List A) (a : A) → test a ≡ true → Among list a
    → find test list ≢ None
not_missed test [] a passes among e = absurd among
not_missed {A = A} test (first ∷ list) a passes among e =
    grind (arith, common_steps, test first, not_missed test list a passes)

-- a node with another parent and other entries
module _ (parent own : ℕ) (entries : Entries ℕ) where
  directory_as : (node : Option (Node ℕ))
      → is_directory_node (option_map (node_as parent entries) node) ≡ is_directory_node node
  directory_as object = grind (arith, common_steps)

  record HasParts (node : Option (Node ℕ)) : Type 0 where
    pub entries_are : entries_in (option_map (node_as parent entries) node) ≡ entries
    pub parent_is : parent_in own (option_map (node_as parent entries) node) ≡ parent
    pub names_are : names_in (option_map (node_as parent entries) node) ≡ map (λ entry. entry.0) entries

  has_parts : (node : Option (Node ℕ)) → is_directory_node node ≡ true → HasParts node
  has_parts object is = grind (arith, common_steps)

-- what is no directory has no entries, and is its own parent; so is a directory that is its own parent, without entries
pub record IsAlone (own : ℕ) (node : Option (Node ℕ)) : Type 0 where
  pub entries : entries_in node ≡ []
  pub parent : parent_in own node ≡ own

no_directory_alone : (own : ℕ) (node : Option (Node ℕ)) → is_directory_node node ≡ false → IsAlone own node
no_directory_alone own object isnt = grind (arith, common_steps)

held_alone : (own : ℕ) (node : Option (Node ℕ)) → IsAlone own (option_map (node_as own []) node)
held_alone own object = grind (arith, common_steps)

no_targets : (own : ℕ) (node : Option (Node ℕ)) → IsAlone own node → targets_in node ≡ []
no_targets own object alone = grind (arith, common_steps, alone.entries)

no_names_in : (own : ℕ) (node : Option (Node ℕ)) → IsAlone own node → names_in node ≡ []
no_names_in own object alone = grind (arith, common_steps, alone.entries)

filled : (o : Option ℕ) → is_some o ≡ true → o ≡ Some (unwrap_or o 0)
filled o some = grind (arith, common_steps)

when_some : {A : Type 0} (b : Bool) (a m : A) → Some m ≡ when b a → a ≡ m
when_some b a m e = grind (arith, common_steps)

module _ (number_of : Real ℕ → ℕ) (held : ℕ → Option (Real ℕ)) (longest : ℕ) (world : World ℕ)
    (overlay : Overlay ℕ) where
  abbrev pub all : List (OpenLayer ℕ)
  all = layers_shown world overlay

  abbrev pub numbered : List (List ℕ) → Option ℕ
  numbered path = number_shown number_of world overlay path

  abbrev pub tree : Tree ℕ
  tree = tree_seen number_of held longest world overlay

  abbrev pub found_at : ℕ → Option (List (List ℕ))
  found_at number = path_numbered number_of longest world overlay number

  abbrev pub way_of : ℕ → Option (List (List ℕ))
  way_of number = way_numbered number_of longest world overlay number

  abbrev pub inode_there : List (List ℕ) → Option (Node ℕ)
  inode_there path = node_shown nat_eq world overlay path

  pub number_is_shown : (path : List (List ℕ)) → is_some (numbered path) ≡ is_some (shown all path)
  number_is_shown path = grind (arith, common_steps)

  -- a name that is not shown leads nowhere
  not_shown : (path : List (List ℕ)) (name : List ℕ) → list_any (is_name name) (names_shown all path) ≡ false
      → numbered (path ++ name ∷ []) ≡ None
  not_shown path name out = by (shown all (path ++ name ∷ [])) refl (numbered (path ++ name ∷ [])) refl
      (number_is_shown (path ++ name ∷ []))
    where
      by : (o : Option (Shown ℕ)) → shown all (path ++ name ∷ []) ≡ o
          → (n : Option ℕ) → numbered (path ++ name ∷ []) ≡ n
          → is_some (numbered (path ++ name ∷ [])) ≡ is_some (shown all (path ++ name ∷ []))
          → numbered (path ++ name ∷ []) ≡ None
      by None e None n same = n
      by None e (Some number) n same = absurd (true≢false (ap is_some (sym n) ∙ same ∙ ap is_some e))
      by (Some seen) e n is same =
          let has = (names_are_those_shown all path name).1 (seen, (computed all (path ++ name ∷ []) seen).0 e) in
          absurd (true≢false (sym (name_found name (names_shown all path) has.0 has.1 has.2) ∙ out))

  entry_shown : (path : List (List ℕ)) (name : List ℕ)
      → entry_named name (entries_shown number_of world overlay path) ≡ numbered (path ++ name ∷ [])
  entry_shown path name = entry_listed (λ n. numbered (path ++ n ∷ [])) name (names_shown all path)
      ∙ by (list_any (is_name name) (names_shown all path)) refl
    where
      by : (b : Bool) → list_any (is_name name) (names_shown all path) ≡ b
          → cond b (numbered (path ++ name ∷ [])) None ≡ numbered (path ++ name ∷ [])
      by b e = grind (arith, common_steps, not_shown)

  names_at : (path : List (List ℕ)) → map (λ (entry : List ℕ × ℕ). entry.0)
      (entries_shown number_of world overlay path) ≡ names_shown all path
  names_at path = names_kept (λ name. numbered (path ++ name ∷ [])) (λ name. is_some (shown all (path ++ name ∷ [])))
      (λ name. number_is_shown (path ++ name ∷ [])) _

  -- a directory at a path
  pub record IsDirectoryAt (number : ℕ) (path : List (List ℕ)) : Type 0 where
    pub found : found_at number ≡ Some path
    pub node : tree.node number ≡ inode_shown number_of world overlay path
    pub directory : is_directory_node (inode_there path) ≡ true

  pub directory_at : (number : ℕ) (way : List (List ℕ)) → way_of number ≡ Some way → IsDirectoryAt number way
  directory_at number way e = by (found_at number) refl e
    where
      there : (path : List (List ℕ)) → found_at number ≡ Some path → (b : Bool)
          → is_directory_node (inode_there path) ≡ b → (if b then Some path else None) ≡ Some way
          → IsDirectoryAt number way
      there path p b e last = grind (arith, common_steps)

      by : (o : Option (List (List ℕ))) → found_at number ≡ o → only_directory world overlay o ≡ Some way
          → IsDirectoryAt number way
      by o p e = grind (arith, common_steps, none_is_some, there, inode_there)

  -- what has no way has no entries, and is its own parent
  pub no_way_alone : (number : ℕ) → way_of number ≡ None → IsAlone number (tree.node number)
  no_way_alone number e = by (found_at number) refl e
    where
      there : (path : List (List ℕ)) → found_at number ≡ Some path → (b : Bool)
          → is_directory_node (inode_there path) ≡ b → (if b then Some path else None) ≡ None
          → IsAlone number (tree.node number)
      there path p true d e = absurd (none_is_some path (sym e))
      there path p false d e = no_directory_alone number (tree.node number)
          (grind (arith, common_steps, directory_as, inode_there))

      by : (o : Option (List (List ℕ))) → found_at number ≡ o → only_directory world overlay o ≡ None
          → IsAlone number (tree.node number)
      by None p e = subst (IsAlone number) (grind (arith, common_steps))
          (held_alone number (then_some (held number) (real_node nat_eq world overlay)))
      by (Some path) p e = there path p (is_directory_node (inode_there path)) refl e

  pub no_entry_of : (number : ℕ) (name : List ℕ) → way_of number ≡ None
      → None ≡ entry_named name (entries_in (tree.node number))
  no_entry_of number name e = ap (entry_named name) (sym (no_way_alone number e).entries)

  pub no_entries_of : (number : ℕ) → way_of number ≡ None → entries_in (tree.node number) ≡ []
  no_entries_of number e = (no_way_alone number e).entries

  pub no_names_of : (number : ℕ) → way_of number ≡ None → names_in (tree.node number) ≡ []
  no_names_of number e = no_names_in number (tree.node number) (no_way_alone number e)

  pub own_parent_of : (number : ℕ) → way_of number ≡ None → parent_in number (tree.node number) ≡ number
  own_parent_of number e = (no_way_alone number e).parent

  module _ (number : ℕ) (way : List (List ℕ)) (is : way_of number ≡ Some way) where
    at : IsDirectoryAt number way
    at = directory_at number way is

    parts : HasParts (parent_shown number_of world overlay way) number (entries_shown number_of world overlay way)
        (inode_there way)
    parts = has_parts (parent_shown number_of world overlay way) number (entries_shown number_of world overlay way)
        (inode_there way) at.directory

    pub entry_of : (name : List ℕ)
        → numbered (way ++ name ∷ []) ≡ entry_named name (entries_in (tree.node number))
    entry_of name = cc (at.node, parts.entries_are, entry_shown way name)

    pub entries_of : entries_in (tree.node number) ≡ entries_shown number_of world overlay way
    entries_of = ap entries_in at.node ∙ parts.entries_are

    pub names_of : names_shown all way ≡ names_in (tree.node number)
    names_of = cc (at.node, parts.names_are, names_at way)

    pub is_directory : is_directory_node (tree.node number) ≡ true
    is_directory = grind (arith, common_steps, at.node, at.directory, directory_as)

    pub is_found : found_at number ≡ Some way
    is_found = at.found

  -- a path that is found has the number
  pub found_numbered : (number : ℕ) (path : List (List ℕ)) → found_at number ≡ Some path → numbered path ≡ Some number
  found_numbered number path e = shown_number number (numbered path)
      (found_passes (λ path. holds_of (nat_eq number) (numbered path)) (paths_from longest all []) path e)

  pub way_numbered_is : (number : ℕ) (way : List (List ℕ)) → way_of number ≡ Some way → numbered way ≡ Some number
  way_numbered_is number way e = found_numbered number way (is_found number way e)

  -- The layers are directories of trees, no path at which something is shown is longer than this, and a directory is at
  -- no other path.
  pub record IsNaming : Type 0 where
    pub open_layers : AreOpen all
    pub bounded : (path : List (List ℕ)) (seen : Shown ℕ) → shown all path ≡ Some seen → length path ≤ longest
    pub apart : (path other : List (List ℕ)) (number : ℕ) → numbered path ≡ Some number → numbered other ≡ Some number
        → is_directory_node (inode_there path) ≡ true → other ≡ path
    pub root : is_directory_node (inode_there []) ≡ true

  module _ (naming : IsNaming) where
    -- what has a number is found by it
    pub is_found_by : (number : ℕ) (path : List (List ℕ)) → numbered path ≡ Some number → found_at number ≢ None
    is_found_by number path e = by (shown all path) refl
      where
        by : (o : Option (Shown ℕ)) → shown all path ≡ o → found_at number ≢ None
        by None s = absurd (true≢false (sym (ap is_some e) ∙ number_is_shown path ∙ ap is_some s))
        by (Some seen) s = not_missed (λ path. holds_of (nat_eq number) (numbered path)) (paths_from longest all []) path
            (ap (holds_of (nat_eq number)) e ∙ eq-eqb number number refl)
            (paths_complete all naming.open_layers longest [] path seen (naming.bounded path seen s) s)

    -- a directory at a path has this way
    pub is_way : (number : ℕ) (path : List (List ℕ)) → numbered path ≡ Some number
        → is_directory_node (inode_there path) ≡ true → way_of number ≡ Some path
    is_way number path e directory = by (found_at number) refl
      where
        by : (o : Option (List (List ℕ))) → found_at number ≡ o → way_of number ≡ Some path
        by None f = absurd (is_found_by number path e f)
        by (Some other) f =
            let same = naming.apart path other number e (found_numbered number other f) directory in
            ap (only_directory world overlay) (f ∙ ap Some same) ∙ ap (λ b. if b then Some path else None) directory

    above_is_shown : (path : List (List ℕ)) → is_some (shown all path) ≡ true
        → is_some (shown all (without_last path)) ≡ true
    above_is_shown [] some = some
    above_is_shown (first ∷ rest) some =
        let last = last_of (first ∷ rest) (not_empty first rest) in
        by last.0 last.1 last.2 (shown all (last.0 ++ last.1 ∷ [])) refl
      where
        by : (front : List (List ℕ)) (name : List ℕ) → front ++ name ∷ [] ≡ first ∷ rest
            → (o : Option (Shown ℕ)) → shown all (front ++ name ∷ []) ≡ o
            → is_some (shown all (without_last (first ∷ rest))) ≡ true
        by front name split None e = absurd (true≢false (sym some ∙ ap (λ p. is_some (shown all p)) (sym split)
            ∙ ap is_some e))
        by front name split (Some seen) e =
            ap (λ p. is_some (shown all p)) (sym (ap without_last split) ∙ without_last_of_longer front name)
            ∙ shown_before all naming.open_layers front (name ∷ []) seen e

    -- the parent of a directory is at the path above it
    pub parent_of : (number : ℕ) (way : List (List ℕ)) → way_of number ≡ Some way
        → numbered (without_last way) ≡ Some (parent_in number (tree.node number))
    parent_of number way e =
        let some = sym (number_is_shown way) ∙ ap is_some (way_numbered_is number way e) in
        filled (numbered (without_last way)) (number_is_shown (without_last way) ∙ above_is_shown way some)
        ∙ ap Some (sym (ap (parent_in number) (at number way e).node ∙ (parts number way e).parent_is))

    pub record IsAbove (path : List (List ℕ)) (number : ℕ) : Type 0 where
      pub numbered : numbered path ≡ Some number
      pub is : way_of number ≡ Some path

    -- what is shown is in a directory
    above_shown : (path : List (List ℕ)) (name : List ℕ) (seen : Shown ℕ)
        → shown all (path ++ name ∷ []) ≡ Some seen → (number : ℕ) × IsAbove path number
    above_shown path name seen e =
        let d = shown_in_directory all naming.open_layers 0 path name seen e in
        let place : 0 + d.place ≡ d.place = omega arith in
        let number = filled (numbered path) (number_is_shown path ∙ ap is_some d.is) in
        let directory : is_directory_node (inode_there path) ≡ true =
        ap (λ o. is_directory_node (then_some o (layer_node all))) d.is
        ∙ ap (λ o. is_directory_node (then_some o (λ (layer : OpenLayer ℕ). layer.tree.node d.object)))
        (ap (slice_get all) place ∙ d.there)
        ∙ d.directory in (
          unwrap_or (numbered path) 0,
          record { numbered = number; is = is_way (unwrap_or (numbered path) 0) path number directory },
        )

    pub record GoesUp (number : ℕ) (path : List (List ℕ)) : Type 0 where
      pub above : ℕ
      pub is : way_of above ≡ Some path
      pub parent : named_parent nat_eq tree number ≡ Some above
      pub parent_is : parent_in number (tree.node number) ≡ above
      pub other_root : nat_eq number tree.root ≡ false

    root_is : (number : ℕ) → numbered [] ≡ Some number → tree.root ≡ number
    root_is number e = ap (λ o. unwrap_or o 0) e

    pub at_root : (number : ℕ) → way_of number ≡ Some [] → nat_eq number tree.root ≡ true
    at_root number e = eq-eqb number tree.root (sym (root_is number (way_numbered_is number [] e)))

    root_there : (path : List (List ℕ)) (seen : Shown ℕ) → shown all path ≡ Some seen
        → numbered [] ≡ Some tree.root
    root_there path seen e = filled (numbered [])
        (number_is_shown [] ∙ shown_before all naming.open_layers [] path seen e)

    pub goes_up : (number : ℕ) (path : List (List ℕ)) (name : List ℕ) → way_of number ≡ Some (path ++ name ∷ [])
        → GoesUp number path
    goes_up number path name e = by (shown all (path ++ name ∷ [])) refl
      where
        longer : List (List ℕ)
        longer = path ++ name ∷ []

        there : numbered longer ≡ Some number
        there = way_numbered_is number longer e

        not_root : (b : Bool) → nat_eq number tree.root ≡ b → numbered [] ≡ Some tree.root
            → nat_eq number tree.root ≡ false
        not_root false t root = t
        not_root true t root =
            let same : number ≡ tree.root = eqb-true number tree.root t in
            absurd (not_empty_end path name (naming.apart [] longer tree.root root (there ∙ ap Some same) naming.root))
          where
            not_empty_end : (path : List (List ℕ)) (name : List ℕ) → path ++ name ∷ [] ≡ [] → ⊥
            not_empty_end [] name e = not_empty name [] e
            not_empty_end (first ∷ path) name e = not_empty first (path ++ name ∷ []) e

        by : (o : Option (Shown ℕ)) → shown all longer ≡ o → GoesUp number path
        by None s = absurd (true≢false (sym (ap is_some there) ∙ number_is_shown longer ∙ ap is_some s))
        by (Some seen) s =
            let up = above_shown path name seen s in
            let parent : parent_in number (tree.node number) ≡ up.0 =
            same_Some (parent_in number (tree.node number)) up.0 (sym (parent_of number longer e)
            ∙ ap numbered (without_last_of_longer path name) ∙ up.1.numbered) in
            let has : has_entry_to nat_eq tree up.0 number ≡ true =
            entry_to tree up.0 name number (sym (entry_of up.0 path up.1.is name) ∙ there) in
            let apart = not_root (nat_eq number tree.root) refl (root_there longer seen s) in
            record {
              above = up.0;
              is = up.1.is;
              parent = ap (λ b. if b then None
                  else when (has_entry_to nat_eq tree (parent_in number (tree.node number)) number)
                  (parent_in number (tree.node number))) apart
                  ∙ (λ i. when (has_entry_to nat_eq tree (parent i) number) (parent i)) ∙ ap (λ b. when b up.0) has;
              parent_is = parent;
              other_root = apart;
            }

    -- what has no way has nothing above it
    pub none_above : (number : ℕ) → way_of number ≡ None → named_parent nat_eq tree number ≡ None
    none_above number e = by (nat_eq number tree.root)
      where
        nowhere : has_entry_to nat_eq tree (parent_in number (tree.node number)) number ≡ false
        nowhere = ap (λ above. has_entry_to nat_eq tree above number) (own_parent_of number e)
            ∙ ap (λ targets. is_among nat_eq number targets)
            (no_targets number (tree.node number) (no_way_alone number e))

        by : (b : Bool) → (if b then None
            else when (has_entry_to nat_eq tree (parent_in number (tree.node number)) number)
            (parent_in number (tree.node number))) ≡ None
        by b = grind (arith, common_steps, nowhere)

    -- A directory that has a way is not removed; what has none is.
    pub not_removed : (number : ℕ) (path : List (List ℕ)) → way_of number ≡ Some path
        → false ≡ is_removed nat_eq tree number
    not_removed number [] e = cc (at_root number e)
    not_removed number (name ∷ path) e =
        let last = last_of (name ∷ path) (not_empty name path) in
        let above = goes_up number last.0 last.1 (e ∙ ap Some (sym last.2)) in
        sym (ap not (or_right (nat_eq number tree.root) (is_some (named_parent nat_eq tree number))
        (ap is_some above.parent)))

    pub removed : (number : ℕ) → (number ≡ 0 → ⊥) → way_of number ≡ None → true ≡ is_removed nat_eq tree number
    removed number some none =
        sym (λ i. not (apart (nat_eq number tree.root) refl (numbered []) refl i || is_some (none_above number none i)))
      where
        apart : (b : Bool) → nat_eq number tree.root ≡ b → (o : Option ℕ) → numbered [] ≡ o
            → nat_eq number tree.root ≡ false
        apart false e o root = e
        apart true e None root = absurd (some (eqb-true number tree.root e ∙ ap (λ o. unwrap_or o 0) root))
        apart true e (Some r) root =
            let same : number ≡ r = eqb-true number tree.root e ∙ ap (λ o. unwrap_or o 0) root in
            none_is_some [] (sym none ∙ is_way number [] (root ∙ ap Some (sym same)) naming.root)
