-- The path from one directory down to another, found by going up from the lower one.
use Rattle.std.proofs.Common.{◌≡◌, refl, sym, ap, subst, ◌∙◌, not, true≢false, ℕ, ◌-◌, zero, suc, nat_eq, arith, Bool, true, false, cond, ◌||◌, List, [], ◌∷◌, ◌++◌, map, reverse, Option, Some, None, is_some, option_map, find, unwrap_or, if◌then◌else◌, append-nil, append_assoc}
use Rattle.vt_spec.proofs.Common.{Content, Directory, Entries, Inodes, Node, Regular, Symlink, Tree, Whiteout, before_first, chain, entries_in, entries_of, entry_named, has_entry_to, is_among, is_directory_node, list_any, map-append, named_parent, own_name, parent_in, reverse-append, take_while-cons, tree_of, when}
use Rattle.vt_node.specs.Listed.{HasOneName}
use Rattle.vt_fs.specs.Trees.Paths.{NamesDirectoriesOnce, files_of}

module _ (inodes : Inodes ℕ) (top : ℕ) where
  abbrev up : ℕ → Option ℕ
  up = named_parent nat_eq (tree_of inodes)

  abbrev own : ℕ → List ℕ
  own = own_name nat_eq (files_of inodes)

  -- the path, of which the last names are known, where these directories are met on the way up
  abbrev pub path_from : List (List ℕ) → List ℕ → Option (List (List ℕ))
  path_from known above = when (is_among nat_eq top above)
      (reverse (known ++ map own (before_first (nat_eq top) above)))

  -- a directory is met first
  pub record BeginsWith (here : ℕ) (above : List ℕ) : Type 0 where
    pub rest : List ℕ
    pub is : above ≡ here ∷ rest

  begins : (left here : ℕ) → BeginsWith here (chain left up here)
  begins zero here = record { rest = []; is = refl }
  begins (suc left) here = by (up here)
    where
      by : (o : Option ℕ) → BeginsWith here (elim o [ None ↦ here ∷ [] | Some b ↦ here ∷ chain left up b ])
      by None = record { rest = []; is = refl }
      by (Some b) = record { rest = chain left up b; is = refl }

  before : (here : ℕ) (rest : List ℕ)
      → before_first (nat_eq top) (here ∷ rest) ≡ cond (nat_eq top here) [] (here ∷ before_first (nat_eq top) rest)
  before here rest = take_while-cons (λ a. not (nat_eq top a)) here rest ∙ by (nat_eq top here)
    where
      by : (b : Bool) → cond (not b) (here ∷ before_first (nat_eq top) rest) []
          ≡ cond b [] (here ∷ before_first (nat_eq top) rest)
      by true = refl
      by false = refl

  -- the top is reached
  pub arrives : (known : List (List ℕ)) (left here : ℕ) → nat_eq top here ≡ true
      → path_from known (chain left up here) ≡ Some (reverse known)
  arrives known left here is =
      let first = begins left here in
      ap (path_from known) first.is ∙ (λ i. when (is i || is_among nat_eq top first.rest)
      (reverse (known ++ map own ((before here first.rest
      ∙ ap (λ b. cond b [] (here ∷ before_first (nat_eq top) first.rest)) is) i))))
      ∙ ap (λ names. Some (reverse names)) (append-nil known)

  -- there is no further way up
  ends : (known : List (List ℕ)) (here : ℕ) → nat_eq top here ≡ false → path_from known (here ∷ []) ≡ None
  ends known here other = ap (λ b.
      when (b || false) (reverse (known ++ map own (before_first (nat_eq top) (here ∷ []))))) other

  pub ends_far : (known : List (List ℕ)) (left here : ℕ) → nat_eq top here ≡ false → left ≡ 0
      → path_from known (chain left up here) ≡ None
  ends_far known left here other none = ap (λ n. path_from known (chain n up here)) none ∙ ends known here other

  pub ends_above : (known : List (List ℕ)) (left here : ℕ) → nat_eq top here ≡ false → up here ≡ None
      → path_from known (chain left up here) ≡ None
  ends_above known zero here other none = ends known here other
  ends_above known (suc left) here other none =
      ap (λ o. path_from known (elim o [ None ↦ here ∷ [] | Some b ↦ here ∷ chain left up b ])) none
      ∙ ends known here other

  -- one step up
  pub steps : (known : List (List ℕ)) (left here parent : ℕ) → nat_eq top here ≡ false → up here ≡ Some parent
      → path_from known (chain (suc left) up here) ≡ path_from (known ++ own here ∷ []) (chain left up parent)
  steps known left here parent other above =
      ap (λ o. path_from known (elim o [ None ↦ here ∷ [] | Some b ↦ here ∷ chain left up b ])) above
      ∙ (λ i. when (other i || is_among nat_eq top (chain left up parent))
      (reverse (known ++ map own ((before here (chain left up parent)
      ∙ ap (λ b. cond b [] (here ∷ before_first (nat_eq top) (chain left up parent))) other) i))))
      ∙ ap (λ names. when (is_among nat_eq top (chain left up parent)) (reverse names))
      (sym (append_assoc known (own here ∷ []) (map own (before_first (nat_eq top) (chain left up parent)))))

  -- with one name more
  pub goes_on : (known new : List (List ℕ)) (name : List ℕ) (left here parent : ℕ) (path : Option (List (List ℕ)))
      → new ≡ known ++ name ∷ [] → name ≡ own here → nat_eq top here ≡ false → Some parent ≡ up here → (left ≡ 0 → ⊥)
      → path_from known (chain left up here) ≡ path → path_from new (chain (left - 1) up parent) ≡ path
  goes_on known new name zero here parent path is named other above some so_far = absurd (some refl)
  goes_on known new name (suc left) here parent path is named other above some so_far =
      let one_less : suc left - 1 ≡ left = omega arith in
      ap (λ n. path_from new (chain n up parent)) one_less
      ∙ ap (λ all. path_from all (chain left up parent)) (is ∙ ap (λ last. known ++ last ∷ []) named)
      ∙ sym (steps known left here parent other (sym above)) ∙ so_far

-- The name of a directory in its parent

module _ (tree : Tree ℕ) (once : NamesDirectoriesOnce tree) (directory : ℕ) where
  abbrev parent : ℕ
  parent = parent_in directory (tree.node directory)

  -- it has one name at most there
  pub one_name_there : HasOneName directory (entries_in (tree.node parent))
  one_name_there = by (tree.node directory) refl
    where
      none_there : (o : Option (Node ℕ)) → tree.node directory ≡ o → entries_in o ≡ []
          → HasOneName directory (entries_in (tree.node directory))
      none_there o is none name other first second = absurd (true≢false (sym (ap is_some
          (sym (ap (λ node. entry_named name (entries_in node)) is ∙ ap (entry_named name) none) ∙ first))))

      by : (o : Option (Node ℕ)) → tree.node directory ≡ o
          → HasOneName directory (entries_in (tree.node (parent_in directory o)))
      by None is = none_there None is refl
      by (Some node) is = content node.content (λ i. is i)
        where
          content : (content : Content ℕ) → tree.node directory ≡ Some (record { attr = node.attr; content = content })
              → HasOneName directory (entries_in
              (tree.node (parent_in directory (Some (record { attr = node.attr; content = content })))))
          content (Directory above entries opaque) is =
              λ name other first second. once above name other directory first second (ap is_directory_node is)
          content (Regular bytes) is = none_there _ is refl
          content (Symlink text) is = none_there _ is refl
          content Whiteout is = none_there _ is refl

  abbrev found : Option (List ℕ × ℕ)
  found = find (λ entry. nat_eq directory entry.1) (entries_in (tree.node parent))

  some_found : (entries : Entries ℕ) → list_any (nat_eq directory) (map (λ entry. entry.1) entries)
      ≡ is_some (find (λ entry. nat_eq directory entry.1) entries)
  some_found [] = refl
  some_found (entry ∷ entries) = by (nat_eq directory entry.1) (some_found entries)
    where
      by : (b : Bool) → list_any (nat_eq directory) (map (λ entry. entry.1) entries)
          ≡ is_some (find (λ entry. nat_eq directory entry.1) entries)
          → (b || list_any (nat_eq directory) (map (λ entry. entry.1) entries))
          ≡ is_some (cond b (Some entry) (find (λ entry. nat_eq directory entry.1) entries))
      by true later = refl
      by false later = later

  pub no_way_from_root : nat_eq directory tree.root ≡ true → named_parent nat_eq tree directory ≡ None
  no_way_from_root is = ap (λ b. if b then None else when (has_entry_to nat_eq tree parent directory) parent) is

  above_is : nat_eq directory tree.root ≡ false → named_parent nat_eq tree directory ≡ when (is_some found) parent
  above_is other = ap (λ b. if b then None else when (has_entry_to nat_eq tree parent directory) parent) other
      ∙ ap (λ b. when b parent) (some_found (entries_in (tree.node parent)))

  pub no_name : nat_eq directory tree.root ≡ false → (name : Option (List ℕ))
      → name ≡ option_map (λ entry. entry.0) found → name ≡ None → named_parent nat_eq tree directory ≡ None
  no_name other name is none = above_is other ∙ by found (sym is ∙ none)
    where
      by : (o : Option (List ℕ × ℕ)) → option_map (λ entry. entry.0) o ≡ None → when (is_some o) parent ≡ None
      by None e = refl
      by (Some entry) e = absurd (true≢false (ap is_some e))

  pub named_above : nat_eq directory tree.root ≡ false → (name : List ℕ)
      → Some name ≡ option_map (λ entry. entry.0) found → (named_parent nat_eq tree directory ≡ Some parent)
      × (name ≡ own_name nat_eq (record { tree = tree; numbers = [] }) directory)
  named_above other name is = by found refl is
    where
      one_list : (a b : List ℕ) → Some a ≡ Some b → a ≡ b
      one_list a b e = cc

      by : (o : Option (List ℕ × ℕ)) → found ≡ o → Some name ≡ option_map (λ entry. entry.0) o
          → (named_parent nat_eq tree directory ≡ Some parent)
          × (name ≡ own_name nat_eq (record { tree = tree; numbers = [] }) directory)
      by None f e = absurd (true≢false (ap is_some e))
      by (Some entry) f e = (
        above_is other ∙ ap (λ o. when (is_some o) parent) f,
        one_list name entry.0 e ∙ ap (λ (o : Option (List ℕ × ℕ)). unwrap_or
            (option_map (λ (name : ℕ × List ℕ). name.1) (option_map (λ (entry : List ℕ × ℕ). (parent, entry.0)) o)) [])
            (sym f),
      )

-- as code finds it, in the node of the parent
module _ (tree : Tree ℕ) (once : NamesDirectoriesOnce tree) (directory above : ℕ) (node : Node ℕ)
    (is_parent : above ≡ parent_in directory (tree.node directory)) (is_node : Some node ≡ tree.node above) where
  at_parent : tree.node (parent_in directory (tree.node directory)) ≡ Some node
  at_parent = ap tree.node (sym is_parent) ∙ sym is_node

  pub one_name_in : HasOneName directory (entries_of node.content)
  one_name_in = subst (λ o. HasOneName directory (entries_in o)) at_parent (one_name_there tree once directory)

  pub nothing_in : nat_eq directory tree.root ≡ false → None ≡ option_map (λ (entry : List ℕ × ℕ). entry.0)
      (find (λ entry. nat_eq directory entry.1) (entries_of node.content)) → named_parent nat_eq tree directory ≡ None
  nothing_in other none = no_name tree once directory other None
      (none ∙ ap (λ o. option_map (λ (entry : List ℕ × ℕ). entry.0)
      (find (λ entry. nat_eq directory entry.1) (entries_in o))) (sym at_parent)) refl

  pub parent_in_which : nat_eq directory tree.root ≡ false → (name : List ℕ)
      → Some name ≡ option_map (λ (entry : List ℕ × ℕ). entry.0)
      (find (λ entry. nat_eq directory entry.1) (entries_of node.content))
      → Some above ≡ named_parent nat_eq tree directory
  parent_in_which other name is = ap Some is_parent ∙ sym (named_above tree once directory other name
      (is ∙ ap (λ o. option_map (λ (entry : List ℕ × ℕ). entry.0)
      (find (λ entry. nat_eq directory entry.1) (entries_in o))) (sym at_parent))).0

-- names in the other order
pub map-reverse : {X Y : Type 0} (f : X → Y) (xs : List X) → map f (reverse xs) ≡ reverse (map f xs)
map-reverse f [] = refl
map-reverse f (x ∷ xs) = ap (map f) (reverse-append (x ∷ []) xs) ∙ map-append f (reverse xs) (x ∷ [])
    ∙ ap (λ rest. rest ++ f x ∷ []) (map-reverse f xs) ∙ sym (reverse-append (f x ∷ []) (map f xs))
