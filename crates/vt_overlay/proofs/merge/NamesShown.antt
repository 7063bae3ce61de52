-- The names of merged directories under which these show something: those that pass, and all where there is no whiteout.
use Rattle.std.proofs.Common.{◌≡◌, ◌∙◌, ◌++◌, ◌∷◌, ◌+◌, ◌<◌, ◌&&◌, ◌||◌, Bor, get_or, length, nat_eq, take, [], Bool, List, Option, Vec, ap, false, filter, is_some, map, not, refl, sym, true, ℕ, IsPermutation, if◌then◌else◌, arith}
use Rattle.vt_spec.proofs.Common.{any-filter_same, entries_in, entry_at, holds_of, is_kind_in, is_some-find, list_any, list_any-IsPermutation, list_any-append, name_cmp, or_false_left, or_false_right, pointwise, texts_ties, view_of, or-false, common_steps}
use Rattle.std.proofs.lemmas.List.Folds.{list_any_more}
use Rattle.indexmap.specs.IndexSet.{insert_key}
use Rattle.vt_spec.proofs.Nodes.{same_name}
use Rattle.vt_spec.specs.declared.attributes.Kind.TheVariants.{White}
use Rattle.vt_laws_trees.specs.Layers.Layers.Directories.{shown_in}
use Rattle.vt_laws_trees.proofs.layers.layers.ShownFronts.{list_any_of_map}
use Rattle.vt_location.specs.Locations.{inode_of}
use Rattle.vt_fs.specs.FilesystemsValue.{Filesystems}
use Rattle.vt_overlay.specs.Merge.LayerValue.{is_white_under, names_had, opened, own_names, placed_views}
use Rattle.vt_overlay.specs.declared.merge.layers.MergedDirectory.{MergedDirectory}
use Rattle.vt_overlay.proofs.merge.NamesHad.{is_name, own_shows, shown_is_had}

implied : (a b : Bool) → (a ≡ true → b ≡ true) → (a && b) ≡ a
implied a b h = grind (arith, common_steps)

-- whether a name is among those that lead to whiteouts, and what it shows
pub among_whites : (name : List ℕ) (keys : List (Bor (List ℕ)))
    → list_any (λ one. pointwise nat_eq name one.now) keys ≡ list_any (λ one. is_name name one.now) keys
among_whites name keys i = list_any (λ (one : Bor (List ℕ)). texts_ties name one.now i) keys

pub not_white : (looked white shows : Bool) → looked ≡ white → looked ≡ false → not looked ≡ (not white || shows)
not_white looked white shows is none = cc

pub looked_white : (looked white shows found : Bool) → looked ≡ white → looked ≡ true → found ≡ shows
    → found ≡ (not white || shows)
looked_white looked white shows found is some same = cc

-- one name more that leads to a whiteout, or to something else
pub any_inserted : (name key : List ℕ) (keys : List (Bor (List ℕ))) (one : Bor (List ℕ)) → one.now ≡ key
    → list_any (λ one. is_name name one.now) (insert_key (λ a b. pointwise nat_eq a.now b.now) keys one)
    ≡ (list_any (λ one. is_name name one.now) keys || is_name name key)
any_inserted name key keys one is = by (list_any (λ b. pointwise nat_eq one.now b.now) keys) refl
  where
    hits : Bor (List ℕ) → Bool
    hits one = is_name name one.now

    by : (b : Bool) → list_any (λ b. pointwise nat_eq one.now b.now) keys ≡ b
        → list_any hits (if b then keys else keys ++ one ∷ []) ≡ (list_any hits keys || is_name name key)
    by true there = sym (present (is_name name key) refl)
      where
        present : (c : Bool) → is_name name key ≡ c → (list_any hits keys || c) ≡ list_any hits keys
        present true same = grind (arith, common_steps, same_name name key same, is, among_whites one.now keys, there)
        present false same = or-false (list_any hits keys)
    by false there = grind (arith, common_steps)

grow_yes : (old white any : Bool) → ((old || (white && any)) || (white && true)) ≡ (old || (white && (any || true)))
grow_yes old white any = grind (arith, common_steps)

grow_no : (old white any other : Bool)
    → ((old || (white && any)) || (other && false)) ≡ (old || (white && (any || false)))
grow_no old white any other = grind (arith, common_steps)

pub whites_grown : (fs : Filesystems) (top : MergedDirectory) (name key : List ℕ) (old any so_far new white : Bool)
    → so_far ≡ (old || (is_white_under fs top name && any)) → white ≡ is_white_under fs top key
    → new ≡ (so_far || (white && is_name name key))
    → new ≡ (old || (is_white_under fs top name && (any || is_name name key)))
whites_grown fs top name key old any so_far new white is is_white grown =
    grown ∙ ap (λ b. b || (white && is_name name key)) is ∙ by (is_name name key) refl
  where
    by : (b : Bool) → is_name name key ≡ b → ((old || (is_white_under fs top name && any)) || (white && b))
        ≡ (old || (is_white_under fs top name && (any || b)))
    by true same = cc (is_white, same_name name key same, grow_yes old (is_white_under fs top name) any)
    by false same = grow_no old (is_white_under fs top name) any white

-- merged directories show something under a name that one of them has and that leads to no whiteout in any
had_is_shown : (fs : Filesystems) (merged : List MergedDirectory) (name : List ℕ)
    → list_any (λ top. is_white_under fs top name) merged ≡ false
    → list_any (is_name name) (names_had fs merged) ≡ is_some (shown_in (placed_views fs merged) (name ∷ []))
had_is_shown fs [] name none = refl
had_is_shown fs (top ∷ merged) name none = list_any-append (is_name name) (own_names fs top) (names_had fs merged)
    ∙ ap (λ b. b || list_any (is_name name) (names_had fs merged))
    (sym (is_some-find name_cmp name (entries_in ((opened fs top.directory).tree.node (inode_of top.directory)))))
    ∙ by (entry_at (opened fs top.directory).tree (inode_of top.directory) name)
    (or_false_left (is_white_under fs top name) _ none)
    (had_is_shown fs merged name (or_false_right (is_white_under fs top name) _ none))
  where
    by : (found : Option ℕ)
        → holds_of (λ object. is_kind_in White ((opened fs top.directory).tree.node object)) found ≡ false
        → list_any (is_name name) (names_had fs merged) ≡ is_some (shown_in (placed_views fs merged) (name ∷ []))
        → (is_some found || list_any (is_name name) (names_had fs merged))
        ≡ is_some (own_shows (view_of (opened fs top.directory)) top.layer found
        (shown_in (placed_views fs merged) (name ∷ [])))
    by found white rest = grind (arith, common_steps)

-- a name leads to a whiteout in a directory if it is one of those that do
own_white : (fs : Filesystems) (top : MergedDirectory) (name : List ℕ)
    → (is_white_under fs top name && list_any (is_name name) (own_names fs top)) ≡ is_white_under fs top name
own_white fs top name =
    grind (
      arith,
      common_steps,
      is_some-find name_cmp name (entries_in ((opened fs top.directory).tree.node (inode_of
          top.directory))),
      entry_at (opened fs top.directory).tree (inode_of top.directory) name,
    )

module _ {A : Type 0} where
  abbrev hit : List ℕ → Vec ℕ A → Bool
  hit name key = is_name name key.items

  has_name : (all : List (Vec ℕ A)) (names : List (List ℕ)) (name : List ℕ)
      → IsPermutation (map (λ one. one.items) all) names → list_any (hit name) all ≡ list_any (is_name name) names
  has_name all names name had = sym (list_any_of_map (is_name name) (λ (key : Vec ℕ A). key.items) all)
      ∙ list_any-IsPermutation (is_name name) (map (λ one. one.items) all) names had

  -- the whiteouts of one directory more
  pub whites_more : (fs : Filesystems) (merged : List MergedDirectory) (index : ℕ) (default : MergedDirectory)
      (kept : List (Vec ℕ A)) (name : List ℕ) (so_far new : Bool) → index < length merged
      → so_far ≡ list_any (λ top. is_white_under fs top name) (take index merged)
      → IsPermutation (map (λ one. one.items) kept) (own_names fs (get_or merged index default))
      → new ≡ (so_far || (is_white_under fs (get_or merged index default) name && list_any (hit name) kept))
      → new ≡ list_any (λ top. is_white_under fs top name) (take (index + 1) merged)
  whites_more fs merged index default kept name so_far new within is had grown = grown
      ∙ ap (λ b. so_far || (is_white_under fs here name && b)) (has_name kept (own_names fs here) name had)
      ∙ ap (λ b. so_far || b) (own_white fs here name) ∙ ap (λ b. b || is_white_under fs here name) is
      ∙ sym (list_any_more (λ top. is_white_under fs top name) merged index default within)
    where
      here : MergedDirectory
      here = get_or merged index default

  module _ (fs : Filesystems) (merged : List MergedDirectory) (all : List (Vec ℕ A))
      (had : IsPermutation (map (λ name. name.items) all) (names_had fs merged)) (white : List ℕ → Bool)
      (whites : (name : List ℕ) → white name ≡ list_any (λ top. is_white_under fs top name) merged)
      (name : List ℕ) where
    abbrev shows : List ℕ → Bool
    shows name = is_some (shown_in (placed_views fs merged) (name ∷ []))

    pub all_shown : white name ≡ false → list_any (hit name) all ≡ shows name
    all_shown none =
        has_name all (names_had fs merged) name had ∙ had_is_shown fs merged name (sym (whites name) ∙ none)

    looked : ((not (white name) || shows name) && list_any (is_name name) (names_had fs merged)) ≡ shows name
    looked = grind (arith, common_steps, shows, implied, shown_is_had, had_is_shown)

    pub passing_shown : (kept : List (Vec ℕ A))
        → kept ≡ filter (λ key. not (white key.items) || shows key.items) all → list_any (hit name) kept ≡ shows name
    passing_shown kept filtered = ap (list_any (hit name)) filtered
        ∙ any-filter_same (hit name) (λ key. not (white key.items) || shows key.items) (not (white name) || shows name)
        (λ key e. ap (λ one. not (white one) || shows one) (sym (same_name name key.items e))) all
        ∙ ap (λ b. (not (white name) || shows name) && b) (has_name all (names_had fs merged) name had) ∙ looked
