-- What layers show under a name is what the directories show that are merged under it, in whatever trees.
use Rattle.std.proofs.Common.{◌≡◌, ◌≢◌, ◌+◌, ◌++◌, ◌∷◌, ◌<◌, ◌≤◌, ◌||◌, [], Bool, List, None, Option, Some, ap, drop, false, get_or, length, map, option_and_then, refl, sym, true, ℕ, append-nil, if◌then◌else◌, option_to_list, arith}
use Rattle.vt_spec.proofs.Common.{Content, Directory, Node, Regular, Symlink, Tree, Whiteout, entries_in, entry_at, entry_named, hides, is_directory_node, led, shown_over, view_of, common_steps}
use Rattle.vt_spec.specs.declared.attributes.Attr.{Attr}
use Rattle.vt_spec.specs.Machine.Views.{Shown}
use Rattle.vt_fs.specs.FilesystemsValue.{Filesystems}
use Rattle.vt_laws_trees.specs.Layers.Layers.Directories.{PlacedLayer, PlacedView, directories_under, directory_over, placed_view, shown_in}
use Rattle.vt_overlay.specs.Merge.LayerValue.{cut_by, cut_on, placed_layers, placed_of}
use Rattle.vt_overlay.specs.declared.merge.layers.MergedDirectory.{MergedDirectory}
use Rattle.vt_overlay.proofs.merge.Cuts.{cuts_on}

abbrev views : List (PlacedLayer ℕ) → List (PlacedView ℕ)
views layers = map placed_view layers

-- where a directory has no entries names lead nowhere, and hide nothing
no_entry : (tree : Tree ℕ) (directory : ℕ) (name : List ℕ) → entries_in (tree.node directory) ≡ []
    → entry_at tree directory name ≡ None
no_entry tree directory name none = ap (entry_named name) none

module _ (top : PlacedLayer ℕ) (name first : List ℕ) (rest : List (List ℕ)) (lower under : List (PlacedLayer ℕ))
    (below : shown_in (views under) (first ∷ rest) ≡ shown_in (views lower) (name ∷ first ∷ rest)) where
  abbrev tree : Tree ℕ
  tree = top.open_layer.tree

  abbrev path : List (List ℕ)
  path = first ∷ rest

  abbrev own : ℕ → PlacedLayer ℕ
  own object = record { layer = top.layer; open_layer = record { tree = tree; directory = object } }

  abbrev over : Option ℕ → Bool → Option (Shown ℕ)
  over found cut = shown_over (view_of top.open_layer) top.layer found cut (shown_in (views lower) (name ∷ path))

  -- an opaque directory shows what it has alone
  alone : (object : ℕ) (found : Option ℕ) (cut : Bool)
      → shown_over (view_of (own object).open_layer) top.layer found cut None ≡ over found true
  alone object found cut = grind (arith, common_steps)

  abbrev Shows : ℕ → Option (Node ℕ) → Type 0
  Shows object node =
      shown_in (views ((if is_directory_node node then own object ∷ [] else []) ++ (if hides node then [] else under)))
      path ≡ over (led tree object path) (hides node || cut_on tree path object)

  -- what is no directory has nothing under it
  nothing : (object : ℕ) → entries_in (tree.node object) ≡ [] → led tree object path ≡ None
  nothing object none = ap (option_and_then (λ next. led tree next rest)) (no_entry tree object first none)

  of_content : (object : ℕ) (attr : Attr) (content : Content ℕ)
      → tree.node object ≡ Some (record { attr = attr; content = content })
      → Shows object (Some (record { attr = attr; content = content }))
  of_content object attr (Directory parent entries true) is = grind (arith, common_steps)
  of_content object attr (Directory parent entries false) is = cc (cuts_on tree path object, below)
  of_content object attr (Regular bytes) is = sym (ap (λ o. over o true) (nothing object (ap entries_in is)))
  of_content object attr (Symlink text) is = sym (ap (λ o. over o true) (nothing object (ap entries_in is)))
  of_content object attr Whiteout is = sym (ap (λ o. over o true) (nothing object (ap entries_in is)))

  of_node : (object : ℕ) (node : Option (Node ℕ)) → tree.node object ≡ node → Shows object node
  of_node object None is = grind (arith, common_steps)
  of_node object (Some node) is = of_content object node.attr node.content is

  of_entry : (found : Option ℕ) → shown_in (views (directory_over top found under)) path
      ≡ over (option_and_then (λ next. led tree next path) found) (cut_by tree found (cut_on tree path))
  of_entry found = grind (arith, common_steps, of_node)

-- the same for all
shown_under : (layers : List (PlacedLayer ℕ)) (name first : List ℕ) (rest : List (List ℕ))
    → shown_in (views (directories_under layers name)) (first ∷ rest) ≡ shown_in (views layers) (name ∷ first ∷ rest)
shown_under [] name first rest = refl
shown_under (top ∷ lower) name first rest =
    cc (
      of_entry top name first rest lower (directories_under lower name) (shown_under lower name first rest)
          (entry_at top.open_layer.tree top.open_layer.directory name),
      cuts_on top.open_layer.tree (name ∷ first ∷ rest)
          top.open_layer.directory,
    )

pub shown_under_name : (layers : List (PlacedLayer ℕ)) (name : List ℕ) (path : List (List ℕ)) → path ≢ []
    → shown_in (views (directories_under layers name)) path ≡ shown_in (views layers) (name ∷ path)
shown_under_name layers name [] some = absurd (some refl)
shown_under_name layers name (first ∷ rest) some = shown_under layers name first rest

-- one directory more is merged
module _ (fs : Filesystems) (name : List ℕ) (above merged new : List MergedDirectory) (index : ℕ)
    (default : MergedDirectory) (directory : Option MergedDirectory) (h : Bool) where
  abbrev below_index : List (PlacedLayer ℕ)
  below_index = directories_under (placed_layers fs (drop (index + 1) above)) name

  abbrev here : PlacedLayer ℕ
  here = placed_of fs (get_or above index default)

  pub one_more : index < length above
      → placed_layers fs merged ++ directories_under (placed_layers fs (drop index above)) name
      ≡ directories_under (placed_layers fs above) name → ((lower : List (PlacedLayer ℕ))
      → placed_layers fs (option_to_list directory) ++ (if h then [] else lower)
      ≡ directory_over here (entry_at here.open_layer.tree here.open_layer.directory name) lower)
      → new ≡ merged ++ option_to_list directory
      → placed_layers fs new ++ (if h then [] else below_index) ≡ directories_under (placed_layers fs above) name
  one_more within so_far found grown = grind (arith, common_steps)

  -- it is the last one, or others follow
  module _ (within : index < length above)
      (so_far : placed_layers fs merged ++ directories_under (placed_layers fs (drop index above)) name
      ≡ directories_under (placed_layers fs above) name) (found : (lower : List (PlacedLayer ℕ))
      → placed_layers fs (option_to_list directory) ++ (if h then [] else lower)
      ≡ directory_over here (entry_at here.open_layer.tree here.open_layer.directory name) lower)
      (grown : new ≡ merged ++ option_to_list directory) where
    pub last_one : h ≡ true → placed_layers fs new ≡ directories_under (placed_layers fs above) name
    last_one hidden = cc (append-nil (placed_layers fs new), one_more within so_far found grown)

    pub next_one : h ≡ false → placed_layers fs new ++ below_index ≡ directories_under (placed_layers fs above) name
    next_one open_below = cc (one_more within so_far found grown)

-- none is left
pub all_merged : (fs : Filesystems) (name : List ℕ) (above merged : List MergedDirectory) (index : ℕ)
    → length above ≤ index → placed_layers fs merged ++ directories_under (placed_layers fs (drop index above)) name
    ≡ directories_under (placed_layers fs above) name
    → placed_layers fs merged ≡ directories_under (placed_layers fs above) name
all_merged fs name above merged index past so_far = grind (arith, common_steps)

-- what is merged so shows what was shown under the name
pub shows : (fs : Filesystems) (name : List ℕ) (above merged : List MergedDirectory)
    → placed_layers fs merged ≡ directories_under (placed_layers fs above) name → (path : List (List ℕ)) → path ≢ []
    → shown_in (views (placed_layers fs merged)) path ≡ shown_in (views (placed_layers fs above)) (name ∷ path)
shows fs name above merged is path some = cc (shown_under_name (placed_layers fs above) name path some)
