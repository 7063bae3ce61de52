-- What a removed name leaves of the merged tree: every other name.
use Rattle.std.proofs.Common.{◌≡◌, ◌∙◌, ◌+◌, ◌&&◌, ◌++◌, ◌∷◌, ◌↔◌, [], ap, arith, Bool, cond, eq-eqb, false, is_some, List, nat_eq, None, Option, refl, slice_get, Some, sym, true, true≢false, ℕ}
use Rattle.vt_spec.proofs.Common.{FileTree, OpenLayer, Shown, Tree, bytes_eq_itself, changed, entries-without_parent, entry_at, entry_named, is_directory_node, layer_node, none_is_some, same_Some, shown, some_from_is_some, then_some, without_name}
use Rattle.vt_spec.specs.Language.Changes.Change.{Remove}
use Rattle.vt_spec.specs.TreeInvariant.{HasName}
use Rattle.vt_laws_trees.proofs.layers.layers.ShownDirectories.{last_of, longer_is_not_empty, shown_in_directory}
use Rattle.vt_laws_trees.proofs.layers.layers.ShownPaths.{not_empty}
use Rattle.vt_laws_trees.proofs.layers.views.Entries.{is_entry, is_that_entry, taken}
use Rattle.vt_laws_trees.specs.Overlays.MergedTrees.{layers_shown}
use Rattle.vt_fs.specs.FilesystemsValue.{Filesystems}
use Rattle.vt_upper.proofs.LastNames.{same_front, same_last}
use Rattle.vt_upper.specs.LastName.{IsNameAt, IsOnlyAt}
use Rattle.vt_location.specs.declared.locations.NodeRef.{NodeRef}
use Rattle.vt_location.specs.Locations.{number_of}
use Rattle.vt_overlay.specs.MergedTree.{longest, plain_world}
use Rattle.vt_upper_overlay.proofs.Named.{is_naming, is_way, way_number}
use Rattle.vt_upper_overlay.proofs.Shown.{IsLooked}
use Rattle.vt_upper_overlay.proofs.Ways as ways
use Rattle.vt_upper_overlay.specs.MergedAbove.{directory_path, held, merged_above, merged_files, number_at, real_number, upper_seen}
use Rattle.vt_upper_overlay.specs.UpperValue.{UpperOverlayValue}

module _ (trees : Filesystems) (overlay : UpperOverlayValue) where
  abbrev merged : Tree ℕ
  merged = merged_above trees overlay

  abbrev named_under : (path : List (List ℕ)) (name : List ℕ) → Option ℕ
  named_under path name = number_at trees overlay (path ++ name ∷ [])

  -- a name of a directory in the merged tree is that of its path
  pub entry_under : (directory : ℕ) (path : List (List ℕ)) (name : List ℕ)
      → directory_path trees overlay directory ≡ Some path
      → named_under path name ≡ entry_at merged directory name
  entry_under directory path name way = ways.entry_of (real_number trees overlay) (held trees overlay)
      (longest trees overlay.layers.lowers) (plain_world trees) (upper_seen overlay) directory path way name

  pub way_of_entry : (directory number : ℕ) (name : List ℕ) → entry_at merged directory name ≡ Some number
      → (path : List (List ℕ)) × (directory_path trees overlay directory ≡ Some path)
  way_of_entry directory number name entry = by (directory_path trees overlay directory) refl
    where
      by : (o : Option (List (List ℕ))) → directory_path trees overlay directory ≡ o
          → (path : List (List ℕ)) × (directory_path trees overlay directory ≡ Some path)
      by None e = none_is_some number (ways.no_entry_of (real_number trees overlay) (held trees overlay)
          (longest trees overlay.layers.lowers) (plain_world trees) (upper_seen overlay) directory name e ∙ entry)
      by (Some path) e = (path, e)

  pub name_at : (directory node : NodeRef) (name : List ℕ)
      → entry_at merged (number_of directory) name ≡ Some (number_of node) → (path : List (List ℕ))
      → directory_path trees overlay (number_of directory) ≡ Some path
      → IsNameAt trees overlay directory node path name
  name_at directory node name entry path way =
      record { way = way; leads = entry_under (number_of directory) path name way ∙ entry }

  module _ (looked : IsLooked trees overlay) where
    abbrev all : List (OpenLayer ℕ)
    all = layers_shown (plain_world trees) (upper_seen overlay)

    shown_number : (path : List (List ℕ)) → is_some (number_at trees overlay path) ≡ is_some (shown all path)
    shown_number = ways.number_is_shown (real_number trees overlay) (held trees overlay)
        (longest trees overlay.layers.lowers) (plain_world trees) (upper_seen overlay)

    -- what is shown under a name is in a directory
    shown_under : (path : List (List ℕ)) (name : List ℕ) (number : ℕ) → named_under path name ≡ Some number
        → (directory : ℕ) × (directory_path trees overlay directory ≡ Some path)
    shown_under path name number is = by (shown all (path ++ name ∷ [])) refl
      where
        by : (o : Option (Shown ℕ)) → shown all (path ++ name ∷ []) ≡ o
            → (directory : ℕ) × (directory_path trees overlay directory ≡ Some path)
        by None e = absurd (true≢false (sym (ap is_some is) ∙ shown_number (path ++ name ∷ []) ∙ ap is_some e))
        by (Some seen) e =
            let open_layers = (is_naming trees overlay looked).open_layers in
            let d = shown_in_directory all open_layers 0 path name seen e in
            let place : 0 + d.place ≡ d.place = omega arith in
            let found = some_from_is_some (number_at trees overlay path) (shown_number path ∙ ap is_some d.is) in (
              found.0,
              is_way trees overlay looked found.0 path found.1
                  (ap (λ o. is_directory_node (then_some o (layer_node all))) d.is
                  ∙ ap (λ o. is_directory_node (then_some o (λ (layer : OpenLayer ℕ). layer.tree.node d.object)))
                  (ap (slice_get all) place ∙ d.there)
                  ∙ d.directory),
            )

    one_directory : (one other : ℕ) (path way : List (List ℕ)) → directory_path trees overlay one ≡ Some path
        → directory_path trees overlay other ≡ Some way → path ≡ way → one ≡ other
    one_directory one other path way is also same = same_Some one other
        (sym (way_number trees overlay looked one path is) ∙ ap (number_at trees overlay) same
        ∙ way_number trees overlay looked other way also)

    module _ (directory node : NodeRef) (path : List (List ℕ)) (name : List ℕ)
        (at : IsNameAt trees overlay directory node path name) where
      abbrev number : ℕ
      number = number_of node

      abbrev whole : List (List ℕ)
      whole = path ++ name ∷ []

      abbrev left : FileTree ℕ
      left = changed nat_eq (merged_files trees overlay) (Remove (number_of directory) name number)

      abbrev is_it : ℕ → List ℕ → Bool
      is_it other word = is_entry (number_of directory) name other word

      entry_left : (other : ℕ) (word : List ℕ) → entry_at left.tree other word
          ≡ cond (is_it other word) None (entry_at merged other word)
      entry_left other word =
          ap (entry_named word) (entries-without_parent
          (without_name nat_eq (merged_files trees overlay) (number_of directory) name) (Some number) other)
          ∙ taken (merged_files trees overlay) (number_of directory) name other word

      is_itself : is_it (number_of directory) name ≡ true
      is_itself = λ i. eq-eqb (number_of directory) (number_of directory) refl i && bytes_eq_itself name i

      leaves_none : IsOnlyAt trees overlay number whole → ¬ (HasName left.tree number)
      leaves_none only has = by (is_it has.0 has.1) refl
        where
          by : (b : Bool) → is_it has.0 has.1 ≡ b → ⊥
          by true e = none_is_some number (sym (entry_left has.0 has.1
              ∙ ap (λ b. cond b None (entry_at merged has.0 has.1)) e) ∙ has.2)
          by false e =
              let entry : entry_at merged has.0 has.1 ≡ Some number =
              sym (entry_left has.0 has.1 ∙ ap (λ b. cond b None (entry_at merged has.0 has.1)) e) ∙ has.2 in
              let way = way_of_entry has.0 number has.1 entry in
              let same = only (way.0 ++ has.1 ∷ []) (entry_under has.0 way.0 has.1 way.1 ∙ entry) in
              let words = same_last way.0 path has.1 name same in
              let directories = one_directory has.0 (number_of directory) way.0 path way.1 at.way
              (same_front way.0 path has.1 name same) in
              true≢false (sym ((λ i. is_it (directories i) (words i)) ∙ is_itself) ∙ e)

      was_last : ¬ (HasName left.tree number) → IsOnlyAt trees overlay number whole
      was_last none [] also =
          let naming = is_naming trees overlay looked in
          absurd (longer_is_not_empty path name (naming.apart [] whole number also at.leads naming.root))
      was_last none (first ∷ rest) also =
          let last = last_of (first ∷ rest) (not_empty first rest) in
          sym last.2 ∙ by last.0 last.1 (ap (number_at trees overlay) last.2 ∙ also)
        where
          by : (front : List (List ℕ)) (word : List ℕ) → named_under front word ≡ Some number
              → front ++ word ∷ [] ≡ whole
          by front word is = decide (shown_under front word number is)
            where
              decide : (directory : ℕ) × (directory_path trees overlay directory ≡ Some front)
                  → front ++ word ∷ [] ≡ whole
              decide in_directory = so (is_it in_directory.0 word) refl
                where
                  so : (b : Bool) → is_it in_directory.0 word ≡ b → front ++ word ∷ [] ≡ whole
                  so true e =
                      let it = is_that_entry (number_of directory) name in_directory.0 word e in
                      let fronts = same_Some front path (sym in_directory.1 ∙ ap (directory_path trees overlay) it.0
                      ∙ at.way) in
                      λ i. fronts i ++ it.1 i ∷ []
                  so false e = absurd (none (
                    in_directory.0,
                    word,
                    entry_left in_directory.0 word
                        ∙ ap (λ b. cond b None (entry_at merged in_directory.0 word)) e
                        ∙ sym (entry_under in_directory.0 front word in_directory.1) ∙ is,
                  ))

      pub last_leaves_none : IsOnlyAt trees overlay number whole ↔ ¬ (HasName left.tree number)
      last_leaves_none = (leaves_none, was_last)
