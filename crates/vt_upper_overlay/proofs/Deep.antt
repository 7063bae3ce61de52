-- No way has more names than there are numbers beside the tree.
use Rattle.std.proofs.Common.{◌≡◌, ◌≢◌, ◌∙◌, ◌≤◌, ◌++◌, [], arith, ap, Bool, false, length, length-append, List, map, nat_eq, None, Option, refl, Some, sym, true, true≢false, ℕ, filter_map, is_some}
use Rattle.std.specs.Map.{keys_of}
use Rattle.vt_spec.proofs.Common.{Shown, is_directory_under, path_down, paths_from, shown, when}
use Rattle.vt_laws_trees.specs.Overlays.MergedTrees.{layers_shown}
use Rattle.vt_location.specs.Locations.{number_of}
use Rattle.vt_fs.specs.FilesystemsValue.{Filesystems}
use Rattle.vt_overlay.specs.MergedTree.{longest, plain_world}
use Rattle.vt_overlay.proofs.DirectoriesUnder.{no_deeper}
use Rattle.vt_upper_overlay.specs.MergedAbove.{directory_path, held, merged_files, number_at, numbers_there, real_number, upper_seen}
use Rattle.vt_upper_overlay.specs.UpperValue.{UpperOverlayValue}
use Rattle.vt_upper_overlay.proofs.Named.{is_naming, way_number}
use Rattle.vt_upper_overlay.proofs.Shown.{IsLooked}
use Rattle.vt_upper_overlay.proofs.Under as under
use Rattle.vt_upper_overlay.proofs.Ways as ways

module _ (trees : Filesystems) (overlay : UpperOverlayValue) (looked : IsLooked trees overlay) where
  abbrev most : ℕ
  most = longest trees overlay.layers.lowers

  abbrev numbered : List (List ℕ) → Option ℕ
  numbered = number_at trees overlay

  has_number : (path : List (List ℕ)) → is_some (number_at trees overlay path)
      ≡ is_some (shown (layers_shown (plain_world trees) (upper_seen overlay)) path)
  has_number = ways.number_is_shown (real_number trees overlay) (held trees overlay) most (plain_world trees)
      (upper_seen overlay)

  pub deep : (number : ℕ) (path : List (List ℕ)) → directory_path trees overlay number ≡ Some path
      → length path ≤ length (numbers_there trees overlay)
  deep number path e = by (shown (layers_shown (plain_world trees) (upper_seen overlay)) path) refl
    where
      by : (o : Option (Shown ℕ)) → shown (layers_shown (plain_world trees) (upper_seen overlay)) path ≡ o
          → length path ≤ length (numbers_there trees overlay)
      by None s = absurd (true≢false (sym (ap is_some (way_number trees overlay looked number path e))
          ∙ has_number path ∙ ap is_some s))
      by (Some seen) s =
          let naming = is_naming trees overlay looked in
          let within = no_deeper (layers_shown (plain_world trees) (upper_seen overlay)) naming.open_layers
          (number_at trees overlay) has_number most [] path seen (naming.bounded path seen s) s in
          let whole = length-append (filter_map (number_at trees overlay)
          (paths_from most (layers_shown (plain_world trees) (upper_seen overlay)) []))
          (map number_of (keys_of overlay.nodes.kept.by_node)) in
          omega (arith, within, whole)

  -- So a directory lies under another one just if its way begins with the way of that one, and the names down to it are
  -- those that its way has more.
  pub under_by_ways : (top number : ℕ) (front path : List (List ℕ)) → directory_path trees overlay top ≡ Some front
      → directory_path trees overlay number ≡ Some path
      → (begins : Bool) → (begins ≡ true → (rest : List (List ℕ)) × (front ++ rest ≡ path))
      → (begins ≡ false → (rest : List (List ℕ)) → front ++ rest ≢ path)
      → begins ≡ is_directory_under nat_eq (merged_files trees overlay) top number
  under_by_ways = under.under_by_ways (real_number trees overlay) (held trees overlay) most (plain_world trees)
      (upper_seen overlay) (is_naming trees overlay looked) (numbers_there trees overlay) deep

  pub under_no_directory : (top number : ℕ) → directory_path trees overlay number ≡ None
      → nat_eq top number ≡ is_directory_under nat_eq (merged_files trees overlay) top number
  under_no_directory = under.under_no_directory (real_number trees overlay) (held trees overlay) most (plain_world trees)
      (upper_seen overlay) (is_naming trees overlay looked) (numbers_there trees overlay) deep

  pub under_no_top : (top number : ℕ) (path : List (List ℕ)) → directory_path trees overlay top ≡ None
      → directory_path trees overlay number ≡ Some path
      → nat_eq top number ≡ is_directory_under nat_eq (merged_files trees overlay) top number
  under_no_top = under.under_no_top (real_number trees overlay) (held trees overlay) most (plain_world trees)
      (upper_seen overlay) (is_naming trees overlay looked) (numbers_there trees overlay) deep

  pub down_by_ways : (top number : ℕ) (front rest : List (List ℕ)) → directory_path trees overlay top ≡ Some front
      → directory_path trees overlay number ≡ Some (front ++ rest)
      → is_directory_under nat_eq (merged_files trees overlay) top number ≡ true
      → Some rest ≡ path_down nat_eq (merged_files trees overlay) top number
  down_by_ways = under.down_by_ways (real_number trees overlay) (held trees overlay) most (plain_world trees)
      (upper_seen overlay) (is_naming trees overlay looked) (numbers_there trees overlay) deep

  pub not_down : (top number : ℕ) → is_directory_under nat_eq (merged_files trees overlay) top number ≡ false
      → None ≡ path_down nat_eq (merged_files trees overlay) top number
  not_down = under.not_down (real_number trees overlay) (held trees overlay) most (plain_world trees)
      (upper_seen overlay) (is_naming trees overlay looked) (numbers_there trees overlay) deep

  pub to_itself : (top number : ℕ)
      → nat_eq top number ≡ is_directory_under nat_eq (merged_files trees overlay) top number
      → when (nat_eq top number) [] ≡ path_down nat_eq (merged_files trees overlay) top number
  to_itself = under.to_itself (real_number trees overlay) (held trees overlay) most (plain_world trees)
      (upper_seen overlay) (is_naming trees overlay looked) (numbers_there trees overlay) deep
