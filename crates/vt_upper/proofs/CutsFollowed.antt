-- A layer cuts at a path if something hides on the way: name by name.
use Rattle.std.proofs.Common.{◌≡◌, ◌+◌, ◌∷◌, ◌||◌, ◌∙◌, [], Bool, List, None, Option, Some, ap, arith, drop, false, map, refl, slice_get, ℕ}
use Rattle.vt_spec.proofs.Common.{OpenLayer, Tree, common_steps, cuts, drop_more, entry_at, get_or_from_slice_get, hides, list_any, node_led, prefixes, slice_get_within, view_of}
use Rattle.vt_overlay.specs.Merge.LayerValue.{cut_on}

abbrev layer_in : Tree ℕ → ℕ → OpenLayer ℕ
layer_in tree directory = record { tree = tree; directory = directory }

abbrev any_cut : Tree ℕ → ℕ → List (List (List ℕ)) → Bool
any_cut tree directory paths = list_any (λ prefix. hides (node_led (view_of (layer_in tree directory)) prefix)) paths

any_none : (tree : Tree ℕ) (directory : ℕ) (name : List ℕ) (paths : List (List (List ℕ)))
    → entry_at tree directory name ≡ None → any_cut tree directory (map (λ prefix. name ∷ prefix) paths) ≡ false
any_none tree directory name [] none = refl
any_none tree directory name (path ∷ paths) none = rw none (any_none tree directory name paths none)

any_some : (tree : Tree ℕ) (directory next : ℕ) (name : List ℕ) (paths : List (List (List ℕ)))
    → entry_at tree directory name ≡ Some next
    → any_cut tree directory (map (λ prefix. name ∷ prefix) paths) ≡ any_cut tree next paths
any_some tree directory next name [] some = refl
any_some tree directory next name (path ∷ paths) some = cc (any_some tree directory next name paths some)

by_entry : (tree : Tree ℕ) (directory : ℕ) (name : List ℕ) (path : List (List ℕ)) (found : Option ℕ)
    → ((next : ℕ) → cuts (view_of (layer_in tree next)) path ≡ cut_on tree path next)
    → entry_at tree directory name ≡ found
    → cuts (view_of (layer_in tree directory)) (name ∷ path) ≡ cut_on tree (name ∷ path) directory
by_entry tree directory name path None rest none = rw none (any_none tree directory name (prefixes path) none)
by_entry tree directory name path (Some next) rest some = rw some (ap (λ rest. hides (tree.node next) || rest)
    (any_some tree directory next name (prefixes path) some ∙ rest next))

pub cuts_on : (tree : Tree ℕ) (path : List (List ℕ)) (directory : ℕ)
    → cuts (view_of (layer_in tree directory)) path ≡ cut_on tree path directory
cuts_on tree [] directory = refl
cuts_on tree (name ∷ path) directory = grind (arith, common_steps, cuts_on tree path, by_entry)

drop_named : (names : List (List ℕ)) (index : ℕ) (name : List ℕ) → slice_get names index ≡ Some name
    → drop index names ≡ name ∷ drop (index + 1) names
drop_named names index name is = drop_more names index name (slice_get_within names index name is)
    ∙ ap (λ n. n ∷ drop (index + 1) names) (get_or_from_slice_get names index name name is)

module _ (tree : Tree ℕ) (here : ℕ) (names : List (List ℕ)) (index : ℕ) (name : List ℕ)
    (is : slice_get names index ≡ Some name) where
  -- where a name is missing nothing more hides
  pub stops_cut : None ≡ entry_at tree here name → cut_on tree (drop index names) here ≡ false
  stops_cut none = cc (drop_named names index name is)

  pub goes_on_cut : (next : ℕ) → Some next ≡ entry_at tree here name
      → cut_on tree (drop index names) here ≡ (hides (tree.node next) || cut_on tree (drop (index + 1) names) next)
  goes_on_cut next at = cc (drop_named names index name is, at)
