-- Names followed one after the other.
use Rattle.std.proofs.Common.{◌≡◌, ◌∙◌, ◌+◌, ◌||◌, List, None, Some, ap, drop, false, option_and_then, sym, ℕ, slice_get}
use Rattle.vt_spec.proofs.Common.{Tree, entry_at, hides, led}
use Rattle.vt_overlay.specs.Merge.LayerValue.{cut_on}
use Rattle.vt_overlay.proofs.merge.NamesTaken.{drop_named}

module _ (tree : Tree ℕ) (here : ℕ) (names : List (List ℕ)) (index : ℕ) (name : List ℕ)
    (is : slice_get names index ≡ Some name) where
  abbrev rest : List (List ℕ)
  rest = drop (index + 1) names

  -- where a name is missing they lead nowhere, and hide nothing more
  pub stops : None ≡ entry_at tree here name → None ≡ led tree here (drop index names)
  stops none = cc (drop_named names index name is)

  pub stops_cut : None ≡ entry_at tree here name → cut_on tree (drop index names) here ≡ false
  stops_cut none = cc (drop_named names index name is)

  -- else they go on from there
  module _ (next : ℕ) (at : Some next ≡ entry_at tree here name) where
    pub goes_on : led tree here (drop index names) ≡ led tree next rest
    goes_on = ap (led tree here) (drop_named names index name is) ∙ ap (option_and_then (λ n. led tree n rest)) (sym at)

    pub goes_on_cut : cut_on tree (drop index names) here ≡ (hides (tree.node next) || cut_on tree rest next)
    goes_on_cut = cc (drop_named names index name is, at)
