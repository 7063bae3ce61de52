-- Names that are taken one after the other.
use Rattle.std.proofs.Common.{◌≡◌, ◌∙◌, ◌∷◌, ◌+◌, ◌++◌, [], ap, append_assoc, drop, List, Some, sym, take, ℕ, slice_get}
use Rattle.vt_spec.proofs.Common.{drop_more, get_or_from_slice_get, slice_get_within, take_more}

module _ (names : List (List ℕ)) (index : ℕ) (name : List ℕ) (is : slice_get names index ≡ Some name) where
  pub drop_named : drop index names ≡ name ∷ drop (index + 1) names
  drop_named = drop_more names index name (slice_get_within names index name is)
      ∙ ap (λ n. n ∷ drop (index + 1) names) (get_or_from_slice_get names index name name is)

  pub take_named : (rest : List (List ℕ)) → take index names ++ name ∷ rest ≡ take (index + 1) names ++ rest
  take_named rest = sym (ap (λ l. l ++ rest) (take_more names index name (slice_get_within names index name is)
      ∙ ap (λ n. take index names ++ n ∷ []) (get_or_from_slice_get names index name name is))
      ∙ append_assoc (take index names) (name ∷ []) rest)
