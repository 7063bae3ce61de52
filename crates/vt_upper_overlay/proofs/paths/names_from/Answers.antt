use Rattle.std.proofs.Common.{rules, ◌≡◌, ◌∙◌, ◌++◌, ◌+◌, ◌∷◌, [], Global, List, Some, Vec, ap, append_assoc, drop, map, sym, slice_get, ℕ}
use Rattle.vt_spec.proofs.Common.{drop_more, get_or_from_slice_get, map-append, slice_get_within}
use Rattle.vt_upper_overlay.proofs.paths.names_from.Goals as goal

drop_named : (path : List (List ℕ)) (index : ℕ) (name : List ℕ) → slice_get path index ≡ Some name
    → drop index path ≡ name ∷ drop (index + 1) path
drop_named path index name is = drop_more path index name (slice_get_within path index name is)
    ∙ ap (λ n. n ∷ drop (index + 1) path) (get_or_from_slice_get path index name name is)

longer : (path : List (List ℕ)) (start index : ℕ) (names : List (List ℕ)) (name : List ℕ)
    → slice_get path index ≡ Some name → names ++ drop index path ≡ drop start path
    → (names ++ name ∷ []) ++ drop (index + 1) path ≡ drop start path
longer path start index names name is so_far = append_assoc names (name ∷ []) (drop (index + 1) path)
    ∙ ap (λ l. names ++ l) (sym (drop_named path index name is)) ∙ so_far

pub loop-index-preserved : goal.loop-index-preserved
loop-index-preserved g c =
    let path = g.W.Way.names c.args.path.now in
    let names = c.loop-index.names.items in
    let last = c.in_ok-copied_bytes.field-0 in
    let rest = drop (c.loop-index.index + 1) path in
    let grown : c.push.new.self.items ≡ names ++ last ∷ [] = search rules in
    ap (λ (l : List (Vec ℕ Global)). map (λ name. name.items) l ++ rest) grown
    ∙ ap (λ l. l ++ rest) (map-append (λ (name : Vec ℕ Global). name.items) names (last ∷ []))
    ∙ ap (λ n. (map (λ (name : Vec ℕ Global). name.items) names ++ n ∷ []) ++ rest) c.in_ok-copied_bytes.ensures.ok
    ∙ longer path c.args.start c.loop-index.index (map (λ (name : Vec ℕ Global). name.items) names) c.name.result.now
    c.name.ensures c.loop-index.invariant
