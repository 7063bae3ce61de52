use Rattle.std.proofs.Common.{rules, ◌≡◌, ◌∙◌, ◌++◌, ◌+◌, ◌∷◌, [], Global, List, Some, Vec, ap, append_assoc, drop, map, sym, slice_get, ℕ}
use Rattle.vt_spec.proofs.Common.{map-append}
use Rattle.vt_overlay.proofs.merge.NamesTaken.{drop_named}
use Rattle.vt_overlay.proofs.paths.names_from.Goals as goal

longer : (path : List (List ℕ)) (start index : ℕ) (names : List (List ℕ)) (name : List ℕ)
    → slice_get path index ≡ Some name → names ++ drop index path ≡ drop start path
    → (names ++ name ∷ []) ++ drop (index + 1) path ≡ drop start path
longer path start index names name is so_far = append_assoc names (name ∷ []) (drop (index + 1) path)
    ∙ ap (λ l. names ++ l) (sym (drop_named path index name is)) ∙ so_far

pub loop-index-preserved : goal.loop-index-preserved
loop-index-preserved g c =
    let path = g.W.Way.names c.args.path.now in
    let names = c.loop-index.names.items in
    let last = c.in_ok-copied_bytes.field-0 in
    let rest = drop (c.loop-index.index + 1) path in
    let grown : c.push.new.self.items ≡ names ++ last ∷ [] = search rules in
    ap (λ (l : List (Vec ℕ Global)). map (λ name. name.items) l ++ rest) grown
    ∙ ap (λ l. l ++ rest) (map-append (λ (name : Vec ℕ Global). name.items) names (last ∷ []))
    ∙ ap (λ n. (map (λ (name : Vec ℕ Global). name.items) names ++ n ∷ []) ++ rest) c.in_ok-copied_bytes.ensures.ok
    ∙ longer path c.args.start c.loop-index.index (map (λ (name : Vec ℕ Global). name.items) names) c.name.result.now
    c.name.ensures c.loop-index.invariant
