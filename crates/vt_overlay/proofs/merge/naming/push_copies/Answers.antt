use Rattle.std.proofs.Common.{rules, Global, List, Vec, ◌≡◌, ◌∙◌, ◌++◌, ◌∷◌, [], ap, append_assoc, get_or, map, sym, take, ℕ, append-nil, take_all}
use Rattle.vt_spec.proofs.Common.{map-append, take_more}
use Rattle.vt_overlay.proofs.merge.naming.push_copies.Goals as goal

abbrev bytes : List (Vec ℕ Global) → List (List ℕ)
bytes names = map (λ name. name.items) names

pub loop-name-init : goal.loop-name-init
loop-name-init c = sym (append-nil (bytes c.args.all.now.items))

pub loop-name-preserved : goal.loop-name-preserved
loop-name-preserved c =
    let names = c.args.names.now in
    let at = c.loop-name in
    let old = c.args.all.now.items in
    let name = c.name-item.result in
    let copy = c.in_ok-copied_bytes.field-0 in
    let so_far = bytes old ++ bytes (take at.name-index names) in
    let grown : c.push.new.self.items ≡ at.all.items ++ copy ∷ [] = search rules in
    ap bytes grown ∙ map-append (λ (name : Vec ℕ Global). name.items) at.all.items (copy ∷ [])
    ∙ (λ i. at.invariant i ++ (c.in_ok-copied_bytes.ensures.ok ∙ c.as_slice.ensures.value) i ∷ [])
    ∙ ap (λ (one : Vec ℕ Global). so_far ++ one.items ∷ []) c.name-item.is
    ∙ append_assoc (bytes old) (bytes (take at.name-index names)) (bytes (get_or names at.name-index name ∷ []))
    ∙ ap (λ l. bytes old ++ l) (sym (map-append (λ (name : Vec ℕ Global). name.items) (take at.name-index names)
    (get_or names at.name-index name ∷ [])))
    ∙ ap (λ l. bytes old ++ bytes l) (sym (take_more names at.name-index name c.loop-name-test.true))

pub returns : goal.returns
returns c = c.loop-name.invariant ∙ ap (λ l. bytes c.args.all.now.items ++ bytes l)
    (take_all c.loop-name.name-index c.args.names.now c.loop-name-test.false)
