use Rattle.std.proofs.Common.{rules, Bool, Bor, Global, List, Vec, ◌≡◌, ◌∙◌, ◌&&◌, ◌||◌, ap, nat_eq, sym, take, ℕ}
use Rattle.vt_spec.proofs.Common.{list_any, pointwise, or-false}
use Rattle.std.proofs.lemmas.List.Folds.{list_any_more}
use Rattle.indexmap.specs.IndexSet.{insert_key}
use Rattle.vt_overlay.specs.Merge.LayerValue.{is_white_under}
use Rattle.vt_overlay.proofs.merge.NamesHad.{is_name}
use Rattle.vt_overlay.proofs.merge.NamesShown.{any_inserted, whites_grown}
use Rattle.vt_overlay.proofs.merge.naming.add_whiteouts.Goals as goal
use Rattle.vt_overlay.proofs.merge.naming.add_whiteouts.Goals.{else-is_whiteout_under, then-is_whiteout_under+in_ok-insert}

pub loop-name-preserved : goal.loop-name-preserved
loop-name-preserved c name =
    let fs = c.args.trees.now in
    let top = c.args.top in
    let at = c.loop-name in
    let names = c.args.names.now in
    let key = c.name-item.result in
    let hits : List (Bor (List ℕ)) → Bool = λ keys. list_any (λ one. is_name name one.now) keys in
    let had : List (Vec ℕ Global) → Bool = λ names. list_any (λ one. is_name name one.items) names in
    let white = c.is_whiteout_under.result in
    let is_white : white ≡ is_white_under fs top key.items =
    c.is_whiteout_under.ensures ∙ ap (is_white_under fs top) c.as_slice.ensures.value in
    let grown : hits c.if-is_whiteout_under.whiteouts.keys
    ≡ (hits at.whiteouts.keys || (white && is_name name key.items)) = elim c.if-is_whiteout_under.branch [
      | then-is_whiteout_under+in_ok-insert w ↦ (let one = w.as_slice-then-is_whiteout_under.result in
          let put : c.if-is_whiteout_under.whiteouts.keys
          ≡ insert_key (λ a b. pointwise nat_eq a.now b.now) at.whiteouts.keys one = search rules in
          ap hits put
          ∙ any_inserted name key.items at.whiteouts.keys one w.as_slice-then-is_whiteout_under.ensures.value
          ∙ ap (λ b. hits at.whiteouts.keys || (b && is_name name key.items)) (sym w.if-is_whiteout_under.true))
      | else-is_whiteout_under w ↦ ap (λ whiteouts. hits whiteouts.keys) w.whiteouts-is
          ∙ sym (or-false (hits at.whiteouts.keys))
          ∙ ap (λ b. hits at.whiteouts.keys || (b && is_name name key.items)) (sym w.if-is_whiteout_under.false)
    ] in
    whites_grown fs top name key.items (hits c.args.whiteouts.now.keys) (had (take at.name-index names))
    (hits at.whiteouts.keys) (hits c.if-is_whiteout_under.whiteouts.keys) white (at.invariant name) is_white grown
    ∙ ap (λ b. hits c.args.whiteouts.now.keys || (is_white_under fs top name && b))
    (ap (λ (one : Vec ℕ Global). had (take at.name-index names) || is_name name one.items) c.name-item.is
    ∙ sym (list_any_more (λ (one : Vec ℕ Global). is_name name one.items) names at.name-index key
    c.loop-name-test.true))
