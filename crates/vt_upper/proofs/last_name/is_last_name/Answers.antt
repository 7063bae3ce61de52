use Rattle.std.proofs.Common.{rules, sym, true, ◌++◌, ◌<◌, ◌≡◌, ◌∙◌, ◌∷◌, []}
use Rattle.vt_upper.proofs.LastNames.{only_born, own_shown, told_above}
use Rattle.vt_location.proofs.NodeLemmas.{small_parts}
use Rattle.vt_location.specs.Locations.{is_small_node}
use Rattle.vt_upper_overlay.proofs.Shown.{IsLooked, looked_by}
use Rattle.vt_upper.proofs.last_name.is_last_name.Goals as goal

pub returns-in_default-clause-told : goal.returns-in_default-clause-told
returns-in_default-clause-told c = λ path name at.
    let trees = c.args.trees.now in
    let overlay = c.args.overlay.now in
    let node = c.args.node in
    let directory_small : is_small_node c.args.directory ≡ true = search rules in
    let small : is_small_node node ≡ true = search rules in
    let looked = looked_by trees overlay c.args.directory c.requires.standing directory_small c.requires.own in
    only_born trees overlay looked node (small_parts node small)
    (own_shown trees overlay looked node (small_parts node small) (path ++ name ∷ []) at.leads)
    (sym c.slot_above.ensures ∙ c.in_default.is) (path ++ name ∷ []) at.leads

pub returns-clause-told : goal.returns-clause-told
returns-clause-told c = λ path name at.
    let trees = c.args.trees.now in
    let overlay = c.args.overlay.now in
    let node = c.args.node in
    let directory_small : is_small_node c.args.directory ≡ true = search rules in
    let small : is_small_node node ≡ true = search rules in
    let looked : IsLooked trees overlay = record {
      stands = c.requires.standing;
      small = (looked_by trees overlay c.args.directory c.requires.standing directory_small c.requires.own).small;
      top = c.upper.result;
      first = c.upper.ensures;
    } in
    let slot = c.in-Some.slot in
    let slot_small : slot < 18446744073709551616 = search rules in
    told_above trees overlay looked node (small_parts node small)
    (own_shown trees overlay looked node (small_parts node small) (path ++ name ∷ []) at.leads)
    slot slot_small (sym c.slot_above.ensures ∙ c.in-Some.is) c.args.directory
    (small_parts c.args.directory directory_small) path name at c.has_other_name.result c.has_other_name.ensures
