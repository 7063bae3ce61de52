use Rattle.std.proofs.Common.{eqb-true, rules, sym, ◌∙◌}
use Rattle.vt_location.proofs.NodeLemmas.{one_to_one, small_parts}
use Rattle.vt_location.specs.Locations.{number_of}
use Rattle.vt_location.specs.Numbers.{filesystem_number}
use Rattle.vt_propagate.proofs.receiving.shows.Goals as goal

pub returns-then-is_same : goal.returns-then-is_same
returns-then-is_same g c =
    let root = c.args.root in
    let known = c.args.known in
    let same = one_to_one root known (small_parts root (search rules)) (small_parts known (search rules))
    (eqb-true (number_of root) (number_of known) (sym c.is_same.ensures ∙ c.if-is_same.true)) in
    c.requires ∙ (λ i. g.R.Reach.under c.args.directories.now (filesystem_number (sym same i).filesystem)
    (number_of (sym same i)) (number_of c.args.directory))
