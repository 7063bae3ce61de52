use Rattle.std.proofs.Common.{rules, Some, ap, option_map, sym, true, ◌≡◌, ◌∙◌}
use Rattle.vt_spec.proofs.Common.{then_some}
use Rattle.vt_location.specs.Locations.{number_of}
use Rattle.vt_location.proofs.NodeLemmas.{small_parts}
use Rattle.vt_overlay.specs.MergedTree as through
use Rattle.vt_upper_overlay.specs.Lent.{real_lent}
use Rattle.vt_upper_overlay.specs.MergedAbove.{directory_path, object_lent}
use Rattle.vt_upper_overlay.proofs.Entries.{entry, lent_too, no_entry, plain_is_shown}
use Rattle.vt_upper_overlay.proofs.EntriesLent.{lent_for}
use Rattle.vt_upper_overlay.proofs.Shown.{looked_by}
use Rattle.vt_upper_overlay.proofs.overlay.UpperOverlay.entry.Goals as goal

pub entry-requires-clause-shown : goal.entry-requires-clause-shown
entry-requires-clause-shown c =
    let trees = c.args.trees.now in
    let overlay = c.args.self.now in
    let ways : through.directory_path trees overlay.layers (number_of c.in_ok-through.through)
    ≡ directory_path trees overlay (number_of c.args.node) = sym (ap (λ o. then_some (option_map number_of o)
    (through.directory_path trees overlay.layers)) c.in_ok-through.was) ∙ c.through.ensures.ways in
    let shown : c.is_shown_directory.result ≡ true = search rules in
    plain_is_shown trees overlay
    (looked_by trees overlay c.args.node c.requires.standing c.through.ensures.small c.requires.own)
    (number_of c.args.node) (number_of c.in_ok-through.through) ways (sym c.is_shown_directory.ensures ∙ shown)

pub returns-in_err-found-clause-node : goal.returns-in_err-found-clause-node
returns-in_err-found-clause-node c =
    let trees = c.args.trees.now in
    let overlay = c.args.self.now in
    let ways : through.directory_path trees overlay.layers (number_of c.in_ok-through.through)
    ≡ directory_path trees overlay (number_of c.args.node) = sym (ap (λ o. then_some (option_map number_of o)
    (through.directory_path trees overlay.layers)) c.in_ok-through.was) ∙ c.through.ensures.ways in
    ap (option_map (λ entry. number_of entry.node)) c.from_residual-in_err-found.ensures
    ∙ no_entry trees overlay
    (looked_by trees overlay c.args.node c.requires.standing c.through.ensures.small c.requires.own)
    (number_of c.args.node) (number_of c.in_ok-through.through) ways c.args.name.now
    (sym (ap (option_map (λ entry. number_of entry.node)) c.in_err-found.was) ∙ c.entry.ensures.node)

pub returns-clause-node : goal.returns-clause-node
returns-clause-node c =
    let trees = c.args.trees.now in
    let overlay = c.args.self.now in
    let found = c.in_ok-found.found.node in
    let ways : through.directory_path trees overlay.layers (number_of c.in_ok-through.through)
    ≡ directory_path trees overlay (number_of c.args.node) = sym (ap (λ o. then_some (option_map number_of o)
    (through.directory_path trees overlay.layers)) c.in_ok-through.was) ∙ c.through.ensures.ways in
    ap (λ n. Some (number_of n)) c.node_for.ensures.value
    ∙ (entry trees overlay
    (looked_by trees overlay c.args.node c.requires.standing c.through.ensures.small c.requires.own)
    (number_of c.args.node) (number_of c.in_ok-through.through) ways c.args.name.now found
    (small_parts found c.node_for.ensures.small)
    (sym (ap (option_map (λ entry. number_of entry.node)) c.in_ok-found.was) ∙ c.entry.ensures.node)).is

pub returns-clause-object : goal.returns-clause-object
returns-clause-object c =
    let trees = c.args.trees.now in
    let overlay = c.args.self.now in
    let found = c.in_ok-found.found.node in
    let looked = looked_by trees overlay c.args.node c.requires.standing c.through.ensures.small c.requires.own in
    let ways : through.directory_path trees overlay.layers (number_of c.in_ok-through.through)
    ≡ directory_path trees overlay (number_of c.args.node) = sym (ap (λ o. then_some (option_map number_of o)
    (through.directory_path trees overlay.layers)) c.in_ok-through.was) ∙ c.through.ensures.ways in
    let is = entry trees overlay looked
    (number_of c.args.node) (number_of c.in_ok-through.through) ways c.args.name.now found
    (small_parts found c.node_for.ensures.small)
    (sym (ap (option_map (λ entry. number_of entry.node)) c.in_ok-found.was) ∙ c.entry.ensures.node) in
    c.in_ok-found.ensures.object
    ∙ lent_too trees overlay looked found (small_parts found c.node_for.ensures.small) is.path is.plainly
    ∙ ap (object_lent trees overlay) (sym c.node_for.ensures.value)

pub returns-clause-lent : goal.returns-clause-lent
returns-clause-lent c =
    let trees = c.args.trees.now in
    let overlay = c.args.self.now in
    let found = c.in_ok-found.found.node in
    let looked = looked_by trees overlay c.args.node c.requires.standing c.through.ensures.small c.requires.own in
    let ways : through.directory_path trees overlay.layers (number_of c.in_ok-through.through)
    ≡ directory_path trees overlay (number_of c.args.node) = sym (ap (λ o. then_some (option_map number_of o)
    (through.directory_path trees overlay.layers)) c.in_ok-through.was) ∙ c.through.ensures.ways in
    let is = entry trees overlay looked
    (number_of c.args.node) (number_of c.in_ok-through.through) ways c.args.name.now found
    (small_parts found c.node_for.ensures.small)
    (sym (ap (option_map (λ entry. number_of entry.node)) c.in_ok-found.was) ∙ c.entry.ensures.node) in
    c.in_ok-found.ensures.object
    ∙ lent_too trees overlay looked found (small_parts found c.node_for.ensures.small) is.path is.plainly
    ∙ lent_for trees overlay looked found (small_parts found c.node_for.ensures.small) is.path is.plainly
    ∙ ap (λ n. real_lent trees overlay (number_of n)) (sym c.node_for.ensures.value)
