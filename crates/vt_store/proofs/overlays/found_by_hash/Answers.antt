use Rattle.std.proofs.Common.{sym, ◌∙◌}
use Rattle.vt_store.proofs.KeptOverlays.{first_found}
use Rattle.vt_store.proofs.overlays.found_by_hash.Goals as goal

pub returns-in-Some : goal.returns-in-Some
returns-in-Some c =
    first_found c.args.id c.in-Some.first.now c.in-Some.found.now c.args.by_number.now.entries c.in-Some.ensures.entry
    (sym c.eq.ensures ∙ c.if-eq.true)
