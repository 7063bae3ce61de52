use Rattle.std.proofs.Common.{◌∙◌, ap, is_some, sym}
use Rattle.vt_overlay.proofs.merge.EntriesFound.{entry_is_shown}
use Rattle.vt_overlay.proofs.merge.naming.shows.Goals as goal

pub returns-in-Some : goal.returns-in-Some
returns-in-Some c =
    entry_is_shown c.args.trees.now c.args.name.now c.in-Some.found c.is_whiteout.result c.in-Some.ensures.entry
    c.is_whiteout.ensures ∙ ap is_some (sym c.in-Some.ensures.shows)
