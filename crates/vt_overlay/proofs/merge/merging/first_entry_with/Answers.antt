use Rattle.vt_overlay.proofs.merge.EntriesFound.{decides_first, decides_nothing}
use Rattle.vt_overlay.proofs.merge.merging.first_entry_with.Goals as goal

pub returns-clause-first : goal.returns-clause-first
returns-clause-first g c =
    let items = c.as_slice.ensures.value in
    decides_first c.args.trees.now c.args.layers.now (g.W.Way.names c.args.path.now) c.args.name.now
    c.as_slice.result.now c.first_of.result (rw items c.merge_at.ensures.shows) c.first_of.ensures.shows
    (rw items c.merge_at.ensures.led) c.first_of.ensures.above c.first_of.ensures.entry

pub returns-clause-nothing : goal.returns-clause-nothing
returns-clause-nothing g c =
    let items = c.as_slice.ensures.value in
    decides_nothing c.args.trees.now c.args.layers.now (g.W.Way.names c.args.path.now) c.args.name.now
    c.as_slice.result.now c.first_of.result (rw items c.merge_at.ensures.shows) c.first_of.ensures.shows
