use Rattle.std.proofs.Common.{ap, length, slice_set, subst, sym, ℕ, ◌<◌, ◌∙◌}
use Rattle.smallvec.specs.SmallVec.{SmallVec}
use Rattle.vt_fs.proofs.tree.NamesListed.{list_lent, listed_same}
use Rattle.vt_fs.proofs.tree.names.Names.reserve.Goals as goal
use Rattle.vt_fs.specs.Trees.Names.{Lists, listings}

pub returns-clause-listings : goal.returns-clause-listings
returns-clause-listings c =
    let lists = c.self.inside.lists.items in
    let within : c.args.object < length lists =
    subst (λ (lists : Lists). c.args.object < length lists) (sym c.self.view_is) c.requires in
    let lent = list_lent lists c.index.result c.args.object c.index_mut-list.result.now c.index.ensures within
    c.index_mut-list.ensures.value in
    ap (λ slot. listings (slice_set lists slot c.reserve.new.self)) c.index.ensures
    ∙ listed_same lists c.args.object c.reserve.new.self within
    (c.reserve.ensures.items ∙ ap (λ (list : SmallVec ℕ). list.items) lent) ∙ ap listings c.self.view_is
