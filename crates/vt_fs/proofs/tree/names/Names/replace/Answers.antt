use Rattle.std.proofs.Common.{[], ap, length, slice_set, subst, sym, ℕ, ◌++◌, ◌<◌, ◌∙◌, ◌∷◌}
use Rattle.smallvec.specs.SmallVec.{SmallVec}
use Rattle.vt_fs.proofs.tree.NamesListed.{listed_anew}
use Rattle.vt_fs.proofs.tree.names.Names.replace.Goals as goal
use Rattle.vt_fs.specs.Trees.Names.{Lists, listed_as, listings, more_at}

pub returns-clause-listings : goal.returns-clause-listings
returns-clause-listings c =
    let items = c.self.inside.lists.items in
    let within : c.args.object < length items =
    subst (λ (lists : Lists). c.args.object < length lists) (sym c.self.view_is) c.requires.list in
    ap (λ slot. listings (slice_set items slot c.push_reserved.new.self)) c.index.ensures
    ∙ listed_anew items c.args.object c.push_reserved.new.self within c.args.room.items c.args.directory
    (c.push_reserved.ensures.items
    ∙ ap (λ (room : SmallVec ℕ). room.items ++ c.args.directory ∷ []) c.room.view_is)
    ∙ ap (λ lists. more_at c.args.object c.args.directory (listed_as c.args.object c.args.room.items (listings lists)))
    c.self.view_is
