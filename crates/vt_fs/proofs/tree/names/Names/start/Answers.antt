use Rattle.std.proofs.Common.{[], ap, length, slice_set, subst, sym, ◌++◌, ◌<◌, ◌∙◌, ◌∷◌}
use Rattle.vt_fs.proofs.tree.NamesListed.{listed_first}
use Rattle.vt_fs.proofs.tree.names.Names.start.Goals as goal
use Rattle.vt_fs.specs.Trees.Names.{Lists, listings, more_at, none_at}

pub returns-clause-listings : goal.returns-clause-listings
returns-clause-listings c =
    let items = c.self.inside.lists.items in
    let within : c.args.object < length items =
    subst (λ (lists : Lists). c.args.object < length lists) (sym c.self.view_is) c.requires in
    ap (λ slot. listings (slice_set items slot c.push_reserved.new.self)) c.index.ensures
    ∙ listed_first items c.args.object c.push_reserved.new.self within c.args.directory
    (c.push_reserved.ensures.items ∙ ap (λ list. list ++ c.args.directory ∷ []) c.new-list.ensures.items)
    ∙ ap (λ lists. more_at c.args.object c.args.directory (none_at c.args.object (listings lists))) c.self.view_is
