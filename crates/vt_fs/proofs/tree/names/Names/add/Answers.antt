use Rattle.std.proofs.Common.{ap, length, lit<, slice_set, subst, sym, ◌++◌, ◌<◌, ◌∙◌, ◌∷◌, ◌≡◌, []}
use Rattle.smallvec.specs.SmallVec.{HasRoomFor}
use Rattle.vt_fs.proofs.tree.NamesListed.{list_lent, listed_more}
use Rattle.vt_fs.proofs.tree.names.Names.add.Goals as goal
use Rattle.vt_fs.proofs.tree.names.Names.add.Goals.{After-index_mut-list}
use Rattle.vt_fs.specs.Trees.Names.{Lists, list_for, listings, more_at}

within : (c : After-index_mut-list) → c.args.object < length c.self.inside.lists.items
within c = subst (λ (lists : Lists). c.args.object < length lists) (sym c.self.view_is) c.requires.0

lent : (c : After-index_mut-list) → c.index_mut-list.result.now ≡ list_for c.self.inside.lists.items c.args.object
lent c = list_lent c.self.inside.lists.items c.index.result c.args.object c.index_mut-list.result.now c.index.ensures
    (within c) c.index_mut-list.ensures.value

pub push_reserved-requires : goal.push_reserved-requires
push_reserved-requires c = (
  lit< tt,
  subst (λ list. HasRoomFor list 1) (sym (lent c))
      (subst (λ (lists : Lists). HasRoomFor (list_for lists c.args.object) 1) (sym c.self.view_is) c.requires.1),
)

pub returns-clause-listings : goal.returns-clause-listings
returns-clause-listings c =
    let path = (goal.at.returns-clause-listings c).After-index_mut-list in
    let items = c.self.inside.lists.items in
    ap (λ slot. listings (slice_set items slot c.push_reserved.new.self)) c.index.ensures
    ∙ listed_more items c.args.object c.push_reserved.new.self (within path) c.args.directory
    (c.push_reserved.ensures.items ∙ ap (λ list. list.items ++ c.args.directory ∷ []) (lent path))
    ∙ ap (λ lists. more_at c.args.object c.args.directory (listings lists)) c.self.view_is
