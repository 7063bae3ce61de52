use Rattle.std.proofs.Common.{rules, false, subst, sym, true, ◌≡◌}
use Rattle.vt_upper.specs.New.{IsNameGone, IsNameReady, IsRemovalReady, IsRemoved}
use Rattle.vt_upper.proofs.removing.NameRemoval.apply.Goals as goal

pub make-requires : goal.make-requires
make-requires c =
    let yes : c.args.self.hidden ≡ true = search rules in
    subst (λ h. IsRemovalReady h c.args.self.place c.args.self.white.name.items c.args.trees.now
    c.args.overlay.now.nodes.births c.args.room.now) yes c.requires

pub returns-then-hidden-clause-removed : goal.returns-then-hidden-clause-removed
returns-then-hidden-clause-removed c =
    let yes : c.args.self.hidden ≡ true = search rules in
    subst (λ h. IsRemoved h c.args.self.place c.args.self.white.name.items c.args.self.white.node c.args.trees.now
    c.args.overlay.now.nodes.births c.make.new.trees c.make.new.births) (sym yes) (c.make.result, c.make.ensures)

pub leave-requires : goal.leave-requires
leave-requires c =
    let no : c.args.self.hidden ≡ false = search rules in
    subst (λ name. IsNameReady c.args.self.place name c.args.trees.now c.args.overlay.now.nodes.births c.args.room.now)
    (sym c.deref.ensures.value)
    (subst (λ h. IsRemovalReady h c.args.self.place c.args.self.white.name.items c.args.trees.now
    c.args.overlay.now.nodes.births c.args.room.now) no c.requires)

pub returns-clause-removed : goal.returns-clause-removed
returns-clause-removed c =
    let no : c.args.self.hidden ≡ false = search rules in
    subst (λ h. IsRemoved h c.args.self.place c.args.self.white.name.items c.args.self.white.node c.args.trees.now
    c.args.overlay.now.nodes.births c.leave.new.trees c.leave.new.births) (sym no)
    (subst (λ name. IsNameGone c.args.self.place name c.args.trees.now c.args.overlay.now.nodes.births c.leave.new.trees
    c.leave.new.births) c.deref.ensures.value c.leave.ensures)
