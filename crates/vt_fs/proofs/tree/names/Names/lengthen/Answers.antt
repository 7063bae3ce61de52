use Rattle.std.proofs.Common.{[], ap, arith, length, ◌∙◌, ◌∷◌}
use Rattle.std.proofs.lemmas.List.{length-append}
use Rattle.vt_fs.proofs.tree.NamesListed.{listed_pushed}
use Rattle.vt_fs.proofs.tree.names.Names.lengthen.Goals as goal
use Rattle.vt_fs.specs.Trees.Names.{Lists, listings}

pub loop-self-init : goal.loop-self-init
loop-self-init c = (ap listings c.self.view_is, omega (arith, ap (λ (lists : Lists). length lists) c.self.view_is))

pub loop-self-preserved : goal.loop-self-preserved
loop-self-preserved c = (
  ap listings c.in_ok-push.ensures.items ∙ listed_pushed c.loop-self.self-inside.lists.items _ c.new.ensures.items
      ∙ c.loop-self.invariant.0,
  omega (
    arith,
    ap (λ (lists : Lists). length lists) c.in_ok-push.ensures.items,
    length-append c.loop-self.self-inside.lists.items (c.new.result ∷ []),
    c.loop-self.invariant.1,
  ),
)
