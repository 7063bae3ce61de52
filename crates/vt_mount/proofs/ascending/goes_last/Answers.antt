use Rattle.std.proofs.Common.{[], refl, subst, sym, ◌++◌, ◌≡◌, ◌∷◌, ◌∙◌}
use Rattle.vt_deque.specs.SliceDeque.{items}
use Rattle.vt_spec.proofs.Common.{not-true}
use Rattle.vt_mount.specs.Rising.{inserted}
use Rattle.vt_mount.proofs.RisingLemmas.{inserted-behind, no_last}
use Rattle.vt_mount.proofs.ascending.goes_last.Goals as goal

pub returns-in-Some : goal.returns-in-Some
returns-in-Some g c is = inserted-behind g.met.T.Ordered.order c.args.element c.in-Some.last.now (items c.args.list.now) c.requires
    (sym c.in-Some.ensures) (sym c.is_before.ensures ∙ not-true _ is)

pub returns-in-None : goal.returns-in-None
returns-in-None g c is =
    let one = c.args.element in
    subst (λ list. inserted g.T.Ordered.before one list ≡ list ++ one ∷ []) (sym (no_last (items c.args.list.now) c.in-None.ensures)) refl
