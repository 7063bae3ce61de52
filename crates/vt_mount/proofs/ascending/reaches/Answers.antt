use Rattle.std.proofs.Common.{Bool, false, not, true, ◌∙◌, refl, subst, sym, ◌≡◌}
use Rattle.vt_deque.specs.SliceDeque.{items}
use Rattle.vt_mount.proofs.RisingLemmas.{no_last, others_by, others-below}
use Rattle.vt_mount.proofs.ascending.reaches.Goals as goal

pub returns-in-Some : goal.returns-in-Some
returns-in-Some g c less = others-below g.met.T.Ordered.order c.args.element c.in-Some.last.now (items c.args.list.now) c.requires
    (sym c.in-Some.ensures) (sym c.is_before.ensures ∙ not_false _ less)
  where
    not_false : (b : Bool) → not b ≡ false → b ≡ true
    not_false true is = refl
    not_false false is = sym is

pub returns-in-None : goal.returns-in-None
returns-in-None g c less =
    subst (λ list. others_by g.T.PartialEq.eq c.args.element list ≡ list) (sym (no_last (items c.args.list.now) c.in-None.ensures)) refl
