use Rattle.std.proofs.Common.{◌≡◌, ◌<◌, ◌+◌, ◌∷◌, List, [], ap, get_or, length, map, sym, take, ℕ, ◌∙◌}
use Rattle.vt_spec.proofs.Common.{folded, folded-snoc, map-append, take_more}
use Rattle.vt_group.specs.Additions.{typed_pair}
use Rattle.vt_group.specs.Steps.{numbered_peer}
use Rattle.vt_group.specs.Together.{with_type_of}
use Rattle.vt_group.proofs.additions.set_types.Goals as goal

-- one more of a list takes one step more
folded_more : {A B C : Type 0} (add : B → C → B) (f : A → C) (start was now : B) (list : List A) (i : ℕ) (d : A)
    → i < length list → was ≡ folded add start (map f (take i list)) → now ≡ add was (f (get_or list i d))
    → now ≡ folded add start (map f (take (i + 1) list))
folded_more add f start was now list i d less before step = step ∙ ap (λ b. add b (f (get_or list i d))) before
    ∙ sym (ap (λ l. folded add start (map f l)) (take_more list i d less)
    ∙ ap (folded add start) (map-append f (take i list) (get_or list i d ∷ []))
    ∙ folded-snoc add start (map f (take i list)) (f (get_or list i d)))

pub loop-pair-preserved : goal.loop-pair-preserved
loop-pair-preserved c = (
  folded_more with_type_of typed_pair (map numbered_peer c.args.types.now.kinds.entries) _ _ c.args.mounts.now
      c.loop-pair.pair-index _ c.loop-pair-test.true c.loop-pair.invariant.0 c.set_type.ensures.entries,
  λ mount kind fits. c.set_type.ensures.kept mount kind (c.loop-pair.invariant.1 mount kind fits),
  λ ordered. c.set_type.ensures.ordered (c.loop-pair.invariant.2 ordered),
)

pub set_type-requires : goal.set_type-requires
set_type-requires c sourced =
    c.loop-pair.invariant.1 _ _ (c.requires c.loop-pair.pair-index _ c.loop-pair-test.true sourced)
