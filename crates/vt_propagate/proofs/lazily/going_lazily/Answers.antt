use Rattle.std.proofs.Common.{ap, length, reverse, sym, [], ◌∷◌, ◌∙◌}
use Rattle.vt_spec.proofs.Common.{IfOk-weaker}
use Rattle.vt_location.specs.Numbers.{counted}
use Rattle.vt_propagate.specs.LazyEvents.{levels_from}
use Rattle.vt_propagate.proofs.Found.{counts}
use Rattle.vt_propagate.proofs.lazily.LazyOrder.{lazy_levels}
use Rattle.vt_propagate.proofs.lazily.going_lazily.Goals as goal

pub returns : goal.returns
returns c = record {
  ok = let number = counted c.args.id.count in
      IfOk-weaker c.all_gone.result _ _ (λ gone are world seen kept.
      are world number seen kept (ap counts c.deref.ensures.value ∙ c.in_ok-events.ensures.ok
      ∙ ap (λ mounts. reverse (levels_from (length mounts) mounts (number ∷ []))) seen.mounts
      ∙ sym (lazy_levels world kept number))) c.all_gone.ensures.ok;
  set = c.all_gone.ensures.set;
}
