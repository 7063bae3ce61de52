use Rattle.std.proofs.Common.{◌≡◌, ◌++◌, drop, map, take}
use Rattle.vt_turns.specs.Kept.{without_words}
use Rattle.vt_turns.proofs.state.forget_words.Given as goal

abbrev pub invariant-loop-held : goal.invariant-loop-held
invariant-loop-held l = l.held-items ≡ map without_words (take l.held-index l.fn.under_way.items)
    ++ drop l.held-index l.fn.under_way.items
