use Rattle.std.proofs.Common.{List, ◌≡◌, take, ℕ}
use Rattle.vt_spec.proofs.Common.{list_any}
use Rattle.vt_overlay.specs.Merge.LayerValue.{is_white_under}
use Rattle.vt_overlay.proofs.merge.NamesHad.{is_name}
use Rattle.vt_overlay.proofs.merge.naming.whiteouts_of.Given as goal

-- the whiteouts of the directories so far
abbrev pub invariant-loop-top : goal.invariant-loop-top
invariant-loop-top l = (name : List ℕ) → list_any (λ one. is_name name one.now) l.whiteouts.keys
    ≡ list_any (λ top. is_white_under l.trees top name) (take l.top-index l.merged)
