use Rattle.std.proofs.Common.{List, ◌≡◌, ◌&&◌, ◌||◌, take, ℕ}
use Rattle.vt_spec.proofs.Common.{list_any}
use Rattle.vt_overlay.specs.Merge.LayerValue.{is_white_under}
use Rattle.vt_overlay.proofs.merge.NamesHad.{is_name}
use Rattle.vt_overlay.proofs.merge.naming.add_whiteouts.Given as goal

-- the whiteouts before, and those of the names so far
abbrev pub invariant-loop-name : goal.invariant-loop-name
invariant-loop-name l = (name : List ℕ) → list_any (λ one. is_name name one.now) l.whiteouts.keys
    ≡ (list_any (λ one. is_name name one.now) l.initial.whiteouts.keys
    || (is_white_under l.trees l.top name && list_any (λ one. is_name name one.items) (take l.name-index l.names)))
