use Rattle.std.proofs.Common.{[], ◌++◌, ◌∷◌}
use Rattle.vt_upper.proofs.LosersHeld.{held_left}
use Rattle.vt_upper.proofs.UnnamedHeld.{unnamed_held}
use Rattle.vt_location.proofs.NodeLemmas.{small_parts}
use Rattle.vt_upper_overlay.proofs.Shown.{looked_by}
use Rattle.vt_upper.proofs.laws.losers_are_held.Goals as goal

pub returns-clause-held : goal.returns-clause-held
returns-clause-held c = λ trees overlay directory node path name uses losing nodes stands small own at loses left
    have_uses have_uses_then number.
    held_left trees overlay (looked_by trees overlay node stands small own) node (small_parts node small)
    (path ++ name ∷ []) at.leads losing uses nodes loses left have_uses have_uses_then number

pub returns-clause-unnamed : goal.returns-clause-unnamed
returns-clause-unnamed c = λ trees overlay filesystem real directory node path name uses losing nodes merged named stands
    small own at loses left have_uses have_uses_then number none other keeps.
    unnamed_held trees overlay filesystem real merged named (looked_by trees overlay node stands small own) directory node
    (small_parts node small) path name at losing uses nodes loses left have_uses have_uses_then number none other keeps
