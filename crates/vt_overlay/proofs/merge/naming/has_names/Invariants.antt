use Rattle.std.proofs.Common.{◌≡◌, false, take}
use Rattle.vt_spec.proofs.Common.{list_any}
use Rattle.vt_overlay.proofs.merge.NamesThere.{shows_own}
use Rattle.vt_overlay.proofs.merge.naming.has_names.Given as goal

abbrev pub invariant-loop-top : goal.invariant-loop-top
invariant-loop-top g l = list_any (shows_own l.trees l.directories) (take l.top-index l.directories) ≡ false
