-- A sealed set is answered as if nobody else were there.
use Rattle.std.proofs.Common.{true, false}
use Rattle.vt_spec.proofs.Common.{Call}
use Rattle.vt_laws_containers.proofs.Common.{each_call_ends_alike}
use Rattle.vt_laws_containers.proofs.scripts.AnsweredAlike.{lines_are_few, sets_are_answered_as_alone}
use Rattle.vt_laws_containers.proofs.scripts.CallsAlike.{StaysApart, each_so}
use Rattle.vt_laws_containers.specs.SealedScripts.AsIfAlone.{SealedSetsAreAnsweredAsIfAlone}
use Rattle.vt_laws_containers.proofs.sealed_scripts.footholds.Footholds.{no_call_gives_a_foothold}

always : (call : Call) → StaysApart call
always call world names name fresh it few serves = (
  each_call_ends_alike world names name call it fresh serves,
  no_call_gives_a_foothold world names name call it few fresh serves,
)

pub sealed_sets_are_answered_as_if_alone : SealedSetsAreAnsweredAsIfAlone
sealed_sets_are_answered_as_if_alone at grammar lines stands stays =
    sets_are_answered_as_alone at grammar lines stands stays (each_so always true _ (lines_are_few _ lines) at)
    (each_so always false _ (lines_are_few _ lines) at)
