-- No call of theirs gives others a foothold.
use Rattle.std.proofs.Common.{refl}
use Rattle.vt_spec.proofs.Common.{Bind, MountOverlay, MountPlain, MoveMount, SetType, Unshare}
use Rattle.vt_laws_containers.proofs.scripts.CallsAlike.{calls_give_no_foothold}
use Rattle.vt_laws_containers.proofs.attached_apart.Binding.{binds_give_no_foothold}
use Rattle.vt_laws_containers.proofs.attached_apart.Mounting.{plain_mounts_give_no_foothold}
use Rattle.vt_laws_containers.proofs.attached_apart.Moving.{moves_give_no_foothold}
use Rattle.vt_laws_containers.proofs.attached_apart.OverlayMounting.{overlay_mounts_give_no_foothold}
use Rattle.vt_laws_containers.proofs.types_apart.Retyping.{types_give_no_foothold}
use Rattle.vt_laws_containers.proofs.unshared_apart.Unsharing.{unshares_give_no_foothold}
use Rattle.vt_laws_containers.specs.SealedScripts.AsIfAlone.{NoCallGivesAFoothold}

pub no_call_gives_a_foothold : NoCallGivesAFoothold
no_call_gives_a_foothold world names name (MountPlain path flags) it few fresh serves =
    plain_mounts_give_no_foothold world names name path flags it fresh serves
no_call_gives_a_foothold world names name (MountOverlay path options flags) it few fresh serves =
    overlay_mounts_give_no_foothold world names name path options flags it fresh serves
no_call_gives_a_foothold world names name (Bind source path recursive) it few fresh serves =
    binds_give_no_foothold world names name source path recursive it fresh serves
no_call_gives_a_foothold world names name (MoveMount source path) it few fresh serves =
    moves_give_no_foothold world names name source path it fresh serves
no_call_gives_a_foothold world names name (SetType path word recursive) it few fresh serves =
    types_give_no_foothold world names name path word recursive it fresh serves
no_call_gives_a_foothold world names name Unshare it few fresh serves =
    unshares_give_no_foothold world names name it fresh serves
no_call_gives_a_foothold world names name call it few fresh serves =
    calls_give_no_foothold world names name call it few fresh serves refl
