use Rattle.std.proofs.Common.{List, [], ap, map, subst, true, ◌++◌, ◌∙◌, ◌∷◌, ◌≡◌, append_assoc}
use Rattle.vt_location.specs.declared.mounts.Mount.{Mount}
use Rattle.vt_location.specs.MountValue.{mount_of}
use Rattle.vt_mount.specs.MountsValue.{are_ascending, mounts_in, unused_entry}
use Rattle.vt_mount.proofs.EnteringLemmas.{withdrawn}
use Rattle.vt_mount.proofs.mounts.Mounts.withdraw.Goals as goal

pub loop-mount-preserved : goal.loop-mount-preserved
loop-mount-preserved c =
    let mount = c.in-Some.mount.now in
    let later = c.next.new.self.iter.rest.now in
    let so_far = c.loop-mount.invariant in
    let back = so_far.0 in
    let all = so_far.1 ∙ ap (λ (rest : List Mount). rest ++ back) c.in-Some.ensures.steps
    ∙ append_assoc later (mount ∷ []) back in (
      mount ∷ back,
      all,
      λ old is was. c.remove.ensures.rest ∙ withdrawn old c.loop-mount.self later back mount
          (subst (λ (new : List Mount). are_ascending (mounts_in old ++ map mount_of new) ≡ true) all is)
          (so_far.2 old is was ∙ ap (λ (rest : List Mount). old ++ map unused_entry rest) c.in-Some.ensures.steps),
    )
