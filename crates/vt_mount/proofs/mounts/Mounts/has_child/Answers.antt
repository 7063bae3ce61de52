use Rattle.std.proofs.Common.{◌≡◌, List, ap, length, nat_eq, not, refl, suc, sym, ◌∙◌, [], ◌∷◌}
use Rattle.vt_spec.proofs.Common.{stands_on}
use Rattle.vt_location.specs.declared.numbers.MountId.{MountId}
use Rattle.vt_location.specs.Numbers.{counted}
use Rattle.vt_mount.specs.MountsValue.{mounts_in}
use Rattle.vt_mount.proofs.PlaceLemmas.{any-found, counts}
use Rattle.vt_mount.proofs.mounts.Mounts.has_child.Goals as goal

length-counts : (ids : List MountId) → length ids ≡ length (counts ids)
length-counts [] = refl
length-counts (id ∷ ids) = ap suc (length-counts ids)

pub returns : goal.returns
returns c = ap not c.is_empty.ensures
    ∙ ap (λ n. not (nat_eq n 0)) (length-counts c.children.result.now ∙ ap length c.children.ensures.children)
    ∙ sym (any-found (stands_on nat_eq (counted c.args.id.count)) (λ child. child.number) (mounts_in c.args.self.now))
