-- What the laws of propagation ask for holds of binds, new mounts and moves.
use Rattle.std.proofs.Common.{arith, ◌≡◌, refl, sym, ap, subst, nat_eq, ℕ, inl, inr, ⊎_elim, Contains}
use Rattle.vt_spec.proofs.Common.{Among, Mount, among_from_contains, bind_tree, common_steps, contains_from_among, found_or_none, mount_at, moved_tree, tree_among}
use Rattle.vt_laws_mounts.specs.Mounts.Propagation.{BindsCan, MovesCan, NewMountsCan}
use Rattle.vt_laws_mounts.proofs.GroupsLiving.{tested_live}
use Rattle.vt_laws_mounts.proofs.attached.BindsStand.{bind_there_or_source}
use Rattle.vt_laws_mounts.proofs.mounts.MountsFound.{found_there}
use Rattle.vt_laws_mounts.proofs.mounts.Standing.{binds_take_each_once, trees_have_each_once}

pub binds_can : BindsCan
binds_can world fresh source place recursive serves mounts = record {
  serves = serves;
  one_number = mounts.one_number;
  groups = tested_live world mounts.groups;
  each_once = binds_take_each_once world source recursive mounts.one_number mounts.standing;
  moving = λ e. absurd cc;
  types = λ origin c. ⊎_elim (λ same.
      let kind : origin.propagation ≡ (mount_at nat_eq world source).propagation =
      ap (λ (x : Mount ℕ). x.propagation) same in
      ⊎_elim (λ there. inr (
        mount_at nat_eq world source,
        contains_from_among world.mounts (mount_at nat_eq world source) there,
        kind,
      )) (λ none. inl (cc)) (found_or_none world.mounts source.mount))
      (λ there. inr (origin, contains_from_among world.mounts origin there, refl))
      (bind_there_or_source world source recursive origin
      (among_from_contains (bind_tree nat_eq world source recursive) origin c));
}

pub new_mounts_can : NewMountsCan
new_mounts_can world fresh place filesystem flags serves mounts =
    grind (arith, common_steps, tested_live world mounts.groups)

pub moves_can : MovesCan
moves_can world fresh source place serves mounts there =
    let tree = moved_tree nat_eq world source.mount in
    let inside : (origin : Mount ℕ) → Contains tree origin → Contains world.mounts origin = λ origin c.
    contains_from_among _ origin (⊎_elim (λ same. subst (λ x. Among x world.mounts) (sym same) (found_there _ _ there))
    (λ l. l) (tree_among _ _ _ origin (among_from_contains tree origin c))) in
    grind (arith, common_steps, tested_live, trees_have_each_once)
