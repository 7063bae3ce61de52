-- A mount outside every namespace stays nowhere where a tree of mounts is attached in one.
use Rattle.std.proofs.Common.{arith, ◌≡◌, refl, true, false, nat_eq, ℕ, Bool, List, None, Option, Some, [], flat_map, is_some, map, ⊎_elim, ◌∷◌}
use Rattle.vt_spec.proofs.Common.{Among, Copies, Location, Mount, World, added_mounts, among-append, among-folded_mounts, among-from_filter, among-from_flat_map, among-from_map, among_from_list_all, and_parts, attached_by, bind_tree, common_steps, copies_at, holds_of, is_nowhere_or_attached, list_all_from_among, mount_at, moved_tree, new_mount, pushed_onto, receiver_stood_on, rest_of, same_location, stands_at, with_moved_mounts, with_new_filesystem}
use Rattle.vt_laws_mounts.specs.Mounts.Attached.{BindsKeepNowhere, MovesKeepNowhere, NewMountsKeepNowhere}
use Rattle.vt_laws_mounts.specs.Mounts.Invariants.{NowhereOrAttached}
use Rattle.vt_laws_mounts.proofs.mounts.MountsAttached.{arriving, graft, moved_ones, parts, push, supplied}
use Rattle.vt_laws_mounts.proofs.mounts.MountsFound.{found_in}

module _ (world : World ℕ) (new : Copies ℕ) (place : Location ℕ) (moves : Bool) (mounts : List (Mount ℕ))
    (nowhere : NowhereOrAttached world) (attached : is_some (mount_at nat_eq world place).namespace ≡ true) where
  abbrev IsFit : Mount ℕ → Type 0
  IsFit mount = is_nowhere_or_attached mount ≡ true

  abbrev part_list : List (Mount ℕ)
  part_list = parts world new place moves mounts

  abbrev copies : Mount ℕ → List (Mount ℕ)
  copies = copies_at nat_eq world new (graft world new place moves mounts) part_list

  -- a copy is in the namespace of its part
  copy_fits : (part copy : Mount ℕ) → is_some part.namespace ≡ true → Among copy (copies part) → IsFit copy
  copy_fits part copy e m =
      let tree = graft world new place moves mounts in
      let from = among-from_map _ _ copy m in
      grind (arith, common_steps)

  taker_attached : (part : Mount ℕ) → Among part (rest_of part_list) → is_some part.namespace ≡ true
  taker_attached part m = grind (arith, common_steps, among-from_filter, and_parts)

  -- what is pushed up stood at a place
  push_fits : (mount : Mount ℕ) → IsFit mount → IsFit (push world new place moves mounts mount)
  push_fits mount e = by _ refl
    where
      is_there : {A : Type 0} (test : A → Bool) (found : Option A) → holds_of test found ≡ true → is_some found ≡ true
      is_there test None h = cc
      is_there test (Some a) h = refl

      by : (part : Option (Mount ℕ))
          → receiver_stood_on nat_eq (graft world new place moves mounts) part_list mount ≡ part
          → IsFit (pushed_onto nat_eq world new (graft world new place moves mounts) part_list mount part)
      by None f = e
      by (Some part) f =
          let at : Mount ℕ → Location ℕ = λ part. record { mount = part.number; node = place.node } in
          let stood = (found_in (λ other. stands_at nat_eq (at other) mount) (rest_of part_list) part f).1 in
          cc (is_there (same_location nat_eq (at part)) mount.mount_point stood, e)

  moved_fits : (b : Bool) (mount : Mount ℕ)
      → Among mount (with_moved_mounts nat_eq b world.mounts (arriving world new place moves mounts)) → IsFit mount
  moved_fits true mount m = ⊎_elim (λ old. among_from_list_all is_nowhere_or_attached world.mounts nowhere mount old)
      (copy_fits (mount_at nat_eq world place) mount attached)
      (among-folded_mounts world.mounts (arriving world new place moves mounts) mount m)
  moved_fits false mount m = among_from_list_all is_nowhere_or_attached world.mounts nowhere mount m

  added_fits : (b : Bool) (mount : Mount ℕ) → Among mount (added_mounts b (arriving world new place moves mounts))
      → IsFit mount
  added_fits true mount m = absurd m
  added_fits false mount m = copy_fits (mount_at nat_eq world place) mount attached m

  attach_keeps_nowhere : NowhereOrAttached (attached_by nat_eq world new place moves mounts)
  attach_keeps_nowhere =
      let old = map (push world new place moves mounts) (moved_ones world new place moves mounts) in
      let added = added_mounts moves (arriving world new place moves mounts) in
      let rest = flat_map copies (rest_of part_list) in
      list_all_from_among _ _ (λ mount m. ⊎_elim (λ front. ⊎_elim (λ pushed.
      let from = among-from_map _ _ mount pushed in
      cc (from.2, push_fits from.0 (moved_fits moves from.0 from.1))) (added_fits moves mount)
      (among-append old added mount front)) (λ later.
      let from = among-from_flat_map copies _ mount later in
      copy_fits from.0 mount (taker_attached from.0 from.1) from.2) (among-append _ rest mount m))

pub binds_keep_nowhere : BindsKeepNowhere
binds_keep_nowhere world fresh source place recursive nowhere attached =
    let mounts = bind_tree nat_eq world source recursive in
    attach_keeps_nowhere world (supplied world fresh place mounts) place false mounts nowhere attached

pub new_mounts_keep_nowhere : NewMountsKeepNowhere
new_mounts_keep_nowhere world fresh place filesystem flags nowhere attached =
    let larger = with_new_filesystem world filesystem in
    let mounts = new_mount filesystem.number filesystem.files.tree.root flags ∷ [] in
    attach_keeps_nowhere larger (supplied larger fresh place mounts) place false mounts nowhere attached

pub moves_keep_nowhere : MovesKeepNowhere
moves_keep_nowhere world fresh source place nowhere attached =
    let mounts = moved_tree nat_eq world source.mount in
    attach_keeps_nowhere world (supplied world fresh place mounts) place true mounts nowhere attached
