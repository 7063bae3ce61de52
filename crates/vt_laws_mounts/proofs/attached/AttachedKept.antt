-- Groups live on through a bind, a new mount and a move.
use Rattle.std.proofs.Common.{arith, ◌≡◌, sym, subst, refl, true, false, nat_eq, ℕ, Bool, Some, [], length, true≢false, ⊎_elim, ◌∷◌}
use Rattle.vt_spec.proofs.Common.{Among, Location, Mount, World, bind_tree, common_steps, found_or_none, mount_at, moved_tree, new_mount, parts_of, source_of, tree_among, with_new_filesystem}
use Rattle.vt_laws_mounts.specs.Mounts.Attached.{BindsKeepGroups, MovesKeepGroups, NewMountsKeepGroups}
use Rattle.vt_laws_mounts.specs.Mounts.Receivers.{GroupsLive}
use Rattle.vt_laws_mounts.proofs.attached.AttachedGroups.{groups_live_after}
use Rattle.vt_laws_mounts.proofs.attached.AttachedTypes.{copies_arrive, copies_there, members_move, members_stay, old_or_copies}
use Rattle.vt_laws_mounts.proofs.attached.BindsStand.{bind_there_or_source}
use Rattle.vt_laws_mounts.proofs.GroupsUp.{LivesIn, lives_in}
use Rattle.vt_laws_mounts.proofs.mounts.MountsAttached.{supplied}
use Rattle.vt_laws_mounts.proofs.mounts.MountsFound.{found_there}
use Rattle.vt_laws_mounts.proofs.mounts.MountsNumbered.{supplies_serve_as_images}
use Rattle.vt_laws_mounts.proofs.mounts.Standing.{binds_take_each_once, trees_have_each_once}

bind_sourced : (world : World ℕ) (source : Location ℕ) (recursive : Bool) → GroupsLive world → (origin : Mount ℕ)
    → Among origin (bind_tree nat_eq world source recursive)
    → (group : ℕ) → source_of origin.propagation ≡ Some group → LivesIn world group
bind_sourced world source recursive live origin m group e =
    grind (arith, common_steps, lives_in, true≢false, found_or_none, bind_there_or_source)

pub binds_keep_groups : BindsKeepGroups
binds_keep_groups world fresh source place recursive serves one all live =
    let mounts = bind_tree nat_eq world source recursive in
    let new = supplied world fresh place mounts in
    groups_live_after place false (supplies_serve_as_images world fresh (parts_of nat_eq world place) mounts serves)
    (binds_take_each_once world source recursive one all) live (bind_sourced world source recursive live)
    (members_stay world new place mounts) (copies_there world new place mounts)
    (old_or_copies world new place false mounts)

-- a new mount is private
pub new_mounts_keep_groups : NewMountsKeepGroups
new_mounts_keep_groups world fresh place filesystem flags serves live =
    let larger = with_new_filesystem world filesystem in
    let mount = new_mount filesystem.number filesystem.files.tree.root flags in
    let new = supplied larger fresh place (mount ∷ []) in
    groups_live_after place false
    (supplies_serve_as_images larger fresh (parts_of nat_eq larger place) (mount ∷ []) serves) refl live
    (λ origin m group e.
    ⊎_elim (λ same. absurd cc) (λ none. absurd none) m)
    (members_stay larger new place (mount ∷ [])) (copies_there larger new place (mount ∷ []))
    (old_or_copies larger new place false (mount ∷ []))

pub moves_keep_groups : MovesKeepGroups
moves_keep_groups world fresh source place serves one all there live =
    let mounts = moved_tree nat_eq world source.mount in
    let new = supplied world fresh place mounts in
    let own = trees_have_each_once world source.mount one all in
    let moving : (origin : Mount ℕ) → Among origin mounts → Among origin world.mounts = λ origin m. ⊎_elim
    (λ same. subst (λ x. Among x world.mounts) (sym same) (found_there world.mounts source.mount there)) (λ l. l)
    (tree_among (length world.mounts) world.mounts (mount_at nat_eq world source) origin m) in
    groups_live_after place true
    (supplies_serve_as_images world fresh (parts_of nat_eq world place) mounts serves) own live
    (λ origin m group e. lives_in world live origin (moving origin m) group e)
    (members_move world new place mounts own one moving) (copies_arrive world new place mounts own one moving)
    (old_or_copies world new place true mounts)
