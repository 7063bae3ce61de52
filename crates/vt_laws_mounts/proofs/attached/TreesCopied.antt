-- A bind or a new mount copies a tree to its destination and to receivers: all mounts stand, no two at one place.
use Rattle.std.proofs.Common.{List, None, ap, false, inl, inr, nat_eq, refl, subst, sym, ℕ, ⊎_elim, ◌∙◌, ◌∷◌, ◌≡◌, true}
use Rattle.vt_spec.proofs.Common.{Among, Copies, Location, Mount, World, attached_by, child_at, number-mount_in, parts_of, stands_at}
use Rattle.vt_laws_mounts.specs.Mounts.Attaching.{OneNumberAMount, is_mount}
use Rattle.vt_laws_mounts.specs.Mounts.Copies.{ServeAsCopies}
use Rattle.vt_laws_mounts.specs.Mounts.Invariants.{NowhereOrAttached}
use Rattle.vt_laws_mounts.specs.Mounts.MountPoints.{OneMountAMountPoint}
use Rattle.vt_laws_mounts.specs.Mounts.Standing.{AllStand}
use Rattle.vt_laws_mounts.proofs.attached.Attaching.{Hangs, taker_there}
use Rattle.vt_laws_mounts.proofs.attached.Grafted.{Grafts, grafted_stand}
use Rattle.vt_laws_mounts.proofs.attached.GraftedPlaces.{grafted_apart, share}
use Rattle.vt_laws_mounts.proofs.mounts.MountsFound.{found_there, unfound}
use Rattle.vt_laws_mounts.proofs.mounts.MountsNumbered.{parts_apart}
use Rattle.vt_laws_mounts.proofs.mounts.MountsReplaced.{found_itself}

-- a tree can be copied to a place on a mount, and to the receivers of that mount
pub record CanCopy (world : World ℕ) (new : Copies ℕ) (place : Location ℕ) (mounts : List (Mount ℕ)) : Type 0 where
  pub serve : ServeAsCopies world (parts_of nat_eq world place) mounts new
  pub own : OneNumberAMount mounts
  pub top : Mount ℕ
  pub rest : List (Mount ℕ)
  pub is_tree : mounts ≡ top ∷ rest
  pub hangs : (origin : Mount ℕ) → Among origin mounts → Hangs mounts origin.number
  pub one : OneNumberAMount world.mounts
  pub nowhere : NowhereOrAttached world
  pub stand : AllStand world
  pub there : is_mount world place.mount ≡ true

module _ {world : World ℕ} {new : Copies ℕ} {place : Location ℕ} {mounts : List (Mount ℕ)}
    (can : CanCopy world new place mounts) where
  part_there : (part : Mount ℕ) → Among part (parts_of nat_eq world place) → Among part world.mounts
  part_there part m = ⊎_elim (λ e. subst (λ x. Among x world.mounts) (sym e) (found_there _ _ can.there))
      (taker_there world place part) m

  copied_grafts : Grafts world new place false mounts (parts_of nat_eq world place)
  copied_grafts = record {
    serve = can.serve;
    one = can.one;
    own = can.own;
    top = can.top;
    rest = can.rest;
    is_tree = can.is_tree;
    hangs = can.hangs;
    are_parts = λ part m. m;
    receivers = λ part m. inr m;
    parts_there = part_there;
    parts_apart = parts_apart world place can.one;
    parts_copied = λ part m. refl;
    parts_stay = λ part m. ap (λ (x : Mount ℕ). x.namespace) (found_itself _ can.one part (part_there part m));
    copies_are = refl;
    nowhere = can.nowhere;
    stand = can.stand;
  }

  pub copied_stand : AllStand (attached_by nat_eq world new place false mounts)
  copied_stand = grafted_stand copied_grafts

  -- the mounts of the tree stand at places of their own but for its top, and nothing stands at the place
  pub copied_apart : ((a b : Mount ℕ) → Among a mounts → Among b mounts → nat_eq a.number can.top.number ≡ false
      → nat_eq b.number can.top.number ≡ false → nat_eq a.number b.number ≡ false → share a b ≡ false)
      → OneMountAMountPoint world.mounts → child_at nat_eq world.mounts place ≡ None
      → OneMountAMountPoint (attached_by nat_eq world new place false mounts).mounts
  unfolding copied_grafts
  copied_apart tree places free = grafted_apart copied_grafts (record {
    tree = tree;
    others = places;
    elsewhere = λ part m. ⊎_elim (λ e. inl (λ mount n.
        let number : part.number ≡ place.mount = ap (λ (x : Mount ℕ). x.number) e ∙ number-mount_in world.mounts _ in
        ap (λ k. stands_at nat_eq (record { mount = k; node = place.node }) mount) number
        ∙ unfound (stands_at nat_eq place) world.mounts free mount n)) inr m;
  })
