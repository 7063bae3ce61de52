-- A move takes a tree to its destination and copies it to receivers: all mounts stand, no two at one place.
use Rattle.std.proofs.Common.{List, None, inr, nat_eq, refl, true, ℕ, ◌≡◌}
use Rattle.vt_spec.proofs.Common.{Copies, Location, Mount, World, attached_by, child_at, or_parts, parts_of, rest_of}
use Rattle.vt_laws_mounts.specs.Mounts.Copies.{ServeAsCopies}
use Rattle.vt_laws_mounts.specs.Mounts.MountPoints.{OneMountAMountPoint}
use Rattle.vt_laws_mounts.specs.Mounts.Standing.{AllStand}
use Rattle.vt_laws_mounts.proofs.attached.Attaching.{taker_there}
use Rattle.vt_laws_mounts.proofs.attached.Grafted.{Grafts, grafted_stand}
use Rattle.vt_laws_mounts.proofs.attached.GraftedPlaces.{grafted_apart, two_of}
use Rattle.vt_laws_mounts.proofs.mounts.MountsNumbered.{parts_apart}
use Rattle.vt_laws_mounts.proofs.moves.MovingLeaves.{MayMove, all_left, namespace_kept, nowhere_left, places_left}
use Rattle.vt_laws_mounts.proofs.propagation.PropagationCopies.{not_there}

module _ {world : World ℕ} {new : Copies ℕ} {place : Location ℕ} {mounts : List (Mount ℕ)}
    (may : MayMove world place mounts) (serve : ServeAsCopies world (parts_of nat_eq world place) mounts new) where
  moved_grafts : Grafts world new place true mounts (rest_of (parts_of nat_eq world place))
  moved_grafts = record {
    serve = serve;
    one = may.one;
    own = may.own;
    top = may.top;
    rest = may.rest;
    is_tree = may.is_tree;
    hangs = may.hangs;
    are_parts = λ part m. inr m;
    receivers = λ part m. m;
    parts_there = taker_there world place;
    parts_apart = (or_parts _ _ (parts_apart world place may.one)).1;
    parts_copied = not_there world new place true mounts;
    parts_stay = λ part m. namespace_kept world new place mounts may part (taker_there world place part m);
    copies_are = refl;
    nowhere = nowhere_left world new place mounts may;
    stand = all_left world new place mounts may;
  }

  pub moved_stand : AllStand (attached_by nat_eq world new place true mounts)
  moved_stand = grafted_stand moved_grafts

  pub moved_apart : OneMountAMountPoint world.mounts → child_at nat_eq world.mounts place ≡ None
      → OneMountAMountPoint (attached_by nat_eq world new place true mounts).mounts
  moved_apart places free = grafted_apart moved_grafts (record {
    tree = λ a b m n not_top nor_top. two_of _ places a b (may.inside a m) (may.inside b n);
    others = places_left world new place mounts may places free;
    elsewhere = λ part m. inr m;
  })
