-- An attachment is what its plans say.
use Rattle.std.proofs.Common.{◌≡◌, ℕ, false, List, [], ◌∷◌, ◌++◌, map, nat_eq, refl, sym, ap, ◌∙◌, arith, drop, length, take, ◌*◌, append_assoc, None, Option, flat_map, if◌then◌else◌, option_map}
use Rattle.vt_spec.proofs.Common.{Location, Mount, World, added_mounts, common_steps, contains_from_among, copies_at, drop-append_seam, first_of_list, folded, holds_of, length-map, map_alike, masters_with, mount_at, parts_of, moved_onto_copy, rest_of, take-append_seam, with_mount, with_moved_mounts}
use Rattle.vt_location.specs.Locations.{location_of}
use Rattle.vt_location.specs.MountValue.{mount_of}
use Rattle.vt_location.specs.Numbers.{counted}
use Rattle.vt_propagate.specs.declared.copying.Counts.{Counts}
use Rattle.vt_propagate.specs.declared.copying.Graft.{Graft}
use Rattle.vt_propagate.specs.Attaching.{AttachesBy}
use Rattle.vt_propagate.specs.Falling.{moved_by}
use Rattle.vt_propagate.specs.Planned.{graft_in, numbers_at, planned_copies, planned_groups}
use Rattle.vt_propagate.specs.Pushing.{KeepsLeaver, PushesBy, leaver}
use Rattle.vt_propagate.proofs.Moved.{all_pushed}

-- a row for each element of a list has as many elements in all as the list times the row
pub length-rows : {A B C : Type 0} (f : A → B → C) (row : List B) (list : List A)
    → length (flat_map (λ a. map (f a) row) list) ≡ length list * length row
length-rows f row [] = omega arith
length-rows f row (a ∷ list) = grind (arith, common_steps, length-rows f row list)

-- A world to which a graft is attached is the one that the planned copies, groups and points make.
pub attached_by_plans : (world : World ℕ) (graft : Graft) (counts : Counts) (copies : List (Mount ℕ)) {new : List
    (ℕ × Option ℕ)} (points : List (ℕ × Location ℕ)) → copies ≡ planned_copies world graft counts → new
    ≡ planned_groups world graft counts
    → PushesBy world graft counts points → KeepsLeaver graft points → AttachesBy world graft counts copies new points
attached_by_plans world graft counts copies points copies_are groups_are pushes keeps = record {
  copies_are = copies_are;
  groups_are = groups_are;
  pushes = pushes;
  bind = λ binds i. record world {
    mounts = (append_assoc (map pushed (with_moved_mounts nat_eq graft.moves world.mounts moved))
        (added_mounts graft.moves moved) elsewhere
        ∙ (λ j. map pushed (with_moved_mounts nat_eq (binds j) world.mounts moved) ++ (added_mounts
        (binds j) moved ++ elsewhere))
        ∙ ap (λ mounts. mounts ++ (moved ++ elsewhere)) (map_alike pushed (moved_by points) world.mounts (λ mount m.
        pushes mount mount (contains_from_among world.mounts mount m) (stays mount.number binds) refl refl))
        ∙ ap (λ more. map (moved_by points) world.mounts ++ more) (sym copies_are)) i;
    master = folded (masters_with nat_eq) world.master (sym groups_are i);
  };
  move = λ moves is i. record world {
    mounts = (append_assoc (map pushed (with_moved_mounts nat_eq graft.moves world.mounts moved))
        (added_mounts graft.moves moved) elsewhere
        ∙ (λ j. map pushed (with_moved_mounts nat_eq (moves j) world.mounts moved) ++ (added_mounts
        (moves j) moved ++ elsewhere)) ∙ ap (λ mounts. mounts ++ elsewhere)
        (map_alike pushed (moved_by points) (folded (with_mount nat_eq) world.mounts moved)
        (all_pushed graft counts points pushes keeps moves is))
        ∙ (λ j. map (moved_by points) (folded (with_mount nat_eq) world.mounts (sym first_copies j))
        ++ sym other_copies j)) i;
    master = folded (masters_with nat_eq) world.master (sym groups_are i);
  };
}
  where
    pushed : Mount ℕ → Mount ℕ
    pushed = moved_onto_copy nat_eq world (numbers_at world graft counts) (graft_in world graft counts)
        (parts_of nat_eq world (location_of graft.place))

    moved : List (Mount ℕ)
    moved = copies_at nat_eq world (numbers_at world graft counts) (graft_in world graft counts)
        (parts_of nat_eq world (location_of graft.place)) (mount_at nat_eq world (location_of graft.place))

    elsewhere : List (Mount ℕ)
    elsewhere = flat_map (copies_at nat_eq world (numbers_at world graft counts) (graft_in world graft counts)
        (parts_of nat_eq world (location_of graft.place))) (rest_of (parts_of nat_eq world (location_of graft.place)))

    stays : (number : ℕ) → graft.moves ≡ false → holds_of (nat_eq number) (leaver graft) ≡ false
    stays number binds = ap (λ b. holds_of (nat_eq number) (if b then option_map (λ top. counted top.number.count)
        (first_of_list graft.tree.now) else None)) binds

    sized : length moved ≡ length graft.tree.now
    sized = length-map (graft_in world graft counts).twigs _ ∙ length-map (map mount_of graft.tree.now) _
        ∙ length-map graft.tree.now mount_of

    first_copies : take (length graft.tree.now) copies ≡ moved
    first_copies = (λ i. take (sym sized i) (copies_are i)) ∙ take-append_seam moved elsewhere

    other_copies : drop (length graft.tree.now) copies ≡ elsewhere
    other_copies = (λ i. drop (sym sized i) (copies_are i)) ∙ drop-append_seam moved elsewhere
