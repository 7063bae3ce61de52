-- Which mounts move onto copied trees, by a list of their new mount points.
use Rattle.std.proofs.Common.{◌≡◌, ℕ, Bool, true, false, cond, List, [], ◌∷◌, ◌++◌, map, nat_eq, not, Option, None, Some, option_map, refl, sym, ap, ◌∙◌, arith, inl, inr, ⊎_elim, eq-eqb, ne_eqb, true≢false, length, take, drop, get_or, suc, zero, ◌+◌, ◌*◌, ◌<◌, filter, eqb-true, append_assoc, length-drop, find, flat_map, if◌then◌else◌}
use Rattle.vt_spec.proofs.Common.{Among, Location, Mount, World, among-from_filter, among_from_contains, and_parts, any_from_among, any_pair, child_at, common_steps, cons_option, copies_at, drop-append_seam, drop_more, eqb-false, holds_of, length-map, lookup, mount_at, not-true, number-mount_in, or_else, or_parts, parts_of, pushed_onto, receivers_of, same_Some, same_location, share_a_mount_point, stands_at, take-append_seam, takes_part, then_some, top_of_copies}
use Rattle.vt_location.specs.declared.mounts.Mount.{Mount as Kept}
use Rattle.vt_location.specs.Locations.{location_of}
use Rattle.vt_location.specs.MountValue.{mount_of}
use Rattle.vt_location.specs.Numbers.{counted}
use Rattle.vt_mount.specs.MountsValue.{are_ascending}
use Rattle.vt_propagate.specs.declared.copying.Counts.{Counts}
use Rattle.vt_propagate.specs.declared.copying.Graft.{Graft}
use Rattle.vt_propagate.specs.Falling.{moved_by}
use Rattle.vt_propagate.specs.Planned.{graft_in, numbers_at, planned_copies}
use Rattle.vt_propagate.specs.Pushing.{OneChild, PushesBy, leaver, pushed_at, pushes_from, stander}
use Rattle.vt_propagate.proofs.Found.{numbered, numbered_among}
use Rattle.vt_laws_mounts.proofs.letting_go.Lists.{found_in}

-- one more part
map-take : (n : ℕ) (list : List Kept) → map mount_of (take n list) ≡ take n (map mount_of list)
map-take zero list = refl
map-take (suc n) [] = refl
map-take (suc n) (a ∷ list) = ap (λ l. mount_of a ∷ l) (map-take n list)

map-drop : (n : ℕ) (list : List Kept) → map mount_of (drop n list) ≡ drop n (map mount_of list)
map-drop zero list = refl
map-drop (suc n) [] = refl
map-drop (suc n) (a ∷ list) = map-drop n list

cons-one : {A : Type 0} (o : Option A) (list : List A) → cons_option o list ≡ cons_option o [] ++ list
cons-one None list = refl
cons-one (Some a) list = refl

-- one more part pushes what stands at its receiver
pub push_more : (mounts : List (Mount ℕ)) (left : Option ℕ) (place : Location ℕ) (size : ℕ) (parts : List Kept)
    (i : ℕ) (default : Kept) → i < length parts
    → (rest : List Kept) {here later : List Kept} → here ≡ take size rest → later ≡ drop size rest
    → (before : List (ℕ × Location ℕ)) {after all : List (ℕ × Location ℕ)}
    → after ≡ before ++ cons_option (pushed_at mounts left place (counted (get_or parts i default).number.count)
    (map mount_of here)) []
    → before ++ pushes_from mounts left place size (map mount_of (drop i parts)) (map mount_of rest) ≡ all
    → after ++ pushes_from mounts left place size (map mount_of (drop (i + 1) parts)) (map mount_of later) ≡ all
push_more mounts left place size parts i default less rest {here} {later} front back before one so_far =
    ap (λ l. l ++ pushes_from mounts left place size (map mount_of (drop (i + 1) parts)) (map mount_of later)) one
    ∙ append_assoc before (cons_option (pushed_at mounts left place (counted (get_or parts i default).number.count)
    (map mount_of here)) []) _ ∙ ap (λ l. before ++ l) (sym (cons-one (pushed_at mounts left place (counted
    (get_or parts i default).number.count) (map mount_of here)) _))
    ∙ (λ j. before ++ cons_option (pushed_at mounts left place (counted (get_or parts i default).number.count) ((ap
    (map mount_of) front ∙ map-take size rest) j))
    (pushes_from mounts left place size (map mount_of (drop (i + 1) parts)) ((ap (map mount_of) back
    ∙ map-drop size rest) j)))
    ∙ ap (λ l. before ++ pushes_from mounts left place size (map mount_of l) (map mount_of rest)) (sym
    (drop_more parts i default less)) ∙ so_far

-- what is left of the copies is that of the parts that are left
pub rest_more : (parts : List Kept) (i : ℕ) → i < length parts → (size : ℕ) {all : ℕ} (later : ℕ) → all
    ≡ length (drop i parts) * size → later + size ≡ all → later ≡ length (drop (i + 1) parts) * size
rest_more parts i less size {all} later so_far one =
    let count : length (drop i parts)
    ≡ suc (length (drop (i + 1) parts)) = omega (arith, less, length-drop i parts, length-drop (i + 1) parts) in
    by (length (drop (i + 1) parts)) (so_far ∙ ap (λ n. n * size) count)
  where
    by : (n : ℕ) → all ≡ suc n * size → later ≡ n * size
    by n e = omega (arith, e, one)

-- Mounts at a place

found_some : {A : Type 0} (p : A → Bool) (list : List A) (a : A) → Among a list → p a ≡ true → (first : A)
    × (find p list ≡ Some first)
found_some p [] a m e = absurd m
found_some p (b ∷ list) a m e = by (p b) refl (found_some p list a)
  where
    by : (t : Bool) → p b ≡ t → (Among a list → p a ≡ true → (first : _) × (find p list ≡ Some first))
        → (first : _) × (find p (b ∷ list) ≡ Some first)
    by true is later = (b, ap (λ t. cond t (Some b) (find p list)) is)
    by false is later = ⊎_elim (λ same. absurd (true≢false (sym e ∙ ap p same ∙ is)))
        (λ l. let t = later l e in (t.0, ap (λ t. cond t (Some b) (find p list)) is ∙ t.1)) m

module _ (world : World ℕ) (one_child : OneChild world) (up : are_ascending world.mounts ≡ true) where
  -- two mounts at one place are one
  one_at : (list : List (Mount ℕ)) → any_pair (share_a_mount_point nat_eq) list ≡ false → (a b : Mount ℕ)
      → Among a list → Among b list
      → share_a_mount_point nat_eq a b ≡ true → share_a_mount_point nat_eq b a ≡ true → a ≡ b
  one_at [] apart a b m n one two = absurd m
  one_at (first ∷ rest) apart a b m n one two = grind (arith, common_steps, one_at rest, or_parts, any_from_among)

  both_at : (place : Location ℕ) (a b : Mount ℕ) → stands_at nat_eq place a ≡ true → stands_at nat_eq place b
      ≡ true → share_a_mount_point nat_eq a b ≡ true
  both_at place a b one two = grind (arith, common_steps, eqb-true, eq-eqb, and_parts)

  child_is : (place : Location ℕ) (mount : Mount ℕ) → Among mount world.mounts → stands_at nat_eq place mount ≡ true
      → child_at nat_eq world.mounts place ≡ Some mount
  child_is place mount m at =
      let t = found_some (stands_at nat_eq place) world.mounts mount m at in
      let first = found_in (stands_at nat_eq place) world.mounts t.0 t.1 in
      t.1 ∙ ap Some (one_at world.mounts one_child t.0 mount first.0 m (both_at place t.0 mount first.1 at)
      (both_at place mount t.0 at first.1))

  module _ (left : Option ℕ) (place : Location ℕ) (size : ℕ) (copies : Mount ℕ
      → List (Mount ℕ)) (sized : (part : Mount ℕ) → length (copies part) ≡ size)
      (before mount : Mount ℕ) (there : Among before world.mounts) (stays : holds_of (nat_eq before.number) left
      ≡ false) (number : mount.number ≡ before.number) (point : mount.mount_point ≡ before.mount_point) where
    abbrev at_part : Mount ℕ → Location ℕ
    at_part part = record { mount = part.number; node = place.node }

    abbrev top_at : Mount ℕ → Location ℕ
    top_at part = top_of_copies nat_eq (copies part) place

    front : (part : Mount ℕ) (others : List (Mount ℕ)) → take size (copies part ++ others) ≡ copies part
    front part others = ap (λ n. take n (copies part ++ others)) (sym (sized part))
        ∙ take-append_seam (copies part) others

    back : (part : Mount ℕ) (others : List (Mount ℕ)) → drop size (copies part ++ others) ≡ others
    back part others = ap (λ n. drop n (copies part ++ others)) (sym (sized part))
        ∙ drop-append_seam (copies part) others

    -- the mount stands there
    standing : (part : Mount ℕ) → stands_at nat_eq (at_part part) before ≡ true
        → stander world.mounts left (at_part part) ≡ Some before.number
    standing part at = ap (λ o. then_some (option_map (λ (child : Mount ℕ). child.number) o) (λ n. if holds_of
        (nat_eq n) left then None else Some n)) (child_is (at_part part) before there at)
        ∙ ap (λ b. if b then None else Some before.number) stays

    -- another stands there, or none
    skipped : (part : Mount ℕ) → stands_at nat_eq (at_part part) before ≡ false → (rest : List (ℕ × Location ℕ))
        → lookup (nat_eq mount.number) (cons_option (option_map (λ n. (n, top_at part)) (stander world.mounts left
        (at_part part))) rest) ≡ lookup (nat_eq mount.number) rest
    skipped part apart rest = by (child_at nat_eq world.mounts (at_part part)) refl
      where
        other : (child : Mount ℕ) → child_at nat_eq world.mounts (at_part part) ≡ Some child → (b : Bool)
            → nat_eq mount.number child.number ≡ b
            → cond b (Some (top_at part)) (lookup (nat_eq mount.number) rest) ≡ lookup (nat_eq mount.number) rest
        other child e false is = refl
        other child e true is =
            let first = found_in (stands_at nat_eq (at_part part)) world.mounts child e in
            let same : child ≡ before = same_Some child before (sym (numbered_among world.mounts up child first.0)
            ∙ ap (numbered world.mounts) (sym (eqb-true mount.number child.number is) ∙ number)
            ∙ numbered_among world.mounts up before there) in
            absurd (true≢false (sym first.1 ∙ ap (stands_at nat_eq (at_part part)) same ∙ apart))

        leaving : (child : Mount ℕ) → child_at nat_eq world.mounts (at_part part) ≡ Some child → (b : Bool)
            → lookup (nat_eq mount.number) (cons_option (option_map (λ n. (n, top_at part))
            (if b then None else Some child.number)) rest) ≡ lookup (nat_eq mount.number) rest
        leaving child e true = refl
        leaving child e false = other child e (nat_eq mount.number child.number) refl

        by : (o : Option (Mount ℕ)) → child_at nat_eq world.mounts (at_part part) ≡ o
            → lookup (nat_eq mount.number) (cons_option (option_map (λ n. (n, top_at part))
            (then_some (option_map (λ (child : Mount ℕ). child.number) o) (λ n. if holds_of
            (nat_eq n) left then None else Some n))) rest) ≡ lookup (nat_eq mount.number) rest
        by None e = refl
        by (Some child) e = leaving child e (holds_of (nat_eq child.number) left)

    points_at : (parts : List (Mount ℕ)) → ((part : Mount ℕ) → Among part parts → nat_eq part.number place.mount
        ≡ false) → lookup (nat_eq mount.number) (pushes_from world.mounts left place size parts (flat_map copies parts))
        ≡ option_map top_at (find (λ part. stands_at nat_eq (at_part part) mount) parts)
    points_at [] apart = refl
    points_at (part ∷ parts) apart =
        (λ i. lookup (nat_eq mount.number) (cons_option (pushed_at world.mounts left place part.number (front part
        (flat_map copies parts) i))
        (pushes_from world.mounts left place size parts (back part (flat_map copies parts) i))))
        ∙ ap (λ b. lookup (nat_eq mount.number) (cons_option (if b then None else option_map (λ n. (n, top_at part))
        (stander world.mounts left (at_part part)))
        (pushes_from world.mounts left place size parts (flat_map copies parts)))) (apart part (inl refl))
        ∙ by (stands_at nat_eq (at_part part) mount) refl (points_at parts (λ x m. apart x (inr m)))
      where
        as_before : stands_at nat_eq (at_part part) mount ≡ stands_at nat_eq (at_part part) before
        as_before = ap (holds_of (same_location nat_eq (at_part part))) point

        by : (b : Bool) → stands_at nat_eq (at_part part) mount ≡ b
            → lookup (nat_eq mount.number) (pushes_from world.mounts left place size parts (flat_map copies parts))
            ≡ option_map top_at (find (λ part. stands_at nat_eq (at_part part) mount) parts)
            → lookup (nat_eq mount.number) (cons_option (option_map (λ n. (n, top_at part))
            (stander world.mounts left (at_part part)))
            (pushes_from world.mounts left place size parts (flat_map copies parts)))
            ≡ option_map top_at (cond (stands_at nat_eq (at_part part) mount) (Some part) (find
            (λ part. stands_at nat_eq (at_part part) mount) parts))
        by true is later = ap (λ o. lookup (nat_eq mount.number) (cons_option (option_map (λ n. (n, top_at part)) o)
            (pushes_from world.mounts left place size parts (flat_map copies parts))))
            (standing part (sym as_before ∙ is)) ∙ ap (λ b. cond b (Some (top_at part)) (lookup (nat_eq mount.number)
            (pushes_from world.mounts left place size parts (flat_map copies parts))))
            (eq-eqb mount.number before.number number)
            ∙ ap (λ b. option_map top_at (cond b (Some part) (find (λ part. stands_at nat_eq
            (at_part part) mount) parts))) (sym is)
        by false is later = skipped part (sym as_before ∙ is) (pushes_from world.mounts left place size parts
            (flat_map copies parts)) ∙ later
            ∙ ap (λ b. option_map top_at (cond b (Some part) (find (λ part. stands_at nat_eq
            (at_part part) mount) parts))) (sym is)

eqb-turned : (a b : ℕ) → nat_eq b a ≡ false → nat_eq a b ≡ false
eqb-turned a b e = ne_eqb a b (λ same. eqb-false b a e (sym same))

-- no receiver that takes part is the destination's mount
pub receivers_apart : (world : World ℕ) (place : Location ℕ) (part : Mount ℕ)
    → Among part (filter (takes_part nat_eq world place) (receivers_of nat_eq world (mount_at nat_eq world place)))
    → nat_eq part.number place.mount ≡ false
receivers_apart world place part m =
    let takes = (among-from_filter (takes_part nat_eq world place)
    (receivers_of nat_eq world (mount_at nat_eq world place)) part m).1 in
    turned (nat_eq place.mount part.number) refl (and_parts (not (nat_eq place.mount part.number)) _
    (and_parts _ _ (and_parts _ _ takes).0).0).0
  where
    turned : (b : Bool) → nat_eq place.mount part.number ≡ b → not (nat_eq place.mount part.number) ≡ true
        → nat_eq part.number place.mount ≡ false
    turned b is e = eqb-turned part.number place.mount (not-true (nat_eq place.mount part.number) e)

-- the points that are pushed at all parts are those of the definitions
pub all_pushed : (world : World ℕ) → OneChild world → are_ascending world.mounts ≡ true
    → (graft : Graft) (counts : Counts)
    → PushesBy world graft counts (pushes_from world.mounts (leaver graft) (location_of graft.place)
    (length graft.tree.now) (parts_of nat_eq world (location_of graft.place)) (planned_copies world graft counts))
all_pushed world one_child up graft counts before mount there stays number point =
    onto (find (λ part. stands_at nat_eq (record { mount = part.number; node = place.node }) mount) receivers) (found_at
    ∙ points_at world one_child up (leaver graft) place size copies sized before mount
    (among_from_contains world.mounts before there) stays number point receivers apart)
  where
    place : Location ℕ
    place = location_of graft.place

    size : ℕ
    size = length graft.tree.now

    receivers : List (Mount ℕ)
    receivers = filter (takes_part nat_eq world (location_of graft.place)) (receivers_of nat_eq world
        (mount_at nat_eq world (location_of graft.place)))

    copies : Mount ℕ → List (Mount ℕ)
    copies = copies_at nat_eq world (numbers_at world graft counts) (graft_in world graft counts)
        (parts_of nat_eq world (location_of graft.place))

    sized : (part : Mount ℕ) → length (copies part) ≡ size
    sized part = length-map (graft_in world graft counts).twigs _ ∙ length-map (map mount_of graft.tree.now) _
        ∙ length-map graft.tree.now mount_of

    apart : (part : Mount ℕ) → Among part receivers → nat_eq part.number place.mount ≡ false
    apart = receivers_apart world (location_of graft.place)

    -- the first part is the destination
    found_at : lookup (nat_eq mount.number) (pushes_from world.mounts (leaver graft) place size
        (mount_at nat_eq world place ∷ receivers) (copies (mount_at nat_eq world place) ++ flat_map copies receivers))
        ≡ lookup (nat_eq mount.number) (pushes_from world.mounts (leaver graft) place size receivers
        (flat_map copies receivers))
    found_at = ap (λ b. lookup (nat_eq mount.number) (cons_option (if b then None else option_map (λ n. (
      n,
      top_of_copies nat_eq (take size (copies (mount_at nat_eq world place) ++ flat_map copies receivers)) place,
    )) (stander world.mounts (leaver graft) (record {
      mount = (mount_at nat_eq world place).number;
      node = place.node;
    }))) (pushes_from world.mounts (leaver graft) place size receivers (drop size (copies
        (mount_at nat_eq world place) ++ flat_map copies receivers)))))
        (eq-eqb (mount_at nat_eq world place).number place.mount (number-mount_in world.mounts place.mount))
        ∙ ap (λ l. lookup (nat_eq mount.number) (pushes_from world.mounts (leaver graft) place size receivers l))
        (ap (λ n. drop n (copies (mount_at nat_eq world place) ++ flat_map copies receivers)) (sym (sized
        (mount_at nat_eq world place)))
        ∙ drop-append_seam (copies (mount_at nat_eq world place)) (flat_map copies receivers))

    onto : (found : Option (Mount ℕ)) → lookup (nat_eq mount.number) (pushes_from world.mounts (leaver graft) place size
        (mount_at nat_eq world place ∷ receivers) (copies (mount_at nat_eq world place) ++ flat_map copies receivers))
        ≡ option_map (λ part. top_of_copies nat_eq (copies part) place) found
        → pushed_onto nat_eq world (numbers_at world graft counts) (graft_in world graft counts)
        (parts_of nat_eq world (location_of graft.place)) mount found
        ≡ moved_by (pushes_from world.mounts (leaver graft) place size (mount_at nat_eq world place ∷ receivers)
        (copies (mount_at nat_eq world place) ++ flat_map copies receivers)) mount
    onto None e = λ i. record mount { mount_point = or_else (sym e i) mount.mount_point }
    onto (Some part) e = λ i. record mount { mount_point = or_else (sym e i) mount.mount_point }

-- the mount that leaves its place is not among those that are pushed
module _ (mounts : List (Mount ℕ)) (left : Option ℕ) (place : Location ℕ) (size number : ℕ)
    (leaves : holds_of (nat_eq number) left ≡ true) where
  other_stands : (child : Option (Mount ℕ)) (top : Location ℕ) (rest : List (ℕ × Location ℕ))
      → lookup (nat_eq number) (cons_option
      (option_map (λ n. (n, top)) (then_some (option_map (λ (child : Mount ℕ). child.number) child)
      (λ n. if holds_of (nat_eq n) left then None else Some n))) rest) ≡ lookup (nat_eq number) rest
  other_stands None top rest = refl
  other_stands (Some child) top rest = grind (arith, common_steps, eqb-true)

  -- the mount that moves away is pushed by none
  pub leaver_stays : (parts copies : List (Mount ℕ))
      → lookup (nat_eq number) (pushes_from mounts left place size parts copies) ≡ None
  leaver_stays [] copies = refl
  leaver_stays (part ∷ parts) copies = grind (arith, common_steps, leaver_stays parts)
