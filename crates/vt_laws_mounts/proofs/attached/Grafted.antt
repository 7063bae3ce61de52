-- A tree of mounts is grafted: copies of it come to parts, and what stood at a receiver is pushed onto the topmost
-- copy. A bind or a new mount copies the tree to the destination too; a move takes the tree itself there.
use Rattle.std.proofs.Common.{Bool, List, None, Option, Some, ap, eq-eqb, false, flat_map, inl, map, nat_eq, option_map, refl, subst, sym, true, unwrap_or, ℕ, ⊎_elim, ◌&&◌, ◌++◌, ◌∙◌, ◌∷◌, ◌≡◌, if◌then◌else◌}
use Rattle.vt_spec.proofs.Common.{Among, Copies, Graft, Location, Mount, Stands, Twig, World, all_from_among, among-append, among-append_right, among-flat_map, among-from_flat_map, among-from_map, among-map, among_from_all, any_pair, at_root, attached_by, copies_at, copy_at, first_of_list, graft_of, group_of, holds_of, is_among, is_top, mount_at, mount_numbered, mount_point_on_copy, number-mount_in, on_parent, parts_of, pushed_onto, moved_onto_copy, receiver_stood_on, rest_of, same_Some, top_of_copies, twig_of}
use Rattle.vt_laws_mounts.specs.Mounts.Attaching.{OneNumberAMount, is_mount}
use Rattle.vt_laws_mounts.specs.Mounts.Copies.{ServeAsCopies}
use Rattle.vt_laws_mounts.specs.Mounts.Invariants.{NowhereOrAttached}
use Rattle.vt_laws_mounts.specs.Mounts.Standing.{AllStand}
use Rattle.vt_laws_mounts.proofs.attached.Attaching.{Hangs, hanging, stood_on_there, top_among}
use Rattle.vt_laws_mounts.proofs.attached.Attaching.Hangs.{from_parent, from_top}
use Rattle.vt_laws_mounts.proofs.mounts.MountsAttached.{found_attached, in_front, moved_ones, numbers_moved, others, push_keeps}
use Rattle.vt_laws_mounts.proofs.mounts.MountsFound.{found_in, found_there}
use Rattle.vt_laws_mounts.proofs.mounts.MountsNumbered.{copies_keep_numbers, is_one_of, same_number, same_origin}
use Rattle.vt_laws_mounts.proofs.mounts.MountsPlaces.{stands_there}
use Rattle.vt_laws_mounts.proofs.mounts.MountsReplaced.{found_itself}

-- the world in which the mounts that move are at the destination, and nothing is pushed yet
abbrev pub before_pushes : World ℕ → Copies ℕ → Location ℕ → Bool → List (Mount ℕ) → World ℕ
before_pushes world new place moves mounts = record world { mounts = moved_ones world new place moves mounts }

-- A tree is grafted, and `parts` get copies with numbers of their own: all parts, or, in a move, the receivers
pub record Grafts (world : World ℕ) (new : Copies ℕ) (place : Location ℕ) (moves : Bool) (mounts parts : List (Mount ℕ))
    : Type 0 where
  pub serve : ServeAsCopies world (parts_of nat_eq world place) mounts new
  pub one : OneNumberAMount world.mounts
  -- the tree
  pub own : OneNumberAMount mounts
  pub top : Mount ℕ
  pub rest : List (Mount ℕ)
  pub is_tree : mounts ≡ top ∷ rest
  pub hangs : (origin : Mount ℕ) → Among origin mounts → Hangs mounts origin.number
  -- the parts
  pub are_parts : (part : Mount ℕ) → Among part parts → Among part (parts_of nat_eq world place)
  pub receivers : (part : Mount ℕ) → Among part (rest_of (parts_of nat_eq world place)) → Among part parts
  pub parts_there : (part : Mount ℕ) → Among part parts → Among part world.mounts
  pub parts_apart : any_pair same_number parts ≡ false
  pub parts_copied : (part : Mount ℕ) → Among part parts → (moves && nat_eq part.number place.mount) ≡ false
  pub parts_stay : (part : Mount ℕ) → Among part parts
      → (mount_numbered nat_eq (before_pushes world new place moves mounts) part.number).namespace ≡ part.namespace
  pub copies_are : others world new place moves mounts ≡ flat_map (copies_at nat_eq world new
      (graft_of nat_eq world new place moves mounts) (parts_of nat_eq world place)) parts
  -- the other mounts
  pub nowhere : NowhereOrAttached (before_pushes world new place moves mounts)
  pub stand : AllStand (before_pushes world new place moves mounts)

module _ {world : World ℕ} {new : Copies ℕ} {place : Location ℕ} {moves : Bool} {mounts parts : List (Mount ℕ)}
    (grafts : Grafts world new place moves mounts parts) where
  abbrev tree : Graft ℕ
  tree = graft_of nat_eq world new place moves mounts

  abbrev all_parts : List (Mount ℕ)
  all_parts = parts_of nat_eq world place

  abbrev twig : Mount ℕ → Twig ℕ
  twig = twig_of new (group_of (mount_at nat_eq world place).propagation)

  abbrev made : Mount ℕ → Twig ℕ → Mount ℕ
  made = copy_at nat_eq world new tree all_parts

  abbrev pub copy : Mount ℕ → Mount ℕ → Mount ℕ
  copy part origin = made part (twig origin)

  abbrev pub copies : Mount ℕ → List (Mount ℕ)
  copies part = copies_at nat_eq world new tree all_parts part

  -- the place on a part, and on a copy that it gets
  abbrev pub place_at : Mount ℕ → Location ℕ
  place_at part = record { mount = part.number; node = place.node }

  abbrev pub place_upon : Mount ℕ → Location ℕ → Location ℕ
  place_upon part on = record { mount = new.copy part.number on.mount; node = on.node }

  -- where what stood at a part goes
  abbrev pub top_at : Mount ℕ → Location ℕ
  top_at part = top_of_copies nat_eq (copies part) place

  -- where the copy at a part stands: at the part for the top, else on the copy of its parent
  abbrev landing : Mount ℕ → Option (Location ℕ) → Bool → Location ℕ
  landing part parent first = if first then place_at part else unwrap_or (option_map
      (mount_point_on_copy nat_eq new tree part.number) parent) place

  abbrev pub before : World ℕ
  before = before_pushes world new place moves mounts

  abbrev pub after : World ℕ
  after = attached_by nat_eq world new place moves mounts

  abbrev pub push : Mount ℕ → Mount ℕ
  push = moved_onto_copy nat_eq world new tree all_parts

  pub one_after : OneNumberAMount after.mounts
  one_after = copies_keep_numbers world new place moves mounts grafts.serve grafts.own grafts.one

  -- Copies

  pub number-copy : (part : Mount ℕ) → Among part parts → (origin : Mount ℕ)
      → (copy part origin).number ≡ new.copy part.number origin.number
  number-copy part m origin =
      ap (λ b. if b then origin.number else new.copy part.number origin.number) (grafts.parts_copied part m)

  pub copy_among : (part origin : Mount ℕ) → Among origin mounts → Among (copy part origin) (copies part)
  copy_among part origin m = among-map _ _ _ (among-map twig mounts origin m)

  pub top_copy : (part : Mount ℕ) → Among (copy part grafts.top) (copies part)
  top_copy part = copy_among part grafts.top (rw grafts.is_tree (inl refl))

  -- each copy is of a mount of the tree
  pub copied : (part x : Mount ℕ) → Among x (copies part)
      → (origin : Mount ℕ) × Among origin mounts × (x ≡ copy part origin)
  copied part x m =
      let from = among-from_map _ _ x m in
      let origin = among-from_map twig mounts from.0 from.1 in
      (origin.0, origin.1, from.2 ∙ ap (made part) origin.2)

  -- where a copy stands: the top at the part's place, another one on the copy of what its origin stands on
  pub data CopyPlace (part origin : Mount ℕ) : Type 0 where
    at_part : nat_eq origin.number grafts.top.number ≡ true → (copy part origin).mount_point ≡ Some (place_at part)
        → CopyPlace part origin
    on_copy : (on : Location ℕ) (parent : Mount ℕ) → nat_eq origin.number grafts.top.number ≡ false
        → origin.mount_point ≡ Some on → Among parent mounts → parent.number ≡ on.mount
        → (copy part origin).mount_point ≡ Some (place_upon part on) → CopyPlace part origin

  pub copy_place : (part origin : Mount ℕ) → Among part parts → Among origin mounts → CopyPlace part origin
  copy_place part origin p m = by _ refl _ (grafts.hangs origin m) refl
    where
      top_test : is_top nat_eq tree origin.number ≡ nat_eq origin.number grafts.top.number
      top_test =
          ap (λ (ms : List (Mount ℕ)). holds_of (same_origin (twig origin)) (first_of_list (map twig ms)))
          grafts.is_tree

      placed : (b : Bool) → nat_eq origin.number grafts.top.number ≡ b
          → (copy part origin).mount_point ≡ Some (landing part origin.mount_point b)
      placed b e = cc top_test

      by : (b : Bool) → nat_eq origin.number grafts.top.number ≡ b → (n : ℕ) → Hangs mounts n → n ≡ origin.number
          → CopyPlace part origin
      by true e n hung is = at_part e (placed true e)
      by false e n (from_top first rest list) is =
          let same : first ≡ grafts.top = same_Some _ _ (ap first_of_list (sym list ∙ grafts.is_tree)) in
          cc (eq-eqb origin.number grafts.top.number (sym is ∙ ap (λ (x : Mount ℕ). x.number) same))
      by false e n (from_parent other on l f later) is =
          let itself : other ≡ origin =
          cc (found_itself mounts grafts.own other l, found_itself mounts grafts.own origin m, is) in
          let place_is : origin.mount_point ≡ Some on = ap (λ (x : Mount ℕ). x.mount_point) (sym itself) ∙ f in
          let parent = hanging mounts _ later in
          on_copy on parent.0 e place_is parent.1 parent.2
          (placed false e ∙ ap (λ p. Some (landing part p false)) place_is
          ∙ ap (λ b. Some (record { mount = if b then on.mount else new.copy part.number on.mount; node = on.node }))
          (grafts.parts_copied part p))

  -- The other mounts: they stay, or go onto the copy at the receiver where they stood

  pub data PushCase (mount : Mount ℕ) : Type 0 where
    stays : push mount ≡ mount → receiver_stood_on nat_eq tree all_parts mount ≡ None → PushCase mount
    goes : (receiver origin : Mount ℕ) → Among receiver parts → Among origin mounts
        → mount.mount_point ≡ Some (place_at receiver) → (push mount).mount_point ≡ Some (top_at receiver)
        → (top_at receiver).mount ≡ new.copy receiver.number origin.number → PushCase mount

  pub push_case : (mount : Mount ℕ) → PushCase mount
  push_case mount = by _ refl
    where
      by : (found : Option (Mount ℕ)) → receiver_stood_on nat_eq tree all_parts mount ≡ found → PushCase mount
      by None e = stays (ap (pushed_onto nat_eq world new tree all_parts mount) e) e
      by (Some receiver) e =
          let found = found_in _ (rest_of all_parts) _ e in
          let part = grafts.receivers receiver found.0 in
          let onto = top_among _ place _ (top_copy receiver) in
          let of = copied receiver onto.0 onto.1 in
          goes receiver of.0 part of.1 (stands_there _ mount found.1)
          (ap (λ (x : Mount ℕ). x.mount_point) (ap (pushed_onto nat_eq world new tree all_parts mount) e))
          (onto.2 ∙ ap (λ (x : Mount ℕ). x.number) of.2 ∙ number-copy receiver part of.0)

  -- The mounts afterwards: those that were there, some of them pushed, and the copies

  pub mounts_after : after.mounts ≡ map push before.mounts ++ flat_map copies parts
  mounts_after = in_front world new place moves mounts ∙ ap (λ list. map push before.mounts ++ list) grafts.copies_are

  pub copies_after : (part : Mount ℕ) → Among part parts → (x : Mount ℕ) → Among x (copies part) → Among x after.mounts
  copies_after part m x n = subst (Among x) (sym mounts_after)
      (among-append_right (map push before.mounts) _ x (among-flat_map copies parts part x m n))

  found-copy : (part origin : Mount ℕ) → Among part parts → Among origin mounts
      → mount_numbered nat_eq after (copy part origin).number ≡ copy part origin
  found-copy part origin m n = found_itself _ one_after _ (copies_after part m _ (copy_among part origin n))

  found-old : (number : ℕ) → is_mount before number ≡ true
      → mount_numbered nat_eq after number ≡ push (mount_numbered nat_eq before number)
  found-old number is = found_attached world new place moves mounts number
      (ap (is_among nat_eq number) (sym (numbers_moved world new place moves mounts)) ∙ is)

  push_namespace : (mount : Mount ℕ) → (push mount).namespace ≡ mount.namespace
  push_namespace mount = (push_keeps world new tree all_parts mount).namespace

  part_is : (part : Mount ℕ) → Among part parts → is_mount before part.number ≡ true
  part_is part m = ap (is_among nat_eq part.number) (numbers_moved world new place moves mounts)
      ∙ is_one_of world.mounts part (grafts.parts_there part m)

  part_namespace : (part : Mount ℕ) → Among part parts
      → (mount_numbered nat_eq after part.number).namespace ≡ part.namespace
  part_namespace part m = ap (λ (x : Mount ℕ). x.namespace) (found-old part.number (part_is part m))
      ∙ push_namespace (mount_numbered nat_eq before part.number) ∙ grafts.parts_stay part m

  -- They stand: copies, where their part does,

  top_stands : (part origin : Mount ℕ) → Among part parts → Among origin mounts → Stands nat_eq after part.number
      → (copy part origin).mount_point ≡ Some (place_at part) → Stands nat_eq after (copy part origin).number
  top_stands part origin p m stands c =
      let found = found-copy part origin p m in
      on_parent (copy part origin).number (place_at part) (ap (λ (x : Mount ℕ). x.mount_point) found ∙ c)
      (ap (λ (x : Mount ℕ). x.namespace) found ∙ sym (part_namespace part p)) stands

  copies_stand : (part : Mount ℕ) → Among part parts → Stands nat_eq after part.number → (number : ℕ)
      → Hangs mounts number → (origin : Mount ℕ) → Among origin mounts → origin.number ≡ number
      → Stands nat_eq after (copy part origin).number
  copies_stand part p stands number (from_top first rest list) origin m same = elim (copy_place part origin p m) [
    | at_part e c ↦ top_stands part origin p m stands c
    | on_copy on parent e f there is c ↦
        let top : first ≡ grafts.top = same_Some _ _ (ap first_of_list (sym list ∙ grafts.is_tree)) in
        cc (eq-eqb origin.number grafts.top.number (same ∙ ap (λ (x : Mount ℕ). x.number) top))
  ]
  copies_stand part p stands number (from_parent other on l f later) origin m same = elim (copy_place part origin p m) [
    | at_part e c ↦ top_stands part origin p m stands c
    | on_copy at parent e g there is c ↦
        let itself : other ≡ origin =
        cc (found_itself mounts grafts.own other l, found_itself mounts grafts.own origin m, same) in
        let here : on ≡ at = same_Some on at (sym f ∙ ap (λ (x : Mount ℕ). x.mount_point) itself ∙ g) in
        let above = copies_stand part p stands on.mount later parent there
        (is ∙ ap (λ (l : Location ℕ). l.mount) (sym here)) in
        let number_is : (copy part parent).number ≡ new.copy part.number at.mount =
        number-copy part p parent ∙ ap (new.copy part.number) is in
        on_parent (copy part origin).number (place_upon part at)
        (ap (λ (x : Mount ℕ). x.mount_point) (found-copy part origin p m) ∙ c)
        (ap (λ (x : Mount ℕ). x.namespace) (found-copy part origin p m)
        ∙ ap (λ (x : Mount ℕ). x.namespace) (sym (found-copy part parent p there))
        ∙ ap (λ n. (mount_numbered nat_eq after n).namespace) number_is) (subst (Stands nat_eq after) number_is above)
  ]

  -- and the others, on the mounts on which they stood, or on the topmost copies.
  stands_after : (number : ℕ) → Stands nat_eq before number → is_mount before number ≡ true → Stands nat_eq after number
  stands_after number (at_root it e) is = elim (push_case (mount_numbered nat_eq before it)) [
    | stays keeps none ↦ at_root it (ap (λ (x : Mount ℕ). x.mount_point) (found-old it is ∙ keeps) ∙ e)
    | goes receiver origin r o was now onto ↦ cc (e, was)
  ]
  stands_after number (on_parent it on e f stands) is =
      let on_is = stood_on_there before grafts.nowhere it on e f in
      let parent = stands_after on.mount stands on_is in
      let namespace : (mount_numbered nat_eq after it).namespace ≡ (mount_numbered nat_eq before on.mount).namespace =
      ap (λ (x : Mount ℕ). x.namespace) (found-old it is) ∙ push_namespace _ ∙ f in
      elim (push_case (mount_numbered nat_eq before it)) [
        | stays keeps none ↦
            on_parent it on (ap (λ (x : Mount ℕ). x.mount_point) (found-old it is ∙ keeps) ∙ e) (namespace
            ∙ sym (ap (λ (x : Mount ℕ). x.namespace) (found-old on.mount on_is) ∙ push_namespace _)) parent
        | goes receiver origin r o was now onto ↦
            let same : on.mount ≡ receiver.number =
            ap (λ (p : Location ℕ). p.mount) (same_Some on (place_at receiver) (sym e ∙ was)) in
            let number_is : (top_at receiver).mount ≡ (copy receiver origin).number =
            onto ∙ sym (number-copy receiver r origin) in
            on_parent it (top_at receiver) (ap (λ (x : Mount ℕ). x.mount_point) (found-old it is) ∙ now)
            (namespace ∙ ap (λ n. (mount_numbered nat_eq before n).namespace) same ∙ grafts.parts_stay receiver r
            ∙ sym (ap (λ n. (mount_numbered nat_eq after n).namespace) number_is
            ∙ ap (λ (x : Mount ℕ). x.namespace) (found-copy receiver origin r o)))
            (subst (Stands nat_eq after) (sym number_is) (copies_stand receiver r
            (subst (Stands nat_eq after) same parent) origin.number (grafts.hangs origin o) origin o refl))
      ]

  old_stands : (number : ℕ) → is_mount before number ≡ true → Stands nat_eq after number
  old_stands number is = stands_after number (subst (Stands nat_eq before) (number-mount_in before.mounts number)
      (among_from_all (λ (x : Mount ℕ). Stands nat_eq before x.number) before.mounts grafts.stand
      (mount_numbered nat_eq before number) (found_there before.mounts number is))) is

  pub grafted_stand : AllStand after
  grafted_stand = all_from_among (λ (mount : Mount ℕ). Stands nat_eq after mount.number) after.mounts (λ mount m.
      ⊎_elim (λ old.
      let from = among-from_map push before.mounts mount old in
      subst (Stands nat_eq after)
      (sym (ap (λ (x : Mount ℕ). x.number) from.2 ∙ (push_keeps world new tree all_parts from.0).number))
      (old_stands from.0.number (is_one_of before.mounts from.0 from.1))) (λ made.
      let part = among-from_flat_map copies parts mount made in
      let of = copied part.0 mount part.2 in
      subst (λ (x : Mount ℕ). Stands nat_eq after x.number) (sym of.2) (copies_stand part.0 part.1
      (old_stands part.0.number (part_is part.0 part.1)) of.0.number (grafts.hangs of.0 of.1) of.0 of.1 refl))
      (among-append (map push before.mounts) (flat_map copies parts) mount (subst (Among mount) mounts_after m)))
