-- New mounts have numbers of their own.
use Rattle.std.proofs.Common.{◌≡◌, refl, sym, ap, subst, ◌∙◌, true, false, suc, nat_eq, ℕ, Bool, List, [], arith, eqb-true, flat_map, inl, inr, length, map, option_map, true≢false, unwrap_or, ⊎_elim, ◌&&◌, ◌++◌, ◌+◌, ◌<◌, ◌∷◌, Some, None, Option, eq-eqb, filter, ◌/◌, if◌then◌else◌, slice_get, ◌*◌}
use Rattle.vt_spec.proofs.Common.{Among, Copies, Fresh, Graft, Location, Mount, Namespace, Serves, Twig, World, among-append, among-append_left, among-flat_map, among-from_filter, among-from_flat_map, among-from_map, among-map, and_parts, any_among, any_pair, attached_by, common_steps, copied_mount, copies_at, copies_from, copy_at, evens, evens-distinct, false_from_ne_true, graft_of, group_of, has_members, holds_of, index_from, index_in_rows, index_of, index_of_group, is_among_numbers, is_destination, is_member_of, list_any, mount_at, mounts_of, nat_eq_false_turned, none_among, none_from_among, not-true, number-mount_in, numbers_by, numbers_in_use, odds, odds-distinct, odds-no_evens, or_from, or_parts, pair-filter, pair-map, parts_of, receivers, receivers_of, receives, same_Some, served-distinct, slice_get_within, takes_part, twig_of, used_by_filesystem, used_by_mount}
use Rattle.vt_laws_mounts.proofs.mounts.MountsReplaced.{pair_by_numbers}
use Rattle.std.proofs.lemmas.Nat.{div-mul-add}
use Rattle.vt_laws_mounts.specs.Mounts.Attaching.{OneNumberAMount, numbers_of}
use Rattle.vt_laws_mounts.specs.Mounts.Invariants.{AttachKeepsNumbers, UnshareKeepsNumbers}
use Rattle.vt_laws_mounts.specs.Mounts.Copies.{CopiesKeepNumbers, IsOneOf, ServeAsCopies, ServeAsImages, SuppliesServeAsCopies, SuppliesServeAsImages}
use Rattle.vt_laws_mounts.proofs.mounts.MountsAttached.{numbers_attached, others}

-- lists that are apart, and apart from one another
pub pair-append : {A : Type 0} (test : A → A → Bool) (xs ys : List A) → any_pair test xs ≡ false
    → any_pair test ys ≡ false
    → ((x y : A) → Among x xs → Among y ys → test x y ≡ false) → any_pair test (xs ++ ys) ≡ false
pair-append test [] ys e f cross = f
pair-append test (x ∷ xs) ys e f cross =
    let parts : (list_any (test x) xs ≡ false) × (any_pair test xs ≡ false) = or_parts _ _ e in
    or_from _ _ (none_from_among _ _ (λ y m. ⊎_elim (λ l. none_among _ xs parts.0 y l) (λ r. cross x y (inl refl) r)
    (among-append xs ys y m))) (pair-append test xs ys parts.1 f (λ a b m n. cross a b (inr m) n))

-- the numbers that a mount uses are in use
pub mount_uses : (world : World ℕ) (mount : Mount ℕ) → Among mount world.mounts → (number : ℕ)
    → Among number (used_by_mount mount) → Among number (numbers_in_use world)
mount_uses world mount m number used =
    let of_mounts = flat_map used_by_mount world.mounts in
    let of_filesystems = flat_map used_by_filesystem world.filesystems in
    among-append_left (of_mounts ++ of_filesystems)
    (map (λ (namespace : Namespace ℕ). namespace.number) world.namespaces) number
    (among-append_left of_mounts of_filesystems number (among-flat_map used_by_mount world.mounts mount number m used))

pub number_in_use : (world : World ℕ) (mount : Mount ℕ) → Among mount world.mounts
    → Among mount.number (numbers_in_use world)
number_in_use world mount m = mount_uses world mount m _ (inl refl)

-- so it is none that is handed in
pub number_is_old : (world : World ℕ) (fresh : Fresh ℕ) → Serves nat_eq world fresh → (number : ℕ)
    → Among number (numbers_of world.mounts) → (k : ℕ) → nat_eq number (fresh k) ≡ false
number_is_old world fresh serves number m k = nat_eq_false_turned _ number (false_from_ne_true _ (λ same.
    let from = among-from_map _ _ number m in
    true≢false (sym (is_among_numbers _ _ (subst (λ n. Among n (numbers_in_use world))
    (sym (eqb-true (fresh k) number same ∙ from.2)) (number_in_use world from.0 from.1))) ∙ serves.unused k)))

-- What is found at the place of a number in a list
place_found : {A : Type 0} (p : A → Bool) (k : ℕ) (xs : List A) (a : A) → Among a xs → p a ≡ true
    → (i : ℕ) × (x : A) × (index_from p k xs ≡ Some (i + k)) × (slice_get xs i ≡ Some x) × (p x ≡ true)
place_found p k [] a m e = absurd m
place_found p k (y ∷ ys) a m e = by _ refl (place_found p (k + 1) ys a)
  where
    by : (b : Bool) → p y ≡ b
        → (Among a ys → p a ≡ true → (i : ℕ) × (x : _) × (index_from p (k + 1) ys ≡ Some (i + (k + 1)))
        × (slice_get ys i ≡ Some x) × (p x ≡ true))
        → (i : ℕ) × (x : _) × (index_from p k (y ∷ ys) ≡ Some (i + k)) × (slice_get (y ∷ ys) i ≡ Some x) × (p x ≡ true)
    by true f later = (0, y, ap (λ b. if b then Some k else index_from p (k + 1) ys) f ∙ ap Some (omega arith), refl, f)
    by false f later = ⊎_elim (λ same. absurd (cc e)) (λ l.
        let t = later l e in (
          suc t.0,
          t.1,
          ap (λ b. if b then Some k else index_from p (k + 1) ys) f ∙ t.2 ∙ ap Some (omega arith),
          t.3,
          t.4,
        )) m

-- a mount of this number stands in the list at its index
indexed : (mounts : List (Mount ℕ)) (number : ℕ) → IsOneOf mounts number
    → (k : ℕ) × (mount : Mount ℕ) × (index_of nat_eq mounts number ≡ k) × (slice_get mounts k ≡ Some mount)
    × (mount.number ≡ number)
indexed mounts number one =
    let there = any_among _ _ one in
    let from = among-from_map _ mounts _ there.1 in
    let same : nat_eq number from.0.number ≡ true = ap (nat_eq number) (sym from.2) ∙ there.2 in
    let t = place_found _ 0 mounts from.0 from.1 same in
    (t.0, t.1, ap (λ found. unwrap_or found 0) t.2 ∙ omega arith, t.3, sym (eqb-true number t.1.number t.4))

pub one_index : (mounts : List (Mount ℕ)) (a b : ℕ) → IsOneOf mounts a → IsOneOf mounts b
    → index_of nat_eq mounts a ≡ index_of nat_eq mounts b → a ≡ b
one_index mounts a b m n e = grind (arith, common_steps, indexed mounts a m, indexed mounts b n)

index_below : (mounts : List (Mount ℕ)) (number : ℕ) → IsOneOf mounts number
    → index_of nat_eq mounts number < length mounts
index_below mounts number one =
    let t = indexed mounts number one in
    subst (λ k. k < length mounts) (sym t.2) (slice_get_within mounts t.0 t.1 t.3)

-- a group with a member in a list, and its index there
indexed_group : (parts : List (Mount ℕ)) (group : ℕ) → has_members nat_eq parts group ≡ true
    → (k : ℕ) × (part : Mount ℕ) × (index_of_group nat_eq parts group ≡ k) × (slice_get parts k ≡ Some part)
    × (is_member_of nat_eq group part ≡ true)
indexed_group parts group has =
    let there = any_among _ parts has in
    let t = place_found _ 0 parts _ there.1 there.2 in
    (t.0, t.1, ap (λ found. unwrap_or found 0) t.2 ∙ omega arith, t.3, t.4)

one_index_of_groups : (parts : List (Mount ℕ)) (group other : ℕ) → has_members nat_eq parts group ≡ true
    → has_members nat_eq parts other ≡ true
    → index_of_group nat_eq parts group ≡ index_of_group nat_eq parts other → group ≡ other
one_index_of_groups parts group other m n e =
    grind (arith, common_steps, indexed_group parts group m, indexed_group parts other n)

-- the i-th of the k-th is no other, where each has so many
numbered_apart : (size k i m j : ℕ) → i < size → j < size → index_in_rows size k i ≡ index_in_rows size m j → (k
    ≡ m) × (i ≡ j)
numbered_apart size k i m j l n e =
    let same : k ≡ m = sym (div-mul-add k size i l) ∙ ap (λ x. x / size) e ∙ div-mul-add m size j n in
    let above : k * size ≡ m * size = ap (λ x. x * size) same in
    (same, omega (arith, e, above))

-- the index of the copy of a mount at a part, and of its image for a group
abbrev copy_index : List (Mount ℕ) → List (Mount ℕ) → ℕ → ℕ → ℕ
copy_index parts mounts part origin =
    index_in_rows (length mounts) (index_of nat_eq parts part) (index_of nat_eq mounts origin)

abbrev image_index : List (Mount ℕ) → List (Mount ℕ) → ℕ → ℕ → ℕ
image_index parts mounts group origin =
    index_in_rows (length mounts) (index_of_group nat_eq parts group) (index_of nat_eq mounts origin)

module _ (world : World ℕ) (fresh : Fresh ℕ) (serves : Serves nat_eq world fresh) where
  copies_serve : (parts mounts : List (Mount ℕ))
      → ServeAsCopies world parts mounts (copies_from nat_eq fresh parts mounts)
  copies_serve parts mounts = record {
    unused = λ part origin m n. serves.unused (2 * copy_index parts mounts part origin);
    apart = λ part origin other_part other m n o p e.
        let at = numbered_apart (length mounts) (index_of nat_eq parts part) (index_of nat_eq mounts origin)
        (index_of nat_eq parts other_part) (index_of nat_eq mounts other)
        (index_below mounts origin n) (index_below mounts other p)
        (evens-distinct fresh (served-distinct world fresh serves) (copy_index parts mounts part origin)
        (copy_index parts mounts other_part other) e) in
        (one_index parts part other_part m o at.0, one_index mounts origin other n p at.1);
  }

  images_serve : (parts mounts : List (Mount ℕ))
      → ServeAsImages world parts mounts (copies_from nat_eq fresh parts mounts)
  images_serve parts mounts = record {
    unused = λ group origin m n. serves.unused (2 * image_index parts mounts group origin + 1);
    apart = λ group origin other_group other m n o p e.
        let at = numbered_apart (length mounts) (index_of_group nat_eq parts group) (index_of nat_eq mounts origin)
        (index_of_group nat_eq parts other_group) (index_of nat_eq mounts other)
        (index_below mounts origin n) (index_below mounts other p)
        (odds-distinct fresh (served-distinct world fresh serves) (image_index parts mounts group origin)
        (image_index parts mounts other_group other) e) in
        (one_index_of_groups parts group other_group m o at.0, one_index mounts origin other n p at.1);
    not_copies = λ group origin part other m n e.
        odds-no_evens fresh (served-distinct world fresh serves) (image_index parts mounts group origin)
        (copy_index parts mounts part other) e;
  }

pub supplies_serve_as_copies : SuppliesServeAsCopies
supplies_serve_as_copies world fresh parts mounts serves = copies_serve world fresh serves parts mounts

pub supplies_serve_as_images : SuppliesServeAsImages
supplies_serve_as_images world fresh parts mounts serves = images_serve world fresh serves parts mounts

-- What is attached

abbrev pub same_number : Mount ℕ → Mount ℕ → Bool
same_number a b = nat_eq a.number b.number

abbrev pub same_origin : Twig ℕ → Twig ℕ → Bool
same_origin a b = same_number a.origin b.origin

-- what is made of each of several, where what is made of one is apart, and what is made of two
pub pair-flat_map : (test : Mount ℕ → Mount ℕ → Bool) (f : Mount ℕ → List (Mount ℕ)) (xs : List (Mount ℕ))
    → any_pair same_number xs ≡ false → ((x : Mount ℕ) → Among x xs → any_pair test (f x) ≡ false)
    → ((x y a b : Mount ℕ) → Among x xs → Among y xs → same_number x y ≡ false
    → Among a (f x) → Among b (f y) → test a b ≡ false) → any_pair test (flat_map f xs) ≡ false
pair-flat_map test f [] h own cross = refl
pair-flat_map test f (x ∷ xs) h own cross =
    let parts : (list_any (same_number x) xs ≡ false) × (any_pair same_number xs ≡ false) = or_parts _ _ h in
    pair-append test _ _ (own x (inl refl))
    (pair-flat_map test f xs parts.1 (λ y m. own y (inr m)) (λ y z a b m n. cross y z a b (inr m) (inr n))) (λ a b m n.
    let from = among-from_flat_map f xs b n in
    cross x from.0 a b (inl refl) (inr from.1) (none_among _ xs parts.0 from.0 from.1) m from.2)

pub is_one_of : (mounts : List (Mount ℕ)) (mount : Mount ℕ) → Among mount mounts → IsOneOf mounts mount.number
is_one_of mounts mount m = is_among_numbers _ _ (among-map _ mounts mount m)

module _ (world : World ℕ) (place : Location ℕ) where
  takers_apart : OneNumberAMount world.mounts → (group : Option ℕ) → any_pair same_number
      (filter (takes_part nat_eq world place) (unwrap_or (option_map (receivers nat_eq world) group) [])) ≡ false
  takers_apart one None = refl
  takers_apart one (Some group) = pair-filter same_number (takes_part nat_eq world place) (receivers nat_eq world group)
      (pair-filter same_number (receives nat_eq world group) world.mounts one)

  -- a receiver that takes part is not the destination
  pub taker_elsewhere : (mount : Mount ℕ) → takes_part nat_eq world place mount ≡ true
      → nat_eq place.mount mount.number ≡ false
  taker_elsewhere mount h = grind (arith, common_steps, not-true, and_parts)

  pub parts_apart : OneNumberAMount world.mounts → any_pair same_number (parts_of nat_eq world place) ≡ false
  parts_apart one =
      let takers = filter (takes_part nat_eq world place) (receivers_of nat_eq world (mount_at nat_eq world place)) in
      or_from (list_any (same_number (mount_at nat_eq world place)) takers) (any_pair same_number takers)
      (none_from_among (same_number (mount_at nat_eq world place)) takers (λ mount m.
      ap (λ n. nat_eq n mount.number) (number-mount_in world.mounts place.mount) ∙ taker_elsewhere mount
      (among-from_filter (takes_part nat_eq world place) (receivers_of nat_eq world (mount_at nat_eq world place))
      mount m).1)) (takers_apart one (group_of (mount_at nat_eq world place).propagation))

module _ {world : World ℕ} {new : Copies ℕ} (place : Location ℕ) (moves : Bool) {mounts : List (Mount ℕ)}
    (serve : ServeAsCopies world (parts_of nat_eq world place) mounts new) (own : OneNumberAMount mounts)
    (one : OneNumberAMount world.mounts) where
  abbrev tree : Graft ℕ
  tree = graft_of nat_eq world new place moves mounts

  abbrev parts : List (Mount ℕ)
  parts = parts_of nat_eq world place

  abbrev twig : Mount ℕ → Twig ℕ
  twig = twig_of new (group_of (mount_at nat_eq world place).propagation)

  abbrev made : Mount ℕ → Twig ℕ → Mount ℕ
  made = copy_at nat_eq world new tree parts

  abbrev copies : Mount ℕ → List (Mount ℕ)
  copies = copies_at nat_eq world new tree parts

  -- the part gets copies, and not what moves
  abbrev IsCopied : Mount ℕ → Type 0
  IsCopied part = (moves && is_destination nat_eq tree part.number) ≡ false

  copied_from : (part : Mount ℕ) → IsCopied part → (copy : Mount ℕ) → Among copy (copies part)
      → (origin : Mount ℕ) × Among origin mounts × (copy.number ≡ new.copy part.number origin.number)
  copied_from part copied copy m = grind (arith, common_steps, among-from_map)

  -- copies of two mounts, or at two parts, have two numbers
  two_copies : (x y a b : Mount ℕ) → Among x parts → Among y parts → IsCopied x → IsCopied y
      → same_number x y ≡ false → Among a (copies x) → Among b (copies y) → same_number a b ≡ false
  two_copies x y a b m n c d differ k l =
      let s = copied_from x c a k in
      let t = copied_from y d b l in
      false_from_ne_true _ (λ same.
      let at : (x.number ≡ y.number) × (s.0.number ≡ t.0.number) =
      serve.apart x.number s.0.number y.number t.0.number (is_one_of parts x m) (is_one_of mounts s.0 s.1)
      (is_one_of parts y n) (is_one_of mounts t.0 t.1) (sym s.2 ∙ eqb-true a.number b.number same ∙ t.2) in
      true≢false (sym (eq-eqb x.number y.number at.0) ∙ differ))

  copies_apart : (part : Mount ℕ) → Among part parts → IsCopied part → any_pair same_number (copies part) ≡ false
  copies_apart part m copied = pair-map _ _ _ _ (λ a b k l differ. false_from_ne_true _ (λ same.
      let number : (t : Twig ℕ) → (made part t).number ≡ new.copy part.number t.origin.number =
      λ t. ap (λ b. if b then t.origin.number else new.copy part.number t.origin.number) copied in
      let from_a = among-from_map twig mounts a k in
      let from_b = among-from_map twig mounts b l in
      let origin : (t : Twig ℕ) (x : Mount ℕ) → t ≡ twig x → Among x mounts → IsOneOf mounts t.origin.number =
      λ t x e n. subst (λ u. IsOneOf mounts u.origin.number) (sym e) (is_one_of mounts x n) in
      let part_one = is_one_of parts part m in
      let at : (part.number ≡ part.number) × (a.origin.number ≡ b.origin.number) =
      serve.apart part.number a.origin.number part.number b.origin.number part_one (origin a from_a.0 from_a.2 from_a.1)
      part_one (origin b from_b.0 from_b.2 from_b.1) (sym (number a) ∙ eqb-true _ _ same ∙ number b) in
      true≢false (sym (eq-eqb a.origin.number b.origin.number at.1) ∙ differ)))
      (pair-map _ _ twig mounts (λ a b k l differ. differ) own)

  all_apart : (list : List (Mount ℕ)) → any_pair same_number list ≡ false
      → ((part : Mount ℕ) → Among part list → Among part parts × IsCopied part)
      → any_pair same_number (flat_map copies list) ≡ false
  all_apart list apart_too each =
      pair-flat_map _ copies list apart_too (λ part m. let e = each part m in copies_apart part e.0 e.1)
      (λ x y a b m n differ k l. let e = each x m in let f = each y n in two_copies x y a b e.0 f.0 e.1 f.1 differ k l)

  -- no copy has the number of a mount that was there
  copies_new : (list : List (Mount ℕ)) → ((part : Mount ℕ) → Among part list → Among part parts × IsCopied part)
      → (old copy : Mount ℕ) → Among old world.mounts → Among copy (flat_map copies list) → same_number old copy ≡ false
  copies_new list each old copy m n =
      let from = among-from_flat_map copies list copy n in
      let e = each from.0 from.1 in
      let t = copied_from from.0 e.1 copy from.2 in
      nat_eq_false_turned _ _ (false_from_ne_true _ (λ same. true≢false
      (sym (is_among_numbers _ _ (subst (λ number. Among number (numbers_in_use world))
      (sym (sym t.2 ∙ eqb-true copy.number old.number same)) (number_in_use world old m))) ∙ serve.unused from.0.number
      t.0.number (is_one_of parts from.0 e.0) (is_one_of mounts t.0 t.1))))

  finish : (list : List (Mount ℕ)) → any_pair same_number list ≡ false
      → ((part : Mount ℕ) → Among part list → Among part parts × IsCopied part)
      → others world new place moves mounts ≡ flat_map copies list
      → OneNumberAMount (attached_by nat_eq world new place moves mounts).mounts
  finish list apart_too each is = pair_by_numbers (attached_by nat_eq world new place moves mounts).mounts
      ∙ ap (any_pair nat_eq)
      (numbers_attached world new place moves mounts ∙ ap (λ added. numbers_of world.mounts ++ numbers_of added) is)
      ∙ pair-append nat_eq (numbers_of world.mounts) (numbers_of (flat_map copies list))
      (sym (pair_by_numbers world.mounts) ∙ one)
      (sym (pair_by_numbers (flat_map copies list)) ∙ all_apart list apart_too each) (λ x y m n.
      let old = among-from_map (λ (mount : Mount ℕ). mount.number) world.mounts x m in
      let copy = among-from_map (λ (mount : Mount ℕ). mount.number) (flat_map copies list) y n in
      ap (nat_eq x) copy.2 ∙ ap (λ number. nat_eq number copy.0.number) old.2
      ∙ copies_new list each old.0 copy.0 old.1 copy.1)

pub copies_keep_numbers : CopiesKeepNumbers
copies_keep_numbers world new place false mounts serve own one =
    finish place false serve own one (parts_of nat_eq world place) (parts_apart world place one)
    (λ part m. (m, refl)) refl
copies_keep_numbers world new place true mounts serve own one = finish place true serve own one
    (filter (takes_part nat_eq world place) (receivers_of nat_eq world (mount_at nat_eq world place)))
    (takers_apart world place one (group_of (mount_at nat_eq world place).propagation)) (λ part m. (
      inr m,
      nat_eq_false_turned place.mount part.number
          (taker_elsewhere world place part (among-from_filter (takes_part nat_eq world place)
          (receivers_of nat_eq world (mount_at nat_eq world place)) part m).1),
    )) refl

pub attach_keeps_numbers : AttachKeepsNumbers
attach_keeps_numbers world fresh place moves mounts serves own one =
    copies_keep_numbers world (copies_from nat_eq fresh (parts_of nat_eq world place) mounts) place moves mounts
    (copies_serve world fresh serves _ mounts) own one

-- Copies of a namespace
pub unshare_keeps_numbers : UnshareKeepsNumbers
unshare_keeps_numbers world fresh task serves one =
    let copied = mounts_of nat_eq world task.namespace in
    let copy = copied_mount (numbers_by nat_eq (odds fresh) copied) (evens fresh 0) in
    let numbered_copy : (mount : Mount ℕ) → Among mount copied
    → (i : ℕ) × ((copy mount).number ≡ fresh (2 * i + 1)) × (x : Mount ℕ) × (slice_get copied i ≡ Some x)
    × (mount.number ≡ x.number) = λ mount m.
    let t = place_found (λ (other : Mount ℕ). nat_eq mount.number other.number) 0 copied mount m
    (eq-eqb mount.number mount.number refl) in (
      t.0,
      ap (λ found. odds fresh (unwrap_or found 0)) t.2 ∙ ap (λ n. fresh (2 * n + 1)) (omega arith),
      t.1,
      t.3,
      eqb-true mount.number t.1.number t.4,
    ) in
    pair-append same_number world.mounts (map copy copied) one (pair-map same_number same_number copy copied
    (λ a b m n differ. false_from_ne_true (nat_eq (copy a).number (copy b).number) (λ together.
    let s = numbered_copy a m in
    let t = numbered_copy b n in
    let odd : 2 * s.0 + 1 ≡ 2 * t.0 + 1 = serves.apart (2 * s.0 + 1) (2 * t.0 + 1)
    (ap (λ x. nat_eq x (fresh (2 * t.0 + 1))) (sym s.1) ∙ ap (nat_eq (copy a).number) (sym t.1) ∙ together) in
    let index : s.0 ≡ t.0 = omega (arith, odd) in
    let same : s.2 ≡ t.2 = same_Some s.2 t.2 (sym s.3 ∙ ap (slice_get copied) index ∙ t.3) in
    true≢false (sym (eq-eqb a.number b.number (s.4 ∙ ap (λ x. x.number) same ∙ sym t.4)) ∙ differ)))
    (pair-filter same_number (λ x. holds_of (nat_eq task.namespace) x.namespace) world.mounts one)) (λ a b m n.
    let from = among-from_map copy copied b n in
    let t = numbered_copy from.0 from.1 in
    ap (nat_eq a.number) (ap (λ x. x.number) from.2 ∙ t.1)
    ∙ number_is_old world fresh serves a.number (among-map (λ (mount : Mount ℕ). mount.number) world.mounts a m)
    (2 * t.0 + 1))
