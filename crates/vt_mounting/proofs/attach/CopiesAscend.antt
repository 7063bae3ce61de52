-- The copies of an attachment stand in the order of their numbers: all at one part, in the order of the tree, then all
-- at the next.
use Rattle.std.proofs.Common.{◌≡◌, ◌<◌, ◌≤◌, refl, sym, ap, subst, ◌∙◌, inl, inr, true≢false, ℕ, ◌+◌, ◌*◌, nat_eq, eq-eqb, true, false, cond, ◌&&◌, List, [], ◌∷◌, ◌++◌, map, length, Some, arith, flat_map, if◌then◌else◌, nat_lt, unwrap_or, lt-ltb, ne_eqb}
use Rattle.vt_spec.proofs.Common.{Mount, World, any_pair, common_steps, copies_at, copy_at, group_of, index_from, index_of, is_destination, length-map, list_all, list_any, map_twice, mount_at, or_parts, parts_of, twig_of}
use Rattle.std.proofs.Math.Nat.{mul-le-mul_left}
use Rattle.vt_mounting.proofs.Common.{Among, OneNumberAMount, among-from_flat_map, among-from_map, are_ascending, counted, flat_map_alike, graft_in, index_bound, list_all_from_among, location_of, mount_of, none_among, numbers_at, parts_apart, planned_copies}
use Rattle.vt_laws_mounts.proofs.mounts.MountsNumbered.{same_number}
use Rattle.vt_propagate.specs.declared.copying.Counts.{Counts}
use Rattle.vt_propagate.specs.declared.copying.Graft.{Graft}
use Rattle.vt_mounting.proofs.attach.EnteringLemmas.{ascending_joined}

pub differs : (first : Mount ℕ) (rest : List (Mount ℕ)) → OneNumberAMount (first ∷ rest) → (mount : Mount ℕ)
    → Among mount rest → nat_eq mount.number first.number ≡ false
differs first rest each mount m =
    let apart = none_among (same_number first) rest
    (or_parts (list_any (same_number first) rest) (any_pair same_number rest) each).0 mount m in
    ne_eqb mount.number first.number (λ e. true≢false (sym (eq-eqb first.number mount.number (sym e)) ∙ apart))

abbrev pub place_in : ℕ → List (Mount ℕ) → ℕ → ℕ
place_in k all number = unwrap_or (index_from (λ (x : Mount ℕ). nat_eq number x.number) k all) 0

place_low : (k : ℕ) (all : List (Mount ℕ)) (mount : Mount ℕ) → Among mount all → k ≤ place_in k all mount.number
place_low k [] mount m = absurd m
place_low k (first ∷ rest) mount m = grind (arith, common_steps, place_low (k + 1) rest mount, eq-eqb)

-- the first of a list, and each later one
pub place_first : (k : ℕ) (first : Mount ℕ) (rest : List (Mount ℕ)) → place_in k (first ∷ rest) first.number ≡ k
place_first k first rest =
    ap (λ b. unwrap_or (cond b (Some k) (index_from (λ (x : Mount ℕ). nat_eq first.number x.number) (k + 1) rest)) 0)
    (eq-eqb first.number first.number refl)

pub place_later : (k : ℕ) (first : Mount ℕ) (rest : List (Mount ℕ)) → OneNumberAMount (first ∷ rest) → (mount : Mount ℕ)
    → Among mount rest → place_in k (first ∷ rest) mount.number ≡ place_in (k + 1) rest mount.number
place_later k first rest each mount m =
    ap (λ b. unwrap_or (cond b (Some k) (index_from (λ (x : Mount ℕ). nat_eq mount.number x.number) (k + 1) rest)) 0)
    (differs first rest each mount m)

-- Numbers that grow with their places
module _ (number : ℕ → ℕ) (grows : (a b : ℕ) → a < b → number a < number b) where
  row_ascends : (copy : Mount ℕ → Mount ℕ) (base k : ℕ) (all : List (Mount ℕ)) → OneNumberAMount all
      → ((mount : Mount ℕ) → Among mount all → (copy mount).number ≡ number (base + place_in k all mount.number))
      → are_ascending (map copy all) ≡ true
  row_ascends copy base k [] each is = refl
  row_ascends copy base k (first ∷ rest) each is = λ i. less i && row_ascends copy base (k + 1) rest
      (or_parts (list_any (same_number first) rest) (any_pair same_number rest) each).1 is_later i
    where
      is_later : (mount : Mount ℕ) → Among mount rest
          → (copy mount).number ≡ number (base + place_in (k + 1) rest mount.number)
      is_later mount m = is mount (inr m) ∙ ap (λ n. number (base + n)) (place_later k first rest each mount m)

      less : list_all (λ later. nat_lt (copy first).number later.number) (map copy rest) ≡ true
      less = list_all_from_among (λ (later : Mount ℕ). nat_lt (copy first).number later.number) (map copy rest)
          (λ later n.
          let from = among-from_map copy rest later n in
          let it : later.number ≡ number (base + place_in (k + 1) rest from.0.number) = ap
          (λ (x : Mount ℕ). x.number) from.2 ∙ is_later from.0 from.1 in
          let first_is : (copy first).number ≡ number (base + k) = is first (inl refl)
          ∙ ap (λ n. number (base + n)) (place_first k first rest) in
          let low = place_low (k + 1) rest from.0 from.1 in
          let all = grows (base + k) (base + place_in (k + 1) rest from.0.number) (omega (arith, low)) in
          lt-ltb (copy first).number later.number (omega (arith, it, first_is, all)))

  module _ (tree : List (Mount ℕ)) (tree_once : OneNumberAMount tree) (some : 0 < length tree)
      (copy : Mount ℕ → Mount ℕ → Mount ℕ) where
    abbrev Places : ℕ → List (Mount ℕ) → Type 0
    Places k parts = (part mount : Mount ℕ) → Among part parts → Among mount tree → (copy part mount).number ≡ number
        (place_in k parts part.number * length tree + index_of nat_eq tree mount.number)

    pub rows_ascend : (k : ℕ) (parts : List (Mount ℕ)) → OneNumberAMount parts → Places k parts
        → are_ascending (flat_map (λ part. map (copy part) tree) parts) ≡ true
    rows_ascend k [] each is = refl
    rows_ascend k (first ∷ rest) each is =
        ascending_joined (map (copy first) tree) (flat_map (λ part. map (copy part) tree) rest)
        (row_ascends (copy first) (place_in k (first ∷ rest) first.number * length tree) 0 tree tree_once
        (λ mount m. is first mount (inl refl) m))
        (rows_ascend (k + 1) rest (or_parts (list_any (same_number first) rest)
        (any_pair same_number rest) each).1 later) (λ a b m n.
        let from = among-from_map (copy first) tree a m in
        let part = among-from_flat_map (λ part. map (copy part) tree) rest b n in
        let to = among-from_map (copy part.0) tree b part.2 in
        let a_is : a.number ≡ number (k * length tree + index_of nat_eq tree from.0.number) =
        ap (λ (x : Mount ℕ). x.number) from.2 ∙ is first from.0 (inl refl) from.1
        ∙ ap (λ n. number (n * length tree + index_of nat_eq tree from.0.number)) (place_first k first rest) in
        let b_is : b.number ≡ number (place_in
        (k + 1) rest part.0.number * length tree + index_of nat_eq tree to.0.number) =
        ap (λ (x : Mount ℕ). x.number) to.2 ∙ later part.0 to.0 part.1 to.1 in
        let low = place_low (k + 1) rest part.0 part.1 in
        let few = index_bound tree from.0.number some in
        let rows = mul-le-mul_left (length tree) low in
        let all = grows (k * length tree + index_of nat_eq tree from.0.number)
        (place_in (k + 1) rest part.0.number * length tree + index_of nat_eq tree to.0.number)
        (omega (arith, few, rows)) in
        omega (arith, a_is, b_is, all))
      where
        later : Places (k + 1) rest
        later part mount m n =
            is part mount (inr m) n ∙ ap (λ p. number (p * length tree + index_of nat_eq tree mount.number))
            (place_later k first rest each part m)

-- The counts of an attachment
module _ (counts : Counts) (steps : 0 < counts.step) where
  abbrev pub number_at : ℕ → ℕ
  number_at k = counted (counts.first + counts.step * (2 * k))

  pub numbers_grow : (a b : ℕ) → a < b → number_at a < number_at b
  numbers_grow a b less = grind (arith, common_steps)

  module _ (world : World ℕ) (graft : Graft) (binds : graft.moves ≡ false) (one : OneNumberAMount world.mounts)
      (tree_once : OneNumberAMount (map mount_of graft.tree.now)) (some : 0 < length graft.tree.now) where
    abbrev tree : List (Mount ℕ)
    tree = map mount_of graft.tree.now

    abbrev parts : List (Mount ℕ)
    parts = parts_of nat_eq world (location_of graft.place)

    abbrev copy : Mount ℕ → Mount ℕ → Mount ℕ
    copy part mount = copy_at nat_eq world (numbers_at world graft counts) (graft_in world graft counts)
        (parts_of nat_eq world (location_of graft.place)) part (twig_of (numbers_at world graft counts)
        (group_of (mount_at nat_eq world (location_of graft.place)).propagation) mount)

    copy_number : (part mount : Mount ℕ) → (copy part mount).number ≡ number_at
        (index_of nat_eq parts part.number * length tree + index_of nat_eq tree mount.number)
    copy_number part mount =
        ap (λ b. if b && is_destination nat_eq (graft_in world graft counts) part.number then mount.number
        else (numbers_at world graft counts).copy part.number mount.number) binds

    by_rows : planned_copies world graft counts ≡ flat_map (λ part. map (copy part) tree) parts
    by_rows = flat_map_alike (copies_at nat_eq world (numbers_at world graft counts) (graft_in world graft counts)
        (parts_of nat_eq world (location_of graft.place))) (λ part. map (copy part) tree) parts (λ part m. map_twice
        (copy_at nat_eq world (numbers_at world graft counts) (graft_in world graft counts)
        (parts_of nat_eq world (location_of graft.place)) part) (twig_of (numbers_at world graft counts)
        (group_of (mount_at nat_eq world (location_of graft.place)).propagation)) tree)

    copies_ascend : are_ascending (flat_map (λ part. map (copy part) tree) parts) ≡ true
    copies_ascend = rows_ascend number_at numbers_grow tree tree_once
        (subst (λ n. 0 < n) (sym (length-map graft.tree.now mount_of)) some) copy 0 parts
        (parts_apart world (location_of graft.place) one) (λ part mount m n. copy_number part mount)

    -- behind mounts with lower numbers than the first count
    pub planned_ascend : (front : List (Mount ℕ)) → are_ascending front ≡ true
        → ((mount : Mount ℕ) → Among mount front → mount.number < counted counts.first)
        → are_ascending (front ++ planned_copies world graft counts) ≡ true
    planned_ascend front rising less = subst (λ list. are_ascending (front ++ list) ≡ true) (sym by_rows)
        (ascending_joined front (flat_map (λ part. map (copy part) tree) parts) rising copies_ascend (λ a b m n.
        let part = among-from_flat_map (λ part. map (copy part) tree) parts b n in
        let from = among-from_map (copy part.0) tree b part.2 in
        let it : b.number ≡ number_at (index_of nat_eq parts part.0.number * length tree + index_of nat_eq tree from.0.number) =
        ap (λ (x : Mount ℕ). x.number) from.2 ∙ copy_number part.0 from.0 in
        let low = less a m in
        omega (arith, it, low)))
