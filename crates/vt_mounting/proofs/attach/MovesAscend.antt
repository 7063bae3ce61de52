-- Where a tree moves, its own mounts stand first among the copies, and the copies at receivers stand in the order of
-- their numbers behind all mounts.
use Rattle.std.proofs.Common.{◌≡◌, ◌<◌, refl, sym, ap, subst, ◌∙◌, ℕ, ◌+◌, ◌*◌, nat_eq, Bool, true, false, ◌&&◌, List, [], ◌∷◌, ◌++◌, map, filter, length, arith, flat_map, if◌then◌else◌, ltb-true, ne_eqb}
use Rattle.vt_spec.proofs.Common.{Mount, World, and_parts, common_steps, copies_at, copy_at, group_of, index_of, length-map, list_any, map_twice, mount_at, or_parts, parts_of, receivers_of, rest_of, takes_part, twig_of}
use Rattle.vt_mounting.proofs.Common.{Among, OneNumberAMount, among-from_flat_map, among-from_map, among_from_list_all, are_ascending, counted, flat_map_alike, graft_in, location_of, mount_of, none_from_among, numbers_at, parts_apart}
use Rattle.vt_propagate.specs.declared.copying.Counts.{Counts}
use Rattle.vt_propagate.specs.declared.copying.Graft.{Graft}
use Rattle.vt_propagate.proofs.Pushed.{receivers_apart}
use Rattle.vt_mounting.proofs.attach.CopiesAscend.{number_at, numbers_grow, place_in, place_later, rows_ascend}
use Rattle.vt_mounting.proofs.attach.EnteringLemmas.{ascending_joined}

-- mounts in the order of their numbers have one number each
pub ascending_once : (mounts : List (Mount ℕ)) → are_ascending mounts ≡ true → OneNumberAMount mounts
ascending_once [] rising = refl
ascending_once (first ∷ rest) rising = grind (
  arith,
  common_steps,
  ascending_once rest,
  and_parts,
  among_from_list_all,
  none_from_among,
  ne_eqb,
  ltb-true,
)

-- the copies at all parts but the first
abbrev pub copies_beside : World ℕ → Graft → Counts → List (Mount ℕ)
copies_beside world graft counts = flat_map
    (copies_at nat_eq world (numbers_at world graft counts) (graft_in world graft counts)
    (parts_of nat_eq world (location_of graft.place))) (rest_of (parts_of nat_eq world (location_of graft.place)))

module _ (counts : Counts) (steps : 0 < counts.step) (world : World ℕ) (graft : Graft)
    (one : OneNumberAMount world.mounts)
    (tree_once : OneNumberAMount (map mount_of graft.tree.now)) (some : 0 < length graft.tree.now) where
  abbrev tree : List (Mount ℕ)
  tree = map mount_of graft.tree.now

  abbrev parts : List (Mount ℕ)
  parts = parts_of nat_eq world (location_of graft.place)

  abbrev rest : List (Mount ℕ)
  rest = filter (takes_part nat_eq world (location_of graft.place))
      (receivers_of nat_eq world (mount_at nat_eq world (location_of graft.place)))

  abbrev copy : Mount ℕ → Mount ℕ → Mount ℕ
  copy part mount = copy_at nat_eq world (numbers_at world graft counts) (graft_in world graft counts)
      (parts_of nat_eq world (location_of graft.place)) part (twig_of (numbers_at world graft counts)
      (group_of (mount_at nat_eq world (location_of graft.place)).propagation) mount)

  copy_number : (part mount : Mount ℕ) → Among part rest → (copy part mount).number ≡ number_at counts steps
      (index_of nat_eq parts part.number * length tree + index_of nat_eq tree mount.number)
  copy_number part mount m =
      ap (λ b. if graft.moves && b then mount.number else (numbers_at world graft counts).copy part.number mount.number)
      (receivers_apart world (location_of graft.place) part m) ∙ by graft.moves
    where
      by : (b : Bool) → (if b && false then mount.number
          else (numbers_at world graft counts).copy part.number mount.number)
          ≡ (numbers_at world graft counts).copy part.number mount.number
      by true = refl
      by false = refl

  parts_once : OneNumberAMount parts
  parts_once = parts_apart world (location_of graft.place) one

  places : (part mount : Mount ℕ) → Among part rest → Among mount tree
      → (copy part mount).number ≡ number_at counts steps
      (place_in 1 rest part.number * length tree + index_of nat_eq tree mount.number)
  places part mount m n = copy_number part mount m
      ∙ ap (λ p. number_at counts steps (p * length tree + index_of nat_eq tree mount.number))
      (place_later 0 (mount_at nat_eq world (location_of graft.place)) rest parts_once part m)

  by_rows : copies_beside world graft counts ≡ flat_map (λ part. map (copy part) tree) rest
  by_rows = flat_map_alike (copies_at nat_eq world (numbers_at world graft counts) (graft_in world graft counts)
      (parts_of nat_eq world (location_of graft.place))) (λ part. map (copy part) tree) rest (λ part m. map_twice
      (copy_at nat_eq world (numbers_at world graft counts) (graft_in world graft counts)
      (parts_of nat_eq world (location_of graft.place)) part) (twig_of (numbers_at world graft counts)
      (group_of (mount_at nat_eq world (location_of graft.place)).propagation)) tree)

  rows_rise : are_ascending (flat_map (λ part. map (copy part) tree) rest) ≡ true
  rows_rise = rows_ascend (number_at counts steps) (numbers_grow counts steps) tree tree_once
      (subst (λ n. 0 < n) (sym (length-map graft.tree.now mount_of)) some) copy 1 rest
      (or_parts (list_any (λ (b : Mount ℕ). nat_eq (mount_at nat_eq world (location_of graft.place)).number b.number)
      rest) _ parts_once).1 places

  -- behind mounts with lower numbers than the first count
  pub beside_ascend : (front : List (Mount ℕ)) → are_ascending front ≡ true
      → ((mount : Mount ℕ) → Among mount front → mount.number < counted counts.first)
      → are_ascending (front ++ copies_beside world graft counts) ≡ true
  beside_ascend front rising less = subst (λ list. are_ascending (front ++ list) ≡ true) (sym by_rows)
      (ascending_joined front (flat_map (λ part. map (copy part) tree) rest) rising rows_rise (λ a b m n.
      let part = among-from_flat_map (λ part. map (copy part) tree) rest b n in
      let from = among-from_map (copy part.0) tree b part.2 in
      let it : b.number ≡ number_at counts steps
      (index_of nat_eq parts part.0.number * length tree + index_of nat_eq tree from.0.number) =
      ap (λ (x : Mount ℕ). x.number) from.2 ∙ copy_number part.0 from.0 part.1 in
      let low = less a m in
      omega (arith, it, low)))
