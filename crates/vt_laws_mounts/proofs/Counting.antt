-- How many mounts namespaces have once a tree is attached.
use Rattle.std.proofs.Common.{◌≡◌, ℕ, Bool, true, false, cond, ◌+◌, ◌*◌, ◌≤◌, ◌++◌, ◌||◌, List, [], ◌∷◌, map, filter, length, nat_eq, Option, None, Some, flat_map, suc, refl, sym, ap, ◌∙◌, arith, inl, inr, append_assoc, eq-eqb, find, unwrap_or, eqb-true, length-append}
use Rattle.vt_spec.proofs.Common.{Among, Copies, Graft, Location, Mount, World, among-from_map, among-map, attached_by, common_steps, copies_at, copy_at, filter-append, folded, graft_of, group_of, holds_of, is_among, is_among_numbers, length-map, list_any, map_alike, mount_at, mount_in, no_mount, none_among, or_parts, parts_of, moved_onto_copy, receivers_of, takes_part, twig_of, with_mount}
use Rattle.vt_laws_mounts.specs.Mounts.Attaching.{numbers_of, OneNumberAMount}
use Rattle.vt_laws_mounts.proofs.mounts.MountsFound.{number-mount_in}
use Rattle.vt_laws_mounts.proofs.mounts.MountsReplaced.{found-with_mount_other, found_itself, numbers-with_mount, one_number_by_numbers}
use Rattle.vt_laws_mounts.specs.Mounts.Ending.{count_in, is_in}

-- Counts

-- of mounts of two lists
pub count-append : (one other : List (Mount ℕ)) (namespace : ℕ)
    → count_in (one ++ other) namespace ≡ count_in one namespace + count_in other namespace
count-append one other namespace = ap length (filter-append _ one other)
    ∙ length-append (filter (is_in namespace) one) (filter (is_in namespace) other)

-- of a first mount and the others
pub count-cons : (mount : Mount ℕ) (mounts : List (Mount ℕ)) (namespace : ℕ)
    → count_in (mount ∷ mounts) namespace ≡ cond (is_in namespace mount) 1 0 + count_in mounts namespace
count-cons mount mounts namespace = grind (arith, common_steps)

-- changes that leave mounts in the same namespaces
pub count-map : {A : Type 0} (f g : A → Mount ℕ) → ((a : A) → (f a).namespace ≡ (g a).namespace)
    → (list : List A) (namespace : ℕ) → count_in (map f list) namespace ≡ count_in (map g list) namespace
count-map f g same [] namespace = refl
count-map f g same (a ∷ list) namespace = count-cons (f a) (map f list) namespace
    ∙ (λ i. cond (holds_of (nat_eq namespace) (same a i)) 1 0 + count-map f g same list namespace i)
    ∙ sym (count-cons (g a) (map g list) namespace)

-- mounts that are made in one namespace
pub count-alike : {A : Type 0} (f : A → Mount ℕ) (o : Option ℕ) → ((a : A) → (f a).namespace ≡ o)
    → (list : List A) (namespace : ℕ)
    → count_in (map f list) namespace ≡ cond (holds_of (nat_eq namespace) o) (length list) 0
count-alike f o same [] namespace = grind (arith, common_steps)
count-alike f o same (a ∷ list) namespace =
    grind (arith, common_steps, count-cons (f a) (map f list) namespace, same a, count-alike f o same list namespace)

-- so many copies in the namespace of each part
pub count-flat : (copies : Mount ℕ → List (Mount ℕ)) (k namespace : ℕ)
    → ((part : Mount ℕ) → count_in (copies part) namespace ≡ cond (is_in namespace part) k 0)
    → (parts : List (Mount ℕ)) → count_in (flat_map copies parts) namespace ≡ count_in parts namespace * k
count-flat copies k namespace each [] = omega arith
count-flat copies k namespace each (part ∷ parts) = count-append (copies part) (flat_map copies parts) namespace
    ∙ (λ i. each part i + count-flat copies k namespace each parts i)
    ∙ by (is_in namespace part) ∙ ap (λ n. n * k) (sym (count-cons part parts namespace))
  where
    by : (b : Bool) → cond b k 0 + count_in parts namespace * k ≡ (cond b 1 0 + count_in parts namespace) * k
    by true = omega arith
    by false = omega arith

-- mounts that are all in one namespace, or all in none
pub count-inside : (list : List (Mount ℕ)) (o : Option ℕ) → ((mount : Mount ℕ) → Among mount list → mount.namespace ≡ o)
    → (namespace : ℕ) → count_in list namespace ≡ cond (holds_of (nat_eq namespace) o) (length list) 0
count-inside [] o inside namespace = grind (arith, common_steps)
count-inside (mount ∷ list) o inside namespace = count-cons mount list namespace
    ∙ (λ i. cond (holds_of (nat_eq namespace) (inside mount (inl refl) i)) 1 0 + count-inside list o
    (λ other m. inside other (inr m)) namespace i) ∙ by (holds_of (nat_eq namespace) o)
  where
    by : (b : Bool) → cond b 1 0 + cond b (length list) 0 ≡ cond b (suc (length list)) 0
    by true = omega arith
    by false = omega arith

-- Mounts in the place of others: as in MS_MOVE

-- a mount that is put in the place of none
put_nowhere : (mounts : List (Mount ℕ)) (new : Mount ℕ)
    → list_any (λ (other : Mount ℕ). nat_eq new.number other.number) mounts ≡ false
    → with_mount nat_eq mounts new ≡ mounts
put_nowhere [] new none = refl
put_nowhere (mount ∷ rest) new none =
    let parts = or_parts _ _ none in
    λ i. cond (parts.0 i) new mount ∷ put_nowhere rest new parts.1 i

-- one mount in the place of another of its number
module _ (new : Mount ℕ) (namespace : ℕ) where
  one_counted : (mounts : List (Mount ℕ)) → OneNumberAMount mounts → is_among nat_eq new.number (numbers_of mounts)
      ≡ true → count_in (with_mount nat_eq mounts new) namespace + count_in
      (mount_in nat_eq mounts new.number ∷ []) namespace ≡ count_in mounts namespace + count_in (new ∷ []) namespace
  one_counted [] own there = absurd cc
  one_counted (mount ∷ rest) own there =
      let parts = or_parts _ _ own in
      by _ refl parts.0 (λ later. one_counted rest parts.1 later) there
    where
      by : (b : Bool) → nat_eq new.number mount.number ≡ b
          → list_any (λ (other : Mount ℕ). nat_eq mount.number other.number) rest ≡ false
          → (is_among nat_eq new.number (numbers_of rest) ≡ true
          → count_in (with_mount nat_eq rest new) namespace + count_in (mount_in nat_eq rest new.number ∷ []) namespace
          ≡ count_in rest namespace + count_in (new ∷ []) namespace)
          → (b || is_among nat_eq new.number (numbers_of rest)) ≡ true
          → count_in (cond b new mount ∷ with_mount nat_eq rest new) namespace
          + count_in (unwrap_or (cond b (Some mount)
          (find (λ (other : Mount ℕ). nat_eq new.number other.number) rest)) (no_mount new.number) ∷ []) namespace
          ≡ count_in (mount ∷ rest) namespace + count_in (new ∷ []) namespace
      by true e others later h =
          let same = put_nowhere rest new
          (ap (λ n. list_any (λ (other : Mount ℕ). nat_eq n other.number) rest) (eqb-true new.number mount.number e)
          ∙ others) in
          let first : count_in (new ∷ with_mount nat_eq rest new) namespace
          ≡ count_in (new ∷ rest) namespace = ap (λ list. count_in (new ∷ list) namespace) same in
          let one : count_in (new ∷ rest) namespace
          ≡ count_in (new ∷ []) namespace + count_in rest namespace = count-append (new ∷ []) rest namespace in
          let two : count_in (mount ∷ rest) namespace
          ≡ count_in (mount ∷ []) namespace + count_in rest namespace = count-append (mount ∷ []) rest namespace in
          omega (arith, first, one, two)
      by false e others later h =
          let rest_is = later h in
          let one : count_in (mount ∷ with_mount nat_eq rest new) namespace
          ≡ count_in (mount ∷ []) namespace + count_in (with_mount nat_eq rest new) namespace = count-append
          (mount ∷ []) (with_mount nat_eq rest new) namespace in
          let two : count_in (mount ∷ rest) namespace
          ≡ count_in (mount ∷ []) namespace + count_in rest namespace = count-append (mount ∷ []) rest namespace in
          omega (arith, rest_is, one, two)

-- several, each in the place of another
replaced_counted : (copies mounts : List (Mount ℕ)) (namespace : ℕ) → OneNumberAMount copies → OneNumberAMount mounts
    → ((copy : Mount ℕ) → Among copy copies → is_among nat_eq copy.number (numbers_of mounts) ≡ true)
    → count_in (folded (with_mount nat_eq) mounts copies) namespace + count_in
    (map (λ (copy : Mount ℕ). mount_in nat_eq mounts copy.number) copies) namespace
    ≡ count_in mounts namespace + count_in copies namespace
replaced_counted [] mounts namespace apart own there = refl
replaced_counted (copy ∷ copies) mounts namespace apart own there =
    let parts = or_parts (list_any (λ (other : Mount ℕ). nat_eq copy.number other.number) copies) _ apart in
    let put = with_mount nat_eq mounts copy in
    let same_numbers = numbers-with_mount copy mounts in
    let later = replaced_counted copies put namespace parts.1 (one_number_by_numbers mounts put same_numbers own)
    (λ other m. ap (is_among nat_eq other.number) same_numbers ∙ there other (inr m)) in
    let kept : count_in (map (λ (other : Mount ℕ). mount_in nat_eq put other.number) copies) namespace
    ≡ count_in (map (λ (other : Mount ℕ). mount_in nat_eq mounts other.number) copies) namespace =
    ap (λ list. count_in list namespace) (map_alike (λ (other : Mount ℕ). mount_in nat_eq put other.number)
    (λ (other : Mount ℕ). mount_in nat_eq mounts other.number) copies
    (λ other m. found-with_mount_other copy mounts other.number
    (none_among (λ (one : Mount ℕ). nat_eq copy.number one.number) copies parts.0 other m))) in
    let first = one_counted copy namespace mounts own (there copy (inl refl)) in
    let one : count_in (copy ∷ copies) namespace
    ≡ count_in (copy ∷ []) namespace + count_in copies namespace = count-append (copy ∷ []) copies namespace in
    let was = map (λ (other : Mount ℕ). mount_in nat_eq mounts other.number) copies in
    let two : count_in (mount_in nat_eq mounts copy.number ∷ was) namespace
    ≡ count_in (mount_in nat_eq mounts copy.number ∷ []) namespace + count_in was namespace =
    count-append (mount_in nat_eq mounts copy.number ∷ []) was namespace in
    omega (arith, later, kept, first, one, two)

-- mounts that move: each change of them keeps their numbers
module _ (mounts tree : List (Mount ℕ)) (own : OneNumberAMount mounts) (apart : OneNumberAMount tree)
    (there : (mount : Mount ℕ) → Among mount tree → Among mount mounts)
    (change : Mount ℕ → Mount ℕ) (keeps : (mount : Mount ℕ) → (change mount).number ≡ mount.number) where
  pub moved_counted : (namespace : ℕ)
      → count_in (folded (with_mount nat_eq) mounts (map change tree)) namespace + count_in tree namespace
      ≡ count_in mounts namespace + count_in (map change tree) namespace
  moved_counted namespace =
      let all = replaced_counted (map change tree) mounts namespace
      (one_number_by_numbers tree (map change tree) (changed_numbers tree) apart) own listed in
      let were : count_in (map (λ (copy : Mount ℕ). mount_in nat_eq mounts copy.number) (map change tree)) namespace
      ≡ count_in tree namespace = ap (λ list. count_in list namespace) (originals tree there) in
      omega (arith, all, were)
    where
      changed_numbers : (list : List (Mount ℕ)) → numbers_of (map change list) ≡ numbers_of list
      changed_numbers [] = refl
      changed_numbers (mount ∷ list) = λ i. keeps mount i ∷ changed_numbers list i

      listed : (copy : Mount ℕ) → Among copy (map change tree) → is_among nat_eq copy.number (numbers_of mounts) ≡ true
      listed copy m = grind (arith, common_steps, among-from_map, is_among_numbers, among-map)

      originals : (list : List (Mount ℕ)) → ((mount : Mount ℕ) → Among mount list → Among mount mounts)
          → map (λ (copy : Mount ℕ). mount_in nat_eq mounts copy.number) (map change list) ≡ list
      originals [] within = refl
      originals (mount ∷ list) within =
          λ i. (ap (mount_in nat_eq mounts) (keeps mount) ∙ found_itself mounts own mount (within mount (inl refl))) i
          ∷ originals list (λ other m. within other (inr m)) i

-- so they are no more than all
pub moved_fewer : (mounts tree : List (Mount ℕ)) → OneNumberAMount mounts → OneNumberAMount tree
    → ((mount : Mount ℕ) → Among mount tree → Among mount mounts)
    → (namespace : ℕ) → count_in tree namespace ≤ count_in mounts namespace
moved_fewer mounts tree own apart there namespace =
    let all = moved_counted mounts tree own apart there (λ mount. record mount { namespace = None })
    (λ mount. refl) namespace in
    let none : count_in (map (λ (mount : Mount ℕ). record mount { namespace = None }) tree) namespace ≡ 0 =
    count-alike (λ (mount : Mount ℕ). record mount { namespace = None }) None (λ mount. refl) tree namespace in
    omega (arith, all, none)

-- Worlds in which a tree is attached

-- a list that is left as it is
map_same_mounts : (list : List (Mount ℕ)) → map (λ (mount : Mount ℕ). mount) list ≡ list
map_same_mounts [] = refl
map_same_mounts (mount ∷ list) = ap (λ rest. mount ∷ rest) (map_same_mounts list)

module _ (world : World ℕ) (place : Location ℕ) where
  abbrev parts : List (Mount ℕ)
  parts = parts_of nat_eq world place

  module _ (new : Copies ℕ) (moves : Bool) (tree : List (Mount ℕ)) where
    abbrev graft : Graft ℕ
    graft = graft_of nat_eq world new place moves tree

    -- a mount that is pushed up stays in its namespace
    pushed_stays : (mount : Mount ℕ) → (moved_onto_copy nat_eq world new graft parts mount).namespace ≡ mount.namespace
    pushed_stays mount = grind (arith, common_steps)

    -- so as many mounts are in it
    pushed_counted : (list : List (Mount ℕ)) (namespace : ℕ)
        → count_in (map (moved_onto_copy nat_eq world new graft parts) list) namespace ≡ count_in list namespace
    pushed_counted list namespace =
        count-map _ _ pushed_stays list _ ∙ ap (λ all. count_in all namespace) (map_same_mounts list)

    -- the copies at a part are in its namespace
    copies_counted : (namespace : ℕ) (part : Mount ℕ) → count_in (copies_at nat_eq world new graft parts part) namespace
        ≡ cond (is_in namespace part) (length tree) 0
    copies_counted namespace part = cc (
      count-alike (copy_at nat_eq world new graft parts part) part.namespace (λ twig. refl) graft.twigs namespace,
      length-map tree (twig_of new (group_of (mount_at nat_eq world place).propagation)),
    )

    -- the copies at several parts
    rest_counted : (namespace : ℕ) (rest : List (Mount ℕ))
        → count_in (flat_map (copies_at nat_eq world new graft parts) rest) namespace
        ≡ count_in rest namespace * length tree
    rest_counted namespace rest = count-flat _ _ _ (copies_counted _) rest

  -- Copies

  module _ (new : Copies ℕ) (tree : List (Mount ℕ)) where
    abbrev added : World ℕ
    added = attached_by nat_eq world new place false tree

    -- each namespace has one copy of the tree more for each of its parts
    pub added_counted : (namespace : ℕ) → count_in added.mounts namespace
        ≡ count_in world.mounts namespace + count_in parts namespace * length tree
    added_counted namespace = ap (λ list. count_in list namespace)
        (append_assoc (map (moved_onto_copy nat_eq world new (graft new false tree) parts) world.mounts)
        (copies_at nat_eq world new (graft new false tree) parts (mount_at nat_eq world place))
        (flat_map (copies_at nat_eq world new (graft new false tree) parts)
        (filter (takes_part nat_eq world place) (receivers_of nat_eq world (mount_at nat_eq world place)))))
        ∙ count-append (map (moved_onto_copy nat_eq world new (graft new false tree) parts) world.mounts)
        (flat_map (copies_at nat_eq world new (graft new false tree) parts) parts) namespace
        ∙ (λ i. pushed_counted new false tree world.mounts namespace i + rest_counted new false tree namespace parts i)

  -- Mounts that move

  module _ (new : Copies ℕ) (tree : List (Mount ℕ)) where
    abbrev moved : World ℕ
    moved = attached_by nat_eq world new place true tree

    -- the receivers that take part
    abbrev others : List (Mount ℕ)
    others = filter (takes_part nat_eq world place) (receivers_of nat_eq world (mount_at nat_eq world place))

    -- a mount as it is at the destination
    abbrev there_now : Mount ℕ → Mount ℕ
    there_now mount = copy_at nat_eq world new (graft new true tree) parts (mount_at nat_eq world place)
        (twig_of new (group_of (mount_at nat_eq world place).propagation) mount)

    -- a mount that moves keeps its number
    keeps_number : (mount : Mount ℕ) → (there_now mount).number ≡ mount.number
    keeps_number mount = ap (λ b. cond b mount.number (new.copy (mount_at nat_eq world place).number mount.number))
        (eq-eqb (mount_at nat_eq world place).number place.mount (number-mount_in _ _))

    -- at the destination the mounts themselves come
    come : copies_at nat_eq world new (graft new true tree) parts (mount_at nat_eq world place) ≡ map there_now tree
    come = twice tree
      where
        twice : (list : List (Mount ℕ))
            → map (copy_at nat_eq world new (graft new true tree) parts (mount_at nat_eq world place))
            (map (twig_of new (group_of (mount_at nat_eq world place).propagation)) list) ≡ map there_now list
        twice [] = refl
        twice (mount ∷ list) = ap (λ rest. there_now mount ∷ rest) (twice list)

    -- a mount that is not there comes to the receivers alone
    pub absent_counted : (mount : Mount ℕ) → tree ≡ mount ∷ []
        → is_among nat_eq mount.number (numbers_of world.mounts) ≡ false
        → (namespace : ℕ) → count_in moved.mounts namespace
        ≡ count_in world.mounts namespace + count_in others namespace * length tree
    absent_counted mount is missing namespace =
        let put : folded (with_mount nat_eq) world.mounts
        (copies_at nat_eq world new (graft new true tree) parts (mount_at nat_eq world place)) ≡ world.mounts =
        ap (folded (with_mount nat_eq) world.mounts) (come ∙ ap (map there_now) is)
        ∙ put_nowhere world.mounts (there_now mount)
        (ap (λ n. list_any (λ (other : Mount ℕ). nat_eq n other.number) world.mounts) (keeps_number mount)
        ∙ none_has world.mounts missing) in
        let all = count-append (map (moved_onto_copy nat_eq world new (graft new true tree) parts)
        (folded (with_mount nat_eq) world.mounts
        (copies_at nat_eq world new (graft new true tree) parts (mount_at nat_eq world place))) ++ [])
        (flat_map (copies_at nat_eq world new (graft new true tree) parts) others) namespace in
        let front = count-append (map (moved_onto_copy nat_eq world new (graft new true tree) parts)
        (folded (with_mount nat_eq) world.mounts
        (copies_at nat_eq world new (graft new true tree) parts (mount_at nat_eq world place)))) [] namespace in
        let pushed = pushed_counted new true tree (folded (with_mount nat_eq) world.mounts
        (copies_at nat_eq world new (graft new true tree) parts (mount_at nat_eq world place))) namespace in
        let same : count_in (folded (with_mount nat_eq) world.mounts
        (copies_at nat_eq world new (graft new true tree) parts (mount_at nat_eq world place))) namespace
        ≡ count_in world.mounts namespace = ap (λ list. count_in list namespace) put in
        let rest = rest_counted new true tree namespace others in
        omega (arith, all, front, pushed, same, rest)
      where
        none_has : (list : List (Mount ℕ)) → is_among nat_eq mount.number (numbers_of list) ≡ false
            → list_any (λ (other : Mount ℕ). nat_eq mount.number other.number) list ≡ false
        none_has [] none = refl
        none_has (other ∷ list) none =
            let parts = or_parts _ _ none in
            λ i. parts.0 i || none_has list parts.1 i

    module _ (own : OneNumberAMount world.mounts) (apart : OneNumberAMount tree)
        (within : (mount : Mount ℕ) → Among mount tree → Among mount world.mounts) where
      -- each namespace has one copy of the tree more for each of its parts, and the mounts that move leave theirs
      pub moved_all : (namespace : ℕ) → count_in moved.mounts namespace + count_in tree namespace
          ≡ count_in world.mounts namespace + count_in parts namespace * length tree
      moved_all namespace =
          let all = count-append (map (moved_onto_copy nat_eq world new (graft new true tree) parts)
          (folded (with_mount nat_eq) world.mounts
          (copies_at nat_eq world new (graft new true tree) parts (mount_at nat_eq world place))) ++ [])
          (flat_map (copies_at nat_eq world new (graft new true tree) parts) others) namespace in
          let front = count-append (map (moved_onto_copy nat_eq world new (graft new true tree) parts)
          (folded (with_mount nat_eq) world.mounts
          (copies_at nat_eq world new (graft new true tree) parts (mount_at nat_eq world place)))) [] namespace in
          let pushed = pushed_counted new true tree (folded (with_mount nat_eq) world.mounts
          (copies_at nat_eq world new (graft new true tree) parts (mount_at nat_eq world place))) namespace in
          let put : count_in (folded (with_mount nat_eq) world.mounts
          (copies_at nat_eq world new (graft new true tree) parts (mount_at nat_eq world place))) namespace
          ≡ count_in (folded (with_mount nat_eq) world.mounts (map there_now tree)) namespace =
          ap (λ list. count_in (folded (with_mount nat_eq) world.mounts list) namespace) come in
          let change = moved_counted world.mounts tree own apart within there_now keeps_number namespace in
          let here : count_in (map there_now tree) namespace
          ≡ cond (is_in namespace (mount_at nat_eq world place)) (length tree) 0 =
          count-alike there_now (mount_at nat_eq world place).namespace (λ mount. refl) tree namespace in
          let rest = rest_counted new true tree namespace others in
          let whole : count_in parts namespace * length tree ≡ cond (is_in namespace (mount_at nat_eq world place))
          (length tree) 0 + count_in others namespace * length tree =
          ap (λ n. n * length tree) (count-cons (mount_at nat_eq world place) others namespace)
          ∙ by (is_in namespace (mount_at nat_eq world place)) namespace in
          omega (arith, all, front, pushed, put, change, here, rest, whole)
        where
          by : (b : Bool) (namespace : ℕ) → (cond b 1 0 + count_in others namespace) * length tree
              ≡ cond b (length tree) 0 + count_in others namespace * length tree
          by true namespace = omega arith
          by false namespace = omega arith
