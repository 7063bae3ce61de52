-- The mounts that a recursive bind copies, walked with a stack.
use Rattle.std.proofs.Common.{◌≡◌, refl, sym, ap, ◌∙◌, inl, inr, ℕ, suc, zero, nat_eq, Bool, true, false, cond, not, ◌&&◌, List, [], ◌∷◌, ◌++◌, map, filter, append_assoc, flat_map, reverse, append-nil}
use Rattle.vt_spec.proofs.Common.{Among, Mount, among-from_filter, any_pair, bindable_children, bindable_tree, children, is_unbindable, map-append, mount_in, reverse-append, stands_on}
use Rattle.vt_location.specs.declared.numbers.MountId.{MountId}
use Rattle.vt_ns.proofs.Common.{counted, counts, numbers}
use Rattle.vt_laws_mounts.proofs.mounts.MountsReplaced.{found_itself}
use Rattle.vt_ns.specs.declared.trees.Branch.{Branch}
use Rattle.vt_ns.specs.Trees.{bindable_numbers, bindable_to_come}
use Rattle.vt_mount.proofs.TreeLemmas.{flat-numbers}

-- numbers that pass a test, and mounts with these numbers that pass another
filtered_alike : (p : MountId → Bool) (q : Mount ℕ → Bool) (ids : List MountId) (mounts : List (Mount ℕ))
    → counts ids ≡ numbers mounts
    → ((id : MountId) (mount : Mount ℕ) → Among mount mounts → counted id.count ≡ mount.number → p id ≡ q mount)
    → counts (filter p ids) ≡ numbers (filter q mounts)
filtered_alike p q [] [] same agree = refl
filtered_alike p q [] (mount ∷ mounts) same agree = absurd cc
filtered_alike p q (id ∷ ids) [] same agree = absurd cc
filtered_alike p q (id ∷ ids) (mount ∷ mounts) same agree =
    let heads : counted id.count ≡ mount.number = cc in
    let tails : counts ids ≡ numbers mounts = cc in
    ap (λ b. counts (cond b (id ∷ filter p ids) (filter p ids))) (agree id mount (inl refl) heads)
    ∙ by (q mount) heads (filtered_alike p q ids mounts tails (λ other one m. agree other one (inr m)))
  where
    by : (b : Bool) → counted id.count ≡ mount.number → counts (filter p ids) ≡ numbers (filter q mounts)
        → counts (cond b (id ∷ filter p ids) (filter p ids))
        ≡ numbers (cond b (mount ∷ filter q mounts) (filter q mounts))
    by true head tail = λ i. head i ∷ tail i
    by false head tail = tail

filter_reverse : {A : Type 0} (p : A → Bool) (xs : List A) → filter p (reverse xs) ≡ reverse (filter p xs)
filter_reverse p [] = refl
filter_reverse {A} p (x ∷ xs) = ap (filter p) (reverse-append (x ∷ []) xs) ∙ filter_append (reverse xs) (x ∷ [])
    ∙ ap (λ l. l ++ filter p (x ∷ [])) (filter_reverse p xs) ∙ by (p x)
  where
    filter_append : (one other : List A) → filter p (one ++ other) ≡ filter p one ++ filter p other
    filter_append [] other = refl
    filter_append (a ∷ one) other = first (p a) (filter_append one other)
      where
        first : (b : Bool) → filter p (one ++ other) ≡ filter p one ++ filter p other
            → cond b (a ∷ filter p (one ++ other)) (filter p (one ++ other)) ≡ cond b (a ∷ filter p one) (filter p one)
            ++ filter p other
        first true later = ap (λ l. a ∷ l) later
        first false later = later

    by : (b : Bool) → reverse (filter p xs) ++ cond b (x ∷ []) [] ≡ reverse (cond b (x ∷ filter p xs) (filter p xs))
    by true = sym (reverse-append (x ∷ []) (filter p xs))
    by false = append-nil (reverse (filter p xs))

-- a mount that is still to be taken, and how deep it may go on
abbrev pub branch_of : ℕ → MountId → Branch
branch_of depth id = record { mount = id; depth = depth }

module _ (mounts : List (Mount ℕ)) where
  -- the numbers of a tree without unbindable mounts are those that code lists
  pub numbers-bindable : (depth : ℕ) (mount : Mount ℕ)
      → numbers (bindable_tree nat_eq depth mounts mount) ≡ bindable_numbers mounts depth mount.number
  numbers-bindable zero mount = refl
  numbers-bindable (suc depth) mount = ap (λ l. mount.number ∷ l)
      (flat-numbers (bindable_tree nat_eq depth mounts) (bindable_numbers mounts depth) (numbers-bindable depth)
      (bindable_children nat_eq mounts mount.number))

  come-last : (waiting : List Branch) (branch : Branch) → bindable_to_come mounts (waiting ++ branch ∷ [])
      ≡ bindable_numbers mounts branch.depth (counted branch.mount.count) ++ bindable_to_come mounts waiting
  come-last [] branch = sym (append-nil (bindable_numbers mounts branch.depth (counted branch.mount.count)))
  come-last (other ∷ waiting) branch =
      ap (λ l. l ++ bindable_numbers mounts other.depth (counted other.mount.count)) (come-last waiting branch)
      ∙ append_assoc (bindable_numbers mounts branch.depth (counted branch.mount.count))
      (bindable_to_come mounts waiting) (bindable_numbers mounts other.depth (counted other.mount.count))

  come-reversed : (depth : ℕ) (waiting : List Branch) (ids : List MountId)
      → bindable_to_come mounts (waiting ++ map (branch_of depth) (reverse ids))
      ≡ flat_map (bindable_numbers mounts depth) (counts ids) ++ bindable_to_come mounts waiting
  come-reversed depth waiting [] = ap (bindable_to_come mounts) (append-nil waiting)
  come-reversed depth waiting (id ∷ ids) =
      ap (λ l. bindable_to_come mounts (waiting ++ map (branch_of depth) l)) (reverse-append (id ∷ []) ids)
      ∙ ap (λ l. bindable_to_come mounts (waiting ++ l)) (map-append (branch_of depth) (reverse ids) (id ∷ []))
      ∙ ap (bindable_to_come mounts)
      (sym (append_assoc waiting (map (branch_of depth) (reverse ids)) (branch_of depth id ∷ [])))
      ∙ come-last (waiting ++ map (branch_of depth) (reverse ids)) (branch_of depth id)
      ∙ ap (λ l. bindable_numbers mounts depth (counted id.count) ++ l) (come-reversed depth waiting ids)
      ∙ sym (append_assoc (bindable_numbers mounts depth (counted id.count))
      (flat_map (bindable_numbers mounts depth) (counts ids)) (bindable_to_come mounts waiting))

  -- what is chosen of some children comes first
  pub chosen-come : (depth : ℕ) (waiting : List Branch) (p : MountId → Bool) (ids : List MountId)
      (chosen : List (Mount ℕ)) → counts (filter p ids) ≡ numbers chosen
      → bindable_to_come mounts (waiting ++ map (branch_of depth) (filter p (reverse ids)))
      ≡ numbers (flat_map (bindable_tree nat_eq depth mounts) chosen) ++ bindable_to_come mounts waiting
  chosen-come depth waiting p ids chosen same =
      ap (λ l. bindable_to_come mounts (waiting ++ map (branch_of depth) l)) (filter_reverse p ids)
      ∙ come-reversed depth waiting (filter p ids)
      ∙ ap (λ l. flat_map (bindable_numbers mounts depth) l ++ bindable_to_come mounts waiting) same
      ∙ ap (λ l. l ++ bindable_to_come mounts waiting)
      (sym (flat-numbers (bindable_tree nat_eq depth mounts) (bindable_numbers mounts depth)
      (numbers-bindable depth) chosen))

  -- the next mount comes first, then its children, then what waits
  pub next-flat : (waiting : List Branch) (next : Branch) → next.depth ≡ 0
      → bindable_to_come mounts (waiting ++ next ∷ []) ≡ counted next.mount.count ∷ bindable_to_come mounts waiting
  next-flat waiting next flat =
      come-last waiting next ∙ ap (λ depth. bindable_numbers mounts depth (counted next.mount.count)
      ++ bindable_to_come mounts waiting) flat

  -- one branch more is taken, with those that stand on it
  pub next-deep : (waiting : List Branch) (next : Branch) (depth : ℕ) (p : MountId → Bool) (ids : List MountId)
      → next.depth ≡ suc depth
      → counts (filter p ids) ≡ numbers (bindable_children nat_eq mounts (counted next.mount.count))
      → bindable_to_come mounts (waiting ++ next ∷ [])
      ≡ counted next.mount.count ∷ bindable_to_come mounts (waiting ++ map (branch_of depth) (filter p (reverse ids)))
  next-deep waiting next depth p ids deep kids = come-last waiting next
      ∙ ap (λ depth. bindable_numbers mounts depth (counted next.mount.count) ++ bindable_to_come mounts waiting) deep
      ∙ ap (λ l. counted next.mount.count ∷ l) (ap (λ l. l ++ bindable_to_come mounts waiting)
      (sym (flat-numbers (bindable_tree nat_eq depth mounts) (bindable_numbers mounts depth) (numbers-bindable depth)
      (bindable_children nat_eq mounts (counted next.mount.count))))
      ∙ sym (chosen-come depth waiting p ids (bindable_children nat_eq mounts (counted next.mount.count)) kids))

-- one more of the tree is told
pub told-more : (tree : List MountId) (id : MountId) (mounts : List (Mount ℕ)) (before after : List Branch)
    (whole : List ℕ) → bindable_to_come mounts before ≡ counted id.count ∷ bindable_to_come mounts after
    → counts tree ++ bindable_to_come mounts before ≡ whole
    → counts (tree ++ id ∷ []) ++ bindable_to_come mounts after ≡ whole
told-more tree id mounts before after whole next is =
    ap (λ l. l ++ bindable_to_come mounts after) (map-append (λ id. counted id.count) tree (id ∷ []))
    ∙ append_assoc (counts tree) (counted id.count ∷ []) (bindable_to_come mounts after)
    ∙ ap (λ l. counts tree ++ l) (sym next) ∙ is

-- at last the list has the whole tree
pub told-all : (tree : List MountId) (whole : List ℕ) → counts tree ++ [] ≡ whole → counts tree ≡ whole
told-all tree whole is = sym (append-nil (counts tree)) ∙ is

-- The children that a bind copies, by their numbers

-- a mount that may be bound
abbrev pub bindable : List (Mount ℕ) → MountId → Bool
bindable mounts id = not (is_unbindable (mount_in nat_eq mounts (counted id.count)).propagation)

module _ (mounts : List (Mount ℕ)) (one : any_pair (λ (a b : Mount ℕ). nat_eq a.number b.number) mounts ≡ false)
    (number : ℕ) (ids : List MountId) (kids : counts ids ≡ numbers (children nat_eq mounts number)) where
  child_is : (id : MountId) (mount : Mount ℕ) → Among mount (children nat_eq mounts number)
      → counted id.count ≡ mount.number → mount_in nat_eq mounts (counted id.count) ≡ mount
  child_is id mount m same = ap (mount_in nat_eq mounts) same
      ∙ found_itself mounts one mount (among-from_filter (stands_on nat_eq number) mounts mount m).0

  -- the children that code keeps are those that may be bound
  pub bindable_kids : counts (filter (bindable mounts) ids) ≡ numbers (bindable_children nat_eq mounts number)
  bindable_kids = filtered_alike (bindable mounts) (λ mount. not (is_unbindable mount.propagation)) ids
      (children nat_eq mounts number) kids
      (λ id mount m same. ap (λ (x : Mount ℕ). not (is_unbindable x.propagation)) (child_is id mount m same))

  -- and those of them under the source
  pub bound_kids : (under : Mount ℕ → Bool)
      → counts (filter (λ id. bindable mounts id && under (mount_in nat_eq mounts (counted id.count))) ids)
      ≡ numbers (filter under (bindable_children nat_eq mounts number))
  bound_kids under = filtered_alike (λ id. bindable mounts id && under (mount_in nat_eq mounts (counted id.count)))
      (λ mount. not (is_unbindable mount.propagation) && under mount) ids (children nat_eq mounts number) kids
      (λ id mount m same. ap (λ (x : Mount ℕ). not (is_unbindable x.propagation) && under x) (child_is id mount m same))
      ∙ ap numbers (sym (filter_twice (children nat_eq mounts number)))
    where
      filter_twice : (list : List (Mount ℕ))
          → filter under (filter (λ mount. not (is_unbindable mount.propagation)) list)
          ≡ filter (λ mount. not (is_unbindable mount.propagation) && under mount) list
      filter_twice [] = refl
      filter_twice (mount ∷ list) = by (not (is_unbindable mount.propagation)) (under mount) refl (filter_twice list)
        where
          by : (b c : Bool) → under mount ≡ c
              → filter under (filter (λ mount. not (is_unbindable mount.propagation)) list)
              ≡ filter (λ mount. not (is_unbindable mount.propagation) && under mount) list
              → filter under (cond b (mount ∷ filter (λ mount. not (is_unbindable mount.propagation)) list)
              (filter (λ mount. not (is_unbindable mount.propagation)) list)) ≡ cond (b && under mount) (mount
              ∷ filter (λ mount. not (is_unbindable mount.propagation) && under mount) list)
              (filter (λ mount. not (is_unbindable mount.propagation) && under mount) list)
          by true true e later = (λ i. cond (e i) (mount ∷ later i) (later i)) ∙ (λ i. cond (sym e i) (mount ∷ filter
              (λ mount. not (is_unbindable mount.propagation) && under mount) list)
              (filter (λ mount. not (is_unbindable mount.propagation) && under mount) list))
          by true false e later = (λ i. cond (e i) (mount ∷ later i) (later i)) ∙ (λ i. cond (sym e i) (mount ∷ filter
              (λ mount. not (is_unbindable mount.propagation) && under mount) list)
              (filter (λ mount. not (is_unbindable mount.propagation) && under mount) list))
          by false c e later = later
