-- The tree of a mount, walked with a stack.
use Rattle.std.proofs.Common.{◌≡◌, ℕ, suc, zero, List, [], ◌∷◌, ◌++◌, map, nat_eq, length, refl, sym, ap, ◌∙◌, append_assoc, flat_map, reverse, append-nil}
use Rattle.vt_spec.proofs.Common.{Mount, children, map-append, mount_in, mount_tree, number-mount_in, reverse-append, tree_from}
use Rattle.vt_location.specs.declared.numbers.MountId.{MountId}
use Rattle.vt_location.specs.Numbers.{counted}
use Rattle.vt_mount.specs.declared.trees.Branch.{Branch}
use Rattle.vt_mount.specs.Waiting.{to_come, tree_numbers}
use Rattle.vt_mount.proofs.PlaceLemmas.{counts, numbers}

-- the numbers of lists of mounts that are put together, where each list's are known
pub flat-numbers : (f : Mount ℕ → List (Mount ℕ)) (g : ℕ → List ℕ)
    → ((mount : Mount ℕ) → numbers (f mount) ≡ g mount.number) → (all : List (Mount ℕ))
    → numbers (flat_map f all) ≡ flat_map g (numbers all)
flat-numbers f g same [] = refl
flat-numbers f g same (mount ∷ all) =
    map-append (λ mount. mount.number) (f mount) (flat_map f all) ∙ (λ i. same mount i ++ flat-numbers f g same all i)

module _ (mounts : List (Mount ℕ)) where
  numbers-tree : (depth : ℕ) (mount : Mount ℕ)
      → numbers (tree_from nat_eq depth mounts mount) ≡ tree_numbers mounts depth mount.number
  numbers-tree zero mount = refl
  numbers-tree (suc depth) mount = ap (λ l. mount.number ∷ l)
      (flat-numbers (tree_from nat_eq depth mounts) (tree_numbers mounts depth) (numbers-tree depth)
      (children nat_eq mounts mount.number))

  -- the tree of the mount with a number
  pub numbers-whole : (number : ℕ)
      → tree_numbers mounts (length mounts) number ≡ numbers (mount_tree nat_eq mounts (mount_in nat_eq mounts number))
  numbers-whole number = ap (tree_numbers mounts (length mounts)) (sym (number-mount_in mounts number))
      ∙ sym (numbers-tree (length mounts) (mount_in nat_eq mounts number))

  come-last : (waiting : List Branch) (branch : Branch)
      → to_come mounts (waiting ++ branch ∷ []) ≡ tree_numbers mounts branch.depth (counted branch.mount.count)
      ++ to_come mounts waiting
  come-last [] branch = sym (append-nil (tree_numbers mounts branch.depth (counted branch.mount.count)))
  come-last (other ∷ waiting) branch =
      ap (λ l. l ++ tree_numbers mounts other.depth (counted other.mount.count)) (come-last waiting branch)
      ∙ append_assoc (tree_numbers mounts branch.depth (counted branch.mount.count)) (to_come mounts waiting)
      (tree_numbers mounts other.depth (counted other.mount.count))

  abbrev pub branch_of : ℕ → MountId → Branch
  branch_of depth id = record { mount = id; depth = depth }

  come-reversed : (depth : ℕ) (waiting : List Branch) (ids : List MountId)
      → to_come mounts (waiting ++ map (branch_of depth) (reverse ids))
      ≡ flat_map (tree_numbers mounts depth) (counts ids) ++ to_come mounts waiting
  come-reversed depth waiting [] = ap (to_come mounts) (append-nil waiting)
  come-reversed depth waiting (id ∷ ids) =
      ap (λ l. to_come mounts (waiting ++ map (branch_of depth) l)) (reverse-append (id ∷ []) ids)
      ∙ ap (λ l. to_come mounts (waiting ++ l)) (map-append (branch_of depth) (reverse ids) (id ∷ []))
      ∙ ap (to_come mounts) (sym (append_assoc waiting (map (branch_of depth) (reverse ids)) (branch_of depth id ∷ [])))
      ∙ come-last (waiting ++ map (branch_of depth) (reverse ids)) (branch_of depth id)
      ∙ ap (λ l. tree_numbers mounts depth (counted id.count) ++ l) (come-reversed depth waiting ids)
      ∙ sym (append_assoc (tree_numbers mounts depth (counted id.count))
      (flat_map (tree_numbers mounts depth) (counts ids)) (to_come mounts waiting))

  -- the next mount comes first, then its children, then what waits
  pub next-flat : (waiting : List Branch) (next : Branch) → next.depth ≡ 0
      → to_come mounts (waiting ++ next ∷ []) ≡ counted next.mount.count ∷ to_come mounts waiting
  next-flat waiting next flat = come-last waiting next
      ∙ ap (λ depth. tree_numbers mounts depth (counted next.mount.count) ++ to_come mounts waiting) flat

  pub next-deep : (waiting : List Branch) (next : Branch) (depth : ℕ) (ids : List MountId) → next.depth ≡ suc depth
      → counts ids ≡ numbers (children nat_eq mounts (counted next.mount.count)) → to_come mounts (waiting ++ next ∷ [])
      ≡ counted next.mount.count ∷ to_come mounts (waiting ++ map (branch_of depth) (reverse ids))
  next-deep waiting next depth ids deep kids = come-last waiting next
      ∙ ap (λ depth. tree_numbers mounts depth (counted next.mount.count) ++ to_come mounts waiting) deep
      ∙ ap (λ l. counted next.mount.count ∷ flat_map (tree_numbers mounts depth) l ++ to_come mounts waiting) (sym kids)
      ∙ ap (λ l. counted next.mount.count ∷ l) (sym (come-reversed depth waiting ids))

  -- one more of the tree is told
  pub told-more : (tree : List MountId) (id : MountId) (before after : List Branch) (whole : List ℕ)
      → to_come mounts before ≡ counted id.count ∷ to_come mounts after
      → counts tree ++ to_come mounts before ≡ whole → counts (tree ++ id ∷ []) ++ to_come mounts after ≡ whole
  told-more tree id before after whole next is =
      ap (λ l. l ++ to_come mounts after) (map-append (λ id. counted id.count) tree (id ∷ []))
      ∙ append_assoc (counts tree) (counted id.count ∷ []) (to_come mounts after)
      ∙ ap (λ l. counts tree ++ l) (sym next) ∙ is

  pub told-all : (tree : List MountId) (whole : List ℕ) → counts tree ++ to_come mounts [] ≡ whole → counts tree ≡ whole
  told-all tree whole is = sym (append-nil (counts tree)) ∙ is
