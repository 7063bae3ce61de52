-- The mounts over a location on a mount of the part are those in the world.
use Rattle.std.proofs.Common.{◌≡◌, refl, sym, ap, subst, ◌∙◌, ◌⊎◌, inl, inr, ⊎_elim, ℕ, zero, suc, nat_eq, Bool, true, false, cond, true≢false, List, [], ◌∷◌, Option, Some, None, map, find, length, ◌||◌, ◌≤◌, arith, option_map, filter_map}
use Rattle.vt_spec.proofs.Common.{Among, Location, Mount, MountInvariants, Stands, Task, TaskName, World, among-filter_map, among-map, among_from_all, among_from_contains, among_from_list_all, and_parts, chain, chain_goes_on, child_at, common_steps, cons_option, found_among, found_passes, holds_of, is_at, last_of_chain, last_or, length-map, list_any, locations, members, mount_numbered, mounts_over, or_left, or_right, part_of, root_of, roots_and_directories, seen_by_descriptor, stands_at, when}
use Rattle.vt_laws_sealed.proofs.Common.{Way, chains_alike, ends, found_itself, goes_on, namespace_below, stands_there}
use Rattle.vt_laws_mounts.proofs.namespaces.Topmost.{topmost_is_free}
use Rattle.vt_laws_sealed.specs.Part.Parts.{MountsOverAreThoseOfThePart}
use Rattle.vt_laws_sealed.proofs.part.Kept.{length-filter_map}
use Rattle.vt_laws_sealed.proofs.part.part.PartOfPart.{is_own, keep, kept_how, kept_whole}

module _ (world : World ℕ) (names : List TaskName) (is : MountInvariants nat_eq world) where
  abbrev theirs : List (Task ℕ)
  theirs = members world names

  abbrev part : World ℕ
  part = part_of nat_eq world names

  abbrev kept : Mount ℕ → Option (Mount ℕ)
  kept = keep world names theirs

  -- a mount that the part has whole
  abbrev pub IsWhole : ℕ → Type 0
  IsWhole number = (mount : Mount ℕ) × Among mount world.mounts × (mount.number ≡ number) × (kept mount ≡ Some mount)
      × ((is_own world names theirs mount ≡ true) ⊎ (mount.namespace ≡ None))

  pub numbered : (mount : Mount ℕ) → Among mount world.mounts → mount_numbered nat_eq world mount.number ≡ mount
  numbered mount m = found_itself world.mounts is.one_number mount m

  pub nowhere_stands : (mount : Mount ℕ) (at : Location ℕ) → Among mount world.mounts → mount.namespace ≡ None
      → mount.mount_point ≡ Some at → ⊥
  nowhere_stands mount at m n p = grind (arith, common_steps, among_from_list_all, true≢false, and_parts)

  -- what stands on a whole mount is theirs
  child_whole : (here : Location ℕ) (child : Mount ℕ) → IsWhole here.mount → Among child world.mounts
      → stands_at nat_eq here child ≡ true → IsWhole child.number × (kept child ≡ Some child)
  child_whole here child (mount, m, number, whole, how) there stands =
      let at : child.mount_point ≡ Some here = stands_there here child stands in
      let same : child.namespace ≡ mount.namespace = sym (ap (λ (x : Mount ℕ). x.namespace) (numbered child there))
      ∙ namespace_below world child.number here
      (among_from_all (λ (x : Mount ℕ). Stands nat_eq world x.number) world.mounts is.standing child there)
      (ap (λ (x : Mount ℕ). x.mount_point) (numbered child there) ∙ at)
      ∙ ap (λ n. (mount_numbered nat_eq world n).namespace) (sym number)
      ∙ ap (λ (x : Mount ℕ). x.namespace) (numbered mount m) in
      ⊎_elim (λ own.
      let too : is_own world names theirs child ≡ true =
      ap (holds_of (λ n. list_any (λ (task : Task ℕ). nat_eq n task.namespace) theirs)) same ∙ own in
      let it : kept child ≡ Some child =
      ap (λ b. cond (b || is_at nat_eq (roots_and_directories theirs) child) (Some child)
      (when (is_at nat_eq (locations theirs) child) (seen_by_descriptor child))) too in
      ((child, there, refl, it, inl too), it)) (λ none. absurd (nowhere_stands child here there (same ∙ none) at)) how

  -- what stands at a location is the same
  module _ (here : Location ℕ) (own : IsWhole here.mount) where
    child_search : (list : List (Mount ℕ)) → ((x : Mount ℕ) → Among x list → Among x world.mounts)
        → find (stands_at nat_eq here) (filter_map kept list) ≡ find (stands_at nat_eq here) list
    child_search [] all = refl
    child_search (x ∷ rest) all = by (stands_at nat_eq here x) refl (child_search rest (λ y m. all y (inr m)))
      where
        skip : (o : Option (Mount ℕ)) → kept x ≡ o → stands_at nat_eq here x ≡ false
            → find (stands_at nat_eq here) (cons_option o (filter_map kept rest))
            ≡ find (stands_at nat_eq here) (filter_map kept rest)
        skip None e f = refl
        skip (Some y) e f = grind (arith, common_steps, kept_how)

        by : (b : Bool) → stands_at nat_eq here x ≡ b
            → find (stands_at nat_eq here) (filter_map kept rest) ≡ find (stands_at nat_eq here) rest
            → find (stands_at nat_eq here) (cons_option (kept x) (filter_map kept rest))
            ≡ cond b (Some x) (find (stands_at nat_eq here) rest)
        by true e later = ap (λ o. find (stands_at nat_eq here) (cons_option o (filter_map kept rest)))
            (child_whole here x own (all x (inl refl)) e).1
            ∙ ap (λ b. cond b (Some x) (find (stands_at nat_eq here) (filter_map kept rest))) e
        by false e later = skip (kept x) refl e ∙ later

    pub same_child : child_at nat_eq part.mounts here ≡ child_at nat_eq world.mounts here
    same_child = child_search world.mounts (λ x m. m)

  abbrev up : World ℕ → Location ℕ → Option (Location ℕ)
  up in_world here = option_map root_of (child_at nat_eq in_world.mounts here)

  -- a step is known by the child that it goes to
  abbrev key_of : Option (Mount ℕ) → ℕ
  key_of None = 0
  key_of (Some child) = suc child.number

  abbrev key : Location ℕ → ℕ
  key here = key_of (child_at nat_eq world.mounts here)

  abbrev there : List ℕ
  there = map (λ (mount : Mount ℕ). suc mount.number) part.mounts

  by_key : (a b : Location ℕ) → key a ≡ key b → up world a ≡ up world b
  by_key a b e = by (child_at nat_eq world.mounts a) (child_at nat_eq world.mounts b) refl refl e
    where
      by : (o p : Option (Mount ℕ)) → child_at nat_eq world.mounts a ≡ o → child_at nat_eq world.mounts b ≡ p
          → key_of o ≡ key_of p → option_map root_of o ≡ option_map root_of p
      by None None f g e = refl
      by None (Some d) f g e = absurd (omega (arith, e))
      by (Some c) None f g e = absurd (omega (arith, e))
      by (Some c) (Some d) f g e = cc (
        numbered c (found_among (stands_at nat_eq a) world.mounts c f),
        e,
        numbered d (found_among (stands_at nat_eq b) world.mounts d g),
      )

  way : (n : ℕ) (a : Location ℕ) → IsWhole a.mount
      → up world (last_or a (chain n (up world) a)) ≡ None → Way (up world) (up part) key there a
  way zero a own e = ends a e (ap (option_map root_of) (same_child a own) ∙ e)
  way (suc n) a own e = by (child_at nat_eq world.mounts a) refl (λ b o f. way n b o f)
    where
      by : (o : Option (Mount ℕ)) → child_at nat_eq world.mounts a ≡ o
          → ((b : Location ℕ) → IsWhole b.mount → up world (last_or b (chain n (up world) b)) ≡ None
          → Way (up world) (up part) key there b) → Way (up world) (up part) key there a
      by None f later =
          let none : up world a ≡ None = ap (option_map root_of) f in
          ends a none (ap (option_map root_of) (same_child a own) ∙ none)
      by (Some c) f later =
          let goes : up world a ≡ Some (root_of c) = ap (option_map root_of) f in
          let among = found_among (stands_at nat_eq a) world.mounts c f in
          let whole = child_whole a c own among (found_passes (stands_at nat_eq a) world.mounts c f) in
          goes_on a (root_of c) goes (ap (option_map root_of) (same_child a own) ∙ goes)
          (subst (λ k. Among k there) (sym (ap key_of f)) (among-map _ _ c (among-filter_map kept world.mounts c c among
          whole.1))) (later (root_of c) whole.0 (sym (ap (up world) (ap (last_or a)
          (chain_goes_on (up world) n a (root_of c) goes) ∙ last_of_chain (up world) n (root_of c) a)) ∙ e))

  -- the mounts over a location on a whole mount
  pub same_over : (here : Location ℕ) → IsWhole here.mount
      → mounts_over nat_eq part.mounts here ≡ mounts_over nat_eq world.mounts here
  same_over here own =
      let size : length there ≡ length part.mounts = length-map part.mounts (λ (mount : Mount ℕ). suc mount.number) in
      let less : length part.mounts ≤ length world.mounts = length-filter_map kept world.mounts in
      sym (chains_alike _ (up part) key there by_key _ _ here (way (length world.mounts) here own
      (ap (option_map root_of) (topmost_is_free world here is))) (omega (arith, size, less)) (omega (arith, size)))

pub mounts_over_are_those_of_the_part : MountsOverAreThoseOfThePart
mounts_over_are_those_of_the_part world names mount here is there on stands =
    grind (arith, common_steps, among_from_contains, same_over, kept_whole, or_left, is_own, or_right)
