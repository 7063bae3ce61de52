-- What stands where once mounts are gone, as code finds it out.
use Rattle.std.proofs.Common.{◌≡◌, ◌<◌, ◌≤◌, ◌+◌, refl, sym, ap, ◌∙◌, arith, ℕ, suc, zero, nat_eq, Bool, true, false, true≢false, ◌&&◌, List, [], ◌∷◌, drop, get_or, length, Option, None, Some, is_some, option_map, inl, inr, if◌then◌else◌}
use Rattle.vt_spec.proofs.Common.{Among, Location, Mount, among-from_filter, child_at, children, common_steps, drop_all, drop_more, holds_of, is_going, list_all, root_of, same_Some, stands_at, stands_on, then_some, when}
use Rattle.vt_location.specs.declared.numbers.MountId.{MountId}
use Rattle.vt_location.specs.Numbers.{counted}
use Rattle.vt_mount.specs.MountsValue.{are_ascending}
use Rattle.vt_propagate.specs.Through.{free_at_then, is_free_by_number, is_free_then, over_from, rests_on_root, standing_over}
use Rattle.vt_propagate.proofs.Found.{counts, numbered, numbered_among}
use Rattle.vt_propagate.proofs.Leaving.{numbered-number}
use Rattle.vt_laws_mounts.proofs.letting_go.Lists.{found_in}
use Rattle.vt_laws_mounts.specs.Mounts.Attaching.{numbers_of}

module _ (mounts : List (Mount ℕ)) (gone : List ℕ) where
  abbrev found_number : Location ℕ → Option ℕ
  found_number place = option_map (λ (m : Mount ℕ). m.number) (child_at nat_eq mounts place)

  abbrev up_from : ℕ → Mount ℕ → Option ℕ
  up_from most child =
      if is_going nat_eq gone child.number then over_from most mounts gone (root_of child) else Some child.number

  -- where no mount stands at a place none is over it
  pub over_none : (most : ℕ) (place : Location ℕ) → None ≡ found_number place
      → None ≡ over_from (suc most) mounts gone place
  over_none most place none = grind (arith, common_steps)

  -- one that stands there and stays is over it
  pub over_here : (most : ℕ) (place : Location ℕ) {number : ℕ} → Some number ≡ found_number place
      → is_going nat_eq gone number ≡ false → Some number ≡ over_from (suc most) mounts gone place
  over_here most place {number} some stays = grind (arith, common_steps, same_Some)

  module _ (up : are_ascending mounts ≡ true) where
    found_child : (place : Location ℕ) {child : Mount ℕ} → child_at nat_eq mounts place ≡ Some child
        → numbered mounts child.number ≡ Some child
    found_child place {child} e = numbered_among mounts up child (found_in (stands_at nat_eq place) mounts child e).0

    -- through one that goes is looked at what stands on its root
    pub over_next : (most : ℕ) (place : Location ℕ) {number : ℕ} {mount : Mount ℕ} → Some number ≡ found_number place
        → is_going nat_eq gone number ≡ true → Some mount ≡ numbered mounts number
        → over_from (suc most) mounts gone place ≡ over_from most mounts gone (root_of mount)
    over_next most place {number} {mount} some goes found = by (child_at nat_eq mounts place) refl some
      where
        by : (o : Option (Mount ℕ)) → child_at nat_eq mounts place ≡ o
            → Some number ≡ option_map (λ (m : Mount ℕ). m.number) o
            → then_some o (up_from most) ≡ over_from most mounts gone (root_of mount)
        by None f e = absurd (true≢false (ap is_some e))
        by (Some child) f e =
            let same : number ≡ child.number = same_Some number child.number e in
            let it : mount ≡ child =
            same_Some mount child (found ∙ ap (numbered mounts) same ∙ found_child place f) in
            ap (λ b. if b then over_from most mounts gone (root_of child) else Some child.number)
            (ap (is_going nat_eq gone) (sym same) ∙ goes) ∙ ap (λ m. over_from most mounts gone (root_of m)) (sym it)

    -- what stands at a place is a mount
    pub over_lost : (place : Location ℕ) {number : ℕ} → Some number ≡ found_number place
        → None ≡ numbered mounts number → ⊥
    over_lost place {number} some none = by (child_at nat_eq mounts place) refl some
      where
        by : (o : Option (Mount ℕ)) → child_at nat_eq mounts place ≡ o
            → Some number ≡ option_map (λ (m : Mount ℕ). m.number) o → ⊥
        by None f e = true≢false (ap is_some e)
        by (Some child) f e = true≢false (sym (ap is_some (none ∙ ap (numbered mounts) (same_Some number child.number e)
            ∙ found_child place f)))

    -- all mounts of some, by their numbers
    all_numbered : (test : Mount ℕ → Bool) (some : List (Mount ℕ))
        → ((mount : Mount ℕ) → Among mount some → Among mount mounts)
        → list_all (λ n. holds_of test (numbered mounts n)) (numbers_of some) ≡ list_all test some
    all_numbered test [] within = refl
    all_numbered test (mount ∷ some) within =
        λ i. holds_of test (numbered_among mounts up mount (within mount (inl refl)) i)
        && all_numbered test some (λ x m. within x (inr m)) i

    -- a mount is free where all that stand on it rest on its root
    pub free_if_all : (number : ℕ) {mount : Mount ℕ} → Some mount ≡ numbered mounts number → {kids : List ℕ}
        → kids ≡ numbers_of (children nat_eq mounts number)
        → list_all (λ n. holds_of (rests_on_root mounts gone mount) (numbered mounts n)) kids
        ≡ is_free_by_number mounts gone number
    free_if_all number {mount} found are =
        ap (list_all (λ n. holds_of (rests_on_root mounts gone mount) (numbered mounts n)))
        (are ∙ ap (λ n. numbers_of (children nat_eq mounts n)) (numbered-number mounts number mount found))
        ∙ all_numbered (rests_on_root mounts gone mount) (children nat_eq mounts mount.number)
        (λ x m. (among-from_filter (stands_on nat_eq mount.number) mounts x m).0)
        ∙ ap (holds_of (is_free_then mounts gone)) found

    abbrev Known : ℕ → Type 0
    Known number = (mount : Mount ℕ) × (Some mount ≡ numbered mounts number)

    -- what is over a place is a mount
    over_known : (most : ℕ) (place : Location ℕ) {number : ℕ} → Some number ≡ over_from most mounts gone place
        → Known number
    over_known zero place is = absurd (true≢false (ap is_some is))
    over_known (suc most) place {number} is =
        by (λ at e. over_known most at e) (child_at nat_eq mounts place) refl is
      where
        stays : (child : Mount ℕ) → child_at nat_eq mounts place ≡ Some child
            → ((at : Location ℕ) → Some number ≡ over_from most mounts gone at → Known number) → (b : Bool)
            → Some number ≡ (if b then over_from most mounts gone (root_of child) else Some child.number)
            → Known number
        stays child f again true e = again (root_of child) e
        stays child f again false e =
            (child, sym (ap (numbered mounts) (same_Some number child.number e) ∙ found_child place f))

        by : ((at : Location ℕ) → Some number ≡ over_from most mounts gone at → Known number)
            → (o : Option (Mount ℕ)) → child_at nat_eq mounts place ≡ o → Some number ≡ then_some o (up_from most)
            → Known number
        by again None f e = absurd (true≢false (ap is_some e))
        by again (Some child) f e = stays child f again (is_going nat_eq gone child.number) e

    -- it is free where none stands on it
    pub over_childless : (place : Location ℕ) {number : ℕ} → Some number ≡ standing_over mounts gone place
        → (ids : List MountId) → counts ids ≡ numbers_of (children nat_eq mounts number) → length ids ≡ 0
        → Some number ≡ free_at_then mounts gone place
    over_childless place {number} over ids on none =
        let known = over_known (length mounts) place over in
        ap (λ b. when b number) (free ids on none
        ∙ free_if_all number known.1 on) ∙ ap (λ o. then_some o (λ n. when (is_free_by_number mounts gone n) n)) over
      where
        free : (ids : List MountId) → counts ids ≡ numbers_of (children nat_eq mounts number) → length ids ≡ 0
            → true ≡ list_all (λ n. holds_of (rests_on_root mounts gone
            (over_known (length mounts) place over).0) (numbered mounts n)) (counts ids)
        free [] on none = refl
        free (id ∷ ids) on none = absurd (omega (arith, none))

-- the children of a mount rest on its root, so far as they were looked at
module _ (mounts : List (Mount ℕ)) (gone : List ℕ) (mount : Mount ℕ) (kids : List MountId) (i : ℕ) where
  abbrev rests : ℕ → Bool
  rests number = holds_of (rests_on_root mounts gone mount) (numbered mounts number)

  -- where one does not rest on it not all do
  pub one_does_not : (default : MountId) → i < length kids → rests (counted (get_or kids i default).count) ≡ false
      → list_all rests (counts (drop i kids)) ≡ list_all rests (counts kids) → false ≡ list_all rests (counts kids)
  one_does_not default less fails sofar = sym (ap (λ list. list_all rests (counts list)) (drop_more kids i default less)
      ∙ ap (λ b. b && list_all rests (counts (drop (i + 1) kids))) fails) ∙ sofar

  -- where all were looked at all do
  pub all_rest : length kids ≤ i → list_all rests (counts (drop i kids)) ≡ list_all rests (counts kids)
      → true ≡ list_all rests (counts kids)
  all_rest all sofar = sym (ap (λ list. list_all rests (counts list)) (drop_all i kids all)) ∙ sofar
