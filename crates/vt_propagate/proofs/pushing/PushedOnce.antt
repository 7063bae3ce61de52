-- The mounts that move onto copied trees are there, and each moves once.
use Rattle.std.proofs.Common.{◌≡◌, refl, sym, ap, subst, ◌∙◌, ⊎_elim, inl, inr, true≢false, ℕ, nat_eq, eq-eqb, Bool, true, false, ◌||◌, List, [], ◌∷◌, map, take, drop, Option, None, Some, option_map, if◌then◌else◌, eqb-true, ne_eqb}
use Rattle.vt_spec.proofs.Common.{Among, Location, Mount, among-map, and_parts, any_pair, child_at, cons_option, holds_of, is_among, is_among_numbers, list_all_from_among, list_any, none_among, none_from_among, none_is_some, or_parts, same_Some, same_location, stands_at, then_some, top_of_copies}
use Rattle.vt_mount.specs.MountsValue.{are_ascending}
use Rattle.vt_propagate.specs.Pushing.{MovesOnce, pushed_at, pushes_from, stander}
use Rattle.vt_propagate.proofs.Found.{numbered, numbered_among}
use Rattle.vt_laws_mounts.proofs.letting_go.Lists.{found_in}
use Rattle.vt_laws_mounts.specs.Mounts.Attaching.{OneNumberAMount}

module _ (mounts : List (Mount ℕ)) (up : are_ascending mounts ≡ true) (left : Option ℕ) (place : Location ℕ) where
  abbrev at : ℕ → Location ℕ
  at part = record { mount = part; node = place.node }

  abbrev Point : Type 0
  Point = ℕ × Location ℕ

  -- a mount of this number stands at a part
  record IsPushed (part number : ℕ) : Type 0 where
    child : Mount ℕ
    there : Among child mounts
    stands : stands_at nat_eq (at part) child ≡ true
    number_is : child.number ≡ number

  one_pushed : (part : ℕ) (copies : List (Mount ℕ)) {point : Point}
      → pushed_at mounts left place part copies ≡ Some point → IsPushed part point.0
  one_pushed part copies {point} = by (nat_eq part place.mount)
    where
      stays : (child : Mount ℕ) → child_at nat_eq mounts (at part) ≡ Some child → (b : Bool)
          → option_map (λ (n : ℕ). (n, top_of_copies nat_eq copies place)) (if b then None else Some child.number)
          ≡ Some point → IsPushed part point.0
      stays child f true e = none_is_some point e
      stays child f false e =
          let found = found_in (stands_at nat_eq (at part)) mounts child f in
          record {
            child = child;
            there = found.0;
            stands = found.1;
            number_is = ap (λ (p : Point). p.0) (same_Some _ point e);
          }

      from : (o : Option (Mount ℕ)) → child_at nat_eq mounts (at part) ≡ o
          → option_map (λ (n : ℕ). (n, top_of_copies nat_eq copies place))
          (then_some (option_map (λ (child : Mount ℕ). child.number) o)
          (λ n. if holds_of (nat_eq n) left then None else Some n)) ≡ Some point → IsPushed part point.0
      from None f e = none_is_some point e
      from (Some child) f e = stays child f (holds_of (nat_eq child.number) left) e

      by : (b : Bool) → (if b then None
          else option_map (λ (n : ℕ). (n, top_of_copies nat_eq copies place)) (stander mounts left (at part)))
          ≡ Some point → IsPushed part point.0
      by true e = none_is_some point e
      by false e = from (child_at nat_eq mounts (at part)) refl e

  abbrev ComesFrom : List (Mount ℕ) → Point → Type 0
  ComesFrom parts point = (part : Mount ℕ) × Among part parts × IsPushed part.number point.0

  pushed_from : (size : ℕ) (parts copies : List (Mount ℕ)) (point : Point)
      → Among point (pushes_from mounts left place size parts copies) → ComesFrom parts point
  pushed_from size [] copies point m = absurd m
  pushed_from size (part ∷ parts) copies point m = by (pushed_at mounts left place part.number (take size copies)) refl
      (pushed_from size parts (drop size copies) point) m
    where
      by : (o : Option Point) → pushed_at mounts left place part.number (take size copies) ≡ o
          → (Among point (pushes_from mounts left place size parts (drop size copies)) → ComesFrom parts point)
          → Among point (cons_option o (pushes_from mounts left place size parts (drop size copies)))
          → ComesFrom (part ∷ parts) point
      by None e again n = let later = again n in (later.0, inr later.1, later.2)
      by (Some first) e again n = ⊎_elim (λ same. (
        part,
        inl refl,
        subst (λ (x : Point). IsPushed part.number x.0) (sym same)
            (one_pushed part.number (take size copies) e),
      )) (λ l. let later = again l in (later.0, inr later.1, later.2)) n

  -- one mount stands at one part
  same_part : (p q : ℕ) (o : Option (Location ℕ)) → holds_of (same_location nat_eq (at p)) o ≡ true
      → holds_of (same_location nat_eq (at q)) o ≡ true → p ≡ q
  same_part p q None e f = absurd (true≢false (sym e))
  same_part p q (Some x) e f = eqb-true p x.mount (and_parts (nat_eq p x.mount) _ e).0
      ∙ sym (eqb-true q x.mount (and_parts (nat_eq q x.mount) _ f).0)

  one_part : {p q number : ℕ} → IsPushed p number → IsPushed q number → p ≡ q
  one_part {p} {q} one two =
      let same : one.child ≡ two.child = same_Some one.child two.child
      (sym (numbered_among mounts up one.child one.there) ∙ ap (numbered mounts) (one.number_is ∙ sym two.number_is)
      ∙ numbered_among mounts up two.child two.there) in
      same_part p q two.child.mount_point (ap (stands_at nat_eq (at p)) (sym same) ∙ one.stands) two.stands

  each_once : (size : ℕ) (parts copies : List (Mount ℕ)) → OneNumberAMount parts
      → any_pair (λ (a b : Point). nat_eq a.0 b.0) (pushes_from mounts left place size parts copies) ≡ false
  each_once size [] copies apart = refl
  each_once size (part ∷ parts) copies apart = by (pushed_at mounts left place part.number (take size copies)) refl
      (each_once size parts (drop size copies) split.1)
    where
      split : (list_any (λ (b : Mount ℕ). nat_eq part.number b.number) parts ≡ false) × OneNumberAMount parts
      split = or_parts (list_any (λ (b : Mount ℕ). nat_eq part.number b.number) parts) _ apart

      rest : List Point
      rest = pushes_from mounts left place size parts (drop size copies)

      differ : (first : Point) → pushed_at mounts left place part.number (take size copies) ≡ Some first
          → (point : Point) → Among point rest → nat_eq first.0 point.0 ≡ false
      differ first e point m =
          let from = pushed_from size parts (drop size copies) point m in
          ne_eqb first.0 point.0 (λ same.
          true≢false (sym (eq-eqb part.number from.0.number (one_part
          (subst (IsPushed part.number) same (one_pushed part.number (take size copies) e)) from.2))
          ∙ none_among (λ (b : Mount ℕ). nat_eq part.number b.number) parts split.0 from.0 from.1))

      by : (o : Option Point) → pushed_at mounts left place part.number (take size copies) ≡ o
          → any_pair (λ (a b : Point). nat_eq a.0 b.0) rest ≡ false
          → any_pair (λ (a b : Point). nat_eq a.0 b.0) (cons_option o rest) ≡ false
      by None e later = later
      by (Some first) e later =
          λ i. none_from_among (λ (b : Point). nat_eq first.0 b.0) rest (differ first e) i || later i

  -- no mount is pushed twice
  pub pushed_once : (size : ℕ) (parts copies : List (Mount ℕ)) → OneNumberAMount parts
      → MovesOnce mounts (pushes_from mounts left place size parts copies)
  pushed_once size parts copies apart = record {
    once = each_once size parts copies apart;
    there = list_all_from_among (λ (point : Point). is_among nat_eq point.0
        (map (λ (mount : Mount ℕ). mount.number) mounts)) (pushes_from mounts left place size parts copies) (λ point m.
        let from = pushed_from size parts copies point m in
        subst (λ n. is_among nat_eq n (map (λ (mount : Mount ℕ). mount.number) mounts) ≡ true) from.2.number_is
        (is_among_numbers (map (λ (mount : Mount ℕ). mount.number) mounts) from.2.child.number
        (among-map (λ (mount : Mount ℕ). mount.number) mounts from.2.child from.2.there)));
  }
