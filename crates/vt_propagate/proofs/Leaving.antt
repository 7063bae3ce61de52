-- Which mounts an unmount detaches, by their numbers.
use Rattle.std.proofs.Common.{◌≡◌, ℕ, Bool, true, false, cond, ◌||◌, List, [], ◌∷◌, filter, length, nat_eq, nat_lt, Option, None, Some, option_map, is_some, refl, sym, ap, ◌∙◌, arith, true≢false, eq-eqb, ◌+◌, ◌*◌, find, filter_map, if◌then◌else◌, unwrap_or, eqb-true}
use Rattle.vt_spec.proofs.Common.{Location, Mount, World, and_parts, any_among, any_from_among, child_at, children, common_steps, cons_option, goes_at, going, going_at, holds_of, is_busy, is_shared, is_used, length-map, list_any, mount_numbered, no_mount, only_cover, receivers, receivers_of, root_of, same_Some, stands_at, stands_on, then_some, when}
use Rattle.vt_spec.specs.Machine.Detach.{covers_root}
use Rattle.vt_group.specs.Grouping.{Grouping}
use Rattle.vt_location.specs.declared.numbers.MountId.{MountId}
use Rattle.vt_mount.specs.MountsValue.{MountEntry, are_ascending, mounts_in, uses_of}
use Rattle.vt_propagate.specs.Going.{CountsUses, free_at, free_on, group_at, is_free, shared_point}
use Rattle.vt_propagate.specs.Seen.{IsSeen}
use Rattle.vt_propagate.proofs.Found.{counts, numbered, numbered_among}
use Rattle.vt_laws_mounts.proofs.letting_go.Lists.{found_in}
use Rattle.vt_laws_mounts.specs.Mounts.Attaching.{numbers_of}

-- Lists

module _ {A : Type 0} where
  -- the first that passes is the first of those that pass a weaker test
  pub find-filter : (q p : A → Bool) → ((x : A) → q x ≡ true → p x ≡ true) → (xs : List A)
      → find q xs ≡ find q (filter p xs)
  find-filter q p weaker [] = refl
  find-filter q p weaker (y ∷ ys) = grind (arith, common_steps, find-filter q p weaker ys)

-- options that are seen as one are both there or both not
pub is_some-same : {A B : Type 0} (f : A → ℕ) (g : B → ℕ) (a : Option A) (b : Option B)
    → option_map f a ≡ option_map g b → is_some a ≡ is_some b
is_some-same f g None None e = refl
is_some-same f g None (Some b) e = ap is_some e
is_some-same f g (Some a) None e = ap is_some e
is_some-same f g (Some a) (Some b) e = refl

-- Mounts that may go

at_on : (place : Location ℕ) (mount : Mount ℕ) → stands_at nat_eq place mount ≡ true
    → stands_on nat_eq place.mount mount ≡ true
at_on place mount h = grind (arith, common_steps, and_parts)

-- a mount that is found by its number has it
pub numbered-number : (mounts : List (Mount ℕ)) (number : ℕ) (mount : Mount ℕ) → Some mount ≡ numbered mounts number
    → number ≡ mount.number
numbered-number mounts number mount found =
    eqb-true number mount.number (found_in (λ (m : Mount ℕ). nat_eq number m.number) mounts mount (sym found)).1

module _ (mounts : List (Mount ℕ)) (number : ℕ) {mount : Mount ℕ} (found : Some mount ≡ numbered mounts number)
    (ids : List MountId) (told : counts ids ≡ numbers_of (children nat_eq mounts number)) where
  length-kids : length ids ≡ length (children nat_eq mounts mount.number)
  length-kids = sym (length-map ids (λ (id : MountId). 4 * id.count + 1)) ∙ ap length told
      ∙ length-map (children nat_eq mounts number) (λ (m : Mount ℕ). m.number)
      ∙ ap (λ n. length (children nat_eq mounts n)) (numbered-number mounts number mount found)

  -- a mount on which none stands is free
  pub free-none : length ids ≡ 0 → true ≡ holds_of (is_free mounts) (numbered mounts number)
  free-none none = by (children nat_eq mounts mount.number) (sym length-kids ∙ none)
      ∙ ap (holds_of (is_free mounts)) found
    where
      by : (kids : List (Mount ℕ)) → length kids ≡ 0 → true ≡ only_cover nat_eq mount kids
      by [] e = refl
      by (kid ∷ kids) e = absurd (omega (arith, e))

  -- one on which just one mount stands is free where that covers its root
  pub free-one : length ids ≡ 1 → is_some (child_at nat_eq mounts (root_of mount))
      ≡ holds_of (is_free mounts) (numbered mounts number)
  free-one one = ap is_some (find-filter (stands_at nat_eq (root_of mount)) (stands_on nat_eq mount.number)
      (at_on (root_of mount)) mounts)
      ∙ by (children nat_eq mounts mount.number) (sym length-kids ∙ one) ∙ ap (holds_of (is_free mounts)) found
    where
      covers : (b : Bool) (kid : Mount ℕ) → is_some (cond b (Some kid) None) ≡ b
      covers true kid = refl
      covers false kid = refl

      by : (kids : List (Mount ℕ)) → length kids ≡ 1
          → is_some (find (stands_at nat_eq (root_of mount)) kids) ≡ only_cover nat_eq mount kids
      by [] e = absurd (omega (arith, e))
      by (kid ∷ []) e = covers (covers_root nat_eq mount kid) kid
      by (kid ∷ other ∷ kids) e = absurd (omega (arith, e))

  -- and one on which more stand is not free
  pub free-many : (length ids ≡ 0 → ⊥) → (length ids ≡ 1 → ⊥)
      → false ≡ holds_of (is_free mounts) (numbered mounts number)
  free-many some more =
      by (children nat_eq mounts mount.number) (λ e. some (length-kids ∙ e)) (λ e. more (length-kids ∙ e))
      ∙ ap (holds_of (is_free mounts)) found
    where
      by : (kids : List (Mount ℕ)) → (length kids ≡ 0 → ⊥) → (length kids ≡ 1 → ⊥)
          → false ≡ only_cover nat_eq mount kids
      by [] none one = absurd (none refl)
      by (kid ∷ []) none one = absurd (one refl)
      by (kid ∷ other ∷ kids) none one = refl

-- the mount at a place is found by its number
found_by_number : (mounts : List (Mount ℕ)) → are_ascending mounts ≡ true → (place : Location ℕ) {number : ℕ}
    → {child : Mount ℕ} → child_at nat_eq mounts place ≡ Some child → number ≡ child.number
    → numbered mounts number ≡ Some child
found_by_number mounts up place {child} e same =
    ap (numbered mounts) same ∙ numbered_among mounts up child (found_in (stands_at nat_eq place) mounts child e).0

-- the mount at a place is free where none stands on it
pub free-childless : (mounts : List (Mount ℕ)) → are_ascending mounts ≡ true → (place : Location ℕ) {number : ℕ}
    → Some number ≡ option_map (λ child. child.number) (child_at nat_eq mounts place)
    → (ids : List MountId) → counts ids ≡ numbers_of (children nat_eq mounts number) → length ids ≡ 0
    → true ≡ holds_of (is_free mounts) (numbered mounts number)
free-childless mounts up place {number} told ids on none = by (child_at nat_eq mounts place) refl told
  where
    by : (o : Option (Mount ℕ)) → child_at nat_eq mounts place ≡ o → Some number ≡ option_map (λ child. child.number) o
        → true ≡ holds_of (is_free mounts) (numbered mounts number)
    by None e t = absurd (true≢false (ap is_some t))
    by (Some child) e t = free-none mounts number
        (sym (found_by_number mounts up place e (same_Some number child.number t))) ids on none

-- the mount at a place is free just where the one that is found by its number is
pub free_at-told : (mounts : List (Mount ℕ)) → are_ascending mounts ≡ true → (place : Location ℕ) {number : ℕ}
    → Some number ≡ option_map (λ child. child.number) (child_at nat_eq mounts place)
    → {free : Bool} → free ≡ holds_of (is_free mounts) (numbered mounts number)
    → cond free (Some number) None ≡ option_map (λ mount. mount.number) (free_at mounts place)
free_at-told mounts up place {number} told {free} is = by (child_at nat_eq mounts place) refl told
  where
    goes : (b : Bool) (child : Mount ℕ) → number ≡ child.number
        → cond b (Some number) None ≡ option_map (λ (m : Mount ℕ). m.number) (when b child)
    goes true child same = ap Some same
    goes false child same = refl

    by : (o : Option (Mount ℕ)) → child_at nat_eq mounts place ≡ o → Some number ≡ option_map (λ child. child.number) o
        → cond free (Some number) None
        ≡ option_map (λ mount. mount.number) (then_some o (λ child. when (is_free mounts child) child))
    by None e t = absurd (true≢false (ap is_some t))
    by (Some child) e t =
        let same : number ≡ child.number = same_Some number child.number t in
        let found : numbered mounts number ≡ Some child = found_by_number mounts up place e same in
        ap (λ b. cond b (Some number) None) (is ∙ ap (holds_of (is_free mounts)) found)
        ∙ goes (is_free mounts child) child same

-- Mounts that an unmount detaches

filter_map-numbers : (f : ℕ → Option (Mount ℕ)) (mounts : List (Mount ℕ))
    → filter_map f (numbers_of mounts) ≡ filter_map (λ (m : Mount ℕ). f m.number) mounts
filter_map-numbers f [] = refl
filter_map-numbers f (mount ∷ mounts) = ap (cons_option (f mount.number)) (filter_map-numbers f mounts)

abbrev at_group : Location ℕ → ℕ → Location ℕ × ℕ
at_group place group = (place, group)

module _ {world : World ℕ} {kept : List MountEntry} {grouping : Grouping} (seen : IsSeen world kept grouping) where
  numbered-world : (number : ℕ) → numbered world.mounts number ≡ numbered (mounts_in kept) number
  numbered-world number = ap (λ mounts. numbered mounts number) (sym seen.mounts)

  -- what goes with a mount at a place, by the mount that is found there
  going_with : (mount : Mount ℕ) (place : Location ℕ) {o : Option (Mount ℕ)} → numbered (mounts_in kept) place.mount ≡ o
      → going_at nat_eq world mount (Some place) ≡ (if is_shared (unwrap_or o (no_mount place.mount)).propagation then
      numbers_of (filter_map (goes_at nat_eq world place.node)
      (receivers_of nat_eq world (unwrap_or o (no_mount place.mount)))) else (mount.number ∷ []))
  going_with mount place {o} e = grind (arith, common_steps)

  going-place : (mount : Mount ℕ) (place : Location ℕ) → group_at (mounts_in kept) place ≡ None
      → going_at nat_eq world mount (Some place) ≡ mount.number ∷ []
  going-place mount place none = grind (arith, common_steps)

  going-shared : (mount : Mount ℕ) (place : Location ℕ) (found : Location ℕ × ℕ)
      → group_at (mounts_in kept) place ≡ Some found → going_at nat_eq world mount (Some place)
      ≡ numbers_of (filter_map (goes_at nat_eq world found.0.node) (receivers nat_eq world found.1))
  going-shared mount place found some = grind (arith, common_steps, same_Some)

  -- what goes with a number, by the mount that has it
  going-number : (number : ℕ) {o : Option (Mount ℕ)} → numbered (mounts_in kept) number ≡ o
      → going nat_eq world (mount_numbered nat_eq world number) ≡ going nat_eq world (unwrap_or o (no_mount number))
  going-number number e = ap (λ found. going nat_eq world (unwrap_or found (no_mount number)))
      (numbered-world number ∙ e)

  -- a mount that stands where nothing propagates goes alone
  pub going-alone : (number : ℕ) → shared_point (mounts_in kept) number ≡ None
      → number ∷ [] ≡ going nat_eq world (mount_numbered nat_eq world number)
  going-alone number none = by (numbered (mounts_in kept) number) refl none
    where
      at : (mount : Mount ℕ) → number ≡ mount.number → (point : Option (Location ℕ)) → mount.mount_point ≡ point
          → then_some point (group_at (mounts_in kept)) ≡ None → number ∷ [] ≡ going nat_eq world mount
      at mount same None e none = ap (λ n. n ∷ []) same ∙ sym (ap (going_at nat_eq world mount) e)
      at mount same (Some place) e none = ap (λ n. n ∷ []) same
          ∙ sym (ap (going_at nat_eq world mount) e ∙ going-place mount place none)

      by : (o : Option (Mount ℕ)) → numbered (mounts_in kept) number ≡ o
          → then_some (then_some o (λ (m : Mount ℕ). m.mount_point)) (group_at (mounts_in kept)) ≡ None
          → number ∷ [] ≡ going nat_eq world (mount_numbered nat_eq world number)
      by None e none = sym (going-number number e)
      by (Some mount) e none =
          at mount (numbered-number (mounts_in kept) number mount (sym e)) mount.mount_point refl none
          ∙ sym (going-number number e)

  -- one that stands on a shared mount goes with those at the receivers that are free
  pub going-everywhere : (number : ℕ) (found : Location ℕ × ℕ) → shared_point (mounts_in kept) number ≡ Some found
      → (numbers : List ℕ) → numbers ≡ numbers_of (receivers nat_eq world found.1)
      → numbers_of (free_on (mounts_in kept) found.0.node numbers)
      ≡ going nat_eq world (mount_numbered nat_eq world number)
  going-everywhere number found is numbers told = (λ i. numbers_of (free_on (seen.mounts i) found.0.node (told i)))
      ∙ ap numbers_of (filter_map-numbers
      (λ receiver. free_at world.mounts (record { mount = receiver; node = found.0.node }))
      (receivers nat_eq world found.1)) ∙ by (numbered (mounts_in kept) number) refl is
    where
      at : (mount : Mount ℕ) (point : Option (Location ℕ)) → mount.mount_point ≡ point
          → then_some point (group_at (mounts_in kept)) ≡ Some found
          → numbers_of (filter_map (goes_at nat_eq world found.0.node) (receivers nat_eq world found.1))
          ≡ going nat_eq world mount
      at mount None e is = absurd (true≢false (sym (ap is_some is)))
      at mount (Some place) e is = sym (ap (going_at nat_eq world mount) e ∙ going-shared mount place found is)

      by : (o : Option (Mount ℕ)) → numbered (mounts_in kept) number ≡ o
          → then_some (then_some o (λ (m : Mount ℕ). m.mount_point)) (group_at (mounts_in kept)) ≡ Some found
          → numbers_of (filter_map (goes_at nat_eq world found.0.node) (receivers nat_eq world found.1))
          ≡ going nat_eq world (mount_numbered nat_eq world number)
      by None e is = absurd (true≢false (sym (ap is_some is)))
      by (Some mount) e is = at mount mount.mount_point refl is ∙ sym (going-number number e)

  -- Mounts that are in use

  used-told : CountsUses world kept → (gone : List ℕ)
      → list_any (λ number. nat_lt 0 (uses_of kept number)) gone ≡ is_used nat_eq world gone
  used-told counted_right gone = grind (arith, common_steps, eqb-true, eq-eqb, any_from_among, any_among)

  -- a mount is busy just where one that goes with it is used, and none stands on it
  pub busy-told : CountsUses world kept → (number : ℕ) → list_any (stands_on nat_eq number) (mounts_in kept) ≡ false
      → {gone : List ℕ} → gone ≡ going nat_eq world (mount_numbered nat_eq world number)
      → list_any (λ number. nat_lt 0 (uses_of kept number)) gone ≡ is_busy nat_eq world number
  busy-told counted_right number childless {gone} told = used-told counted_right gone ∙ ap (is_used nat_eq world) told
      ∙ ap (λ b. b || is_used nat_eq world (going nat_eq world (mount_numbered nat_eq world number)))
      (sym childless ∙ ap (list_any (stands_on nat_eq number)) seen.mounts)

  -- one on which another stands is busy
  pub busy-child : (number : ℕ) → list_any (stands_on nat_eq number) (mounts_in kept) ≡ true
      → true ≡ is_busy nat_eq world number
  busy-child number child =
      ap (λ b. b || is_used nat_eq world (going nat_eq world (mount_numbered nat_eq world number)))
      (sym child ∙ ap (list_any (stands_on nat_eq number)) seen.mounts)
