-- Lists in order: what a binary search finds among their elements, and what an edit there does.
use Rattle.std.proofs.Common.{◌^◌, ◌≡◌, ◌<◌, ◌≤◌, ◌-◌, ℕ, zero, suc, Bool, true, false, cond, ◌&&◌, List, [], ◌∷◌, ◌++◌, Option, None, Some, filter, get_or, length, not, refl, sym, ap, subst, take, ◌+◌, ◌∙◌, arith, insert, remove, slice_get}
use Rattle.vt_spec.proofs.Common.{and_true_left, and_true_right, get_or_from_slice_get, holds_of, not-true}
use Rattle.std.specs.List.{AllWithin}
use Rattle.std.specs.List.Sorted.{IsPartitionPoint, IsPartitionedBy}
use Rattle.vt_location.specs.Numbers.{same_id}
use Rattle.vt_deque.specs.declared.slice_deque.SliceDeque.{SliceDeque}
use Rattle.vt_deque.proofs.DequeLemmas.{room-bounded}
use Rattle.vt_location.specs.declared.numbers.MountId.{MountId}
use Rattle.vt_mount.specs.Indexes.{pushed, put_in_place, taken}
use Rattle.vt_mount.specs.Rising.{IsOrder, comes_last, inserted, none_below, precedes, rises, room_for}
use Rattle.vt_mount.specs.Orders.{numbers_order}

pub both : (a b : Bool) → a ≡ true → b ≡ true → (a && b) ≡ true
both a b left right = (λ i. left i && b) ∙ right

-- room is bounded by that of a block of memory
pub room_for-bounded : {T : Type 0} (one : Option T) (many : Option (SliceDeque T)) → room_for one many < 2 ^ 63
room_for-bounded one None = omega arith
room_for-bounded one (Some list) = room-bounded list

-- where no one is the last one, there are none

get-none : {T : Type 0} (list : List T) (place : ℕ) → None ≡ slice_get list place → length list ≤ place
get-none [] place none = omega arith
get-none (x ∷ list) zero none = absurd cc
get-none (x ∷ list) (suc place) none = omega (arith, get-none list place none)

pub no_last : {T : Type 0} (list : List T) → None ≡ slice_get list (length list - 1) → list ≡ []
no_last [] none = refl
no_last (x ∷ list) none = absurd (omega (arith, get-none (x ∷ list) (length (x ∷ list) - 1) none))

-- all that are not the same as one

abbrev pub others_by : {T : Type 0} → (T → T → Bool) → T → List T → List T
others_by same one list = filter (λ other. not (same other one)) list

module _ {T : Type 0} {before same : T → T → Bool} (order : IsOrder before same) where
  -- nothing comes before itself
  first : (a : T) → before a a ≡ false
  first a = by (before a a) refl
    where
      by : (b : Bool) → before a a ≡ b → b ≡ false
      by true is = sym is ∙ order.turned a a is
      by false is = refl

  -- what comes before one comes before all behind that one
  behind : (a b c : T) → before a b ≡ true → before c b ≡ false → before a c ≡ true
  behind a b c is least = by (before a c) refl
    where
      by : (d : Bool) → before a c ≡ d → d ≡ true
      by true less = refl
      by false less = sym (order.climbs b c a least less) ∙ is

  -- what does not come behind one comes before all that one comes before
  ahead : (a b c : T) → before b a ≡ false → before b c ≡ true → before a c ≡ true
  ahead a b c least is = by (before a c) refl
    where
      by : (d : Bool) → before a c ≡ d → d ≡ true
      by true less = refl
      by false less = sym (order.climbs c a b less least) ∙ is

  -- elements that rise, as a binary search asks

  not-below : (one : T) (list : List T) (k : ℕ) (d : T) → none_below before one list ≡ true → k < length list
      → before (get_or list k d) one ≡ false
  not-below one [] k d above within = absurd (omega (arith, within))
  not-below one (x ∷ list) zero d above within = not-true _ (and_true_left _ _ above)
  not-below one (x ∷ list) (suc k) d above within =
      not-below one list k d (and_true_right _ _ above) (omega (arith, within))

  pub climbing : (list : List T) → rises before list ≡ true → (i j : ℕ) (d : T) → i ≤ j → j < length list
      → before (get_or list j d) (get_or list i d) ≡ false
  climbing [] rising i j d le within = absurd (omega (arith, within))
  climbing (x ∷ list) rising zero zero d le within = first x
  climbing (x ∷ list) rising zero (suc j) d le within =
      not-below x list j d (and_true_left _ _ rising) (omega (arith, within))
  climbing (x ∷ list) rising (suc i) zero d le within = absurd (omega (arith, le))
  climbing (x ∷ list) rising (suc i) (suc j) d le within =
      climbing list (and_true_right _ _ rising) i j d (omega (arith, le)) (omega (arith, within))

  -- one that is inserted

  -- behind others, where it comes last
  pub inserted-last : (one : T) (list : List T) → comes_last before one list ≡ true
      → inserted before one list ≡ list ++ one ∷ []
  inserted-last one [] last = refl
  inserted-last one (x ∷ list) last =
      ap (λ b. cond b (one ∷ x ∷ list) (x ∷ inserted before one list)) (order.turned x one (and_true_left _ _ last))
      ∙ ap (λ rest. x ∷ rest) (inserted-last one list (and_true_right _ _ last))

  -- behind all, where it comes before none
  inserted-greatest : (one : T) (list : List T)
      → ((k : ℕ) (d : T) → k < length list → before one (get_or list k d) ≡ false)
      → inserted before one list ≡ list ++ one ∷ []
  inserted-greatest one [] least = refl
  inserted-greatest one (x ∷ list) least =
      ap (λ b. cond b (one ∷ x ∷ list) (x ∷ inserted before one list)) (least 0 x (omega arith))
      ∙ ap (λ rest. x ∷ rest) (inserted-greatest one list (λ k d within. least (suc k) d (omega (arith, within))))

  pub inserted-behind : (one last : T) (list : List T) → rises before list ≡ true
      → slice_get list (length list - 1) ≡ Some last → before one last ≡ false
      → inserted before one list ≡ list ++ one ∷ []
  inserted-behind one last list rising is least = inserted-greatest one list (λ k d within.
      order.climbs (get_or list k d) last one
      (subst (λ last. before last (get_or list k d) ≡ false)
      (get_or_from_slice_get list (length list - 1) last d is)
      (climbing list rising k (length list - 1) d (omega (arith, within)) (omega (arith, within)))) least)

  lower : (one y : T) (list : List T) → before one y ≡ true → none_below before y list ≡ true
      → none_below before one list ≡ true
  lower one y [] less below = refl
  lower one y (z ∷ list) less below =
      both _ _ (ap not (order.climbs one y z (order.turned one y less) (not-true _ (and_true_left _ _ below))))
      (lower one y list less (and_true_right _ _ below))

  none_below-inserted : (one x : T) (list : List T) → not (before one x) ≡ true
      → none_below before x list ≡ true → none_below before x (inserted before one list) ≡ true
  none_below-inserted one x [] least below = both _ _ least refl
  none_below-inserted one x (y ∷ list) least below =
      at (before one y) (none_below-inserted one x list least (and_true_right _ _ below))
    where
      at : (b : Bool) → none_below before x (inserted before one list) ≡ true
          → none_below before x (cond b (one ∷ y ∷ list) (y ∷ inserted before one list)) ≡ true
      at true rest = both _ _ least below
      at false rest = both _ _ (and_true_left _ _ below) rest

  pub rises-inserted : (one : T) (list : List T) → rises before list ≡ true
      → rises before (inserted before one list) ≡ true
  rises-inserted one [] rising = refl
  rises-inserted one (x ∷ list) rising =
      by (before one x) refl (rises-inserted one list (and_true_right _ _ rising))
    where
      by : (b : Bool) → before one x ≡ b → rises before (inserted before one list) ≡ true
          → rises before (cond b (one ∷ x ∷ list) (x ∷ inserted before one list)) ≡ true
      by true is rest =
          both _ _ (both _ _ (ap not (order.turned one x is)) (lower one x list is (and_true_left _ _ rising))) rising
      by false is rest = both _ _ (none_below-inserted one x list (ap not is) (and_true_left _ _ rising)) rest

  -- where a search puts it: behind those that it does not come before
  inserted-there : (one : T) (list : List T) (place : ℕ) → place ≤ length list
      → AllWithin (λ other. not (before one other) ≡ true) list 0 place
      → AllWithin (λ other. not (before one other) ≡ false) list place (length list)
      → insert list place one ≡ inserted before one list
  inserted-there one [] zero within front rest = refl
  inserted-there one [] (suc place) within front rest = absurd (omega (arith, within))
  inserted-there one (x ∷ list) zero within front rest =
      ap (λ b. cond b (one ∷ x ∷ list) (x ∷ inserted before one list))
      (sym (turned _ (rest 0 x (omega arith) (omega arith))))
    where
      turned : (b : Bool) → not b ≡ false → b ≡ true
      turned true is = refl
      turned false is = sym is
  inserted-there one (x ∷ list) (suc place) within front rest =
      ap (λ l. x ∷ l) (inserted-there one list place (omega (arith, within))
      (λ k d low high. front (suc k) d (omega arith) (omega (arith, high)))
      (λ k d low high. rest (suc k) d (omega (arith, low)) (omega (arith, high))))
      ∙ ap (λ b. cond b (one ∷ x ∷ list) (x ∷ inserted before one list))
      (sym (not-true _ (front 0 x (omega arith) (omega arith))))

  -- one that is put in, and taken out again

  own : (one : T) (list : List T) → others_by same one (one ∷ list) ≡ others_by same one list
  own one list = ap (λ b. cond (not b) (one ∷ others_by same one list) (others_by same one list)) (order.itself one)

  pub others-inserted : (one : T) (list : List T)
      → others_by same one (inserted before one list) ≡ others_by same one list
  others-inserted one [] = own one []
  others-inserted one (x ∷ list) = by (before one x) (others-inserted one list)
    where
      by : (b : Bool) → others_by same one (inserted before one list) ≡ others_by same one list
          → others_by same one (cond b (one ∷ x ∷ list) (x ∷ inserted before one list)) ≡ others_by same one (x ∷ list)
      by true rest = own one (x ∷ list)
      by false rest = ap (λ rest. cond (not (same x one)) (x ∷ rest) rest) rest

  -- one that is taken out

  none_below-remove : (one : T) (list : List T) (place : ℕ) → none_below before one list ≡ true
      → none_below before one (remove list place) ≡ true
  none_below-remove one [] zero below = refl
  none_below-remove one [] (suc place) below = refl
  none_below-remove one (x ∷ list) zero below = and_true_right _ _ below
  none_below-remove one (x ∷ list) (suc place) below =
      both _ _ (and_true_left _ _ below) (none_below-remove one list place (and_true_right _ _ below))

  pub rises-remove : (list : List T) (place : ℕ) → rises before list ≡ true → rises before (remove list place) ≡ true
  rises-remove [] zero rising = refl
  rises-remove [] (suc place) rising = refl
  rises-remove (x ∷ list) zero rising = and_true_right _ _ rising
  rises-remove (x ∷ list) (suc place) rising = both _ _ (none_below-remove x list place (and_true_left _ _ rising))
      (rises-remove list place (and_true_right _ _ rising))

  -- it is no other, so that the others are those that are left
  pub others-remove : (one : T) (list : List T) (place : ℕ) → place < length list
      → ((d : T) → same (get_or list place d) one ≡ true)
      → others_by same one (remove list place) ≡ others_by same one list
  others-remove one [] place within is = absurd (omega (arith, within))
  others-remove one (x ∷ list) zero within is =
      ap (λ b. cond (not b) (x ∷ others_by same one list) (others_by same one list)) (sym (is x))
  others-remove one (x ∷ list) (suc place) within is =
      ap (λ rest. cond (not (same x one)) (x ∷ rest) rest) (others-remove one list place (omega (arith, within)) is)

  -- where it is not in the list, all are others
  others-all : (one : T) (list : List T)
      → ((k : ℕ) (d : T) → k < length list → same (get_or list k d) one ≡ false) → others_by same one list ≡ list
  others-all one [] apart = refl
  others-all one (x ∷ list) apart =
      ap (λ b. cond (not b) (x ∷ others_by same one list) (others_by same one list)) (apart 0 x (omega arith))
      ∙ ap (λ rest. x ∷ rest) (others-all one list (λ k d within. apart (suc k) d (omega (arith, within))))

  -- where those before a place come before it, and none from there on does

  abbrev pub parted : T → ℕ → List T → Bool
  parted one zero list = none_below before one list
  parted one (suc place) [] = true
  parted one (suc place) (x ∷ list) = before x one && parted one place list

  none_below-all : (one : T) (list : List T)
      → AllWithin (λ other. before other one ≡ false) list 0 (length list) → none_below before one list ≡ true
  none_below-all one [] rest = refl
  none_below-all one (x ∷ list) rest = both _ _ (ap not (rest 0 x (omega arith) (omega arith)))
      (none_below-all one list (λ k d low high. rest (suc k) d (omega arith) (omega (arith, high))))

  parted-there : (one : T) (list : List T) (place : ℕ)
      → AllWithin (λ other. before other one ≡ true) list 0 place
      → AllWithin (λ other. before other one ≡ false) list place (length list) → parted one place list ≡ true
  parted-there one list zero front rest = none_below-all one list rest
  parted-there one [] (suc place) front rest = refl
  parted-there one (x ∷ list) (suc place) front rest = both _ _ (front 0 x (omega arith) (omega arith))
      (parted-there one list place (λ k d low high. front (suc k) d (omega arith) (omega (arith, high)))
      (λ k d low high. rest (suc k) d (omega (arith, low)) (omega (arith, high))))

  pub parted-remove : (one : T) (list : List T) (place : ℕ) → parted one place list ≡ true
      → parted one place (remove list place) ≡ true
  parted-remove one list zero parted = none_below-remove one list zero parted
  parted-remove one [] (suc place) parted = refl
  parted-remove one (x ∷ list) (suc place) parted =
      both _ _ (and_true_left _ _ parted) (parted-remove one list place (and_true_right _ _ parted))

  others-above : (one x : T) (list : List T) → before one x ≡ true → none_below before x list ≡ true
      → others_by same one list ≡ list
  others-above one x list above below = others-all one list (λ k d within.
      order.apart_behind one _ (behind one x _ above (not-below x list k d below within)))

  -- the last one is taken out

  remove-last : (list : List T) (n : ℕ) → length list ≡ n + 1 → remove list n ≡ take n list
  remove-last [] n is = absurd (omega (arith, is))
  remove-last (x ∷ list) zero is = nothing list (omega (arith, is))
    where
      nothing : (list : List T) → length list ≡ 0 → list ≡ []
      nothing [] none = refl
      nothing (y ∷ list) none = absurd (omega (arith, none))
  remove-last (x ∷ list) (suc n) is = ap (λ rest. x ∷ rest) (remove-last list n (omega (arith, is)))

  pub others-popped : (one : T) (list : List T) → 0 < length list
      → ((d : T) → same (get_or list (length list - 1) d) one ≡ true)
      → others_by same one (take (length list - 1) list) ≡ others_by same one list
  others-popped one list inside last =
      ap (others_by same one) (sym (remove-last list (length list - 1) (omega (arith, inside))))
      ∙ others-remove one list (length list - 1) (omega (arith, inside)) last

  none_below-take : (one : T) (list : List T) (n : ℕ) → none_below before one list ≡ true
      → none_below before one (take n list) ≡ true
  none_below-take one list zero below = refl
  none_below-take one [] (suc n) below = refl
  none_below-take one (x ∷ list) (suc n) below =
      both _ _ (and_true_left _ _ below) (none_below-take one list n (and_true_right _ _ below))

  pub rises-take : (list : List T) (n : ℕ) → rises before list ≡ true → rises before (take n list) ≡ true
  rises-take list zero rising = refl
  rises-take [] (suc n) rising = refl
  rises-take (x ∷ list) (suc n) rising = both _ _ (none_below-take x list n (and_true_left _ _ rising))
      (rises-take list n (and_true_right _ _ rising))

  -- where the last one comes before an element, all do
  pub others-below : (one last : T) (list : List T) → rises before list ≡ true
      → slice_get list (length list - 1) ≡ Some last → before last one ≡ true → others_by same one list ≡ list
  others-below one last list rising is less = others-all one list (λ k d within.
      order.apart (get_or list k d) one (ahead (get_or list k d) last one
      (subst (λ last. before last (get_or list k d) ≡ false)
      (get_or_from_slice_get list (length list - 1) last d is)
      (climbing list rising k (length list - 1) d (omega (arith, within)) (omega (arith, within)))) less))

  -- what is not at the place is not in the list
  pub others-parted : (one : T) (list : List T) (place : ℕ) → rises before list ≡ true
      → parted one place list ≡ true
      → ((d : T) → place < length list → same (get_or list place d) one ≡ false) → others_by same one list ≡ list
  others-parted one [] place rising parted apart = refl
  others-parted one (x ∷ list) zero rising parted apart =
      ap (λ b. cond (not b) (x ∷ others_by same one list) (others_by same one list)) (apart x (omega arith))
      ∙ ap (λ rest. x ∷ rest) (others-above one x list
      (order.total x one (not-true _ (and_true_left _ _ parted)) (apart x (omega arith))) (and_true_left _ _ rising))
  others-parted one (x ∷ list) (suc place) rising parted apart =
      ap (λ b. cond (not b) (x ∷ others_by same one list) (others_by same one list))
      (order.apart x one (and_true_left _ _ parted))
      ∙ ap (λ rest. x ∷ rest) (others-parted one list place (and_true_right _ _ rising) (and_true_right _ _ parted)
      (λ d within. apart d (omega (arith, within))))

  -- one is not among those that come before it
  pub others-last : (one : T) (list : List T) → comes_last before one list ≡ true → others_by same one list ≡ list
  others-last one [] last = refl
  others-last one (x ∷ list) last =
      ap (λ b. cond (not b) (x ∷ others_by same one list) (others_by same one list))
      (order.apart x one (and_true_left _ _ last))
      ∙ ap (λ rest. x ∷ rest) (others-last one list (and_true_right _ _ last))

  -- what searches answer, where the slice that they go over is the list

  pub is_parted : (one : T) (slice list : List T) → slice ≡ list → rises before list ≡ true
      → IsPartitionedBy (λ other. not (before one other)) slice
  is_parted one slice list is rising i j d le within passes =
      ap not (order.climbs _ _ one
      (climbing slice (subst (λ list. rises before list ≡ true) (sym is) rising) i j d le within)
      (not-true _ passes))

  pub placed : (one : T) (slice list : List T) → slice ≡ list → (place : ℕ) → place ≤ length slice
      → IsPartitionPoint (λ other. not (before one other) ≡ true)
      (λ other. not (before one other) ≡ false) slice place → insert list place one ≡ inserted before one list
  placed one slice list is place within point =
      subst (λ list. insert list place one ≡ inserted before one list) is
      (inserted-there one slice place within point.0 point.1)

  pub is_parted_below : (one : T) (slice list : List T) → slice ≡ list → rises before list ≡ true
      → IsPartitionedBy (λ other. before other one) slice
  is_parted_below one slice list is rising i j d le within passes =
      ahead _ _ one (climbing slice (subst (λ list. rises before list ≡ true) (sym is) rising) i j d le within) passes

  pub parted_at : (one : T) (slice list : List T) → slice ≡ list → (place : ℕ)
      → IsPartitionPoint (λ other. before other one ≡ true) (λ other. before other one ≡ false)
      slice place → parted one place list ≡ true
  parted_at one slice list is place point =
      subst (λ list. parted one place list ≡ true) is (parted-there one slice place point.0 point.1)

-- Lists of mounts

abbrev pub others : MountId → List MountId → List MountId
others id list = others_by same_id id list

pub put_in_place-last : (here : Bool) (id : MountId) (list : List MountId) → comes_last precedes id list ≡ true
    → put_in_place here id list ≡ pushed here id list
put_in_place-last true id list last = inserted-last numbers_order id list last
put_in_place-last false id list last = refl

pub taken-put : (here : Bool) (id : MountId) (list : List MountId)
    → taken here id (put_in_place here id list) ≡ taken here id list
taken-put true id list = others-inserted numbers_order id list
taken-put false id list = refl

-- the same where the place is known at which it is put in
pub rest_there : {A : Type 0} (test : A → Bool) (place : Option A) (there : A) → place ≡ Some there
    → (id : MountId) (old now : List MountId) → now ≡ put_in_place (test there) id old
    → taken (holds_of test place) id now ≡ taken (holds_of test place) id old
rest_there test place there is id old now put =
    subst (λ place. taken (holds_of test place) id now ≡ taken (holds_of test place) id old) (sym is)
    (ap (taken (test there) id) put ∙ taken-put (test there) id old)

pub taken-last : (here : Bool) (id : MountId) (list : List MountId) → comes_last precedes id list ≡ true
    → taken here id list ≡ list
taken-last true id list last = others-last numbers_order id list last
taken-last false id list last = refl
