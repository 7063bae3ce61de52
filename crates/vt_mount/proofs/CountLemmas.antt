-- How often one is in a list, once one was put in or taken out.
use Rattle.std.proofs.Common.{◌≡◌, ◌+◌, ℕ, Bool, true, false, true≢false, cond, not, ◌&&◌, List, [], ◌∷◌, ◌++◌, refl, sym, ap, ◌∙◌}
use Rattle.vt_location.specs.declared.locations.Location.{Location}
use Rattle.vt_location.specs.declared.numbers.MountId.{MountId}
use Rattle.vt_location.specs.SameNodes.{same_node}
use Rattle.vt_mount.specs.declared.standing.Standing.{Standing}
use Rattle.vt_mount.specs.Indexes.{count_left, count_put, pushed, put_in_place, same_place, taken}
use Rattle.vt_mount.specs.Listed.{count_of}
use Rattle.vt_mount.specs.Orders.{numbers_order, standing_order}
use Rattle.vt_mount.specs.Rising.{inserted, precedes}
use Rattle.vt_mount.specs.Standing.{same_standing, stands_before}
use Rattle.vt_mount.proofs.IndexLemmas.{same_mount_id}
use Rattle.vt_mount.proofs.RisingLemmas.{others_by}
use Rattle.vt_spec.proofs.Common.{and_true_left, and_true_right}
use Rattle.vt_location.specs.Numbers.{same_id}

pub count-inserted : {T : Type 0} (test : T → Bool) (before : T → T → Bool) (one : T) (list : List T)
    → count_of test (inserted before one list) ≡ count_put (test one) (count_of test list)
count-inserted test before one [] = refl
count-inserted test before one (x ∷ list) = by (before one x) (test one) refl (test x) refl (count-inserted test before one list)
  where
    by : (b t : Bool) → test one ≡ t → (u : Bool) → test x ≡ u
        → count_of test (inserted before one list) ≡ count_put t (count_of test list)
        → count_of test (cond b (one ∷ x ∷ list) (x ∷ inserted before one list))
        ≡ count_put t (count_put u (count_of test list))
    by true t is u that rest = λ i. count_put (is i) (count_put (that i) (count_of test list))
    by false t is u that rest = ap (λ u. count_put u (count_of test (inserted before one list))) that
        ∙ ap (count_put u) rest ∙ turn t u
      where
        turn : (t u : Bool) → count_put u (count_put t (count_of test list)) ≡ count_put t (count_put u (count_of test list))
        turn true true = refl
        turn true false = refl
        turn false u = refl

module _ {T : Type 0} (same : T → T → Bool) (whole : (a b : T) → same a b ≡ true → a ≡ b)
    (itself : (a : T) → same a a ≡ true) where
  pub count-others : (s one : T) (list : List T)
      → count_of (same s) (others_by same one list) ≡ count_left (same s one) (count_of (same s) list)
  count-others s one [] = by (same s one)
    where
      by : (b : Bool) → 0 ≡ count_left b 0
      by true = refl
      by false = refl
  count-others s one (x ∷ list) =
      by (same x one) refl (same s one) refl (same s x) refl (count-others s one list)
    where
      N : ℕ
      N = count_of (same s) list

      by : (b : Bool) → same x one ≡ b → (c : Bool) → same s one ≡ c → (d : Bool) → same s x ≡ d
          → count_of (same s) (others_by same one list) ≡ count_left c N
          → count_of (same s) (cond (not b) (x ∷ others_by same one list) (others_by same one list))
          ≡ count_left c (count_put d N)
      by true is true that d less rest = rest
      by true is false that true less rest = absurd (true≢false (sym less ∙ ap (same s) (whole x one is) ∙ that))
      by true is false that false less rest = rest
      by false is true that true less rest = absurd (true≢false (sym (itself one)
          ∙ ap (λ a. same a one) (sym (whole s one that) ∙ whole s x less) ∙ is))
      by false is true that false less rest = ap (λ b. count_put b (count_of (same s) (others_by same one list))) less
          ∙ rest
      by false is false that true less rest = ap (λ b. count_put b (count_of (same s) (others_by same one list))) less
          ∙ ap (λ n. n + 1) rest
      by false is false that false less rest = ap (λ b. count_put b (count_of (same s) (others_by same one list))) less
          ∙ rest

-- Lists of mounts

count-pushed-there : (id m : MountId) (list : List MountId)
    → count_of (same_id m) (list ++ id ∷ []) ≡ count_put (same_id m id) (count_of (same_id m) list)
count-pushed-there id m [] = refl
count-pushed-there id m (x ∷ list) = by (same_id m x) (same_id m id) (count-pushed-there id m list)
  where
    by : (b c : Bool) → count_of (same_id m) (list ++ id ∷ []) ≡ count_put c (count_of (same_id m) list)
        → count_put b (count_of (same_id m) (list ++ id ∷ [])) ≡ count_put c (count_put b (count_of (same_id m) list))
    by true true rest = ap (λ n. n + 1) rest
    by true false rest = ap (λ n. n + 1) rest
    by false c rest = rest

pub count-pushed : (here : Bool) (id m : MountId) (list : List MountId)
    → count_of (same_id m) (pushed here id list) ≡ count_put (here && same_id m id) (count_of (same_id m) list)
count-pushed true id m list = count-pushed-there id m list
count-pushed false id m list = refl

pub count-put_in_place : (here : Bool) (id m : MountId) (list : List MountId)
    → count_of (same_id m) (put_in_place here id list) ≡ count_put (here && same_id m id) (count_of (same_id m) list)
count-put_in_place true id m list = count-inserted (same_id m) precedes id list
count-put_in_place false id m list = refl

pub count-taken : (here : Bool) (id m : MountId) (list : List MountId)
    → count_of (same_id m) (taken here id list) ≡ count_left (here && same_id m id) (count_of (same_id m) list)
count-taken true id m list = count-others same_id same_mount_id numbers_order.itself m id list
count-taken false id m list = refl

-- Lists of what stands on an inode

whole_standing : (a b : Standing) → same_standing a b ≡ true → a ≡ b
whole_standing a b is = λ i. record {
  parent = same_mount_id a.parent b.parent (and_true_left _ _ is) i;
  mount = same_mount_id a.mount b.mount (and_true_right _ _ is) i;
}

-- what is listed for a mount at a location
abbrev pub standing_at : Location → MountId → Standing
standing_at place mount = record { parent = place.mount; mount = mount }

module _ (q place : Location) (one mount : MountId) (was is : List Standing) where
  pub count-entered : is ≡ cond (same_node q.node place.node) (inserted stands_before (standing_at place mount) was) was
      → count_of (same_standing (standing_at q one)) is
      ≡ count_put (same_place q place && same_id one mount) (count_of (same_standing (standing_at q one)) was)
  count-entered put = ap (count_of (same_standing (standing_at q one))) put
      ∙ by (same_id q.mount place.mount) refl (same_node q.node place.node)
    where
      N : ℕ
      N = count_of (same_standing (standing_at q one)) was

      by : (p : Bool) → same_id q.mount place.mount ≡ p → (n : Bool)
          → count_of (same_standing (standing_at q one))
          (cond n (inserted stands_before (standing_at place mount) was) was)
          ≡ count_put ((p && n) && same_id one mount) N
      by true there true = count-inserted (same_standing (standing_at q one)) stands_before (standing_at place mount) was
          ∙ ap (λ p. count_put (p && same_id one mount) N) there
      by true there false = refl
      by false there true = count-inserted (same_standing (standing_at q one)) stands_before (standing_at place mount) was
          ∙ ap (λ p. count_put (p && same_id one mount) N) there
      by false there false = refl

  pub count-gone : is ≡ cond (same_node q.node place.node) (others_by same_standing (standing_at place mount) was) was
      → count_of (same_standing (standing_at q one)) is
      ≡ count_left (same_place q place && same_id one mount) (count_of (same_standing (standing_at q one)) was)
  count-gone taken = ap (count_of (same_standing (standing_at q one))) taken
      ∙ by (same_id q.mount place.mount) refl (same_node q.node place.node)
    where
      N : ℕ
      N = count_of (same_standing (standing_at q one)) was

      gone : count_of (same_standing (standing_at q one)) (others_by same_standing (standing_at place mount) was)
          ≡ count_left (same_id q.mount place.mount && same_id one mount) N
      gone = count-others same_standing whole_standing standing_order.itself (standing_at q one)
          (standing_at place mount) was

      by : (p : Bool) → same_id q.mount place.mount ≡ p → (n : Bool)
          → count_of (same_standing (standing_at q one))
          (cond n (others_by same_standing (standing_at place mount) was) was)
          ≡ count_left ((p && n) && same_id one mount) N
      by true there true = gone ∙ ap (λ p. count_left (p && same_id one mount) N) there
      by true there false = refl
      by false there true = gone ∙ ap (λ p. count_left (p && same_id one mount) N) there
      by false there false = refl

-- taken out again, one is in no list
pub left-put : (here : Bool) (n : ℕ) → count_left here (count_put here n) ≡ count_left here n
left-put true n = refl
left-put false n = refl
