-- A mount is in the tree of another just if going up by parents meets that one.
use Rattle.std.proofs.Common.{◌≡◌, refl, sym, ap, ◌∙◌, ⊎_elim, ℕ, zero, suc, nat_eq, eqb-true, eq-eqb, Bool, true, false, true≢false, ◌||◌, List, [], ◌∷◌, length, Option, Some, None}
use Rattle.vt_spec.proofs.Common.{Location, Mount, among-filter, among-from_filter, any_among, any_from_among, any_pair, children, holds_of, list_any, mount_in, mount_tree, nat_eq_itself, or-false, same_truth, stands_on, tree_from}
use Rattle.vt_spec.proofs.Lists.{list_any-never}
use Rattle.vt_ns.proofs.Common.{number-mount_in}
use Rattle.vt_laws_mounts.proofs.mounts.MountsFound.{found_or_none}
use Rattle.vt_laws_mounts.proofs.mounts.MountsReplaced.{found_itself}
use Rattle.vt_mounting.proofs.detach.LookLemmas.{nat_eq_turned}
use Rattle.vt_group.proofs.IndexLemmas.{any_flat}

-- going up from a mount meets another, in at most so many steps
abbrev pub meets : List (Mount ℕ) → ℕ → ℕ → ℕ → Bool
meets mounts top zero number = nat_eq number top
meets mounts top (suc steps) number = nat_eq number top || holds_of (λ place. meets mounts top steps place.mount)
    (mount_in nat_eq mounts number).mount_point

-- a climb that begins at the top meets it
pub met_here : (mounts : List (Mount ℕ)) (top steps number : ℕ) → number ≡ top → meets mounts top steps number ≡ true
met_here mounts top zero number same = eq-eqb number top same
met_here mounts top (suc steps) number same = ap
    (λ b. b || holds_of (λ place. meets mounts top steps place.mount) (mount_in nat_eq mounts number).mount_point)
    (eq-eqb number top same)

-- one that ends elsewhere does not
pub met_nowhere : (mounts : List (Mount ℕ)) (top steps number : ℕ) → nat_eq number top ≡ false
    → (mount_in nat_eq mounts number).mount_point ≡ None → meets mounts top steps number ≡ false
met_nowhere mounts top zero number other none = other
met_nowhere mounts top (suc steps) number other none = λ i. other i
    || holds_of (λ place. meets mounts top steps place.mount) (none i)

-- one that goes on meets it where the rest does
pub met_above : (mounts : List (Mount ℕ)) (top steps number : ℕ) (place : Location ℕ) → nat_eq number top ≡ false
    → (mount_in nat_eq mounts number).mount_point ≡ Some place
    → meets mounts top (suc steps) number ≡ meets mounts top steps place.mount
met_above mounts top steps number place other is = λ i. other i
    || holds_of (λ place. meets mounts top steps place.mount) (is i)

pub any_either : {A : Type 0} (one other : A → Bool) (list : List A)
    → list_any (λ a. one a || other a) list ≡ (list_any one list || list_any other list)
any_either one other [] = refl
any_either one other (a ∷ rest) = ap (λ b. (one a || other a) || b) (any_either one other rest)
    ∙ mixed (one a) (other a) (list_any one rest) (list_any other rest)
  where
    mixed : (x y p q : Bool) → ((x || y) || (p || q)) ≡ ((x || p) || (y || q))
    mixed true y p q = refl
    mixed false true true q = refl
    mixed false true false q = refl
    mixed false false p q = refl

-- tests that agree are passed by some alike
pub any_alike : {A : Type 0} (one other : A → Bool) (list : List A) → ((a : A) → one a ≡ other a)
    → list_any one list ≡ list_any other list
any_alike one other [] same = refl
any_alike one other (a ∷ rest) same = λ i. same a i || any_alike one other rest same i

module _ (mounts : List (Mount ℕ)) (one : any_pair (λ (a b : Mount ℕ). nat_eq a.number b.number) mounts ≡ false) where
  -- a mount is a child just where its mount point is on that mount
  child_stands : (top number : ℕ) → list_any (λ child. nat_eq number child.number) (children nat_eq mounts top)
      ≡ holds_of (λ place. nat_eq place.mount top) (mount_in nat_eq mounts number).mount_point
  child_stands top number = same_truth _ _ there back
    where
      on : (mount : Mount ℕ) (o : Option (Location ℕ))
          → holds_of (λ place. nat_eq top place.mount) o ≡ holds_of (λ place. nat_eq place.mount top) o
      on mount None = refl
      on mount (Some place) = nat_eq_turned top place.mount

      there : list_any (λ child. nat_eq number child.number) (children nat_eq mounts top) ≡ true
          → holds_of (λ place. nat_eq place.mount top) (mount_in nat_eq mounts number).mount_point ≡ true
      there any =
          let child = any_among (λ child. nat_eq number child.number) (children nat_eq mounts top) any in
          let from = among-from_filter (stands_on nat_eq top) mounts child.0 child.1 in
          let is = ap (mount_in nat_eq mounts) (eqb-true number child.0.number child.2)
          ∙ found_itself mounts one child.0 from.0 in
          ap (λ (mount : Mount ℕ). holds_of (λ place. nat_eq place.mount top) mount.mount_point) is
          ∙ sym (on child.0 child.0.mount_point) ∙ from.1

      back : holds_of (λ place. nat_eq place.mount top) (mount_in nat_eq mounts number).mount_point ≡ true
          → list_any (λ child. nat_eq number child.number) (children nat_eq mounts top) ≡ true
      back stands =
          let mount = mount_in nat_eq mounts number in
          ⊎_elim (λ m. any_from_among (λ child. nat_eq number child.number) (children nat_eq mounts top) mount
          (among-filter (stands_on nat_eq top) mounts mount m (on mount mount.mount_point ∙ stands))
          (ap (nat_eq number) (number-mount_in mounts number) ∙ nat_eq_itself number))
          (λ none. absurd (true≢false (sym stands
          ∙ ap (λ (x : Mount ℕ). holds_of (λ place. nat_eq place.mount top) x.mount_point) none)))
          (found_or_none mounts number)

  children_meet : (steps top number : ℕ)
      → list_any (λ child. meets mounts child.number steps number) (children nat_eq mounts top)
      ≡ holds_of (λ place. meets mounts top steps place.mount) (mount_in nat_eq mounts number).mount_point
  children_meet zero top number = child_stands top number
  children_meet (suc steps) top number =
      by (mount_in nat_eq mounts number).mount_point (λ place. children_meet steps top place.mount)
      (child_stands top number)
    where
      by : (o : Option (Location ℕ))
          → ((place : Location ℕ) → list_any (λ child. meets mounts child.number steps place.mount)
          (children nat_eq mounts top)
          ≡ holds_of (λ up. meets mounts top steps up.mount) (mount_in nat_eq mounts place.mount).mount_point)
          → list_any (λ child. nat_eq number child.number) (children nat_eq mounts top)
          ≡ holds_of (λ place. nat_eq place.mount top) o → list_any (λ child. nat_eq number child.number
          || holds_of (λ place. meets mounts child.number steps place.mount) o) (children nat_eq mounts top)
          ≡ holds_of (λ place. meets mounts top (suc steps) place.mount) o
      by None later first =
          any_either (λ child. nat_eq number child.number) (λ child. false) (children nat_eq mounts top)
          ∙ (λ i. first i || list_any-never (children nat_eq mounts top) i)
      by (Some place) later first =
          any_either (λ child. nat_eq number child.number) (λ child. meets mounts child.number steps place.mount)
          (children nat_eq mounts top) ∙ (λ i. first i || later place i)

  -- a mount is in a tree just where a climb from it meets the top
  pub met_in_tree : (steps : ℕ) (top : Mount ℕ) (number : ℕ)
      → list_any (λ other. nat_eq other.number number) (tree_from nat_eq steps mounts top)
      ≡ meets mounts top.number steps number
  met_in_tree zero top number = or-false (nat_eq top.number number) ∙ nat_eq_turned top.number number
  met_in_tree (suc steps) top number = (λ i. nat_eq_turned top.number number i
      || (any_flat (λ other. nat_eq other.number number) (tree_from nat_eq steps mounts)
      (children nat_eq mounts top.number)
      ∙ any_alike _ _ (children nat_eq mounts top.number) (λ child. met_in_tree steps child number)
      ∙ children_meet steps top.number number) i)

-- in as many steps as there are mounts, going up meets what the tree has
pub met_from : (mounts : List (Mount ℕ)) → any_pair (λ (a b : Mount ℕ). nat_eq a.number b.number) mounts ≡ false
    → (top number steps : ℕ) → steps ≡ length mounts → meets mounts top steps number
    ≡ list_any (λ other. nat_eq other.number number) (mount_tree nat_eq mounts (mount_in nat_eq mounts top))
met_from mounts one top number steps all = ap (λ n. meets mounts top n number) all
    ∙ ap (λ t. meets mounts t (length mounts) number) (sym (number-mount_in mounts top))
    ∙ sym (met_in_tree mounts one (length mounts) (mount_in nat_eq mounts top) number)
