-- Tests of all elements of a list that pass another test.
use Rattle.std.proofs.Common.{◌≡◌, ℕ, Bool, true, false, not, cond, ◌&&◌, ◌||◌, List, [], ◌∷◌, ◌++◌, map, filter, flat_map, nat_eq, eqb-true, Option, None, Some, option_map, refl, sym, ap, ◌∙◌, IsPermutation}
use Rattle.vt_spec.proofs.Common.{Task, each_once, holds_of, list_all, list_all-append, list_any, list_any-IsPermutation, list_any-append, or-false}
use Rattle.vt_location.proofs.AskedLemmas.{any_mapped, any_same, holds_mapped}
use Rattle.vt_overlay.specs.declared.merge.layers.LayerRef.{LayerRef}
use Rattle.vt_overlay.specs.MergedTree.{OverlayValue}
use Rattle.vt_layered.specs.LayeredValue.{Above, LayeredValue, held_layers}
use Rattle.vt_store.specs.OverlaysValue.{OverlayEntry, Overlays, entry_kept, layered_of}
use Rattle.vt_tasks.specs.declared.task.Task.{Task as Held}
use Rattle.vt_tasks.specs.TaskValue.{task_of}

-- some task that is kept, in whatever order, passes just if some task does
pub some_task : (test : Task ℕ → Bool) (kept : List Held) (tasks : List (Task ℕ))
    → IsPermutation (map task_of kept) tasks → list_any (λ held. test (task_of held)) kept ≡ list_any test tasks
some_task test kept tasks moved =
    sym (any_mapped test task_of kept) ∙ list_any-IsPermutation test (map task_of kept) tasks moved

and_turned : (a b : Bool) → (a && b) ≡ (b && a)
and_turned true true = refl
and_turned true false = refl
and_turned false true = refl
and_turned false false = refl

and_not : (a b c : Bool) → c ≡ not b → (not a && c) ≡ not (a || b)
and_not true b c is = refl
and_not false b c is = is

-- what both fail
pub neither_of : (a b : Bool) → (not a && not b) ≡ not (a || b)
neither_of true b = refl
neither_of false b = refl

and_paired : (a b c d : Bool) → ((a && b) && (c && d)) ≡ ((a && c) && (b && d))
and_paired false b c d = refl
and_paired true b true d = refl
and_paired true true false d = refl
and_paired true false false d = refl

module _ {A : Type 0} where
  pub some_passing : (p q : A → Bool) (xs : List A) → list_any q (filter p xs) ≡ list_any (λ x. p x && q x) xs
  some_passing p q [] = refl
  some_passing p q (x ∷ xs) = by (p x) (some_passing p q xs)
    where
      by : (b : Bool) → list_any q (filter p xs) ≡ list_any (λ x. p x && q x) xs
          → list_any q (cond b (x ∷ filter p xs) (filter p xs)) ≡ ((b && q x) || list_any (λ x. p x && q x) xs)
      by true rest = ap (λ b. q x || b) rest
      by false rest = rest

  -- with the tests in the other order
  pub some_turned : (p q : A → Bool) (xs : List A) → list_any q (filter p xs) ≡ list_any (λ x. q x && p x) xs
  some_turned p q xs = some_passing p q xs
      ∙ any_same (λ x. p x && q x) (λ x. q x && p x) (λ x. and_turned (p x) (q x)) xs

  pub none_of : (q : A → Bool) (xs : List A) → list_all (λ x. not (q x)) xs ≡ not (list_any q xs)
  none_of q [] = refl
  none_of q (x ∷ xs) = and_not (q x) (list_any q xs) _ (none_of q xs)

  pub none_passing : (p q : A → Bool) (xs : List A)
      → list_all (λ x. not (q x)) (filter p xs) ≡ not (list_any (λ x. p x && q x) xs)
  none_passing p q xs = none_of q (filter p xs) ∙ ap not (some_passing p q xs)

  pub all_same : (p q : A → Bool) → ((x : A) → p x ≡ q x) → (xs : List A) → list_all p xs ≡ list_all q xs
  all_same p q alike [] = refl
  all_same p q alike (x ∷ xs) = λ i. alike x i && all_same p q alike xs i

  pub all_mapped : {B : Type 0} (p : A → Bool) (f : B → A) (xs : List B)
      → list_all p (map f xs) ≡ list_all (λ x. p (f x)) xs
  all_mapped p f [] = refl
  all_mapped p f (x ∷ xs) = ap (λ b. p (f x) && b) (all_mapped p f xs)

  pub some_within : {B : Type 0} (p : A → Bool) (f : B → List A) (xs : List B)
      → list_any p (flat_map f xs) ≡ list_any (λ x. list_any p (f x)) xs
  some_within p f [] = refl
  some_within p f (x ∷ xs) =
      list_any-append p (f x) (flat_map f xs) ∙ ap (λ b. list_any p (f x) || b) (some_within p f xs)

  all_within : {B : Type 0} (p : A → Bool) (f : B → List A) (xs : List B)
      → list_all p (flat_map f xs) ≡ list_all (λ x. list_all p (f x)) xs
  all_within p f [] = refl
  all_within p f (x ∷ xs) =
      list_all-append p (f x) (flat_map f xs) ∙ ap (λ b. list_all p (f x) && b) (all_within p f xs)

  all_both : (p q : A → Bool) (xs : List A) → (list_all p xs && list_all q xs) ≡ list_all (λ x. p x && q x) xs
  all_both p q [] = refl
  all_both p q (x ∷ xs) = and_paired (p x) (list_all p xs) (q x) (list_all q xs)
      ∙ ap (λ b. (p x && q x) && b) (all_both p q xs)

  -- a list, and behind it what each of its elements adds
  pub all_with_theirs : (p : A → Bool) (f : A → List A) (xs : List A)
      → list_all p (xs ++ flat_map f xs) ≡ list_all (λ x. p x && list_all p (f x)) xs
  all_with_theirs p f xs = list_all-append p xs (flat_map f xs) ∙ ap (λ b. list_all p xs && b) (all_within p f xs)
      ∙ all_both p (λ x. list_all p (f x)) xs

  pub adding_same : {B : Type 0} (f g : A → List B) → ((x : A) → f x ≡ g x) → (xs : List A)
      → flat_map f xs ≡ flat_map g xs
  adding_same f g alike [] = refl
  adding_same f g alike (x ∷ xs) = λ i. alike x i ++ adding_same f g alike xs i

-- each number once, or as often as it stands there

without_one : (p : ℕ → Bool) (a : ℕ) (xs : List ℕ) → p a ≡ true
    → list_all p (filter (λ b. not (nat_eq a b)) xs) ≡ list_all p xs
without_one p a [] passes = refl
without_one p a (x ∷ xs) passes = by (nat_eq a x) refl (without_one p a xs passes)
  where
    by : (b : Bool) → nat_eq a x ≡ b
        → list_all p (filter (λ b. not (nat_eq a b)) xs) ≡ list_all p xs
        → list_all p (cond (not b) (x ∷ filter (λ b. not (nat_eq a b)) xs) (filter (λ b. not (nat_eq a b)) xs))
        ≡ (p x && list_all p xs)
    by true e rest = rest ∙ ap (λ b. b && list_all p xs) (sym passes ∙ ap p (eqb-true a x e))
    by false e rest = ap (λ b. p x && b) rest

pub all_once : (p : ℕ → Bool) (xs : List ℕ) → list_all p (each_once nat_eq xs) ≡ list_all p xs
all_once p [] = refl
all_once p (x ∷ xs) = by (p x) refl (all_once p xs)
  where
    by : (b : Bool) → p x ≡ b → list_all p (each_once nat_eq xs) ≡ list_all p xs → (b && list_all p (filter (λ b. not (nat_eq x b)) (each_once nat_eq xs)))
        ≡ (b && list_all p xs)
    by true e rest = without_one p x (each_once nat_eq xs) e ∙ rest
    by false e rest = refl

-- a test of two that both fail
pub neither : (a b : Bool) → (a || b) ≡ not (not a && not b)
neither true b = refl
neither false true = refl
neither false false = refl

-- what passes the first fails the second
pub unless_both : (a b : Bool) → (not a || b) ≡ not (a && not b)
unless_both true true = refl
unless_both true false = refl
unless_both false b = refl

-- what exists and passes, where something else holds
pub holds_both : {A : Type 0} (p : A → Bool) (b : Bool) (o : Option A)
    → (holds_of p o && b) ≡ holds_of (λ a. p a && b) o
holds_both p b None = refl
holds_both p b (Some a) = refl

-- an overlay that is found has all its layers, and what it has beside them
pub overlay_found : (test : OverlayValue → Option Above → Bool) (all : Overlays) (count : ℕ) (found : Option LayeredValue)
    → found ≡ layered_of all count
    → holds_of (λ (one : LayeredValue). test one.overlay one.above) found
    ≡ holds_of (λ (entry : OverlayEntry). test entry.overlay entry.above) (entry_kept all count)
overlay_found test all count found is = ap (holds_of (λ (one : LayeredValue). test one.overlay one.above)) is
    ∙ holds_mapped (λ (one : LayeredValue). test one.overlay one.above)
    (λ (entry : OverlayEntry). record { overlay = entry.overlay; above = entry.above }) (entry_kept all count)

-- it has the number under which it is found
pub counted_there : (p : OverlayEntry → Bool) (q : ℕ → Bool) (count : ℕ) (all : Overlays)
    → holds_of (λ (entry : OverlayEntry). p entry && q count) (entry_kept all count)
    ≡ holds_of (λ (entry : OverlayEntry). p entry && q entry.count) (entry_kept all count)
counted_there p q count [] = refl
counted_there p q count (entry ∷ all) = by (nat_eq count entry.count) refl (counted_there p q count all)
  where
    by : (b : Bool) → nat_eq count entry.count ≡ b
        → holds_of (λ (entry : OverlayEntry). p entry && q count) (entry_kept all count)
        ≡ holds_of (λ (entry : OverlayEntry). p entry && q entry.count) (entry_kept all count)
        → holds_of (λ (entry : OverlayEntry). p entry && q count) (cond b (Some entry) (entry_kept all count))
        ≡ holds_of (λ (entry : OverlayEntry). p entry && q entry.count) (cond b (Some entry) (entry_kept all count))
    by true e rest = ap (λ n. p entry && q n) (eqb-true count entry.count e)
    by false e rest = rest

-- what some layer that is held passes, one of the layers does, or the work directory
pub held_passes : (test : LayerRef → Bool) (overlay : OverlayValue) (above : Option Above)
    → (list_any test overlay.lowers || holds_of (λ (one : Above). test one.work) above)
    ≡ list_any test (held_layers overlay above)
held_passes test overlay None = or-false (list_any test overlay.lowers)
held_passes test overlay (Some above) = ap (λ b. list_any test overlay.lowers || b) (sym (or-false (test above.work)))
    ∙ sym (list_any-append test overlay.lowers (above.work ∷ []))
