-- Words have one way at most.
use Rattle.std.proofs.Common.{◌≡◌, refl, sym, ap, subst, ℕ, nat_eq, List, ◌∷◌, ◌++◌, Option, Some, None, Ok, Result}
use Rattle.vt_spec.proofs.Common.{Location, Task, World, node_at, start_of, symlink_text, words}
use Rattle.vt_laws_trees.specs.Calls.Searched.{Way, WaysAreOne}
use Rattle.vt_laws_trees.specs.Calls.Searched.Way.{arrives, follows, goes_on}
use Rattle.vt_spec.specs.declared.errors.Deny.{Deny}

one_place : (r : Result (Location ℕ) Deny) (a b : Location ℕ) → r ≡ Ok a → r ≡ Ok b → a ≡ b
one_place r a b e f = cc

one_text : (o : Option (List ℕ)) (a b : List ℕ) → o ≡ Some a → o ≡ Some b → a ≡ b
one_text o a b e f = cc

text_or_none : (o : Option (List ℕ)) (a : List ℕ) → o ≡ None → o ≡ Some a → ⊥
text_or_none o a e f = cc

module _ (world : World ℕ) (task : Task ℕ) where
  pub one_way : {start end other_end : Location ℕ} {path_words : List (List ℕ)} {passed other_passed : List
      (Location ℕ)}
      → Way world task start path_words passed end → Way world task start path_words other_passed other_end
      → (passed ≡ other_passed) × (end ≡ other_end)
  one_way (arrives here) (arrives there) = (refl, refl)
  one_way (goes_on here next end word rest passed step plain way)
      (goes_on there other other_end again further others stepped plainly after) =
      let same : next ≡ other = one_place _ next other step stepped in
      let both = one_way way (subst (λ n. Way world task n rest others other_end) (sym same) after) in
      (ap (λ list. here ∷ list) both.0, both.1)
  one_way (goes_on here next end word rest passed step plain way)
      (follows there link inside other_end again text further in_text others stepped linked inner after) =
      absurd (text_or_none _ text (subst (λ n. symlink_text (node_at nat_eq world n) ≡ None)
      (one_place _ next link step stepped) plain) linked)
  one_way (follows here link inside end word text rest in_text passed step linked inner way)
      (goes_on there next other_end again further others stepped plain after) =
      absurd (text_or_none _ text (subst (λ n. symlink_text (node_at nat_eq world n) ≡ None)
      (one_place _ next link stepped step) plain) linked)
  one_way (follows here link inside end word text rest in_text passed step linked inner way)
      (follows there other within other_end again other_text further in_other others stepped otherwise deeper after) =
      let same : link ≡ other = one_place _ link other step stepped in
      let texts : text ≡ other_text = one_text _ text other_text linked (cc (same, otherwise)) in
      let inside_both = one_way inner
      (subst (λ t. Way world task (start_of task here t) (words t) in_other within) (sym texts) deeper) in
      let both = one_way way (subst (λ n. Way world task n rest others other_end) (sym inside_both.1) after) in
      ((λ i. here ∷ (inside_both.0 i ++ both.0 i)), both.1)

pub ways_are_one : WaysAreOne
ways_are_one world task start end other_end path_words passed other_passed way other = one_way world task way other
