-- Each directory on the way of a walk is searched: one word.
use Rattle.std.proofs.Common.{Bool, Ok, false, nat_eq, refl, true≢false, ℕ, ◌≡◌}
use Rattle.vt_spec.proofs.Common.{Dot, DotDot, Here, LastWord, Location, Named, NoWord, NoneFails, Place, Task, World, is_no_word}
use Rattle.vt_laws_trees.specs.Calls.Searched.{EachLastWordIsLookedUpByRight, EachWordIsLookedUpByRight, IsSearchable}
use Rattle.vt_spec.proofs.Walk.{object_named, placed, search_rules, stepped, steps_at, steps_with, word_walked}
use Rattle.vt_laws_trees.proofs.trees.TreesWalked.{Ends, at_end, ends_step, not-false}

module _ (world : World ℕ) (task : Task ℕ) where
  searchable : (here : Location ℕ) → NoneFails (search_rules nat_eq world task here) → IsSearchable world task here
  searchable here passed =
      record {
        directory = not-false _ passed.0;
        by_task = not-false _ passed.1.0;
        by_mounter = not-false _
            passed.1.1.0;
      }

  -- the place where a word was looked up, and where it leads
  abbrev pub IsStep : Location ℕ → LastWord → Here ℕ → Type 0
  IsStep here word next = IsSearchable world task here × (stepped nat_eq world task here word ≡ Ok next.location)

  pub word_step : (here : Here ℕ) (word : LastWord)
      → Ends (IsStep here.location word) (word_walked nat_eq world task here word)
  word_step here word = ends_step (IsStep here.location word) (steps_with nat_eq world task here word)
      (search_rules nat_eq world task here.location)
      (stepped nat_eq world task here.location word) _ (λ passed reached e. (searchable here.location passed, e))

  -- where the last word of a path was looked up, and what it names there
  pub record IsNamedAt (here : Location ℕ) (word : LastWord) (place : Place ℕ) : Type 0 where
    pub parent : place.parent ≡ here
    pub last : place.last ≡ word
    pub searched : is_no_word word ≡ false → IsSearchable world task here
    pub object : object_named nat_eq world task here word ≡ Ok place.object

  pub placed_step : (here : Here ℕ) (word : LastWord) (slash : Bool)
      → Ends (IsNamedAt here.location word) (placed nat_eq world task here word slash)
  placed_step here NoWord slash =
      record { parent = refl; last = refl; searched = λ some. absurd (true≢false some); object = refl }
  placed_step here Dot slash = ends_step (IsNamedAt here.location Dot) (steps_at nat_eq world task here Dot)
      (search_rules nat_eq world task here.location)
      (object_named nat_eq world task here.location Dot) _ (λ passed object e.
      record { parent = refl; last = refl; searched = λ some. searchable here.location passed; object = e })
  placed_step here DotDot slash = ends_step (IsNamedAt here.location DotDot) (steps_at nat_eq world task here DotDot)
      (search_rules nat_eq world task here.location) (object_named nat_eq world task here.location DotDot) _
      (λ passed object e.
      record { parent = refl; last = refl; searched = λ some. searchable here.location passed; object = e })
  placed_step here (Named name) slash =
      ends_step (IsNamedAt here.location (Named name)) (steps_at nat_eq world task here (Named name))
      (search_rules nat_eq world task here.location) (object_named nat_eq world task here.location (Named name)) _
      (λ passed object e.
      record { parent = refl; last = refl; searched = λ some. searchable here.location passed; object = e })

pub each_word_is_looked_up_by_right : EachWordIsLookedUpByRight
each_word_is_looked_up_by_right world task here next word e = (at_end _ _ next (word_step world task here word) e).0

pub each_last_word_is_looked_up_by_right : EachLastWordIsLookedUpByRight
each_last_word_is_looked_up_by_right world task here place word slash some e =
    (at_end (IsNamedAt world task here.location word) _ place (placed_step world task here word slash) e).searched some
