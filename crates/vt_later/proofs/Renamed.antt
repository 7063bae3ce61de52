-- The tables of rename(2), one after another, and its walks.
use Rattle.std.proofs.Common.{◌≡◌, ◌++◌, Bool, Err, List, Ok, Result, ap, cond, false, nat_eq, refl, sym, ℕ, ◌∷◌, ◌∙◌}
use Rattle.vt_spec.proofs.Common.{Looks, Place, Rules, Task, and_then, is_directory_there, is_one_object, object_there, old_leaf_walk, old_word_rules, rename_new_walk, rename_rules, same_object_rules, unless, unless-let_through, walk_end}
use Rattle.vt_spec.specs.declared.errors.Deny.{Deny}
use Rattle.vt_spec.specs.declared.errors.Rule.{Rule}
use Rattle.vt_spec.specs.declared.errors.Rule.TheVariants.{F2}
use Rattle.vt_looks.specs.declared.places.Place.{Place as PlaceFound}
use Rattle.vt_rules.proofs.Refusals.{unless-stopped}
use Rattle.vt_walk.specs.WalkValue.{place_of}
use Rattle.vt_later.specs.Passing.{lets_pass, without}
use Rattle.vt_later.specs.Past.{EndsAtPlace, Refusal, table_past}
use Rattle.vt_later.proofs.Rows.{appended, behind_upper}
use Rattle.vt_later.proofs.Walked.{arrived}

-- one table of four parts, of which the second has F2
pub renamed_rows : (passed : List Rule) (kinds before behind rights layers : Rules) (no_upper : Bool) (asked : Refusal)
    → (no_upper ≡ false → asked ≡ table_past passed layers)
    → unless (without (lets_pass passed) kinds)
    (unless (without (lets_pass passed) (before ++ ((no_upper, F2) ∷ behind)))
    (unless (without (lets_pass passed) rights) asked))
    ≡ table_past passed (kinds ++ (before ++ ((no_upper, F2) ∷ (behind ++ (rights ++ layers)))))
renamed_rows passed kinds before behind rights layers no_upper asked e =
    let left : Rules → Refusal → Refusal = λ rows. λ answer. unless (without (lets_pass passed) rows) answer in
    ap (left kinds) (behind_upper passed before behind (behind ++ (rights ++ layers)) no_upper (left rights asked) (Ok tt)
    (λ upper. ap (λ answer. left behind (left rights answer)) (e upper)
    ∙ ap (left behind) (sym (appended (lets_pass passed) rights layers (Ok tt)))
    ∙ sym (appended (lets_pass passed) behind (rights ++ layers) (Ok tt))))
    ∙ sym (appended (lets_pass passed) kinds (before ++ ((no_upper, F2) ∷ (behind ++ (rights ++ layers)))) (Ok tt))

-- what rename(2) asks, step by step
module _ (looks : Looks ℕ) (task : Task ℕ) (passed : List Rule) (old new : List ℕ) where
  -- behind the second walk
  abbrev pub behind_to : Place ℕ → Place ℕ → Refusal
  behind_to from to = unless (without (lets_pass passed) (old_word_rules to))
      (cond (is_one_object nat_eq looks (object_there from) to.object)
      (table_past passed (same_object_rules nat_eq looks from to))
      (table_past passed (rename_rules nat_eq looks task from to (object_there from))))

  -- the second walk
  abbrev walk_of : Bool → Result (Place ℕ) Deny
  walk_of directory = walk_end (rename_new_walk nat_eq looks task new directory)

  -- behind the first walk
  abbrev behind_from : Place ℕ → Refusal
  behind_from from = unless (without (lets_pass passed) (old_word_rules from))
      (and_then (walk_of (is_directory_there nat_eq looks from)) (behind_to from))

  abbrev pub asked : Refusal
  asked = and_then (walk_end (old_leaf_walk nat_eq looks task old)) behind_from

  module _ (from : PlaceFound) (there : EndsAtPlace (walk_end (old_leaf_walk nat_eq looks task old)) from) where
    begun : asked ≡ behind_from (place_of from)
    begun = arrived (walk_end (old_leaf_walk nat_eq looks task old)) from behind_from (λ seen. refl) there

    pub old_word_refused : (deny : Deny) → Err deny ≡ table_past passed (old_word_rules (place_of from))
        → asked ≡ Err deny
    old_word_refused deny e = begun ∙ unless-stopped (without (lets_pass passed) (old_word_rules (place_of from)))
        (and_then (walk_of (is_directory_there nat_eq looks (place_of from))) (behind_to (place_of from))) deny e

    module _ (named : Ok tt ≡ table_past passed (old_word_rules (place_of from))) where
      went_on : asked ≡ and_then (walk_of (is_directory_there nat_eq looks (place_of from))) (behind_to (place_of from))
      went_on = begun ∙ unless-let_through (without (lets_pass passed) (old_word_rules (place_of from)))
          (and_then (walk_of (is_directory_there nat_eq looks (place_of from))) (behind_to (place_of from))) named

      pub nowhere : (directory : Bool) (deny : Deny) → directory ≡ is_directory_there nat_eq looks (place_of from)
          → walk_of directory ≡ Err deny → asked ≡ Err deny
      nowhere directory deny same e = went_on
          ∙ ap (λ walked. and_then walked (behind_to (place_of from))) (ap walk_of (sym same) ∙ e)

      pub new_found : (directory : Bool) (to : PlaceFound) → directory ≡ is_directory_there nat_eq looks (place_of from)
          → EndsAtPlace (walk_of directory) to → asked ≡ behind_to (place_of from) (place_of to)
      new_found directory to same ends = went_on
          ∙ ap (λ walked. and_then walked (behind_to (place_of from))) (ap walk_of (sym same))
          ∙ arrived (walk_of directory) to (behind_to (place_of from)) (λ seen. refl) ends
