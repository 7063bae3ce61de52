-- Tests on what items mean.
use Rattle.std.proofs.Common.{◌≡◌, refl, ap, ℕ, Bool, true, false, cond, ◌||◌, List, [], ◌∷◌, map, filter, find, Some, option_map}
use Rattle.std.specs.List.{list_any}
use Rattle.vt_spec.specs.Language.Calls.{TaskName, same_name}
use Rattle.vt_spec.specs.Machine.Turns.{without_progress}
use Rattle.vt_spec.specs.Machine.World.{World}
use Rattle.vt_location.specs.declared.numbers.FilesystemId.{FilesystemId}
use Rattle.vt_turns.specs.Going.{found_under_way, is_any_stale}
use Rattle.vt_turns.specs.Kept.{others, progress_of}
use Rattle.vt_turns.specs.ProgressValue.{held_meant, is_stale_in}
use Rattle.vt_turns.specs.declared.progress.UnderWay.{UnderWay}

module _ {A B : Type 0} (meaning : A → B) (test : B → Bool) where
  pub any_meant : (list : List A) → list_any test (map meaning list) ≡ list_any (λ a. test (meaning a)) list
  any_meant [] = refl
  any_meant (a ∷ list) = ap (λ b. test (meaning a) || b) (any_meant list)

  pub find_meant : (list : List A) → find test (map meaning list)
      ≡ option_map meaning (find (λ a. test (meaning a)) list)
  find_meant [] = refl
  find_meant (a ∷ list) = by (test (meaning a)) (find_meant list)
    where
      by : (b : Bool) → find test (map meaning list) ≡ option_map meaning (find (λ a. test (meaning a)) list)
          → cond b (Some (meaning a)) (find test (map meaning list))
          ≡ option_map meaning (cond b (Some a) (find (λ a. test (meaning a)) list))
      by true e = refl
      by false e = e

  pub filter_meant : (list : List A) → filter test (map meaning list)
      ≡ map meaning (filter (λ a. test (meaning a)) list)
  filter_meant [] = refl
  filter_meant (a ∷ list) = by (test (meaning a)) (filter_meant list)
    where
      by : (b : Bool) → filter test (map meaning list) ≡ map meaning (filter (λ a. test (meaning a)) list)
          → cond b (meaning a ∷ filter test (map meaning list)) (filter test (map meaning list))
          ≡ map meaning (cond b (a ∷ filter (λ a. test (meaning a)) list) (filter (λ a. test (meaning a)) list))
      by true e = ap (λ rest. meaning a ∷ rest) e
      by false e = e

pub any_stale : (world : World ℕ) (held : List (FilesystemId × ℕ)) → is_any_stale world (map held_meant held)
    ≡ list_any (is_stale_in world) held
any_stale world held = any_meant held_meant _ held

pub found_meant : (name : TaskName) (under_way : List UnderWay)
    → found_under_way (map progress_of under_way) name
    ≡ option_map progress_of (find (λ (held : UnderWay). same_name name held.progress.task) under_way)
found_meant name under_way = find_meant progress_of _ under_way

pub dropped_meant : (name : TaskName) (under_way : List UnderWay)
    → without_progress name (map progress_of under_way) ≡ map progress_of (others name under_way)
dropped_meant name under_way = filter_meant progress_of _ under_way
