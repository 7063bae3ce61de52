-- What is held of filesystems.
use Rattle.std.proofs.Common.{◌<◌, ◌≤◌, drop, length, add-one, ◌≡◌, refl, sym, ap, ◌∙◌, ℕ, ◌+◌, nat_eq, Bool, true, false, cond, ◌||◌, List, [], ◌∷◌, ◌++◌, map}
use Rattle.std.specs.List.{list_any}
use Rattle.std.specs.Prelude.{slice_index_or}
use Rattle.std.proofs.Math.Seq.{drop-cons}
use Rattle.std.proofs.lemmas.List.{drop_all, map-append}
use Rattle.vt_spec.specs.Machine.Turns.{Progress as Meant, filesystem_change_of, hold_one, one_further}
use Rattle.vt_spec.specs.Machine.World.{World}
use Rattle.vt_location.specs.declared.numbers.FilesystemId.{FilesystemId}
use Rattle.vt_location.specs.Numbers.{filesystem_number}
use Rattle.vt_location.proofs.NumberLemmas.{counted_test}
use Rattle.vt_turns.specs.Going.{also_holding}
use Rattle.vt_turns.specs.ProgressValue.{held_meant}

-- this number is held
abbrev pub is_held : FilesystemId → List (FilesystemId × ℕ) → Bool
is_held filesystem held = list_any (λ (one : FilesystemId × ℕ). nat_eq filesystem.count one.0.count) held

held_alike : (filesystem : FilesystemId) (held : List (FilesystemId × ℕ))
    → list_any (λ (other : ℕ × ℕ). nat_eq (filesystem_number filesystem) other.0) (map held_meant held)
    ≡ is_held filesystem held
held_alike filesystem [] = refl
held_alike filesystem (one ∷ held) =
    ap (λ b. b || list_any (λ (other : ℕ × ℕ). nat_eq (filesystem_number filesystem) other.0) (map held_meant held))
    (counted_test filesystem.count one.0.count)
    ∙ ap (λ b. nat_eq filesystem.count one.0.count || b) (held_alike filesystem held)

module _ (world : World ℕ) (filesystem : FilesystemId) (held : List (FilesystemId × ℕ)) where
  -- what is held stays, where the number is held already,
  pub stays_held : is_held filesystem held ≡ true
      → hold_one nat_eq world (map held_meant held) (filesystem_number filesystem) ≡ map held_meant held
  stays_held is = ap (λ b. cond b (map held_meant held) (map held_meant held
      ++ ((filesystem_number filesystem, filesystem_change_of nat_eq world (filesystem_number filesystem)) ∷ [])))
      (held_alike filesystem held ∙ is)

  -- and else it is held too
  pub now_held : is_held filesystem held ≡ false → (change : ℕ)
      → change ≡ filesystem_change_of nat_eq world (filesystem_number filesystem)
      → hold_one nat_eq world (map held_meant held) (filesystem_number filesystem)
      ≡ map held_meant (held ++ (filesystem, change) ∷ [])
  now_held not_held change is = ap (λ b. cond b (map held_meant held) (map held_meant held
      ++ ((filesystem_number filesystem, filesystem_change_of nat_eq world (filesystem_number filesystem)) ∷ [])))
      (held_alike filesystem held ∙ not_held)
      ∙ ap (λ n. map held_meant held ++ ((filesystem_number filesystem, n) ∷ [])) (sym is)
      ∙ sym (map-append held_meant held ((filesystem, change) ∷ []))

-- a call with what is held of filesystems
abbrev pub with_held : Meant ℕ → List (ℕ × ℕ) → Meant ℕ
with_held progress held = record progress { filesystems = held }

-- a call of which one word more was walked
abbrev pub one_more : Meant ℕ → Meant ℕ
one_more progress = record progress { walked = progress.walked + 1 }

-- Of the filesystems that a word met, those below this place are held: one more is,
pub next_met_held : (world : World ℕ) (met : List FilesystemId) (place : ℕ) (one : FilesystemId) (before now : Meant ℕ)
    → place < length met → now ≡ also_holding world before (filesystem_number (slice_index_or met place one))
    → one_further nat_eq world (map filesystem_number (drop (place + 1) met)) now
    ≡ one_further nat_eq world (map filesystem_number (drop place met)) before
next_met_held world met place one before now within is =
    ap (one_further nat_eq world (map filesystem_number (drop (place + 1) met))) is
    ∙ ap (λ n. one_further nat_eq world (map filesystem_number (drop n met))
    (also_holding world before (filesystem_number (slice_index_or met place one)))) (add-one place)
    ∙ sym (ap (λ list. one_further nat_eq world (map filesystem_number list) before) (drop-cons met place one within))

-- and at last all are.
pub all_met_held : (world : World ℕ) (met : List FilesystemId) (place : ℕ) (now : Meant ℕ) → length met ≤ place
    → one_further nat_eq world (map filesystem_number (drop place met)) now ≡ one_more now
all_met_held world met place now over =
    ap (λ list. one_further nat_eq world (map filesystem_number list) now) (drop_all place met over)
