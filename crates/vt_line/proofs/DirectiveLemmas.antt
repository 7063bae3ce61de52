-- The tasks that the words of a directive name.
use Rattle.std.proofs.Common.{◌≡◌, ◌&&◌, ℕ, Bool, true, false, cond, List, ◌∷◌, length, Option, None, Some, is_some, nat_le, option_map, refl, sym, subst, ap, ◌∙◌, IsSomeAnd}
use Rattle.vt_spec.proofs.Common.{AskSealed, Directive, each_of, task_word, with_first}
use Rattle.vt_spec.specs.Language.Script.{some_tasks}
use Rattle.vt_line.specs.Calls.{KeepsNames}

-- all can be read, if the first can and the others
pub some_each : {A B : Type 0} (read : A → Option B) (a : A) (rest : List A)
    → is_some (each_of read (a ∷ rest)) ≡ (is_some (read a) && is_some (each_of read rest))
some_each {B = B} read a rest = by (read a) (each_of read rest)
  where
    by : (first : Option B) (others : Option (List B))
        → is_some (with_first first others) ≡ (is_some first && is_some others)
    by None others = refl
    by (Some b) None = refl
    by (Some b) (Some bs) = refl

-- by how many there are
some_by : (few : Bool) (names : Option (List (List ℕ)))
    → is_some (cond few (option_map AskSealed names) None) ≡ (few && is_some names)
some_by false names = refl
some_by true None = refl
some_by true (Some names) = refl

pub some_counted : (words : List (List ℕ)) → is_some (some_tasks words)
    ≡ ((nat_le 1 (length words) && nat_le (length words) 64) && is_some (each_of task_word words))
some_counted words = some_by _ (each_of task_word words)

-- the tasks of `sealed`, by the test of how many they are
named_if : (few : Bool) (names : Option (List (List ℕ)))
    → is_some (cond few (option_map AskSealed names) None) ≡ true → (is_some names ≡ true) × (few ≡ true)
named_if true None some = cc
named_if true (Some names) some = (refl, refl)
named_if false names some = cc

-- what is read of words that name tasks
pub some_named : (words : List (List ℕ)) → is_some (some_tasks words) ≡ true
    → is_some (each_of task_word words) ≡ true
some_named words some = (named_if _ (each_of task_word words) some).0

pub named_read : (words : List (List ℕ)) (tasks : List (List ℕ)) → is_some (some_tasks words) ≡ true
    → each_of task_word words ≡ Some tasks → some_tasks words ≡ Some (AskSealed tasks)
named_read words tasks some read =
    let few = (named_if _ (each_of task_word words) some).1 in
    ap (λ few. cond few (option_map AskSealed (each_of task_word words)) None) few ∙ ap (option_map AskSealed) read

pub none_read : (asked : Option Directive) → is_some asked ≡ false → asked ≡ None
none_read None none = refl
none_read (Some directive) none = cc

pub named_keeps : (words : List (List ℕ)) → is_some (some_tasks words) ≡ true → IsSomeAnd (some_tasks words) KeepsNames
named_keeps words some = by (each_of task_word words) refl (some_named words some)
  where
    by : (names : Option (List (List ℕ))) → each_of task_word words ≡ names → is_some names ≡ true
        → IsSomeAnd (some_tasks words) KeepsNames
    by None read there = cc
    by (Some names) read there =
        subst (λ asked. IsSomeAnd asked KeepsNames) (sym (named_read words names some read)) tt
