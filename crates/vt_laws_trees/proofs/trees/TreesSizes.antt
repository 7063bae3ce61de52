-- The last word of a path is a name within the limits.
use Rattle.std.proofs.Common.{arith, ◌≡◌, refl, true≢false, ℕ, zero, suc, ◌+◌, nat_le, nat_lt, le-leb, ltb-false, Bool, true, false, not, cond, List, [], ◌∷◌, length, reverse, ◌&&◌, ◌||◌, Option, Some, None, is_some, Result, nat_eq, filter}
use Rattle.vt_spec.proofs.Common.{Dot, DotDot, Here, LastWord, Named, NoWord, Place, Stop, Task, World, and_parts, common_steps, ends_in_slash, file_or_symlink, file_walked, final_word, followed, is_empty, is_special, list_all, list_any, longest_name, longest_path, most_symlinks, name_of, new_name_rules, or_false_left, or_parts, parts, path_rules, path_text, prefix_walked, symlink_of, then_walk, walk_start, walk_unless, words, ⊤}
use mathlib.Core.List.{reverse_aux}
use Rattle.vt_spec.specs.declared.errors.Rule.TheVariants.{W6}
use Rattle.vt_spec.proofs.Walk.{file_walk, follow_rules, symlink_start, symlink_there, new_leaf_walk, new_walk, object_named, place_walk, placed, search_rules, steps_at}
use Rattle.vt_laws_trees.specs.Trees.Sizes.{is_fit_name}
use Rattle.vt_laws_trees.proofs.trees.TreesTasks.{and_from}
use Rattle.vt_laws_trees.proofs.trees.TreesWalked.{Ends, ends_next, ends_step, ends_then, ends_unless}

pub no_longer : (most : ℕ) (bytes : List ℕ) → nat_lt most (length bytes) ≡ false → nat_le (length bytes) most ≡ true
no_longer most bytes h = le-leb (length bytes) most (ltb-false most (length bytes) h)

-- words that are not too long are names
parts_fit : (list : List (List ℕ))
    → list_any (λ word. nat_lt longest_name (length word)) (filter (λ part. not (is_empty part)) list) ≡ false
    → list_all is_fit_name (filter (λ part. not (is_empty part)) list) ≡ true
parts_fit [] h = refl
parts_fit (part ∷ list) h = by (is_empty part) refl h (λ g. parts_fit list g)
  where
    by : (b : Bool) → is_empty part ≡ b → list_any (λ word. nat_lt longest_name (length word))
        (cond (not b) (part ∷ filter (λ p. not (is_empty p)) list) (filter (λ p. not (is_empty p)) list)) ≡ false
        → (list_any (λ word. nat_lt longest_name (length word)) (filter (λ p. not (is_empty p)) list) ≡ false
        → list_all is_fit_name (filter (λ p. not (is_empty p)) list) ≡ true)
        → list_all is_fit_name (cond (not b) (part ∷ filter (λ p. not (is_empty p)) list)
        (filter (λ p. not (is_empty p)) list)) ≡ true
    by b e g rest = grind (arith, common_steps, or_false_left, or_parts, and_from, no_longer)

all_turned : (test : List ℕ → Bool) (list done : List (List ℕ)) → list_all test list ≡ true → list_all test done ≡ true
    → list_all test (reverse_aux list done) ≡ true
all_turned test [] done h k = k
all_turned test (x ∷ list) done h k = all_turned test list (x ∷ done) ((and_parts (test x) (list_all test list) h).1)
    (and_from (test x) (list_all test done) ((and_parts (test x) (list_all test list) h).0) k)

all_reversed : (test : List ℕ → Bool) (list : List (List ℕ)) → list_all test list ≡ true
    → list_all test (reverse list) ≡ true
all_reversed test list h = all_turned test list [] h refl

-- a last word that is a name is within the limits
abbrev pub IsFitWord : LastWord → Type 0
IsFitWord NoWord = ⊤
IsFitWord Dot = ⊤
IsFitWord DotDot = ⊤
IsFitWord (Named name) = is_fit_name name ≡ true

pub fit_name_of : (last : LastWord) → is_special last ≡ false → IsFitWord last → is_fit_name (name_of last) ≡ true
fit_name_of NoWord plain fit = absurd (true≢false plain)
fit_name_of Dot plain fit = absurd (true≢false plain)
fit_name_of DotDot plain fit = absurd (true≢false plain)
fit_name_of (Named name) plain fit = fit

final_fits : (list : List (List ℕ)) → list_all is_fit_name list ≡ true → IsFitWord (final_word list)
final_fits list h = grind (arith, common_steps, and_parts)

-- a text whose words are names
abbrev pub HasFitWords : List ℕ → Type 0
HasFitWords text = list_any (λ word. nat_lt longest_name (length word)) (words text) ≡ false

last_fits : (text : List ℕ) → HasFitWords text → IsFitWord (final_word (reverse (words text)))
last_fits text h = final_fits (reverse (words text))
    (all_reversed is_fit_name (words text) (parts_fit (parts 47 text) h))

module _ (world : World ℕ) (task : Task ℕ) where
  abbrev pub HasFitLast : Place ℕ → Type 0
  HasFitLast place = IsFitWord place.last

  fit_placed : (here : Here ℕ) (word : LastWord) (slash : Bool) → IsFitWord word
      → Ends HasFitLast (placed nat_eq world task here word slash)
  fit_placed here NoWord slash fit = tt
  fit_placed here Dot slash fit =
      ends_step HasFitLast (steps_at nat_eq world task here Dot) (search_rules nat_eq world task here.location)
      (object_named nat_eq world task here.location Dot) _ (λ passed object e. tt)
  fit_placed here DotDot slash fit =
      ends_step HasFitLast (steps_at nat_eq world task here DotDot) (search_rules nat_eq world task here.location)
      (object_named nat_eq world task here.location DotDot) _ (λ passed object e. tt)
  fit_placed here (Named name) slash fit =
      ends_step HasFitLast (steps_at nat_eq world task here (Named name)) (search_rules nat_eq world task here.location)
      (object_named nat_eq world task here.location (Named name)) _ (λ passed object e. fit)

  fit_text : (path : List ℕ) → Ends HasFitWords (path_text path)
  fit_text path = ends_unless HasFitWords [] (path_rules path) path
      (λ passed. (or_parts (nat_lt longest_path (length path))
      (list_any (λ word. nat_lt longest_name (length word)) (words path)) passed.1.0).1)

  fit_place_walk : (path : List ℕ) → Ends HasFitLast (place_walk nat_eq world task path)
  fit_place_walk path = ends_then HasFitWords HasFitLast _ _ (fit_text path) (λ text fit. ends_next HasFitLast
      (prefix_walked nat_eq world task (followed nat_eq world task) (walk_start task text) (reverse (words text)))
      (λ here. placed nat_eq world task here _ _) (λ here. fit_placed here _ (ends_in_slash text) (last_fits text fit)))

  pub fit_new_walk : (path : List ℕ) → Ends HasFitLast (new_walk nat_eq world task path)
  fit_new_walk path = ends_then HasFitLast HasFitLast (place_walk nat_eq world task path) _ (fit_place_walk path)
      (λ place fit. ends_unless HasFitLast place.steps (new_name_rules nat_eq world place) place (λ passed. fit))

  pub fit_new_leaf_walk : (path : List ℕ) → Ends HasFitLast (new_leaf_walk nat_eq world task path)
  fit_new_leaf_walk path = ends_then HasFitLast HasFitLast (new_walk nat_eq world task path) _ (fit_new_walk path)
      (λ place fit. ends_unless HasFitLast place.steps ((place.slash && not (is_some place.object), W6) ∷ []) place
      (λ passed. fit))

  -- files: each link's text has been looked at too
  abbrev linked_file : ℕ → List ℕ → Bool → Here ℕ → Place ℕ → List ℕ → Result (Place ℕ) (Stop ℕ)
  linked_file depth text slash here place inner =
      then_walk (walk_unless place.steps (follow_rules nat_eq world (symlink_of here place) inner)
      (symlink_start nat_eq world task here.location (symlink_of here place) inner))
      (λ next. file_walked nat_eq depth world task next inner (slash || ends_in_slash text))

  fit_file_or_link : (place : Place ℕ) (text : Option (List ℕ)) (follow : List ℕ → Result (Place ℕ) (Stop ℕ))
      → HasFitLast place → ((inner : List ℕ) → Ends HasFitLast (follow inner))
      → Ends HasFitLast (file_or_symlink nat_eq world place text follow)
  fit_file_or_link place None follow fit rest = fit
  fit_file_or_link place (Some text) follow fit rest = rest text

  fit_file_walked : (depth : ℕ) (start : Here ℕ) (text : List ℕ) (slash : Bool) → HasFitWords text
      → Ends HasFitLast (file_walked nat_eq depth world task start text slash)
  fit_file_walked zero start text slash fit = tt
  fit_file_walked (suc depth) start text slash fit = ends_next HasFitLast
      (prefix_walked nat_eq world task (followed nat_eq world task) start (reverse (words text))) (λ here. then_walk
      (placed nat_eq world task here (final_word (reverse (words text))) (slash || ends_in_slash text)) (λ place.
      file_or_symlink nat_eq world place (symlink_there nat_eq world place) (linked_file depth text slash here place)))
      (λ here. ends_then HasFitLast HasFitLast (placed nat_eq world task here _ (slash || ends_in_slash text)) (λ place.
      file_or_symlink nat_eq world place (symlink_there nat_eq world place) (linked_file depth text slash here place))
      (fit_placed here (final_word (reverse (words text))) (slash || ends_in_slash text) (last_fits text fit))
      (λ place last. fit_file_or_link place (symlink_there nat_eq world place)
      (linked_file depth text slash here place) last (λ inner. ends_then (λ next. HasFitWords inner)
      HasFitLast (walk_unless place.steps (follow_rules nat_eq world (symlink_of here place) inner)
      (symlink_start nat_eq world task here.location (symlink_of here place) inner))
      (λ next. file_walked nat_eq depth world task next inner (slash || ends_in_slash text))
      (ends_unless (λ next. HasFitWords inner) place.steps (follow_rules nat_eq world (symlink_of here place) inner)
      (symlink_start nat_eq world task here.location (symlink_of here place) inner) (λ passed. passed.1.1.0))
      (λ next inside. fit_file_walked depth next inner (slash || ends_in_slash text) inside))))

  pub fit_file_walk : (path : List ℕ) → Ends HasFitLast (file_walk nat_eq world task path)
  fit_file_walk path = ends_then HasFitWords HasFitLast (path_text path) _ (fit_text path) (λ text fit.
      ends_then HasFitLast HasFitLast
      (file_walked nat_eq (most_symlinks + 1) world task (walk_start task text) text false) _
      (fit_file_walked (most_symlinks + 1) (walk_start task text) text false fit) (λ place last.
      ends_unless HasFitLast place.steps (new_name_rules nat_eq world place) place (λ passed. last)))
