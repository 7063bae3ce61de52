-- The walk to a file: how deep symlinks may stand in one another's texts does not matter, and each step is kept.
use Rattle.std.proofs.Common.{◌≡◌, refl, sym, subst, ℕ, zero, suc, nat_eq, Bool, true, false, List, [], ◌∷◌, ◌≤◌, ◌||◌, length, reverse, Option, Some, None, Ok, Err, Result, arith, nat_lt, ◌==◌}
use Rattle.vt_spec.proofs.Common.{Dot, DotDot, Follow, Here, LastWord, Looks, Named, NoWord, Place, Rules, Stop, Task, all_met, and_then, common_steps, ends_in_slash, final_word, follow_rules, list_any, longest_name, most_symlinks, object_named, placed, search_rules, steps_at, stopped_by, symlink_of, symlink_start, symlink_there, then_walk, unless, walk_unless, words}
use Rattle.vt_laws_turns.proofs.Common.{Deny, W2, W7, W9, file_or_symlink, file_walked, followed, mount_at, prefix_walked}
use Rattle.vt_laws_turns.proofs.walks.by_words.Depths.{FollowAlike, Within, followed_same, one_left, start_long, texts_same, then_same, then_within, words_same}

pub length-all_met : (filesystems : List ℕ) (steps : List (List ℕ)) → length (all_met filesystems steps) ≡ length steps
length-all_met filesystems [] = refl
length-all_met filesystems (met ∷ steps) = refl

-- no fewer steps
abbrev pub Longer : ℕ → Result (Place ℕ) (Stop ℕ) → Type 0
Longer least (Ok place) = least ≤ length place.steps
Longer least (Err stop) = least ≤ length stop.steps

pub longer_then : (most least : ℕ) (a : Result (Here ℕ) (Stop ℕ)) (f : Here ℕ → Result (Place ℕ) (Stop ℕ))
    → Within most least a → ((here : Here ℕ) → here.left ≤ most → least ≤ length here.steps → Longer least (f here))
    → Longer least (then_walk a f)
longer_then most least (Ok here) f w next = next here w.0 w.1
longer_then most least (Err stop) f w next = w

pub longer_place : (least : ℕ) (a : Result (Place ℕ) (Stop ℕ)) (f : Place ℕ → Result (Place ℕ) (Stop ℕ))
    → Longer least a → ((place : Place ℕ) → least ≤ length place.steps → Longer least (f place))
    → Longer least (then_walk a f)
longer_place least (Ok place) f long next = next place long
longer_place least (Err stop) f long next = long

longer_followed : (least : ℕ) (steps : List (List ℕ)) (start : Here ℕ) (f : Here ℕ → Result (Place ℕ) (Stop ℕ))
    (a b c : Bool) → least ≤ length steps → Longer least (f start)
    → Longer least (then_walk (walk_unless steps ((a, W9) ∷ (b, W7) ∷ (c, W2) ∷ []) start) f)
longer_followed least steps start f a b c long next = grind (arith, common_steps)

module _ (looks : Looks ℕ) (task : Task ℕ) where
  -- where a parent walk ends
  placed_by : {A : Type 0} (least : ℕ) (steps : List (List ℕ)) (rules : Rules) (found : Result A Deny)
      (place : A → Place ℕ) → least ≤ length steps → ((a : A) → (place a).steps ≡ steps)
      → Longer least (stopped_by steps (and_then (unless rules found) (λ a. Ok (place a))))
  placed_by least steps [] (Ok a) place long same = subst (λ s. least ≤ length s) (sym (same a)) long
  placed_by least steps [] (Err deny) place long same = long
  placed_by least steps ((true, rule) ∷ rules) found place long same = long
  placed_by least steps ((false, rule) ∷ rules) found place long same =
      placed_by least steps rules found place long same

  named_long : (here : Here ℕ) (word : LastWord) (slash : Bool) (least : ℕ) → least ≤ length here.steps
      → Longer least (stopped_by (steps_at nat_eq looks task here word)
      (and_then (unless (search_rules nat_eq looks task here.location)
      (object_named nat_eq looks task here.location word)) (λ object. Ok (record {
        parent = here.location;
        last = word;
        object = object;
        slash = slash;
        steps = steps_at nat_eq looks task here word;
      }))))
  named_long here word slash least long =
      placed_by least (steps_at nat_eq looks task here word) (search_rules nat_eq looks task here.location)
      (object_named nat_eq looks task here.location word) (λ object. record {
        parent = here.location;
        last = word;
        object = object;
        slash = slash;
        steps = steps_at nat_eq looks task here word;
      }) (more (length here.steps) long) (λ object. refl)
    where
      more : (n : ℕ) → least ≤ n → least ≤ suc n
      more n h = omega (arith, h)

  pub placed_long : (here : Here ℕ) (word : LastWord) (slash : Bool) (least : ℕ) → least ≤ length here.steps
      → Longer least (placed nat_eq looks task here word slash)
  placed_long here NoWord slash least long = long
  placed_long here Dot slash least long = named_long here Dot slash least long
  placed_long here DotDot slash least long = named_long here DotDot slash least long
  placed_long here (Named name) slash least long = named_long here (Named name) slash least long

  -- the words of a path but the last
  pub prefix_within : (most : ℕ) (f : Follow ℕ) → FollowAlike looks task most f f → (here : Here ℕ) (least : ℕ)
      → here.left ≤ most → least ≤ length here.steps → (list : List (List ℕ))
      → Within most least (prefix_walked nat_eq looks task f here list)
  prefix_within most f alike here least few long [] = (few, long)
  prefix_within most f alike here least few long (word ∷ prefix) =
      (words_same looks task most f f alike here least few long prefix).1

  -- symlinks are followed as deep as there are some left
  pub follow_alike : (most : ℕ) → most ≤ most_symlinks
      → FollowAlike looks task most (followed nat_eq looks task) (followed nat_eq looks task)
  follow_alike most few = texts_same looks task most most_symlinks most_symlinks few few

  -- what comes after the first words and the last one of a path to a file
  abbrev pub file_from : ℕ → Here ℕ → Place ℕ → Bool → Option (List ℕ) → Result (Place ℕ) (Stop ℕ)
  file_from depth here place slash inner = file_or_symlink nat_eq looks place inner (λ text.
      then_walk (walk_unless place.steps (follow_rules nat_eq looks (symlink_of here place) text)
      (symlink_start nat_eq looks task here.location (symlink_of here place) text)) (λ next.
      file_walked nat_eq depth looks task next text slash))

  -- two depths are alike from there, if they are where one symlink less is left
  pub from_same : (most d e : ℕ)
      → ((less : ℕ) → most ≡ suc less → (next : Here ℕ) (text : List ℕ) (slash : Bool) → next.left ≤ less
      → file_walked nat_eq d looks task next text slash ≡ file_walked nat_eq e looks task next text slash)
      → (here : Here ℕ) → here.left ≤ most → (place : Place ℕ) (slash : Bool) (inner : Option (List ℕ))
      → file_from d here place slash inner ≡ file_from e here place slash inner
  from_same most d e same here few place slash None = refl
  from_same most d e same here few place slash (Some text) =
      followed_same place.steps (symlink_start nat_eq looks task here.location (symlink_of here place) text)
      (λ next. file_walked nat_eq d looks task next text slash)
      (λ next. file_walked nat_eq e looks task next text slash)
      (mount_at looks (symlink_of here place).location).flags.nosymfollow (here.left == 0)
      (list_any (λ word. nat_lt longest_name (length word)) (words text))
      (λ left. let one = one_left here.left most few left in
      same one.0 one.1 (symlink_start nat_eq looks task here.location (symlink_of here place) text) text slash one.2)

  file_by : (most d e : ℕ) → most ≤ most_symlinks
      → ((less : ℕ) → most ≡ suc less → (next : Here ℕ) (text : List ℕ) (slash : Bool) → next.left ≤ less
      → file_walked nat_eq d looks task next text slash ≡ file_walked nat_eq e looks task next text slash)
      → (start : Here ℕ) (text : List ℕ) (slash : Bool) → start.left ≤ most
      → file_walked nat_eq (suc d) looks task start text slash ≡ file_walked nat_eq (suc e) looks task start text slash
  file_by most d e small same start text slash few =
      then_within most 0 (prefix_walked nat_eq looks task (followed nat_eq looks task) start (reverse (words text))) _ _
      (prefix_within most (followed nat_eq looks task) (follow_alike most small) start 0 few (omega arith)
      (reverse (words text))) (λ here fewer long.
      then_same (placed nat_eq looks task here (final_word (reverse (words text))) (slash || ends_in_slash text)) _ _
      (λ place. from_same most d e same here fewer place (slash || ends_in_slash text)
      (symlink_there nat_eq looks place)))

  -- where no more symlinks are left to follow, two depths are alike
  pub files_same : (most d e : ℕ) → most ≤ d → most ≤ e → most ≤ most_symlinks → (start : Here ℕ) (text : List ℕ)
      (slash : Bool) → start.left ≤ most
      → file_walked nat_eq (suc d) looks task start text slash ≡ file_walked nat_eq (suc e) looks task start text slash
  files_same zero d e deep deeper small = file_by zero d e small (λ less same. absurd (omega (arith, same)))
  files_same (suc most) zero e deep deeper small = absurd (omega (arith, deep))
  files_same (suc most) (suc d) zero deep deeper small = absurd (omega (arith, deeper))
  files_same (suc most) (suc d) (suc e) deep deeper small =
      file_by (suc most) (suc d) (suc e) small (λ less same next text slash fewer.
      files_same most d e (omega (arith, deep)) (omega (arith, deeper)) (omega (arith, small)) next text slash
      (omega (arith, same, fewer)))

  -- each step is kept from there, if it is in what follows
  pub from_long : (depth : ℕ) (slash : Bool) (least : ℕ)
      → ((next : Here ℕ) (inside : List ℕ) → next.left ≤ most_symlinks → least ≤ length next.steps
      → Longer least (file_walked nat_eq depth looks task next inside slash))
      → (here : Here ℕ) → here.left ≤ most_symlinks → (place : Place ℕ) → least ≤ length place.steps
      → (inner : Option (List ℕ)) → Longer least (file_from depth here place slash inner)
  from_long depth slash least later here few place long inner =
      search (arith, common_steps, length-all_met, longer_followed, start_long)

  pub file_long : (depth : ℕ) (start : Here ℕ) (text : List ℕ) (slash : Bool) (least : ℕ) → start.left ≤ most_symlinks
      → least ≤ length start.steps → Longer least (file_walked nat_eq depth looks task start text slash)
  file_long zero start text slash least few long = long
  file_long (suc depth) start text slash least few long = longer_then most_symlinks least
      (prefix_walked nat_eq looks task (followed nat_eq looks task) start (reverse (words text))) (λ here. then_walk
      (placed nat_eq looks task here (final_word (reverse (words text))) (slash || ends_in_slash text)) (λ place.
      file_from depth here place (slash || ends_in_slash text) (symlink_there nat_eq looks place)))
      (prefix_within most_symlinks (followed nat_eq looks task) (follow_alike most_symlinks (omega arith)) start least
      few long (reverse (words text))) (λ here fewer longer. longer_place least
      (placed nat_eq looks task here (final_word (reverse (words text))) (slash || ends_in_slash text))
      (λ place. file_from depth here place (slash || ends_in_slash text) (symlink_there nat_eq looks place))
      (placed_long here (final_word (reverse (words text))) (slash || ends_in_slash text) least longer)
      (λ place more. from_long depth (slash || ends_in_slash text) least
      (λ next inside few_left many. file_long depth next inside (slash || ends_in_slash text) least few_left many)
      here fewer place more (symlink_there nat_eq looks place)))
