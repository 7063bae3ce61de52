-- Walks are refused by the rules of walks alone.
use Rattle.std.proofs.Common.{arith, refl, ℕ, zero, suc, Bool, false, List, [], ◌∷◌, ◌+◌, ◌||◌, reverse, Option, ok_or, Result, Ok}
use Rattle.vt_spec.proofs.Common.{Dot, DotDot, Follow, Here, LastWord, Location, Named, NoWord, OverlayWords, Place, Stop, Task, World, and_then, common_steps, denial, ends_in_slash, file_or_symlink, file_walked, final_word, followed, if_symlink, last_walked, last_word, most_symlinks, path_rules, path_text, path_walked, prefix_walked, stopped_by, symlink_of, unless, walk_start, words, work_walked}
use Rattle.vt_laws_rules.specs.RuleOrder.{walk_rules}
use Rattle.vt_laws_rules.proofs.rules.Outcomes.{RefusesOwn, StopsOwn, and_then_own, stopped_own, then_walk_own, unless_own, walk_end_own, walk_unless_own}
use Rattle.vt_spec.specs.declared.errors.Deny.{Deny}
use Rattle.vt_spec.specs.declared.errors.Rule.TheVariants.{W6}
use Rattle.vt_spec.proofs.Tables.{destination_walk, each_walked, layers_walked, source_walk, walked_if_given, rename_new_walk}
use Rattle.vt_spec.proofs.Walk.{directory_walk, entry_location, file_walk, follow_rules, hops, symlink_start, symlink_there, symlink_walk, symlink_walk_by, symlink_walked, new_leaf_walk, new_walk, object_named, object_walk, old_leaf_walk, old_walk, place_walk, placed, search_rules, slash_rules, stepped, up_from, word_walked, words_walked}

-- stopped by a rule of walks
abbrev pub StopsAsWalk : {A N : Type 0} → Result A (Stop N) → Type 0
StopsAsWalk walk = StopsOwn walk_rules walk

abbrev pub RefusesAsWalk : {A : Type 0} → Result A Deny → Type 0
RefusesAsWalk result = RefusesOwn walk_rules result

found : {A : Type 0} (object : Option A) → RefusesAsWalk (ok_or object (denial W6))
found object = grind (arith, common_steps)

module _ {N : Type 0} (eq : N → N → Bool) (world : World N) (task : Task N) where
  text_walks : (path : List ℕ) → StopsAsWalk {N = N} (path_text path)
  text_walks path = walk_unless_own walk_rules [] (path_rules path) path refl

  up_steps : (here : Location N) → RefusesAsWalk (up_from eq world task here)
  up_steps here = grind (arith, common_steps)

  steps : (here : Location N) (word : LastWord) → RefusesAsWalk (stepped eq world task here word)
  steps here word = grind (arith, common_steps, up_steps, hops, found, entry_location)

  word_walks : (here : Here N) (word : LastWord) → StopsAsWalk (word_walked eq world task here word)
  word_walks here word = stopped_own walk_rules _ _ (and_then_own walk_rules _ _
      (unless_own walk_rules (search_rules eq world task here.location) (stepped eq world task here.location word) refl
      (steps here.location word)) (λ reached. tt))

  -- the walk of a link's text is stopped by a rule of walks
  abbrev FollowsAsWalk : Follow N → Type 0
  FollowsAsWalk follow = (inside : Location N) (next : Here N) (inner : List ℕ) → StopsAsWalk (follow inside next inner)

  if_link_walks : (here : Here N) (text : Option (List ℕ)) (follow : List ℕ → Result (Here N) (Stop N))
      → ((inner : List ℕ) → StopsAsWalk (follow inner)) → StopsAsWalk (if_symlink here text follow)
  if_link_walks here text follow h = grind (arith, common_steps)

  words_walk : (follow : Follow N) → FollowsAsWalk follow → (here : Here N) (front : List (List ℕ))
      → StopsAsWalk (words_walked eq world task follow here front)
  words_walk follow h here [] = tt
  words_walk follow h here (word ∷ front) =
      then_walk_own walk_rules (words_walked eq world task follow here front) _ (words_walk follow h here front)
      (λ reached.
      then_walk_own walk_rules (word_walked eq world task reached (last_word word)) _
      (word_walks reached (last_word word)) (λ next.
      if_link_walks next _ (follow reached.location next) (h reached.location next)))

  link_walks : (depth : ℕ) → FollowsAsWalk (symlink_walked eq depth world task)
  link_walks zero directory link text = (refl, refl)
  link_walks (suc depth) directory link text = then_walk_own walk_rules _ _
      (walk_unless_own walk_rules link.steps (follow_rules eq world link text)
      (symlink_start eq world task directory link text) refl) (λ start.
      then_walk_own walk_rules (words_walked eq world task (symlink_walked eq depth world task) start
      (reverse (words text))) _
      (words_walk (symlink_walked eq depth world task) (link_walks depth) start (reverse (words text))) (λ reached.
      walk_unless_own walk_rules reached.steps (slash_rules eq world text reached.location) reached refl))

  follows : FollowsAsWalk (followed eq world task)
  follows directory link text = link_walks (most_symlinks + 1) directory link text

  path_walks : (path : List ℕ) → StopsAsWalk (path_walked eq world task path)
  path_walks path = grind (arith, common_steps, then_walk_own, text_walks, words_walk, follows)

  pub object_walks : (path : List ℕ) → StopsAsWalk (object_walk eq world task path)
  object_walks path = then_walk_own walk_rules (path_walked eq world task path) _ (path_walks path) (λ here.
      walk_unless_own walk_rules here.steps (slash_rules eq world path here.location) here refl)

  pub directory_walks : (path : List ℕ) → StopsAsWalk (directory_walk eq world task path)
  directory_walks path = grind (arith, common_steps, then_walk_own, path_walks, walk_unless_own)

  prefix_walks : (here : Here N) (words : List (List ℕ))
      → StopsAsWalk (prefix_walked eq world task (followed eq world task) here words)
  prefix_walks here words = grind (arith, common_steps, words_walk, follows)

  last_walks : (here : Here N) (word : LastWord) → StopsAsWalk (last_walked eq world task here word)
  last_walks here NoWord = tt
  last_walks here Dot = word_walks here Dot
  last_walks here DotDot = word_walks here DotDot
  last_walks here (Named name) = word_walks here (Named name)

  link_walks_by : (slash : Bool) (path : List ℕ) → StopsAsWalk (symlink_walk_by eq slash world task path)
  link_walks_by slash path =
      grind (arith, common_steps, object_walks, then_walk_own, text_walks, prefix_walks, last_walks)

  pub leaf_walks : (path : List ℕ) → StopsAsWalk (symlink_walk eq world task path)
  leaf_walks path = link_walks_by (ends_in_slash path) path

  names : (here : Location N) (word : LastWord) → RefusesAsWalk (object_named eq world task here word)
  names here NoWord = tt
  names here Dot = tt
  names here DotDot = and_then_own walk_rules (stepped eq world task here DotDot) _ (steps here DotDot) (λ parent. tt)
  names here (Named name) = tt

  named_places : (here : Here N) (word : LastWord) {A : Type 0} (met : List (List N)) (place : Option (Location N) → A)
      → StopsAsWalk (stopped_by met
      (and_then (unless (search_rules eq world task here.location) (object_named eq world task here.location word))
      (λ object. Ok (place object))))
  named_places here word met place = stopped_own walk_rules met _ (and_then_own walk_rules _ _
      (unless_own walk_rules (search_rules eq world task here.location)
      (object_named eq world task here.location word) refl (names here.location word)) (λ object. tt))

  places : (here : Here N) (word : LastWord) (slash : Bool) → StopsAsWalk (placed eq world task here word slash)
  places here NoWord slash = tt
  places here Dot slash = named_places here Dot _ _
  places here DotDot slash = named_places here DotDot _ _
  places here (Named name) slash = named_places here (Named name) _ _

  pub place_walks : (path : List ℕ) → StopsAsWalk (place_walk eq world task path)
  place_walks path = grind (arith, common_steps, then_walk_own, text_walks, prefix_walks, places)

  pub new_walks : (path : List ℕ) → StopsAsWalk (new_walk eq world task path)
  new_walks path = grind (arith, common_steps, then_walk_own, place_walks, walk_unless_own)

  pub new_leaf_walks : (path : List ℕ) → StopsAsWalk (new_leaf_walk eq world task path)
  new_leaf_walks path = grind (arith, common_steps, then_walk_own, new_walks, walk_unless_own)

  pub old_walks : (path : List ℕ) → StopsAsWalk (old_walk eq world task path)
  old_walks path = grind (arith, common_steps, then_walk_own, place_walks, walk_unless_own)

  pub old_leaf_walks : (path : List ℕ) → StopsAsWalk (old_leaf_walk eq world task path)
  old_leaf_walks path = grind (arith, common_steps, then_walk_own, old_walks, walk_unless_own)

  pub rename_new_walks : (path : List ℕ) (directory : Bool) → StopsAsWalk (rename_new_walk eq world task path directory)
  rename_new_walks path directory = grind (arith, common_steps, then_walk_own, new_walks, walk_unless_own)

  file_or_link_walks : (place : Place N) (text : Option (List ℕ)) (follow : List ℕ → Result (Place N) (Stop N))
      → ((inner : List ℕ) → StopsAsWalk (follow inner)) → StopsAsWalk (file_or_symlink eq world place text follow)
  file_or_link_walks place text follow h = grind (arith, common_steps)

  file_walks_by : (depth : ℕ) (start : Here N) (text : List ℕ) (slash : Bool)
      → StopsAsWalk (file_walked eq depth world task start text slash)
  file_walks_by zero start text slash = (refl, refl)
  file_walks_by (suc depth) start text slash =
      then_walk_own walk_rules _ _ (prefix_walks start (reverse (words text))) (λ here.
      then_walk_own walk_rules _ _ (places here (final_word (reverse (words text))) (slash || ends_in_slash text))
      (λ place.
      file_or_link_walks place (symlink_there eq world place) _ (λ inner.
      then_walk_own walk_rules _ _
      (walk_unless_own walk_rules place.steps (follow_rules eq world (symlink_of here place) inner)
      (symlink_start eq world task here.location (symlink_of here place) inner) refl)
      (λ next. file_walks_by depth next inner (slash || ends_in_slash text)))))

  pub file_walks : (path : List ℕ) → StopsAsWalk (file_walk eq world task path)
  file_walks path = then_walk_own walk_rules (path_text path) _ (text_walks path) (λ text.
      then_walk_own walk_rules _ _ (file_walks_by (most_symlinks + 1) (walk_start task text) text false) (λ place.
      walk_unless_own walk_rules place.steps (_ ∷ []) place refl))

  pub source_walks : (path : List ℕ) → StopsAsWalk (source_walk eq world task path)
  source_walks path = grind (arith, common_steps, then_walk_own, directory_walks, walk_unless_own)

  pub destination_walks : (path : List ℕ) → StopsAsWalk (destination_walk eq world task path)
  destination_walks path = grind (arith, common_steps, then_walk_own, source_walks, walk_unless_own)

  -- the walks of an overlay's layers
  each_walks : (paths : List (List ℕ)) → RefusesAsWalk (each_walked eq world task paths)
  each_walks [] = tt
  each_walks (path ∷ paths) = grind (arith, common_steps, each_walks paths, and_then_own, walk_end_own, source_walks)

  given_walks : (path : Option (List ℕ)) → RefusesAsWalk (walked_if_given eq world task path)
  given_walks path = grind (arith, common_steps, and_then_own, walk_end_own, source_walks)

  pub layer_walks : (words : OverlayWords) → RefusesAsWalk (layers_walked eq world task words)
  layer_walks words =
      and_then_own walk_rules (each_walked eq world task words.lowers) _ (each_walks words.lowers) (λ lowers.
      and_then_own walk_rules (walked_if_given eq world task words.upper) _ (given_walks words.upper) (λ upper.
      and_then_own walk_rules (walked_if_given eq world task (work_walked words)) _ (given_walks (work_walked words))
      (λ work. tt)))
