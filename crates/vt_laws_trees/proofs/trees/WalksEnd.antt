-- Where walks end: at what is led to from where they begin, word by word and through symlinks.
use Rattle.std.proofs.Common.{◌≡◌, refl, ℕ, zero, suc, nat_eq, Bool, true, false, cond, List, [], ◌∷◌, ◌+◌, reverse, Option, Some, None, Result}
use Rattle.vt_spec.proofs.Common.{Dot, DotDot, Follow, Here, LastWord, Location, Named, NoWord, Stop, Task, World, ends_in_slash, final_word, followed, if_symlink, last_walked, last_word, most_symlinks, node_at, path_text, path_walked, prefix_walked, start_of, symlink_text, walk_start, walk_unless, words, is_absolute}
use Rattle.vt_spec.proofs.Walk.{follow_rules, symlink_start, symlink_walk, symlink_walk_by, symlink_walked, object_walk, slash_rules, word_walked, words_walked}
use Rattle.vt_laws_trees.proofs.trees.TreesWalked.{Ends, ends_next, ends_then, ends_unless}

-- What a task's walks come to: they begin at its root or its directory; a word leads to what is found, and what is
-- found and is no symlink is an end
pub record LeadsOn (world : World ℕ) (task : Task ℕ) (Found End : Location ℕ → Type 0) : Type 0 where
  pub root : End task.root
  pub own : End task.directory
  pub found : (location : Location ℕ) → End location → Found location
  pub word : (here : Here ℕ) (word : LastWord) → Found here.location
      → Ends (λ next. Found next.location) (word_walked nat_eq world task here word)
  pub no_link : (location : Location ℕ) → Found location → symlink_text (node_at nat_eq world location) ≡ None
      → End location

module _ {world : World ℕ} {task : Task ℕ} {Found End : Location ℕ → Type 0} (on : LeadsOn world task Found End) where
  abbrev EndsFound : Result (Here ℕ) (Stop ℕ) → Type 0
  EndsFound walk = Ends (λ here. Found here.location) walk

  abbrev EndsAtEnd : Result (Here ℕ) (Stop ℕ) → Type 0
  EndsAtEnd walk = Ends (λ here. End here.location) walk

  pub start_end : (directory : Location ℕ) (path : List ℕ) → End directory → End (start_of task directory path)
  start_end directory path is = by (is_absolute path)
    where
      by : (b : Bool) → End (cond b task.root directory)
      by true = on.root
      by false = is

  pub walk_start_end : (path : List ℕ) → End (walk_start task path).location
  walk_start_end path = start_end task.directory path on.own

  -- how links are followed
  abbrev FollowEnds : Follow ℕ → Type 0
  FollowEnds follow =
      (directory : Location ℕ) (link : Here ℕ) (text : List ℕ) → End directory → EndsAtEnd (follow directory link text)

  if_link_end : (next : Here ℕ) (follow : List ℕ → Result (Here ℕ) (Stop ℕ)) → Found next.location
      → ((text : List ℕ) → EndsAtEnd (follow text))
      → (o : Option (List ℕ)) → symlink_text (node_at nat_eq world next.location) ≡ o
      → EndsAtEnd (if_symlink next o follow)
  if_link_end next follow found goes None e = on.no_link next.location found e
  if_link_end next follow found goes (Some text) e = goes text

  words_end : (follow : Follow ℕ) → FollowEnds follow → (here : Here ℕ) → End here.location → (list : List (List ℕ))
      → EndsAtEnd (words_walked nat_eq world task follow here list)
  words_end follow goes here is [] = is
  words_end follow goes here is (word ∷ front) = ends_then (λ reached. End reached.location) (λ next. End next.location)
      (words_walked nat_eq world task follow here front) _ (words_end follow goes here is front) (λ reached end.
      ends_then (λ next. Found next.location) (λ next. End next.location)
      (word_walked nat_eq world task reached (last_word word)) _ (on.word reached (last_word word)
      (on.found reached.location end))
      (λ next found.
      if_link_end next (follow reached.location next) found (λ text. goes reached.location next text end)
      (symlink_text (node_at nat_eq world next.location)) refl))

  link_end : (depth : ℕ) → FollowEnds
      (λ directory link text. symlink_walked nat_eq depth world task directory link text)
  link_end zero directory link text is = tt
  link_end (suc depth) directory link text is = ends_then (λ start. End start.location) (λ next. End next.location)
      (walk_unless link.steps (follow_rules nat_eq world link text) (symlink_start nat_eq world task directory link
      text)) _ (ends_unless (λ start. End start.location) link.steps (follow_rules nat_eq world link text)
      (symlink_start nat_eq world task directory link text) (λ passed. start_end directory text is)) (λ start start_is.
      ends_then (λ reached. End reached.location) (λ next. End next.location)
      (words_walked nat_eq world task (λ inside next inner. symlink_walked nat_eq depth world task inside next inner)
      start (reverse (words text))) _
      (words_end (λ inside next inner. symlink_walked nat_eq depth world task inside next inner)
      (link_end depth) start start_is (reverse (words text))) (λ reached end.
      ends_unless (λ next. End next.location) reached.steps (slash_rules nat_eq world text reached.location) reached
      (λ passed. end)))

  followed_end : FollowEnds (followed nat_eq world task)
  followed_end directory link text is = link_end (most_symlinks + 1) directory link text is

  pub path_end : (path : List ℕ) → EndsAtEnd (path_walked nat_eq world task path)
  path_end path = ends_next _ (path_text path) _ (λ text. words_end _ followed_end _ (walk_start_end text)
      (reverse (words text)))

  pub object_end : (path : List ℕ) → EndsAtEnd (object_walk nat_eq world task path)
  object_end path =
      ends_then (λ here. End here.location) (λ here. End here.location) (path_walked nat_eq world task path) _
      (path_end path) (λ here end.
      ends_unless (λ next. End next.location) here.steps (slash_rules nat_eq world path here.location) here
      (λ passed. end))

  pub front_end : (here : Here ℕ) → End here.location → (list : List (List ℕ))
      → EndsAtEnd (prefix_walked nat_eq world task (followed nat_eq world task) here list)
  front_end here is [] = is
  front_end here is (word ∷ front) = words_end _ followed_end here is front

  last_found : (here : Here ℕ) (word : LastWord) → Found here.location → EndsFound
      (last_walked nat_eq world task here word)
  last_found here NoWord is = is
  last_found here Dot is = on.word here Dot is
  last_found here DotDot is = on.word here DotDot is
  last_found here (Named name) is = on.word here (Named name) is

  link_walk_by_found : (b : Bool) (path : List ℕ) → EndsFound (symlink_walk_by nat_eq b world task path)
  link_walk_by_found true path =
      ends_then (λ here. End here.location) (λ here. Found here.location) (path_walked nat_eq world task path) _
      (path_end path) (λ here end. ends_unless (λ next. Found next.location) here.steps
      (slash_rules nat_eq world path here.location) here (λ passed. on.found here.location end))
  link_walk_by_found false path = ends_next (λ here. Found here.location) (path_text path) _ (λ text.
      ends_then (λ here. End here.location) (λ here. Found here.location)
      (prefix_walked nat_eq world task (followed nat_eq world task) (walk_start task text) (reverse (words text))) _
      (front_end (walk_start task text) (walk_start_end text) (reverse (words text))) (λ here end.
      last_found here (final_word (reverse (words text))) (on.found here.location end)))

  pub link_walk_found : (path : List ℕ) → EndsFound (symlink_walk nat_eq world task path)
  link_walk_found path = link_walk_by_found (ends_in_slash path) path
