-- What is known of the end of a walk: the directory of a name is one, and the name leads where its entry does.
use Rattle.std.proofs.Common.{arith, ◌≡◌, refl, sym, ap, ◌∙◌, true≢false, ℕ, zero, suc, ◌+◌, nat_eq, Bool, true, false, not, List, [], ◌∷◌, ◌&&◌, ◌||◌, Option, Some, None, is_some, option_map, Result, Ok, Err, reverse, subst}
use Rattle.vt_spec.proofs.Common.{Dot, DotDot, Here, LastWord, Location, Named, NoWord, NoneFails, Outcome, Place, Rules, Stop, Task, World, after, and_then, common_steps, ends_in_slash, file_or_symlink, file_walked, final_word, followed, is_directory_at, is_special, most_symlinks, name_of, new_name_rules, path_text, prefix_walked, stopped_by, symlink_of, then_walk, topmost, unless, walk_start, walk_unless, words, ⊤}
use Rattle.vt_spec.specs.declared.errors.Deny.{Deny}
use Rattle.vt_spec.specs.declared.errors.Rule.TheVariants.{W3, W6}
use Rattle.vt_spec.proofs.Walk.{entry_location, file_walk, follow_rules, is_directory_there, symlink_start, symlink_there, new_leaf_walk, new_walk, object_named, old_leaf_walk, old_walk, place_walk, placed, search_rules, steps_at}
pub use Rattle.std.proofs.lemmas.Bool.{not-false}

-- where a walk ends, this holds
abbrev pub Ends : {A : Type 0} → (A → Type 0) → Result A (Stop ℕ) → Type 0
Ends Q (Ok a) = Q a
Ends Q (Err stop) = ⊤

-- and so of its end, where it ends
pub at_end : {A : Type 0} (Q : A → Type 0) (walk : Result A (Stop ℕ)) (a : A) → Ends Q walk → walk ≡ Ok a → Q a
at_end Q walk a ends e = subst (Ends Q) e ends

-- two things that hold where a walk ends
pub ends_both : {A : Type 0} (Q R : A → Type 0) (walk : Result A (Stop ℕ)) → Ends Q walk → Ends R walk
    → Ends (λ a. Q a × R a) walk
ends_both Q R (Ok a) q r = (q, r)
ends_both Q R (Err stop) q r = tt

pub ends_then : {A B : Type 0} (Q : A → Type 0) (R : B → Type 0) (r : Result A (Stop ℕ)) (next : A → Result B (Stop ℕ))
    → Ends Q r → ((a : A) → Q a → Ends R (next a)) → Ends R (then_walk r next)
ends_then Q R (Ok a) next q h = h a q
ends_then Q R (Err stop) next q h = tt

pub ends_next : {A B : Type 0} (R : B → Type 0) (r : Result A (Stop ℕ)) (next : A → Result B (Stop ℕ))
    → ((a : A) → Ends R (next a)) → Ends R (then_walk r next)
ends_next R (Ok a) next h = h a
ends_next R (Err stop) next h = tt

pub ends_unless : {A : Type 0} (Q : A → Type 0) (steps : List (List ℕ)) (rules : Rules) (a : A)
    → (NoneFails rules → Q a) → Ends Q (walk_unless steps rules a)
ends_unless Q steps [] a h = h tt
ends_unless Q steps ((true, rule) ∷ rows) a h = tt
ends_unless Q steps ((false, rule) ∷ rows) a h = ends_unless Q steps rows a (λ rest. h (refl, rest))

-- a step that may be refused by rules, or by itself
pub ends_step : {A B : Type 0} (Q : B → Type 0) (steps : List (List ℕ)) (rules : Rules) (answer : Result A Deny)
    (next : A → Result B Deny) → (NoneFails rules → (a : A) → answer ≡ Ok a → Ends Q (stopped_by steps (next a)))
    → Ends Q (stopped_by steps (and_then (unless rules answer) next))
ends_step Q steps [] (Ok a) next h = h tt a refl
ends_step Q steps [] (Err deny) next h = tt
ends_step Q steps ((true, rule) ∷ rows) answer next h = tt
ends_step Q steps ((false, rule) ∷ rows) answer next h = ends_step Q steps rows answer next (λ rest. h (refl, rest))

pub after_holds : {A : Type 0} (P : World ℕ → Type 0) (world : World ℕ) (r : Result A Deny) (next : A → Outcome ℕ)
    → P world → ((a : A) → r ≡ Ok a → P (next a).world) → P (after world r next).world
after_holds P world (Ok a) next p h = h a refl
after_holds P world (Err deny) next p h = p

ok_part : {A : Type 0} → A → Result A Deny → A
ok_part a (Ok x) = x
ok_part a (Err deny) = a

pub ok_same : {A : Type 0} (a b : A) (r : Result A Deny) → r ≡ Ok a → r ≡ Ok b → a ≡ b
unfolding ok_part
ok_same a b r p q = ap (ok_part a) (sym p ∙ q)

-- the place of a name: its directory, and what its entry leads to
abbrev pub IsPlaceOf : World ℕ → Location ℕ → LastWord → Option (Location ℕ) → Type 0
IsPlaceOf world parent NoWord object = ⊤
IsPlaceOf world parent Dot object = ⊤
IsPlaceOf world parent DotDot object = ⊤
IsPlaceOf world parent (Named name) object =
    (is_directory_at nat_eq world parent ≡ true) × (object ≡ entry_location nat_eq world parent name)

abbrev pub IsPlace : World ℕ → Place ℕ → Type 0
IsPlace world place = IsPlaceOf world place.parent place.last place.object

-- the place of a file: where nothing is there, its name has no entry
abbrev pub IsFileOf : World ℕ → Location ℕ → LastWord → Option (Location ℕ) → Type 0
IsFileOf world parent NoWord object = ⊤
IsFileOf world parent Dot object = ⊤
IsFileOf world parent DotDot object = ⊤
IsFileOf world parent (Named name) object =
    (is_directory_at nat_eq world parent ≡ true) × (object ≡ None → entry_location nat_eq world parent name ≡ None)

abbrev pub IsFilePlace : World ℕ → Place ℕ → Type 0
IsFilePlace world place = IsFileOf world place.parent place.last place.object

pub place_named : (world : World ℕ) (parent : Location ℕ) (last : LastWord) (object : Option (Location ℕ))
    → is_special last ≡ false → IsPlaceOf world parent last object
    → (is_directory_at nat_eq world parent ≡ true) × (object ≡ entry_location nat_eq world parent (name_of last))
place_named world parent NoWord object plain is = absurd (true≢false plain)
place_named world parent Dot object plain is = absurd (true≢false plain)
place_named world parent DotDot object plain is = absurd (true≢false plain)
place_named world parent (Named name) object plain is = is

pub file_named : (world : World ℕ) (parent : Location ℕ) (last : LastWord) (object : Option (Location ℕ))
    → is_special last ≡ false → IsFileOf world parent last object → (is_directory_at nat_eq world parent ≡ true)
    × (object ≡ None → entry_location nat_eq world parent (name_of last) ≡ None)
file_named world parent NoWord object plain is = absurd (true≢false plain)
file_named world parent Dot object plain is = absurd (true≢false plain)
file_named world parent DotDot object plain is = absurd (true≢false plain)
file_named world parent (Named name) object plain is = is

pub place_is_file : (world : World ℕ) (parent : Location ℕ) (last : LastWord) (object : Option (Location ℕ))
    → IsPlaceOf world parent last object → IsFileOf world parent last object
place_is_file world parent NoWord object is = tt
place_is_file world parent Dot object is = tt
place_is_file world parent DotDot object is = tt
place_is_file world parent (Named name) object is = (is.0, λ none. sym is.1 ∙ none)

module _ (world : World ℕ) (task : Task ℕ) where
  pub ends_placed : (here : Here ℕ) (word : LastWord) (slash : Bool)
      → Ends (IsPlace world) (placed nat_eq world task here word slash)
  ends_placed here NoWord slash = tt
  ends_placed here Dot slash =
      ends_step (IsPlace world) (steps_at nat_eq world task here Dot) (search_rules nat_eq world task here.location)
      (object_named nat_eq world task here.location Dot) _ (λ passed object e. tt)
  ends_placed here DotDot slash =
      ends_step (IsPlace world) (steps_at nat_eq world task here DotDot) (search_rules nat_eq world task here.location)
      (object_named nat_eq world task here.location DotDot) _ (λ passed object e. tt)
  ends_placed here (Named name) slash = ends_step (IsPlace world) (steps_at nat_eq world task here (Named name))
      (search_rules nat_eq world task here.location) (object_named nat_eq world task here.location (Named name)) _
      (λ passed object e. (
        not-false (is_directory_at nat_eq world here.location) passed.0,
        sym (ok_same (entry_location nat_eq world here.location name) object
            (object_named nat_eq world task here.location (Named name)) refl e),
      ))

  pub ends_place_walk : (path : List ℕ) → Ends (IsPlace world) (place_walk nat_eq world task path)
  ends_place_walk path = ends_next (IsPlace world) (path_text path) _ (λ text.
      ends_next (IsPlace world) (prefix_walked nat_eq world task (followed nat_eq world task) (walk_start task text)
      (reverse (words text)))
      (λ here. placed nat_eq world task here (final_word (reverse (words text))) (ends_in_slash text))
      (λ here. ends_placed here (final_word (reverse (words text))) (ends_in_slash text)))

  -- a name that is to be made: its directory is not removed
  abbrev pub IsNewPlace : Place ℕ → Type 0
  IsNewPlace place = IsPlace world place × NoneFails (new_name_rules nat_eq world place)

  pub ends_new_walk : (path : List ℕ) → Ends IsNewPlace (new_walk nat_eq world task path)
  ends_new_walk path = ends_then (IsPlace world) IsNewPlace (place_walk nat_eq world task path) _ (ends_place_walk path)
      (λ place is. ends_unless IsNewPlace place.steps (new_name_rules nat_eq world place) place
      (λ passed. (is, passed)))

  pub ends_new_leaf_walk : (path : List ℕ) → Ends IsNewPlace (new_leaf_walk nat_eq world task path)
  ends_new_leaf_walk path = ends_then IsNewPlace IsNewPlace (new_walk nat_eq world task path) _ (ends_new_walk path)
      (λ place is. ends_unless IsNewPlace place.steps ((place.slash && not (is_some place.object), W6) ∷ []) place
      (λ passed. is))

  -- a name that is there
  abbrev pub IsOldPlace : Place ℕ → Type 0
  IsOldPlace place = IsPlace world place × (is_some place.object ≡ true)

  pub ends_old_walk : (path : List ℕ) → Ends IsOldPlace (old_walk nat_eq world task path)
  ends_old_walk path = ends_then (IsPlace world) IsOldPlace (place_walk nat_eq world task path) _ (ends_place_walk path)
      (λ place is. ends_unless IsOldPlace place.steps ((not (is_some place.object), W6) ∷ []) place
      (λ passed. (is, not-false (is_some place.object) passed.0)))

  pub ends_old_leaf_walk : (path : List ℕ) → Ends IsOldPlace (old_leaf_walk nat_eq world task path)
  ends_old_leaf_walk path = ends_then IsOldPlace IsOldPlace (old_walk nat_eq world task path) _ (ends_old_walk path)
      (λ place is. ends_unless IsOldPlace place.steps
      ((place.slash && not (is_directory_there nat_eq world place), W3) ∷ []) place (λ passed. is))

  -- files
  entered_file : (parent : Location ℕ) (last : LastWord) (object : Option (Location ℕ))
      → IsPlaceOf world parent last object
      → IsFileOf world parent last (option_map (topmost nat_eq world.mounts) object)
  entered_file parent last object is = grind (arith, common_steps, true≢false)

  ends_file_or_link : (place : Place ℕ) (text : Option (List ℕ)) (follow : List ℕ → Result (Place ℕ) (Stop ℕ))
      → IsPlace world place → ((inner : List ℕ) → Ends (IsFilePlace world) (follow inner))
      → Ends (IsFilePlace world) (file_or_symlink nat_eq world place text follow)
  ends_file_or_link place None follow is rest = entered_file place.parent place.last place.object is
  ends_file_or_link place (Some text) follow is rest = rest text

  -- where a link stands there, its text is walked
  abbrev linked_file : ℕ → List ℕ → Bool → Here ℕ → Place ℕ → List ℕ → Result (Place ℕ) (Stop ℕ)
  linked_file depth text slash here place inner =
      then_walk (walk_unless place.steps (follow_rules nat_eq world (symlink_of here place) inner)
      (symlink_start nat_eq world task here.location (symlink_of here place) inner))
      (λ next. file_walked nat_eq depth world task next inner (slash || ends_in_slash text))

  abbrev file_from : ℕ → List ℕ → Bool → Here ℕ → Result (Place ℕ) (Stop ℕ)
  file_from depth text slash here =
      then_walk (placed nat_eq world task here (final_word (reverse (words text))) (slash || ends_in_slash text))
      (λ place. file_or_symlink nat_eq world place (symlink_there nat_eq world place)
      (linked_file depth text slash here place))

  ends_file_walked : (depth : ℕ) (start : Here ℕ) (text : List ℕ) (slash : Bool)
      → Ends (IsFilePlace world) (file_walked nat_eq depth world task start text slash)
  ends_file_walked zero start text slash = tt
  ends_file_walked (suc depth) start text slash =
      ends_next (IsFilePlace world) (prefix_walked nat_eq world task (followed nat_eq world task) start
      (reverse (words text))) (λ here. file_from depth text slash here) (λ here.
      ends_then (IsPlace world) (IsFilePlace world)
      (placed nat_eq world task here (final_word (reverse (words text))) (slash || ends_in_slash text))
      (λ place. file_or_symlink nat_eq world place (symlink_there nat_eq world place)
      (linked_file depth text slash here place))
      (ends_placed here (final_word (reverse (words text))) (slash || ends_in_slash text)) (λ place is.
      ends_file_or_link place (symlink_there nat_eq world place) (linked_file depth text slash here place) is (λ inner.
      ends_next (IsFilePlace world) (walk_unless place.steps (follow_rules nat_eq world (symlink_of here place) inner)
      (symlink_start nat_eq world task here.location (symlink_of here place) inner))
      (λ next. file_walked nat_eq depth world task next inner (slash || ends_in_slash text))
      (λ next. ends_file_walked depth next inner (slash || ends_in_slash text)))))

  abbrev pub IsNewFilePlace : Place ℕ → Type 0
  IsNewFilePlace place = IsFilePlace world place × NoneFails (new_name_rules nat_eq world place)

  pub ends_file_walk : (path : List ℕ) → Ends IsNewFilePlace (file_walk nat_eq world task path)
  ends_file_walk path = ends_next IsNewFilePlace (path_text path) _ (λ text.
      ends_then (IsFilePlace world) IsNewFilePlace
      (file_walked nat_eq (most_symlinks + 1) world task (walk_start task text) text false) _
      (ends_file_walked (most_symlinks + 1) (walk_start task text) text false) (λ place is.
      ends_unless IsNewFilePlace place.steps (new_name_rules nat_eq world place) place (λ passed. (is, passed))))
