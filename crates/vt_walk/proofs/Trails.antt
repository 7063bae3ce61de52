-- The walks of the definitions, without what they meet on the way, are the plain ones.
use Rattle.std.proofs.Common.{◌≡◌, ℕ, zero, suc, nat_eq, List, [], ◌∷◌, Bool, true, false, Option, None, Some, Result, Ok, Err, refl, sym, ap, ◌∙◌, reverse, ◌||◌}
use Rattle.vt_spec.proofs.Common.{Dot, DotDot, Here, LastWord, Location, Looks, Named, NoWord, Place, Rules, Stop, Task, and_then, ends_in_slash, final_word, follow_rules, last_word, object_named, search_rules, slash_rules, stepped, stopped_by, symlink_of, symlink_text, symlink_there, then_walk, unless, walk_end, walk_unless, words}
use Rattle.vt_spec.specs.declared.errors.Deny.{Deny}
use Rattle.vt_spec.specs.Machine.Walking
use Rattle.vt_walk.proofs.RefusalLemmas.{unless-and_then}
use Rattle.vt_walk.specs.PlainWalks.{Follow, file_or_symlink, file_walked, followed, prefix_walked, if_symlink, last_walked, placed, standing, symlink_start, symlink_walked, word_walked, words_walked}
use Rattle.vt_walk.specs.WalkValue.{location_end, place_end, without_steps}

abbrev pub plain : Here ℕ → Here ℕ
plain here = standing here.location here.left

abbrev pub plain_end : Result (Here ℕ) (Stop ℕ) → Result (Here ℕ) Deny
plain_end (Ok here) = Ok (plain here)
plain_end (Err stop) = Err stop.deny

pub location-plain : (r : Result (Here ℕ) (Stop ℕ)) → location_end (plain_end r) ≡ location_end (walk_end r)
location-plain (Ok here) = refl
location-plain (Err stop) = refl

then-plain : (r : Result (Here ℕ) (Stop ℕ)) (next : Here ℕ → Result (Here ℕ) (Stop ℕ))
    (after : Here ℕ → Result (Here ℕ) Deny) → ((here : Here ℕ) → plain_end (next here) ≡ after (plain here))
    → plain_end (then_walk r next) ≡ and_then (plain_end r) after
then-plain (Ok here) next after same = same here
then-plain (Err stop) next after same = refl

then-place : (r : Result (Here ℕ) (Stop ℕ)) (next : Here ℕ → Result (Place ℕ) (Stop ℕ))
    (after : Here ℕ → Result (Place ℕ) Deny) → ((here : Here ℕ) → place_end (walk_end (next here)) ≡ after (plain here))
    → place_end (walk_end (then_walk r next)) ≡ and_then (plain_end r) after
then-place (Ok here) next after same = same here
then-place (Err stop) next after same = refl

place-then : (r : Result (Place ℕ) (Stop ℕ)) (next : Place ℕ → Result (Place ℕ) (Stop ℕ))
    (after : Place ℕ → Result (Place ℕ) Deny)
    → ((place : Place ℕ) → place_end (walk_end (next place)) ≡ after (without_steps place))
    → place_end (walk_end (then_walk r next)) ≡ and_then (place_end (walk_end r)) after
place-then (Ok place) next after same = same place
place-then (Err stop) next after same = refl

unless-plain : (steps : List (List ℕ)) (rows : Rules) (here : Here ℕ)
    → plain_end (walk_unless steps rows here) ≡ unless rows (Ok (plain here))
unless-plain steps [] here = refl
unless-plain steps ((true, rule) ∷ rows) here = refl
unless-plain steps ((false, rule) ∷ rows) here = unless-plain steps rows here

unless-place : (steps : List (List ℕ)) (rows : Rules) (place : Place ℕ)
    → place_end (walk_end (walk_unless steps rows place)) ≡ unless rows (Ok (without_steps place))
unless-place steps [] place = refl
unless-place steps ((true, rule) ∷ rows) place = refl
unless-place steps ((false, rule) ∷ rows) place = unless-place steps rows place

unless-location : (steps : List (List ℕ)) (rows : Rules) (here : Here ℕ)
    → location_end (walk_end (walk_unless steps rows here)) ≡ unless rows (Ok here.location)
unless-location steps [] here = refl
unless-location steps ((true, rule) ∷ rows) here = refl
unless-location steps ((false, rule) ∷ rows) here = unless-location steps rows here

-- A walk that rules are asked after
pub place-checked : (r : Result (Place ℕ) (Stop ℕ)) (rules : Place ℕ → Rules)
    → ((place : Place ℕ) → rules place ≡ rules (without_steps place))
    → and_then (place_end (walk_end r)) (λ place. unless (rules place) (Ok place))
    ≡ place_end (walk_end (then_walk r (λ place. walk_unless place.steps (rules place) place)))
place-checked r rules same =
    sym (place-then r (λ place. walk_unless place.steps (rules place) place) (λ place. unless (rules place) (Ok place))
    (λ place. unless-place place.steps (rules place) place
    ∙ ap (λ rows. unless rows (Ok (without_steps place))) (same place)))

pub location-checked : (r : Result (Here ℕ) (Stop ℕ)) (rules : Location ℕ → Rules) (further : Location ℕ → Location ℕ)
    → and_then (location_end (walk_end r)) (λ location. unless (rules location) (Ok (further location)))
    ≡ location_end (walk_end (then_walk r
    (λ here. walk_unless here.steps (rules here.location) (record here { location = further here.location }))))
location-checked (Ok here) rules further = sym
    (unless-location here.steps (rules here.location) (record here { location = further here.location }))
location-checked (Err stop) rules further = refl

if-link-plain : (here : Here ℕ) (text : Option (List ℕ)) (follow : List ℕ → Result (Here ℕ) (Stop ℕ))
    (after : List ℕ → Result (Here ℕ) Deny) → ((inner : List ℕ) → plain_end (follow inner) ≡ after inner)
    → plain_end (Walking.if_symlink here text follow) ≡ if_symlink (plain here) text after
if-link-plain here None follow after same = refl
if-link-plain here (Some inner) follow after same = same inner

module _ (looks : Looks ℕ) (task : Task ℕ) where
  reached-plain : (steps : List (List ℕ)) (left : ℕ) (r : Result (Location ℕ) Deny)
      → plain_end (stopped_by steps (and_then r
      (λ reached. Ok (record { location = reached; left = left; steps = steps }))))
      ≡ and_then r (λ reached. Ok (standing reached left))
  reached-plain steps left (Ok reached) = refl
  reached-plain steps left (Err deny) = refl

  word-plain : (here : Here ℕ) (word : LastWord)
      → plain_end (Walking.word_walked nat_eq looks task here word) ≡ word_walked looks task (plain here) word
  word-plain here word = reached-plain (Walking.steps_with nat_eq looks task here word) here.left
      (unless (search_rules nat_eq looks task here.location) (stepped nat_eq looks task here.location word))

  last-plain : (here : Here ℕ) (word : LastWord)
      → plain_end (Walking.last_walked nat_eq looks task here word) ≡ last_walked looks task (plain here) word
  last-plain here NoWord = refl
  last-plain here Dot = word-plain here Dot
  last-plain here DotDot = word-plain here DotDot
  last-plain here (Named name) = word-plain here (Named name)

  -- links are followed alike
  abbrev FollowAlike : Walking.Follow ℕ → Follow → Type 0
  FollowAlike follow after = (directory : Location ℕ) (link : Here ℕ) (text : List ℕ)
      → plain_end (follow directory link text) ≡ after directory (plain link) text

  words-plain : (follow : Walking.Follow ℕ) (after : Follow) → FollowAlike follow after
      → (here : Here ℕ) (ws : List (List ℕ)) → plain_end (Walking.words_walked nat_eq looks task follow here ws)
      ≡ words_walked looks task after (plain here) ws
  words-plain follow after alike here [] = refl
  words-plain follow after alike here (word ∷ front) =
      then-plain (Walking.words_walked nat_eq looks task follow here front) _
      (λ reached. and_then (word_walked looks task reached (last_word word))
      (λ next. if_symlink next (symlink_text (looks.node next.location)) (after reached.location next)))
      (λ reached. then-plain (Walking.word_walked nat_eq looks task reached (last_word word)) _
      (λ next. if_symlink next (symlink_text (looks.node next.location)) (after reached.location next))
      (λ next. if-link-plain next (symlink_text (looks.node next.location)) (follow reached.location next)
      (after reached.location (plain next)) (alike reached.location next)) ∙ ap (λ r. and_then r (λ next.
      if_symlink next (symlink_text (looks.node next.location)) (after reached.location next)))
      (word-plain reached (last_word word))) ∙ ap (λ r. and_then r (λ reached.
      and_then (word_walked looks task reached (last_word word))
      (λ next. if_symlink next (symlink_text (looks.node next.location)) (after reached.location next))))
      (words-plain follow after alike here front)

  symlink-plain : (depth : ℕ) → FollowAlike
      (λ directory link text. Walking.symlink_walked nat_eq depth looks task directory link text)
      (λ directory link text. symlink_walked looks task depth directory link text)
  symlink-plain zero directory link text = refl
  symlink-plain (suc depth) directory link text =
      let follow : Walking.Follow ℕ = λ inside next inner. Walking.symlink_walked nat_eq depth looks task inside next inner in
      let after : Follow = λ inside next inner. symlink_walked looks task depth inside next inner in
      let inside : Here ℕ → Result (Here ℕ) Deny =
      λ start. and_then (words_walked looks task after start (reverse (words text)))
      (λ reached. unless (slash_rules nat_eq looks text reached.location) (Ok reached)) in
      then-plain (walk_unless link.steps (follow_rules nat_eq looks link text)
      (Walking.symlink_start nat_eq looks task directory link text)) _ inside
      (λ start. then-plain (Walking.words_walked nat_eq looks task follow start (reverse (words text))) _
      (λ reached. unless (slash_rules nat_eq looks text reached.location) (Ok reached))
      (λ reached. unless-plain reached.steps (slash_rules nat_eq looks text reached.location) reached)
      ∙ ap (λ r. and_then r (λ reached. unless (slash_rules nat_eq looks text reached.location) (Ok reached)))
      (words-plain follow after (symlink-plain depth) start (reverse (words text))))
      ∙ ap (λ r. and_then r inside) (unless-plain link.steps (follow_rules nat_eq looks link text)
      (Walking.symlink_start nat_eq looks task directory link text))
      ∙ sym (unless-and_then (follow_rules nat_eq looks link text)
      (symlink_start looks task directory (plain link) text) inside)

  followed-plain : FollowAlike (λ directory link text. Walking.followed nat_eq looks task directory link text)
      (followed looks task)
  followed-plain directory link text = symlink-plain 41 directory link text

  pub all-plain : (here : Here ℕ) (ws : List (List ℕ))
      → plain_end (Walking.words_walked nat_eq looks task (Walking.followed nat_eq looks task) here ws)
      ≡ words_walked looks task (followed looks task) (plain here) ws
  all-plain here ws = words-plain (Walking.followed nat_eq looks task) (followed looks task) followed-plain here ws

  pub front-plain : (here : Here ℕ) (ws : List (List ℕ))
      → plain_end (Walking.prefix_walked nat_eq looks task (Walking.followed nat_eq looks task) here ws)
      ≡ prefix_walked looks task (plain here) ws
  front-plain here [] = refl
  front-plain here (word ∷ front) = all-plain here front

  pub last-of-plain : (r : Result (Here ℕ) (Stop ℕ)) (word : LastWord)
      → plain_end (then_walk r (λ here. Walking.last_walked nat_eq looks task here word))
      ≡ and_then (plain_end r) (λ here. last_walked looks task here word)
  last-of-plain r word = then-plain r (λ here. Walking.last_walked nat_eq looks task here word)
      (λ here. last_walked looks task here word) (λ here. last-plain here word)

  -- Places

  object-plain : (here : Here ℕ) (word : LastWord) (slash : Bool) (steps : List (List ℕ))
      (r : Result (Option (Location ℕ)) Deny)
      → place_end (walk_end (stopped_by steps (and_then r (λ object. Ok (record { parent = here.location; last = word; object = object; slash = slash; steps = steps })))))
      ≡ and_then r (λ object. Ok (record { parent = here.location; last = word; object = object; slash = slash; steps = [] }))
  object-plain here word slash steps (Ok object) = refl
  object-plain here word slash steps (Err deny) = refl

  placed-plain : (here : Here ℕ) (word : LastWord) (slash : Bool)
      → place_end (walk_end (Walking.placed nat_eq looks task here word slash))
      ≡ placed looks task here.location word slash
  placed-plain here NoWord slash = refl
  placed-plain here Dot slash = object-plain here Dot slash (Walking.steps_at nat_eq looks task here Dot)
      (unless (search_rules nat_eq looks task here.location) (object_named nat_eq looks task here.location Dot))
  placed-plain here DotDot slash = object-plain here DotDot slash (Walking.steps_at nat_eq looks task here DotDot)
      (unless (search_rules nat_eq looks task here.location) (object_named nat_eq looks task here.location DotDot))
  placed-plain here (Named name) slash =
      object-plain here (Named name) slash (Walking.steps_at nat_eq looks task here (Named name))
      (unless (search_rules nat_eq looks task here.location)
      (object_named nat_eq looks task here.location (Named name)))

  pub placed-of-plain : (r : Result (Here ℕ) (Stop ℕ)) (word : LastWord) (slash : Bool)
      → place_end (walk_end (then_walk r (λ here. Walking.placed nat_eq looks task here word slash)))
      ≡ and_then (plain_end r) (λ here. placed looks task here.location word slash)
  placed-of-plain r word slash = then-place r (λ here. Walking.placed nat_eq looks task here word slash)
      (λ here. placed looks task here.location word slash) (λ here. placed-plain here word slash)

  file-or-plain : (place : Place ℕ) (text : Option (List ℕ)) (follow : List ℕ → Result (Place ℕ) (Stop ℕ))
      (after : List ℕ → Result (Place ℕ) Deny) → ((inner : List ℕ) → place_end (walk_end (follow inner)) ≡ after inner)
      → place_end (walk_end (Walking.file_or_symlink nat_eq looks place text follow))
      ≡ file_or_symlink looks (without_steps place) text after
  file-or-plain place None follow after same = refl
  file-or-plain place (Some inner) follow after same = same inner

  -- what is done at a place of a file
  abbrev linked : ℕ → Here ℕ → Bool → Place ℕ → Result (Place ℕ) Deny
  linked depth here slash place = file_or_symlink looks place (symlink_there nat_eq looks place) (λ inner.
      unless (follow_rules nat_eq looks (symlink_of here place) inner)
      (file_walked looks task depth (symlink_start looks task here.location (symlink_of here place) inner) inner slash))

  pub file-plain : (depth : ℕ) (start : Here ℕ) (text : List ℕ) (slash : Bool)
      → place_end (walk_end (Walking.file_walked nat_eq depth looks task start text slash))
      ≡ file_walked looks task depth (plain start) text slash
  file-plain zero start text slash = refl
  file-plain (suc depth) start text slash =
      let wanted : Bool = slash || ends_in_slash text in
      let last : LastWord = final_word (reverse (words text)) in
      let put : Here ℕ → Result (Place ℕ) Deny = λ here.
      and_then (placed looks task here.location last wanted) (linked depth here wanted) in
      then-place (Walking.prefix_walked nat_eq looks task (Walking.followed nat_eq looks task) start
      (reverse (words text))) _ put
      (λ here. place-then (Walking.placed nat_eq looks task here last wanted) _ (linked depth (plain here) wanted)
      (λ place. file-or-plain place (symlink_there nat_eq looks place) _ _ (λ inner.
      then-place (walk_unless place.steps (follow_rules nat_eq looks (symlink_of here place) inner)
      (Walking.symlink_start nat_eq looks task here.location (symlink_of here place) inner)) _
      (λ next. file_walked looks task depth next inner wanted) (λ next. file-plain depth next inner wanted)
      ∙ ap (λ r. and_then r (λ next. file_walked looks task depth next inner wanted))
      (unless-plain place.steps (follow_rules nat_eq looks (symlink_of here place) inner)
      (Walking.symlink_start nat_eq looks task here.location (symlink_of here place) inner))
      ∙ sym (unless-and_then (follow_rules nat_eq looks (symlink_of here place) inner)
      (symlink_start looks task here.location (symlink_of (plain here) (without_steps place)) inner)
      (λ next. file_walked looks task depth next inner wanted))))
      ∙ ap (λ r. and_then r (linked depth (plain here) wanted)) (placed-plain here last wanted))
      ∙ ap (λ r. and_then r put) (front-plain start (reverse (words text)))
