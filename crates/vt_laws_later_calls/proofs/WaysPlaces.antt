-- Where the walks of paths end in what a call left: at the object where they ended, at what a name has now, or nowhere.
use Rattle.std.proofs.Common.{◌≡◌, refl, sym, ap, subst, ◌∙◌, inl, inr, ◌⊎◌, true≢false, ℕ, nat_eq, Bool, true, false, cond, not, List, [], ◌∷◌, reverse, None, Result, Ok, Err, arith}
use Rattle.vt_spec.proofs.Common.{Dot, DotDot, Here, LastWord, Location, Looks, Named, NoWord, NoneFails, Place, Rules, Stop, Task, and_then, and_then-Ok, common_steps, denial, directory_walk, ends_in_slash, final_word, if_symlink, is_special, last_word, object_named, object_walk, parsed_path, passed, passing, path_rules, path_text, place_walk, placed, same_ok, search_rules, slash_rules, stepped, steps_at, steps_with, stopped_by, symlink_text, symlink_walk, symlink_walk_by, then_walk, unless, walk_start, walk_unless, word_walked, words, words_walked}
use Rattle.vt_laws_later_calls.proofs.Common.{Deny, W3, W4, followed, is_directory_at, last_walked, path_walked, prefix_walked}
use Rattle.vt_laws_later_calls.proofs.Ways.{EndsAt, Ends, LeadsToo, Stops, at, both_walked, not_stopped, same_end, search_too, slash_too, start_known, start_same, then_too, walk_passed, walk_passing, word_gave, word_too, words_lead}

-- a text that may be walked is the path
pub path_parsed : (path text : List ℕ) → path_text {N = ℕ} path ≡ Ok text → path ≡ text
path_parsed path text e = same_ok path text
    (passing (path_rules path) (Ok path) text (not_stopped [] (parsed_path path) text e)).1

-- A path that leads to a name in a directory
pub record NamedPlace (looks : Looks ℕ) (task : Task ℕ) (path : List ℕ) (place : Place ℕ) : Type 0 where
  pub parsed : path_text {N = ℕ} path ≡ Ok path
  pub here : Here ℕ
  pub word : List ℕ
  pub front : List (List ℕ)
  pub words_are : reverse (words path) ≡ word ∷ front
  pub walked : words_walked nat_eq looks task (followed nat_eq looks task) (walk_start task path) front ≡ Ok here
  pub searched : NoneFails (search_rules nat_eq looks task here.location)
  pub parent_is : here.location ≡ place.parent
  pub last_is : last_word word ≡ place.last
  pub object_is : object_named nat_eq looks task here.location (last_word word) ≡ Ok place.object
  pub slash_is : ends_in_slash path ≡ place.slash

-- what a word that names an entry was placed at
pub record IsPlacedAt (looks : Looks ℕ) (task : Task ℕ) (here : Here ℕ) (last : LastWord) (slash : Bool)
    (place : Place ℕ) : Type 0 where
  pub searched : NoneFails (search_rules nat_eq looks task here.location)
  pub parent_is : here.location ≡ place.parent
  pub last_is : last ≡ place.last
  pub object_is : object_named nat_eq looks task here.location last ≡ Ok place.object
  pub slash_is : slash ≡ place.slash

no_name : (last : LastWord) (place : Place ℕ) → last ≡ place.last → is_special last ≡ true
    → is_special place.last ≡ false → ⊥
no_name last place e special named = true≢false (cc)

pub placed_at : (looks : Looks ℕ) (task : Task ℕ) (here : Here ℕ) (last : LastWord) (slash : Bool) (place : Place ℕ)
    → placed nat_eq looks task here last slash ≡ Ok place → is_special place.last ≡ false
    → IsPlacedAt looks task here last slash place
placed_at looks task here NoWord slash place e special =
    absurd (no_name NoWord place (cc (same_end _ place e)) refl special)
placed_at looks task here Dot slash place e special =
    let both = and_then-Ok (unless (search_rules nat_eq looks task here.location)
    (object_named nat_eq looks task here.location Dot)) _ place (not_stopped (steps_at nat_eq looks task here Dot) _
    place e) in
    absurd (no_name Dot place (cc (same_ok _ place both.2)) refl special)
placed_at looks task here DotDot slash place e special =
    let both = and_then-Ok (unless (search_rules nat_eq looks task here.location)
    (object_named nat_eq looks task here.location DotDot)) _ place (not_stopped (steps_at nat_eq looks task here DotDot)
    _ place e) in
    absurd (no_name DotDot place (cc (same_ok _ place both.2)) refl special)
placed_at looks task here (Named name) slash place e special =
    let both = and_then-Ok (unless (search_rules nat_eq looks task here.location)
    (object_named nat_eq looks task here.location (Named name))) _ place
    (not_stopped (steps_at nat_eq looks task here (Named name)) _ place e) in
    let parts = passing (search_rules nat_eq looks task here.location) (object_named nat_eq looks task here.location
    (Named name)) both.0 both.1 in
    let same = same_ok _ place both.2 in
    record {
      searched = parts.0;
      parent_is = cc;
      last_is = cc;
      object_is = cc parts.1;
      slash_is = cc;
    }

pub named_place : (looks : Looks ℕ) (task : Task ℕ) (path : List ℕ) (place : Place ℕ)
    → place_walk nat_eq looks task path ≡ Ok place → is_special place.last ≡ false → NamedPlace looks task path place
named_place looks task path place e special =
    let texts = both_walked (path_text {N = ℕ} path) _ place e in
    let same : path ≡ texts.0 = path_parsed path texts.0 texts.1 in
    let rest = subst (λ text. then_walk (prefix_walked nat_eq looks task (followed nat_eq looks task)
    (walk_start task text) (reverse (words text))) (λ here. placed nat_eq looks task here
    (final_word (reverse (words text))) (ends_in_slash text)) ≡ Ok place) (sym same) texts.2 in
    by (reverse (words path)) refl (cc texts.1) rest
  where
    by : (list : List (List ℕ)) → reverse (words path) ≡ list → path_text {N = ℕ} path ≡ Ok path
        → then_walk (prefix_walked nat_eq looks task (followed nat_eq looks task) (walk_start task path) list)
        (λ here. placed nat_eq looks task here (final_word list) (ends_in_slash path)) ≡ Ok place
        → NamedPlace looks task path place
    by [] is parsed f = absurd (no_name NoWord place (cc (same_end _ place f)) refl special)
    by (word ∷ front) is parsed f =
        let prefixes = both_walked (words_walked nat_eq looks task (followed nat_eq looks task)
        (walk_start task path) front) _ place f in
        let ends = placed_at looks task prefixes.0 (last_word word) (ends_in_slash path) place prefixes.2 special in
        record {
          parsed = parsed;
          here = prefixes.0;
          word = word;
          front = front;
          words_are = is;
          walked = prefixes.1;
          searched = ends.searched;
          parent_is = ends.parent_is;
          last_is = ends.last_is;
          object_is = ends.object_is;
          slash_is = ends.slash_is;
        }

-- a name is taken as one word
last_walked_is : (looks : Looks ℕ) (task : Task ℕ) (here : Here ℕ) (last : LastWord) → is_special last ≡ false
    → last_walked nat_eq looks task here last ≡ word_walked nat_eq looks task here last
last_walked_is looks task here NoWord e = cc
last_walked_is looks task here Dot e = refl
last_walked_is looks task here DotDot e = refl
last_walked_is looks task here (Named name) e = refl

-- a walk ends there, or is refused so
abbrev pub EndsThere : (Deny → Type 0) → Result (Here ℕ) (Stop ℕ) → Location ℕ → ℕ → Type 0
EndsThere Refused walk next left = EndsAt walk next left ⊎ Stops Refused walk

module _ {looks later : Looks ℕ} {task reader : Task ℕ} {Refused : Deny → Type 0} {Known : Location ℕ → Type 0}
    (leads : LeadsToo looks later task reader Refused Known) where
  abbrev pub EndsSo : Result (Here ℕ) (Stop ℕ) → Here ℕ → Type 0
  EndsSo walk here = Ends leads walk here

  pub begun : (path : List ℕ) → walk_start reader path ≡ at (walk_start task path) []
  begun path = grind (arith, common_steps, start_same)

  begin_known : (path : List ℕ) → Known (walk_start task path).location
  begin_known path = start_known leads task.directory path leads.working_known

  -- words from the start of a path
  words_from : (path : List ℕ) (list : List (List ℕ)) (end : Here ℕ)
      → words_walked nat_eq looks task (followed nat_eq looks task) (walk_start task path) list ≡ Ok end
      → EndsSo (words_walked nat_eq later reader (followed nat_eq later reader) (walk_start reader path) list) end
  words_from path list end e = rw (begun path) ((words_lead leads 41 41 (walk_start task path) list end (omega arith)
      (omega arith) e).1 (begin_known path) [])

  -- a path that led to an object leads there
  pub path_too : (path : List ℕ) (end : Here ℕ) → path_walked nat_eq looks task path ≡ Ok end
      → EndsSo (path_walked nat_eq later reader path) end
  path_too path end e =
      let texts = both_walked (path_text {N = ℕ} path) _ end e in
      let same : path ≡ texts.0 = path_parsed path texts.0 texts.1 in
      rw texts.1 (words_from texts.0 (reverse (words texts.0)) end texts.2)

  pub object_too : (path : List ℕ) (end : Here ℕ) → object_walk nat_eq looks task path ≡ Ok end
      → EndsSo (object_walk nat_eq later reader path) end
  object_too path end e =
      let walks = both_walked (path_walked nat_eq looks task path) _ end e in
      let parts = walk_passing walks.0.steps (slash_rules nat_eq looks path walks.0.location) walks.0 end walks.2 in
      then_too leads (path_walked nat_eq later reader path) _ walks.0 end
      (path_too path walks.0 walks.1) (λ steps known.
      inl (
        (
          steps,
          walk_passed steps (slash_rules nat_eq later path walks.0.location) (at walks.0 steps)
              (slash_too leads path walks.0.location known parts.0) ∙ (λ i. Ok (at (parts.1 i) steps)),
        ),
        rw (← parts.1) known,
      ))

  -- what is led through a walk that ends so
  pub through : {B : Type 0} (P : Result B (Stop ℕ) → Type 0) (first : Result (Here ℕ) (Stop ℕ))
      (next : Here ℕ → Result B (Stop ℕ))
      (a : Here ℕ) → EndsSo first a → ((steps : List (List ℕ)) → Known a.location → P (next (at a steps)))
      → ((stop : Stop ℕ) → Refused stop.deny → P (Err stop)) → P (then_walk first next)
  through P first next a (inl e) ends stops = rw e.0.1 (ends e.0.0 e.1)
  through P first next a (inr stop) ends stops = rw stop.2 (stops stop.0 stop.1)

  -- the last word, which leads to what is there now
  pub last_too : (here : Here ℕ) (word : LastWord) (next : Location ℕ) (steps : List (List ℕ)) → Known here.location
      → NoneFails (search_rules nat_eq looks task here.location)
      → stepped nat_eq later reader here.location word ≡ Ok next
      → EndsThere Refused (word_walked nat_eq later reader (at here steps) word) next here.left
  last_too here word next steps known pass found =
      by (search_too leads here.location known pass)
    where
      by : NoneFails (search_rules nat_eq later reader here.location) ⊎ (Refused (denial W4)
          × ((answer : Result (Location ℕ) Deny) → unless (search_rules nat_eq later reader here.location) answer
          ≡ Err (denial W4))) → EndsThere Refused (word_walked nat_eq later reader (at here steps) word) next here.left
      by (inl may_search) = inl (
        steps_with nat_eq later reader (at here steps) word,
        ap (λ r. stopped_by (steps_with nat_eq later reader (at here steps) word) (and_then r (λ reached.
            Ok (record {
              location = reached;
              left = here.left;
              steps = steps_with nat_eq later reader (at here steps) word;
            })))) (passed (search_rules nat_eq later reader here.location)
            (stepped nat_eq later reader here.location word) may_search ∙ found),
      )
      by (inr hidden) = inr (
        record { deny = denial W4; steps = steps_with nat_eq later reader (at here steps) word },
        hidden.0,
        cc (hidden.1 (stepped nat_eq later reader here.location word)),
      )

  last_stops : (here : Here ℕ) (word : LastWord) (deny : Deny) (steps : List (List ℕ)) → Known here.location
      → NoneFails (search_rules nat_eq looks task here.location)
      → stepped nat_eq later reader here.location word ≡ Err deny
      → Refused deny → Stops Refused (word_walked nat_eq later reader (at here steps) word)
  last_stops here word deny steps known pass lost refused =
      by (word_too leads here here word steps known pass refl (inr (deny, refused, lost)))
    where
      by : EndsSo (word_walked nat_eq later reader (at here steps) word) here
          → Stops Refused (word_walked nat_eq later reader (at here steps) word)
      by (inr stops) = stops
      by (inl ends) =
          let gave = word_gave later reader (at here steps) _ word ends.0.1 in
          absurd (never (sym lost ∙ gave.1))
        where
          never : {A : Type 0} {a : A} → Path (Result A Deny) (Err deny) (Ok a) → ⊥
          never e = cc

  -- A path whose last word names an entry
  module _ (path : List ℕ) (place : Place ℕ) (named : is_special place.last ≡ false)
      (parts : NamedPlace looks task path place) where
    named_word : is_special (last_word parts.word) ≡ false
    named_word = cc parts.last_is

    stepped_there : (next : Result (Location ℕ) Deny) → stepped nat_eq later reader place.parent place.last ≡ next
        → stepped nat_eq later reader parts.here.location (last_word parts.word) ≡ next
    stepped_there next e = (λ i. stepped nat_eq later reader (parts.parent_is i) (parts.last_is i)) ∙ e

    pub parent_known : Known parts.here.location → Known place.parent
    parent_known known = subst Known parts.parent_is known

    pub front_too : EndsSo (words_walked nat_eq later reader (followed nat_eq later reader)
        (walk_start reader path) parts.front) parts.here
    front_too = words_from path parts.front parts.here parts.walked

    -- the walk of all words, and of all but the last and then that one
    path_is : path_walked nat_eq later reader path
        ≡ words_walked nat_eq later reader (followed nat_eq later reader) (walk_start reader path)
        (parts.word ∷ parts.front)
    path_is = cc (parts.parsed, parts.words_are)

    unfollowed_is : symlink_walk_by nat_eq false later reader path
        ≡ then_walk (words_walked nat_eq later reader (followed nat_eq later reader)
        (walk_start reader path) parts.front) (λ here. word_walked nat_eq later reader here (last_word parts.word))
    unfollowed_is = ap (λ r. then_walk r (λ text.
        then_walk (prefix_walked nat_eq later reader (followed nat_eq later reader) (walk_start reader text)
        (reverse (words text)))
        (λ here. last_walked nat_eq later reader here (final_word (reverse (words text)))))) parts.parsed
        ∙ ap (λ list. then_walk (prefix_walked nat_eq later reader (followed nat_eq later reader)
        (walk_start reader path) list) (λ here. last_walked nat_eq later reader here (final_word list))) parts.words_are
        ∙ (λ i. then_walk (words_walked nat_eq later reader (followed nat_eq later reader)
        (walk_start reader path) parts.front)
        (λ here. last_walked_is later reader here (last_word parts.word) named_word i))

    -- a name that leads to what is no link
    module _ (next : Location ℕ) (found : Known place.parent
        → stepped nat_eq later reader place.parent place.last ≡ Ok next) where
      pub named_path_too : symlink_text (later.node next) ≡ None
          → EndsThere Refused (path_walked nat_eq later reader path) next parts.here.left
      named_path_too no_link = rw path_is (through (λ r. EndsThere Refused r next parts.here.left)
          (words_walked nat_eq later reader (followed nat_eq later reader) (walk_start reader path) parts.front) _
          parts.here front_too (λ steps known. by steps (last_too parts.here (last_word parts.word) next steps known
          parts.searched (stepped_there (Ok next) (found (parent_known known)))))
          (λ stop refused. inr (stop, refused, refl)))
        where
          by : (steps : List (List ℕ)) → EndsThere Refused (word_walked nat_eq later reader (at parts.here steps)
              (last_word parts.word)) next parts.here.left → EndsThere Refused (then_walk
              (word_walked nat_eq later reader (at parts.here steps) (last_word parts.word)) (λ there.
              if_symlink there (symlink_text (later.node there.location))
              (followed nat_eq later reader parts.here.location there))) next parts.here.left
          by steps (inl e) = inl (
            e.0,
            cc e.1,
          )
          by steps (inr stop) = inr (
            stop.0,
            stop.1,
            cc stop.2,
          )

      unfollowed_too : EndsThere Refused (symlink_walk_by nat_eq false later reader path) next parts.here.left
      unfollowed_too = rw unfollowed_is (through (λ r. EndsThere Refused r next parts.here.left)
          (words_walked nat_eq later reader (followed nat_eq later reader) (walk_start reader path) parts.front) _
          parts.here front_too (λ steps known. last_too parts.here (last_word parts.word) next steps known
          parts.searched (stepped_there (Ok next) (found (parent_known known))))
          (λ stop refused. inr (stop, refused, refl)))

      -- what rules let pass after the walk
      after_path : EndsThere Refused (path_walked nat_eq later reader path) next parts.here.left
          → (rules : Location ℕ → Rules) → NoneFails (rules next)
          → EndsThere Refused (then_walk (path_walked nat_eq later reader path) (λ here. walk_unless here.steps
          (rules here.location) here)) next parts.here.left
      after_path (inl e) rules pass = inl (
        e.0,
        ap (λ r. then_walk r (λ here. walk_unless here.steps (rules here.location) here)) e.1
            ∙ walk_passed e.0 (rules next) (record { location = next; left = parts.here.left; steps = e.0 }) pass,
      )
      after_path (inr stop) rules pass = inr (stop.0, stop.1, cc stop.2)

      -- a directory, which a slash may follow
      pub directory_named_too : symlink_text (later.node next) ≡ None → is_directory_at later next ≡ true
          → EndsThere Refused (directory_walk nat_eq later reader path) next parts.here.left
      directory_named_too no_link is =
          after_path (named_path_too no_link) (λ here. (not (is_directory_at later here), W3) ∷ []) (cc, tt)

      slash_passes : (slash : Bool) → (slash ≡ true → is_directory_at later next ≡ true)
          → cond slash (not (is_directory_at later next)) false ≡ false
      slash_passes true is = ap not (is refl)
      slash_passes false is = refl

      pub object_named_too : symlink_text (later.node next) ≡ None
          → (ends_in_slash path ≡ true → is_directory_at later next ≡ true)
          → EndsThere Refused (object_walk nat_eq later reader path) next parts.here.left
      object_named_too no_link is =
          after_path (named_path_too no_link) (slash_rules nat_eq later path) (slash_passes (ends_in_slash path) is, tt)

      -- as lstat takes it
      pub symlink_named_too : (ends_in_slash path ≡ true
          → (symlink_text (later.node next) ≡ None) × (is_directory_at later next ≡ true))
          → EndsThere Refused (symlink_walk nat_eq later reader path) next parts.here.left
      symlink_named_too slashed = by (ends_in_slash path) refl
        where
          by : (b : Bool) → ends_in_slash path ≡ b
              → EndsThere Refused (symlink_walk_by nat_eq b later reader path) next parts.here.left
          by true e = object_named_too (slashed e).0 (λ f. (slashed f).1)
          by false e = unfollowed_too

    -- a name that is missing
    module _ (deny : Deny) (refused : Refused deny) (lost : Known place.parent
        → stepped nat_eq later reader place.parent place.last ≡ Err deny) where
      missing_path_too : Stops Refused (path_walked nat_eq later reader path)
      missing_path_too = rw path_is (through (Stops Refused) (words_walked nat_eq later reader
          (followed nat_eq later reader) (walk_start reader path) parts.front) _ parts.here front_too
          (λ steps known. let stop = last_stops parts.here (last_word parts.word) deny steps known parts.searched
          (stepped_there (Err deny) (lost (parent_known known))) refused in (
            stop.0,
            stop.1,
            ap (λ r. then_walk r (λ there. if_symlink there (symlink_text (later.node there.location))
                (followed nat_eq later reader parts.here.location there))) stop.2,
          )) (λ stop refused. (stop, refused, refl)))

      unfollowed_missing : Stops Refused (symlink_walk_by nat_eq false later reader path)
      unfollowed_missing = rw unfollowed_is (through (Stops Refused) (words_walked nat_eq later reader
          (followed nat_eq later reader) (walk_start reader path) parts.front) _ parts.here front_too
          (λ steps known. last_stops parts.here (last_word parts.word) deny steps known parts.searched
          (stepped_there (Err deny) (lost (parent_known known))) refused) (λ stop refused. (stop, refused, refl)))

      pub symlink_missing : Stops Refused (symlink_walk nat_eq later reader path)
      symlink_missing = by (ends_in_slash path)
        where
          by : (b : Bool) → Stops Refused (symlink_walk_by nat_eq b later reader path)
          by true = (
            missing_path_too.0,
            missing_path_too.1,
            cc missing_path_too.2,
          )
          by false = unfollowed_missing
