-- Every walk of a path leads alike, where two worlds show alike what it meets.
use Rattle.std.proofs.Common.{◌≡◌, refl, ap, subst, ◌∙◌, ℕ, zero, suc, ◌+◌, ◌++◌, nat_eq, Bool, true, false, cond, not, List, [], ◌∷◌, Option, Some, None, is_some, Ok, Err, Result, reverse, ◌||◌, ◌&&◌, arith, IfOk, flat_map, option_map, option_to_list, unwrap_or}
use Rattle.vt_spec.proofs.Common.{Dot, DotDot, Here, LastWord, Location, Looks, Named, NoWord, Place, Rules, Stop, Task, and_then, at_topmost, common_steps, destination_walk, directory_walk, ends_in_slash, entered, entry_location, file_walk, filesystems_of, final_word, follow_rules, is_directory_node, is_directory_there, is_special, met_at, most_symlinks, new_leaf_walk, new_walk, none_is_some, object_named, object_walk, old_leaf_walk, old_walk, path_text, place_walk, placed, rename_new_walk, same_Some, search_rules, slash_rules, source_walk, start_of, stepped, steps_at, stopped_by, symlink_of, symlink_start, symlink_there, symlink_walk, symlink_walk_by, then_walk, unless, walk_end, walk_start, walk_unless, words, words_walked}
use Rattle.vt_laws_members.proofs.Common.{Agree, Alike, Deny, FollowsAgree, W3, W6, W8, both_each, file_or_symlink, file_walked, followed, is_directory_at, last_walked, new_name_rules, none_each, one_each, own_topmost, path_walked, prefix_walked, same_entry, same_filesystems, same_met, same_search, same_topmost, stepped_agrees, texts_agree, then_agree, topmost, unless_agree, word_agrees, words_agree}

pub ok_any : {A E : Type 0} (r : Result A E) → IfOk r (λ a. Unit {0})
ok_any (Ok a) = tt
ok_any (Err e) = tt

-- refused by the same rules, or not
pub unless_same : {A : Type 0} (Q : A → Type 0) (steps : List (List ℕ)) (rules others : Rules) (a : A) → rules ≡ others
    → Q a → Agree Q (walk_unless steps rules a) (walk_unless steps others a)
unless_same Q steps rules others a same q = (cc, unless_agree Q steps rules a q)

-- what comes after walks that agree
pub judged_alike : {A B : Type 0} (Q : A → Type 0) (w v : Result A (Stop ℕ)) (f g : A → Result B Deny) → Agree Q w v
    → ((a : A) → Q a → f a ≡ g a) → and_then (walk_end w) f ≡ and_then (walk_end v) g
judged_alike Q (Ok a) v f g (e, q) same = cc (same a q)
judged_alike Q (Err stop) v f g (e, q) same = cc

-- a place with what is found there
abbrev placed_by : {A : Type 0} → List (List ℕ) → Rules → Result A Deny → (A → Place ℕ) → Result (Place ℕ) (Stop ℕ)
placed_by steps rules found at = stopped_by steps (and_then (unless rules found) (λ a. Ok (at a)))

placed_own : {A : Type 0} (Q : A → Type 0) (R : Place ℕ → Type 0) (steps : List (List ℕ)) (rules : Rules)
    (found : Result A Deny) (at : A → Place ℕ) → IfOk found Q → ((a : A) → Q a → R (at a))
    → IfOk (placed_by steps rules found at) R
placed_own Q R steps [] (Ok a) at q r = r a q
placed_own Q R steps [] (Err deny) at q r = tt
placed_own Q R steps ((true, rule) ∷ rules) found at q r = tt
placed_own Q R steps ((false, rule) ∷ rules) found at q r = placed_own Q R steps rules found at q r

-- What two worlds have to show alike, where walks of a task lead alike
pub record WalksAlike (one other : Looks ℕ) (task : Task ℕ) (Own : ℕ → Type 0) : Type 0 where
  pub walks : Alike one other task Own
  pub directory : Own task.directory.mount
  pub removed : (here : Location ℕ) → Own here.mount → one.is_removed here ≡ other.is_removed here

module _ {one other : Looks ℕ} {task : Task ℕ} {Own : ℕ → Type 0} (leads : WalksAlike one other task Own) where
  abbrev pub At : Location ℕ → Type 0
  At here = Own here.mount

  abbrev pub HereAt : Here ℕ → Type 0
  HereAt here = Own here.location.mount

  abbrev pub FoundAt : Option (Location ℕ) → Type 0
  FoundAt o = (object : Location ℕ) → o ≡ Some object → Own object.mount

  -- the directory of a place, and its object if there is one
  abbrev pub PlaceAt : Place ℕ → Type 0
  PlaceAt place = Own place.parent.mount × FoundAt place.object

  found_some : (here : Location ℕ) → Own here.mount → FoundAt (Some here)
  found_some here own object e = subst At (same_Some here object e) own

  found_none : FoundAt None
  found_none object e = none_is_some object e

  pub start_at : (text : List ℕ) → HereAt (walk_start task text)
  start_at text = grind (arith, common_steps)

  follows : FollowsAgree leads.walks (followed nat_eq one task) (followed nat_eq other task)
  follows = texts_agree leads.walks (most_symlinks + 1)

  text_agrees : {B : Type 0} (R : B → Type 0) (path : List ℕ) (f g : List ℕ → Result B (Stop ℕ))
      → ((text : List ℕ) → Agree R (f text) (g text))
      → Agree R (then_walk (path_text path) f) (then_walk (path_text path) g)
  text_agrees R path f g next = then_agree _ R (path_text path) _ f g (refl, ok_any _) (λ text any. next text)

  path_agrees : (path : List ℕ) → Agree HereAt (path_walked nat_eq one task path) (path_walked nat_eq other task path)
  path_agrees path = text_agrees HereAt path
      (λ text. words_walked nat_eq one task (followed nat_eq one task) (walk_start task text) (reverse (words text)))
      (λ text. words_walked nat_eq other task (followed nat_eq other task) (walk_start task text)
      (reverse (words text)))
      (λ text. words_agree leads.walks (followed nat_eq one task) (followed nat_eq other task) follows
      (walk_start task text) (start_at text) (reverse (words text)))

  same_slash : (text : List ℕ) (here : Location ℕ) → Own here.mount
      → slash_rules nat_eq one text here ≡ slash_rules nat_eq other text here
  same_slash text here own = cc (leads.walks.node here own)

  pub object_agrees : (path : List ℕ)
      → Agree HereAt (object_walk nat_eq one task path) (object_walk nat_eq other task path)
  object_agrees path = then_agree HereAt HereAt (path_walked nat_eq one task path) _ _ _ (path_agrees path)
      (λ here own. unless_same HereAt here.steps _ _ here (same_slash path here.location own) own)

  pub directory_agrees : (path : List ℕ)
      → Agree HereAt (directory_walk nat_eq one task path) (directory_walk nat_eq other task path)
  directory_agrees path =
      then_agree HereAt HereAt (path_walked nat_eq one task path) (path_walked nat_eq other task path)
      (λ here. walk_unless here.steps ((not (is_directory_at one here.location), W3) ∷ []) here)
      (λ here. walk_unless here.steps ((not (is_directory_at other here.location), W3) ∷ []) here) (path_agrees path)
      (λ here own. unless_same HereAt here.steps _ _ here
      (ap (λ n. (not (is_directory_node n), W3) ∷ []) (leads.walks.node here.location own)) own)

  prefix_agrees : (here : Here ℕ) → HereAt here → (list : List (List ℕ))
      → Agree HereAt (prefix_walked nat_eq one task (followed nat_eq one task) here list)
      (prefix_walked nat_eq other task (followed nat_eq other task) here list)
  prefix_agrees here own [] = (refl, own)
  prefix_agrees here own (word ∷ prefix) = words_agree leads.walks _ _ follows here own prefix

  last_agrees : (here : Here ℕ) → HereAt here → (word : LastWord)
      → Agree HereAt (last_walked nat_eq one task here word) (last_walked nat_eq other task here word)
  last_agrees here own NoWord = (refl, own)
  last_agrees here own Dot = word_agrees leads.walks here own Dot
  last_agrees here own DotDot = word_agrees leads.walks here own DotDot
  last_agrees here own (Named name) = word_agrees leads.walks here own (Named name)

  symlink_by : (slash : Bool) (path : List ℕ)
      → Agree HereAt (symlink_walk_by nat_eq slash one task path) (symlink_walk_by nat_eq slash other task path)
  symlink_by true path = object_agrees path
  symlink_by false path = text_agrees HereAt path
      (λ text. then_walk (prefix_walked nat_eq one task (followed nat_eq one task) (walk_start task text)
      (reverse (words text))) (λ here. last_walked nat_eq one task here (final_word (reverse (words text)))))
      (λ text. then_walk (prefix_walked nat_eq other task (followed nat_eq other task) (walk_start task text)
      (reverse (words text))) (λ here. last_walked nat_eq other task here (final_word (reverse (words text)))))
      (λ text. then_agree HereAt HereAt
      (prefix_walked nat_eq one task (followed nat_eq one task) (walk_start task text) (reverse (words text)))
      (prefix_walked nat_eq other task (followed nat_eq other task) (walk_start task text) (reverse (words text)))
      (λ here. last_walked nat_eq one task here (final_word (reverse (words text))))
      (λ here. last_walked nat_eq other task here (final_word (reverse (words text))))
      (prefix_agrees (walk_start task text) (start_at text) (reverse (words text)))
      (λ here own. last_agrees here own (final_word (reverse (words text)))))

  pub symlink_agrees : (path : List ℕ)
      → Agree HereAt (symlink_walk nat_eq one task path) (symlink_walk nat_eq other task path)
  symlink_agrees path = symlink_by (ends_in_slash path) path

  -- Places

  entry_at : (here : Location ℕ) (name : List ℕ) → Own here.mount → FoundAt (entry_location nat_eq one here name)
  entry_at here name own = grind (arith, common_steps, found_none, found_some)

  named_agrees : (here : Location ℕ) → Own here.mount → (word : LastWord)
      → Agree FoundAt (object_named nat_eq one task here word) (object_named nat_eq other task here word)
  named_agrees here own NoWord = (refl, found_some here own)
  named_agrees here own Dot = (refl, found_some here own)
  named_agrees here own DotDot =
      let up = stepped_agrees leads.walks here own DotDot in
      (cc up.0, by (stepped nat_eq one task here DotDot) up.1)
    where
      by : (r : Result (Location ℕ) Deny) → IfOk r At → IfOk (and_then r (λ parent. Ok (Some parent))) FoundAt
      by (Ok parent) on = found_some parent on
      by (Err deny) on = tt
  named_agrees here own (Named name) = (ap Ok (same_entry leads.walks here name own), entry_at here name own)

  same_met_at : (here : Location ℕ) → Own here.mount → (word : LastWord)
      → met_at nat_eq one task here word ≡ met_at nat_eq other task here word
  same_met_at here own NoWord = same_met leads.walks here own NoWord
  same_met_at here own Dot = same_met leads.walks here own Dot
  same_met_at here own DotDot = same_met leads.walks here own DotDot
  same_met_at here own (Named name) = same_filesystems leads.walks (here ∷ [])
      (one_each leads.walks here own [] (none_each leads.walks))

  abbrev at_place : Here ℕ → LastWord → Bool → List (List ℕ) → Option (Location ℕ) → Place ℕ
  at_place here word slash steps object =
      record { parent = here.location; last = word; object = object; slash = slash; steps = steps }

  place_by : (here : Here ℕ) → HereAt here → (word : LastWord) (slash : Bool) → Agree PlaceAt
      (placed_by (steps_at nat_eq one task here word) (search_rules nat_eq one task here.location)
      (object_named nat_eq one task here.location word) (at_place here word slash (steps_at nat_eq one task here word)))
      (placed_by (steps_at nat_eq other task here word) (search_rules nat_eq other task here.location)
      (object_named nat_eq other task here.location word)
      (at_place here word slash (steps_at nat_eq other task here word)))
  place_by here own word slash =
      let named = named_agrees here.location own word in (
        cc (same_met_at here.location own word, same_search leads.walks here.location own, named.0),
        placed_own FoundAt PlaceAt (steps_at nat_eq one task here word) (search_rules nat_eq one task here.location)
            (object_named nat_eq one task here.location word)
            (at_place here word slash (steps_at nat_eq one task here word)) named.1 (λ object at. (own, at)),
      )

  placed_agrees : (here : Here ℕ) → HereAt here → (word : LastWord) (slash : Bool)
      → Agree PlaceAt (placed nat_eq one task here word slash) (placed nat_eq other task here word slash)
  placed_agrees here own NoWord slash = (refl, (own, found_some here.location own))
  placed_agrees here own Dot slash = place_by here own Dot slash
  placed_agrees here own DotDot slash = place_by here own DotDot slash
  placed_agrees here own (Named name) slash = place_by here own (Named name) slash

  place_agrees : (path : List ℕ) → Agree PlaceAt (place_walk nat_eq one task path) (place_walk nat_eq other task path)
  place_agrees path = text_agrees PlaceAt path
      (λ text. then_walk (prefix_walked nat_eq one task (followed nat_eq one task) (walk_start task text)
      (reverse (words text)))
      (λ here. placed nat_eq one task here (final_word (reverse (words text))) (ends_in_slash text)))
      (λ text. then_walk (prefix_walked nat_eq other task (followed nat_eq other task) (walk_start task text)
      (reverse (words text)))
      (λ here. placed nat_eq other task here (final_word (reverse (words text))) (ends_in_slash text)))
      (λ text. then_agree HereAt PlaceAt
      (prefix_walked nat_eq one task (followed nat_eq one task) (walk_start task text) (reverse (words text)))
      (prefix_walked nat_eq other task (followed nat_eq other task) (walk_start task text) (reverse (words text)))
      (λ here. placed nat_eq one task here (final_word (reverse (words text))) (ends_in_slash text))
      (λ here. placed nat_eq other task here (final_word (reverse (words text))) (ends_in_slash text))
      (prefix_agrees (walk_start task text) (start_at text) (reverse (words text)))
      (λ here own. placed_agrees here own (final_word (reverse (words text))) (ends_in_slash text)))

  same_new_name : (place : Place ℕ) → PlaceAt place
      → new_name_rules nat_eq one place ≡ new_name_rules nat_eq other place
  same_new_name place at = cc (leads.removed place.parent at.0)

  pub new_agrees : (path : List ℕ) → Agree PlaceAt (new_walk nat_eq one task path) (new_walk nat_eq other task path)
  new_agrees path = then_agree PlaceAt PlaceAt (place_walk nat_eq one task path) (place_walk nat_eq other task path) _ _
      (place_agrees path) (λ place at. unless_same PlaceAt place.steps _ _ place (same_new_name place at) at)

  pub new_leaf_agrees : (path : List ℕ)
      → Agree PlaceAt (new_leaf_walk nat_eq one task path) (new_leaf_walk nat_eq other task path)
  new_leaf_agrees path = then_agree PlaceAt PlaceAt (new_walk nat_eq one task path) (new_walk nat_eq other task path)
      (λ place. walk_unless place.steps ((place.slash && not (is_some place.object), W6) ∷ []) place)
      (λ place. walk_unless place.steps ((place.slash && not (is_some place.object), W6) ∷ []) place) (new_agrees path)
      (λ place at. unless_same PlaceAt place.steps ((place.slash && not (is_some place.object), W6) ∷ [])
      ((place.slash && not (is_some place.object), W6) ∷ []) place refl at)

  pub old_agrees : (path : List ℕ) → Agree PlaceAt (old_walk nat_eq one task path) (old_walk nat_eq other task path)
  old_agrees path = then_agree PlaceAt PlaceAt (place_walk nat_eq one task path) (place_walk nat_eq other task path)
      (λ place. walk_unless place.steps ((not (is_some place.object), W6) ∷ []) place)
      (λ place. walk_unless place.steps ((not (is_some place.object), W6) ∷ []) place) (place_agrees path)
      (λ place at. unless_same PlaceAt place.steps ((not (is_some place.object), W6) ∷ [])
      ((not (is_some place.object), W6) ∷ []) place refl at)

  pub same_directory_there : (place : Place ℕ) → PlaceAt place
      → is_directory_there nat_eq one place ≡ is_directory_there nat_eq other place
  same_directory_there place at = grind (arith, common_steps)

  pub old_leaf_agrees : (path : List ℕ)
      → Agree PlaceAt (old_leaf_walk nat_eq one task path) (old_leaf_walk nat_eq other task path)
  old_leaf_agrees path = then_agree _ _ _ _ _ _ (old_agrees path) (λ place at. unless_same PlaceAt place.steps _ _ place
      (ap (λ b. (place.slash && not b, W3) ∷ []) (same_directory_there place at)) at)

  pub rename_new_agrees : (path : List ℕ) (was : Bool)
      → Agree PlaceAt (rename_new_walk nat_eq one task path was) (rename_new_walk nat_eq other task path was)
  rename_new_agrees path was =
      then_agree PlaceAt PlaceAt (new_walk nat_eq one task path) (new_walk nat_eq other task path)
      (λ place. walk_unless place.steps ((place.slash && not was, W3) ∷ []) place)
      (λ place. walk_unless place.steps ((place.slash && not was, W3) ∷ []) place) (new_agrees path)
      (λ place at. unless_same PlaceAt place.steps ((place.slash && not was, W3) ∷ [])
      ((place.slash && not was, W3) ∷ []) place refl at)

  -- Mounts

  pub source_agrees : (path : List ℕ)
      → Agree HereAt (source_walk nat_eq one task path) (source_walk nat_eq other task path)
  source_agrees path =
      then_agree HereAt HereAt (directory_walk nat_eq one task path) (directory_walk nat_eq other task path)
      (λ here. walk_unless here.steps ((one.is_removed here.location, W8) ∷ []) here)
      (λ here. walk_unless here.steps ((other.is_removed here.location, W8) ∷ []) here) (directory_agrees path)
      (λ here own. unless_same HereAt here.steps _ _ here
      (ap (λ b. (b, W8) ∷ []) (leads.removed here.location own)) own)

  pub destination_agrees : (path : List ℕ)
      → Agree HereAt (destination_walk nat_eq one task path) (destination_walk nat_eq other task path)
  destination_agrees path =
      then_agree HereAt HereAt (source_walk nat_eq one task path) (source_walk nat_eq other task path)
      (λ here. walk_unless here.steps ((one.is_removed (topmost one here.location), W8) ∷ []) (at_topmost one here))
      (λ here. walk_unless here.steps ((other.is_removed (topmost other here.location), W8) ∷ [])
      (at_topmost other here)) (source_agrees path) (λ here own.
      let top : Own (topmost one here.location).mount = own_topmost leads.walks here.location own in (
        ap (λ b. walk_unless here.steps ((b, W8) ∷ []) (at_topmost one here))
            (leads.removed (topmost one here.location) top)
            ∙ ap (λ l. walk_unless here.steps ((other.is_removed l, W8) ∷ []) (record here { location = l }))
            (same_topmost leads.walks here.location own),
        unless_agree HereAt here.steps ((one.is_removed (topmost one here.location), W8) ∷ [])
            (at_topmost one here) top,
      ))

  -- Files that are opened or made

  same_symlink_there : (place : Place ℕ) → PlaceAt place
      → symlink_there nat_eq one place ≡ symlink_there nat_eq other place
  same_symlink_there place at = grind (arith, common_steps)

  abbrev mounts_entered : Looks ℕ → Bool → Option (Location ℕ) → List (Location ℕ)
  mounts_entered looks special o = cond special [] (flat_map looks.mounts_over (option_to_list o))

  entered_by : (special : Bool) (o : Option (Location ℕ)) → FoundAt o
      → (option_map (topmost one) o ≡ option_map (topmost other) o)
      × (filesystems_of nat_eq one (mounts_entered one special o)
      ≡ filesystems_of nat_eq other (mounts_entered other special o)) × FoundAt (option_map (topmost one) o)
  entered_by true None f = (refl, refl, found_none)
  entered_by false None f = (refl, refl, found_none)
  entered_by true (Some object) f = (
    ap Some (same_topmost leads.walks object (f object refl)),
    refl,
    found_some (topmost one object) (own_topmost leads.walks object (f object refl)),
  )
  entered_by false (Some object) f =
      let own : Own object.mount = f object refl in
      let by = over_list object own in (
        ap Some (same_topmost leads.walks object own),
        by,
        found_some (topmost one object) (own_topmost leads.walks object own),
      )
    where
      over_list : (object : Location ℕ) → Own object.mount → filesystems_of nat_eq one (one.mounts_over object ++ [])
          ≡ filesystems_of nat_eq other (other.mounts_over object ++ [])
      over_list object own = same_filesystems leads.walks (one.mounts_over object ++ [])
          (both_each leads.walks (one.mounts_over object) [] (leads.walks.entered object own) (none_each leads.walks))
          ∙ ap (λ l. filesystems_of nat_eq other (l ++ [])) (leads.walks.over object own)

  entered_agrees : (place : Place ℕ) → PlaceAt place
      → (entered nat_eq one place ≡ entered nat_eq other place) × PlaceAt (entered nat_eq one place)
  entered_agrees place at =
      let by = entered_by (is_special place.last) place.object at.1 in (
        cc (by.0, by.1),
        (at.0, by.2),
      )

  link_at : (here : Here ℕ) (place : Place ℕ) → PlaceAt place → HereAt (symlink_of here place)
  link_at here place at = by place.object at.1
    where
      by : (o : Option (Location ℕ)) → FoundAt o → Own (unwrap_or o place.parent).mount
      by None f = at.0
      by (Some object) f = f object refl

  inner_at : (from : Location ℕ) → Own from.mount → (text : List ℕ) → Own (start_of task from text).mount
  inner_at from own text = grind (arith, common_steps)

  start_agrees : (from : Location ℕ) → Own from.mount → (link : Here ℕ) → HereAt link → (text : List ℕ) → Agree HereAt
      (walk_unless link.steps (follow_rules nat_eq one link text) (symlink_start nat_eq one task from link text))
      (walk_unless link.steps (follow_rules nat_eq other link text) (symlink_start nat_eq other task from link text))
  start_agrees from own link at text = (
    cc (leads.walks.mount link.location at, leads.walks.mount task.root leads.walks.root),
    unless_agree HereAt link.steps (follow_rules nat_eq one link text) (symlink_start nat_eq one task from link text)
        (inner_at from own text),
  )

  file_agrees_at : (depth : ℕ) (start : Here ℕ) → HereAt start → (text : List ℕ) (slash : Bool)
      → Agree PlaceAt (file_walked nat_eq depth one task start text slash)
      (file_walked nat_eq depth other task start text slash)
  file_agrees_at zero start own text slash = (refl, tt)
  file_agrees_at (suc depth) start own text slash = then_agree HereAt PlaceAt
      (prefix_walked nat_eq one task (followed nat_eq one task) start (reverse (words text)))
      (prefix_walked nat_eq other task (followed nat_eq other task) start (reverse (words text)))
      (after one) (after other) (prefix_agrees start own (reverse (words text))) (λ here at.
      then_agree PlaceAt PlaceAt
      (placed nat_eq one task here (final_word (reverse (words text))) (slash || ends_in_slash text))
      (placed nat_eq other task here (final_word (reverse (words text))) (slash || ends_in_slash text))
      (at_last one here) (at_last other here)
      (placed_agrees here at (final_word (reverse (words text))) (slash || ends_in_slash text)) (λ place stands.
      let by = by_symlink here at place stands
      (λ next inner on. file_agrees_at depth next on inner (slash || ends_in_slash text))
      (symlink_there nat_eq one place) in (
        cc (by.0, same_symlink_there place stands),
        by.1,
      )))
    where
      next_text : Looks ℕ → Here ℕ → Place ℕ → List ℕ → Result (Place ℕ) (Stop ℕ)
      next_text looks here place inner =
          then_walk (walk_unless place.steps (follow_rules nat_eq looks (symlink_of here place) inner)
          (symlink_start nat_eq looks task here.location (symlink_of here place) inner))
          (λ next. file_walked nat_eq depth looks task next inner (slash || ends_in_slash text))

      at_last : Looks ℕ → Here ℕ → Place ℕ → Result (Place ℕ) (Stop ℕ)
      at_last looks here place =
          file_or_symlink nat_eq looks place (symlink_there nat_eq looks place) (next_text looks here place)

      after : Looks ℕ → Here ℕ → Result (Place ℕ) (Stop ℕ)
      after looks here =
          then_walk (placed nat_eq looks task here (final_word (reverse (words text))) (slash || ends_in_slash text))
          (at_last looks here)

      by_symlink : (here : Here ℕ) → HereAt here → (place : Place ℕ) → PlaceAt place
          → ((next : Here ℕ) (inner : List ℕ) → HereAt next
          → Agree PlaceAt (file_walked nat_eq depth one task next inner (slash || ends_in_slash text))
          (file_walked nat_eq depth other task next inner (slash || ends_in_slash text))) → (o : Option (List ℕ))
          → Agree PlaceAt (file_or_symlink nat_eq one place o (next_text one here place))
          (file_or_symlink nat_eq other place o (next_text other here place))
      by_symlink here at place stands rest None =
          let e = entered_agrees place stands in (ap Ok e.0, e.1)
      by_symlink here at place stands rest (Some inner) = then_agree HereAt PlaceAt
          (walk_unless place.steps (follow_rules nat_eq one (symlink_of here place) inner)
          (symlink_start nat_eq one task here.location (symlink_of here place) inner))
          (walk_unless place.steps (follow_rules nat_eq other (symlink_of here place) inner)
          (symlink_start nat_eq other task here.location (symlink_of here place) inner))
          (λ next. file_walked nat_eq depth one task next inner (slash || ends_in_slash text))
          (λ next. file_walked nat_eq depth other task next inner (slash || ends_in_slash text))
          (start_agrees here.location at (symlink_of here place) (link_at here place stands) inner)
          (λ next on. rest next inner on)

  pub file_agrees : (path : List ℕ) → Agree PlaceAt (file_walk nat_eq one task path) (file_walk nat_eq other task path)
  file_agrees path = text_agrees PlaceAt path
      (λ text. then_walk (file_walked nat_eq (most_symlinks + 1) one task (walk_start task text) text false)
      (λ place. walk_unless place.steps (new_name_rules nat_eq one place) place))
      (λ text. then_walk (file_walked nat_eq (most_symlinks + 1) other task (walk_start task text) text false)
      (λ place. walk_unless place.steps (new_name_rules nat_eq other place) place)) (λ text. then_agree PlaceAt PlaceAt
      (file_walked nat_eq (most_symlinks + 1) one task (walk_start task text) text false)
      (file_walked nat_eq (most_symlinks + 1) other task (walk_start task text) text false)
      (λ place. walk_unless place.steps (new_name_rules nat_eq one place) place)
      (λ place. walk_unless place.steps (new_name_rules nat_eq other place) place)
      (file_agrees_at (most_symlinks + 1) (walk_start task text) (start_at text) text false)
      (λ place at. unless_same PlaceAt place.steps (new_name_rules nat_eq one place)
      (new_name_rules nat_eq other place) place (same_new_name place at) at))
