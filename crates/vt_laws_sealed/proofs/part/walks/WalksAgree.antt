-- Two worlds that show the same through some mounts are walked alike from them.
use Rattle.std.proofs.Common.{◌≡◌, refl, sym, ap, subst, ◌∙◌, inl, inr, ⊎_elim, ℕ, zero, suc, nat_eq, Bool, true, false, cond, List, [], ◌∷◌, ◌++◌, Option, Some, None, Ok, Err, Result, map, flat_map, not, ◌||◌, reverse, arith, IfOk, ok_or, option_map, option_to_list}
use Rattle.vt_spec.proofs.Common.{Among, Dot, DotDot, Follow, Here, LastWord, Location, Looks, Mount, Named, NoWord, Rules, Stop, Task, among-append, and_then, common_steps, contains_from_among, denial, ends_in_slash, entered_upward, entries_in, entry_location, entry_named, filesystems_of, follow_rules, hops, if_symlink, is_directory_node, last_or, last_word, met_by, parent_in, same_location, search_rules, slash_rules, start_of, stepped, steps_with, stopped_by, symlink_start, symlink_text, symlink_walked, then_walk, unless, up_from, walk_unless, word_walked, words, words_walked}
use Rattle.vt_laws_sealed.proofs.Common.{Deny, W3, W6, W8, is_lost, is_top, mount_at, parent_location, topmost}
use Rattle.vt_laws_sealed.specs.Part.Walks.{AreOn, ShowAlike, TextsAgree, WordsAgree}

-- two results are one, and what is in it is so
abbrev pub Agree : {A E : Type 0} → (A → Type 0) → Result A E → Result A E → Type 0
Agree Q a b = (a ≡ b) × IfOk a Q

pub then_agree : {A B : Type 0} (Q : A → Type 0) (R : B → Type 0) (a b : Result A (Stop ℕ))
    (f g : A → Result B (Stop ℕ)) → Agree Q a b → ((x : A) → Q x → Agree R (f x) (g x))
    → Agree R (then_walk a f) (then_walk b g)
then_agree Q R (Ok x) b f g (e, q) next =
    let n = next x q in (cc (n.0), n.1)
then_agree Q R (Err stop) b f g (e, q) next = (ap (λ r. then_walk r g) e, tt)

pub unless_agree : {A : Type 0} (Q : A → Type 0) (steps : List (List ℕ)) (rules : Rules) (a : A) → Q a
    → IfOk (walk_unless steps rules a) Q
unless_agree Q steps [] a q = q
unless_agree Q steps ((true, rule) ∷ rules) a q = tt
unless_agree Q steps ((false, rule) ∷ rules) a q = unless_agree Q steps rules a q

-- each of these is so
abbrev pub Each : {A : Type 0} → (A → Type 0) → List A → Type 0
Each {A} Q list = (a : A) → Among a list → Q a

pub last_each : {A : Type 0} (Q : A → Type 0) (list : List A) (a : A) → Q a → Each Q list → Q (last_or a list)
last_each Q [] a q h = q
last_each Q (b ∷ list) a q h = last_each Q list b (h b (inl refl)) (λ c m. h c (inr m))

pub map_each : {A B : Type 0} (Q : A → Type 0) (f g : A → B) (list : List A) → ((a : A) → Q a → f a ≡ g a) → Each Q list
    → map f list ≡ map g list
map_each Q f g [] same h = refl
map_each Q f g (a ∷ list) same h = cc (same a (h a (inl refl)), map_each Q f g list same (λ c m. h c (inr m)))

-- what two worlds have to show alike on these mounts
pub record Alike (one other : Looks ℕ) (task : Task ℕ) (Own : ℕ → Type 0) : Type 0 where
  pub root : Own task.root.mount
  pub node : (here : Location ℕ) → Own here.mount → one.node here ≡ other.node here
  pub mount : (here : Location ℕ) → Own here.mount → mount_at one here ≡ mount_at other here
  pub overlay : (here : Location ℕ) → Own here.mount → one.overlay here ≡ other.overlay here
  pub over : (here : Location ℕ) → Own here.mount → one.mounts_over here ≡ other.mounts_over here
  pub entered : (here : Location ℕ) → Own here.mount → Each (λ (l : Location ℕ). Own l.mount) (one.mounts_over here)
  pub hops_alike : (here : Location ℕ) → Own here.mount → hops nat_eq one task here ≡ hops nat_eq other task here
  pub hopped : (here : Location ℕ) → Own here.mount → Each (λ (l : Location ℕ). Own l.mount) (hops nat_eq one task here)
  pub lost : (here : Location ℕ) → Own here.mount → is_lost nat_eq one here ≡ is_lost nat_eq other here

module _ {one other : Looks ℕ} {task : Task ℕ} {Own : ℕ → Type 0} (alike : Alike one other task Own) where
  abbrev pub OnOwn : Location ℕ → Type 0
  OnOwn here = Own here.mount

  abbrev pub HereOwn : Here ℕ → Type 0
  HereOwn here = Own here.location.mount

  pub same_search : (here : Location ℕ) → Own here.mount
      → search_rules nat_eq one task here ≡ search_rules nat_eq other task here
  same_search here own = cc (alike.node here own, alike.overlay here own)

  pub same_entry : (here : Location ℕ) (name : List ℕ) → Own here.mount
      → entry_location nat_eq one here name ≡ entry_location nat_eq other here name
  same_entry here name own =
      ap (λ n. option_map (λ object. record { mount = here.mount; node = object }) (entry_named name (entries_in n)))
      (alike.node here own)

  same_parent : (here : Location ℕ) → Own here.mount
      → parent_location nat_eq one here ≡ parent_location nat_eq other here
  same_parent here own = ap (λ n. record { mount = here.mount; node = parent_in here.node n }) (alike.node here own)

  same_top : (here : Location ℕ) → Own here.mount → is_top nat_eq one task here ≡ is_top nat_eq other task here
  same_top here own =
      ap (λ (m : Mount ℕ). same_location nat_eq here task.root || nat_eq here.node m.root) (alike.mount here own)

  pub same_topmost : (here : Location ℕ) → Own here.mount → topmost one here ≡ topmost other here
  same_topmost here own = ap (last_or here) (alike.over here own)

  pub own_topmost : (here : Location ℕ) → Own here.mount → Own (topmost one here).mount
  own_topmost here own = last_each OnOwn (one.mounts_over here) here own (alike.entered here own)

  up_by : (t l : Bool) (here there : Location ℕ) → Own here.mount → Own there.mount
      → IfOk (cond t (Ok here) (unless ((l, W8) ∷ []) (Ok there))) OnOwn
  up_by true l here there own after = own
  up_by false true here there own after = tt
  up_by false false here there own after = after

  up_agrees : (here : Location ℕ) → Own here.mount
      → Agree OnOwn (up_from nat_eq one task here) (up_from nat_eq other task here)
  up_agrees here own = grind (arith, common_steps, same_top, same_topmost, same_parent, up_by, own_topmost)

  named_by : (here : Location ℕ) → Own here.mount → (o : Option ℕ) → Agree OnOwn
      (ok_or (option_map (topmost one) (option_map (λ object. record { mount = here.mount; node = object }) o))
      (denial W6))
      (ok_or (option_map (topmost other) (option_map (λ object. record { mount = here.mount; node = object }) o))
      (denial W6))
  named_by here own o = grind (arith, common_steps, same_topmost, own_topmost)

  pub stepped_agrees : (here : Location ℕ) → Own here.mount → (word : LastWord)
      → Agree OnOwn (stepped nat_eq one task here word) (stepped nat_eq other task here word)
  stepped_agrees here own NoWord = (refl, own)
  stepped_agrees here own Dot = (refl, own)
  stepped_agrees here own DotDot =
      let top : Location ℕ = last_or here (hops nat_eq one task here) in
      let up = up_agrees top (last_each OnOwn (hops nat_eq one task here) here own (alike.hopped here own)) in
      (cc (up.0, alike.hops_alike here own), up.1)
  stepped_agrees here own (Named name) =
      let by = named_by here own (entry_named name (entries_in (one.node here))) in (
        cc (by.0, alike.node here own),
        by.1,
      )

  pub same_filesystems : (list : List (Location ℕ)) → Each OnOwn list
      → filesystems_of nat_eq one list ≡ filesystems_of nat_eq other list
  same_filesystems list h = map_each OnOwn _ _ list (λ l own. ap (λ (m : Mount ℕ). m.filesystem) (alike.mount l own)) h

  pub one_each : (here : Location ℕ) → Own here.mount → (list : List (Location ℕ)) → Each OnOwn list
      → Each OnOwn (here ∷ list)
  one_each here own list h l m = ⊎_elim (λ e. subst OnOwn (sym e) own) (λ n. h l n) m

  pub none_each : Each OnOwn []
  none_each l m = absurd m

  pub both_each : (xs ys : List (Location ℕ)) → Each OnOwn xs → Each OnOwn ys → Each OnOwn (xs ++ ys)
  both_each xs ys h k l m = ⊎_elim (h l) (k l) (among-append xs ys l m)

  entered_each : (here : Location ℕ) → Own here.mount → Each OnOwn (entered_upward nat_eq one task here)
  entered_each here own = by (is_top nat_eq one task here)
    where
      by : (b : Bool) → Each OnOwn (cond b [] (one.mounts_over (parent_location nat_eq one here)))
      by true = none_each
      by false = alike.entered (parent_location nat_eq one here) own

  same_entered : (here : Location ℕ) → Own here.mount
      → entered_upward nat_eq one task here ≡ entered_upward nat_eq other task here
  same_entered here own = cc (same_top here own, alike.over (parent_location nat_eq one here) own, same_parent here own)

  pub over_by : (here : Location ℕ) → Own here.mount → (o : Option ℕ) → (flat_map one.mounts_over
      (option_to_list (option_map (λ object. record { mount = here.mount; node = object }) o))
      ≡ flat_map other.mounts_over
      (option_to_list (option_map (λ object. record { mount = here.mount; node = object }) o))) × Each OnOwn
      (flat_map one.mounts_over
      (option_to_list (option_map (λ object. record { mount = here.mount; node = object }) o)))
  over_by here own None = (refl, none_each)
  over_by here own (Some object) =
      let there : Location ℕ = record { mount = here.mount; node = object } in (
        ap (λ l. l ++ []) (alike.over there own),
        both_each (one.mounts_over there) [] (alike.entered there own) none_each,
      )

  pub same_met : (here : Location ℕ) → Own here.mount → (word : LastWord)
      → met_by nat_eq one task here word ≡ met_by nat_eq other task here word
  same_met here own NoWord = same_filesystems (here ∷ []) (one_each here own [] none_each)
  same_met here own Dot = same_filesystems (here ∷ []) (one_each here own [] none_each)
  same_met here own DotDot =
      let top : Location ℕ = last_or here (hops nat_eq one task here) in
      let top_own : Own top.mount = last_each OnOwn (hops nat_eq one task here) here own (alike.hopped here own) in
      same_filesystems _ (both_each (hops nat_eq one task here) _ (alike.hopped here own) (entered_each top top_own))
      ∙ ap (λ e. filesystems_of nat_eq other (hops nat_eq one task here ++ e)) (same_entered top top_own) ∙ ap
      (λ h. filesystems_of nat_eq other (h ++ entered_upward nat_eq other task (last_or here h)))
      (alike.hops_alike here own)
  same_met here own (Named name) =
      let by = over_by here own (entry_named name (entries_in (one.node here))) in
      same_filesystems (here ∷ flat_map one.mounts_over (option_to_list (entry_location nat_eq one here name)))
      (one_each here own _ by.1) ∙ ap (λ l. filesystems_of nat_eq other (here ∷ l))
      (cc (by.0, same_entry here name own))

  abbrev word_by : ℕ → List (List ℕ) → Rules → Result (Location ℕ) Deny → Result (Here ℕ) (Stop ℕ)
  word_by left steps rules found = stopped_by steps (and_then (unless rules found)
      (λ reached. Ok (record { location = reached; left = left; steps = steps })))

  word_own : (left : ℕ) (steps : List (List ℕ)) (rules : Rules) (found : Result (Location ℕ) Deny) → IfOk found OnOwn
      → IfOk (word_by left steps rules found) HereOwn
  word_own left steps [] (Ok l) own = own
  word_own left steps [] (Err deny) own = tt
  word_own left steps ((true, rule) ∷ rules) found own = tt
  word_own left steps ((false, rule) ∷ rules) found own = word_own left steps rules found own

  pub word_agrees : (here : Here ℕ) → HereOwn here → (word : LastWord)
      → Agree HereOwn (word_walked nat_eq one task here word) (word_walked nat_eq other task here word)
  word_agrees here own word =
      let step = stepped_agrees here.location own word in (
        ap (λ s. word_by here.left (s ∷ here.steps) (search_rules nat_eq one task here.location)
            (stepped nat_eq one task here.location word)) (same_met here.location own word) ∙ ap
            (λ r. word_by here.left (steps_with nat_eq other task here word) r (stepped nat_eq one task here.location
            word)) (same_search _ own) ∙ ap (word_by here.left (steps_with nat_eq other task here word)
            (search_rules nat_eq other task here.location)) step.0,
        word_own here.left (steps_with nat_eq one task here word) (search_rules nat_eq one task here.location) _ step.1,
      )

  -- walks of texts that agree
  abbrev pub FollowsAgree : Follow ℕ → Follow ℕ → Type 0
  FollowsAgree f g = (directory : Location ℕ) (symlink : Here ℕ) (text : List ℕ) → Own directory.mount → HereOwn symlink
      → Agree HereOwn (f directory symlink text) (g directory symlink text)

  symlink_by : (f g : Follow ℕ) → FollowsAgree f g → (directory : Location ℕ) → Own directory.mount → (next : Here ℕ)
      → HereOwn next → (text : Option (List ℕ))
      → Agree HereOwn (if_symlink next text (f directory next)) (if_symlink next text (g directory next))
  symlink_by f g agree directory from next own None = (refl, own)
  symlink_by f g agree directory from next own (Some text) = agree directory next text from own

  pub words_agree : (f g : Follow ℕ) → FollowsAgree f g → (here : Here ℕ) → HereOwn here → (list : List (List ℕ))
      → Agree HereOwn (words_walked nat_eq one task f here list) (words_walked nat_eq other task g here list)
  words_agree f g agree here own [] = (refl, own)
  words_agree f g agree here own (word ∷ prefix) =
      then_agree HereOwn HereOwn (words_walked nat_eq one task f here prefix) (words_walked nat_eq other task g here
      prefix) (λ reached. then_walk (word_walked nat_eq one task reached (last_word word))
      (λ next. if_symlink next (symlink_text (one.node next.location)) (f reached.location next)))
      (λ reached. then_walk (word_walked nat_eq other task reached (last_word word))
      (λ next. if_symlink next (symlink_text (other.node next.location)) (g reached.location next)))
      (words_agree f g agree here own prefix) (λ reached there. then_agree HereOwn HereOwn
      (word_walked nat_eq one task reached (last_word word)) (word_walked nat_eq other task reached (last_word word))
      (λ next. if_symlink next (symlink_text (one.node next.location)) (f reached.location next))
      (λ next. if_symlink next (symlink_text (other.node next.location)) (g reached.location next))
      (word_agrees reached there _) (λ next after.
      let by = symlink_by f g agree reached.location there next after (symlink_text (one.node next.location)) in (
        cc (by.0, alike.node next.location after),
        by.1,
      )))

  -- the texts of symlinks, however deep
  pub texts_agree : (depth : ℕ)
      → FollowsAgree (symlink_walked nat_eq depth one task) (symlink_walked nat_eq depth other task)
  texts_agree zero directory symlink text from own = (refl, tt)
  texts_agree (suc depth) directory symlink text from own = then_agree HereOwn HereOwn
      (walk_unless symlink.steps (follow_rules nat_eq one symlink text)
      (symlink_start nat_eq one task directory symlink text))
      (walk_unless symlink.steps (follow_rules nat_eq other symlink text)
      (symlink_start nat_eq other task directory symlink text))
      (λ start. then_walk (words_walked nat_eq one task (symlink_walked nat_eq depth one task) start
      (reverse (words text)))
      (λ reached. walk_unless reached.steps (slash_rules nat_eq one text reached.location) reached))
      (λ start. then_walk (words_walked nat_eq other task (symlink_walked nat_eq depth other task) start
      (reverse (words text)))
      (λ reached. walk_unless reached.steps (slash_rules nat_eq other text reached.location) reached)) (
        cc (alike.mount symlink.location own, same_start),
        unless_agree HereOwn symlink.steps (follow_rules nat_eq one symlink text)
            (symlink_start nat_eq one task directory symlink text) start_own,
      ) (λ start there. then_agree HereOwn HereOwn (words_walked nat_eq one task (symlink_walked nat_eq depth one task)
      start (reverse (words text))) (words_walked nat_eq other task (symlink_walked nat_eq depth other task) start
      (reverse (words text))) (λ reached. walk_unless reached.steps (slash_rules nat_eq one text reached.location)
      reached) (λ reached. walk_unless reached.steps (slash_rules nat_eq other text reached.location) reached)
      (words_agree _ _ (texts_agree depth) start there (reverse (words text))) (λ reached after. (
        ap (λ n. walk_unless reached.steps
            ((cond (ends_in_slash text) (not (is_directory_node n)) false, W3) ∷ []) reached)
            (alike.node reached.location after),
        unless_agree HereOwn reached.steps (slash_rules nat_eq one text reached.location) reached after,
      )))
    where
      same_start : symlink_start nat_eq one task directory symlink text
          ≡ symlink_start nat_eq other task directory symlink text
      same_start = grind (arith, common_steps)

      start_own : Own (start_of task directory text).mount
      start_own = grind (arith, common_steps)

-- the same in words of tests
pub each_from : (own : ℕ → Bool) (list : List (Location ℕ)) → AreOn own list
    → Each (λ (l : Location ℕ). own l.mount ≡ true) list
each_from own list on location m = on location (contains_from_among list location m)

module _ (one other : Looks ℕ) (task : Task ℕ) (own : ℕ → Bool) (alike : ShowAlike one other task own) where
  abbrev On : ℕ → Type 0
  On number = own number ≡ true

  all_alike : Alike one other task On
  all_alike = record {
    root = alike.root;
    node = alike.node;
    mount = alike.mount;
    overlay = alike.overlay;
    over = alike.over;
    entered = λ here is. each_from own (one.mounts_over here) (alike.entered here is);
    hops_alike = alike.hops_alike;
    hopped = λ here is. each_from own (hops nat_eq one task here) (alike.hopped here is);
    lost = alike.lost;
  }

pub words_walked_alike : WordsAgree
words_walked_alike one other task own alike depth here list is = words_agree (all_alike one other task own alike)
    (symlink_walked nat_eq depth one task) (symlink_walked nat_eq depth other task)
    (texts_agree (all_alike one other task own alike) depth) here is list

pub texts_walked_alike : TextsAgree
texts_walked_alike one other task own alike depth directory symlink text from is = texts_agree
    (all_alike one other task own alike) depth directory symlink text from is
