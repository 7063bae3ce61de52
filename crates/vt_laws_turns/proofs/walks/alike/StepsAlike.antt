-- One step of a walk leads where it led, if the filesystems that it meets are what they were.
use Rattle.std.proofs.Common.{append-nil, ◌≡◌, refl, sym, ap, subst, ◌∙◌, inl, inr, ⊎_elim, ℕ, nat_eq, Bool, true, false, cond, List, [], ◌∷◌, ◌++◌, Option, Some, None, Ok, Err, Result, flat_map, length, not, ◌||◌, arith, IfOk, ok_or, option_map, option_to_list}
use Rattle.vt_spec.proofs.Common.{Among, Dot, DotDot, Here, IsWorld, LastWord, Location, Looks, Mount, Named, NoWord, Node, Overlay, Rules, Stop, Task, World, among-append, among-append_left, among-append_right, among-map, and_then, chain, common_steps, denial, entered_upward, entries_in, entry_location, entry_named, execute_right, filesystem_numbered, filesystems_of, hops, is_directory_node, is_directory_under, is_removed, last_or, looks_of, map-append, map_alike, met_by, mount_numbered, mounter_allows, mounts_of, node_allows, parent_in, same_location, search_rules, stepped, steps_with, stopped_by, unless, word_walked}
use Rattle.vt_laws_turns.proofs.Common.{Deny, IsFound, W3, W4, W5, W6, W8, directory_found, is_directory_at, is_lost, is_top, mount_at, parent_location, place_found, step_found, topmost}
use Rattle.vt_laws_turns.specs.Frames.Unraised.{KeepsFilesystem, KeepsOverlay}
use Rattle.vt_laws_turns.proofs.walks.alike.MountsAlike.{IsOwn, SameMounts, chain_each, hop_in, hop_point, over_own, parent_own, same_hops, same_mount, same_over}
use Rattle.vt_laws_turns.proofs.walks.alike.NodesAlike.{node_same, removed_same, under_same}

-- a chain begins with its start, and ends with one of its own
module _ {A : Type 0} where
  pub chain_start : (next : A → Option A) (n : ℕ) (a : A) → Among a (chain n next a)
  chain_start next n a = grind (arith, common_steps)

  pub last_among : (list : List A) (a : A) → Among a list → Among (last_or a list) list
  last_among [] a m = absurd m
  last_among (b ∷ list) a m = by list b
    where
      by : (rest : List A) (b : A) → Among (last_or b rest) (b ∷ rest)
      by [] b = inl refl
      by (c ∷ rest) b = inr (by rest c)

-- the mounter of an overlay is who it was
mounter_by : (before after : Option (Overlay ℕ)) → KeepsOverlay before after → (wanted : ℕ) (node : Option (Node ℕ))
    → mounter_allows after wanted node ≡ mounter_allows before wanted node
mounter_by before after kept wanted object = grind (arith, common_steps)

-- what a word that is walked leads to
abbrev pub walked_to : ℕ → List (List ℕ) → Rules → Result (Location ℕ) Deny → Result (Here ℕ) (Stop ℕ)
walked_to left steps rules found = stopped_by steps (and_then (unless rules found)
    (λ reached. Ok (record { location = reached; left = left; steps = steps })))

found_ok : (P : Location ℕ → Type 0) (left : ℕ) (steps : List (List ℕ)) (rules : Rules) (found : Result
    (Location ℕ) Deny) → ((l : Location ℕ) → found ≡ Ok l → P l)
    → IfOk (walked_to left steps rules found) (λ (next : Here ℕ). P next.location)
found_ok P left steps [] (Ok l) is = is l refl
found_ok P left steps [] (Err deny) is = tt
found_ok P left steps ((true, rule) ∷ rules) found is = tt
found_ok P left steps ((false, rule) ∷ rules) found is = found_ok P left steps rules found is

ok_is : (P : Location ℕ → Type 0) (found : Result (Location ℕ) Deny) → IfOk found P → (l : Location ℕ)
    → found ≡ Ok l → P l
ok_is P (Ok a) is l e = let same : a ≡ l = cc in subst P same is
ok_is P (Err deny) is l e = cc

-- Two worlds in which a task's namespace has the same mounts
pub record StandsAlike (world later : World ℕ) (task : Task ℕ) : Type 0 where
  pub was : IsWorld nat_eq world
  pub now : IsWorld nat_eq later
  pub same : mounts_of nat_eq later task.namespace ≡ mounts_of nat_eq world task.namespace

module _ {world later : World ℕ} {task : Task ℕ} (worlds : StandsAlike world later task) where
  abbrev mounts : SameMounts world later task.namespace
  mounts = record { was = worlds.was.mounts; now = worlds.now.mounts; same = worlds.same }

  abbrev pub one : Looks ℕ
  one = looks_of nat_eq world

  abbrev pub other : Looks ℕ
  other = looks_of nat_eq later

  abbrev pub Own : ℕ → Type 0
  Own = IsOwn mounts

  abbrev pub shown_at : Location ℕ → ℕ
  shown_at l = (mount_at one l).filesystem

  -- a filesystem is what it was, but for what is gone
  abbrev pub Kept : ℕ → Type 0
  Kept number = KeepsFilesystem (filesystem_numbered nat_eq world number) (filesystem_numbered nat_eq later number)

  abbrev pub EachKept : List ℕ → Type 0
  EachKept list = (number : ℕ) → Among number list → Kept number

  -- a location that is there in both worlds, on a mount that is as it was
  pub record IsThere (l : Location ℕ) : Type 0 where
    pub own : Own l.mount
    pub before : IsFound world worlds.was task l
    pub after : IsFound later worlds.now task l

  pub mount_same : (number : ℕ) → Own number → mount_numbered nat_eq later number ≡ mount_numbered nat_eq world number
  mount_same = same_mount mounts

  pub node_is : (l : Location ℕ) → IsThere l → Kept (shown_at l) → other.node l ≡ one.node l
  node_is l is kept = first
      ∙ node_same worlds.was.files worlds.now.files (shown_at l) kept l.node (cc (first, is.after.1))
    where
      first : other.node l ≡ (filesystem_numbered nat_eq later (shown_at l)).files.tree.node l.node
      first = ap (λ (m : Mount ℕ). (filesystem_numbered nat_eq later m.filesystem).files.tree.node l.node)
          (mount_same l.mount is.own)

  pub directory_is : (l : Location ℕ) → IsThere l → Kept (shown_at l) → is_directory_at other l ≡ is_directory_at one l
  directory_is l is kept = ap is_directory_node (node_is l is kept)

  pub search_is : (l : Location ℕ) → IsThere l → Kept (shown_at l)
      → search_rules nat_eq other task l ≡ search_rules nat_eq one task l
  search_is l is kept =
      cc (
        node_is l is kept,
        mount_same l.mount is.own,
        mounter_by (filesystem_numbered nat_eq world (shown_at l)).overlay
            (filesystem_numbered nat_eq later (shown_at l)).overlay kept.overlay execute_right (one.node l),
      )

  -- whether a directory has left the root of its mount
  abbrev lost_by : World ℕ → Mount ℕ → ℕ → Bool
  lost_by w m node = is_removed nat_eq (filesystem_numbered nat_eq w m.filesystem).files.tree node
      || not (is_directory_under nat_eq (filesystem_numbered nat_eq w m.filesystem).files m.root node)

  lost_is : (l : Location ℕ) → IsThere l → Kept (shown_at l) → is_directory_at one l ≡ true
      → is_lost nat_eq other l ≡ is_lost nat_eq one l
  lost_is l is kept directory = ap (λ m. lost_by later m l.node) (mount_same l.mount is.own)
      ∙ by (is_removed nat_eq (filesystem_numbered nat_eq later (shown_at l)).files.tree l.node) refl
    where
      there : is_directory_node ((filesystem_numbered nat_eq later (shown_at l)).files.tree.node l.node) ≡ true
      there = cc (mount_same l.mount is.own, node_is l is kept, directory)

      removed : is_removed nat_eq (filesystem_numbered nat_eq later (shown_at l)).files.tree l.node
          ≡ is_removed nat_eq (filesystem_numbered nat_eq world (shown_at l)).files.tree l.node
      removed = removed_same worlds.was.files worlds.now.files (shown_at l) kept l.node there

      by : (b : Bool) → is_removed nat_eq (filesystem_numbered nat_eq later (shown_at l)).files.tree l.node ≡ b
          → lost_by later (mount_at one l) l.node ≡ lost_by world (mount_at one l) l.node
      by b e = grind (arith, common_steps, removed, under_same, there)

  -- Where `..` goes on from

  hop_there : (a b : Location ℕ) → IsThere a
      → hop_in mounts task world a ≡ Some b
      → IsThere b × (is_directory_at one b ≡ true)
  hop_there a b is e =
      let point = hop_point mounts task a b e in
      let before = place_found world worlds.was task a.mount b is.before.0 point in
      let after = place_found later worlds.now task a.mount b is.after.0 (cc (mount_same a.mount is.own, point)) in (
        record {
          own = (parent_own mounts a.mount b is.own point).0;
          before = directory_found world worlds.was task b before;
          after = directory_found later worlds.now task b after;
        },
        before.1,
      )

  abbrev way : Location ℕ → List (Location ℕ)
  way here = hops nat_eq one task here

  abbrev top_of : Location ℕ → Location ℕ
  top_of here = last_or here (way here)

  way_there : (here : Location ℕ) → IsThere here → (l : Location ℕ) → Among l (way here) → IsThere l
  way_there here is = chain_each IsThere (hop_in mounts task world)
      (λ a b p e. (hop_there a b p e).0) (length world.mounts) here is

  way_directories : (here : Location ℕ) → IsThere here → is_directory_at one here ≡ true → (l : Location ℕ)
      → Among l (way here) → IsThere l × (is_directory_at one l ≡ true)
  way_directories here is directory = chain_each (λ l. IsThere l × (is_directory_at one l ≡ true))
      (hop_in mounts task world) (λ a b p e. hop_there a b p.0 e) (length world.mounts) here (is, directory)

  top_among : (here : Location ℕ) → Among (top_of here) (way here)
  top_among here = last_among (way here) here (chain_start (hop_in mounts task world) (length world.mounts) here)

  way_same : (here : Location ℕ) → IsThere here → hops nat_eq other task here ≡ way here
  way_same here is = same_hops mounts task here is.own

  pub over_same : (here : Location ℕ) → Own here.mount → other.mounts_over here ≡ one.mounts_over here
  over_same = same_over mounts

  pub over_each : (here : Location ℕ) → Own here.mount → (l : Location ℕ) → Among l (one.mounts_over here) → Own l.mount
  over_each = over_own mounts

  pub topmost_same : (here : Location ℕ) → Own here.mount → topmost other here ≡ topmost one here
  topmost_same here own = ap (last_or here) (over_same here own)

  over_top : (here : Location ℕ) → Among (topmost one here) (one.mounts_over here)
  over_top here = last_among (one.mounts_over here) here (chain_start _ (length world.mounts) here)

  pub shown_same : (list : List (Location ℕ)) → ((l : Location ℕ) → Among l list → Own l.mount)
      → filesystems_of nat_eq other list ≡ filesystems_of nat_eq one list
  shown_same list own = map_alike (λ l. (mount_at other l).filesystem) (λ l. (mount_at one l).filesystem) list
      (λ l m. ap (λ (x : Mount ℕ). x.filesystem) (mount_same l.mount (own l m)))

  top_is : (here : Location ℕ) → Own here.mount → is_top nat_eq other task here ≡ is_top nat_eq one task here
  top_is here own =
      ap (λ (m : Mount ℕ). same_location nat_eq here task.root || nat_eq here.node m.root) (mount_same here.mount own)

  parent_is : (here : Location ℕ) → IsThere here → Kept (shown_at here)
      → parent_location nat_eq other here ≡ parent_location nat_eq one here
  parent_is here is kept = ap (λ n. record { mount = here.mount; node = parent_in here.node n }) (node_is here is kept)

  pub entry_is : (here : Location ℕ) (name : List ℕ) → IsThere here → Kept (shown_at here)
      → entry_location nat_eq other here name ≡ entry_location nat_eq one here name
  entry_is here name is kept =
      ap (λ n. option_map (λ object. record { mount = here.mount; node = object }) (entry_named name (entries_in n)))
      (node_is here is kept)

  top_kept : (here : Location ℕ) → EachKept (met_by nat_eq one task here DotDot) → Kept (shown_at (top_of here))
  top_kept here kept = grind (arith, common_steps, among-map, among-append_left, top_among)

  one_own : (here : Location ℕ) → Own here.mount → (l : Location ℕ) → Among l (here ∷ []) → Own l.mount
  one_own here own l m = ⊎_elim (λ e. subst (λ (x : Location ℕ). Own x.mount) (sym e) own) (λ none. absurd none) m

  entered_own : (top : Location ℕ) → Own top.mount → (l : Location ℕ)
      → Among l (entered_upward nat_eq one task top) → Own l.mount
  entered_own top own = by (is_top nat_eq one task top)
    where
      by : (b : Bool) → (l : Location ℕ) → Among l (cond b [] (one.mounts_over (parent_location nat_eq one top)))
          → Own l.mount
      by true l m = absurd m
      by false l m = over_each (parent_location nat_eq one top) own l m

  pub object_over : (here : Location ℕ) → Own here.mount → (o : Option ℕ)
      → (flat_map other.mounts_over (option_to_list (option_map
      (λ object. record { mount = here.mount; node = object }) o))
      ≡ flat_map one.mounts_over (option_to_list (option_map
      (λ object. record { mount = here.mount; node = object }) o))) × ((l : Location ℕ)
      → Among l (flat_map one.mounts_over
      (option_to_list (option_map (λ object. record { mount = here.mount; node = object }) o))) → Own l.mount)
  object_over here own None = (refl, λ l m. absurd m)
  object_over here own (Some object) =
      let there : Location ℕ = record { mount = here.mount; node = object } in (
        ap (λ list. list ++ []) (over_same there own),
        λ l m. ⊎_elim (λ is. over_each there own l is) (λ none. absurd none)
            (among-append (one.mounts_over there) [] l m),
      )

  -- the filesystems that a step meets
  pub met_is : (here : Location ℕ) (word : LastWord) → IsThere here → EachKept (met_by nat_eq one task here word)
      → met_by nat_eq other task here word ≡ met_by nat_eq one task here word
  met_is here NoWord is kept = shown_same (here ∷ []) (one_own here is.own)
  met_is here Dot is kept = shown_same (here ∷ []) (one_own here is.own)
  met_is here (Named name) is kept =
      let over = object_over here is.own (entry_named name (entries_in (one.node here))) in
      ap (λ o. filesystems_of nat_eq other (here ∷ flat_map other.mounts_over (option_to_list o)))
      (entry_is here name is (kept (shown_at here) (inl refl)))
      ∙ ap (λ l. filesystems_of nat_eq other (here ∷ l)) over.0
      ∙ shown_same (here ∷ flat_map one.mounts_over (option_to_list (entry_location nat_eq one here name)))
      (λ l m. ⊎_elim (λ e. subst (λ (x : Location ℕ). Own x.mount) (sym e) is.own) (λ n. over.1 l n) m)
  met_is here DotDot is kept =
      let top = top_of here in
      let there = way_there here is top (top_among here) in
      ap (λ h. filesystems_of nat_eq other (h ++ entered_upward nat_eq other task (last_or here h))) (way_same here is)
      ∙ ap (λ b. filesystems_of nat_eq other (way here ++ cond b []
      (other.mounts_over (parent_location nat_eq other top)))) (top_is top there.own)
      ∙ ap (λ l. filesystems_of nat_eq other (way here ++ cond (is_top nat_eq one task top) [] l))
      (cc (parent_is top there (top_kept here kept), over_same (parent_location nat_eq one top) there.own))
      ∙ shown_same (way here ++ entered_upward nat_eq one task top)
      (λ l m. ⊎_elim (λ n. (way_there here is l n).own) (λ n. entered_own top there.own l n)
      (among-append (way here) (entered_upward nat_eq one task top) l m))

  -- where a step leads, and that it is kept
  abbrev pub IsKept : Location ℕ → Type 0
  IsKept l = Own l.mount × Kept (shown_at l)

  over_kept : (here : Location ℕ) → Own here.mount → EachKept (filesystems_of nat_eq one (one.mounts_over here))
      → IsKept (topmost one here)
  over_kept here own kept = (
    over_each here own (topmost one here) (over_top here),
    kept (shown_at (topmost one here)) (among-map shown_at (one.mounts_over here) (topmost one here) (over_top here)),
  )

  named_by : (here : Location ℕ) → Own here.mount → (o : Option ℕ)
      → EachKept (filesystems_of nat_eq one (flat_map one.mounts_over
      (option_to_list (option_map (λ object. record { mount = here.mount; node = object }) o))))
      → (ok_or (option_map (topmost other) (option_map (λ object. record { mount = here.mount; node = object }) o))
      (denial W6)
      ≡ ok_or (option_map (topmost one) (option_map (λ object. record { mount = here.mount; node = object }) o))
      (denial W6))
      × IfOk (ok_or (option_map (topmost one) (option_map (λ object. record { mount = here.mount; node = object }) o))
      (denial W6)) IsKept
  named_by here own None kept = (refl, tt)
  named_by here own (Some object) kept =
      let there : Location ℕ = record { mount = here.mount; node = object } in (
        ap Ok (topmost_same there own),
        over_kept there own (λ f m. kept f (subst (Among f) (ap (filesystems_of nat_eq one)
            (sym (append-nil (one.mounts_over there)))) m)),
      )

  up_by : (top : Location ℕ) → IsKept top → (t lost : Bool)
      → (t ≡ false → IsKept (topmost one (parent_location nat_eq one top)))
      → IfOk (cond t (Ok top) (unless ((lost, W8) ∷ []) (Ok (topmost one (parent_location nat_eq one top))))) IsKept
  up_by top kept true lost after = kept
  up_by top kept false true after = tt
  up_by top kept false false after = after refl

  pub stepped_is : (here : Location ℕ) (word : LastWord) → IsThere here → is_directory_at one here ≡ true
      → EachKept (met_by nat_eq one task here word)
      → (stepped nat_eq other task here word ≡ stepped nat_eq one task here word)
      × IfOk (stepped nat_eq one task here word) IsKept
  stepped_is here NoWord is directory kept = (refl, (is.own, kept (shown_at here) (inl refl)))
  stepped_is here Dot is directory kept = (refl, (is.own, kept (shown_at here) (inl refl)))
  stepped_is here (Named name) is directory kept =
      let by = named_by here is.own (entry_named name (entries_in (one.node here))) (λ f m. kept f (inr m)) in (
        cc (entry_is here name is (kept (shown_at here) (inl refl)), by.0),
        by.1,
      )
  stepped_is here DotDot is directory kept =
      let top = top_of here in
      let there = way_directories here is directory top (top_among here) in
      let its = top_kept here kept in
      let parent = parent_location nat_eq one top in (
        cc (
          way_same here is,
          top_is top there.0.own,
          lost_is top there.0 its there.1,
          parent_is top there.0 its,
          topmost_same parent there.0.own,
        ),
        up_by top (there.0.own, its) (is_top nat_eq one task top) (is_lost nat_eq one top)
            (λ e. over_kept parent there.0.own (λ f m. kept f
            (subst (Among f) (sym (map-append shown_at (way here) (entered_upward nat_eq one task top)))
            (among-append_right (filesystems_of nat_eq one (way here))
            (filesystems_of nat_eq one (entered_upward nat_eq one task top)) f
            (subst (λ b. Among f (filesystems_of nat_eq one (cond b [] (one.mounts_over parent)))) (sym e) m))))),
      )

  -- each step meets where it begins
  pub kept_here : (here : Location ℕ) (word : LastWord) → EachKept (met_by nat_eq one task here word)
      → Kept (shown_at here)
  kept_here here word kept = grind (arith, common_steps, among-map, among-append_left, chain_start, hop_in)

  -- and leads to what is there in both worlds
  pub reached_there : (here : Location ℕ) (word : LastWord) → IsThere here → is_directory_at one here ≡ true
      → EachKept (met_by nat_eq one task here word) → (l : Location ℕ) → stepped nat_eq one task here word ≡ Ok l
      → IsThere l × Kept (shown_at l)
  reached_there here word is directory kept l e =
      let step = stepped_is here word is directory kept in
      let its = ok_is IsKept (stepped nat_eq one task here word) step.1 l e in (
        record {
          own = its.0;
          before = step_found world worlds.was task here word l (is.before.0, directory) e;
          after = step_found later worlds.now task here word l
              (is.after.0, directory_is here is (kept_here here word kept) ∙ directory) (step.0 ∙ e);
        },
        its.1,
      )

  -- rules by whether a directory is there
  abbrev pub rules_by : Location ℕ → Bool → Rules
  rules_by here directory = (not directory, W3) ∷ (not (node_allows task.credentials execute_right (one.node here)), W4)
      ∷ (not (mounter_allows (one.overlay here) execute_right (one.node here)), W5) ∷ []

  -- one word
  pub word_is : (here : Here ℕ) (word : LastWord) → IsThere here.location
      → EachKept (met_by nat_eq one task here.location word)
      → (word_walked nat_eq other task here word ≡ word_walked nat_eq one task here word)
      × IfOk (word_walked nat_eq one task here word) (λ (next : Here ℕ). IsThere next.location
      × Kept (shown_at next.location))
  word_is here word is kept = (
    ap (λ s. walked_to here.left (s ∷ here.steps) (search_rules nat_eq other task here.location)
        (stepped nat_eq other task here.location word)) (met_is here.location word is kept)
        ∙ ap (λ r. walked_to here.left steps r (stepped nat_eq other task here.location word))
        (search_is here.location is (kept_here here.location word kept))
        ∙ found_same (is_directory_at one here.location) refl,
    found_there (is_directory_at one here.location) refl,
  )
    where
      steps : List (List ℕ)
      steps = steps_with nat_eq one task here word

      found_same : (b : Bool) → is_directory_at one here.location ≡ b
          → walked_to here.left steps (search_rules nat_eq one task here.location)
          (stepped nat_eq other task here.location word)
          ≡ walked_to here.left steps (search_rules nat_eq one task here.location)
          (stepped nat_eq one task here.location word)
      found_same true e = ap (walked_to here.left steps (search_rules nat_eq one task here.location))
          (stepped_is here.location word is e kept).0
      found_same false e = cc (e)

      found_there : (b : Bool) → is_directory_at one here.location ≡ b
          → IfOk (walked_to here.left steps (search_rules nat_eq one task here.location)
          (stepped nat_eq one task here.location word))
          (λ (next : Here ℕ). IsThere next.location × Kept (shown_at next.location))
      found_there true e =
          found_ok (λ l. IsThere l × Kept (shown_at l)) here.left steps (search_rules nat_eq one task here.location)
          (stepped nat_eq one task here.location word) (λ l f. reached_there here.location word is e kept l f)
      found_there false e = subst (λ d. IfOk (walked_to here.left steps (rules_by here.location d)
          (stepped nat_eq one task here.location word))
          (λ (next : Here ℕ). IsThere next.location × Kept (shown_at next.location))) (sym e) tt
