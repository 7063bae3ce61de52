-- What a path leads to is there, where the roots of mounts and their places are.
use Rattle.std.proofs.Common.{arith, ◌≡◌, ◌≢◌, refl, sym, ap, subst, ◌∙◌, true≢false, ℕ, zero, suc, nat_eq, Bool, true, false, not, cond, List, [], ◌∷◌, length, reverse, ◌==◌, ⊎_elim, Option, Some, None, is_some, option_map, ok_or, Result, Ok, Err, filter, unwrap_or, All, find}
use Rattle.vt_spec.proofs.Common.{All-head, All-tail, Dot, DotDot, Filesystem, Here, IsTree, LastWord, Location, Mount, Named, NoWord, Stop, Task, World, chain, child_at, common_steps, denial, directory_used, ends_in_slash, entries_in, entry_named, files_at, final_word, followed, hop, is_directory_at, is_directory_node, is_empty, is_lost, is_no_word, last_or, last_walked, last_word, length-reverse, mount_at, mount_in, nil_from_length, no_mount, node_at, none_is_not, parent_location, parts, path_rules, path_text, path_walked, prefix_walked, root_of, same_location, then_walk, topmost, unless, walk_start, walk_unless, with_byte, words}
use Rattle.vt_spec.specs.declared.errors.Deny.{Deny}
use Rattle.vt_spec.specs.declared.errors.Rule.TheVariants.{W6, W8}
use Rattle.vt_spec.proofs.Walk.{entry_location, is_top, symlink_walk, symlink_walk_by, search_rules, slash_rules, stepped, steps_with, up_from, word_walked}
use Rattle.vt_laws_trees.specs.Trees.Calls.{IsStanding}
use Rattle.vt_laws_trees.proofs.trees.TreesOfWorlds.{numbered_all}
use Rattle.vt_laws_trees.proofs.trees.TreesWalked.{Ends, ends_next, ends_step, ends_then, ends_unless, not-false, ok_same}

-- what is found is one of the list
pub found_all : {A : Type 0} (P : A → Type 0) (test : A → Bool) (list : List A) (a : A) → All P list
    → find test list ≡ Some a → P a
found_all P test [] a h e = none_is_not None a refl e
found_all P test (first ∷ rest) a h e = by _ e (λ later. found_all P test rest a (All-tail P first rest h) later)
  where
    by : (b : Bool) → cond b (Some first) (find test rest) ≡ Some a → (find test rest ≡ Some a → P a) → P a
    by true is later = subst P (ap (λ o. unwrap_or o first) is) (All-head P first rest h)
    by false is later = later is

-- where a chain ends holds what holds of its start, and of each next
pub chain_ends_at : {A : Type 0} (Q : A → Type 0) (next : A → Option A) → ((a b : A) → Q a → next a ≡ Some b → Q b)
    → (most : ℕ) (default start : A) → Q start → Q (last_or default (chain most next start))
chain_ends_at Q next step zero default start q = q
chain_ends_at Q next step (suc most) default start q = by _ refl (λ b p. chain_ends_at Q next step most start b p)
  where
    by : (o : Option _) → next start ≡ o → ((b : _) → Q b → Q (last_or start (chain most next b)))
        → Q (last_or default (elim o [ None ↦ start ∷ [] | Some b ↦ start ∷ chain most next b ]))
    by None e rest = q
    by (Some b) e rest = rest b (step start b q e)

-- a path without words is a path of slashes
one_part : (byte : ℕ) (list : List (List ℕ)) → filter (λ part. not (is_empty part)) (with_byte false byte list) ≢ []
one_part byte list e = grind (arith, common_steps, true≢false)

no_words : (text : List ℕ) → words text ≡ [] → is_empty text ≡ false → ends_in_slash text ≡ true
no_words [] e h = absurd (true≢false h)
no_words (byte ∷ []) e h = grind (arith, common_steps, one_part, parts)
no_words (byte ∷ next ∷ bytes) e h = by (byte == 47) e (λ g. no_words (next ∷ bytes) g refl)
  where
    by : (b : Bool) → filter (λ part. not (is_empty part)) (with_byte b byte (parts 47 (next ∷ bytes))) ≡ []
        → (words (next ∷ bytes) ≡ [] → ends_in_slash (next ∷ bytes) ≡ true) → ends_in_slash (next ∷ bytes) ≡ true
    by true g rest = rest g
    by false g rest = absurd (one_part byte (parts 47 (next ∷ bytes)) g)

-- a word is no missing word
is_some_word : (word : List ℕ) → is_no_word (last_word word) ≡ false
is_some_word word = grind (arith, common_steps)

-- where a directory is, there is a tree
pub directory_in_tree : (world : World ℕ) → All (λ (f : Filesystem ℕ). IsTree f.files.tree) world.filesystems
    → (location : Location ℕ) → is_directory_at nat_eq world location ≡ true
    → IsTree (files_at nat_eq world location).tree
directory_in_tree world trees location is = ⊎_elim (λ tree. tree) (λ missing. absurd
    (true≢false (sym is ∙ ap (λ (f : Filesystem ℕ). is_directory_node (f.files.tree.node location.node)) missing.0)))
    (numbered_all (λ filesystem. IsTree filesystem.files.tree) _ world.filesystems trees)

module _ (world : World ℕ) (trees : All (λ (f : Filesystem ℕ). IsTree f.files.tree) world.filesystems)
    (standing : IsStanding world) where
  abbrev IsThere : Location ℕ → Type 0
  IsThere location = is_some (node_at nat_eq world location) ≡ true

  abbrev IsDirectoryThere : Location ℕ → Type 0
  IsDirectoryThere location = is_directory_at nat_eq world location ≡ true

  directory_there : (location : Location ℕ) → IsDirectoryThere location → IsThere location
  directory_there location is = directory_used (files_at nat_eq world location).tree location.node is

  -- mounts over a place
  child_there : (a b : Location ℕ) → option_map root_of (child_at nat_eq world.mounts a) ≡ Some b → IsDirectoryThere b
  child_there a b e = by (child_at nat_eq world.mounts a) refl e
    where
      by : (o : Option (Mount ℕ)) → child_at nat_eq world.mounts a ≡ o → option_map root_of o ≡ Some b
          → IsDirectoryThere b
      by None is h = none_is_not None b refl h
      by (Some mount) is h = subst IsDirectoryThere (ap (λ o. unwrap_or o b) h)
          (found_all (λ m. is_directory_at nat_eq world (root_of m) ≡ true) _ world.mounts mount standing.roots is)

  topmost_there : (location : Location ℕ) → IsThere location → IsThere (topmost nat_eq world.mounts location)
  topmost_there location is = chain_ends_at IsThere _ (λ a b there e. directory_there b (child_there a b e)) _ _ _ is

  -- the place of a mount
  place_there : (number : ℕ) (place : Location ℕ) → (mount_in nat_eq world.mounts number).mount_point ≡ Some place
      → IsDirectoryThere place
  place_there number place e = by (find (λ mount. nat_eq number mount.number) world.mounts) refl e
    where
      by : (o : Option (Mount ℕ)) → find (λ mount. nat_eq number mount.number) world.mounts ≡ o
          → (unwrap_or o (no_mount number)).mount_point ≡ Some place → IsDirectoryThere place
      by None is h = none_is_not None place refl h
      by (Some mount) is h =
          found_all (λ m. (at : Location ℕ) → m.mount_point ≡ Some at → is_directory_at nat_eq world at ≡ true)
          (λ m. nat_eq number m.number) world.mounts mount standing.places is place h

  module _ (task : Task ℕ) where
    hop_there : (a b : Location ℕ) → IsDirectoryThere a → hop nat_eq world task a ≡ Some b → IsDirectoryThere b
    hop_there a b is e = by (same_location nat_eq a task.root) (nat_eq a.node (mount_at nat_eq world a).root) e
      where
        by : (p q : Bool) → cond p None (cond q (mount_at nat_eq world a).mount_point None) ≡ Some b
            → IsDirectoryThere b
        by true q h = none_is_not None b refl h
        by false true h = place_there a.mount b h
        by false false h = none_is_not None b refl h

    parent_there : (location : Location ℕ) → IsDirectoryThere location
        → IsDirectoryThere (parent_location nat_eq world location)
    parent_there location is = (directory_in_tree world trees location is).parent_directory location.node is

    up_there : (location reached : Location ℕ) → IsDirectoryThere location
        → up_from nat_eq world task location ≡ Ok reached → IsThere reached
    up_there location reached is e = by (is_top nat_eq world task location) (is_lost nat_eq world location) e
      where
        by : (p q : Bool) → cond p (Ok location)
            (unless ((q, W8) ∷ []) (Ok (topmost nat_eq world.mounts (parent_location nat_eq world location))))
            ≡ Ok reached → IsThere reached
        by true q h = subst IsThere (ok_same location reached (Ok location) refl h) (directory_there location is)
        by false true h = cc
          where
            is_ok_result : Result (Location ℕ) Deny → Bool
            is_ok_result (Ok l) = true
            is_ok_result (Err d) = false
        by false false h = subst IsThere (ok_same _ reached _ refl h)
            (topmost_there (parent_location nat_eq world location) (directory_there _ (parent_there location is)))

    entry_there : (here : Location ℕ) (name : List ℕ) (object : Location ℕ) → IsDirectoryThere here
        → entry_location nat_eq world here name ≡ Some object → IsThere object
    entry_there here name object is e = by (entry_named name (entries_in (node_at nat_eq world here))) refl e
      where
        by : (o : Option ℕ) → entry_named name (entries_in (node_at nat_eq world here)) ≡ o
            → option_map (λ number. record { mount = here.mount; node = number }) o ≡ Some object → IsThere object
        by None f h = none_is_not None object refl h
        by (Some number) f h = subst IsThere (ap (λ o. unwrap_or o object) h)
            ((directory_in_tree world trees here is).alive here.node name number f)

    -- one word
    step_there : (here : Location ℕ) (word : LastWord) (reached : Location ℕ) → IsDirectoryThere here
        → stepped nat_eq world task here word ≡ Ok reached → IsThere reached
    step_there here NoWord reached is e = subst IsThere (ok_same here reached _ refl e) (directory_there here is)
    step_there here Dot reached is e = subst IsThere (ok_same here reached (Ok here) refl e) (directory_there here is)
    step_there here DotDot reached is e = up_there _ reached (chain_ends_at _ _ hop_there _ here here is) e
    step_there here (Named name) reached is e = by (entry_location nat_eq world here name) refl e
      where
        by : (o : Option (Location ℕ)) → entry_location nat_eq world here name ≡ o
            → ok_or (option_map (topmost nat_eq world.mounts) o) (denial W6) ≡ Ok reached → IsThere reached
        by None f h = cc
          where
            is_ok_result : Result (Location ℕ) Deny → Bool
            is_ok_result (Ok l) = true
            is_ok_result (Err d) = false
        by (Some object) f h = subst IsThere (ok_same (topmost nat_eq world.mounts object) reached _ refl h)
            (topmost_there object (entry_there here name object is f))

    abbrev EndsThere : Result (Here ℕ) (Stop ℕ) → Type 0
    EndsThere walk = Ends (λ here. is_some (node_at nat_eq world here.location) ≡ true) walk

    -- one word leads to what is there
    pub word_there : (here : Here ℕ) (word : LastWord) → EndsThere (word_walked nat_eq world task here word)
    word_there here word =
        ends_step (λ next. is_some (node_at nat_eq world next.location) ≡ true) (steps_with nat_eq world task here word)
        (search_rules nat_eq world task here.location) (stepped nat_eq world task here.location word) (λ reached. Ok
        (record { location = reached; left = here.left; steps = steps_with nat_eq world task here word }))
        (λ passed reached e. step_there here.location word reached
        (not-false (is_directory_at nat_eq world here.location) passed.0) e)

    last_there : (here : Here ℕ) (word : LastWord) → is_no_word word ≡ false
        → EndsThere (last_walked nat_eq world task here word)
    last_there here NoWord e = absurd (true≢false e)
    last_there here Dot e = word_there here Dot
    last_there here DotDot e = word_there here DotDot
    last_there here (Named name) e = word_there here (Named name)

    words_there : (here : Here ℕ) (list : List (List ℕ)) → list ≢ []
        → EndsThere (last_walked nat_eq world task here (final_word list))
    words_there here [] e = absurd (e refl)
    words_there here (word ∷ front) e = last_there here (last_word word) (is_some_word word)

    -- a walk that does not follow its last link
    link_there_by : (path : List ℕ) (b : Bool) → ends_in_slash path ≡ b
        → EndsThere (symlink_walk_by nat_eq b world task path)
    link_there_by path true slash =
        ends_next (λ here. is_some (node_at nat_eq world here.location) ≡ true) (path_walked nat_eq world task path)
        (λ here. walk_unless here.steps (slash_rules nat_eq world path here.location) here)
        (λ here. ends_unless (λ h. is_some (node_at nat_eq world h.location) ≡ true) here.steps
        (slash_rules nat_eq world path here.location) here (λ passed. directory_there here.location
        (not-false (is_directory_at nat_eq world here.location) (cc (passed.0)))))
    link_there_by path false slash = ends_then (λ text. (ends_in_slash text ≡ false) × (is_empty text ≡ false))
        (λ here. is_some (node_at nat_eq world here.location) ≡ true) (path_text path)
        (λ text. then_walk (prefix_walked nat_eq world task (followed nat_eq world task) (walk_start task text)
        (reverse (words text))) (λ here. last_walked nat_eq world task here (final_word (reverse (words text)))))
        (ends_unless (λ text. (ends_in_slash text ≡ false) × (is_empty text ≡ false)) [] (path_rules path) path
        (λ passed. (slash, passed.0))) (λ text full.
        ends_next (λ here. is_some (node_at nat_eq world here.location) ≡ true)
        (prefix_walked nat_eq world task (followed nat_eq world task) (walk_start task text) (reverse (words text)))
        (λ here. last_walked nat_eq world task here (final_word (reverse (words text))))
        (λ here. words_there here (reverse (words text)) (some_words text full)))
      where
        some_words : (text : List ℕ) → (ends_in_slash text ≡ false) × (is_empty text ≡ false)
            → reverse (words text) ≢ []
        some_words text full none = true≢false (sym
            (no_words text (nil_from_length (words text) (sym (length-reverse (words text)) ∙ ap length none)) full.1)
            ∙ full.0)

    pub ends_link_walk : (path : List ℕ) → EndsThere (symlink_walk nat_eq world task path)
    ends_link_walk path = link_there_by path (ends_in_slash path) refl
