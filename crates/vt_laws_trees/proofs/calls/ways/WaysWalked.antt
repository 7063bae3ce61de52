-- Each directory on the way of a walk is searched: words, and the texts of symlinks.
use Rattle.std.proofs.Common.{arith, ◌≡◌, refl, sym, subst, ℕ, zero, suc, ◌+◌, nat_eq, List, [], ◌∷◌, ◌++◌, Option, Some, None, Ok, Err, Result, reverse, append_assoc}
use Rattle.vt_spec.proofs.Common.{All-append, All-cons, All-nil, Follow, Here, Location, Stop, Task, World, common_steps, followed, if_symlink, last_word, most_symlinks, node_at, path_rules, path_text, path_walked, reverse-reverse, start_of, symlink_text, walk_unless, words}
use mathlib.Core.List.{reverse-cons}
use Rattle.vt_laws_trees.proofs.calls.ways.WaysSearched.{IsStep, word_step}
use Rattle.vt_laws_trees.specs.Calls.Searched.{IsSearchable, IsSearchedTo, IsSearchedWay, Way}
use Rattle.vt_laws_trees.specs.Calls.Searched.Way.{arrives, follows, goes_on}
use Rattle.vt_spec.proofs.Walk.{follow_rules, slash_rules, symlink_start, symlink_walked, words_walked}
use Rattle.vt_laws_trees.proofs.trees.TreesWalked.{Ends, ends_then, ends_unless}

-- a path is walked as it is written
pub path_text_same : (path : List ℕ) → Ends (λ text. text ≡ path) (path_text path)
path_text_same path = ends_unless (λ text. text ≡ path) [] (path_rules path) path (λ passed. refl)

module _ (world : World ℕ) (task : Task ℕ) where
  way_append : {start middle end : Location ℕ} {front rest : List (List ℕ)} {passed further : List (Location ℕ)}
      → Way world task start front passed middle → Way world task middle rest further end
      → Way world task start (front ++ rest) (passed ++ further) end
  way_append (arrives here) after = after
  way_append (goes_on here next middle word front passed step plain before) after =
      goes_on here next _ word _ _ step plain (way_append before after)
  way_append {end = end} {rest = rest} {further = further}
      (follows here link inside middle word text front in_text passed step linked inner before) after =
      subst (λ list. Way world task here (word ∷ (front ++ rest)) (here ∷ list) end)
      (sym (append_assoc in_text passed further))
      (follows here link inside _ word text _ in_text _ step linked inner (way_append before after))

  abbrev pub IsSearched : Location ℕ → List (List ℕ) → Location ℕ → Type 0
  IsSearched start words end = IsSearchedWay world task start words end

  pub searched_append : (start middle end : Location ℕ) (front rest : List (List ℕ))
      → IsSearched start front middle → IsSearched middle rest end → IsSearched start (front ++ rest) end
  searched_append start middle end front rest before after = record {
    passed = before.passed ++ after.passed;
    way = way_append before.way after.way;
    searched = All-append (IsSearchable world task) before.passed after.passed before.searched after.searched;
  }

  -- how links are followed
  abbrev pub FollowsSearched : Follow ℕ → Type 0
  FollowsSearched follow = (directory : Location ℕ) (link : Here ℕ) (text : List ℕ)
      → Ends (λ end. IsSearched (start_of task directory text) (words text) end.location) (follow directory link text)

  module _ (follow : Follow ℕ) (are : FollowsSearched follow) where
    link_searched : (here : Location ℕ) (word : List ℕ) (next : Here ℕ) (o : Option (List ℕ))
        → symlink_text (node_at nat_eq world next.location) ≡ o → IsStep world task here (last_word word) next
        → Ends (λ end. IsSearched here (word ∷ []) end.location) (if_symlink next o (follow here next))
    link_searched here word next None plain step = record {
      passed = here ∷ [];
      way = goes_on here next.location next.location word [] [] step.1 plain (arrives next.location);
      searched = All-cons (IsSearchable world task) here [] step.0 (All-nil (IsSearchable world task));
    }
    link_searched here word next (Some text) linked step = further (follow here next text) (are here next text)
      where
        further : (r : Result (Here ℕ) (Stop ℕ))
            → Ends (λ end. IsSearched (start_of task here text) (words text) end.location) r
            → Ends (λ end. IsSearched here (word ∷ []) end.location) r
        further (Ok end) inner = record {
          passed = here ∷ (inner.passed ++ []);
          way = follows here _ end.location end.location word text [] _ [] step.1 linked inner.way (arrives _);
          searched = All-cons (IsSearchable world task) here (inner.passed ++ []) step.0
              (All-append (IsSearchable world task) inner.passed [] inner.searched (All-nil (IsSearchable world task)));
        }
        further (Err stop) inner = tt

    pub words_searched : (start : Here ℕ) (ws : List (List ℕ))
        → Ends (λ end. IsSearched start.location (reverse ws) end.location)
        (words_walked nat_eq world task follow start ws)
    words_searched start [] = record { passed = []; way = arrives start.location; searched = All-nil _ }
    words_searched start (word ∷ front) = ends_then _ _ _ _ (words_searched start front) (λ reached before. ends_then _
        _ _ _ (word_step world task reached _) (λ next step. joined _ before _ (link_searched _ word next _ refl step)))
      where
        joined : (reached : Location ℕ) → IsSearched start.location (reverse front) reached
            → (r : Result (Here ℕ) (Stop ℕ)) → Ends (λ end. IsSearched reached (word ∷ []) end.location) r
            → Ends (λ end. IsSearched start.location (reverse (word ∷ front)) end.location) r
        joined reached before (Ok end) last = subst (λ ws. IsSearched start.location ws end.location)
            (sym (reverse-cons word front)) (searched_append _ reached end.location _ (word ∷ []) before last)
        joined reached before (Err stop) last = tt

  -- the words of a text from where it starts
  pub text_searched : (follow : Follow ℕ) → FollowsSearched follow → (start : Here ℕ) (text : List ℕ)
      → Ends (λ end. IsSearched start.location (words text) end.location)
      (words_walked nat_eq world task follow start (reverse (words text)))
  text_searched follow are start text =
      subst (λ ws. Ends (λ end. IsSearched start.location ws end.location) (words_walked nat_eq world task follow start
      (reverse (words text)))) (reverse-reverse (words text)) (words_searched follow are start (reverse (words text)))

  symlink_searched : (depth : ℕ) → FollowsSearched (symlink_walked nat_eq depth world task)
  symlink_searched zero directory link text = tt
  symlink_searched (suc depth) directory link text = ends_then (λ start. start.location ≡ start_of task directory text)
      (λ end. IsSearched (start_of task directory text) (words text) end.location)
      (walk_unless link.steps (follow_rules nat_eq world link text)
      (symlink_start nat_eq world task directory link text)) _
      (ends_unless (λ (start : Here ℕ). start.location ≡ start_of task directory text) link.steps
      (follow_rules nat_eq world link text) (symlink_start nat_eq world task directory link text) (λ passed. refl))
      (λ start e.
      ends_then (λ reached. IsSearched start.location (words text) reached.location)
      (λ end. IsSearched (start_of task directory text) (words text) end.location) (words_walked nat_eq world task
      (λ inside next inner. symlink_walked nat_eq depth world task inside next inner) start (reverse (words text))) _
      (text_searched (λ inside next inner. symlink_walked nat_eq depth world task inside next inner)
      (symlink_searched depth) start text) (λ reached searched.
      ends_unless (λ (end : Here ℕ). IsSearched (start_of task directory text) (words text) end.location) reached.steps
      (slash_rules nat_eq world text reached.location) reached
      (λ passed. subst (λ from. IsSearched from (words text) reached.location) e searched)))

  pub followed_searched : FollowsSearched (followed nat_eq world task)
  followed_searched directory link text = symlink_searched (most_symlinks + 1) directory link text

  pub path_searched : (path : List ℕ)
      → Ends (λ end. IsSearchedTo world task path end.location) (path_walked nat_eq world task path)
  path_searched path =
      grind (arith, common_steps, ends_then, path_text_same, words_walked, followed, text_searched, followed_searched)
