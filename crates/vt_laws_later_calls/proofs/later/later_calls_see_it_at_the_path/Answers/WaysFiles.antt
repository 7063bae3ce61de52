-- A file that write found or made is found again, by the symlinks that led to its place.
use Rattle.std.proofs.Common.{◌≡◌, refl, sym, ap, subst, ◌∙◌, inl, inr, true≢false, ℕ, zero, suc, ◌-◌, ◌≤◌, nat_eq, Bool, true, false, ◌||◌, List, [], ◌∷◌, reverse, Option, Some, None, option_map, Result, Ok, arith, unwrap_or}
use Rattle.vt_spec.proofs.Common.{Dot, DotDot, Here, LastWord, Location, Looks, Named, NoWord, NoneFails, Place, Stop, Task, and_then, and_then-Ok, common_steps, ends_in_slash, entered, entry_location, final_word, follow_rules, if_symlink, is_special, last_word, name_of, not-false, object_named, or_parts, passing, placed, same_Some, same_ok, search_rules, slash_rules, start_of, stepped, steps_at, stopped_by, symlink_of, symlink_start, symlink_text, symlink_there, symlink_walked, then_some, then_walk, unless, walk_unless, word_walked, words, words_walked}
use Rattle.vt_laws_later_calls.proofs.Common.{Deny, directory_no_link, file_or_symlink, file_walked, followed, is_directory_at, prefix_walked, topmost}
use Rattle.vt_laws_later_calls.proofs.Ways.{LeadsToo, at, both_walked, not_stopped, positive, same_end, start_known, start_same, walk_passed, walk_passing, word_too, words_lead}
use Rattle.vt_laws_later_calls.proofs.WaysPlaces.{EndsThere, last_too, placed_at, through}

-- links are followed so deep
abbrev pub followed_to : ℕ → Looks ℕ → Task ℕ → Location ℕ → Here ℕ → List ℕ → Result (Here ℕ) (Stop ℕ)
followed_to depth looks task inside next inner = symlink_walked nat_eq depth looks task inside next inner

-- the link that stands at a place
linked_there : (looks : Looks ℕ) (object : Option (Location ℕ)) (text : List ℕ)
    → then_some object (λ object. symlink_text (looks.node object)) ≡ Some text
    → (link : Location ℕ) × (object ≡ Some link) × (symlink_text (looks.node link) ≡ Some text)
linked_there looks None text e = cc
linked_there looks (Some link) text e = (link, refl, e)

-- what a last word that is searched stands for
named_step : (looks : Looks ℕ) (task : Task ℕ) (here : Location ℕ) (last : LastWord) (object : Location ℕ)
    → object_named nat_eq looks task here last ≡ Ok (Some object) → topmost looks object ≡ object
    → stepped nat_eq looks task here last ≡ Ok object
named_step looks task here last object e bare = grind (arith, common_steps, same_Some, same_ok, and_then-Ok)

placed_parts : (looks : Looks ℕ) (task : Task ℕ) (here : Here ℕ) (last : LastWord) (slash : Bool) (place : Place ℕ)
    → stopped_by (steps_at nat_eq looks task here last) (and_then (unless (search_rules nat_eq looks task here.location)
    (object_named nat_eq looks task here.location last)) (λ object. Ok (record {
      parent = here.location;
      last = last;
      object = object;
      slash = slash;
      steps = steps_at nat_eq looks task here last;
    }))) ≡ Ok place → NoneFails (search_rules nat_eq looks task here.location)
    × (object_named nat_eq looks task here.location last ≡ Ok place.object)
placed_parts looks task here last slash place e =
    let both = and_then-Ok (unless (search_rules nat_eq looks task here.location)
    (object_named nat_eq looks task here.location last)) _ place (not_stopped (steps_at nat_eq looks task here last) _
    place e) in
    let parts = passing (search_rules nat_eq looks task here.location)
    (object_named nat_eq looks task here.location last) both.0 both.1 in
    (parts.0, cc (parts.1, same_ok _ place both.2))

-- no word is none
some_word : (word : List ℕ) → last_word word ≡ NoWord → ⊥
some_word word e = grind (arith, common_steps)

-- what a word was placed at
placed_any : (looks : Looks ℕ) (task : Task ℕ) (here : Here ℕ) (last : LastWord) (slash : Bool) (place : Place ℕ)
    → (last ≡ NoWord → ⊥) → placed nat_eq looks task here last slash ≡ Ok place
    → NoneFails (search_rules nat_eq looks task here.location)
    × (object_named nat_eq looks task here.location last ≡ Ok place.object)
placed_any looks task here NoWord slash place some e = absurd (some refl)
placed_any looks task here Dot slash place some e = placed_parts looks task here Dot slash place e
placed_any looks task here DotDot slash place some e = placed_parts looks task here DotDot slash place e
placed_any looks task here (Named name) slash place some e = placed_parts looks task here (Named name) slash place e

-- Where the walk of a file ended: searched, and the name leads to the file, through the mounts over it
pub record IsFilePlace (looks : Looks ℕ) (task : Task ℕ) (end : Place ℕ) : Type 0 where
  pub directory : is_directory_at looks end.parent ≡ true
  pub object_is : option_map (topmost looks) (entry_location nat_eq looks end.parent (name_of end.last)) ≡ end.object

entry_of : (looks : Looks ℕ) (task : Task ℕ) (here : Location ℕ) (last : LastWord) (o : Option (Location ℕ))
    → is_special last ≡ false
    → object_named nat_eq looks task here last ≡ Ok o → entry_location nat_eq looks here (name_of last) ≡ o
entry_of looks task here NoWord o special e = cc
entry_of looks task here Dot o special e = cc
entry_of looks task here DotDot o special e = cc
entry_of looks task here (Named name) o special e = same_ok _ o e

pub file_place : (looks : Looks ℕ) (task : Task ℕ) (depth : ℕ) (start : Here ℕ) (text : List ℕ) (slash : Bool)
    (end : Place ℕ) → file_walked nat_eq depth looks task start text slash ≡ Ok end → is_special end.last ≡ false
    → IsFilePlace looks task end
file_place looks task zero start text slash end e special = cc
file_place looks task (suc depth) start text slash end e special =
    let prefixes = both_walked (prefix_walked nat_eq looks task (followed nat_eq looks task) start
    (reverse (words text))) _ end e in
    let here = prefixes.0 in
    let places = both_walked (placed nat_eq looks task here (final_word (reverse (words text)))
    (slash || ends_in_slash text)) _ end prefixes.2 in
    by here places.0 places.1 (symlink_there nat_eq looks places.0) places.2
    (λ next inner g. file_place looks task depth next inner (slash || ends_in_slash text) end g special)
  where
    by : (here : Here ℕ) (place : Place ℕ)
        → placed nat_eq looks task here (final_word (reverse (words text))) (slash || ends_in_slash text) ≡ Ok place
        → (link : Option (List ℕ)) → file_or_symlink nat_eq looks place link (λ inner.
        then_walk (walk_unless place.steps (follow_rules nat_eq looks (symlink_of here place) inner)
        (symlink_start nat_eq looks task here.location (symlink_of here place) inner))
        (λ next. file_walked nat_eq depth looks task next inner (slash || ends_in_slash text))) ≡ Ok end
        → ((next : Here ℕ) (inner : List ℕ)
        → file_walked nat_eq depth looks task next inner (slash || ends_in_slash text) ≡ Ok end
        → IsFilePlace looks task end) → IsFilePlace looks task end
    by here place ends None g rec =
        let same : entered nat_eq looks place ≡ end = same_end (entered nat_eq looks place) end g in
        let named : is_special place.last ≡ false = ap (λ (p : Place ℕ). is_special p.last) same ∙ special in
        let parts = placed_at looks task here (final_word (reverse (words text)))
        (slash || ends_in_slash text) place ends named in
        subst (IsFilePlace looks task) same (record {
          directory = ap (is_directory_at looks) (sym parts.parent_is) ∙ not-false _ parts.searched.0;
          object_is = ap (option_map (topmost looks))
              ((λ i. entry_location nat_eq looks (sym parts.parent_is i) (name_of (sym parts.last_is i)))
              ∙ entry_of looks task here.location (final_word (reverse (words text))) place.object
              (ap is_special parts.last_is ∙ named) parts.object_is);
        })
    by here place ends (Some inner) g rec =
        let steps = both_walked (walk_unless place.steps (follow_rules nat_eq looks (symlink_of here place) inner)
        (symlink_start nat_eq looks task here.location (symlink_of here place) inner)) _ end g in
        rec steps.0 inner steps.2

module _ {looks later : Looks ℕ} {task reader : Task ℕ} {Refused : Deny → Type 0} {Known : Location ℕ → Type 0}
    (leads : LeadsToo looks later task reader Refused Known)
    (bare : (object : Location ℕ) (text : List ℕ) → symlink_text (looks.node object) ≡ Some text
    → topmost looks object ≡ object) (root_directory : is_directory_at looks task.root ≡ true) where
  -- words, of which the last leads to what is there now, which is no link
  named_from : (depth : ℕ) (start here : Here ℕ) (word : List ℕ) (front : List (List ℕ)) (next : Location ℕ)
      → suc start.left ≤ 41 → suc start.left ≤ depth
      → words_walked nat_eq looks task (followed nat_eq looks task) start front ≡ Ok here
      → NoneFails (search_rules nat_eq looks task here.location)
      → (Known here.location → stepped nat_eq later reader here.location (last_word word) ≡ Ok next)
      → symlink_text (later.node next) ≡ None → Known start.location → (steps : List (List ℕ))
      → EndsThere Refused (words_walked nat_eq later reader (followed_to depth later reader) (at start steps)
      (word ∷ front)) next here.left
  named_from depth start here word front next few few_too walked searched found no_link known steps =
      through leads (λ r. EndsThere Refused r next here.left)
      (words_walked nat_eq later reader (followed_to depth later reader) (at start steps) front) _ here
      ((words_lead leads 41 depth start front here few few_too walked).1 known steps) (λ steps_there known_there.
      by steps_there (last_too leads here (last_word word) next steps_there known_there searched (found known_there)))
      (λ stop refused. inr (stop, refused, refl))
    where
      by : (steps_there : List (List ℕ))
          → EndsThere Refused (word_walked nat_eq later reader (at here steps_there) (last_word word)) next here.left
          → EndsThere Refused (then_walk (word_walked nat_eq later reader (at here steps_there) (last_word word))
          (λ there.
          if_symlink there (symlink_text (later.node there.location))
          (followed_to depth later reader here.location there))) next here.left
      by steps_there (inl e) = inl (
        e.0,
        cc e.1,
      )
      by steps_there (inr stop) = inr (
        stop.0,
        stop.1,
        cc stop.2,
      )

  -- words, of which the last leads to a link whose text leads there
  linked_from : (depth : ℕ) (start here : Here ℕ) (word : List ℕ) (front : List (List ℕ)) (link : Here ℕ)
      (inner : List ℕ) (next : Location ℕ) (left : ℕ) → suc start.left ≤ 41 → suc start.left ≤ suc depth
      → words_walked nat_eq looks task (followed nat_eq looks task) start front ≡ Ok here
      → NoneFails (search_rules nat_eq looks task here.location)
      → stepped nat_eq looks task here.location (last_word word) ≡ Ok link.location → link.left ≡ here.left
      → symlink_text (looks.node link.location) ≡ Some inner → NoneFails (follow_rules nat_eq looks link inner)
      → ends_in_slash inner ≡ false → ((steps : List (List ℕ)) → Known here.location
      → EndsThere Refused (words_walked nat_eq later reader (followed_to depth later reader)
      (at (symlink_start nat_eq looks task here.location link inner) steps) (reverse (words inner))) next left)
      → Known start.location → (steps : List (List ℕ))
      → EndsThere Refused (words_walked nat_eq later reader (followed_to (suc depth) later reader) (at start steps)
      (word ∷ front)) next left
  linked_from depth start here word front link inner next left few few_too walked searched stepping same text follows
      no_slash ends known steps =
      through leads (λ r. EndsThere Refused r next left)
      (words_walked nat_eq later reader (followed_to (suc depth) later reader) (at start steps) front) _ here
      ((words_lead leads 41 (suc depth) start front here few few_too walked).1 known steps) (λ steps_there known_there.
      through leads (λ r. EndsThere Refused r next left)
      (word_walked nat_eq later reader (at here steps_there) (last_word word)) _ link (word_too leads here link
      (last_word word) steps_there known_there searched same
      (leads.step here.location (last_word word) link.location known_there (not-false _ searched.0) stepping))
      (λ steps_link known_link.
      subst (λ o. EndsThere Refused (if_symlink (at link steps_link) o
      (followed_to (suc depth) later reader here.location (at link steps_link))) next left)
      (sym (leads.link link.location known_link ∙ text))
      (by steps_link (walk_passed steps_link (follow_rules nat_eq later (at link steps_link) inner) _
      (leads.nosymfollow link.location known_link ∙ follows.0, follows.1)) (ends _ known_there)))
      (λ stop refused. inr (stop, refused, refl))) (λ stop refused. inr (stop, refused, refl))
    where
      inside : Result (Here ℕ) (Stop ℕ) → Result (Here ℕ) (Stop ℕ)
      inside r = then_walk r (λ reached.
          walk_unless reached.steps (slash_rules nat_eq later inner reached.location) reached)

      finish : (r : Result (Here ℕ) (Stop ℕ)) → EndsThere Refused r next left
          → EndsThere Refused (then_walk r (λ reached. walk_unless reached.steps
          (slash_rules nat_eq later inner reached.location) reached)) next left
      finish r known = grind (arith, common_steps, walk_passed)

      by : (steps_link : List (List ℕ)) → walk_unless steps_link (follow_rules nat_eq later (at link steps_link) inner)
          (symlink_start nat_eq later reader here.location (at link steps_link) inner)
          ≡ Ok (symlink_start nat_eq later reader here.location (at link steps_link) inner)
          → EndsThere Refused (words_walked nat_eq later reader (followed_to depth later reader)
          (at (symlink_start nat_eq looks task here.location link inner)
          (symlink_start nat_eq later reader here.location (at link steps_link) inner).steps)
          (reverse (words inner))) next left
          → EndsThere Refused (followed_to (suc depth) later reader here.location (at link steps_link) inner) next left
      by steps_link pass ends_so = rw (pass ∙ (λ i. Ok (record {
        location = start_same leads here.location here.location
            inner refl i;
        left = link.left - 1;
        steps = (symlink_start nat_eq later reader here.location (at link steps_link) inner).steps;
      }))) (finish _ ends_so)

  -- what a walk to a file is to find
  abbrev FindsFile : ℕ → Location ℕ → Here ℕ → List ℕ → Bool → Type 0
  FindsFile depth file start text slash = (slash ≡ false) × (ends_in_slash text ≡ false)
      × (left : ℕ) × (Known start.location → (steps : List (List ℕ))
      → EndsThere Refused (words_walked nat_eq later reader (followed_to depth later reader) (at start steps) (reverse
      (words text))) file left)

  start_directory : (directory : Location ℕ) (text : List ℕ) → is_directory_at looks directory ≡ true
      → is_directory_at looks (start_of task directory text) ≡ true
  start_directory directory text is = grind (arith, common_steps)

  front_left : (start here : Here ℕ) (list : List (List ℕ)) → suc start.left ≤ 41
      → prefix_walked nat_eq looks task (followed nat_eq looks task) start list ≡ Ok here → here.left ≤ start.left
  front_left start here [] few e = rw (← same_end start here e) (omega arith)
  front_left start here (word ∷ front) few e = (words_lead leads 41 41 start front here few few e).0

  -- A file is found by the links that led to its place, also where it was not there.
  pub file_too : (depth : ℕ) (start : Here ℕ) (text : List ℕ) (slash : Bool) (end : Place ℕ) → suc start.left ≤ 41
      → is_directory_at looks start.location ≡ true
      → file_walked nat_eq depth looks task start text slash ≡ Ok end → is_special end.last ≡ false → end.slash ≡ false
      → (other : ℕ) → suc start.left ≤ other → (file : Location ℕ)
      → (Known end.parent → stepped nat_eq later reader end.parent end.last ≡ Ok file)
      → symlink_text (later.node file) ≡ None → FindsFile other file start text slash
  file_too zero start text slash end few is e special no_slash other few_too file found no_text = cc
  file_too (suc depth) start text slash end few is e special no_slash other few_too file found no_text =
      let prefixes = both_walked (prefix_walked nat_eq looks task (followed nat_eq looks task) start
      (reverse (words text))) _ end e in
      let here = prefixes.0 in
      let places = both_walked (placed nat_eq looks task here (final_word (reverse (words text)))
      (slash || ends_in_slash text)) _ end prefixes.2 in
      by other few_too (reverse (words text)) here places.0 prefixes.1 places.1
      (symlink_there nat_eq looks places.0) refl places.2 (λ deep next inner next_few next_is walks less.
      file_too depth next inner (slash
      || ends_in_slash text) end next_few next_is walks special no_slash deep less file found no_text)
    where
      by : (other : ℕ) → suc start.left ≤ other → (list : List (List ℕ)) (here : Here ℕ) (place : Place ℕ)
          → prefix_walked nat_eq looks task (followed nat_eq looks task) start list ≡ Ok here
          → placed nat_eq looks task here (final_word list) (slash || ends_in_slash text) ≡ Ok place
          → (link : Option (List ℕ)) → symlink_there nat_eq looks place ≡ link
          → file_or_symlink nat_eq looks place link (λ inner.
          then_walk (walk_unless place.steps (follow_rules nat_eq looks (symlink_of here place) inner)
          (symlink_start nat_eq looks task here.location (symlink_of here place) inner))
          (λ next. file_walked nat_eq depth looks task next inner (slash || ends_in_slash text))) ≡ Ok end
          → ((deep : ℕ) (next : Here ℕ) (inner : List ℕ) → suc next.left ≤ 41
          → is_directory_at looks next.location ≡ true
          → file_walked nat_eq depth looks task next inner (slash || ends_in_slash text) ≡ Ok end → suc next.left ≤ deep
          → FindsFile deep file next inner (slash || ends_in_slash text))
          → (slash ≡ false) × (ends_in_slash text ≡ false)
          × (left : ℕ) × (Known start.location → (steps : List (List ℕ))
          → EndsThere Refused (words_walked nat_eq later reader (followed_to other later reader)
          (at start steps) list) file left)
      by other few_too [] here place walked ends None same g rec =
          absurd (true≢false (ap (λ (p : Place ℕ). is_special p.last) (same_end _ place ends)
          ∙ ap (λ (p : Place ℕ). is_special p.last) (same_end (entered nat_eq looks place) end g) ∙ special))
      by other few_too (word ∷ front) here place walked ends None same g rec =
          let ended : entered nat_eq looks place ≡ end = same_end (entered nat_eq looks place) end g in
          let named : is_special place.last ≡ false = ap (λ (p : Place ℕ). is_special p.last) ended ∙ special in
          let parts = placed_at looks task here (last_word word) (slash || ends_in_slash text) place ends named in
          let slashes = or_parts slash (ends_in_slash text)
          (parts.slash_is ∙ ap (λ (p : Place ℕ). p.slash) ended ∙ no_slash) in
          let parent_is : here.location ≡ end.parent = parts.parent_is ∙ ap (λ (p : Place ℕ). p.parent) ended in
          let last_is : last_word word ≡ end.last = parts.last_is ∙ ap (λ (p : Place ℕ). p.last) ended in (
            slashes.0,
            slashes.1,
            here.left,
            named_from other start here word front file few few_too walked parts.searched
                (λ known. (λ i. stepped nat_eq later reader (parent_is i) (last_is i))
                ∙ found (subst Known parent_is known)) no_text,
          )
      by other few_too [] here place walked ends (Some inner) same g rec = absurd (no_text_there
          (sym (directory_no_link (looks.node start.location) is)
          ∙ ap (λ (h : Here ℕ). symlink_text (looks.node h.location)) (same_end start here walked)
          ∙ ap (symlink_there nat_eq looks) (same_end _ place ends) ∙ same))
        where
          no_text_there : Path (Option (List ℕ)) None (Some inner) → ⊥
          no_text_there e = cc
      by zero few_too (word ∷ front) here place walked ends (Some inner) same g rec = absurd (omega arith)
      by (suc other) few_too (word ∷ front) here place walked ends (Some inner) same g rec =
          let parts = placed_any looks task here (last_word word) (slash || ends_in_slash text) place
          (some_word word) ends in
          let link = linked_there looks place.object inner same in
          let link_is : (symlink_of here place).location ≡ link.0 = ap (λ o. unwrap_or o place.parent) link.1 in
          let starts = both_walked (walk_unless place.steps (follow_rules nat_eq looks (symlink_of here place) inner)
          (symlink_start nat_eq looks task here.location (symlink_of here place) inner)) _ end g in
          let begins = walk_passing place.steps (follow_rules nat_eq looks (symlink_of here place) inner)
          (symlink_start nat_eq looks task here.location (symlink_of here place) inner) starts.0 starts.1 in
          let some : 1 ≤ here.left = positive here.left begins.0.1.0 in
          let fewer : here.left ≤ start.left = front_left start here (word ∷ front) few walked in
          let left_is : starts.0.left ≡ here.left - 1 = ap (λ (h : Here ℕ). h.left) (sym begins.1) in
          let here_is : is_directory_at looks here.location ≡ true = not-false _ parts.0.0 in
          let rest = rec other starts.0 inner (omega arith)
          (subst (λ (h : Here ℕ). is_directory_at looks h.location ≡ true) begins.1
          (start_directory here.location inner here_is)) starts.2 (omega arith) in
          let slashes = or_parts slash (ends_in_slash text) rest.0 in (
            slashes.0,
            slashes.1,
            rest.2,
            linked_from other start here word front (symlink_of here place) inner file rest.2 few few_too walked parts.0
                (named_step looks task here.location (last_word word) link.0 (parts.1 ∙ ap Ok link.1)
                (bare link.0 inner link.2) ∙ ap Ok (sym link_is))
                refl (ap (λ l. symlink_text (looks.node l)) link_is ∙ link.2) begins.0 rest.1 (λ steps known.
                subst (λ (h : Here ℕ). EndsThere Refused
                (words_walked nat_eq later reader (followed_to other later reader)
                (at h steps) (reverse (words inner))) file rest.2) (sym begins.1)
                (rest.3 (subst (λ (h : Here ℕ). Known h.location) begins.1
                (start_known leads here.location inner known)) steps)),
          )
