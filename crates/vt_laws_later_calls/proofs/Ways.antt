-- Walks in what a call left: they lead where they led, or stop where what it left stops them.
use Rattle.std.proofs.Common.{◌≡◌, refl, sym, ap, subst, ◌∙◌, inl, inr, ◌⊎◌, ℕ, zero, suc, ◌-◌, ◌==◌, ◌≤◌, nat_eq, true, false, List, [], ◌∷◌, reverse, Option, Some, None, Result, Ok, Err, arith}
use Rattle.vt_spec.proofs.Common.{Follow, Here, LastWord, Location, Looks, NoneFails, Rules, Stop, Task, and_then, and_then-Ok, common_steps, denial, execute_right, follow_rules, if_symlink, last_word, may, not-false, passed, passing, same_ok, search_rules, slash_rules, start_of, stepped, steps_with, stopped_by, symlink_start, symlink_text, symlink_walked, then_walk, unless, walk_unless, word_walked, words, words_walked}
use Rattle.vt_laws_later_calls.proofs.Common.{Deny, W4, is_directory_at, mount_at, mounter_may}

-- Walks that may be refused

-- what two walks gave, each of them gave
pub both_walked : {A B : Type 0} (first : Result A (Stop ℕ)) (next : A → Result B (Stop ℕ)) (b : B)
    → then_walk first next ≡ Ok b → (a : A) × (first ≡ Ok a) × (next a ≡ Ok b)
both_walked (Ok a) next b e = (a, refl, e)
both_walked (Err stop) next b e = cc

pub same_end : {A : Type 0} (a b : A) → Path (Result A (Stop ℕ)) (Ok a) (Ok b) → a ≡ b
same_end a b e = cc

pub not_stopped : {A : Type 0} (steps : List (List ℕ)) (answer : Result A Deny) (a : A) → stopped_by steps answer ≡ Ok a
    → answer ≡ Ok a
not_stopped steps (Ok b) a e = ap Ok (same_end b a e)
not_stopped steps (Err deny) a e = cc

-- a table that let a walk pass
pub walk_passing : {A : Type 0} (steps : List (List ℕ)) (rules : Rules) (a b : A) → walk_unless steps rules a ≡ Ok b
    → NoneFails rules × (a ≡ b)
walk_passing steps rules a b e =
    let parts = passing rules (Ok a) b (not_stopped steps (unless rules (Ok a)) b e) in (parts.0, same_ok a b parts.1)

pub walk_passed : {A : Type 0} (steps : List (List ℕ)) (rules : Rules) (a : A) → NoneFails rules
    → walk_unless steps rules a ≡ Ok a
walk_passed steps rules a pass = cc (passed rules (Ok a) pass)

-- the place of a walk, whatever filesystems it met
abbrev pub at : Here ℕ → List (List ℕ) → Here ℕ
at here steps = record { location = here.location; left = here.left; steps = steps }

abbrev pub EndsAt : Result (Here ℕ) (Stop ℕ) → Location ℕ → ℕ → Type 0
EndsAt walk location left =
    (steps : List (List ℕ)) × (walk ≡ Ok (record { location = location; left = left; steps = steps }))

-- a refusal of those that there may be
abbrev pub Stops : (Deny → Type 0) → {A : Type 0} → Result A (Stop ℕ) → Type 0
Stops Refused walk = (stop : Stop ℕ) × Refused stop.deny × (walk ≡ Err stop)

-- What walks of a reader need of what a call left to lead where those of a task led: at places that are known to be
-- there.
pub record LeadsToo (looks later : Looks ℕ) (task reader : Task ℕ) (Refused : Deny → Type 0)
    (Known : Location ℕ → Type 0) : Type 0 where
  pub root : reader.root ≡ task.root
  pub working : reader.directory ≡ task.directory
  pub root_known : Known task.root
  pub working_known : Known task.directory
  pub directory : (here : Location ℕ) → Known here → is_directory_at looks here ≡ true
      → is_directory_at later here ≡ true
  pub search : (here : Location ℕ) → Known here → is_directory_at looks here ≡ true
      → may looks task here execute_right ≡ true → (may later reader here execute_right ≡ true)
      ⊎ ((may later reader here execute_right ≡ false) × Refused (denial W4))
  pub mounter : (here : Location ℕ) → mounter_may later here execute_right ≡ true
  pub step : (here : Location ℕ) (word : LastWord) (next : Location ℕ) → Known here → is_directory_at looks here ≡ true
      → stepped nat_eq looks task here word ≡ Ok next → ((stepped nat_eq later reader here word ≡ Ok next) × Known next)
      ⊎ ((deny : Deny) × Refused deny × (stepped nat_eq later reader here word ≡ Err deny))
  pub nosymfollow : (here : Location ℕ) → Known here
      → (mount_at later here).flags.nosymfollow ≡ (mount_at looks here).flags.nosymfollow
  pub link : (here : Location ℕ) → Known here → symlink_text (later.node here) ≡ symlink_text (looks.node here)

pub positive : (n : ℕ) → (n == 0) ≡ false → 1 ≤ n
positive zero e = cc
positive (suc n) e = omega arith

-- one word that was walked
pub word_gave : (looks : Looks ℕ) (task : Task ℕ) (here next : Here ℕ) (word : LastWord)
    → word_walked nat_eq looks task here word ≡ Ok next → NoneFails (search_rules nat_eq looks task here.location)
    × (stepped nat_eq looks task here.location word ≡ Ok next.location) × (next.left ≡ here.left)
word_gave looks task here next word e =
    let both = and_then-Ok (unless (search_rules nat_eq looks task here.location)
    (stepped nat_eq looks task here.location word)) _ next (not_stopped (steps_with nat_eq looks task here word) _ next
    e) in
    let parts = passing (search_rules nat_eq looks task here.location) (stepped nat_eq looks task here.location word)
    both.0 both.1 in
    let same = same_ok _ next both.2 in
    (parts.0, cc parts.1, cc)

module _ {looks later : Looks ℕ} {task reader : Task ℕ} {Refused : Deny → Type 0} {Known : Location ℕ → Type 0}
    (leads : LeadsToo looks later task reader Refused Known) where
  -- a walk ends there, at a place that is known, or is refused so
  abbrev pub Ends : Result (Here ℕ) (Stop ℕ) → Here ℕ → Type 0
  Ends walk here = (EndsAt walk here.location here.left × Known here.location) ⊎ Stops Refused walk

  pub then_too : (first : Result (Here ℕ) (Stop ℕ)) (next : Here ℕ → Result (Here ℕ) (Stop ℕ)) (a b : Here ℕ)
      → Ends first a → ((steps : List (List ℕ)) → Known a.location → Ends (next (at a steps)) b)
      → Ends (then_walk first next) b
  then_too first next a b (inl e) ends = rw e.0.1 (ends e.0.0 e.1)
  then_too first next a b (inr stop) ends = inr (stop.0, stop.1, cc stop.2)

  -- searched before is searched, or that is the refusal
  pub search_too : (here : Location ℕ) → Known here → NoneFails (search_rules nat_eq looks task here)
      → NoneFails (search_rules nat_eq later reader here) ⊎ (Refused (denial W4) × ((answer : Result (Location ℕ) Deny)
      → unless (search_rules nat_eq later reader here) answer ≡ Err (denial W4)))
  search_too here known pass = grind (arith, common_steps, not-false)

  abbrev on : Here ℕ → List (List ℕ) → LastWord → Location ℕ → Result (Here ℕ) Deny
  on here steps word reached =
      Ok (record { location = reached; left = here.left; steps = steps_with nat_eq later reader (at here steps) word })

  -- what a word leads to, where it is searched, and where it is not
  pub word_too : (here next : Here ℕ) (word : LastWord) (steps : List (List ℕ)) → Known here.location
      → NoneFails (search_rules nat_eq looks task here.location) → next.left ≡ here.left
      → ((stepped nat_eq later reader here.location word ≡ Ok next.location) × Known next.location)
      ⊎ ((deny : Deny) × Refused deny × (stepped nat_eq later reader here.location word ≡ Err deny))
      → Ends (word_walked nat_eq later reader (at here steps) word) next
  word_too here next word steps known pass left stepping = by (search_too here.location known pass) stepping
    where
      by : NoneFails (search_rules nat_eq later reader here.location)
          ⊎ (Refused (denial W4) × ((answer : Result (Location ℕ) Deny)
          → unless (search_rules nat_eq later reader here.location) answer ≡ Err (denial W4)))
          → ((stepped nat_eq later reader here.location word ≡ Ok next.location) × Known next.location)
          ⊎ ((deny : Deny) × Refused deny × (stepped nat_eq later reader here.location word ≡ Err deny))
          → Ends (word_walked nat_eq later reader (at here steps) word) next
      by (inl may_search) (inl found) = inl (
        (
          steps_with nat_eq later reader (at here steps) word,
          ap (λ r. stopped_by (steps_with nat_eq later reader (at here steps) word)
              (and_then r (on here steps word))) (passed (search_rules nat_eq later reader here.location)
              (stepped nat_eq later reader here.location word) may_search ∙ found.0) ∙ (λ i. Ok (record {
                location = next.location;
                left = sym left i;
                steps = steps_with nat_eq later reader (at here steps) word;
              })),
        ),
        found.1,
      )
      by (inl may_search) (inr lost) = inr (
        record { deny = lost.0; steps = steps_with nat_eq later reader (at here steps) word },
        lost.1,
        ap (λ r. stopped_by (steps_with nat_eq later reader (at here steps) word) (and_then r (on here steps word)))
            (passed (search_rules nat_eq later reader here.location)
            (stepped nat_eq later reader here.location word) may_search ∙ lost.2),
      )
      by (inr hidden) stepping = inr (
        record { deny = denial W4; steps = steps_with nat_eq later reader (at here steps) word },
        hidden.0,
        cc (hidden.1 (stepped nat_eq later reader here.location word)),
      )

  -- Ways to follow links, of which the other ends where the first does, and leaves no more links than there were
  abbrev pub FollowsToo : ℕ → Follow ℕ → Follow ℕ → Type 0
  FollowsToo most follow other = (directory : Location ℕ) (link : Here ℕ) (text : List ℕ) (end : Here ℕ)
      → link.left ≤ most → follow directory link text ≡ Ok end → (end.left ≤ link.left)
      × (Known directory → Known link.location → (steps : List (List ℕ))
      → Ends (other directory (at link steps) text) end)

  words_too : (most : ℕ) (follow other : Follow ℕ) → FollowsToo most follow other
      → (start : Here ℕ) (words : List (List ℕ))
      (end : Here ℕ) → start.left ≤ most → words_walked nat_eq looks task follow start words ≡ Ok end
      → (end.left ≤ start.left) × (Known start.location → (steps : List (List ℕ))
      → Ends (words_walked nat_eq later reader other (at start steps) words) end)
  words_too most follow other follows start [] end less e =
      let same = same_end start end e in (
        rw (← same) (omega arith),
        λ known steps. inl ((steps, λ i. Ok (at (same i) steps)), rw (← same) known),
      )
  words_too most follow other follows start (word ∷ front) end less e =
      let prefixes = both_walked (words_walked nat_eq looks task follow start front) _ end e in
      let reached = prefixes.0 in
      let nexts = both_walked (word_walked nat_eq looks task reached (last_word word))
      (λ next. if_symlink next (symlink_text (looks.node next.location))
      (follow reached.location next)) end prefixes.2 in
      let next = nexts.0 in
      let gave = word_gave looks task reached next (last_word word) nexts.1 in
      let before = words_too most follow other follows start front reached less prefixes.1 in
      let fewer : reached.left ≤ start.left = before.0 in
      let same : next.left ≡ reached.left = gave.2 in
      let after = linked reached next end (symlink_text (looks.node next.location)) (omega arith) nexts.2 in (
        (let least : end.left ≤ next.left = after.0 in omega arith),
        λ known steps. then_too (words_walked nat_eq later reader other (at start steps) front) _ reached end
            (before.1 known steps) (λ steps_there known_there.
            then_too (word_walked nat_eq later reader (at reached steps_there) (last_word word)) _ next end
            (word_too reached next (last_word word) steps_there known_there gave.0 same
            (leads.step reached.location (last_word word) next.location known_there (not-false _ gave.0.0) gave.1))
            (λ steps_next known_next.
            rw (leads.link next.location known_next) (after.1 known_there known_next steps_next))),
      )
    where
      linked : (reached next end : Here ℕ) (text : Option (List ℕ)) → next.left ≤ most
          → if_symlink next text (follow reached.location next) ≡ Ok end → (end.left ≤ next.left)
          × (Known reached.location → Known next.location → (steps : List (List ℕ))
          → Ends (if_symlink (at next steps) text (other reached.location (at next steps))) end)
      linked reached next end None less e =
          let same = same_end next end e in (
            rw (← same) (omega arith),
            λ known known_next steps.
                inl ((steps, λ i. Ok (at (same i) steps)), subst (λ (h : Here ℕ). Known h.location) same known_next),
          )
      linked reached next end (Some text) less e = follows reached.location next text end less e

  -- a slash asks for a directory, as before
  pub slash_too : (text : List ℕ) (here : Location ℕ) → Known here → NoneFails (slash_rules nat_eq looks text here)
      → NoneFails (slash_rules nat_eq later text here)
  slash_too text here known pass = (grind (arith, common_steps, leads.directory here known, pass.0), tt)

  -- a path or text begins where it began
  pub start_same : (mine directory : Location ℕ) (text : List ℕ) → mine ≡ directory
      → start_of reader mine text ≡ start_of task directory text
  start_same mine directory text same = grind (arith, common_steps)

  pub start_known : (directory : Location ℕ) (text : List ℕ) → Known directory → Known (start_of task directory text)
  start_known directory text known = grind (arith, common_steps)

  -- Links are followed alike, however deep they may stand in one another, if that is deep enough.
  link_too : (depth other : ℕ) (directory : Location ℕ) (link : Here ℕ) (text : List ℕ) (end : Here ℕ)
      → suc link.left ≤ depth → suc link.left ≤ other
      → symlink_walked nat_eq depth looks task directory link text ≡ Ok end → (end.left ≤ link.left)
      × (Known directory → Known link.location → (steps : List (List ℕ))
      → Ends (symlink_walked nat_eq other later reader directory (at link steps) text) end)
  link_too zero other directory link text end deep deep_too e = absurd (omega arith)
  link_too (suc depth) zero directory link text end deep deep_too e = absurd (omega arith)
  link_too (suc depth) (suc other) directory link text end deep deep_too e =
      let starts = both_walked (walk_unless link.steps (follow_rules nat_eq looks link text)
      (symlink_start nat_eq looks task directory link text)) _ end e in
      let begins = walk_passing link.steps (follow_rules nat_eq looks link text)
      (symlink_start nat_eq looks task directory link text) starts.0 starts.1 in
      let some : 1 ≤ link.left = positive link.left begins.0.1.0 in
      let begun = symlink_start nat_eq looks task directory link text in
      let inside = both_walked (words_walked nat_eq looks task
      (λ inside next inner. symlink_walked nat_eq depth looks task inside next inner) starts.0
      (reverse (words text))) _ end starts.2 in
      let reached = inside.0 in
      let ends = walk_passing reached.steps (slash_rules nat_eq looks text reached.location) reached end inside.2 in
      let same : reached ≡ end = ends.1 in
      let walked = words_too (link.left - 1)
      (λ inside next inner. symlink_walked nat_eq depth looks task inside next inner)
      (λ inside next inner. symlink_walked nat_eq other later reader inside next inner)
      (λ at_directory next inner stop less gives.
      link_too depth other at_directory next inner stop (omega arith) (omega arith) gives)
      begun (reverse (words text)) reached (omega arith) (cc (begins.1, inside.1)) in (
        (let least : reached.left ≤ link.left - 1 = walked.0 in subst (λ (h : Here ℕ). h.left ≤ link.left) same
            (omega arith)),
        λ known known_link steps.
            let now : Here ℕ = symlink_start nat_eq later reader directory (at link steps) text in
            let pass : NoneFails (follow_rules nat_eq later (at link steps) text) =
            (leads.nosymfollow link.location known_link ∙ begins.0.0, begins.0.1) in
            subst (λ r. Ends (then_walk r (λ start.
            then_walk (words_walked nat_eq later reader
            (λ inside next inner. symlink_walked nat_eq other later reader inside next inner) start
            (reverse (words text)))
            (λ reached. walk_unless reached.steps (slash_rules nat_eq later text reached.location) reached))) end)
            (sym (walk_passed steps (follow_rules nat_eq later (at link steps) text) now pass ∙ (λ i. Ok (record {
              location = start_same directory directory text refl i;
              left = link.left - 1;
              steps = now.steps;
            })))) (then_too (words_walked nat_eq later reader
            (λ inside next inner. symlink_walked nat_eq other later reader inside next inner) (at begun now.steps)
            (reverse (words text))) _ reached end (walked.1 (start_known directory text known) now.steps)
            (λ steps_there known_there.
            inl (
              (
                steps_there,
                walk_passed steps_there (slash_rules nat_eq later text reached.location) (at reached steps_there)
                    (slash_too text reached.location known_there ends.0) ∙ (λ i. Ok (at (same i) steps_there)),
              ),
              subst (λ (h : Here ℕ). Known h.location) same known_there,
            ))),
      )

  -- Words lead where they led, from where there are fewer links left than may be followed.
  pub words_lead : (depth other : ℕ) (start : Here ℕ) (words : List (List ℕ)) (end : Here ℕ)
      → suc start.left ≤ depth → suc start.left ≤ other → words_walked nat_eq looks task
      (λ inside next inner. symlink_walked nat_eq depth looks task inside next inner) start words ≡ Ok end
      → (end.left ≤ start.left) × (Known start.location → (steps : List (List ℕ))
      → Ends (words_walked nat_eq later reader
      (λ inside next inner. symlink_walked nat_eq other later reader inside next inner) (at start steps) words) end)
  words_lead depth other start words end deep deep_too e =
      words_too start.left (λ inside next inner. symlink_walked nat_eq depth looks task inside next inner)
      (λ inside next inner. symlink_walked nat_eq other later reader inside next inner)
      (λ at_directory next inner stop less gives.
      link_too depth other at_directory next inner stop (omega arith) (omega arith) gives)
      start words end (omega arith) e
