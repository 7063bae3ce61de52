-- What calls that look answer where their walks end.
use Rattle.std.proofs.Common.{inl, inr, ◌⊎◌, arith, ◌≡◌, refl, ap, ◌∙◌, ℕ, nat_eq, Bool, true, false, cond, not, ◌||◌, ◌&&◌, List, [], ◌∷◌, Option, Some, Ok, Err, ok_or, Result}
use Rattle.vt_spec.proofs.Common.{Answer, Bytes, Call, Content, Credentials, Fresh, Here, Judgement, Ls, Lstat, Names, Node, Outcome, Read, Readlink, Regular, Stat, Stop, Task, TaskName, ToList, Told, World, after, allows, and_then, apply, bytes_in, call_outcome, common_steps, denial, execute_right, filesystems_changed_by, finished, is_directory_node, is_kind_in, judge_in, judging, kind_of, mount_at, mounter_allows, names_in, node_allows, node_at, policy, read_right, stat_line, task_called, unless, walk_end}
use Rattle.vt_laws_later_calls.proofs.Common.{Attr, B1, C1, Deny, File, IsPlain, S2, Symlink, directory_walk, list_rules, object_walk, plain_numbered, read_rules, symlink_walk}
use Rattle.vt_laws_later_calls.specs.LaterPaths.{reads_all}

-- Who may read everything

-- with one of two capabilities that grant it, a request is granted
granted_by : (own one other first second : Bool) → (one || other) ≡ true → first ≡ true → second ≡ true
    → (own || (one && first) || (other && second)) ≡ true
granted_by own one other first second some e f = grind (arith, common_steps)

-- every directory may be searched: CAP_DAC_OVERRIDE or CAP_DAC_READ_SEARCH
pub search_all : (who : Credentials) → reads_all who ≡ true → (o : Option (Node ℕ)) → is_directory_node o ≡ true
    → node_allows who execute_right o ≡ true
search_all who all o is = grind (arith, common_steps, granted_by)

-- and every object read
pub read_all : (who : Credentials) → reads_all who ≡ true → (attr : Attr) (content : Content ℕ)
    → allows who attr (kind_of content) read_right ≡ true
read_all who all attr content = grind (arith, common_steps, granted_by)

-- a call of a task, which is there
module _ (world : World ℕ) (fresh : Fresh ℕ) (name : TaskName) {task : Task ℕ}
    (called : task_called world name ≡ Some task) (path : List ℕ) where
  abbrev by_task : Call → Option (Task ℕ) → Outcome ℕ
  by_task call o = after world (ok_or o (denial S2)) (λ t.
      finished nat_eq world name call (filesystems_changed_by nat_eq world (judge_in nat_eq fresh world t call))
      (call_outcome nat_eq fresh world t call))

  -- what it is answered, by its judgement
  abbrev answer_of : Judgement ℕ → Result Answer Deny
  answer_of judgement = (after world judgement (apply nat_eq fresh world task)).answer

  pub lstat_of : (here : Here ℕ) → symlink_walk nat_eq world task path ≡ Ok here
      → (policy nat_eq fresh world name (Lstat path)).answer
      ≡ Ok (Told (stat_line (node_at nat_eq world here.location)))
  unfolding judging
  lstat_of here walk = cc called

  pub lstat_refused : (stop : Stop ℕ) → symlink_walk nat_eq world task path ≡ Err stop
      → (policy nat_eq fresh world name (Lstat path)).answer ≡ Err stop.deny
  unfolding judging
  lstat_refused stop walk = cc called

  pub stat_of : (here : Here ℕ) → object_walk nat_eq world task path ≡ Ok here
      → (policy nat_eq fresh world name (Stat path)).answer ≡ Ok (Told (stat_line (node_at nat_eq world here.location)))
  unfolding judging
  stat_of here walk = cc called

  pub stat_refused : (stop : Stop ℕ) → object_walk nat_eq world task path ≡ Err stop
      → (policy nat_eq fresh world name (Stat path)).answer ≡ Err stop.deny
  unfolding judging
  stat_refused stop walk = cc called

  pub readlink_of : (here : Here ℕ) → symlink_walk nat_eq world task path ≡ Ok here
      → is_kind_in Symlink (node_at nat_eq world here.location) ≡ true
      → (policy nat_eq fresh world name (Readlink path)).answer
      ≡ Ok (Bytes (bytes_in (node_at nat_eq world here.location)))
  unfolding judging
  readlink_of here walk is = cc called

  -- a directory is listed, if it may be read
  pub list_of : IsPlain world → (here : Here ℕ) → directory_walk nat_eq world task path ≡ Ok here
      → (policy nat_eq fresh world name (Ls path)).answer
      ≡ cond (node_allows task.credentials read_right (node_at nat_eq world here.location))
      (Ok (Names (names_in (node_at nat_eq world here.location)))) (Err (denial C1))
  unfolding judging
  list_of plain here walk = ap (λ o. (by_task (Ls path) o).answer) called
      ∙ ap (λ r. answer_of (and_then (walk_end r) (λ (here : Here ℕ).
      unless (list_rules nat_eq world task here.location) (Ok (ToList here.location))))) walk
      ∙ ap (λ o. answer_of (unless
      ((not (node_allows task.credentials read_right (node_at nat_eq world here.location)), C1)
      ∷ (not (mounter_allows o read_right (node_at nat_eq world here.location)), B1) ∷ []) (Ok (ToList here.location))))
      (plain_numbered world plain (mount_at nat_eq world here.location).filesystem)
      ∙ by (node_allows task.credentials read_right (node_at nat_eq world here.location))
    where
      by : (b : Bool) → answer_of (unless ((not b, C1) ∷ (false, B1) ∷ []) (Ok (ToList here.location)))
          ≡ cond b (Ok (Names (names_in (node_at nat_eq world here.location)))) (Err (denial C1))
      by true = refl
      by false = refl

  pub listed_or_refused : IsPlain world → (here : Here ℕ) → directory_walk nat_eq world task path ≡ Ok here
      → (names : List (List ℕ)) → names_in (node_at nat_eq world here.location) ≡ names
      → ((policy nat_eq fresh world name (Ls path)).answer ≡ Ok (Names names))
      ⊎ ((policy nat_eq fresh world name (Ls path)).answer ≡ Err (denial C1))
  listed_or_refused plain here walk names same =
      by (node_allows task.credentials read_right (node_at nat_eq world here.location)) (list_of plain here walk)
    where
      by : (b : Bool) → (policy nat_eq fresh world name (Ls path)).answer
          ≡ cond b (Ok (Names (names_in (node_at nat_eq world here.location)))) (Err (denial C1))
          → ((policy nat_eq fresh world name (Ls path)).answer ≡ Ok (Names names))
          ⊎ ((policy nat_eq fresh world name (Ls path)).answer ≡ Err (denial C1))
      by true e = inl (e ∙ ap (λ names. Ok (Names names)) same)
      by false e = inr e

  pub list_refused : (stop : Stop ℕ) → directory_walk nat_eq world task path ≡ Err stop
      → (policy nat_eq fresh world name (Ls path)).answer ≡ Err stop.deny
  unfolding judging
  list_refused stop walk = cc called

  -- a regular file is read, if it may be
  pub read_of : IsPlain world → (here : Here ℕ) → object_walk nat_eq world task path ≡ Ok here
      → (attr : Attr) (bytes : List ℕ)
      → node_at nat_eq world here.location ≡ Some (record { attr = attr; content = Regular bytes })
      → (policy nat_eq fresh world name (Read path)).answer
      ≡ cond (allows task.credentials attr File read_right) (Ok (Bytes bytes)) (Err (denial C1))
  unfolding judging
  read_of plain here walk attr bytes is = grind (arith, common_steps, read_rules, plain_numbered)
