-- Tasks keep names of their own: what a fork names is a new name, where tasks have counted their forks.
use Rattle.std.proofs.Common.{◌≡◌, refl, sym, ap, subst, ◌∙◌, ◌⊎◌, inl, inr, ⊎_elim, ℕ, nat_eq, Bool, true, false, cond, true≢false, filter, not, List, [], ◌∷◌, ◌++◌, ◌+◌, ◌≤◌, append_assoc, arith, map}
use Rattle.vt_spec.proofs.Common.{Among, Credentials, ForksAreCounted, Fresh, Mount, Task, TaskName, World, among-append, among-from_filter, among-from_map, among_from_contains, any_pair, bytes_decides, child_name, child_of, common_steps, contains_from_among, first_task, list_any, name-replaced_if_called, none_among, none_from_among, opening, or_parts, pair-filter, pair-map, pivoted_task, replaced_if_called, same_name, same_task_name}

-- A name that is put together in two ways
module _ where
  abbrev head_or : ℕ → List ℕ → ℕ
  head_or d [] = d
  head_or d (a ∷ rest) = a

  some_cons : (a : ℕ) (rest : List ℕ) → [] ≡ a ∷ rest → ⊥
  some_cons a rest e = true≢false (cc)

  none_append : (ys : List ℕ) (y : ℕ) (zs : List ℕ) → [] ≡ ys ++ (y ∷ zs) → ⊥
  none_append [] y zs e = some_cons y zs e
  none_append (u ∷ us) y zs e = some_cons u _ e

  pub two_ways : (xs : List ℕ) (x : ℕ) (ys : List ℕ) (y : ℕ) (zs : List ℕ) → xs ++ (x ∷ []) ≡ ys ++ (y ∷ zs)
      → ((xs ≡ ys) × (x ≡ y)) ⊎ ((rest : List ℕ) × (xs ≡ ys ++ (y ∷ rest)))
  two_ways [] x [] y zs e = inl (refl, cc)
  two_ways [] x (u ∷ us) y zs e = absurd (none_append us y zs (cc))
  two_ways (v ∷ vs) x [] y zs e = inr (vs, cc)
  two_ways (v ∷ vs) x (u ∷ us) y zs e =
      let head : v ≡ u = cc in
      ⊎_elim (λ same. inl (cc, same.1)) (λ longer. inr (longer.0, cc)) (two_ways vs x us y zs (cc))

  pub not_longer : (xs : List ℕ) (y : ℕ) (zs : List ℕ) → xs ≡ xs ++ (y ∷ zs) → ⊥
  not_longer [] y zs e = some_cons y zs e
  not_longer (x ∷ xs) y zs e = not_longer xs y zs (cc)

-- no two tasks have one name
abbrev pub AreNamedApart : List (Task ℕ) → Type 0
AreNamedApart tasks = any_pair (λ (a b : Task ℕ). same_name a.name b.name) tasks ≡ false

mapped_apart : (f : Task ℕ → Task ℕ) → ((task : Task ℕ) → (f task).name ≡ task.name) → (tasks : List (Task ℕ))
    → AreNamedApart tasks → AreNamedApart (map f tasks)
mapped_apart f names tasks e = pair-map _ _ f tasks (λ a b m n h. cc (names a, names b)) e

appended_apart : (tasks : List (Task ℕ)) (new : Task ℕ) → AreNamedApart tasks
    → ((task : Task ℕ) → Among task tasks → same_name task.name new.name ≡ false) → AreNamedApart (tasks ++ (new ∷ []))
appended_apart [] new e differ = refl
appended_apart (first ∷ rest) new e differ = both (any_appended rest (first_part e))
    (appended_apart rest new (second_part e) (λ t m. differ t (inr m)))
  where
    test : Task ℕ → Task ℕ → Bool
    test a b = same_name a.name b.name

    first_part : AreNamedApart (first ∷ rest) → list_any (λ (b : Task ℕ). same_name first.name b.name) rest ≡ false
    first_part h = (or_parts (list_any (λ (b : Task ℕ). same_name first.name b.name) rest)
        (any_pair (λ (a b : Task ℕ). same_name a.name b.name) rest) h).0

    second_part : AreNamedApart (first ∷ rest) → AreNamedApart rest
    second_part h = (or_parts (list_any (λ (b : Task ℕ). same_name first.name b.name) rest)
        (any_pair (λ (a b : Task ℕ). same_name a.name b.name) rest) h).1

    any_appended : (list : List (Task ℕ)) → list_any (λ (b : Task ℕ). same_name first.name b.name) list ≡ false
        → list_any (λ (b : Task ℕ). same_name first.name b.name) (list ++ (new ∷ [])) ≡ false
    any_appended list h = none_from_among (λ (b : Task ℕ). same_name first.name b.name) (list ++ (new ∷ [])) (λ b m.
        ⊎_elim (λ l. none_among (λ (x : Task ℕ). same_name first.name x.name) list h b l)
        (λ r. ⊎_elim (λ same. ap (λ (x : Task ℕ). same_name first.name x.name) same ∙ differ first (inl refl))
        (λ none. absurd none) r) (among-append list (new ∷ []) b m))

    both : list_any (λ (b : Task ℕ). same_name first.name b.name) (rest ++ (new ∷ [])) ≡ false
        → AreNamedApart (rest ++ (new ∷ [])) → AreNamedApart (first ∷ (rest ++ (new ∷ [])))
    both h k = cc

-- Forks are counted, in a list of tasks
abbrev AreCounted : List (Task ℕ) → Type 0
AreCounted tasks = (task other : Task ℕ) (number : ℕ) (rest : TaskName) → Among task tasks → Among other tasks
    → other.name ≡ task.name ++ (number ∷ rest) → number ≤ task.forks

pub counted_among : (world : World ℕ) → ForksAreCounted world → AreCounted world.tasks
counted_among world counted task other number rest m n =
    counted task other number rest (contains_from_among _ task m) (contains_from_among _ other n)

pub counted_from : (world : World ℕ) → AreCounted world.tasks → ForksAreCounted world
counted_from world counted task other number rest m n =
    counted task other number rest (among_from_contains _ task m) (among_from_contains _ other n)

-- each task has the name of one that was there, and has forked no less
abbrev ComeFrom : List (Task ℕ) → List (Task ℕ) → Type 0
ComeFrom before after = (task : Task ℕ) → Among task after → (old : Task ℕ) × Among old before × (task.name ≡ old.name)
    × (old.forks ≤ task.forks)

counted_on : (before after : List (Task ℕ)) → ComeFrom before after → AreCounted before → AreCounted after
counted_on before after come counted task other number rest m n e = grind (arith, common_steps)

replaced_come : (new task : Task ℕ) (tasks : List (Task ℕ)) → Among task tasks → new.name ≡ task.name
    → task.forks ≤ new.forks → ComeFrom tasks (map (replaced_if_called new) tasks)
replaced_come new task tasks there name forks other m =
    let from = among-from_map _ tasks other m in grind (arith, common_steps)

-- How the tasks go on: as they were, one changed, moved to the new root, without one, or with a child
pub data GoOn (task : Task ℕ) (before : List (Task ℕ)) : List (Task ℕ) → Type 0 where
  same_ones : (after : List (Task ℕ)) → after ≡ before → GoOn task before after
  one_changed : (new : Task ℕ) (after : List (Task ℕ)) → new.name ≡ task.name → new.forks ≡ task.forks
      → after ≡ map (replaced_if_called new) before → GoOn task before after
  all_moved : (namespace : ℕ) (root new : Mount ℕ) (after : List (Task ℕ))
      → after ≡ map (pivoted_task nat_eq namespace root new) before → GoOn task before after
  one_left : (after : List (Task ℕ)) → after ≡ filter
      (λ (other : Task ℕ). not (same_name task.name other.name)) before → GoOn task before after
  one_more : (credentials : Credentials) (after : List (Task ℕ)) → after ≡ map (replaced_if_called
      (record task { forks = task.forks + 1 })) before ++ (child_of task credentials ∷ []) → GoOn task before after

pivoted_keeps : (namespace : ℕ) (root new : Mount ℕ) (task : Task ℕ)
    → ((pivoted_task nat_eq namespace root new task).name ≡ task.name)
    × (task.forks ≤ (pivoted_task nat_eq namespace root new task).forks)
pivoted_keeps namespace root new task = grind (arith, common_steps)

module _ (task : Task ℕ) (before : List (Task ℕ)) (there : Among task before) (apart : AreNamedApart before)
    (counted : AreCounted before) where
  abbrev parent : Task ℕ
  parent = record task { forks = task.forks + 1 }

  -- no task has the child's name
  child_is_new : (other : Task ℕ) → Among other before → same_name other.name (child_name task) ≡ false
  child_is_new other m = grind (arith, common_steps, same_task_name)

  pub go_on_apart : (after : List (Task ℕ)) → GoOn task before after → AreNamedApart after
  go_on_apart after known = grind (
    arith,
    common_steps,
    mapped_apart,
    name-replaced_if_called,
    pivoted_keeps,
    pair-filter,
    appended_apart,
    among-from_map,
    child_is_new,
  )

  -- a child's name begins with that of a task that was there
  above_child : (other : Task ℕ) → Among other (map (replaced_if_called parent) before) → (number : ℕ) (rest : TaskName)
      → child_name task ≡ other.name ++ (number ∷ rest) → number ≤ other.forks
  above_child other m number rest e =
      let from = among-from_map _ before other m in
      subst (λ (t : Task ℕ). child_name task ≡ t.name ++ (number ∷ rest) → number ≤ t.forks) (sym from.2)
      (by from.0 from.1 _ refl) e
    where
      last_one : (a b : ℕ) → a ≡ b → b ≤ a
      last_one a b h = omega (arith, h)

      by : (old : Task ℕ) → Among old before → (b : Bool) → same_name task.name old.name ≡ b
          → child_name task ≡ (cond b parent old).name ++ (number ∷ rest) → number ≤ (cond b parent old).forks
      by old n true same h = ⊎_elim (λ one. last_one _ number one.1) (λ longer. absurd (not_longer _ number _ longer.1))
          (two_ways _ _ _ number rest h)
      by old n false differ h = ⊎_elim (λ one. absurd (true≢false (sym ((bytes_decides task.name old.name).1 one.0)
          ∙ differ))) (λ longer. counted old task number longer.0 n there longer.1) (two_ways _ _ _ number rest h)

  pub go_on_counted : (after : List (Task ℕ)) → GoOn task before after → AreCounted after
  go_on_counted after (same_ones list e) = subst AreCounted (sym e) counted
  go_on_counted after (one_changed new list name forks e) = subst AreCounted (sym e)
      (counted_on before (map (replaced_if_called new) before)
      (replaced_come new task before there name (omega (arith, forks))) counted)
  go_on_counted after (all_moved namespace root new list e) = subst AreCounted (sym e)
      (counted_on before (map (pivoted_task nat_eq namespace root new) before) (λ other m.
      let from = among-from_map (pivoted_task nat_eq namespace root new) before other m in
      let kept = pivoted_keeps namespace root new from.0 in (
        from.0,
        from.1,
        ap (λ (t : Task ℕ). t.name) from.2 ∙ kept.0,
        subst (λ (t : Task ℕ). from.0.forks ≤ t.forks) (sym from.2) kept.1,
      )) counted)
  go_on_counted after (one_left list e) = subst AreCounted (sym e) (λ one other number rest m n.
      counted one other number rest
      (among-from_filter (λ (x : Task ℕ). not (same_name task.name x.name)) before one m).0
      (among-from_filter (λ (x : Task ℕ). not (same_name task.name x.name)) before other n).0)
  go_on_counted after (one_more credentials list e) = subst AreCounted (sym e) (λ one other number rest m n h.
      let old = map (replaced_if_called parent) before in
      let child = child_of task credentials in
      let come = counted_on before old (replaced_come parent task before there refl (omega arith)) counted in
      ⊎_elim (λ first. ⊎_elim (λ second. come one other number rest first second h)
      (λ second. ⊎_elim (λ is. above_child one first number rest (sym (ap (λ (t : Task ℕ). t.name) is) ∙ h))
      (λ none. absurd none) second) (among-append old (child ∷ []) other n)) (λ first. ⊎_elim (λ is_child.
      let name : other.name ≡ child_name task ++ (number ∷ rest) = h
      ∙ ap (λ (t : Task ℕ). t.name ++ (number ∷ rest)) is_child in
      ⊎_elim (λ second. absurd (below_none other second number rest name)) (λ second. ⊎_elim (λ is. absurd
      (not_longer (child_name task) number rest (sym (ap (λ (t : Task ℕ). t.name) is) ∙ name)))
      (λ none. absurd none) second) (among-append old (child ∷ []) other n)) (λ none. absurd none) first)
      (among-append old (child ∷ []) one m))
    where
      too_many : task.forks + 1 ≤ task.forks → ⊥
      too_many h = omega (arith, h)

      -- nothing was named below the child
      below_none : (other : Task ℕ) → Among other (map (replaced_if_called parent) before)
          → (number : ℕ) (rest : TaskName) → other.name ≡ child_name task ++ (number ∷ rest) → ⊥
      below_none other m number rest h =
          grind (arith, common_steps, among-from_map, too_many, name-replaced_if_called, append_assoc)

pub opening_counts_forks : (fresh : Fresh ℕ) → ForksAreCounted (opening nat_eq fresh)
opening_counts_forks fresh = counted_from (opening nat_eq fresh) (λ task other number rest m n e.
    ⊎_elim (λ (one : other ≡ first_task nat_eq fresh). absurd
    (none_append task.name number rest (ap (λ (t : Task ℕ). t.name) (sym one) ∙ e))) (λ none. absurd none) n)
