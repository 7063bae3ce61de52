-- Each call is answered alike in two worlds that are the same with all their change numbers.
use Rattle.std.proofs.Common.{◌≡◌, refl, sym, ap, subst, ◌∙◌, ⊎_elim, inl, inr, ℕ, nat_eq, Bool, true, false, true≢false, cond, ◌||◌, List, [], ◌∷◌, All, map, Option, Some, None, Ok, Err, ok_or, find, option_map, unwrap_or, eqb-true}
use Rattle.std.specs.List.{list_any}
use Rattle.vt_spec.proofs.Common.{Among, Call, Filesystem, Fresh, IsWorld, Judgement, Namespace, Permit, SameFilesystems, Task, TaskName, World, after, all_from_among, among_from_all, any_pair, apply, denial, directed, filesystems_changed, filesystems_changed_by, finished, finished_unless, judge_in, nat_eq_itself, none_among, only_looks, or_parts, policy, raised, same_mounts_in, same_name, same_name_itself, same_task_name, task_called}
use Rattle.vt_spec.specs.Machine.Run.{Serves}
use Rattle.vt_laws_rules.proofs.denials.Unchanged.{directive_changes_nothing, look_changes_nothing}
use Rattle.vt_laws_rules.proofs.rules.OwnRules.{denial_changes_nothing}
use Rattle.vt_laws_rules.proofs.same.SameMany.{same_worlds_judge_alike}
use Rattle.vt_laws_rules.proofs.same.SameNames.{worlds_have_one_name}
use Rattle.vt_laws_trees.proofs.runs.answered.AlikeWorlds.{alike_from_same, sameness_is_an_equivalence}
use Rattle.vt_laws_worlds.proofs.one_text.answered.AlikeAnswered.{any_same_worlds_are_answered_alike, any_same_worlds_are_directed_alike}
use Rattle.vt_laws_worlds.specs.OneText.Answered.{AreAlike}
use Rattle.vt_laws_turns.proofs.Common.{Deny, S2}
use Rattle.vt_laws_turns.proofs.dated.ChangeStays.{applied_keeps}
use Rattle.vt_laws_turns.proofs.dated.ChangedAlike.{changes_alike}
use Rattle.vt_laws_turns.proofs.dated.Followed.{NewHaveNone, leaves_have, new_have_none, policy_leaves}
use Rattle.vt_laws_turns.proofs.dated.SameDates.{same_with_dates}
use Rattle.vt_laws_turns.specs.Dated.{AreOfTheLiving, Dates, HasDates, IsPermittedChange, SameDated, dates_after}
use Rattle.vt_laws_turns.specs.Alike.{DatedSamenessIsAnEquivalence, SameDatedWorldsAreAnsweredAlike, SameDatedWorldsAreDirectedAlike}

pub dated_sameness_is_an_equivalence : DatedSamenessIsAnEquivalence
dated_sameness_is_an_equivalence = record {
  itself = λ world. record {
    same = sameness_is_an_equivalence.itself world;
    tasks = refl;
    namespaces = refl;
    filesystems = refl;
    change = refl;
  };
  back = λ one other same. record {
    same = sameness_is_an_equivalence.back one other same.same;
    tasks = sym same.tasks;
    namespaces = sym same.namespaces;
    filesystems = sym same.filesystems;
    change = sym same.change;
  };
  onward = λ one other last same next. record {
    same = sameness_is_an_equivalence.onward one other last same.same next.same;
    tasks = same.tasks ∙ next.tasks;
    namespaces = same.namespaces ∙ next.namespaces;
    filesystems = same.filesystems ∙ next.filesystems;
    change = same.change ∙ next.change;
  };
}

-- what is there is found by its name, where no two have one
module _ {A B : Type 0} (same : B → B → Bool) (name_of : A → B) (itself : (b : B) → same b b ≡ true)
    (is : (a b : B) → same a b ≡ true → a ≡ b) where
  found_own : (list : List A) → any_pair (λ a b. same (name_of a) (name_of b)) list ≡ false → (a : A) → Among a list
      → find (λ b. same (name_of a) (name_of b)) list ≡ Some a
  found_own [] apart a m = absurd m
  found_own (first ∷ rest) apart a m =
      let parts = or_parts (list_any (λ b. same (name_of first) (name_of b)) rest)
      (any_pair (λ a b. same (name_of a) (name_of b)) rest) apart in
      ⊎_elim (λ e. ap (λ b. cond b (Some first) (find (λ x. same (name_of a) (name_of x)) rest))
      (ap (λ x. same (name_of x) (name_of first)) e ∙ itself (name_of first)) ∙ ap Some (sym e))
      (λ later. by (same (name_of a) (name_of first)) refl parts.0 later (found_own rest parts.1 a later)) m
    where
      by : (b : Bool) → same (name_of a) (name_of first) ≡ b
          → list_any (λ b. same (name_of first) (name_of b)) rest ≡ false → Among a rest
          → find (λ x. same (name_of a) (name_of x)) rest ≡ Some a
          → cond b (Some first) (find (λ x. same (name_of a) (name_of x)) rest) ≡ Some a
      by true e none later next = absurd (true≢false (sym (itself (name_of a))
          ∙ ap (λ n. same n (name_of a)) (is (name_of a) (name_of first) e)
          ∙ none_among (λ b. same (name_of first) (name_of b)) rest none a later))
      by false e none later next = next

-- the change numbers that a world has
abbrev dates_of : World ℕ → Dates
dates_of world = record {
  tasks = λ name. unwrap_or (option_map (λ (t : Task ℕ). t.change) (task_called world name)) 0;
  namespaces = λ number. unwrap_or (option_map (λ (n : Namespace ℕ). n.change)
      (find (λ (n : Namespace ℕ). nat_eq number n.number) world.namespaces)) 0;
  filesystems = λ number. unwrap_or (option_map (λ (f : Filesystem ℕ). f.change)
      (find (λ (f : Filesystem ℕ). nat_eq number f.number) world.filesystems)) 0;
}

has_own : (world : World ℕ) → IsWorld nat_eq world → HasDates (dates_of world) world
has_own world is = record {
  tasks = all_from_among _ world.tasks (λ t m.
      sym (ap (λ found. unwrap_or (option_map (λ (x : Task ℕ). x.change) found) 0)
      (found_own same_name (λ (x : Task ℕ). x.name) same_name_itself same_task_name world.tasks is.tasks.one_task t
      m)));
  namespaces = all_from_among _ world.namespaces (λ n m.
      sym (ap (λ found. unwrap_or (option_map (λ (x : Namespace ℕ). x.change) found) 0)
      (found_own nat_eq (λ (x : Namespace ℕ). x.number) nat_eq_itself eqb-true world.namespaces
      is.namespaces.one_namespace n m)));
  filesystems = all_from_among _ world.filesystems (λ f m.
      sym (ap (λ found. unwrap_or (option_map (λ (x : Filesystem ℕ). x.change) found) 0)
      (found_own nat_eq (λ (x : Filesystem ℕ). x.number) nat_eq_itself eqb-true world.filesystems
      is.files.one_filesystem f m)));
}

own_living : (world : World ℕ) → AreOfTheLiving (dates_of world) world
own_living world = record {
  tasks = λ name none. ap (λ found. unwrap_or (option_map (λ (x : Task ℕ). x.change) found) 0) none;
  namespaces = λ number none. ap (λ found. unwrap_or (option_map (λ (x : Namespace ℕ). x.change) found) 0) none;
  filesystems = λ number none. ap (λ found. unwrap_or (option_map (λ (x : Filesystem ℕ). x.change) found) 0) none;
}

files_have : (numbers : ℕ → ℕ) (ones others : List (Filesystem ℕ)) → SameFilesystems ones others
    → map (λ (f : Filesystem ℕ). f.change) ones ≡ map (λ (f : Filesystem ℕ). f.change) others
    → ((f : Filesystem ℕ) → Among f ones → f.change ≡ numbers f.number) → (f : Filesystem ℕ) → Among f others
    → f.change ≡ numbers f.number
files_have numbers ones [] same e have f m = absurd m
files_have numbers [] (b ∷ others) same e have f m = absurd same
files_have numbers (a ∷ ones) (b ∷ others) same e have f m =
    let first : a.change ≡ b.change = cc in
    let rest : map (λ (f : Filesystem ℕ). f.change) ones ≡ map (λ (f : Filesystem ℕ). f.change) others = cc in
    ⊎_elim (λ is. ap (λ (x : Filesystem ℕ). x.change) is ∙ sym first ∙ have a (inl refl)
    ∙ ap numbers (same.0.number ∙ sym (ap (λ (x : Filesystem ℕ). x.number) is)))
    (λ later. files_have numbers ones others same.1 rest (λ x n. have x (inr n)) f later) m

-- a call of nobody, and a refused call
nobody : (fresh : Fresh ℕ) (world : World ℕ) (name : TaskName) (call : Call) → task_called world name ≡ None
    → (policy nat_eq fresh world name call).answer ≡ Err (denial S2)
nobody fresh world name call called = ap (λ found. (after world (ok_or found (denial S2)) (λ one.
    finished nat_eq world name call (filesystems_changed_by nat_eq world (judge_in nat_eq fresh world one call))
    (after world (judge_in nat_eq fresh world one call) (apply nat_eq fresh world one)))).answer) called

refused : (fresh : Fresh ℕ) (world : World ℕ) (name : TaskName) (call : Call) (task : Task ℕ) (deny : Deny)
    → task_called world name ≡ Some task → judge_in nat_eq fresh world task call ≡ Err deny → only_looks call ≡ false
    → (policy nat_eq fresh world name call).answer ≡ Err deny
refused fresh world name call task deny called judged changes =
    ap (λ found. (after world (ok_or found (denial S2)) (λ one.
    finished nat_eq world name call (filesystems_changed_by nat_eq world (judge_in nat_eq fresh world one call))
    (after world (judge_in nat_eq fresh world one call) (apply nat_eq fresh world one)))).answer) called
    ∙ ap (λ judged. (finished nat_eq world name call (filesystems_changed_by nat_eq world judged)
    (after world judged (apply nat_eq fresh world task))).answer) judged
    ∙ ap (λ b. (finished_unless nat_eq (b || true) world name [] (record { answer = Err deny; world = world })).answer)
    changes

module _ (one other : World ℕ) (same : SameDated one other) (is : IsWorld nat_eq one) (fresh : Fresh ℕ)
    (serves : Serves nat_eq one fresh) (name : TaskName) (call : Call) where
  abbrev alike : AreAlike (policy nat_eq fresh one name call) (policy nat_eq fresh other name call)
  alike = any_same_worlds_are_answered_alike one other same.same is fresh name call

  abbrev left : World ℕ
  left = (policy nat_eq fresh one name call).world

  abbrev again : World ℕ
  again = (policy nat_eq fresh other name call).world

  -- where both stay
  stays : left ≡ one → again ≡ other → SameDated left again
  stays e f = subst (λ w. SameDated w again) (sym e) (subst (λ w. SameDated one w) (sym f) same)

  abbrev dates : Dates
  dates = dates_of one

  has_one : HasDates dates one
  has_one = has_own one is

  has_other : HasDates dates other
  has_other = record {
    tasks = subst (λ tasks. All (λ (t : Task ℕ). t.change ≡ dates.tasks t.name) tasks) same.tasks has_one.tasks;
    namespaces = subst (λ list. All (λ (n : Namespace ℕ). n.change ≡ dates.namespaces n.number) list) same.namespaces
        has_one.namespaces;
    filesystems = all_from_among _ other.filesystems (files_have dates.filesystems one.filesystems other.filesystems
        same.same.filesystems same.filesystems (among_from_all _ one.filesystems has_one.filesystems));
  }

  module _ (task : Task ℕ) (called : task_called one name ≡ Some task) where
    called_again : task_called other name ≡ Some task
    called_again = ap (λ tasks. find (λ (t : Task ℕ). same_name name t.name) tasks) (sym same.tasks) ∙ called

    judged_again : judge_in nat_eq fresh one task call ≡ judge_in nat_eq fresh other task call
    judged_again = same_worlds_judge_alike one other same.same (worlds_have_one_name one is) fresh task call

    -- a granted change
    module _ (permit : Permit ℕ) (judged : judge_in nat_eq fresh one task call ≡ Ok permit)
        (changes : only_looks call ≡ false) where
      abbrev changed : List ℕ
      changed = filesystems_changed nat_eq one permit

      given : IsPermittedChange one fresh name call task permit
      given = record { called = called; judged = judged; changes = changes }

      given_again : IsPermittedChange other fresh name call task permit
      given_again = record { called = called_again; judged = sym judged_again ∙ judged; changes = changes }

      left_change : left.change ≡ raised one.change
      left_change = ap (λ (w : World ℕ). w.change) (policy_leaves one fresh name task permit call given)
          ∙ ap raised (applied_keeps fresh one task permit)

      again_change : again.change ≡ raised other.change
      again_change = ap (λ (w : World ℕ). w.change) (policy_leaves other fresh name task permit call given_again)
          ∙ ap raised (applied_keeps fresh other task permit)

      none : NewHaveNone fresh task dates
      none = new_have_none one fresh name task dates is serves called (own_living one)

      has_left : HasDates (dates_after dates one name changed left) left
      has_left = subst (λ w. HasDates (dates_after dates one name changed w) w)
          (sym (policy_leaves one fresh name task permit call given))
          (leaves_have one fresh name task permit dates called has_one none)

      abbrev changed_again : List ℕ
      changed_again = filesystems_changed nat_eq other permit

      has_again : HasDates (dates_after dates other name changed_again again) again
      has_again = subst (λ w. HasDates (dates_after dates other name changed_again w) w)
          (sym (policy_leaves other fresh name task permit call given_again))
          (leaves_have other fresh name task permit dates called_again has_other none)

      changed_same : changed ≡ changed_again
      changed_same = changes_alike one other (alike_from_same one other same.same) permit

      mounts_same : (number : ℕ) → same_mounts_in nat_eq one left number ≡ same_mounts_in nat_eq other again number
      mounts_same number = λ i. same_mounts_in nat_eq
          (record one { mounts = same.same.mounts i; master = same.same.master i })
          (record left { mounts = alike.worlds.mounts i; master = alike.worlds.master i }) number

      dates_same : dates_after dates one name changed left ≡ dates_after dates other name changed_again again
      dates_same = λ i. record {
        tasks = λ who. cond (same_name name who) (raised (dates.tasks who)) (dates.tasks who);
        namespaces = λ number. cond (mounts_same number i) (dates.namespaces number) (raised (dates.namespaces number));
        filesystems = λ number. cond (list_any (λ n. nat_eq n number) (changed_same i))
            (raised (dates.filesystems number)) (dates.filesystems number);
      }

      granted : SameDated left again
      granted = same_with_dates left again alike.worlds (dates_after dates other name changed_again again)
          (subst (λ numbers. HasDates numbers left) dates_same has_left) has_again
          (left_change ∙ ap raised same.change ∙ sym again_change)

  refused_stays : (deny : Deny) → (policy nat_eq fresh one name call).answer ≡ Err deny → SameDated left again
  refused_stays deny e = stays (denial_changes_nothing fresh one name call deny e)
      (denial_changes_nothing fresh other name call deny (sym alike.answer ∙ e))

  by_judgement : only_looks call ≡ false → (task : Task ℕ) → task_called one name ≡ Some task
      → (judgement : Judgement ℕ) → judge_in nat_eq fresh one task call ≡ judgement → SameDated left again
  by_judgement changes task called (Ok permit) judged = granted task called permit judged changes
  by_judgement changes task called (Err deny) judged =
      refused_stays deny (refused fresh one name call task deny called judged changes)

  by_task : only_looks call ≡ false → (found : Option (Task ℕ)) → task_called one name ≡ found → SameDated left again
  by_task changes None called = refused_stays (denial S2) (nobody fresh one name call called)
  by_task changes (Some task) called = by_judgement changes task called (judge_in nat_eq fresh one task call) refl

  by_looks : (looks : Bool) → only_looks call ≡ looks → SameDated left again
  by_looks true looks = stays (look_changes_nothing fresh one name call looks)
      (look_changes_nothing fresh other name call looks)
  by_looks false changes = by_task changes (task_called one name) refl

pub same_dated_worlds_are_answered_alike : SameDatedWorldsAreAnsweredAlike
same_dated_worlds_are_answered_alike one other same is fresh serves name call = record {
  answer = (alike one other same is fresh serves name call).answer;
  worlds = by_looks one other same is fresh serves name call (only_looks call) refl;
}

pub same_dated_worlds_are_directed_alike : SameDatedWorldsAreDirectedAlike
same_dated_worlds_are_directed_alike one other same directive = record {
  answer = (any_same_worlds_are_directed_alike one other same.same directive).answer;
  worlds = subst (λ w. SameDated w (directed nat_eq other directive).world)
      (sym (directive_changes_nothing one directive))
      (subst (λ w. SameDated one w) (sym (directive_changes_nothing other directive)) same);
}
