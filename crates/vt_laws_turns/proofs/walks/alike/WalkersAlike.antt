-- Words walked lead where they led, if what they meet is what it was.
use Rattle.std.proofs.Common.{◌≡◌, refl, sym, ap, subst, ◌∙◌, inl, ⊎_elim, ℕ, zero, suc, nat_eq, Bool, true, false, cond, true≢false, not, List, [], ◌∷◌, ◌++◌, ◌||◌, ◌⊎◌, Option, Some, None, Ok, Err, Result, flat_map, length, eqb-true, arith, IfOk, option_map, option_to_list, unwrap_or}
use Rattle.vt_spec.proofs.Common.{Among, Dot, DotDot, Here, IsWorld, LastWord, Location, Looks, Mount, Named, NoWord, Place, Rules, Stop, Task, World, all_met, among-append, among-append_left, among-from_map, and_parts, and_then, any_among, common_steps, contains_from_among, ends_in_slash, entered, entries_in, entry_location, entry_named, filesystems_of, follow_rules, is_absolute, is_empty_list, is_no_word, is_special, last_word, list_all, met_at, met_by, mount_numbered, none_is_some, object_named, path_text, placed, same_Some, search_rules, start_of, stepped, steps_at, stopped_by, symlink_of, symlink_start, symlink_text, symlink_there, then_some, then_walk, unless, walk_start, walk_unless, word_walked}
use Rattle.vt_laws_turns.proofs.Common.{Deny, IsOn, directory_found, entry_found, found_itself, is_directory_at, own_directory_found, root_found, topmost}
use Rattle.vt_laws_turns.specs.Walks.ByWords.{Aim, StandsOnDirectories, begun, last_for, pending_for, steps_of}
use Rattle.vt_laws_turns.specs.Walks.HalfWalks.{FirstWordsLeadAlike, StandsAsItStood, met_in, words_walked_in}
use Rattle.vt_laws_turns.specs.Walks.Walkers.{Last, Pending, Walk, all_words, arrived, ended, first_words, gone_on, has_no_word, last_of, last_step, one_word, opened, text_word, walked_on}
use Rattle.vt_laws_turns.specs.Walks.Walkers.Last.{AsFile, AsName, AsOthers, NotFollowed}
use Rattle.vt_laws_turns.specs.Walks.Walkers.Walk.{Goes, Names, Reaches}
use Rattle.vt_laws_turns.proofs.walks.alike.Seeing.{Sees, met_next, walked_on_sees, word_by_sees}
use Rattle.vt_laws_turns.proofs.walks.alike.StepsAlike.{EachKept, IsThere, Kept, Own, StandsAlike, directory_is, entry_is, kept_here, met_is, mount_same, node_is, one, other, over_each, over_same, reached_there, rules_by, search_is, shown_at, shown_same, stepped_is, topmost_same, word_is}
use Rattle.vt_laws_turns.proofs.walks.by_words.Counting.{HasItsWord, HasSteps, has_word, one_word_steps}
use Rattle.vt_laws_turns.proofs.walks.by_words.Depths.{then_same}
use Rattle.vt_laws_turns.proofs.walks.by_words.Whole.{begun_steps}

unless_at : {A B : Type 0} (steps : List (List ℕ)) (rules : Rules) (a : A) (f g : A → Result B (Stop ℕ)) → f a ≡ g a
    → then_walk (walk_unless steps rules a) f ≡ then_walk (walk_unless steps rules a) g
unless_at steps [] a f g same = same
unless_at steps ((true, rule) ∷ rules) a f g same = refl
unless_at steps ((false, rule) ∷ rules) a f g same = unless_at steps rules a f g same

then_if : {A B : Type 0} (P : A → Type 0) (a : Result A (Stop ℕ)) (f g : A → Result B (Stop ℕ)) → IfOk a P
    → ((x : A) → P x → f x ≡ g x) → then_walk a f ≡ then_walk a g
then_if P (Ok x) f g p same = same x p
then_if P (Err stop) f g p same = refl

module _ {world later : World ℕ} (isw : IsWorld nat_eq world) (isl : IsWorld nat_eq later) {task : Task ℕ}
    (stands : StandsAsItStood world later task) where
  abbrev worlds : StandsAlike world later task
  worlds = record { was = isw; now = isl; same = stands.mounts }

  abbrev before : Looks ℕ
  before = one worlds

  abbrev after : Looks ℕ
  after = other worlds

  abbrev There : Location ℕ → Type 0
  There = IsThere worlds

  abbrev Owned : ℕ → Type 0
  Owned = Own worlds

  abbrev KeptOne : ℕ → Type 0
  KeptOne = Kept worlds

  abbrev KeptAll : List ℕ → Type 0
  KeptAll = EachKept worlds

  abbrev shown : Location ℕ → ℕ
  shown = shown_at worlds

  mount_is : (number : ℕ) → Owned number → mount_numbered nat_eq later number ≡ mount_numbered nat_eq world number
  mount_is = mount_same worlds

  -- The task's root and working directory

  listed : (w : World ℕ) (is : IsWorld nat_eq w) (number : ℕ) → IsOn w is task number
      → (mount : Mount ℕ) × Among mount w.mounts × (mount.number ≡ number) × (mount_numbered nat_eq w number ≡ mount)
  listed w is number on = search (arith, common_steps, any_among, among-from_map, eqb-true, found_itself)

  own_of : (number : ℕ) → IsOn world isw task number → IsOn later isl task number
      → mount_numbered nat_eq later number ≡ mount_numbered nat_eq world number → Owned number
  own_of number was now same =
      let old = listed world isw number was in
      let new = listed later isl number now in (
        old.0,
        old.1,
        subst (λ x. Among x later.mounts) (sym new.3 ∙ same ∙ old.3) new.1,
        old.2,
        by old.0.namespace refl
            (subst (λ (x : Mount ℕ). list_all (nat_eq task.namespace) (option_to_list x.namespace) ≡ true) old.3 was.1),
      )
    where
      by : {n : Option ℕ} (o : Option ℕ) → n ≡ o → list_all (nat_eq task.namespace) (option_to_list n) ≡ true
          → (n ≡ Some task.namespace) ⊎ (n ≡ None)
      by o e h = grind (arith, common_steps, eqb-true, and_parts)

  -- there in both worlds, and a directory in both or in neither
  abbrev Standing : Location ℕ → Type 0
  Standing l = There l × (is_directory_at after l ≡ is_directory_at before l)

  root_standing : Standing task.root
  root_standing =
      let was = root_found world isw task stands.before in
      let now = root_found later isl task stands.after in (
        record {
          own = own_of task.root.mount was.0 now.0 stands.root;
          before = directory_found world isw task task.root was;
          after = directory_found later isl task task.root now;
        },
        now.1 ∙ sym was.1,
      )

  directory_standing : Standing task.directory
  directory_standing =
      let was = own_directory_found world isw task stands.before in
      let now = own_directory_found later isl task stands.after in (
        record {
          own = own_of task.directory.mount was.0 now.0 stands.directory;
          before = directory_found world isw task task.directory was;
          after = directory_found later isl task task.directory now;
        },
        now.1 ∙ sym was.1,
      )

  start_standing : (directory : Location ℕ) → Standing directory → (text : List ℕ)
      → Standing (start_of task directory text)
  start_standing directory is text = by (is_absolute text)
    where
      by : (b : Bool) → Standing (cond b task.root directory)
      by true = root_standing
      by false = is

  kept_standing : (l : Location ℕ) → There l → KeptOne (shown l) → Standing l
  kept_standing l there kept = (there, directory_is worlds l there kept)

  -- where a walk stands that goes on
  abbrev Fine : Result (Walk ℕ) (Stop ℕ) → Type 0
  Fine (Ok (Goes walker)) = There walker.here.location
  Fine (Ok (Reaches here)) = Unit {0}
  Fine (Ok (Names place)) = Unit {0}
  Fine (Err stop) = Unit {0}

  fine_if : {A : Type 0} (P : A → Type 0) (a : Result A (Stop ℕ)) (f : A → Result (Walk ℕ) (Stop ℕ)) → IfOk a P
      → ((x : A) → P x → Fine (f x)) → Fine (then_walk a f)
  fine_if P (Ok x) f p fine = fine x p
  fine_if P (Err stop) f p fine = tt

  fine_unless : (steps : List (List ℕ)) (rules : Rules) (here : Here ℕ) (f : Here ℕ → Result (Walk ℕ) (Stop ℕ))
      → Fine (f here) → Fine (then_walk (walk_unless steps rules here) f)
  fine_unless steps [] here f fine = fine
  fine_unless steps ((true, rule) ∷ rules) here f fine = tt
  fine_unless steps ((false, rule) ∷ rules) here f fine = fine_unless steps rules here f fine

  ok_named : (a : Result (Place ℕ) (Stop ℕ)) (f : Place ℕ → Place ℕ)
      → Fine (then_walk a (λ place. Ok (Names (f place))))
  ok_named (Ok place) f = tt
  ok_named (Err stop) f = tt

  -- Texts that end

  end_is : (here : Here ℕ) (last : Last) → There here.location → (b : Bool) → has_no_word last ≡ b
      → cond b (ended nat_eq after task here last) (Ok (Goes (record { here = here; pending = []; last = last })))
      ≡ cond b (ended nat_eq before task here last) (Ok (Goes (record { here = here; pending = []; last = last })))
  end_is here last there false e = refl
  end_is here AsOthers there true e = refl
  end_is here (NotFollowed word) there true e = refl
  end_is here (AsName NoWord slash) there true e = refl
  end_is here (AsFile NoWord slash) there true e = ap (λ l. Ok (Names (record {
    parent = here.location;
    last = NoWord;
    object = Some l;
    slash = false;
    steps = all_met [] here.steps;
  }))) (topmost_same worlds here.location there.own)
  end_is here last there true e = cc

  end_fine : (here : Here ℕ) (last : Last) → There here.location → (b : Bool)
      → Fine (cond b (ended nat_eq before task here last)
      (Ok (Goes (record { here = here; pending = []; last = last }))))
  end_fine here last there b = grind (arith, common_steps, ok_named)

  gone_on_is : (pending : List Pending) (here : Here ℕ) (last : Last) → Standing here.location
      → (gone_on nat_eq after task here pending last ≡ gone_on nat_eq before task here pending last)
      × Fine (gone_on nat_eq before task here pending last)
  gone_on_is [] here last is = grind (arith, common_steps, end_is, end_fine)
  gone_on_is (text ∷ others) here last is =
      grind (arith, common_steps, unless_at, fine_unless, gone_on_is others here last is)

  -- a symlink's text
  start_is : (directory : Location ℕ) (symlink : Here ℕ) (text : List ℕ)
      → symlink_start nat_eq after task directory symlink text ≡ symlink_start nat_eq before task directory symlink text
  start_is directory symlink text = grind (arith, common_steps)

  follow_is : (symlink : Here ℕ) (text : List ℕ) → Owned symlink.location.mount
      → follow_rules nat_eq after symlink text ≡ follow_rules nat_eq before symlink text
  follow_is symlink text own = grind (arith, common_steps, mount_is)

  followed_is : (directory : Location ℕ) → Standing directory → (symlink : Here ℕ) → Owned symlink.location.mount
      → (text : List ℕ) (pending : List Pending) (last : Last)
      → (then_walk (walk_unless symlink.steps (follow_rules nat_eq after symlink text)
      (symlink_start nat_eq after task directory symlink text)) (λ start. gone_on nat_eq after task start pending last)
      ≡ then_walk (walk_unless symlink.steps (follow_rules nat_eq before symlink text)
      (symlink_start nat_eq before task directory symlink text))
      (λ start. gone_on nat_eq before task start pending last))
      × Fine (then_walk (walk_unless symlink.steps (follow_rules nat_eq before symlink text)
      (symlink_start nat_eq before task directory symlink text))
      (λ start. gone_on nat_eq before task start pending last))
  followed_is directory is symlink own text pending last =
      let start : Here ℕ = symlink_start nat_eq before task directory symlink text in
      let rest = gone_on_is pending start last (start_standing directory is text) in (
        cc (
          follow_is symlink text own,
          start_is directory symlink text,
          unless_at symlink.steps (follow_rules nat_eq before symlink text) start
              (λ begin. gone_on nat_eq after task begin pending last)
              (λ begin. gone_on nat_eq before task begin pending last) rest.0,
        ),
        fine_unless symlink.steps (follow_rules nat_eq before symlink text) start
            (λ begin. gone_on nat_eq before task begin pending last) rest.1,
      )

  arrived_is : (directory : Location ℕ) → Standing directory → (next : Here ℕ) → Standing next.location
      → (pending : List Pending) (last : Last) (text : Option (List ℕ))
      → (arrived nat_eq after task directory next pending last text
      ≡ arrived nat_eq before task directory next pending last text)
      × Fine (arrived nat_eq before task directory next pending last text)
  arrived_is directory is next there pending last None = gone_on_is pending next last there
  arrived_is directory is next there pending last (Some text) =
      followed_is directory is next there.0.own text (all_words text ∷ pending) last

  text_word_is : (here : Here ℕ) → There here.location → (word : List ℕ) (list : List (List ℕ)) (slash : Bool)
      (others : List Pending) (last : Last) → KeptAll (met_by nat_eq before task here.location (last_word word))
      → (text_word nat_eq after task here (word ∷ list) slash others last
      ≡ text_word nat_eq before task here (word ∷ list) slash others last)
      × Fine (text_word nat_eq before task here (word ∷ list) slash others last)
  text_word_is here there word list slash others last kept =
      let step = word_is worlds here (last_word word) there kept in
      let directory = kept_standing here.location there (kept_here worlds here.location (last_word word) kept) in (
        ap (λ r. then_walk r (λ next. arrived nat_eq after task here.location next
            (record { words = list; slash = slash } ∷ others) last (symlink_text (after.node next.location)))) step.0
            ∙ then_if (λ (next : Here ℕ). There next.location × KeptOne (shown next.location))
            (word_walked nat_eq before task here (last_word word)) (λ next. arrived nat_eq after task here.location next
            (record { words = list; slash = slash } ∷ others) last (symlink_text (after.node next.location)))
            (λ next. arrived nat_eq before task here.location next
            (record { words = list; slash = slash } ∷ others) last (symlink_text (before.node next.location))) step.1
            (λ next fine.
            ap (λ n. arrived nat_eq after task here.location next (record { words = list; slash = slash } ∷ others) last
            (symlink_text n)) (node_is worlds next.location fine.0 fine.1)
            ∙ (arrived_is here.location directory next (kept_standing next.location fine.0 fine.1)
            (record { words = list; slash = slash } ∷ others) last (symlink_text (before.node next.location))).0),
        fine_if (λ (next : Here ℕ). There next.location × KeptOne (shown next.location))
            (word_walked nat_eq before task here (last_word word))
            (λ next. arrived nat_eq before task here.location next
            (record { words = list; slash = slash } ∷ others) last (symlink_text (before.node next.location))) step.1
            (λ next fine. (arrived_is here.location directory next (kept_standing next.location fine.0 fine.1)
            (record { words = list; slash = slash } ∷ others) last (symlink_text (before.node next.location))).1),
      )

  -- Parent walks

  -- the object at a place is there in both worlds
  abbrev ObjectFine : Option (Location ℕ) → Type 0
  ObjectFine object = (l : Location ℕ) → object ≡ Some l → There l × KeptOne (shown l)

  abbrev PlaceFine : Place ℕ → Type 0
  PlaceFine place = Owned place.parent.mount × ObjectFine place.object

  some_fine : (l : Location ℕ) → There l × KeptOne (shown l) → ObjectFine (Some l)
  some_fine l fine k e = subst (λ x. There x × KeptOne (shown x)) (same_Some l k e) fine

  entry_fine : (here : Location ℕ) → There here → KeptOne (shown here) → is_directory_at before here ≡ true
      → (name : List ℕ) → ObjectFine (entry_location nat_eq before here name)
  entry_fine here there kept directory name l e = by (entry_named name (entries_in (before.node here))) e
    where
      by : (o : Option ℕ) → option_map (λ object. record { mount = here.mount; node = object }) o ≡ Some l
          → There l × KeptOne (shown l)
      by None f = none_is_some l f
      by (Some object) f =
          let there_is : Location ℕ = record { mount = here.mount; node = object } in
          let same : there_is ≡ l = same_Some there_is l f in (
            record {
              own = subst (λ (x : Location ℕ). Owned x.mount) same there.own;
              before = entry_found world isw task here name l (there.before.0, directory) e;
              after = entry_found later isl task here name l
                  (there.after.0, directory_is worlds here there kept ∙ directory)
                  (entry_is worlds here name there kept ∙ e);
            },
            subst (λ (x : Location ℕ). KeptOne (shown x)) same kept,
          )

  object_is : (here : Location ℕ) (word : LastWord) → There here → is_directory_at before here ≡ true
      → KeptAll (met_at nat_eq before task here word)
      → (object_named nat_eq after task here word ≡ object_named nat_eq before task here word)
      × IfOk (object_named nat_eq before task here word) ObjectFine
  object_is here NoWord there directory kept = (refl, some_fine here (there, kept (shown here) (inl refl)))
  object_is here Dot there directory kept = (refl, some_fine here (there, kept (shown here) (inl refl)))
  object_is here (Named name) there directory kept = (
    ap Ok (entry_is worlds here name there (kept (shown here) (inl refl))),
    entry_fine here there (kept (shown here) (inl refl)) directory name,
  )
  object_is here DotDot there directory kept = (
    ap (λ r. and_then r (λ parent. Ok (Some parent))) (stepped_is worlds here DotDot there directory kept).0,
    by (stepped nat_eq before task here DotDot) (reached_there worlds here DotDot there directory kept),
  )
    where
      by : (r : Result (Location ℕ) Deny) → ((l : Location ℕ) → r ≡ Ok l → There l × KeptOne (shown l))
          → IfOk (and_then r (λ parent. Ok (Some parent))) ObjectFine
      by (Ok l) fine = some_fine l (fine l refl)
      by (Err deny) fine = tt

  abbrev placed_to : Here ℕ → LastWord → Bool → List (List ℕ) → Rules → Result (Option (Location ℕ)) Deny
      → Result (Place ℕ) (Stop ℕ)
  placed_to here word slash steps rules found = stopped_by steps (and_then (unless rules found) (λ object. Ok (record {
    parent = here.location;
    last = word;
    object = object;
    slash = slash;
    steps = steps;
  })))

  placed_fine : (here : Here ℕ) (word : LastWord) (slash : Bool) (steps : List (List ℕ)) → Owned here.location.mount
      → (rules : Rules) (found : Result (Option (Location ℕ)) Deny) → IfOk found ObjectFine
      → IfOk (placed_to here word slash steps rules found) PlaceFine
  placed_fine here word slash steps own [] (Ok object) fine = (own, fine)
  placed_fine here word slash steps own [] (Err deny) fine = tt
  placed_fine here word slash steps own ((true, rule) ∷ rules) found fine = tt
  placed_fine here word slash steps own ((false, rule) ∷ rules) found fine =
      placed_fine here word slash steps own rules found fine

  -- a word that names something, where its directory and what the word meets are what they were
  named_is : (here : Here ℕ) (word : LastWord) (slash : Bool) → There here.location
      → KeptOne (shown here.location) → KeptAll (met_at nat_eq before task here.location word)
      → met_at nat_eq after task here.location word ≡ met_at nat_eq before task here.location word
      → (placed_to here word slash (steps_at nat_eq after task here word) (search_rules nat_eq after task here.location)
      (object_named nat_eq after task here.location word)
      ≡ placed_to here word slash (steps_at nat_eq before task here word)
      (search_rules nat_eq before task here.location) (object_named nat_eq before task here.location word))
      × IfOk (placed_to here word slash (steps_at nat_eq before task here word)
      (search_rules nat_eq before task here.location) (object_named nat_eq before task here.location word)) PlaceFine
  named_is here word slash there kept met same = (
    cc (
      same,
      search_is worlds here.location there kept,
      found_same (is_directory_at before here.location) refl,
    ),
    found_fine (is_directory_at before here.location) refl,
  )
    where
      steps : List (List ℕ)
      steps = steps_at nat_eq before task here word

      rules_of : Bool → Rules
      rules_of = rules_by worlds here.location

      found_same : (b : Bool) → is_directory_at before here.location ≡ b
          → placed_to here word slash steps (search_rules nat_eq before task here.location)
          (object_named nat_eq after task here.location word)
          ≡ placed_to here word slash steps (search_rules nat_eq before task here.location)
          (object_named nat_eq before task here.location word)
      found_same true e = ap (placed_to here word slash steps (search_rules nat_eq before task here.location))
          (object_is here.location word there e met).0
      found_same false e = cc (e)

      found_fine : (b : Bool) → is_directory_at before here.location ≡ b
          → IfOk (placed_to here word slash steps (search_rules nat_eq before task here.location)
          (object_named nat_eq before task here.location word)) PlaceFine
      found_fine true e = placed_fine here word slash steps there.own (search_rules nat_eq before task here.location)
          (object_named nat_eq before task here.location word) (object_is here.location word there e met).1
      found_fine false e = subst (λ d. IfOk (placed_to here word slash steps (rules_of d)
          (object_named nat_eq before task here.location word)) PlaceFine) (sym e) tt

  placed_is : (here : Here ℕ) (word : LastWord) (slash : Bool) → There here.location → is_no_word word ≡ false
      → KeptAll (met_at nat_eq before task here.location word)
      → (placed nat_eq after task here word slash ≡ placed nat_eq before task here word slash)
      × IfOk (placed nat_eq before task here word slash) PlaceFine
  placed_is here NoWord slash there some kept = absurd (true≢false some)
  placed_is here Dot slash there some kept = named_is here Dot slash there (kept (shown here.location) (inl refl)) kept
      (met_is worlds here.location Dot there kept)
  placed_is here DotDot slash there some kept = named_is here DotDot slash there
      (kept_here worlds here.location DotDot kept) kept (met_is worlds here.location DotDot there kept)
  placed_is here (Named name) slash there some kept = named_is here (Named name) slash there
      (kept (shown here.location) (inl refl)) kept (shown_same worlds (here.location ∷ [])
      (λ l m. ⊎_elim (λ e. subst (λ (x : Location ℕ). Owned x.mount) (sym e) there.own) (λ none. absurd none) m))

  entered_is : (place : Place ℕ) → ObjectFine place.object → entered nat_eq after place ≡ entered nat_eq before place
  entered_is place fine = by (is_special place.last) place.object fine
    where
      made : Looks ℕ → Bool → Option (Location ℕ) → Place ℕ
      made looks special object = record place {
        object = option_map (topmost looks) object;
        steps = all_met (filesystems_of nat_eq looks
            (cond special [] (flat_map looks.mounts_over (option_to_list object)))) place.steps;
      }

      by : (special : Bool) (object : Option (Location ℕ)) → ObjectFine object
          → made after special object ≡ made before special object
      by true None fine = refl
      by false None fine = refl
      by true (Some l) fine = ap (λ x. record place { object = Some x; steps = all_met [] place.steps })
          (topmost_same worlds l (fine l refl).0.own)
      by false (Some l) fine =
          let own = (fine l refl).0.own in
          ap (λ x. record place {
            object = Some x;
            steps = all_met (filesystems_of nat_eq after (after.mounts_over l ++ [])) place.steps;
          }) (topmost_same worlds l own) ∙ ap (λ met. record place {
            object = Some
                (topmost before l);
            steps = all_met met place.steps;
          }) (ap (λ list. filesystems_of nat_eq after (list ++ []))
          (over_same worlds l own) ∙ shown_same worlds (before.mounts_over l ++ []) (λ x m. ⊎_elim
          (λ n. over_each worlds l own x n) (λ none. absurd none) (among-append (before.mounts_over l) [] x m)))

  opened_is : (here : Here ℕ) → Standing here.location → (place : Place ℕ) → PlaceFine place → (slash : Bool)
      (text : Option (List ℕ))
      → (opened nat_eq after task here place slash text ≡ opened nat_eq before task here place slash text)
      × Fine (opened nat_eq before task here place slash text)
  opened_is here is place fine slash None = (ap (λ p. Ok (Names p)) (entered_is place fine.1), tt)
  opened_is here is place fine slash (Some text) =
      followed_is here.location is (symlink_of here place) (by place.object fine.1) text (first_words text ∷ [])
      (AsFile (last_of text) (slash || ends_in_slash text))
    where
      by : (object : Option (Location ℕ)) → ObjectFine object → Owned (unwrap_or object place.parent).mount
      by None f = fine.0
      by (Some l) f = (f l refl).0.own

  symlink_is : (place : Place ℕ) → PlaceFine place → symlink_there nat_eq after place
      ≡ symlink_there nat_eq before place
  symlink_is place fine = by place.object fine.1
    where
      by : (object : Option (Location ℕ)) → ObjectFine object
          → then_some object (λ l. symlink_text (after.node l)) ≡ then_some object (λ l. symlink_text (before.node l))
      by None f = refl
      by (Some l) f =
          let its = f l refl in ap symlink_text (node_is worlds l its.0 its.1)

  file_is : (here : Here ℕ) (word : LastWord) (slash : Bool) → There here.location → is_no_word word ≡ false
      → KeptAll (met_at nat_eq before task here.location word) → KeptOne (shown here.location)
      → (last_step nat_eq after task here (AsFile word slash) ≡ last_step nat_eq before task here (AsFile word slash))
      × Fine (last_step nat_eq before task here (AsFile word slash))
  file_is here word slash there some kept its =
      let step = placed_is here word slash there some kept in
      let is = kept_standing here.location there its in (
        ap (λ r. then_walk r (λ place.
            opened nat_eq after task here place slash (symlink_there nat_eq after place))) step.0
            ∙ then_if PlaceFine (placed nat_eq before task here word slash)
            (λ place. opened nat_eq after task here place slash (symlink_there nat_eq after place))
            (λ place. opened nat_eq before task here place slash (symlink_there nat_eq before place)) step.1
            (λ place fine. ap (opened nat_eq after task here place slash) (symlink_is place fine)
            ∙ (opened_is here is place fine slash (symlink_there nat_eq before place)).0),
        fine_if PlaceFine (placed nat_eq before task here word slash)
            (λ place. opened nat_eq before task here place slash (symlink_there nat_eq before place)) step.1
            (λ place fine. (opened_is here is place fine slash (symlink_there nat_eq before place)).1),
      )

  reached_is : (here : Here ℕ) (word : LastWord) → There here.location
      → KeptAll (met_by nat_eq before task here.location word)
      → (then_walk (word_walked nat_eq after task here word) (λ next. Ok (Reaches next))
      ≡ then_walk (word_walked nat_eq before task here word) (λ next. Ok (Reaches next)))
      × Fine (then_walk (word_walked nat_eq before task here word) (λ next. Ok (Reaches next)))
  reached_is here word there kept =
      let step = word_is worlds here word there kept in (
        ap (λ r. then_walk r (λ next. Ok (Reaches next))) step.0,
        fine_if (λ (next : Here ℕ). There next.location × KeptOne (shown next.location))
            (word_walked nat_eq before task here word) (λ next. Ok (Reaches next)) step.1 (λ next fine. tt),
      )

  name_is : (here : Here ℕ) (word : LastWord) (slash : Bool) → There here.location → is_no_word word ≡ false
      → KeptAll (met_at nat_eq before task here.location word)
      → (last_step nat_eq after task here (AsName word slash) ≡ last_step nat_eq before task here (AsName word slash))
      × Fine (last_step nat_eq before task here (AsName word slash))
  name_is here word slash there some kept = grind (arith, common_steps, placed_is, ok_named)

  last_is : (here : Here ℕ) (last : Last) → There here.location → HasItsWord last
      → KeptAll (met_next before task here.location [] last)
      → (last_step nat_eq after task here last ≡ last_step nat_eq before task here last)
      × Fine (last_step nat_eq before task here last)
  last_is here AsOthers there has kept = (refl, tt)
  last_is here (NotFollowed NoWord) there has kept = (refl, tt)
  last_is here (NotFollowed Dot) there has kept = reached_is here Dot there kept
  last_is here (NotFollowed DotDot) there has kept = reached_is here DotDot there kept
  last_is here (NotFollowed (Named name)) there has kept = reached_is here (Named name) there kept
  last_is here (AsName NoWord slash) there has kept = (refl, tt)
  last_is here (AsName Dot slash) there has kept = name_is here Dot slash there refl kept
  last_is here (AsName DotDot slash) there has kept = name_is here DotDot slash there refl kept
  last_is here (AsName (Named name) slash) there has kept = name_is here (Named name) slash there refl kept
  last_is here (AsFile NoWord slash) there has kept = absurd (true≢false has)
  last_is here (AsFile Dot slash) there has kept =
      file_is here Dot slash there refl kept (kept (shown here.location) (inl refl))
  last_is here (AsFile DotDot slash) there has kept = file_is here DotDot slash there refl kept
      (kept_here worlds here.location DotDot kept)
  last_is here (AsFile (Named name) slash) there has kept =
      file_is here (Named name) slash there refl kept (kept (shown here.location) (inl refl))

  -- One word, and several

  one_word_is : (here : Here ℕ) (pending : List Pending) (last : Last) → There here.location → HasItsWord last
      → has_word pending last ≡ true → KeptAll (met_next before task here.location pending last)
      → (one_word nat_eq after task (record { here = here; pending = pending; last = last })
      ≡ one_word nat_eq before task (record { here = here; pending = pending; last = last }))
      × Fine (one_word nat_eq before task (record { here = here; pending = pending; last = last }))
  one_word_is here [] last there has some kept = last_is here last there has kept
  one_word_is here (text ∷ others) last there has some kept = by text.words some kept
    where
      by : (list : List (List ℕ)) → not (is_empty_list list) ≡ true
          → KeptAll (met_next before task here.location (record { words = list; slash = text.slash } ∷ others) last)
          → (text_word nat_eq after task here list text.slash others last
          ≡ text_word nat_eq before task here list text.slash others last)
          × Fine (text_word nat_eq before task here list text.slash others last)
      by [] none k = cc
      by (word ∷ list) more k = text_word_is here there word list text.slash others last k

  -- all filesystems that a walk met are what they were
  abbrev AllKept : Result (Walk ℕ) (Stop ℕ) → Type 0
  AllKept walk = KeptAll (flat_map (λ met. met) (steps_of walk))

  sees_on : (count f : ℕ) (a : Result (Walk ℕ) (Stop ℕ)) → Sees f a
      → Sees f (then_walk a (walked_on nat_eq count before task))
  sees_on count f (Ok walk) sees = walked_on_sees f before task count walk sees
  sees_on count f (Err stop) sees = sees

  walked_is : (count n : ℕ) (walk : Walk ℕ) → HasSteps n (Ok walk) → Fine (Ok walk)
      → AllKept (walked_on nat_eq count before task walk)
      → walked_on nat_eq count after task walk ≡ walked_on nat_eq count before task walk
  walked_is zero n walk has fine kept = refl
  walked_is (suc count) n (Goes walker) has fine kept = ap (λ r. then_walk r (walked_on nat_eq count after task)) next.0
      ∙ by (one_word nat_eq before task walker) next.1 (one_word_steps before task walker has.0) kept
      (walked_is count (suc (length walker.here.steps)))
    where
      next : (one_word nat_eq after task walker ≡ one_word nat_eq before task walker)
          × Fine (one_word nat_eq before task walker)
      next = one_word_is walker.here walker.pending walker.last fine has.0.last has.0.word
          (λ f m. kept f (sees_on count f (one_word nat_eq before task walker)
          (word_by_sees f before task walker.here walker.pending walker.last
          (among-append_left (met_next before task walker.here.location walker.pending walker.last)
          (flat_map (λ met. met) walker.here.steps) f m))))

      by : (a : Result (Walk ℕ) (Stop ℕ)) → Fine a → HasSteps (suc (length walker.here.steps)) a
          → AllKept (then_walk a (walked_on nat_eq count before task))
          → ((walk : Walk ℕ) → HasSteps (suc (length walker.here.steps)) (Ok walk) → Fine (Ok walk)
          → AllKept (walked_on nat_eq count before task walk)
          → walked_on nat_eq count after task walk ≡ walked_on nat_eq count before task walk)
          → then_walk a (walked_on nat_eq count after task) ≡ then_walk a (walked_on nat_eq count before task)
      by (Ok walk) fine_next steps all later_is = later_is walk steps fine_next all
      by (Err stop) fine_next steps all later_is = refl
  walked_is (suc count) n (Reaches here) has fine kept = refl
  walked_is (suc count) n (Names place) has fine kept = refl

  any_ok : {A : Type 0} (a : Result A (Stop ℕ)) → IfOk a (λ x. Unit {0})
  any_ok (Ok x) = tt
  any_ok (Err stop) = tt

  begun_is : (aim : Aim) (path : List ℕ) → (begun nat_eq aim after task path ≡ begun nat_eq aim before task path)
      × Fine (begun nat_eq aim before task path)
  begun_is aim path = (
    then_same (path_text path) (from after) (from before) (λ text. (start_of_walk text).0),
    fine_if (λ text. Unit {0}) (path_text path) (from before) (any_ok (path_text path))
        (λ text any. (start_of_walk text).1),
  )
    where
      from : Looks ℕ → List ℕ → Result (Walk ℕ) (Stop ℕ)
      from looks text =
          gone_on nat_eq looks task (walk_start task text) (pending_for nat_eq aim text ∷ []) (last_for nat_eq aim text)

      start_of_walk : (text : List ℕ) → (from after text ≡ from before text) × Fine (from before text)
      start_of_walk text =
          gone_on_is (pending_for nat_eq aim text ∷ []) (walk_start task text) (last_for nat_eq aim text)
          (start_standing task.directory directory_standing text)

  on_directories : StandsOnDirectories before task
  on_directories = record {
    root = (root_found world isw task stands.before).1;
    directory = (own_directory_found world isw task stands.before).1;
  }

  pub words_lead_alike : (aim : Aim) (path : List ℕ) (count : ℕ)
      → AllKept (then_walk (begun nat_eq aim before task path) (walked_on nat_eq count before task))
      → then_walk (begun nat_eq aim after task path) (walked_on nat_eq count after task)
      ≡ then_walk (begun nat_eq aim before task path) (walked_on nat_eq count before task)
  words_lead_alike aim path count kept = ap (λ r. then_walk r (walked_on nat_eq count after task)) (begun_is aim path).0
      ∙ by (begun nat_eq aim before task path) (begun_is aim path).1 (begun_steps before task on_directories path aim)
      kept
    where
      by : (a : Result (Walk ℕ) (Stop ℕ)) → Fine a → HasSteps 0 a
          → AllKept (then_walk a (walked_on nat_eq count before task))
          → then_walk a (walked_on nat_eq count after task) ≡ then_walk a (walked_on nat_eq count before task)
      by (Ok walk) fine steps all = walked_is count 0 walk steps fine all
      by (Err stop) fine steps all = refl

pub first_words_lead_alike : FirstWordsLeadAlike
first_words_lead_alike world later task aim path count isw isl stands kept =
    words_lead_alike isw isl stands aim path count (λ f m.
    kept f (contains_from_among (met_in (words_walked_in count world task aim path)) f m))
