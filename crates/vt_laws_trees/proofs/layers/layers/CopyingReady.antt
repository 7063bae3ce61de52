-- What a change of an overlay finds when what it asks to be copied is copied.
use Rattle.std.proofs.Common.{arith, ◌≡◌, inl, inr, refl, sym, ap, subst, ◌∙◌, true≢false, ℕ, nat_eq, eq-eqb, Bool, true, false, List, [], ◌∷◌, ◌++◌, Option, Some, None, is_some, ⊎_elim}
use Rattle.vt_spec.proofs.Common.{FileTree, Fresh, Merge, Real, a_name, common_steps, copied_up, directories_to, entry_at, is_among, line_by, line_to, list_any, list_any-append, or_cases, or_left, upper_object}
use Rattle.vt_laws_trees.specs.Layers.Layers.ChangesUpper.{IsFitToChange, StandsNow, IsNewBy}
use Rattle.vt_laws_trees.proofs.layers.layers.CopyingEach.{line_copied}
use Rattle.vt_spec.proofs.Worlds.{stands_still}
use Rattle.vt_laws_trees.proofs.layers.layers.CopyingSound.{IsSound, Soundly, State}
use Rattle.vt_laws_trees.proofs.layers.layers.UpperLine.{named_so}
use Rattle.vt_laws_trees.proofs.layers.layers.UpperShown.{has_a_name}

-- a directory is in the line to itself, and so in the line to what it has a name of
pub in_its_line : (files : FileTree ℕ) (directory : ℕ)
    → is_among nat_eq directory (directories_to nat_eq files directory) ≡ true
in_its_line files directory = grind (arith, common_steps, list_any-append, eq-eqb)

pub parent_in_line : (files : FileTree ℕ) (object : ℕ) (name : ℕ × List ℕ) → a_name nat_eq files object ≡ Some name
    → is_among nat_eq name.0 (line_to nat_eq files object) ≡ true
parent_in_line files object name e = ap (λ o. is_among nat_eq name.0 (line_by nat_eq files object o)) e
    ∙ list_any-append (nat_eq name.0) (directories_to nat_eq files name.0) (object ∷ [])
    ∙ or_left (list_any (nat_eq name.0) (directories_to nat_eq files name.0)) _ (in_its_line files name.0)

module _ (fresh : Fresh ℕ) (before : Merge ℕ) (fit : IsFitToChange fresh before) where
  abbrev files : FileTree ℕ
  files = before.files

  -- numbers that the supply has
  abbrev Spares : (ℕ → Type 0) → Type 0
  Spares spare = (number : ℕ) → spare number → IsNewBy fresh number

  pub start : (spare : ℕ → Type 0) → Spares spare → IsSound files before.real spare before.real before.upper
  start spare new = grind (arith, common_steps)

  -- what is asked is copied, with some numbers spared
  pub record IsReady (spare : ℕ → Type 0) (list : List ℕ) (merge : Merge ℕ) : Type 0 where
    pub soundly : Soundly files before.real spare before.real (IsNewBy fresh) merge
    pub all : (number : ℕ) → is_among nat_eq number list ≡ true → is_some (files.tree.node number) ≡ true
        → is_some (upper_object (soundly.real number)) ≡ true

  pub one_line : (spare : ℕ → Type 0) → Spares spare → (supply : Fresh ℕ) → ((j k : ℕ) → supply j ≡ supply k → j ≡ k)
      → ((k : ℕ) → ¬ (spare (supply k))) → ((k : ℕ) → IsNewBy fresh (supply k))
      → (object : ℕ) → IsReady spare (line_to nat_eq files object) (copied_up nat_eq supply before object)
  one_line spare new supply distinct apart own object =
      let copies = line_copied files before.real spare supply distinct apart object before.real before.upper
      (start spare new) (λ j number e. let found = own j in fit.unused found.0 number (e ∙ ap Some found.1)) in
      record {
        soundly = record {
          real = copies.soundly.real;
          upper = copies.soundly.upper;
          is = copies.soundly.is;
          sound = copies.soundly.sound;
          grows = copies.soundly.grows;
          told = λ number seen e. ⊎_elim (λ t. inl t) (λ t. let found = own t.0 in inr (found.0, t.1 ∙ found.1))
              (copies.soundly.told number seen e);
        };
        all = copies.all;
      }

  pub next_line : (wide spare : ℕ → Type 0) → ((number : ℕ) → spare number → wide number)
      → (list : List ℕ) (merge : Merge ℕ) → IsReady wide list merge
      → (supply : Fresh ℕ) → ((j k : ℕ) → supply j ≡ supply k → j ≡ k) → ((k : ℕ) → ¬ (spare (supply k)))
      → ((k : ℕ) → wide (supply k)) → ((k : ℕ) → IsNewBy fresh (supply k))
      → (object : ℕ) → IsReady spare (list ++ line_to nat_eq files object) (copied_up nat_eq supply merge object)
  next_line wide spare narrower list merge ready supply distinct apart spared own object =
      let sound = ready.soundly.sound in
      let copies = line_copied files before.real spare supply distinct apart object ready.soundly.real _ (record {
        one = sound.one;
        kinds = sound.kinds;
        stands = sound.stands;
        spared = λ number seen e s. sound.spared number seen e (narrower seen s);
      }) (λ j number e. sound.spared number (supply j) e (spared j)) in
      subst (λ m. IsReady spare (list ++ line_to nat_eq files object) (copied_up nat_eq supply m object))
      (sym ready.soundly.is) (record {
        soundly = record {
          real = copies.soundly.real;
          upper = copies.soundly.upper;
          is = copies.soundly.is;
          sound = copies.soundly.sound;
          grows = λ number seen e. copies.soundly.grows number seen (ready.soundly.grows number seen e);
          told = λ number seen e.
              ⊎_elim (λ t. ready.soundly.told number seen t) (λ t. let found = own t.0 in inr (found.0, t.1 ∙ found.1))
              (copies.soundly.told number seen e);
        };
        all = λ number among there. ⊎_elim
            (λ t. stands_still ready.soundly.real copies.soundly.real copies.soundly.grows number
            (ready.all number t there)) (λ t. copies.all number t there) (or_cases (list_any (nat_eq number) list) _
            (sym (list_any-append (nat_eq number) list (line_to nat_eq files object)) ∙ among));
      })

  -- what is asked stands now
  pub stands_now : (spare : ℕ → Type 0) (list : List ℕ) (merge : Merge ℕ) → IsReady spare list merge → (number : ℕ)
      → is_among nat_eq number list ≡ true → is_some (files.tree.node number) ≡ true → StandsNow before merge number
  stands_now spare list merge ready number among there = subst (λ m. StandsNow before m number) (sym ready.soundly.is)
      (by (upper_object (ready.soundly.real number)) refl (ready.all number among there))
    where
      by : (o : Option ℕ) → upper_object (ready.soundly.real number) ≡ o → is_some o ≡ true
          → StandsNow before (State files before.real spare ready.soundly.real ready.soundly.upper) number
      by None e h = absurd (true≢false (sym h))
      by (Some object) e h = (object, e, ready.soundly.sound.stands number object e)

  -- the directory that an object leaves stands in the upper layer where the object does
  pub leaves_upper : (later : ℕ → Option (Real ℕ)) → ((number : ℕ) → is_some (upper_object (before.real number)) ≡ true
      → is_some (upper_object (later number)) ≡ true)
      → (from : ℕ) (old : List ℕ) (object : ℕ) → entry_at files.tree from old ≡ Some object
      → ((name : ℕ × List ℕ) → a_name nat_eq files object ≡ Some name → is_some (upper_object (later name.0)) ≡ true)
      → is_some (upper_object (later from)) ≡ true
  leaves_upper later grows from old object e parent = by (is_some (upper_object (before.real object))) refl
    where
      named : is_some (upper_object (before.real object)) ≡ false → (o : Option (ℕ × List ℕ))
          → a_name nat_eq files object ≡ o → is_some o ≡ true → is_some (upper_object (later from)) ≡ true
      named low None a h = absurd (true≢false (sym h))
      named low (Some name) a h = subst (λ n. is_some (upper_object (later n)) ≡ true)
          (fit.one_name name.0 from name.1 old object (named_so files fit.tree object name a) e low) (parent name a)

      by : (b : Bool) → is_some (upper_object (before.real object)) ≡ b → is_some (upper_object (later from)) ≡ true
      by true h = grows from (fit.above from old object e h)
      by false low = named low (a_name nat_eq files object) refl (has_a_name files fit.numbers from old object e)
