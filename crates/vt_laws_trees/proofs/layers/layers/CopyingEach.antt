-- Copies of a whole list, and of what a change asks for.
use Rattle.std.proofs.Common.{◌≡◌, ◌≢◌, ◌≤◌, ◌<◌, length, ◌⊎◌, inl, inr, refl, sym, ap, subst, ◌∙◌, true≢false, arith, ℕ, ◌+◌, nat_eq, eq-eqb, eqb-true, Bool, true, false, ◌||◌, List, [], ◌∷◌, Option, Some, None, is_some, ⊎_elim}
use Rattle.vt_spec.proofs.Common.{FileTree, Fresh, Merge, Node, Real, common_steps, copied_each, copied_up, copy_of, is_among, line_to, list_any-append, or_false_left, or_false_right, upper_object}
use Rattle.vt_laws_trees.proofs.layers.layers.CopyingSound.{IsSound, Soundly, State, soundly_copied}
use Rattle.vt_spec.proofs.Worlds.{stands_still}
use Rattle.vt_laws_trees.specs.Layers.Layers.ChangesUpper.{IsNewBy}

module _ (files : FileTree ℕ) (first : ℕ → Option (Real ℕ)) (spare : ℕ → Type 0) (fresh : Fresh ℕ)
    (distinct : (j k : ℕ) → fresh j ≡ fresh k → j ≡ k) (apart : (k : ℕ) → ¬ (spare (fresh k))) where
  abbrev At : (ℕ → Option (Real ℕ)) → FileTree ℕ → Merge ℕ
  At = State files first spare

  abbrev Sound : (ℕ → Option (Real ℕ)) → FileTree ℕ → Type 0
  Sound = IsSound files first spare

  pub record CopiesAll (k : ℕ) (before : ℕ → Option (Real ℕ)) (list : List ℕ) (merge : Merge ℕ) : Type 0 where
    pub soundly : Soundly files first spare before (IsNewBy fresh) merge
    pub all : (number : ℕ) → is_among nat_eq number list ≡ true → is_some (files.tree.node number) ≡ true
        → is_some (upper_object (soundly.real number)) ≡ true
    pub bound : (number seen : ℕ) → upper_object (soundly.real number) ≡ Some seen
        → (upper_object (before number) ≡ Some seen) ⊎ ((j : ℕ) × (j < k + length list) × (seen ≡ fresh j))
    pub others : (number : ℕ) → is_among nat_eq number list ≡ false → soundly.real number ≡ before number

  -- one more at the front
  one_more : (k : ℕ) (before real : ℕ → Option (Real ℕ)) (object : ℕ) (rest : List ℕ) (merge : Merge ℕ)
      → ((number seen : ℕ) → upper_object (before number) ≡ Some seen → upper_object (real number) ≡ Some seen)
      → ((number seen : ℕ) → upper_object (real number) ≡ Some seen
      → (upper_object (before number) ≡ Some seen) ⊎ (seen ≡ fresh k))
      → ((number : ℕ) → nat_eq number object ≡ false → real number ≡ before number)
      → (is_some (files.tree.node object) ≡ true → is_some (upper_object (real object)) ≡ true)
      → CopiesAll (k + 1) real rest merge → CopiesAll k before (object ∷ rest) merge
  one_more k before real object rest merge grows told apart_from stands copies = record {
    soundly = record {
      real = copies.soundly.real;
      upper = copies.soundly.upper;
      is = copies.soundly.is;
      sound = copies.soundly.sound;
      grows = λ number seen e. copies.soundly.grows number seen (grows number seen e);
      told = λ number seen e.
          ⊎_elim (λ t. ⊎_elim (λ old. inl old) (λ new. inr (k, new)) (told number seen t)) (λ t. inr t)
          (copies.soundly.told number seen e);
    };
    all = λ number among there. by number (nat_eq number object) refl among there;
    bound = λ number seen e. ⊎_elim
        (λ t. ⊎_elim (λ old. inl old) (λ new. inr (k, omega arith, new)) (told number seen t))
        (λ t. inr (t.0, (let h = t.1 in omega arith), t.2)) (copies.bound number seen e);
    others = λ number out. copies.others number (or_false_right _ _ out) ∙ apart_from number (or_false_left _ _ out);
  }
    where
      by : (number : ℕ) (b : Bool) → nat_eq number object ≡ b → (b || is_among nat_eq number rest) ≡ true
          → is_some (files.tree.node number) ≡ true → is_some (upper_object (copies.soundly.real number)) ≡ true
      by number true e among there = stands_still real copies.soundly.real copies.soundly.grows number
          (subst (λ n. is_some (upper_object (real n)) ≡ true) (sym (eqb-true number object e))
          (stands (ap (λ n. is_some (files.tree.node n)) (sym (eqb-true number object e)) ∙ there)))
      by number false e among there = copies.all number among there

  pub each_copied : (list : List ℕ) (k : ℕ) (real : ℕ → Option (Real ℕ)) (upper : FileTree ℕ) → Sound real upper
      → ((j number : ℕ) → k ≤ j → upper_object (real number) ≢ Some (fresh j))
      → CopiesAll k real list (copied_each nat_eq fresh k (At real upper) list)
  each_copied [] k real upper sound unused = record {
    soundly = record {
      real = real;
      upper = upper;
      is = refl;
      sound = sound;
      grows = λ number seen e. e;
      told = λ number seen e. inl e;
    };
    all = λ number among there. absurd (true≢false (sym among));
    bound = λ number seen e. inl e;
    others = λ number out. refl;
  }
  each_copied (object ∷ rest) k real upper sound unused = by _ refl _ refl (each_copied rest (k + 1))
    where
      same : is_some (files.tree.node object) ≡ false ⊎ is_some (upper_object (real object)) ≡ true
          → CopiesAll (k + 1) real rest (copied_each nat_eq fresh (k + 1) (At real upper) rest)
          → CopiesAll k real (object ∷ rest) (copied_each nat_eq fresh (k + 1) (At real upper) rest)
      same why copies =
          one_more k real real object rest _ (λ number seen e. e) (λ number seen e. inl e) (λ number out. refl)
          (λ there. ⊎_elim (λ missing. absurd (true≢false (sym there ∙ missing))) (λ h. h) why) copies

      copied : (node : Node ℕ) → files.tree.node object ≡ Some node → upper_object (real object) ≡ None
          → ((r : ℕ → Option (Real ℕ)) (u : FileTree ℕ) → Sound r u
          → ((j number : ℕ) → k + 1 ≤ j → upper_object (r number) ≢ Some (fresh j))
          → CopiesAll (k + 1) r rest (copied_each nat_eq fresh (k + 1) (At r u) rest))
          → CopiesAll k real (object ∷ rest)
          (copied_each nat_eq fresh (k + 1) (copy_of nat_eq (At real upper) object (fresh k) (Some node) false) rest)
      copied node e none later =
          let one = soundly_copied files first spare real upper sound object (fresh k)
          (λ number. unused k number (omega arith)) (apart k) node e none in
          let step = one.soundly in
          subst (λ m. CopiesAll k real (object ∷ rest) (copied_each nat_eq fresh (k + 1) m rest)) (sym step.is)
          (one_more k real step.real object rest _ step.grows step.told one.others (λ there. one.copied)
          (later step.real step.upper step.sound (λ j number h s. ⊎_elim (λ t. unused j number (omega arith) t)
          (λ t. let bad = distinct j k t in let no : ⊥ = omega arith in no) (step.told number (fresh j) s))))

      by : (o : Option (Node ℕ)) → files.tree.node object ≡ o → (p : Option ℕ) → upper_object (real object) ≡ p
          → ((r : ℕ → Option (Real ℕ)) (u : FileTree ℕ) → Sound r u
          → ((j number : ℕ) → k + 1 ≤ j → upper_object (r number) ≢ Some (fresh j))
          → CopiesAll (k + 1) r rest (copied_each nat_eq fresh (k + 1) (At r u) rest))
          → CopiesAll k real (object ∷ rest)
          (copied_each nat_eq fresh (k + 1) (copy_of nat_eq (At real upper) object (fresh k) o (is_some p)) rest)
      by None e p f later = same (inl (ap is_some e))
          (later real upper sound (λ j number h. unused j number (omega arith)))
      by (Some node) e (Some seen) f later =
          same (inr (ap is_some f)) (later real upper sound (λ j number h. unused j number (omega arith)))
      by (Some node) e None f later = copied node e f later

  -- an object is the last in the line to it
  pub last_in_line : (object : ℕ) → is_among nat_eq object (line_to nat_eq files object) ≡ true
  last_in_line object = grind (arith, common_steps, eq-eqb, list_any-append)

  pub line_copied : (object : ℕ) (real : ℕ → Option (Real ℕ)) (upper : FileTree ℕ) → Sound real upper
      → ((j number : ℕ) → upper_object (real number) ≢ Some (fresh j))
      → CopiesAll 0 real (line_to nat_eq files object) (copied_up nat_eq fresh (At real upper) object)
  line_copied object real upper sound unused = each_copied _ 0 real upper sound (λ j number h. unused j number)
