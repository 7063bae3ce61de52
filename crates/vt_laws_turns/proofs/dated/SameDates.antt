-- Worlds that are the same and have the same change numbers are the same with all their change numbers.
use Rattle.std.proofs.Common.{◌≡◌, refl, sym, ap, ◌∙◌, inl, inr, ℕ, List, [], ◌∷◌, map}
use Rattle.vt_spec.proofs.Common.{Among, Filesystem, Namespace, SameFilesystems, SameWorlds, Task, World, all_from_among, among-from_map, among_from_all}
use Rattle.vt_laws_rules.proofs.judged.NumbersRaised.{bare_namespace, bare_task}
use Rattle.vt_laws_turns.specs.Dated.{Dates, HasDates, SameDated, dated}

-- two lists, without their change numbers one, of which each element has the change number that its name has
module _ {A B : Type 0} (bare : A → A) (change_of : A → ℕ) (name_of : A → B) (numbers : B → ℕ)
    (whole : (a b : A) → bare a ≡ bare b → change_of a ≡ change_of b → a ≡ b)
    (named : (a b : A) → bare a ≡ bare b → name_of a ≡ name_of b) where
  abbrev pub Have : List A → Type 0
  Have list = (a : A) → Among a list → change_of a ≡ numbers (name_of a)

  pub lists_same : (ones others : List A) → map bare ones ≡ map bare others → Have ones → Have others → ones ≡ others
  lists_same [] [] e one other = refl
  lists_same [] (b ∷ others) e one other = absurd cc
  lists_same (a ∷ ones) [] e one other = absurd cc
  lists_same (a ∷ ones) (b ∷ others) e one other =
      let first : bare a ≡ bare b = cc in
      let rest : map bare ones ≡ map bare others = cc in
      let change : change_of a ≡ change_of b =
      one a (inl refl) ∙ ap numbers (named a b first) ∙ sym (other b (inl refl)) in
      λ i. whole a b first change i
      ∷ lists_same ones others rest (λ x m. one x (inr m)) (λ x m. other x (inr m)) i

tasks_whole : (a b : Task ℕ) → bare_task a ≡ bare_task b → a.change ≡ b.change → a ≡ b
tasks_whole a b bare change = λ i. record (bare i) { change = change i }

namespaces_whole : (a b : Namespace ℕ) → bare_namespace a ≡ bare_namespace b → a.change ≡ b.change → a ≡ b
namespaces_whole a b bare change = λ i. record (bare i) { change = change i }

-- the change numbers of filesystems of the same numbers
changes_same : (numbers : ℕ → ℕ) (ones others : List (Filesystem ℕ)) → SameFilesystems ones others
    → ((f : Filesystem ℕ) → Among f ones → f.change ≡ numbers f.number)
    → ((f : Filesystem ℕ) → Among f others → f.change ≡ numbers f.number)
    → map (λ (f : Filesystem ℕ). f.change) ones ≡ map (λ (f : Filesystem ℕ). f.change) others
changes_same numbers [] [] same one other = refl
changes_same numbers [] (b ∷ others) same one other = absurd same
changes_same numbers (a ∷ ones) [] same one other = absurd same
changes_same numbers (a ∷ ones) (b ∷ others) same one other = λ i.
    (one a (inl refl) ∙ ap numbers same.0.number ∙ sym (other b (inl refl))) i
    ∷ changes_same numbers ones others same.1 (λ f m. one f (inr m)) (λ f m. other f (inr m)) i

pub same_with_dates : (one other : World ℕ) → SameWorlds one other → (dates : Dates) → HasDates dates one
    → HasDates dates other → one.change ≡ other.change → SameDated one other
same_with_dates one other same dates has has_other change = record {
  same = same;
  tasks = lists_same bare_task (λ t. t.change) (λ t. t.name) dates.tasks tasks_whole
      (λ a b bare. ap (λ (t : Task ℕ). t.name) bare) one.tasks other.tasks same.tasks
      (among_from_all _ one.tasks has.tasks) (among_from_all _ other.tasks has_other.tasks);
  namespaces = lists_same bare_namespace (λ n. n.change) (λ n. n.number) dates.namespaces namespaces_whole
      (λ a b bare. ap (λ (n : Namespace ℕ). n.number) bare) one.namespaces other.namespaces same.namespaces
      (among_from_all _ one.namespaces has.namespaces) (among_from_all _ other.namespaces has_other.namespaces);
  filesystems = changes_same dates.filesystems one.filesystems other.filesystems same.filesystems
      (among_from_all _ one.filesystems has.filesystems) (among_from_all _ other.filesystems has_other.filesystems);
  change = change;
}

-- what is given change numbers has them
pub dated_has : (dates : Dates) (world : World ℕ) → HasDates dates (dated dates world)
dated_has dates world = record {
  tasks = all_from_among _ (dated dates world).tasks (λ t m.
      let from = among-from_map _ world.tasks t m in
      ap (λ (x : Task ℕ). x.change) from.2 ∙ ap (λ (x : Task ℕ). dates.tasks x.name) (sym from.2));
  namespaces = all_from_among _ (dated dates world).namespaces (λ n m.
      let from = among-from_map _ world.namespaces n m in
      ap (λ (x : Namespace ℕ). x.change) from.2 ∙ ap (λ (x : Namespace ℕ). dates.namespaces x.number) (sym from.2));
  filesystems = all_from_among _ (dated dates world).filesystems (λ f m.
      let from = among-from_map _ world.filesystems f m in
      ap (λ (x : Filesystem ℕ). x.change) from.2 ∙ ap (λ (x : Filesystem ℕ). dates.filesystems x.number) (sym from.2));
}
