-- Directories of a tree that are not lost are not lost where the names that lead to them stay.
use Rattle.std.proofs.Common.{◌≡◌, refl, sym, ap, subst, ◌∙◌, ⊎_elim, ℕ, zero, suc, nat_eq, eqb-true, eq-eqb, Bool, true, false, not, ◌||◌, List, [], ◌∷◌, ◌++◌, length, Option, Some, None, is_some, arith}
use Rattle.vt_spec.proofs.Common.{FileTree, IsDirectory, IsReached, IsTree, Tree, chain, directory_from_entry, directory_used, entry_at, found, is_among, is_directory_under, is_removed, led, led-append, named_parent, none_is_not, reached_named, same_Some, common_steps}
use Rattle.vt_laws_later_calls.proofs.Common.{IsFileTree, led_directory, not_removed_reached, parent_named, parent_reached, under_seen}

-- The names that lead to a directory from what lies above it
module _ (tree : Tree ℕ) (conditions : IsTree tree) where
  by_parent : (d : ℕ) → IsDirectory tree d → IsReached tree d → (p : ℕ) → named_parent nat_eq tree d ≡ Some p
      → (name : List ℕ) × (entry_at tree p name ≡ Some d) × IsDirectory tree p × IsReached tree p
  by_parent d is reached p e = ⊎_elim (λ root. none_is_not None p refl (cc (eq-eqb d tree.root (sym root)))) (λ named.
      let same : named.0 ≡ p = same_Some named.0 p
      (sym (parent_named tree conditions named.0 named.1 d named.2 is) ∙ e) in (
        named.1,
        ap (λ n. entry_at tree n named.1) (sym same) ∙ named.2,
        subst (IsDirectory tree) same (directory_from_entry named.1 d (tree.node named.0) named.2),
        subst (IsReached tree) (conditions.one_parent named.0 named.1 d named.2 is ∙ same)
            (parent_reached tree conditions d is reached),
      )) (reached_named tree d reached)

  pub under_led : (most top d : ℕ) → IsDirectory tree d → IsReached tree d
      → is_among nat_eq top (chain most (named_parent nat_eq tree) d) ≡ true
      → (names : List (List ℕ)) × (led tree top names ≡ Some d)
  under_led zero top d is reached h = ([], grind (arith, common_steps, eqb-true))
  under_led (suc most) top d is reached h =
      by (named_parent nat_eq tree d) refl h (λ p p_is p_reached g. under_led most top p p_is p_reached g)
    where
      itself : (b : Bool) → nat_eq top d ≡ b → (b || false) ≡ true → Some top ≡ Some d
      itself true e g = ap Some (eqb-true top d e)
      itself false e g = cc

      more : (p : ℕ) → named_parent nat_eq tree d ≡ Some p → (b : Bool) → nat_eq top d ≡ b
          → (b || is_among nat_eq top (chain most (named_parent nat_eq tree) p)) ≡ true
          → ((p : ℕ) → IsDirectory tree p → IsReached tree p
          → is_among nat_eq top (chain most (named_parent nat_eq tree) p) ≡ true
          → (names : List (List ℕ)) × (led tree top names ≡ Some p))
          → (names : List (List ℕ)) × (led tree top names ≡ Some d)
      more p e true f g rest = ([], ap Some (eqb-true top d f))
      more p e false f g rest =
          let parent = by_parent d is reached p e in
          let up = rest p parent.2 parent.3 g in
          (up.0 ++ parent.0 ∷ [], led-append tree top up.0 parent.0 p d up.1 parent.1)

      by : (o : Option ℕ) → named_parent nat_eq tree d ≡ o
          → is_among nat_eq top (elim o [ None ↦ d ∷ [] | Some b ↦ d ∷ chain most (named_parent nat_eq tree) b ]) ≡ true
          → ((p : ℕ) → IsDirectory tree p → IsReached tree p
          → is_among nat_eq top (chain most (named_parent nat_eq tree) p) ≡ true
          → (names : List (List ℕ)) × (led tree top names ≡ Some p))
          → (names : List (List ℕ)) × (led tree top names ≡ Some d)
      by None e g rest = ([], itself (nat_eq top d) refl g)
      by (Some p) e g rest = more p e (nat_eq top d) refl g rest

  -- a directory that is reached is not removed
  pub reached_not_removed : (d : ℕ) → IsDirectory tree d → IsReached tree d → is_removed nat_eq tree d ≡ false
  reached_not_removed d is reached = ⊎_elim (λ root. cc (eq-eqb d tree.root (sym root)))
      (λ named. cc (parent_named tree conditions named.0 named.1 d named.2 is, either (nat_eq d tree.root)))
      (reached_named tree d reached)
    where
      either : (b : Bool) → not (b || true) ≡ false
      either true = refl
      either false = refl

-- Names of these directories stay, where the directory that has them does
abbrev pub DirectoryNamesStay : (ℕ → Type 0) → Tree ℕ → Tree ℕ → Type 0
DirectoryNamesStay Keeps tree later =
    (directory : ℕ) (name : List ℕ) (number : ℕ) → entry_at tree directory name ≡ Some number → IsDirectory tree number
    → Keeps number → is_some (later.node directory) ≡ true → entry_at later directory name ≡ Some number

-- with such a directory those above it are such
abbrev pub KeepsAbove : (ℕ → Type 0) → Tree ℕ → Type 0
KeepsAbove Keeps tree =
    (directory : ℕ) (name : List ℕ) (number : ℕ) → entry_at tree directory name ≡ Some number → Keeps number
    → Keeps directory

module _ {Keeps : ℕ → Type 0} {tree later : Tree ℕ} (before : IsTree tree) (after : IsTree later)
    (above : KeepsAbove Keeps tree) (stay : DirectoryNamesStay Keeps tree later) where
  keeps_through : (from : ℕ) (names : List (List ℕ)) (to : ℕ) → led tree from names ≡ Some to → Keeps to → Keeps from
  keeps_through from [] to e keeps = rw (same_Some from to e) keeps
  keeps_through from (name ∷ names) to e keeps =
      let step = found (λ next. led tree next names) (entry_at tree from name) to e in
      above from name step.0 step.1 (keeps_through step.0 names to step.2 keeps)

  pub led_stays : (from : ℕ) (names : List (List ℕ)) (to : ℕ) → led tree from names ≡ Some to → IsDirectory tree to
      → Keeps to → is_some (later.node from) ≡ true → led later from names ≡ Some to
  led_stays from [] to e is keeps there = e
  led_stays from (name ∷ names) to e is keeps there =
      let step = found (λ next. led tree next names) (entry_at tree from name) to e in
      let entry = stay from name step.0 step.1 (led_directory tree before step.0 names to step.2 is)
      (keeps_through step.0 names to step.2 keeps) there in
      cc (led_stays step.0 names to step.2 is keeps (after.alive from name step.0 entry))

-- Of a tree later, the root is the same, and what is kept has the names that it had.
pub record KeepsNames (Keeps : ℕ → Type 0) (files later : FileTree ℕ) : Type 0 where
  pub before : IsTree files.tree
  pub after : IsFileTree later
  pub root : later.tree.root ≡ files.tree.root
  pub above : KeepsAbove Keeps files.tree
  pub stay : DirectoryNamesStay Keeps files.tree later.tree

-- so a directory that is not lost, under another that is there, is not lost later
module _ {Keeps : ℕ → Type 0} {files later : FileTree ℕ} (it : KeepsNames Keeps files later) {d : ℕ}
    (is : IsDirectory files.tree d) (is_later : IsDirectory later.tree d) (keeps : Keeps d)
    (present : is_removed nat_eq files.tree d ≡ false) where
  reached : IsReached files.tree d
  reached = not_removed_reached files.tree it.before d is present

  reached_later : IsReached later.tree d
  reached_later = (
    reached.0,
    ap (λ n. led later.tree n reached.0) it.root
        ∙ led_stays it.before it.after.tree it.above it.stay files.tree.root reached.0 d reached.1 is
        keeps (subst (λ n. is_some (later.tree.node n) ≡ true) it.root
        (directory_used later.tree later.tree.root it.after.tree.root_directory)),
  )

  pub present_later : is_removed nat_eq later.tree d ≡ false
  present_later = reached_not_removed later.tree it.after.tree d is_later reached_later

  pub under_later : (top : ℕ) → is_some (later.tree.node top) ≡ true → is_directory_under nat_eq files top d ≡ true
      → is_directory_under nat_eq later top d ≡ true
  under_later top top_there under =
      let names = under_led files.tree it.before (length files.numbers) top d is reached under in
      under_seen later it.after d is_later reached_later top names.0
      (led_stays it.before it.after.tree it.above it.stay top names.0 d names.1 is keeps top_there)
