-- Whatever is generic in the numbers' type commutes with renamings.
use Rattle.std.proofs.Common.{arith, ◌≡◌, refl, sym, ap, subst, ◌∙◌, ℕ, nat_eq, Bool, List, [], ◌∷◌, Option, map, option_map}
use Rattle.vt_spec.proofs.Common.{Change, Content, Inode, Node, common_steps, renamed_content, renamed_inode, renamed_node}
use std.Equiv.{◌≃◌, id_equiv, iso_to_equiv}
use std.Univalence.{equiv_j}
use Rattle.vt_laws_rules.specs.Renaming.{Renaming, renamed_change}

pub map_itself : {A : Type 0} (f : A → A) → ((a : A) → f a ≡ a) → (list : List A) → map f list ≡ list
map_itself f same [] = refl
map_itself f same (a ∷ rest) = λ i. same a i ∷ map_itself f same rest i

pub option_itself : {A : Type 0} (f : A → A) → ((a : A) → f a ≡ a) → (option : Option A) → option_map f option ≡ option
option_itself f same d = grind (arith, common_steps)

-- With each number for itself nothing is renamed.
module _ {N : Type 0} where
  content_itself : (content : Content N) → renamed_content (λ n. n) (λ n. n) content ≡ content
  content_itself content = grind (arith, common_steps, map_itself)

  pub node_itself : (node : Node N) → renamed_node (λ n. n) (λ n. n) node ≡ node
  node_itself node = λ i. record { attr = node.attr; content = content_itself node.content i }

  pub inode_itself : (inode : Option (Inode N)) → option_map (renamed_inode (λ n. n) (λ n. n)) inode ≡ inode
  inode_itself inode = grind (arith, common_steps, node_itself)

  pub change_itself : (change : Change N) → renamed_change (λ n. n) (λ n. n) change ≡ change
  change_itself change = grind (arith, common_steps, node_itself)

-- What has numbers in it, and how they are renamed: with each number for itself, not at all
pub record Named (T : Type 0 → Type 0) : Type 1 where
  pub rename : (A B : Type 0) → (A → B) → (B → A) → T A → T B
  pub itself : (A : Type 0) (t : T A) → rename A A (λ n. n) (λ n. n) t ≡ t

-- By univalence: what is said of every equivalence need be shown for the identity alone. So whatever is made, for every
-- type of numbers, out of what has numbers in it, commutes with each renaming.
module _ (S T : Type 0 → Type 0) (given : Named S) (made : Named T)
    (make : (A : Type 0) → (A → A → Bool) → S A → T A) where
  commutes : {M N : Type 0} (e : M ≃ N) (eq : N → N → Bool) (back : N → M)
      → ((number : N) → e.0 (back number) ≡ number) → (s : S M)
      → make N eq (given.rename M N e.0 back s) ≡ made.rename M N e.0 back (make M (λ a b. eq (e.0 a) (e.0 b)) s)
  unfolding id_equiv
  commutes {M} {N} e eq = equiv_j
      (λ (A : Type 0) (e : A ≃ N). (back : N → A) → ((number : N) → e.0 (back number) ≡ number) → (s : S A)
      → make N eq (given.rename A N e.0 back s) ≡ made.rename A N e.0 back (make A (λ a b. eq (e.0 a) (e.0 b)) s))
      (λ back there_back s.
      subst (λ (b : N → N). make N eq (given.rename N N (λ n. n) b s) ≡ made.rename N N (λ n. n) b (make N eq s))
      (λ i number. sym (there_back number) i) (ap (make N eq) (given.itself N s) ∙ sym (made.itself N (make N eq s)))) e

-- two numbers have two numbers
pub stay_apart : {N M : Type 0} (renaming : Renaming N M) (a b : N) → renaming.there a ≡ renaming.there b → a ≡ b
stay_apart renaming a b e = sym (renaming.back_there a) ∙ ap renaming.back e ∙ renaming.back_there b

same_test : (renaming : Renaming ℕ ℕ) (a b : ℕ) → nat_eq (renaming.there a) (renaming.there b) ≡ nat_eq a b
same_test renaming a b = grind (arith, common_steps)

-- So does what is made for the numbers that the definitions are run with.
pub commutes_nat : (S T : Type 0 → Type 0) (given : Named S) (made : Named T)
    (make : (A : Type 0) → (A → A → Bool) → S A → T A) → (renaming : Renaming ℕ ℕ) (s : S ℕ)
    → make ℕ nat_eq (given.rename ℕ ℕ renaming.there renaming.back s)
    ≡ made.rename ℕ ℕ renaming.there renaming.back (make ℕ nat_eq s)
commutes_nat S T given made make renaming s = commutes S T given made make (iso_to_equiv
    (record { fun = renaming.there; inv = renaming.back; rinv = renaming.there_back; linv = renaming.back_there }))
    nat_eq renaming.back renaming.there_back s
    ∙ ap (λ (eq : ℕ → ℕ → Bool). made.rename ℕ ℕ renaming.there renaming.back (make ℕ eq s))
    (λ i a b. same_test renaming a b i)
