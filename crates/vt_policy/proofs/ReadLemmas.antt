-- The rules of a read, by the real object of the file.
use Rattle.std.proofs.Common.{Bool, None, Ok, Some, [], ap, false, not, refl, sym, true, ℕ, ◌∙◌, ◌∷◌, ◌≡◌, Option, Result}
use Rattle.vt_spec.proofs.Common.{Credentials, Location, Looks, Node, Rules, Task, allows, is_directory, is_directory_node, is_kind, is_kind_in, node_allows, read_right, read_rules, unless}
use Rattle.vt_spec.specs.declared.attributes.Kind.TheVariants.{White}
use Rattle.vt_spec.specs.declared.errors.Deny.{Deny}
use Rattle.vt_spec.specs.declared.errors.Rule.TheVariants.{B1, C1, E2, E9}
use Rattle.vt_spec.specs.Machine.Rules.Conditions.{mounter_may_not}
use Rattle.vt_location.specs.Fronts.{Front, front}

-- a test of what an inode and its real object have in common, which what is not there does not pass
abbrev asked : (Front → Bool) → Option Front → Bool
asked test None = false
asked test (Some shown) = test shown

directory-asked : (o : Option (Node ℕ)) → is_directory_node o ≡ asked (λ shown. is_directory shown.kind) (front o)
directory-asked None = refl
directory-asked (Some node) = refl

white-asked : (o : Option (Node ℕ)) → is_kind_in White o ≡ asked (λ shown. is_kind White shown.kind) (front o)
white-asked None = refl
white-asked (Some node) = refl

allowed-asked : (who : Credentials) (o : Option (Node ℕ))
    → node_allows who read_right o ≡ asked (λ shown. allows who shown.attr shown.kind read_right) (front o)
allowed-asked who None = refl
allowed-asked who (Some node) = refl

-- such a test tells the same of both
test-alike : (test : Front → Bool) (of : Option (Node ℕ) → Bool)
    → ((o : Option (Node ℕ)) → of o ≡ asked test (front o)) → (one other : Option (Node ℕ))
    → front one ≡ front other → of one ≡ of other
test-alike test of is one other e = is one ∙ ap (asked test) e ∙ sym (is other)

-- what looks like the file is asked in its place
module _ (looks : Looks ℕ) (task : Task ℕ) (at : Location ℕ) (object : Option (Node ℕ))
    (alike : front object ≡ front (looks.node at)) where
  abbrev rows : Bool → Bool → Bool → Bool → Rules
  rows directory white refused denied = (directory, E2) ∷ (white, E9) ∷ (refused, C1) ∷ (denied, B1) ∷ []

  by-object : rows (is_directory_node object) (is_kind_in White object)
      (not (node_allows task.credentials read_right object)) (mounter_may_not looks at read_right)
      ≡ read_rules looks task at
  by-object i = rows (test-alike _ is_directory_node directory-asked object (looks.node at) alike i)
      (test-alike _ (is_kind_in White) white-asked object (looks.node at) alike i)
      (not (test-alike _ (node_allows task.credentials read_right) (allowed-asked task.credentials) object
      (looks.node at) alike i)) (mounter_may_not looks at read_right)

  abbrev answered : Rules → Result (Unit {0}) Deny
  answered rules = unless rules (Ok tt)

  -- with nothing against it but what the mounter may not do
  pub left-to-mounter : is_directory_node object ≡ false → is_kind_in White object ≡ false
      → node_allows task.credentials read_right object ≡ true
      → answered ((mounter_may_not looks at read_right, B1) ∷ []) ≡ answered (read_rules looks task at)
  left-to-mounter directory white allowed =
      let denied = mounter_may_not looks at read_right in
      sym (ap (λ b. answered (rows b (is_kind_in White object) (not (node_allows task.credentials read_right object))
      denied)) directory
      ∙ ap (λ b. answered (rows false b (not (node_allows task.credentials read_right object)) denied)) white
      ∙ ap (λ b. answered (rows false false (not b) denied)) allowed) ∙ ap answered by-object
