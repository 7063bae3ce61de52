-- Numbers tell nodes apart.
use Rattle.std.proofs.Common.{◌≡◌, ◌<◌, ◌+◌, ◌*◌, ℕ, true, ◌&&◌, nat_eq, nat_lt, refl, sym, ap, ◌∙◌, arith, eq-eqb, true≢false, eqb-true, ltb-true}
use Rattle.vt_spec.proofs.Common.{and_true_left, and_true_right, same_location, same_truth}
use Rattle.vt_location.specs.declared.births.Birth.{Birth}
use Rattle.vt_location.specs.declared.births.Birth.TheVariants.{Below, Here}
use Rattle.vt_location.specs.declared.locations.Location.{Location}
use Rattle.vt_location.specs.declared.locations.NodeRef.{NodeRef}
use Rattle.vt_location.specs.Births.{IsSmallBirth, born_in, is_small_birth}
use Rattle.vt_location.specs.Locations.{is_small_node, location_of, number_of}
use Rattle.vt_location.specs.SameNodes.{same_birth, same_node}
use Rattle.vt_location.specs.NodeNumbers.{BirthsAreNoInodes, IsSmall, NumbersAreOneToOne}
use Rattle.vt_location.specs.Numbers.{inode_number, is_own_number}
use Rattle.vt_location.proofs.NumberLemmas.{counted_test, is_own, own_inode, slot_of}

-- two digits of a number
split : (a b x y : ℕ) → a < 18446744073709551616 → b < 18446744073709551616
    → a + 18446744073709551616 * x ≡ b + 18446744073709551616 * y → (a ≡ b) × (x ≡ y)
split a b x y small other e = (omega (arith, small, other, e), omega (arith, small, other, e))

-- the slot, and where the node was born
pub number_parts : (a b x y : ℕ) → x < 18446744073709551616 → y < 18446744073709551616
    → inode_number a x ≡ inode_number b y → (a ≡ b) × (x ≡ y)
number_parts a b x y small other e =
    let parts = split x y (a + 1) (b + 1) small other (omega (arith, e)) in
    let rest = parts.1 in
    (omega (arith, rest), parts.0)

-- what code has in 64 bits
small_births : (birth : Birth) → is_small_birth birth ≡ true → IsSmallBirth birth
small_births Here e = tt
small_births (Below layer directory rank) e = (
  ltb-true directory 18446744073709551616 (and_true_left _ _ e),
  ltb-true layer 18446744073709551616 (and_true_right (nat_lt directory 18446744073709551616) _ e),
)

pub small_parts : (node : NodeRef) → is_small_node node ≡ true → IsSmall node
small_parts node e =
    let rest = and_true_right (nat_lt node.filesystem.count 18446744073709551616) _ e in
    record {
      filesystem = ltb-true node.filesystem.count 18446744073709551616 (and_true_left _ _ e);
      slot = ltb-true node.slot 18446744073709551616 (and_true_left _ _ rest);
      birth = small_births node.birth (and_true_right (nat_lt node.slot 18446744073709551616) _ rest);
    }

-- births in one filesystem are apart
abbrev code : ℕ → ℕ → ℕ → ℕ
code layer directory rank = directory + 18446744073709551616 * (layer + 18446744073709551616 * rank)

code_parts : (l d r m e s : ℕ) → d < 18446744073709551616 → l < 18446744073709551616 → e < 18446744073709551616
    → m < 18446744073709551616 → code l d r ≡ code m e s → Below l d r ≡ Below m e s
code_parts l d r m e s d_small l_small e_small m_small same =
    let first = split d e (l + 18446744073709551616 * r) (m + 18446744073709551616 * s) d_small e_small same in
    let second = split l m r s l_small m_small first.1 in
    (λ i. Below (second.0 i) (first.0 i) (second.1 i))

pub births_apart : (filesystem : ℕ) (a b : Birth) → IsSmallBirth a → IsSmallBirth b
    → born_in filesystem a ≡ born_in filesystem b → a ≡ b
births_apart filesystem Here Here small other e = refl
births_apart filesystem Here (Below layer directory rank) small other e = absurd (let no : ⊥ = omega (arith, e) in no)
births_apart filesystem (Below layer directory rank) Here small other e = absurd (let no : ⊥ = omega (arith, e) in no)
births_apart filesystem (Below l d r) (Below m f s) small other e =
    code_parts l d r m f s small.0 small.1 other.0 other.1 (omega (arith, e))

-- so are those in two
both_apart : (f g : ℕ) (a b : Birth) → f < 18446744073709551616 → g < 18446744073709551616
    → born_in f a ≡ born_in g b → f ≡ g
both_apart f g Here Here f_small g_small e = e
both_apart f g Here (Below layer directory rank) f_small g_small e =
    absurd (let no : ⊥ = omega (arith, f_small, e) in no)
both_apart f g (Below layer directory rank) Here f_small g_small e =
    absurd (let no : ⊥ = omega (arith, g_small, e) in no)
both_apart f g (Below l d r) (Below m h s) f_small g_small e =
    (split f g (1 + code l d r) (1 + code m h s) f_small g_small e).0

pub one_to_one : NumbersAreOneToOne
one_to_one a b small other e =
    let parts = number_parts (born_in a.filesystem.count a.birth) (born_in b.filesystem.count b.birth) a.slot b.slot
    small.slot other.slot e in
    let count = both_apart a.filesystem.count b.filesystem.count a.birth b.birth small.filesystem other.filesystem
    parts.0 in
    let birth = births_apart b.filesystem.count a.birth b.birth small.birth other.birth
    ((λ i. born_in (sym count i) a.birth) ∙ parts.0) in
    (λ i. record { filesystem = record { count = count i }; slot = parts.1 i; birth = birth i })

-- A node with the number of an inode of a plain filesystem is that one

born_here : (f filesystem : ℕ) (birth : Birth) → filesystem < 18446744073709551616 → born_in f birth ≡ filesystem
    → (f ≡ filesystem) × (birth ≡ Here)
born_here f filesystem Here small is = (is, refl)
born_here f filesystem (Below layer directory rank) small is = absurd (let no : ⊥ = omega (arith, small, is) in no)

pub inode_is : (node : NodeRef) (filesystem slot : ℕ) → node.slot < 18446744073709551616
    → filesystem < 18446744073709551616 → slot < 18446744073709551616 → number_of node ≡ inode_number filesystem slot
    → (node.filesystem.count ≡ filesystem) × (node.slot ≡ slot) × (node.birth ≡ Here)
inode_is node filesystem slot small f_small s_small e =
    let parts = number_parts (born_in node.filesystem.count node.birth) filesystem node.slot slot small s_small e in
    let born = born_here node.filesystem.count filesystem node.birth f_small parts.0 in
    (born.0, parts.1, born.1)

pub no_inodes : BirthsAreNoInodes
no_inodes node filesystem slot small f_small s_small e = (inode_is node filesystem slot small.slot f_small s_small e).2

-- so is one with a number of a filesystem's own
own_node : (count : ℕ) (node : NodeRef) → node.slot < 18446744073709551616
    → is_own_number count (number_of node) ≡ true → (node.filesystem.count ≡ count) × (node.birth ≡ Here)
own_node count node small e =
    let slot = slot_of count (number_of node) (own_inode count (number_of node) e) in
    let is = inode_is node count slot.0 small (ltb-true count 18446744073709551616 (and_true_left _ _ e)) slot.1 slot.2 in
    (is.0, is.2)

pub own_count : (count : ℕ) (node : NodeRef) → node.slot < 18446744073709551616
    → is_own_number count (number_of node) ≡ true → count ≡ node.filesystem.count
own_count count node small e = sym (own_node count node small e).0

pub own_birth : (count : ℕ) (node : NodeRef) → node.slot < 18446744073709551616
    → is_own_number count (number_of node) ≡ true → node.birth ≡ Here
own_birth count node small e = (own_node count node small e).1

-- what was born here has the number of an inode
pub here_number : (node : NodeRef) → node.birth ≡ Here → number_of node ≡ inode_number node.filesystem.count node.slot
here_number node here = λ i. inode_number (born_in node.filesystem.count (here i)) node.slot

pub here_is_own : (node : NodeRef) → node.filesystem.count < 18446744073709551616 → node.slot < 18446744073709551616
    → node.birth ≡ Here → is_own_number node.filesystem.count (number_of node) ≡ true
here_is_own node small slot_small here = ap (is_own_number node.filesystem.count) (here_number node here)
    ∙ is_own node.filesystem.count node.slot small slot_small

-- The tests of code, and those of the definitions

same_births : (a : Birth) → same_birth a a ≡ true
same_births Here = refl
same_births (Below l d r) = (λ i. eq-eqb l l refl i && (eq-eqb d d refl i && eq-eqb r r refl i))

one_birth : (a b : Birth) → same_birth a b ≡ true → a ≡ b
one_birth Here Here e = refl
one_birth Here (Below layer directory rank) e = absurd (true≢false (sym e))
one_birth (Below layer directory rank) Here e = absurd (true≢false (sym e))
one_birth (Below l d r) (Below m f s) e =
    let rest = and_true_right (nat_eq l m) _ e in
    let layer = eqb-true l m (and_true_left _ _ e) in
    let directory = eqb-true d f (and_true_left _ _ rest) in
    let rank = eqb-true r s (and_true_right (nat_eq d f) _ rest) in
    (λ i. Below (layer i) (directory i) (rank i))

one_node : (a b : NodeRef) → same_node a b ≡ true → a ≡ b
one_node a b e =
    let rest = and_true_right (nat_eq a.filesystem.count b.filesystem.count) _ e in
    let count = eqb-true a.filesystem.count b.filesystem.count (and_true_left _ _ e) in
    let slot = eqb-true a.slot b.slot (and_true_left _ _ rest) in
    let birth = one_birth a.birth b.birth (and_true_right (nat_eq a.slot b.slot) _ rest) in
    (λ i. record { filesystem = record { count = count i }; slot = slot i; birth = birth i })

pub same_node-itself : (a : NodeRef) → same_node a a ≡ true
same_node-itself a = (λ i. eq-eqb a.filesystem.count a.filesystem.count refl i
    && (eq-eqb a.slot a.slot refl i && same_births a.birth i))

pub nodes_test : (a b : NodeRef) → is_small_node a ≡ true → is_small_node b ≡ true
    → nat_eq (number_of a) (number_of b) ≡ same_node a b
nodes_test a b a_small b_small = same_truth _ _
    (λ e. ap (same_node a) (sym (one_to_one a b (small_parts a a_small) (small_parts b b_small) (eqb-true (number_of a) (number_of b) e)))
    ∙ same_node-itself a) (λ e. eq-eqb (number_of a) (number_of b) (ap number_of (one_node a b e)))

pub same_locations : (a b : Location) → is_small_node a.node ≡ true → is_small_node b.node ≡ true
    → same_location nat_eq (location_of a) (location_of b)
    ≡ (nat_eq a.mount.count b.mount.count && same_node a.node b.node)
same_locations a b a_small b_small =
    (λ i. counted_test a.mount.count b.mount.count i && nodes_test a.node b.node a_small b_small i)
