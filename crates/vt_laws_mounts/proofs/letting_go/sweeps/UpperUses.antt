-- An inode of an overlay that goes is one use less of its upper inode.
use Rattle.std.proofs.Common.{◌≡◌, refl, sym, ap, ◌∙◌, ℕ, nat_eq, eqb-true, eq-eqb, Bool, true, false, cond, not, ◌&&◌, ◌+◌, List, [], ◌∷◌, filter, true≢false, flat_map, ◌++◌, Option, Some, arith, filter_map}
use Rattle.vt_spec.proofs.Common.{Filesystem, Layer, Overlay, Upper, World, common_steps, holds_of, layers_in, layers_of, located_in, named_in, objects_of_overlay, of_overlay, upper_object}
use Rattle.vt_laws_mounts.specs.LettingGo.Counts.{times}
use Rattle.vt_laws_mounts.specs.LettingGo.Overlays.{OneUpperUseLess, without_inode_of, without_real}
use Rattle.std.proofs.Math.Nat.{add_assoc}

zero_first : (n : ℕ) → n ≡ 0 + n
zero_first n = omega arith

module _ {A : Type 0} where
  pub times_append : (test : A → Bool) (xs ys : List A) → times test (xs ++ ys) ≡ times test xs + times test ys
  times_append test [] ys = zero_first _
  times_append test (x ∷ xs) ys =
      cc (times_append test xs ys, add_assoc (cond (test x) 1 0) (times test xs) (times test ys))

module _ {A B : Type 0} where
  flat_map_one : (g : A → List B) (front back : List A) (x y : A) → g x ≡ g y
      → flat_map g (front ++ (x ∷ back)) ≡ flat_map g (front ++ (y ∷ back))
  flat_map_one g [] back x y e = ap (λ l. l ++ flat_map g back) e
  flat_map_one g (z ∷ front) back x y e = ap (λ l. g z ++ l) (flat_map_one g front back x y e)

  times_one : (test : B → Bool) (g : A → List B) (front back : List A) (x y : A) (less : ℕ)
      → times test (g x) ≡ times test (g y) + less
      → times test (flat_map g (front ++ (x ∷ back))) ≡ times test (flat_map g (front ++ (y ∷ back))) + less
  times_one test g [] back x y less e = grind (arith, common_steps, times_append)
  times_one test g (z ∷ front) back x y less e =
      grind (arith, common_steps, times_append, add_assoc, times_one test g front back x y less e)

-- upper objects, with and without one inode
module _ (overlay : Overlay ℕ) (inode object number : ℕ) (upper : overlay.real inode ≡ Some (Upper object)) where
  abbrev before : ℕ → Option ℕ
  before k = upper_object (overlay.real k)

  abbrev after : ℕ → Option ℕ
  after k = upper_object ((without_real inode overlay).real k)

  abbrev left : List ℕ → List ℕ
  left numbers = filter_map after (filter (λ other. not (nat_eq other inode)) numbers)

  objects_less : (b : Bool) → nat_eq number object ≡ b → (numbers : List ℕ)
      → times (nat_eq number) (filter_map before numbers)
      ≡ times (nat_eq number) (left numbers) + cond b (times (nat_eq inode) numbers) 0
  objects_less true e [] = refl
  objects_less false e [] = refl
  objects_less b e (k ∷ numbers) =
      grind (arith, common_steps, objects_less b e numbers, eqb-true, eq-eqb, zero_first, true≢false, add_assoc)

pub one_upper_use_less : OneUpperUseLess
one_upper_use_less world front back merged overlay layer inode object all is upper real once filesystem number =
    ap (λ n. first + n) (times_append _ _ _) ∙ ap (λ (n : ℕ). first + (times (nat_eq number)
    (others (layers_in nat_eq world filesystem.number)) + n)) objects_one ∙ ap
    (λ l. first + (times (nat_eq number) (others l) + (times (nat_eq number) (flat_map objects (front ++ (gone ∷ back)))
    + less))) layers ∙ over first _ _ less ∙ ap (λ n. (first + n) + less) (sym (times_append _ _ _))
  where
    gone : Filesystem ℕ
    gone = without_inode_of inode merged

    later : World ℕ
    later = record world { filesystems = front ++ (gone ∷ back) }

    first : ℕ
    first = cond (nat_eq number filesystem.files.tree.root) 1 0

    less : ℕ
    less = cond (nat_eq filesystem.number layer.filesystem && nat_eq number object) 1 0

    others : List ℕ → List ℕ
    others layers = named_in filesystem.files ++ located_in nat_eq world filesystem.number ++ layers

    objects : Filesystem ℕ → List ℕ
    objects = objects_of_overlay nat_eq filesystem.number

    over : (a b c d : ℕ) → a + (b + (c + d)) ≡ (a + (b + c)) + d
    over a b c d = omega arith

    layers_gone : of_overlay [] layers_of merged ≡ of_overlay [] layers_of gone
    layers_gone = cc

    layers : layers_in nat_eq world filesystem.number ≡ layers_in nat_eq later filesystem.number
    layers = cc (all, flat_map_one _ front back merged gone layers_gone)

    of_upper : Option (Layer ℕ) → List ℕ → List ℕ
    of_upper u list = cond (holds_of (λ l. nat_eq filesystem.number l.filesystem) u) list []

    objects_merged : objects merged ≡ cond (nat_eq filesystem.number layer.filesystem)
        (filter_map (λ k. upper_object (overlay.real k)) merged.files.numbers) []
    objects_merged = cc (is, upper)

    objects_gone : objects gone ≡ cond (nat_eq filesystem.number layer.filesystem)
        (filter_map (λ k. upper_object ((without_real inode overlay).real k))
        (filter (λ other. not (nat_eq other inode)) merged.files.numbers)) []
    objects_gone = cc (is, upper)

    of_merged : times (nat_eq number) (objects merged) ≡ times (nat_eq number) (objects gone) + less
    of_merged = grind (arith, common_steps, objects_merged, objects_gone, objects_less)

    objects_one : times (nat_eq number) (flat_map objects world.filesystems)
        ≡ times (nat_eq number) (flat_map objects (front ++ (gone ∷ back))) + less
    objects_one = cc (all, times_one _ _ front back merged gone less of_merged)
