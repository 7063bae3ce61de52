-- Mounts that are kept under numbers, in their order, in whatever order they are kept.
use Rattle.std.proofs.Common.{◌≡◌, ℕ, Bool, cond, T, List, [], ◌∷◌, ◌++◌, map, filter, length, not, nat_lt, true, Option, None, Some, option_map, refl, sym, ap, subst, ◌∙◌}
use Rattle.vt_spec.proofs.Common.{eq_by_cmp, is_sorted, keys_of, list_all, lookup, put}
use Rattle.std.specs.FinMap.Entries.{find}
use Rattle.std.specs.List.{IsDistinct}
use Rattle.vt_location.specs.Numbers.{same_id}
use Rattle.vt_mount.specs.declared.mounted.Mounted.{Mounted}
use Rattle.vt_location.specs.InOrder.{in_order_by}
use Rattle.vt_location.specs.declared.numbers.MountId.{MountId}
use Rattle.vt_mount.specs.MountsValue.{id_cmp, in_order}
use Rattle.vt_location.proofs.OrderLemmas as sorted

abbrev pub count_of : MountId → ℕ
count_of id = id.count

pub whole : (x y : MountId) → x.count ≡ y.count → x ≡ y
whole x y is = ap (λ n. record { count = n }) is

-- they are sorted as all that is kept under numbers
pub in_order-is : (es : List (MountId × Mounted)) → in_order es ≡ in_order_by count_of es
in_order-is [] = refl
in_order-is (e ∷ es) = ap (put id_cmp e.0 e.1) (in_order-is es)

pub tied : (x y : MountId) → eq_by_cmp id_cmp x y ≡ same_id x y
tied x y = sorted.tied count_of x y

-- the keys rise
abbrev pub rises : List (MountId × Mounted) → Bool
rises kept = is_sorted id_cmp kept

abbrev pub found : MountId → List (MountId × Mounted) → Option Mounted
found q kept = find id_cmp q kept

pub rises-in_order : (es : List (MountId × Mounted)) → T (rises (in_order es))
rises-in_order es = subst (λ kept. T (rises kept)) (sym (in_order-is es)) (sorted.rises-in_order count_of es)

pub found-in_order : (q : MountId) (es : List (MountId × Mounted)) → found q (in_order es) ≡ lookup (same_id q) es
found-in_order q es = ap (found q) (in_order-is es) ∙ sorted.found-in_order count_of q es

-- One that is changed

abbrev pub change_kept : MountId → (Mounted → Mounted) → MountId × Mounted → MountId × Mounted
change_kept number change one = sorted.change_kept count_of number change one

pub in_order-changed : (number : MountId) (change : Mounted → Mounted) (es new : List (MountId × Mounted))
    → ((q : MountId) → lookup (same_id q) new
    ≡ cond (same_id number q) (option_map change (lookup (same_id q) es)) (lookup (same_id q) es))
    → in_order new ≡ map (change_kept number change) (in_order es)
in_order-changed number change es new is =
    in_order-is new ∙ sorted.in_order-changed count_of whole number change es new is
    ∙ ap (map (change_kept number change)) (sym (in_order-is es))

-- One that is taken out

abbrev pub without_kept : MountId → List (MountId × Mounted) → List (MountId × Mounted)
without_kept number kept = filter (λ one. not (same_id number one.0)) kept

pub in_order-removed : (number : MountId) (es new : List (MountId × Mounted))
    → ((q : MountId) → lookup (same_id q) new ≡ cond (same_id number q) None (lookup (same_id q) es))
    → in_order new ≡ without_kept number (in_order es)
in_order-removed number es new is = in_order-is new ∙ sorted.in_order-removed count_of whole number es new is
    ∙ ap (without_kept number) (sym (in_order-is es))

-- One behind all others

abbrev pub is_above : MountId → List (MountId × Mounted) → Bool
is_above number kept = list_all (λ one. nat_lt one.0.count number.count) kept

pub in_order-last : (number : MountId) (new : Mounted) (es fs : List (MountId × Mounted))
    → is_above number (in_order es) ≡ true
    → ((q : MountId) → lookup (same_id q) fs ≡ cond (same_id number q) (Some new) (lookup (same_id q) es))
    → in_order fs ≡ in_order es ++ (number, new) ∷ []
in_order-last number new es fs above is = in_order-is fs
    ∙ sorted.in_order-last count_of whole number new es fs (ap (is_above number) (sym (in_order-is es)) ∙ above) is
    ∙ ap (λ kept. kept ++ (number, new) ∷ []) (sym (in_order-is es))

-- as many as there are
pub length-in_order : (es : List (MountId × Mounted)) → IsDistinct same_id (keys_of es)
    → length (in_order es) ≡ length es
length-in_order es distinct = ap length (in_order-is es) ∙ sorted.length-in_order count_of es distinct
