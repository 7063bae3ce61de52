use Rattle.std.proofs.Common.{◌≡◌, List, [], ◌∷◌, ℕ, Bool, None, Some, Option, ap, eqb-true, false, map, nat_eq, not, refl, sym, true, ◌++◌, ◌∙◌}
use Rattle.vt_spec.proofs.Common.{Location, Mount, list_any, found_passes, or_false_left, or_false_right}
use Rattle.vt_location.specs.Locations.{location_of}
use Rattle.vt_location.specs.MountValue.{mount_of}
use Rattle.vt_location.specs.Numbers.{counted}
use Rattle.vt_location.specs.declared.numbers.MountId.{MountId}
use Rattle.vt_mount.specs.MountsValue.{mounts_in}
use Rattle.vt_propagate.specs.Seen.{joins}
use Rattle.vt_propagate.proofs.Found.{numbered, passing, passing-missing, passing-not}
use Rattle.vt_propagate.proofs.receiving.with_receivers.Goals as goal

not_false : (b : Bool) → not b ≡ false → b ≡ true
not_false true e = refl
not_false false e = cc e

-- the mount itself takes no part as a receiver
module _ (under : ℕ → ℕ → ℕ → Bool) (place : Location ℕ) (parent : Mount ℕ) (all : List (Mount ℕ)) where
  itself_not : (mount : Mount ℕ) → nat_eq place.mount mount.number ≡ true → joins under place parent mount ≡ false
  itself_not mount same = cc (ap not same)

  none_but_itself : (id : MountId) (ids : List MountId) → place.mount ≡ counted id.count
      → list_any (λ (other : MountId). not (nat_eq id.count other.count)) ids ≡ false
      → passing (joins under place parent) all ids ≡ []
  none_but_itself id [] is none = refl
  none_but_itself id (other ∷ ids) is none = by (numbered all (counted other.count)) refl
      ∙ none_but_itself id ids is (or_false_right _ _ none)
    where
      equal : place.mount ≡ counted other.count
      equal = is ∙ ap counted (eqb-true id.count other.count (not_false _ (or_false_left _ _ none)))

      by : (found : Option (Mount ℕ)) → numbered all (counted other.count) ≡ found
          → passing (joins under place parent) all (other ∷ ids) ≡ passing (joins under place parent) all ids
      by None e = passing-missing (joins under place parent) all other ids (sym e)
      by (Some mount) e = passing-not (joins under place parent) all other ids (sym e)
          (itself_not mount (ap (λ n. nat_eq n mount.number) equal
          ∙ found_passes (λ mount. nat_eq (counted other.count) mount.number) all mount e))

pub returns-then-not-has_other : goal.returns-then-not-has_other
returns-then-not-has_other g c =
    let parts = c.in_ok-push.ensures.items ∙ ap (λ list. list ++ c.args.parent ∷ []) c.in_ok-parts.ensures.items in
    ap (map mount_of) parts ∙ ap (λ rest. mount_of c.args.parent ∷ rest)
    (sym (none_but_itself (g.R.Reach.under c.args.directories.now) (location_of c.args.place) (mount_of c.args.parent)
    (mounts_in c.args.mounts.now) c.args.place.mount c.args.receivers.now refl
    (sym c.has_other.ensures ∙ c.if-not-has_other.true)))
