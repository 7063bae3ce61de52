-- Whether a mount of a tree passes a test, by the trees of the children.
use Rattle.std.proofs.Common.{◌≡◌, ℕ, suc, Bool, true, false, List, [], ◌∷◌, nat_eq, refl, sym, ap, ◌∙◌, inl, inr, ◌||◌, flat_map, unwrap_or}
use Rattle.vt_spec.proofs.Common.{Among, Mount, among-from_filter, children, list_any, list_any-append, mount_in, no_mount, number-mount_in, stands_on, tree_from}
use Rattle.vt_location.specs.declared.numbers.MountId.{MountId}
use Rattle.vt_location.specs.Numbers.{counted}
use Rattle.vt_mount.specs.MountsValue.{are_ascending}
use Rattle.vt_mount.proofs.AttachedLemmas.{ascending_found}
use Rattle.vt_mount.proofs.PlaceLemmas.{counts, numbers}

module _ (test : Mount ℕ → Bool) (mounts : List (Mount ℕ)) where
  -- whether a mount of the tree of this number passes, down to a depth
  abbrev pub any_within : ℕ → ℕ → Bool
  any_within depth number = list_any test (tree_from nat_eq depth mounts (mount_in nat_eq mounts number))

  module _ (rising : are_ascending mounts ≡ true) where
    -- trees of mounts that are there, by their numbers
    any-trees : (depth : ℕ) (some : List (Mount ℕ)) → ((mount : Mount ℕ) → Among mount some → Among mount mounts)
        → list_any test (flat_map (tree_from nat_eq depth mounts) some) ≡ list_any (any_within depth) (numbers some)
    any-trees depth [] there = refl
    any-trees depth (mount ∷ some) there =
        list_any-append test (tree_from nat_eq depth mounts mount) (flat_map (tree_from nat_eq depth mounts) some)
        ∙ (λ i. list_any test (tree_from nat_eq depth mounts (itself i))
        || any-trees depth some (λ other m. there other (inr m)) i)
      where
        itself : mount ≡ mount_in nat_eq mounts mount.number
        itself = sym (ap (λ o. unwrap_or o (no_mount mount.number))
            (ascending_found mounts rising mount (there mount (inl refl))))

    any-counts : (depth : ℕ) (ids : List MountId)
        → list_any (any_within depth) (counts ids) ≡ list_any (λ id. any_within depth (counted id.count)) ids
    any-counts depth [] = refl
    any-counts depth (id ∷ ids) = ap (λ b. any_within depth (counted id.count) || b) (any-counts depth ids)

    -- where the top does not pass, one of a child's tree has to
    pub any-children : (depth next number : ℕ) (ids : List MountId) → depth ≡ suc next
        → test (mount_in nat_eq mounts number) ≡ false → counts ids ≡ numbers (children nat_eq mounts number)
        → any_within depth number ≡ list_any (λ id. any_within next (counted id.count)) ids
    any-children depth next number ids deep e kids = ap (λ n. any_within n number) deep
        ∙ ap (λ b. b || list_any test (flat_map (tree_from nat_eq next mounts)
        (children nat_eq mounts (mount_in nat_eq mounts number).number))) e
        ∙ ap (λ n. list_any test (flat_map (tree_from nat_eq next mounts) (children nat_eq mounts n)))
        (number-mount_in mounts number) ∙ any-trees next (children nat_eq mounts number)
        (λ mount m. (among-from_filter (stands_on nat_eq number) mounts mount m).0)
        ∙ ap (list_any (any_within next)) (sym kids) ∙ any-counts next ids
