-- A pivot of the root leaves each namespace as many mounts and as many root mounts.
use Rattle.std.proofs.Common.{arith, ◌≡◌, refl, sym, ap, ◌∙◌, true, false, suc, nat_eq, ℕ, Bool, List, [], eq-eqb, eqb-true, filter, is_some, length, not, true≢false, ⊎_elim, ◌&&◌, ◌∷◌}
use Rattle.vt_spec.proofs.Common.{Among, Location, Mount, MountInvariants, World, among-filter, among-from_filter, common_steps, filter_alike, filter_here, filter_skip, is_root_mount, length-map, list_any, mounts_of, nat_eq_false_turned, none_among, or_parts, pair-filter, pivoted}
use Rattle.vt_laws_mounts.specs.Mounts.Attaching.{OneNumberAMount}
use Rattle.vt_laws_mounts.specs.Mounts.Namespaces.{CanPivot, PivotKeepsCounts}
use Rattle.vt_laws_mounts.proofs.mounts.MountsCounted.{as_many_mounts, filter-map}
use Rattle.vt_laws_mounts.proofs.mounts.MountsNumbered.{same_number}
use Rattle.vt_laws_mounts.proofs.namespaces.Pivoting.{is_new, is_root, move, moved_namespace, moved_new, moved_other, moved_root, new_among, new_placed, root_among}
use Rattle.vt_laws_mounts.specs.Mounts.Ending.{is_in}

-- but for one mount
abbrev besides : (Mount ℕ → Bool) → Mount ℕ → Mount ℕ → Bool
besides p a mount = p mount && not (nat_eq a.number mount.number)

-- what passes a test is one more than what passes besides one that does
one_more : (p : Mount ℕ → Bool) (xs : List (Mount ℕ)) → OneNumberAMount xs → (a : Mount ℕ) → Among a xs → p a ≡ true
    → length (filter p xs) ≡ suc (length (filter (besides p a) xs))
one_more p [] one a m e = absurd m
one_more p (y ∷ ys) one a m e =
    let parts : (list_any (same_number y) ys ≡ false) × OneNumberAMount ys = or_parts _ _ one in
    ⊎_elim (λ same. ap length (filter_here p y ys (ap p (sym same) ∙ e)) ∙ ap (λ l. suc (length l))
    (filter_alike p _ ys (λ x k. sym (and_true _ _ (ap (λ (z : Mount ℕ). nat_eq z.number x.number) same ∙ none_among _
    ys parts.0 x k)))) ∙ ap (λ l. suc (length l)) (sym (filter_skip _ y ys
    (and_false _ _ (eq-eqb a.number y.number (ap (λ (z : Mount ℕ). z.number) same))))))
    (λ later. by _ refl (nat_eq_false_turned _ _ (none_among _ ys parts.0 a later)) (one_more p ys parts.1 a later e)) m
  where
    and_true : (b c : Bool) → c ≡ false → (b && not c) ≡ b
    and_true true c f = ap not f
    and_true false c f = refl

    and_false : (b c : Bool) → c ≡ true → (b && not c) ≡ false
    and_false true c f = ap not f
    and_false false c f = refl

    by : (b : Bool) → p y ≡ b → nat_eq a.number y.number ≡ false
        → length (filter p ys) ≡ suc (length (filter (besides p a) ys))
        → length (filter p (y ∷ ys)) ≡ suc (length (filter (besides p a) (y ∷ ys)))
    by true f g rest =
        cc (filter_here p y ys f, filter_here (besides p a) y ys (and_true (p y) (nat_eq a.number y.number) g ∙ f))
    by false f g rest =
        cc (filter_skip p y ys f, filter_skip (besides p a) y ys (and_true (p y) (nat_eq a.number y.number) g ∙ f))

-- two tests, of which each passes one mount that the other does not
as_many_pass : (p q : Mount ℕ → Bool) (xs : List (Mount ℕ)) → OneNumberAMount xs → (a b : Mount ℕ) → Among a xs
    → Among b xs → p a ≡ true → q b ≡ true → ((x : Mount ℕ) → Among x xs → besides p a x ≡ besides q b x)
    → length (filter p xs) ≡ length (filter q xs)
as_many_pass p q xs one a b m n e f same =
    cc (one_more p xs one a m e, filter_alike (besides p a) (besides q b) xs same, one_more q xs one b n f)

module _ (world : World ℕ) (namespace : ℕ) (root new : Mount ℕ) (put : Location ℕ)
    (may : CanPivot world namespace root new put) (mounts : MountInvariants nat_eq world) where
  abbrev change : Mount ℕ → Mount ℕ
  change = move may mounts

  abbrev before : Mount ℕ → Bool
  before = is_root_mount nat_eq

  abbrev later : Mount ℕ → Bool
  later mount = is_root_mount nat_eq (change mount)

  new_not_before : before new ≡ false
  new_not_before = ap not (new_placed may mounts)

  root_not_later : later root ≡ false
  root_not_later = ap (λ p. not (is_some p)) (moved_root may mounts)

  new_later : later new ≡ before root
  new_later = ap (λ p. not (is_some p)) (moved_new may mounts)

  other_later : (mount : Mount ℕ) → nat_eq mount.number new.number ≡ false → nat_eq mount.number root.number ≡ false
      → later mount ≡ before mount
  other_later mount e f = ap before (moved_other may mounts mount e f)

  -- where the old root mount is over another, no mount begins or ends to be one of a namespace
  alike : before root ≡ false → (mount : Mount ℕ) → Among mount world.mounts → later mount ≡ before mount
  alike over mount m =
      grind (arith, common_steps, is_new, new_later, new_not_before, is_root, root_not_later, other_later)

  -- in another namespace none is moved
  elsewhere : (other : ℕ) → nat_eq other namespace ≡ false → (mount : Mount ℕ) → Among mount world.mounts
      → is_in other mount ≡ true → later mount ≡ before mount
  elsewhere other differ mount m here = grind (
    arith,
    common_steps,
    other_later,
    is_new may mounts mount m,
    is_root may mounts mount m,
    true≢false,
  )

  -- in its own the new root mount begins where the old one ends
  besides_alike : (mount : Mount ℕ) → Among mount world.mounts → besides later new mount ≡ besides before root mount
  besides_alike mount m = grind (
    arith,
    common_steps,
    is_new,
    eq-eqb,
    eqb-true,
    new_not_before,
    is_root,
    root_not_later,
    other_later,
    nat_eq_false_turned,
  )

  roots_of : (other : ℕ) → length (filter later (mounts_of nat_eq world other))
      ≡ length (filter before (mounts_of nat_eq world other))
  roots_of other = by _ refl _ refl
    where
      here : (mount : Mount ℕ) → Among mount (mounts_of nat_eq world other)
          → Among mount world.mounts × (is_in other mount ≡ true)
      here mount m = among-from_filter _ _ mount m

      by : (b : Bool) → before root ≡ b → (c : Bool) → nat_eq other namespace ≡ c
          → length (filter later (mounts_of nat_eq world other)) ≡ length (filter before (mounts_of nat_eq world other))
      by false e c f = ap length (filter_alike later before _ (λ mount m. alike e mount (here mount m).0))
      by true e false f = ap length (filter_alike later before _ (λ mount m.
          elsewhere other f mount (here mount m).0 (here mount m).1))
      by true e true f = as_many_pass later before _ (pair-filter same_number (is_in other) world.mounts
          mounts.one_number) new root (among-filter _ _ new (new_among may mounts) (cc (may.new_inside)))
          (among-filter _ _ root (root_among may mounts) (cc (may.root_inside))) (new_later ∙ e) e
          (λ mount m. besides_alike mount (here mount m).0)

pub pivot_keeps_counts : PivotKeepsCounts
pivot_keeps_counts world namespace root new put may mounts other =
    let change_of = move may mounts in
    let these = as_many_mounts world (pivoted nat_eq world namespace root new put) change_of refl
    (λ mount m. moved_namespace may mounts mount) other in
    let before_these = mounts_of nat_eq world other in
    record {
      mounts = ap length these ∙ length-map before_these change_of;
      roots = ap (λ l. length (filter (is_root_mount nat_eq) l)) these ∙ ap length
          (filter-map (is_root_mount nat_eq) (λ mount. is_root_mount nat_eq (change_of mount)) change_of before_these
          (λ mount m. refl))
          ∙ length-map (filter (λ mount. is_root_mount nat_eq (change_of mount)) before_these) change_of
          ∙ roots_of world namespace root new put may mounts other;
    }
