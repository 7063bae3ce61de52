-- What grows the world grows the part.
use Rattle.std.proofs.Common.{◌≡◌, sym, ap, subst, ◌∙◌, ◌⊎◌, inl, inr, ⊎_elim, ℕ, nat_eq, true, false, true≢false, List, Option, Some}
use Rattle.vt_spec.proofs.Common.{Among, Filesystem, IsWorld, Mount, Task, TaskName, World, among-from_filter_map, members, part_of, part_of_filesystem, seen_by_descriptor}
use Rattle.vt_laws_members.proofs.Common.{is_own, keep, kept_how, same_directly, same_members, same_used, shown_how}
use Rattle.vt_laws_members.proofs.attached.Destination.{located_there}
use Rattle.vt_laws_members.proofs.attached.GrownPart.{Grows, is_new}

module _ {world : World ℕ} {names : List TaskName} (is : IsWorld nat_eq world) {change : Mount ℕ → Mount ℕ}
    {added : List (Mount ℕ)} {new : List (Filesystem ℕ)} {master : ℕ → Option ℕ} (master_too : ℕ → Option ℕ)
    (it : Grows world names change added new master) where
  abbrev part : World ℕ
  part = part_of nat_eq world names

  abbrev theirs : List (Task ℕ)
  theirs = members world names

  abbrev kept : Mount ℕ → Option (Mount ℕ)
  kept = keep world names theirs

  owned_same : (x : Mount ℕ) → is_own part names (members part names) x ≡ is_own world names theirs x
  owned_same x = cc (same_members world names)

  -- what is kept of a mount, as it was or as a descriptor shows it
  whole : (x y : Mount ℕ) → Among x world.mounts → kept x ≡ Some y
      → (x ≡ y) ⊎ ((seen_by_descriptor x ≡ y) × (is_own world names theirs x ≡ false))
  whole x y m e = ⊎_elim inl (λ stub. inr (stub.0, stub.1)) (kept_how world names theirs x y e)

  own_there : (y : Mount ℕ) → Among y part.mounts → is_own world names theirs y ≡ true → Among y world.mounts
  own_there y n own =
      let from = among-from_filter_map kept world.mounts y n in
      ⊎_elim (λ same. subst (λ z. Among z world.mounts) same from.1)
      (λ stub. absurd (true≢false (sym own ∙ ap (is_own world names theirs) (sym stub.0))))
      (whole from.0 y from.1 from.2)

  others_there : (y : Mount ℕ) → Among y part.mounts → is_own world names theirs y ≡ false
      → (change y ≡ y) × (change (seen_by_descriptor y) ≡ seen_by_descriptor y)
  others_there y n other =
      let from = among-from_filter_map kept world.mounts y n in
      ⊎_elim (λ same. it.others y (rw (← same) from.1) other) (λ stub. let still = (it.others from.0 from.1 stub.1).1 in
      rw (← stub.0) (still, still)) (whole from.0 y from.1 from.2)

  unlisted_there : (f : Filesystem ℕ) → Among f part.filesystems
      → is_new world names change added new master f.number ≡ false
  unlisted_there f n =
      let from = among-from_filter_map (part_of_filesystem nat_eq world names) world.filesystems f n in
      cc (
        ⊎_elim (λ same. ap (λ (g : Filesystem ℕ). g.number) (sym same.0))
            (λ low. ap (λ (g : Filesystem ℕ). g.number) (sym low.0)) (shown_how world names from.0 f from.2),
        it.unlisted
            from.0 from.1,
      )

  pub part_grows : Grows part names change added new master_too
  part_grows = record {
    kept = λ y n own. let its = it.kept y (own_there y n (sym (owned_same y) ∙ own)) (sym (owned_same y) ∙ own) in
        (owned_same (change y) ∙ its.0, its.1, its.2);
    others = λ y n other. others_there y n (sym (owned_same y) ∙ other);
    ours = λ x m. owned_same x ∙ it.ours x m;
    shown = λ x m. ⊎_elim (λ old. inl (rw (same_directly world names) old)) inr
        (it.shown x m);
    located = λ l m. located_there world names is l (rw (← same_members world names) m);
    unused = λ n is. cc (same_used world names, it.unused n is);
    unlisted = unlisted_there;
    layers = λ f m layer n. rw (same_directly world names) (it.layers f m layer n);
    mounted = it.mounted;
  }
