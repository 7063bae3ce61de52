-- What a granted pivot_root(2) has passed, in any world whose mounts have their invariants.
use Rattle.std.proofs.Common.{arith, ◌≡◌, ℕ, nat_eq, Bool, true, false, true≢false, List, [], ◌∷◌, None, Ok, Err, Result, not, eqb-true, IfOk}
use Rattle.vt_spec.proofs.Common.{Here, Location, Looks, MountInvariants, NoneFails, Permit, PivotRoot, Stop, Task, ToPivot, World, at_topmost, child_at, common_steps, destination_walk, is_elsewhere, is_no_root, is_on_descendant, judge, judging, lies_under_location, looks_of, mount_at, mount_numbered, not-false, or_parts, pivot_rules, source_walk, then_walk, walk_unless}
use Rattle.vt_laws_members.proofs.Common.{CanPivot, IsIn, W8, numbered_mounts_can_pivot, topmost}
use Rattle.vt_laws_mounts.proofs.namespaces.Topmost.{topmost_is_free}
use Rattle.vt_laws_worlds.proofs.worlds.FitPermits.{first_two}
use Rattle.vt_laws_members.proofs.changes.Common.{ends_so, judged_so}

module _ (w : World ℕ) (kept : MountInvariants nat_eq w) (task : Task ℕ) where
  abbrev looks : Looks ℕ
  looks = looks_of nat_eq w

  -- the mounts that it names may change places
  abbrev pub PivotsThere : Permit ℕ → Type 0
  PivotsThere (ToPivot mount put) =
      CanPivot w task.namespace (mount_at nat_eq w task.root) (mount_numbered nat_eq w mount) put
  PivotsThere permit = ⊥

  -- M2
  inside : (l : Location ℕ) → is_elsewhere nat_eq looks task l ≡ false → IsIn w task.namespace l.mount
  inside l = grind (arith, common_steps, true≢false, eqb-true, not-false)

  -- no mount is attached where a destination is
  abbrev Free : Here ℕ → Type 0
  Free here = child_at nat_eq w.mounts here.location ≡ None

  destination_free : (path : List ℕ) → IfOk (destination_walk nat_eq looks task path) Free
  destination_free path = by (source_walk nat_eq looks task path)
    where
      kept_there : (here : Here ℕ) (b : Bool)
          → IfOk (walk_unless here.steps ((b, W8) ∷ []) (at_topmost looks here)) Free
      kept_there here true = tt
      kept_there here false = topmost_is_free w here.location kept

      by : (r : Result (Here ℕ) (Stop ℕ)) → IfOk (then_walk r (λ here. walk_unless here.steps
          ((looks.is_removed (topmost looks here.location), W8) ∷ []) (at_topmost looks here))) Free
      by (Ok here) = kept_there here (looks.is_removed (topmost looks here.location))
      by (Err stop) = tt

  passes : (new put : Location ℕ) → child_at nat_eq w.mounts put ≡ None
      → NoneFails (pivot_rules nat_eq looks task new put) → PivotsThere (ToPivot new.mount put)
  passes new put free passed =
      let own = or_parts (is_elsewhere nat_eq looks task task.root) _ passed.0 in
      let others = or_parts (is_elsewhere nat_eq looks task new) _ own.1 in
      let put_own = or_parts (is_elsewhere nat_eq looks task put) false others.1 in
      let tops = or_parts (is_no_root nat_eq looks new) (is_no_root nat_eq looks task.root) passed.1.0 in
      let lie = first_two (not (is_on_descendant nat_eq looks task.root.mount new))
      (not (lies_under_location nat_eq looks new put)) _ _ _ passed.1.1.1.0 in
      numbered_mounts_can_pivot w task.namespace task.root.mount new put (inside task.root own.0) (inside new others.0)
      (inside put put_own.0)
      (eqb-true new.node (mount_at nat_eq w new).root (not-false (nat_eq new.node (mount_at nat_eq w new).root) tops.0))
      (not-false (is_on_descendant nat_eq looks task.root.mount new) lie.0)
      (not-false (lies_under_location nat_eq looks new put) lie.1) free

  pub pivots_there : (full : Permit ℕ → Bool) (new put : List ℕ) → IfOk (judge nat_eq looks full task (PivotRoot new put)) PivotsThere
  unfolding judging
  pivots_there full new put = judged_so looks full task PivotsThere (PivotRoot new put)
      (λ admin root root_end here end passed.
      passes root.location here.location (ends_so Free (destination_free put) end) passed)
