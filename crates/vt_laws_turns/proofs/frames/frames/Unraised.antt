-- A namespace whose change number is what it was has the mounts that it had.
use Rattle.std.proofs.Common.{◌≡◌, ◌≢◌, refl, sym, ap, subst, ◌∙◌, ◌⊎◌, inl, inr, ⊎_elim, ℕ, nat_eq, Bool, true, false, true≢false, cond, List, ◌*◌, Option, Some, None, Ok, find, map, eqb-true, eq-eqb, arith, option_map, unwrap_or}
use Rattle.vt_spec.proofs.Common.{Among, Call, Fresh, Mount, Namespace, Outcome, Permit, Task, TaskName, World, after, among-append_right, among-from_filter, among-map, apply, call_outcome, common_steps, finished_unless, found_among, found_passes, holds_of, is_stale, judge_in, last_number, mounts_of, namespace_change_of, numbers_raised, or_parts, raised, raised_namespace, same_mounts_in, settled, task_called}
use Rattle.vt_laws_turns.proofs.Common.{call_is_judged_then_applied, policy_leads, unused_number}
use Rattle.vt_laws_turns.specs.Frames.Unraised.{IsCallIn, IsNamespaceUnraised, UnraisedNamespacesKeepMounts}
use Rattle.vt_laws_turns.proofs.frames.frames.NamespacesGoOn.{namespace_found, namespaces_go_on}
use Rattle.vt_laws_turns.proofs.frames.frames.SameMounts.{lists_same, rises}
use Rattle.vt_laws_turns.proofs.frames.frames.ShownAlike.{swept_show_alike}
use Rattle.vt_laws_turns.proofs.frames.Found.{found_map}

-- numbers that are not stale are the same, and not the largest
pub not_stale : (held now : ℕ) → is_stale held now ≡ false → (held ≡ now) × (now ≢ last_number)
not_stale held now e = grind (arith, common_steps, or_parts, eqb-true, true≢false, eq-eqb)

-- the change number of a namespace that was found, or of none
abbrev pub change_in : Option (Namespace ℕ) → ℕ
change_in found = unwrap_or (option_map (λ (n : Namespace ℕ). n.change) found) last_number

module _ (world : World ℕ) (fresh : Fresh ℕ) (given : IsCallIn world fresh) (number : ℕ) where
  abbrev found_in : List (Namespace ℕ) → Option (Namespace ℕ)
  found_in list = find (λ (n : Namespace ℕ). nat_eq number n.number) list

  module _ (name : TaskName) {task : Task ℕ} (call : Call) {permit : Permit ℕ} (changed : List ℕ)
      (called : task_called world task.name ≡ Some task) (granted : judge_in nat_eq fresh world task call ≡ Ok permit)
    where
      abbrev applied : World ℕ
      applied = (apply nat_eq fresh world task permit).world

      abbrev later : World ℕ
      later = numbers_raised nat_eq world name changed (settled nat_eq applied)

      abbrev raise : Namespace ℕ → Namespace ℕ
      raise = raised_namespace nat_eq world (settled nat_eq applied)

      raise_number : (n : Namespace ℕ) → (raise n).number ≡ n.number
      raise_number n = grind (arith, common_steps)

      -- a namespace that is there later was there before, with that number
      was_there : (n : Namespace ℕ) → found_in applied.namespaces ≡ Some n
          → (change_in (found_in world.namespaces) ≡ n.change) ⊎ (change_in (found_in world.namespaces) ≡ last_number)
      was_there n e =
          let at : nat_eq number n.number ≡ true =
          found_passes (λ (m : Namespace ℕ). nat_eq number m.number) applied.namespaces n e in
          ⊎_elim (λ old. inl (ap change_in
          (namespace_found world.namespaces given.is.namespaces.one_namespace n old number at)))
          (λ new. inr (ap change_in (none_found new.0 at (found_in world.namespaces) refl)))
          (namespaces_go_on world fresh task permit n
          (found_among (λ (m : Namespace ℕ). nat_eq number m.number) applied.namespaces n e))
        where
          none_found : n.number ≡ fresh (2 * 0) → nat_eq number n.number ≡ true → (o : Option (Namespace ℕ))
              → found_in world.namespaces ≡ o → found_in world.namespaces ≡ None
          none_found new at None f = f
          none_found new at (Some m) f =
              let among : Among m world.namespaces =
              found_among (λ (x : Namespace ℕ). nat_eq number x.number) world.namespaces m f in
              let same : fresh (2 * 0) ≡ m.number = sym new ∙ sym (eqb-true number n.number at)
              ∙ eqb-true number m.number
              (found_passes (λ (x : Namespace ℕ). nat_eq number x.number) world.namespaces m f) in
              absurd (true≢false (sym (eq-eqb (fresh (2 * 0)) m.number same)
              ∙ unused_number world fresh given.serves (2 * 0) m.number
              (among-append_right _ (map (λ (x : Namespace ℕ). x.number) world.namespaces) m.number
              (among-map (λ (x : Namespace ℕ). x.number) world.namespaces m among))))

      pub granted_keeps : IsNamespaceUnraised world later number
          → mounts_of nat_eq later number ≡ mounts_of nat_eq world number
      granted_keeps unraised = by (found_in applied.namespaces) refl
        where
          held : ℕ
          held = namespace_change_of nat_eq world number

          same_now : (held ≡ namespace_change_of nat_eq later number)
              × (namespace_change_of nat_eq later number ≢ last_number)
          same_now = not_stale held (namespace_change_of nat_eq later number) unraised

          now_is : namespace_change_of nat_eq later number ≡ change_in (option_map raise (found_in applied.namespaces))
          now_is = ap change_in (found_map (λ (n : Namespace ℕ). n.number) raise number applied.namespaces raise_number)

          kept : (n : Namespace ℕ) → nat_eq number n.number ≡ true → (change_in (found_in world.namespaces) ≡ n.change)
              → (b : Bool) → same_mounts_in nat_eq world (settled nat_eq applied) n.number ≡ b
              → namespace_change_of nat_eq later number ≡ (cond b n (record n { change = raised n.change })).change
              → mounts_of nat_eq later number ≡ mounts_of nat_eq world number
          kept n at old false e now = absurd (rises n.change (λ most. same_now.1 (cc (same_now.0)))
              (cc (same_now.0)))
          kept n at old true e now =
              let same : n.number ≡ number = sym (eqb-true number n.number at) in
              lists_same world (settled nat_eq applied)
              (swept_show_alike call given.is given.serves called granted) number
              (mounts_of nat_eq world number) (mounts_of nat_eq (settled nat_eq applied) number)
              (λ x m. among-from_filter (λ (mount : Mount ℕ). holds_of (nat_eq number) mount.namespace) world.mounts x
              m)
              (λ y m. among-from_filter (λ (mount : Mount ℕ). holds_of (nat_eq number) mount.namespace)
              (settled nat_eq applied).mounts y m)
              (cc)

          by : (o : Option (Namespace ℕ)) → found_in applied.namespaces ≡ o
              → mounts_of nat_eq later number ≡ mounts_of nat_eq world number
          by o e = grind (arith, common_steps, same_now, now_is, kept, found_passes, was_there)

      -- so it is where the call is judged
      pub call_keeps : IsNamespaceUnraised world
          (finished_unless nat_eq false world name changed (call_outcome nat_eq fresh world task call)).world number
          → mounts_of nat_eq
          (finished_unless nat_eq false world name changed (call_outcome nat_eq fresh world task call)).world number
          ≡ mounts_of nat_eq world number
      call_keeps =
          let outcome : call_outcome nat_eq fresh world task call ≡ apply nat_eq fresh world task permit =
          call_is_judged_then_applied fresh world task call
          ∙ ap (λ j. after world j (apply nat_eq fresh world task)) granted in
          subst (λ (o : Outcome ℕ). IsNamespaceUnraised world (finished_unless nat_eq false world name changed o).world
          number
          → mounts_of nat_eq (finished_unless nat_eq false world name changed o).world number ≡ mounts_of nat_eq world
          number)
          (sym outcome) granted_keeps

pub unraised_namespaces_keep_mounts : UnraisedNamespacesKeepMounts
unraised_namespaces_keep_mounts world fresh name call number given = policy_leads
    (λ later. IsNamespaceUnraised world later number → mounts_of nat_eq later number ≡ mounts_of nat_eq world number)
    world fresh name call (λ same. refl) (λ task permit changed called granted.
    call_keeps world fresh given number name call changed called granted)
