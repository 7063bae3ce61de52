use Rattle.std.proofs.Common.{Bool, Some, false, ap, lt-ltb, nat_lt, option_map, refl, subst, sym, true≢false, ℕ, ◌&&◌, ◌<◌, ◌≡◌, ◌∙◌, unwrap_or}
use Rattle.vt_spec.proofs.Common.{option_copied_mut}
use Rattle.vt_location.specs.Numbers.{counted}
use Rattle.vt_mount.specs.Indexed.{IsIndexed}
use Rattle.vt_mount.specs.MountsValue.{changed, entries_of, held, held_kept, in_order, released}
use Rattle.vt_mount.proofs.WriteLemmas.{entries-unwritten, entries-written, indexed-written, is-written, not-written, released-all}
use Rattle.vt_mount.proofs.EntryLemmas.{entry-found}
use Rattle.vt_mount.proofs.mounts.Mounts.hold.Goals as goal
use Rattle.vt_mount.proofs.mounts.Mounts.hold.Goals.{in-Some+else-not-has_room, in_default}

pub invariant_of-self-2 : goal.invariant_of-self-2
invariant_of-self-2 c =
    let map = c.self.inside.by_number in
    let change = held_kept c.args.writes in
    elim c.match-get_mut.branch [
      | in-Some+else-not-has_room w ↦
          subst (λ inside. IsIndexed inside.indexes (in_order inside.by_number.entries)) (sym w.self-inside-is)
          (indexed-written c.args.id change (λ one. refl) (λ one. refl) _ map.entries _
          (is-written c.args.id change map _ w.in-Some.kept.now _
          (sym c.get_mut.ensures.value ∙ ap option_copied_mut w.in-Some.is) w.hold.ensures (c.get_mut.follows.holds _))
          c.self.invariant)
      | in_default w ↦
          subst (λ inside. IsIndexed inside.indexes (in_order inside.by_number.entries)) (sym w.self-inside-is)
          (indexed-written c.args.id change (λ one. refl) (λ one. refl) _ map.entries _
          (not-written c.args.id change map _ (sym c.get_mut.ensures.value ∙ ap option_copied_mut w.in_default.is)
          (ap (λ map. map.entries) c.get_mut.follows.holds-at-none)) c.self.invariant)
    ]

pub returns-clause-ok : goal.returns-clause-ok
returns-clause-ok c =
    let map = c.self.inside.by_number in
    let change = held_kept c.args.writes in
    elim c.match-get_mut.branch [
      | in-Some+else-not-has_room w ↦ ap (λ inside. entries_of inside.by_number.entries) w.self-inside-is
          ∙ entries-written c.args.id change (held c.args.writes) map.entries _ _ (λ n one. refl)
          (is-written c.args.id change map _ w.in-Some.kept.now _
          (sym c.get_mut.ensures.value ∙ ap option_copied_mut w.in-Some.is) w.hold.ensures (c.get_mut.follows.holds _))
          c.self.view_is
      | in_default w ↦ ap (λ inside. entries_of inside.by_number.entries) w.self-inside-is
          ∙ entries-written c.args.id change (held c.args.writes) map.entries _ _ (λ n one. refl)
          (not-written c.args.id change map _ (sym c.get_mut.ensures.value ∙ ap option_copied_mut w.in_default.is)
          (ap (λ map. map.entries) c.get_mut.follows.holds-at-none)) c.self.view_is
    ]

pub invariant_of-self : goal.invariant_of-self
invariant_of-self c =
    let map = c.self.inside.by_number in
    indexed-written c.args.id (λ one. one) (λ one. refl) (λ one. refl) _ map.entries _
    (is-written c.args.id (λ one. one) map _ c.in-Some.kept.now _
    (sym c.get_mut.ensures.value ∙ ap option_copied_mut c.in-Some.is) refl (c.get_mut.follows.holds _)) c.self.invariant

pub returns-then-not-has_room-clause-err : goal.returns-then-not-has_room-clause-err
returns-then-not-has_room-clause-err c =
    let map = c.self.inside.by_number in
    entries-unwritten c.args.id map.entries _ _ (is-written c.args.id (λ one. one) map _ c.in-Some.kept.now _
    (sym c.get_mut.ensures.value ∙ ap option_copied_mut c.in-Some.is) refl (c.get_mut.follows.holds _)) c.self.view_is

full : (a b most : ℕ) (r : Bool) → r ≡ (nat_lt a most && nat_lt b most) → r ≡ false → a < most → b < most → ⊥
full a b most r is refused few others =
    true≢false (sym (is ∙ (λ i. lt-ltb a most few i && lt-ltb b most others i)) ∙ refused)

pub returns-then-not-has_room-clause-few : goal.returns-then-not-has_room-clause-few
returns-then-not-has_room-clause-few c =
    let there = entry-found c.args.id c.self.inside.by_number.entries _ (Some c.in-Some.kept.now) c.self.view_is
    (sym c.get_mut.ensures.value ∙ ap option_copied_mut c.in-Some.is) in
    λ few others.
    absurd (full c.in-Some.kept.now.uses c.in-Some.kept.now.writers 18446744073709551615 c.has_room.result c.has_room.ensures c.if-not-has_room.true
    (subst (λ n. n < 18446744073709551615)
    (sym (ap (λ entry. unwrap_or (option_map (λ entry. entry.uses) entry) 0) there)) few)
    (subst (λ n. n < 18446744073709551615)
    (sym (ap (λ entry. unwrap_or (option_map (λ entry. entry.writers) entry) 0) there)) others))

pub returns-clause-undone : goal.returns-clause-undone
returns-clause-undone c = ap (changed (counted c.args.id.count) (released c.args.writes)) (returns-clause-ok c)
    ∙ released-all (counted c.args.id.count) c.args.writes _
