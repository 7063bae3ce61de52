-- Where copies come at a mount of a sealed set and at its receivers, others are as they were.
use Rattle.std.proofs.Common.{arith, ◌≡◌, refl, sym, ap, subst, ◌∙◌, inr, ⊎_elim, ℕ, nat_eq, true, false, List, ◌++◌, append_assoc, Option, Some, map}
use Rattle.vt_spec.proofs.Common.{Among, Copies, Fresh, Mount, Serves, TaskName, World, among-filter, attached_by, common_steps, folded, is_own_mount, masters_with, source_of}
use Rattle.vt_laws_containers.proofs.Common.{AttachesTheirs, Grows, IsNewBy, ShowTheirs, all_copies, base, copies, copies_grow, grown_world, made, of_copies, own_how, parts, push, push_keeps}
use Rattle.vt_laws_containers.proofs.footholds.AsBefore.{OthersAsBefore}
use Rattle.vt_laws_containers.proofs.attached_apart.CopiesHear.{copy_ours, made_ours}
use Rattle.vt_laws_containers.proofs.attached_apart.GroupsApart.{Ours, groups_apart, source_ours}
use Rattle.vt_laws_containers.proofs.attached_apart.GrownAsBefore.{grown_as_before}

module _ {world : World ℕ} {names : List TaskName} {attaching : AttachesTheirs world names} {fresh : Fresh ℕ}
    (serves : Serves nat_eq world fresh) {new : Copies ℕ} {origins : List (Mount ℕ)}
    (new_groups : (a b : ℕ) → IsNewBy fresh (new.image a b))
    (sources : (o : Mount ℕ) → Among o origins → (g : ℕ) → source_of o.propagation ≡ Some g
    → Ours attaching.sealing fresh serves g)
    (shows : ShowTheirs attaching new false origins) where
  abbrev IsOurs : ℕ → Type 0
  IsOurs = Ours attaching.sealing fresh serves

  abbrev to : World ℕ
  to = base attaching

  abbrev up : Mount ℕ → Mount ℕ
  up = push attaching new false origins

  abbrev added : List (Mount ℕ)
  added = all_copies attaching new false origins

  abbrev formed : List (ℕ × Option ℕ)
  formed = made attaching new false origins

  abbrev masters : ℕ → Option ℕ
  masters = folded (masters_with nat_eq) world.master formed

  grows : Grows world names up added attaching.new_ones masters
  grows = copies_grow attaching new false origins shows masters

  sourced : (y : Mount ℕ) → Among y (map up world.mounts ++ added) → is_own_mount nat_eq world names y ≡ true
      → (g : ℕ) → source_of y.propagation ≡ Some g → IsOurs g
  sourced y m mine g e = ⊎_elim (λ old. source_ours attaching.sealing fresh serves old.0
      (among-filter (is_own_mount nat_eq world names) world.mounts old.0 old.1 old.2) g
      (sym (ap (λ (x : Mount ℕ). source_of x.propagation) old.3
      ∙ push_keeps attaching new false origins (λ (x : Mount ℕ). source_of x.propagation) (λ x at. refl) old.0) ∙ e))
      (λ more. let of = of_copies attaching new false origins y more in
      copy_ours to new attaching.place false origins IsOurs (λ a b. inr (new_groups a b)) sources of.0 of.2 of.3 g
      (cc (of.4)))
      (own_how grows y m mine)

  as_grown : attached_by nat_eq to new attaching.place false origins ≡ grown_world world names up added
      attaching.new_ones masters
  as_grown = grind (arith, common_steps, append_assoc, copies, parts)

  pub copies_as_before : OthersAsBefore world (attached_by nat_eq to new attaching.place false origins) names names
  copies_as_before = subst (λ w. OthersAsBefore world w names names) (sym as_grown)
      (grown_as_before attaching.sealing grows
      (groups_apart attaching.sealing fresh serves formed grows sourced
      (made_ours to new attaching.place false origins IsOurs (λ a b. inr (new_groups a b)) sources)))
