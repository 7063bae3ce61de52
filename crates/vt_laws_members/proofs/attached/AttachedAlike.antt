-- Where copies come at a mount of theirs and at its receivers, the worlds that are left have one part.
use Rattle.std.proofs.Common.{arith, ◌≡◌, refl, sym, ap, ◌∙◌, ⊎_elim, ℕ, nat_eq, Bool, true, false, cond, List, [], ◌++◌, Option, Some, None, append_assoc, filter, map}
use Rattle.vt_spec.proofs.Common.{Among, Copies, Filesystem, Mount, Task, TaskName, World, among-filter, among-from_filter, any_among, attached_by, common_steps, folded, is_member_of, is_own_mount, list_any, master_above, masters_with, members, numbers_raised, own_mounts, part_of, part_of_master, source_of}
use Rattle.vt_laws_members.proofs.Common.{IsSealed, is_own, member_group, same_members, same_own, source_from_group}
use Rattle.vt_laws_members.proofs.changes.Common.{heard_by_own, master_same}
use Rattle.vt_laws_members.proofs.changes.part.PartAgain.{part_again}
use Rattle.vt_laws_members.proofs.attached.CopiesAlike.{AttachesTheirs, attached_as, attached_there, base, base_part, copies, made, masters_agree, parts, push}
use Rattle.vt_laws_members.proofs.attached.GrownPart.{Grows, grown_world, own_how, part_grown}
use Rattle.vt_laws_members.proofs.attached.KnownMasters.{copy_known}
use Rattle.vt_laws_members.proofs.attached.PartGrows.{part_grows}
use Rattle.vt_laws_members.proofs.attached.PushedUp.{ShowTheirs, all_copies, copies_grow, of_copies, push_keeps}
use Rattle.vt_laws_members.proofs.attached.RaisedAlike.{parts_left}

-- a world and its part grow alike, if the masters of what is theirs then are the same in both
module _ {world : World ℕ} {names : List TaskName} (sealing : IsSealed world names) {change : Mount ℕ → Mount ℕ}
    {added : List (Mount ℕ)} {new_ones : List (Filesystem ℕ)} {master : ℕ → Option ℕ} (master_too : ℕ → Option ℕ)
    (grows : Grows world names change added new_ones master)
    (known : (y : Mount ℕ) → Among y (map change world.mounts ++ added)
    → is_own world names (members world names) y ≡ true → (g : ℕ) → source_of y.propagation ≡ Some g
    → master_too g ≡ master g) where
  abbrev part : World ℕ
  part = part_of nat_eq world names

  abbrev theirs : List (Task ℕ)
  theirs = members world names

  abbrev pub u : World ℕ
  u = grown_world world names change added new_ones master

  abbrev pub u_part : World ℕ
  u_part = grown_world part names change added new_ones master_too

  abbrev grown_by : World ℕ → (ℕ → Option ℕ) → World ℕ
  grown_by w above = record w {
    mounts = map change w.mounts ++ added;
    master = above;
    filesystems = w.filesystems ++ new_ones;
  }

  of_world : part_of nat_eq u names ≡ grown_by part (part_of_master nat_eq u names)
  of_world = part_grown grows

  of_part : part_of nat_eq u_part names ≡ grown_by part (part_of_master nat_eq u_part names)
  of_part = cc (part_grown (part_grows sealing.is master_too grows), part_again world names sealing.is)

  pub own_alike : own_mounts nat_eq u_part names ≡ own_mounts nat_eq u names
  own_alike = sym (same_own u_part names)
      ∙ ap (λ ts. filter (is_own world names ts) (part_of nat_eq u_part names).mounts)
      (same_members u_part names ∙ same_members world names ∙ sym (same_members u names))
      ∙ ap (filter (is_own world names (members (part_of nat_eq u names) names)))
      (ap (λ (w : World ℕ). w.mounts) of_part ∙ sym (ap (λ (w : World ℕ). w.mounts) of_world)) ∙ same_own u names

  pub masters_alike : part_of_master nat_eq u_part names ≡ part_of_master nat_eq u names
  masters_alike = ap (λ l. λ (group : ℕ). cond (list_any (is_member_of nat_eq group) l) (master_too group) None)
      own_alike ∙ (λ i group. by group _ refl i)
    where
      by : (group : ℕ) (b : Bool) → list_any (is_member_of nat_eq group) (own_mounts nat_eq u names) ≡ b
          → cond b (master_too group) None ≡ cond b (master group) None
      by group true e =
          let y = any_among (is_member_of nat_eq group) (own_mounts nat_eq u names) e in
          let own = among-from_filter (is_own_mount nat_eq u names) u.mounts y.0 y.1 in
          known y.0 own.0 own.1 group (source_from_group y.0.propagation group (member_group group y.0 y.2))
      by group false e = refl

  pub one_part : part_of nat_eq u_part names ≡ part_of nat_eq u names
  one_part = cc (of_part, masters_alike, of_world)

  above_alike : (m : Mount ℕ) → Among m u.mounts → is_own world names theirs m ≡ true
      → master_above u_part m ≡ master_above u m
  above_alike m n own = grind (arith, common_steps, known)

  pub grown_alike : (name : TaskName) → part_of nat_eq (numbers_raised nat_eq world name [] u) names
      ≡ part_of nat_eq (numbers_raised nat_eq part name [] u_part) names
  grown_alike name = parts_left sealing u.mounts u_part.mounts master master_too _ _ one_part above_alike name

-- So it is where copies come.
module _ {world : World ℕ} {names : List TaskName} (attaching : AttachesTheirs world names) {new : Copies ℕ}
    {origins : List (Mount ℕ)} (new_groups : (a b : ℕ) → world.master (new.image a b) ≡ None) (sources : (o : Mount ℕ)
    → Among o origins → (g : ℕ) → source_of o.propagation ≡ Some g
    → (part_of nat_eq world names).master g ≡ world.master g) (shows : ShowTheirs attaching new false origins) where
  abbrev up : Mount ℕ → Mount ℕ
  up = push attaching new false origins

  abbrev added : List (Mount ℕ)
  added = all_copies attaching new false origins

  abbrev with_made : (ℕ → Option ℕ) → ℕ → Option ℕ
  with_made above =
      folded (masters_with nat_eq) above (made attaching new false origins)

  pub grows : Grows world names up added attaching.new_ones (with_made world.master)
  grows = copies_grow attaching new false origins shows (with_made world.master)

  known : (y : Mount ℕ) → Among y (map up world.mounts ++ added)
      → is_own world names (members world names) y ≡ true → (g : ℕ) → source_of y.propagation ≡ Some g
      → with_made (part_of nat_eq world names).master g ≡ with_made world.master g
  known y m mine g e = masters_agree (made attaching new false origins) (part_of nat_eq world names).master world.master
      g (⊎_elim (λ old. master_same attaching.sealing g (heard_by_own attaching.sealing old.0
      (among-filter (is_own_mount nat_eq world names) world.mounts old.0 old.1 old.2) g
      (cc (
        old.3,
        push_keeps attaching new false origins (λ (x : Mount ℕ). source_of x.propagation) (λ x at. refl)
            old.0,
      )))) (λ more. let of = of_copies attaching new false origins y more in copy_known attaching new false origins
      new_groups sources of.0 of.2 of.3 g (cc of.4)) (own_how grows y m mine))

  -- the worlds that are left
  as_grown : (w : World ℕ) → attached_as attaching new false origins w
      ≡ grown_world w names up added attaching.new_ones (with_made w.master)
  as_grown w = grind (arith, common_steps, append_assoc, copies, parts)

  pub copies_alike : (name : TaskName) → part_of nat_eq (numbers_raised nat_eq world name []
      (attached_by nat_eq (base attaching) new attaching.place false origins)) names ≡ part_of nat_eq
      (numbers_raised nat_eq (part_of nat_eq world names) name []
      (attached_by nat_eq (base_part attaching) new attaching.place false origins)) names
  copies_alike name = ap (λ w. part_of nat_eq (numbers_raised nat_eq world name [] w) names) (as_grown world)
      ∙ grown_alike attaching.sealing (with_made (part_of nat_eq world names).master) grows known name ∙ sym
      (ap (λ w. part_of nat_eq (numbers_raised nat_eq (part_of nat_eq world names) name [] w) names)
      (attached_there attaching new false origins ∙ as_grown (part_of nat_eq world names)))
