-- The events of a lazy unmount of a mount of theirs detach the same mounts in the part, and all of them are theirs.
use Rattle.std.proofs.Common.{◌≡◌, refl, sym, ap, subst, ◌∙◌, ⊎_elim, inl, inr, ℕ, nat_eq, Bool, true, false, cond, List, [], ◌∷◌, ◌++◌, is_some, append-nil, append_assoc}
use Rattle.vt_spec.proofs.Common.{Among, Mount, MountInvariants, Task, TaskName, World, among-filter, among-from_map, among-map, among_numbers, folded, going, is_going, is_own_mount, list_any-append, members, mount_numbered, or_cases, own_mounts, part_of, taken_away, unmounted_if_there, without_dead_groups}
use Rattle.vt_laws_members.proofs.Common.{IsSealed, IsUnderWay, found_itself, is_own, next, nothing_taken, numbered, same_members}
use Rattle.vt_laws_members.proofs.changes.Common.{TheirsGo, all_stay, ended_less, ended_mount, group_lost, left_by, mount_alike, one_part, own_before, own_in_part, part_after, part_mounts, part_taken, placed_so, shape_kept, world_after, world_taken}
use Rattle.vt_laws_members.proofs.detached.lazily.Apart.{apart_here, apart_there}
use Rattle.vt_laws_members.proofs.detached.lazily.Cleared.{cleared_keeps, going_same, keeps_before}
use Rattle.vt_laws_members.proofs.detached.lazily.GoingAlike.{going_alike, going_own}
use Rattle.vt_laws_members.proofs.detached.lazily.Heirs.{nothing_lost}
use Rattle.vt_laws_members.proofs.detached.lazily.TakenTwice.{taken_twice}

-- where nothing goes, nothing changes
none_gone : (w : World ℕ) → MountInvariants nat_eq w → taken_away nat_eq w [] ≡ w
none_gone w kept = cc (nothing_taken w, nothing_lost w kept.groups)

-- worlds that differ in dead groups
abbrev pub SameButGroups : World ℕ → World ℕ → Type 0
SameButGroups one other = without_dead_groups nat_eq one ≡ without_dead_groups nat_eq other

pub kept_but_groups : (one other : World ℕ) → SameButGroups one other → MountInvariants nat_eq one
    → MountInvariants nat_eq other
kept_but_groups one other same kept = keeps_before other (rw (← same) (cleared_keeps one kept))

going_but_groups : (one other : World ℕ) → SameButGroups one other → MountInvariants nat_eq one → (mount : Mount ℕ)
    → going nat_eq one mount ≡ going nat_eq other mount
going_but_groups one other same kept mount =
    cc (going_same one kept mount, going_same other (kept_but_groups one other same kept) mount)

-- what is left if these mounts went already
pub record TookAway (start now : World ℕ) (gone : List ℕ) : Type 0 where
  pub kept : MountInvariants nat_eq now
  pub at_once : (more : List ℕ) → SameButGroups (taken_away nat_eq now more) (taken_away nat_eq start (gone ++ more))

pub took_none : (start : World ℕ) → MountInvariants nat_eq start → TookAway start start []
took_none start kept = record { kept = kept; at_once = λ more. refl }

pub took : (start now : World ℕ) (gone : List ℕ) → TookAway start now gone
    → SameButGroups now (taken_away nat_eq start gone)
took start now gone it = cc (none_gone now it.kept, it.at_once [], append-nil gone)

takes : (start now : World ℕ) (gone : List ℕ) → TookAway start now gone → (list : List ℕ)
    → MountInvariants nat_eq (taken_away nat_eq now list) → TookAway start (taken_away nat_eq now list) (gone ++ list)
takes start now gone it list kept = record {
  kept = kept;
  at_once = λ more. cc (taken_twice now list more it.kept, it.at_once (list ++ more), append_assoc gone list more);
}

module _ {world : World ℕ} {names : List TaskName} (sealing : IsSealed world names) where
  abbrev theirs : List (Task ℕ)
  theirs = members world names

  abbrev part : World ℕ
  part = part_of nat_eq world names

  -- One event, after these mounts went
  module _ {now now_part : World ℕ} {gone : List ℕ} (go : TheirsGo world names gone) (it : TookAway world now gone)
      (it_there : TookAway part now_part gone) (mount : Mount ℕ) (at : Among mount world.mounts)
      (own : is_own world names theirs mount ≡ true) where
    abbrev b : Bool
    b = group_lost world gone

    abbrev here : World ℕ
    here = world_after go

    abbrev there : World ℕ
    there = part_after go

    abbrev after : Mount ℕ → Mount ℕ
    after = ended_mount b (left_by world gone) world gone

    abbrev after_part : Mount ℕ → Mount ℕ
    after_part = ended_mount b (left_by part gone) part gone

    same_here : SameButGroups now here
    same_here = cc (took world now gone it, world_taken go)

    same_there : SameButGroups now_part there
    same_there = cc (took part now_part gone it_there, part_taken go)

    kept_here : MountInvariants nat_eq here
    kept_here = kept_but_groups now here same_here it.kept

    kept_there : MountInvariants nat_eq there
    kept_there = kept_but_groups now_part there same_there it_there.kept

    mine : Among mount (own_mounts nat_eq world names)
    mine = among-filter (is_own_mount nat_eq world names) world.mounts mount at own

    -- the mount is in both what it is after
    in_there : Among (after mount) there.mounts
    in_there =
        rw (← mount_alike go b mount mine) (among-map after_part part.mounts mount (own_in_part sealing mount mine))

    number_after : (after mount).number ≡ mount.number
    number_after = (shape_kept b (left_by world gone) world gone mount).number

    found_in : (w : World ℕ) → MountInvariants nat_eq w → Among (after mount) w.mounts
        → mount_numbered nat_eq w mount.number ≡ after mount
    found_in w kept m = cc (number_after, found_itself w.mounts kept.one_number (after mount) m)

    is_now : mount_numbered nat_eq now mount.number ≡ after mount
    is_now =
        found_in now it.kept (rw (ap (λ (w : World ℕ). w.mounts) same_here) (among-map after world.mounts mount at))

    is_now_there : mount_numbered nat_eq now_part mount.number ≡ after mount
    is_now_there = found_in now_part it_there.kept (rw (ap (λ (w : World ℕ). w.mounts) same_there) in_there)

    -- a mount that is attached still is theirs
    own_after : is_some (after mount).namespace ≡ true → is_own world names theirs (after mount) ≡ true
    own_after h = ⊎_elim (λ out. cc out.0) (λ stays. cc stays.0) (placed_so b (left_by world gone) world gone mount)

    abbrev list : List ℕ
    list = going nat_eq here (after mount)

    list_here : going nat_eq now (mount_numbered nat_eq now mount.number) ≡ list
    list_here = cc (is_now, going_but_groups now here same_here it.kept (after mount))

    list_there : is_some (after mount).namespace ≡ true
        → going nat_eq now_part (mount_numbered nat_eq now_part mount.number) ≡ list
    list_there h = ap (going nat_eq now_part) is_now_there
        ∙ going_but_groups now_part there same_there it_there.kept (after mount)
        ∙ sym (going_alike there names kept_there (apart_there go b) (after mount) in_there
        (ap (λ ts. is_own world names ts (after mount)) (same_members world names) ∙ own_after h)) ∙ ap
        (λ w. going nat_eq w (after mount)) (one_part sealing.is
        (ended_less (all_stay go b))) ∙ going_alike here names kept_here (apart_here go b) (after mount)
        (among-map after world.mounts mount at) (own_after h)

    own_list : is_some (after mount).namespace ≡ true → TheirsGo world names (gone ++ list)
    own_list h = record {
      sealing = sealing;
      own_go = λ m n goes. ⊎_elim (go.own_go m n) (λ later.
          let its = going_own here names kept_here (apart_here go b) (after mount)
          m.number (among-map after world.mounts mount at) (own_after h) (among_numbers list m.number later) in
          let from = among-from_map after world.mounts its.0 its.1 in
          let was = own_before (all_stay go b) from.0
          (ap (is_own world names theirs) (sym from.2) ∙ its.2) in
          let number : from.0.number ≡ m.number = sym (ap (λ (q : Mount ℕ). q.number) from.2
          ∙ (shape_kept b (left_by world gone) world gone from.0).number) ∙ its.3 in
          let same : from.0 ≡ m =
          sym (numbered world names sealing.is.mounts from.0 from.1) ∙ ap (mount_numbered nat_eq world) number
          ∙ numbered world names sealing.is.mounts m n in
          ap (is_own world names theirs) (sym same) ∙ was.1)
          (or_cases (is_going nat_eq gone m.number) (is_going nat_eq list m.number)
          (sym (list_any-append (nat_eq m.number) gone list) ∙ goes));
    }

    abbrev unmounted_by : World ℕ → Bool → World ℕ
    unmounted_by w c = cond c (taken_away nat_eq w (going nat_eq w (mount_numbered nat_eq w mount.number))) w

    -- so both go on alike
    pub event_alike : MountInvariants nat_eq (unmounted_if_there nat_eq now mount)
        → MountInvariants nat_eq (unmounted_if_there nat_eq now_part mount)
        → (all : List ℕ) × TheirsGo world names all × TookAway world (unmounted_if_there nat_eq now mount) all
        × TookAway part (unmounted_if_there nat_eq now_part mount) all
    event_alike kept kept_too = by (is_some (after mount).namespace) refl (cc is_now) (cc is_now_there) kept kept_too
      where
        by : (c : Bool) → is_some (after mount).namespace ≡ c
            → is_some (mount_numbered nat_eq now mount.number).namespace ≡ is_some (after mount).namespace
            → is_some (mount_numbered nat_eq now_part mount.number).namespace ≡ is_some (after mount).namespace
            → MountInvariants nat_eq (unmounted_by now (is_some (mount_numbered nat_eq now mount.number).namespace))
            → MountInvariants nat_eq
            (unmounted_by now_part (is_some (mount_numbered nat_eq now_part mount.number).namespace))
            → (all : List ℕ) × TheirsGo world names all
            × TookAway world (unmounted_by now (is_some (mount_numbered nat_eq now mount.number).namespace)) all
            × TookAway part (unmounted_by now_part (is_some (mount_numbered nat_eq now_part mount.number).namespace))
            all
        by true e f g k l =
            let taken : unmounted_by now (is_some (mount_numbered nat_eq now mount.number).namespace)
            ≡ taken_away nat_eq now list = cc list_here in
            let taken_too : unmounted_by now_part (is_some (mount_numbered nat_eq now_part mount.number).namespace)
            ≡ taken_away nat_eq now_part list =
            cc (list_there e) in (
              gone ++ list,
              own_list e,
              rw taken (takes world now gone it list (subst (MountInvariants nat_eq) taken k)),
              rw taken_too (takes part now_part gone it_there list (subst (MountInvariants nat_eq) taken_too l)),
            )
        by false e f g k l = (
          gone,
          go,
          rw (ap (unmounted_by now) (f ∙ e)) it,
          rw (ap (unmounted_by now_part) (g ∙ e)) it_there,
        )

  -- All events
  pub events_alike : (number : ℕ) (events : List (Mount ℕ)) (now now_part : World ℕ) (gone : List ℕ)
      → IsUnderWay world sealing.is.mounts number now events
      → IsUnderWay part (part_mounts sealing) number now_part events
      → TheirsGo world names gone → TookAway world now gone → TookAway part now_part gone
      → ((m : Mount ℕ) → Among m events → Among m world.mounts × (is_own world names theirs m ≡ true))
      → (all : List ℕ) × TheirsGo world names all × TookAway world (folded (unmounted_if_there nat_eq) now events) all
      × TookAway part (folded (unmounted_if_there nat_eq) now_part events) all
  events_alike number [] now now_part gone way way_too go it it_there owned = (gone, go, it, it_there)
  events_alike number (mount ∷ rest) now now_part gone way way_too go it it_there owned =
      let next_way = next world sealing.is.mounts number now mount rest way in
      let next_too = next part (part_mounts sealing) number now_part mount rest way_too in
      let its = owned mount (inl refl) in
      let both = event_alike go it it_there mount its.0 its.1 next_way.kept next_too.kept in
      events_alike number rest _ _ both.0 next_way next_too both.1 both.2 both.3 (λ m n. owned m (inr n))
