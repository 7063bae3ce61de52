-- Calls of theirs are judged by the part alone, with the limit of mounts.
use Rattle.std.proofs.Common.{◌≡◌, refl, sym, ap, ◌∙◌, ℕ, nat_eq, Bool, true, false, not, List, [], ◌++◌, ◌∷◌, Option, Some, None, Ok, ◌&&◌, ◌||◌, is_some}
use Rattle.vt_spec.proofs.Common.{Among, Bind, Call, Exclusive, Fresh, Here, Judgement, LayerLocations, Location, Looks, Mount, MountFlags, MountOverlay, MountPlain, MoveMount, NoCreation, OpenFile, OrCreate, OverlayWords, Permit, Rules, Task, TaskName, ToBind, ToMountOverlay, ToMountPlain, ToMove, World, admin_rules, among_from_contains, and_then, bind_rules, destination_walk, has_shared_parent, is_among, is_elsewhere, is_no_root, is_shared, is_unbindable, judge, judging, layer_rules, layers_walked, list_any, looks_of, members, mount_numbered, move_rules, new_mount_rules, or_parts, overfills, overlay_at, part_of, source_walk, unless, used_filesystems, walk_end}
use Rattle.vt_spec.proofs.Given.{joined_tables}
use Rattle.vt_laws_members.proofs.Common.{Agree, M10, M2, M3, M4, M5, M6, M7, M9, is_own, mount_at, sealed_by}
use Rattle.vt_laws_members.proofs.judging.TheirCalls.{IsMember, a_member}
use Rattle.vt_laws_members.specs.Judging.{MembersAreJudgedByTheirPart, is_theirs}
use Rattle.vt_laws_members.proofs.judging.AllJudged.{judges, members_are_judged_alike, owned}
use Rattle.vt_laws_members.proofs.judging.Grounds.{IsTheirs, its_mount, theirs_from}
use Rattle.vt_laws_members.proofs.judging.Judged.{JudgesAlike, leads_alike}
use Rattle.vt_laws_members.proofs.judging.Overfilled.{bind_overfills, move_overfills, overlay_overfills, plain_overfills}
use Rattle.vt_laws_members.proofs.judging.WalksLead.{HereAt, destination_agrees, judged_alike, source_agrees}

-- a later rule is not asked where the first one fails
asked_later : (first : Bool) (a b : Bool) (rest : Bool → Rules) (r : Judgement ℕ) → (first ≡ false → a ≡ b)
    → unless ((first, M2) ∷ rest a) r ≡ unless ((first, M2) ∷ rest b) r
asked_later true a b rest r same = refl
asked_later false a b rest r same = cc (same refl)

module _ {world : World ℕ} {names : List TaskName} {task : Task ℕ} (member : IsMember world names task)
    (fresh other : Fresh ℕ) where
  abbrev part : World ℕ
  part = part_of nat_eq world names

  abbrev one : Looks ℕ
  one = looks_of nat_eq world

  abbrev own : ℕ → Bool
  own = is_theirs world names

  abbrev On : ℕ → Type 0
  On number = own number ≡ true

  abbrev full : Permit ℕ → Bool
  full = overfills nat_eq fresh world task

  abbrev full_too : Permit ℕ → Bool
  full_too = overfills nat_eq other part task

  alike : JudgesAlike one (looks_of nat_eq part) task own
      (λ number. is_among nat_eq number (used_filesystems nat_eq world names))
  alike = judges member

  abbrev StandsThere : Here ℕ → Type 0
  StandsThere = HereAt (leads_alike alike)

  at_source : (path : List ℕ) → Agree StandsThere (source_walk nat_eq one task path) (source_walk nat_eq one task path)
  at_source path = (refl, (source_agrees (leads_alike alike) path).1)

  at_destination : (path : List ℕ)
      → Agree StandsThere (destination_walk nat_eq one task path) (destination_walk nat_eq one task path)
  at_destination path = (
    refl,
    (destination_agrees (leads_alike alike) path).1,
  )

  theirs : (here : Location ℕ) → On here.mount → IsTheirs world names member.is.mounts here.mount
  theirs here on = theirs_from world names member.is.mounts here.mount on

  there : (here : Location ℕ) → On here.mount → Among (mount_numbered nat_eq world here.mount) world.mounts
  there here on = let at = theirs here on in rw (its_mount world names member.is.mounts here.mount at) at.1

  its : (here : Location ℕ) → is_elsewhere nat_eq one task here ≡ false
      → is_own world names (members world names) (mount_numbered nat_eq world here.mount) ≡ true
  its here apart = owned member here apart

  plain_limited : (path : List ℕ) (flags : MountFlags)
      → judge nat_eq one full task (MountPlain path flags) ≡ judge nat_eq one full_too task (MountPlain path flags)
  unfolding judging
  plain_limited path flags = cc (judged_alike StandsThere (destination_walk nat_eq one task path)
      (destination_walk nat_eq one task path) (λ here. unless
      (new_mount_rules nat_eq one task here.location (full (ToMountPlain here.location flags)))
      (Ok (ToMountPlain here.location flags)))
      (λ here. unless (new_mount_rules nat_eq one task here.location (full_too (ToMountPlain here.location flags)))
      (Ok (ToMountPlain here.location flags))) (at_destination path) (λ here on. asked_later
      (is_elsewhere nat_eq one task here.location) (full (ToMountPlain here.location flags)) (full_too
      (ToMountPlain here.location flags)) (λ b. (b, M9) ∷ []) (Ok (ToMountPlain here.location flags))
      (λ apart. plain_overfills member.sealing here.location (there here.location on)
      (its here.location apart) fresh other task flags)))

  overlay_limited_at : (here : Location ℕ) → On here.mount → (flags : MountFlags) (layers : LayerLocations ℕ)
      → let permit = ToMountOverlay here (overlay_at one task layers) flags in
      unless (layer_rules nat_eq one layers (overlay_at one task layers)
      ++ new_mount_rules nat_eq one task here (full permit)) (Ok permit)
      ≡ unless (layer_rules nat_eq one layers (overlay_at one task layers)
      ++ new_mount_rules nat_eq one task here (full_too permit)) (Ok permit)
  overlay_limited_at here on flags layers =
      let permit = ToMountOverlay here (overlay_at one task layers) flags in
      let rules = layer_rules nat_eq one layers (overlay_at one task layers) in
      sym (joined_tables rules (new_mount_rules nat_eq one task here (full permit)) (Ok permit))
      ∙ ap (unless rules) (asked_later (is_elsewhere nat_eq one task here) (full permit) (full_too permit)
      (λ b. (b, M9) ∷ []) (Ok permit) (λ apart. overlay_overfills member.sealing here
      (there here on) (its here apart) fresh other task (overlay_at one task layers) flags))
      ∙ joined_tables rules (new_mount_rules nat_eq one task here (full_too permit)) (Ok permit)

  overlay_limited : (path : List ℕ) (options : Option OverlayWords) (flags : MountFlags)
      → judge nat_eq one full task (MountOverlay path options flags)
      ≡ judge nat_eq one full_too task (MountOverlay path options flags)
  unfolding judging
  overlay_limited path None flags = refl
  overlay_limited path (Some words) flags = ap (unless (admin_rules task))
      (judged_alike StandsThere (destination_walk nat_eq one task path) (destination_walk nat_eq one task path)
      (λ here. and_then (layers_walked nat_eq one task words) (laid_by full here))
      (λ here. and_then (layers_walked nat_eq one task words) (laid_by full_too here)) (at_destination path)
      (λ here on. λ i. and_then (layers_walked nat_eq one task words)
      (λ layers. overlay_limited_at here.location on flags layers i)))
    where
      laid_by : (Permit ℕ → Bool) → Here ℕ → LayerLocations ℕ → Judgement ℕ
      laid_by overfull here layers =
          let permit = ToMountOverlay here.location (overlay_at one task layers) flags in
          unless (layer_rules nat_eq one layers (overlay_at one task layers)
          ++ new_mount_rules nat_eq one task here.location (overfull permit)) (Ok permit)

  bind_limited : (source path : List ℕ) (recursive : Bool) → judge nat_eq one full task (Bind source path recursive)
      ≡ judge nat_eq one full_too task (Bind source path recursive)
  unfolding judging
  bind_limited source path recursive = ap (unless (admin_rules task))
      (judged_alike StandsThere (source_walk nat_eq one task source) (source_walk nat_eq one task source)
      (λ from. and_then (walk_end (destination_walk nat_eq one task path)) (bound_by full from))
      (λ from. and_then (walk_end (destination_walk nat_eq one task path)) (bound_by full_too from)) (at_source source)
      (λ from at.
      judged_alike StandsThere (destination_walk nat_eq one task path) (destination_walk nat_eq one task path)
      (bound_by full from) (bound_by full_too from) (at_destination path) (λ here on.
      asked_later (is_elsewhere nat_eq one task from.location || is_elsewhere nat_eq one task here.location)
      (full (ToBind from.location here.location recursive)) (full_too (ToBind from.location here.location recursive))
      (λ b. (is_unbindable (mount_at one from.location).propagation, M3) ∷ (b, M9) ∷ [])
      (Ok (ToBind from.location here.location recursive)) (λ apart. bind_overfills member.sealing here.location
      (there here.location on) (its here.location (or_parts (is_elsewhere nat_eq one task from.location)
      (is_elsewhere nat_eq one task here.location) apart).1) fresh other task from.location recursive
      (theirs from.location at)))))
    where
      bound_by : (Permit ℕ → Bool) → Here ℕ → Here ℕ → Judgement ℕ
      bound_by overfull from here = unless (bind_rules nat_eq one task from.location here.location
          (overfull (ToBind from.location here.location recursive))) (Ok (ToBind from.location here.location recursive))

  move_limited : (source path : List ℕ)
      → judge nat_eq one full task (MoveMount source path) ≡ judge nat_eq one full_too task (MoveMount source path)
  unfolding judging
  move_limited source path = ap (unless (admin_rules task))
      (judged_alike StandsThere (source_walk nat_eq one task source) (source_walk nat_eq one task source)
      (λ from. and_then (walk_end (destination_walk nat_eq one task path)) (moved_by full from))
      (λ from. and_then (walk_end (destination_walk nat_eq one task path)) (moved_by full_too from)) (at_source source)
      (λ from at.
      judged_alike StandsThere (destination_walk nat_eq one task path) (destination_walk nat_eq one task path)
      (moved_by full from) (moved_by full_too from) (at_destination path) (λ here on.
      asked_later (is_elsewhere nat_eq one task from.location || is_elsewhere nat_eq one task here.location)
      (full (ToMove from.location.mount here.location)) (full_too (ToMove from.location.mount here.location))
      (λ b. (has_shared_parent one from.location, M4) ∷ (
        is_shared (mount_at one here.location).propagation
            && list_any (λ (mount : Mount ℕ). is_unbindable mount.propagation) (one.mount_tree from.location.mount),
        M5,
      ) ∷ (
        list_any (λ (mount : Mount ℕ). nat_eq mount.number here.location.mount) (one.mount_tree from.location.mount),
        M6,
      ) ∷ (is_no_root nat_eq one from.location, M7) ∷ (b, M9)
      ∷ (not (is_some (mount_at one from.location).mount_point), M10) ∷ [])
      (Ok (ToMove from.location.mount here.location)) (λ apart.
      let both = or_parts (is_elsewhere nat_eq one task from.location)
      (is_elsewhere nat_eq one task here.location) apart in
      move_overfills member.sealing here.location (there here.location on) (its here.location both.1)
      from.location.mount (there from.location at) (its from.location both.0) fresh other task))))
    where
      moved_by : (Permit ℕ → Bool) → Here ℕ → Here ℕ → Judgement ℕ
      moved_by overfull from here = unless (move_rules nat_eq one task from.location here.location
          (overfull (ToMove from.location.mount here.location))) (Ok (ToMove from.location.mount here.location))

  -- the limit of mounts is the same, and no other call asks for it
  limited : (call : Call) → judge nat_eq one full task call ≡ judge nat_eq one full_too task call
  unfolding judging
  limited (MountPlain path flags) = plain_limited path flags
  limited (MountOverlay path options flags) = overlay_limited path options flags
  limited (Bind source path recursive) = bind_limited source path recursive
  limited (MoveMount source path) = move_limited source path
  limited (OpenFile path access NoCreation) = refl
  limited (OpenFile path access (OrCreate mode)) = refl
  limited (OpenFile path access (Exclusive mode)) = refl
  limited call = refl

pub members_are_judged_by_their_part : MembersAreJudgedByTheirPart
members_are_judged_by_their_part world names task call is fresh other = limited
    (a_member (sealed_by is.is is.sealed_off) (among_from_contains (members world names) task is.member)) fresh other
    call
    ∙ members_are_judged_alike world names task call is (overfills nat_eq other (part_of nat_eq world names) task)
