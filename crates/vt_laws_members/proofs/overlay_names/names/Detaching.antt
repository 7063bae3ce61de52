-- Where mounts of theirs go, and filesystems change that a sealed set uses alone, the part is what is left of the part.
use Rattle.std.proofs.Common.{◌≡◌, sym, ap, ◌∙◌, ℕ, nat_eq, Bool, true, List, filter, map}
use Rattle.vt_spec.proofs.Common.{Among, Filesystem, Layer, MountInvariants, Namespace, Task, TaskName, World, is_among, list_any, numbers_raised, own_lowers, part_of, raised_if_changed, raised_namespace, raised_task, settled, taken_away, used_alone, used_filesystems, without_dead_mounts}
use Rattle.vt_laws_members.proofs.Common.{same_members, with_filesystems}
use Rattle.vt_laws_members.proofs.changes.Common.{Alone, AreLess, Detaches, LeavesWorlds, NoOthers, Ready, TheirsGo, all_stay, ended_less, group_lost, less_used, one_part, part_after, part_of_settled, part_with_layers, raised_alike, raised_members, swept_of, world_after, worlds_left}
use Rattle.vt_laws_members.proofs.changes.letting_go.EndedPartReady as InPart
use Rattle.vt_laws_members.proofs.changes.letting_go.EndedPartReady.{ended_part_ready}
use Rattle.vt_laws_members.proofs.changes.letting_go.EndedReady as InWorld
use Rattle.vt_laws_members.proofs.changes.letting_go.EndedReady.{ended_ready}
use Rattle.vt_laws_members.proofs.overlay_names.names.Raising.{raised_part}
use Rattle.vt_laws_members.proofs.overlay_names.names.SteppedReady.{ChangesTheirs, stepped_ready}

module _ {world : World ℕ} {names : List TaskName} {gone : List ℕ} (go : TheirsGo world names gone)
    (kept_world : MountInvariants nat_eq (taken_away nat_eq world gone))
    (kept_part : MountInvariants nat_eq (taken_away nat_eq (part_of nat_eq world names) gone)) where
  abbrev part : World ℕ
  part = part_of nat_eq world names

  abbrev pub here : World ℕ
  here = world_after go

  abbrev pub there : World ℕ
  there = part_after go

  abbrev pub living : World ℕ
  living = without_dead_mounts nat_eq here

  abbrev pub living_part : World ℕ
  living_part = without_dead_mounts nat_eq there

  abbrev pub used_now : List ℕ
  used_now = used_filesystems nat_eq here names

  abbrev lowers_now : List (Layer ℕ)
  lowers_now = own_lowers nat_eq here names

  abbrev stay : Detaches world names names gone
  stay = all_stay go (group_lost world gone)

  abbrev leaves : LeavesWorlds stay
  leaves = worlds_left go kept_world kept_part

  -- what they use alone they use alone then
  pub alone_here : (n : ℕ) → used_alone nat_eq world names n ≡ true → Alone living names n
  alone_here =
      InWorld.alone stay leaves

  none_other : (n : ℕ) → NoOthers living_part names n
  none_other = InPart.alone stay leaves

  pub alone_there : (n : ℕ) → Alone living_part names n
  alone_there n = record { itself = none_other n; overlays = λ merged m has. none_other merged.number }

  module _ (step : Filesystem ℕ → Filesystem ℕ) (theirs : ChangesTheirs living names used_now step)
      (theirs_there : ChangesTheirs living_part names used_now step) where
    -- both worlds are ready to be swept
    ready_here : Ready (without_dead_mounts nat_eq (with_filesystems here step)) names used_now lowers_now
    ready_here = stepped_ready (ended_ready stay leaves) theirs

    ready_there : Ready (without_dead_mounts nat_eq (with_filesystems there step)) names used_now lowers_now
    ready_there = stepped_ready (ended_part_ready stay leaves) theirs_there

    -- their parts before the sweep
    abbrev is_less : AreLess world names names here there
    is_less = ended_less stay

    parts_before : part_of nat_eq (with_filesystems here step) names
        ≡ part_of nat_eq (with_filesystems there step) names
    parts_before = part_with_layers here names step theirs.numbered theirs.changing theirs.lowering theirs.kept
        ∙ ap (λ w. with_filesystems w step) (sym (one_part go.is is_less))
        ∙ sym (part_with_layers there names step theirs_there.numbered theirs_there.changing theirs_there.lowering
        (λ x unused. theirs_there.kept x (ap (is_among nat_eq x.number) (sym (less_used go.is is_less)) ∙ unused)))

    swept_alike : part_of nat_eq (settled nat_eq (with_filesystems here step)) names
        ≡ part_of nat_eq (settled nat_eq (with_filesystems there step)) names
    swept_alike = part_of_settled (with_filesystems here step) names used_now lowers_now ready_here
        ∙ ap (swept_of names) parts_before
        ∙ sym (part_of_settled (with_filesystems there step) names used_now lowers_now ready_there)

    abbrev spaces : List (Task ℕ) → Namespace ℕ → Bool
    spaces ts n = list_any (λ (t : Task ℕ). nat_eq n.number t.namespace) ts

    pub detached_and_changed : (name : TaskName) (numbers : List ℕ)
        → ((n : ℕ) → Among n numbers → is_among nat_eq n used_now ≡ true)
        → part_of nat_eq (numbers_raised nat_eq world name numbers (settled nat_eq (with_filesystems here step))) names
        ≡ part_of nat_eq (numbers_raised nat_eq part name numbers (settled nat_eq (with_filesystems there step))) names
    detached_and_changed name numbers used =
        raised_part (with_filesystems here step) ready_here numbers used world name
        ∙ (λ i. record (with_filesystems (swept_alike i) (raised_if_changed nat_eq numbers)) {
          namespaces = (sym (raised_alike stay) ∙ ap (λ ts. filter (spaces ts)
              (map (raised_namespace nat_eq part (settled nat_eq there)) there.namespaces))
              (sym (same_members world names))) i;
          tasks = (raised_members names name world.tasks ∙ ap (map (raised_task name)) (sym (same_members world names))
              ∙ sym (raised_members names name part.tasks)) i;
        }) ∙ sym (raised_part (with_filesystems there step) ready_there numbers used part name)
