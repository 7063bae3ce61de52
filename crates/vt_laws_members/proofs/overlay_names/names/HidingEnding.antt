-- Calls of theirs that set the opaque mark or make a whiteout end in the part as in the world.
use Rattle.std.proofs.Common.{◌≡◌, refl, sym, ap, ◌∙◌, ℕ, nat_eq, Bool, true, false, List, Some, Ok}
use Rattle.vt_spec.proofs.Common.{Call, Change, Fresh, Location, MakeWhiteout, Node, Opaque, Permit, SetMark, Task, ToChange, ToMake, World, filesystem_at, is_kind, is_overlay, judge_in, kind_of, looks_of, overfills, task_called, ⊤, judging}
use Rattle.vt_laws_members.proofs.Common.{AsksWell, IsGranted, White, calls_are_granted, changes_mark, makes_whiteout, name_found, permits_ask_well}
use Rattle.vt_laws_members.specs.Changes.Changes.{EndsAlike}
use Rattle.vt_laws_members.proofs.changes.Common.{by_permit, opaques_end_alike, unused_numbers, unused_serve, whiteouts_end_alike}
use Rattle.vt_laws_members.specs.OverlayNames.OverlayNames.{AllOpaquesEndAlike, AllWhiteoutsEndAlike}

-- the permit of setxattr(2) of the mark
abbrev Marks : Permit ℕ → Type 0
Marks (ToChange location (SetMark directory opaque)) = ⊤
Marks permit = ⊥

opaques_mark : (world : World ℕ) (fresh : Fresh ℕ) (task : Task ℕ) (asked : Call) (permit : Permit ℕ)
    → IsGranted nat_eq (looks_of nat_eq world) (overfills nat_eq fresh world task) task asked permit
    → (path : List ℕ) (mark : Bool) → asked ≡ Opaque path mark → Marks permit
opaques_mark world fresh task asked permit (changes_mark own_path own_mark here admin walk passed) path mark e = tt
opaques_mark world fresh task asked permit granted path mark e = absurd cc

-- through an overlay none is set (O4)
plain_mark : (world : World ℕ) (location : Location ℕ) (change : Change ℕ) → Marks (ToChange location change)
    → AsksWell world location change → is_overlay (filesystem_at nat_eq world location) ≡ false
plain_mark world location (SetMark directory opaque) any asked = asked
plain_mark world location change none asked = absurd none

pub all_opaques_end_alike : AllOpaquesEndAlike
unfolding judging
all_opaques_end_alike world names name path mark it fresh other =
    by_permit it fresh other refl (λ task called permit judged. granted_so task called permit
    (opaques_mark world fresh task call permit (calls_are_granted nat_eq (looks_of nat_eq world)
    (overfills nat_eq fresh world task) task call permit judged) path mark refl) judged judged)
  where
    call : Call
    call = Opaque path mark

    granted_so : (task : Task ℕ) → task_called world name ≡ Some task → (permit : Permit ℕ) → Marks permit
        → judge_in nat_eq fresh world task call ≡ Ok permit
        → judge_in nat_eq (unused_numbers world) world task call ≡ Ok permit
        → EndsAlike world names name call fresh other
    granted_so task called (ToChange location change) marks judged judged_too =
        opaques_end_alike world names name path mark it task called fresh other location change judged
        (plain_mark world location change marks (permits_ask_well world (unused_numbers world) task call
        (ToChange location change) it.is (unused_serve world) (cc (name_found world name task called)) judged_too).0)
    granted_so task called permit none judged judged_too = absurd none

-- the permit of mknod(2) of a whiteout
abbrev MakesWhiteout : Permit ℕ → Type 0
MakesWhiteout (ToMake directory entry node) = is_kind White (kind_of node.content) ≡ true
MakesWhiteout permit = ⊥

whiteouts_made : (world : World ℕ) (fresh : Fresh ℕ) (task : Task ℕ) (asked : Call) (permit : Permit ℕ)
    → IsGranted nat_eq (looks_of nat_eq world) (overfills nat_eq fresh world task) task asked permit
    → (path : List ℕ) → asked ≡ MakeWhiteout path → MakesWhiteout permit
whiteouts_made world fresh task asked permit (makes_whiteout own_path place walk passed) path e = refl
whiteouts_made world fresh task asked permit granted path e = absurd cc

pub all_whiteouts_end_alike : AllWhiteoutsEndAlike
all_whiteouts_end_alike world names name path it fresh serves =
    by_permit it fresh fresh refl (λ task called permit judged. granted_so task called permit
    (whiteouts_made world fresh task call permit (calls_are_granted nat_eq (looks_of nat_eq world)
    (overfills nat_eq fresh world task) task call permit judged) path refl) judged)
  where
    call : Call
    call = MakeWhiteout path

    made_so : (task : Task ℕ) → task_called world name ≡ Some task → (directory : Location ℕ) (entry : List ℕ)
        (node : Node ℕ) → is_kind White (kind_of node.content) ≡ true
        → judge_in nat_eq fresh world task call ≡ Ok (ToMake directory entry node) → (b : Bool)
        → is_overlay (filesystem_at nat_eq world directory) ≡ b → EndsAlike world names name call fresh fresh
    made_so task called directory entry node white judged true is =
        cc ((permits_ask_well world fresh task call (ToMake directory entry node) it.is serves
        (ap (task_called world) (sym (name_found world name task called)) ∙ called) judged).0.1 is)
    made_so task called directory entry node white judged false is =
        whiteouts_end_alike world names name path it task called fresh serves directory entry node judged is

    granted_so : (task : Task ℕ) → task_called world name ≡ Some task → (permit : Permit ℕ) → MakesWhiteout permit
        → judge_in nat_eq fresh world task call ≡ Ok permit → EndsAlike world names name call fresh fresh
    granted_so task called (ToMake directory entry node) white judged =
        made_so task called directory entry node white judged (is_overlay (filesystem_at nat_eq world directory)) refl
    granted_so task called permit none judged = absurd none
