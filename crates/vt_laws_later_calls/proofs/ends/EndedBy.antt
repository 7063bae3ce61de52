-- An inode that is there is there after a call that takes no use away, unless it is a whiteout of an upper layer.
use Rattle.std.proofs.Common.{arith, ◌≡◌, refl, sym, ap, subst, ◌∙◌, ◌⊎◌, inl, inr, ⊎_elim, true≢false, ℕ, nat_eq, eq-eqb, Bool, true, false, List, [], ◌∷◌, ◌++◌, Option, Some, None, Ok, is_some}
use Rattle.vt_spec.proofs.Common.{Call, Change, CopyUp, Filesystem, Fresh, IsWorld, Location, Permit, Serves, SetType, Task, ToChange, TypeWord, World, all_from_among, apply, call_outcome, common_steps, filesystem_at, filesystem_numbered, is_kind_in, judge_in, list_any, looks_of, none_from_not_some, none_is_some, settled, task_called, when, with_change, ⊤}
use Rattle.vt_laws_later_calls.proofs.Common.{cases_Option, IsFor, White, change_asked, changes_no_mount, has_upper_in, inode_in, none_among, numbered, numbered_anyhow, numbers_left, permits_are_for_their_calls, takes_a_name}
use Rattle.vt_laws_worlds.proofs.overlay_permits.kept.KeptOverlays.{permits_make_their_change}
use Rattle.vt_laws_worlds.proofs.overlay_permits.through.CallsThrough.{as_permitted}
use Rattle.vt_laws_worlds.proofs.overlay_permits.worlds.EveryCall.{LeavesFilesystems, as_they_were, unchanged, with_overlay, with_plain}
use Rattle.vt_laws_worlds.proofs.overlay_permits.worlds.PolicyLeads.{policy_leads}
use Rattle.vt_laws_later_calls.proofs.AfterChange.{raised_files}
use Rattle.vt_laws_later_calls.proofs.ends.OtherCalls.{all_types_leave_all_but_masters, asks_nothing, other_calls_let_whiteouts_go}
use Rattle.vt_laws_later_calls.proofs.ends.OverlaysRemain.{change_remains}
use Rattle.vt_laws_later_calls.proofs.ends.Replaced.{replaced_are_whiteouts}
use Rattle.vt_laws_later_calls.proofs.ends.SweptWhiteouts.{leaves_all_but}
use Rattle.vt_laws_later_calls.specs.Ends.{KeepsAllButMasters, sets_type, takes_uses}
use Rattle.vt_laws_later_calls.specs.Whiteouts.{IsWhiteoutOfUpper, LeavesAllBut, OnlyTheseEndOtherInodes, OnlyWhiteoutsAreTaken, OtherCallsKeepAll, PlainChangesKeepAll, replaced_as, replaced_by, replaced_if, replaced_over}

pub only_whiteouts_are_taken : OnlyWhiteoutsAreTaken
only_whiteouts_are_taken world fresh task call is serves called only no_type =
    subst (LeavesAllBut (replaced_by fresh world task call) (call_outcome nat_eq fresh world task call).world)
    (sym (other_calls_let_whiteouts_go world fresh task call is serves called only no_type))
    (leaves_all_but (call_outcome nat_eq fresh world task call).world (replaced_by fresh world task call))

-- where nothing is replaced nothing goes
pub other_calls_keep_all : OtherCallsKeepAll
other_calls_keep_all world fresh task call is serves called only no_type none =
    cc (other_calls_let_whiteouts_go world fresh task call is serves called only no_type)

-- a filesystem that is found is found among more
found_among_more : (more list : List (Filesystem ℕ)) (filesystem number : ℕ)
    → is_some ((numbered filesystem list).files.tree.node number) ≡ true
    → is_some ((numbered filesystem (list ++ more)).files.tree.node number) ≡ true
found_among_more more [] filesystem number there = cc
found_among_more more (first ∷ rest) filesystem number there =
    grind (arith, common_steps, found_among_more more rest filesystem number)

-- types are set, or not
typing_or : (call : Call)
    → ((path : List ℕ) × (word : TypeWord) × (recursive : Bool) × (call ≡ SetType path word recursive))
    ⊎ (sets_type call ≡ false)
typing_or (SetType path word recursive) = inl (path, word, recursive, refl)
typing_or call = inr refl

module _ {world : World ℕ} {fresh : Fresh ℕ} (call : Call) (is : IsWorld nat_eq world)
    (serves : Serves nat_eq world fresh) (only : takes_uses call ≡ false) (filesystem number : ℕ)
    (there : is_some (inode_in world filesystem number) ≡ true) where
  abbrev IsThere : World ℕ → Type 0
  IsThere left = is_some (inode_in left filesystem number) ≡ true

  same_there : (a b : World ℕ) → a.filesystems ≡ b.filesystems → IsThere b → IsThere a
  same_there a b same h = cc

  module _ (task : Task ℕ) (called : task_called world task.name ≡ Some task) where
    -- A call that takes no use away takes no name away
    abbrev TakesNone : Option (Location ℕ × Change ℕ) → Type 0
    TakesNone None = ⊤
    TakesNone (Some made) = takes_a_name made.1 ≡ false

    abbrev not_this : {A : Type 0} (other : Call) → call ≡ other → takes_uses other ≡ true → A
    not_this other e takes = absurd (true≢false (sym takes ∙ ap takes_uses (sym e) ∙ only))

    of_change : (location : Location ℕ) (change : Change ℕ)
        → IsFor (looks_of nat_eq world) task call (ToChange location change) → takes_a_name change ≡ false
    of_change location change for = grind (arith, common_steps)

    of_copy : (file : Location ℕ) (b : Bool) → TakesNone (when b (file, CopyUp file.node))
    of_copy file true = refl
    of_copy file false = tt

    takes_none : (permit : Permit ℕ) → IsFor (looks_of nat_eq world) task call permit
        → TakesNone (change_asked fresh world permit)
    takes_none permit for = grind (arith, common_steps, of_change, of_copy)

    -- so what it leaves has the inode,
    permit_remains : (permit : Permit ℕ) → judge_in nat_eq fresh world task call ≡ Ok permit
        → IsThere (apply nat_eq fresh world task permit).world
    permit_remains permit judged = elim (cases_Option (change_asked fresh world permit)) [
      | inl asks ↦ with_none (unchanged world fresh task permit asks)
      | inr its ↦ same_there later (with_change nat_eq (numbers_left fresh permit) world its.0.0 its.0.1)
          (permits_make_their_change world fresh task permit its.0.0 its.0.1 its.1)
          (change_remains number (numbers_left fresh permit) is its.0.0 its.0.1 (subst TakesNone its.1
          (takes_none permit (permits_are_for_their_calls fresh world task call permit judged))) filesystem there)
    ]
      where
        later : World ℕ
        later = (apply nat_eq fresh world task permit).world

        with_more : (new : Filesystem ℕ) → later.filesystems ≡ world.filesystems ++ (new ∷ []) → IsThere later
        with_more new more = cc (found_among_more (new ∷ []) world.filesystems filesystem number there)

        with_none : LeavesFilesystems world fresh task permit → IsThere later
        with_none (as_they_were same) = same_there later world same there
        with_none (with_plain more) = with_more _ more
        with_none (with_overlay unnamed new more) = with_more _ more

    abbrev left : World ℕ
    left = (call_outcome nat_eq fresh world task call).world

    call_remains : (permit : Permit ℕ) → judge_in nat_eq fresh world task call ≡ Ok permit → IsThere left
    call_remains permit judged =
        same_there left (apply nat_eq fresh world task permit).world (as_permitted world fresh task call permit judged)
        (permit_remains permit judged)

    -- and the sweep takes no other inode than a whiteout of an upper layer
    not_taken : (is_kind_in White (inode_in world filesystem number) ≡ false)
        ⊎ (list_any (has_upper_in filesystem) world.filesystems ≡ false)
        → IsWhiteoutOfUpper world (filesystem, number) → ⊥
    not_taken (inl other) taken = true≢false (cc taken.white)
    not_taken (inr none) taken = true≢false (sym has ∙ has_none)
      where
        has : has_upper_in filesystem (filesystem_numbered nat_eq world taken.merged) ≡ true
        has = cc (taken.overlay_there, taken.upper_there, eq-eqb filesystem taken.upper.filesystem taken.in_upper)

        has_none : has_upper_in filesystem (filesystem_numbered nat_eq world taken.merged) ≡ false
        has_none = numbered_anyhow (λ f. has_upper_in filesystem f ≡ false) taken.merged world.filesystems
            (all_from_among (λ f. has_upper_in filesystem f ≡ false) world.filesystems
            (λ f m. none_among (has_upper_in filesystem) world.filesystems none f m)) refl

    swept_remains : (is_kind_in White (inode_in world filesystem number) ≡ false)
        ⊎ (list_any (has_upper_in filesystem) world.filesystems ≡ false) → IsThere left → IsThere (settled nat_eq left)
    swept_remains spared stays = ⊎_elim
        (λ (typing : (path : List ℕ) × (word : TypeWord) × (recursive : Bool) × (call ≡ SetType path word recursive)).
        same_there (settled nat_eq left) left (ap (λ (w : World ℕ). w.filesystems)
        (subst (λ c. KeepsAllButMasters (call_outcome nat_eq fresh world task c).world) (sym typing.3)
        (all_types_leave_all_but_masters world fresh task typing.0 typing.1 typing.2 is serves called))) stays) (λ none.
        ⊎_elim (λ same. ap is_some same ∙ stays) (λ gone. absurd (not_taken spared
        (replaced_are_whiteouts world fresh task call is serves called only (filesystem, number) gone.0)))
        ((only_whiteouts_are_taken world fresh task call is serves called only none).inodes filesystem number))
        (typing_or call)

pub only_these_end_other_inodes : OnlyTheseEndOtherInodes
only_these_end_other_inodes world fresh name call filesystem number is serves only there spared =
    policy_leads (λ w. is_some (inode_in w filesystem number) ≡ true) world fresh name call there
    (λ task permit changed called judged. cc (
      raised_files world name changed (settled nat_eq (call_outcome nat_eq fresh world task call).world) filesystem,
      swept_remains call is serves only
          filesystem number there task called spared
          (call_remains call is serves only filesystem number there task called
          permit judged),
    ))

-- what changes a plain filesystem replaces nothing
pub plain_changes_keep_all : PlainChangesKeepAll
plain_changes_keep_all world fresh task call is serves called only permit location change judged asks plain = ⊎_elim
    (λ (typing : (path : List ℕ) × (word : TypeWord) × (recursive : Bool) × (call ≡ SetType path word recursive)).
    none_is_some (location, change) (sym (asks_nothing world fresh task call (ap changes_no_mount typing.3) permit
    (permits_are_for_their_calls fresh world task call permit judged)) ∙ asks)) (λ no_type.
    other_calls_keep_all world fresh task call is serves called only no_type
    (ap (replaced_as fresh world) judged ∙ ap (replaced_if world) asks ∙ ap (λ o. replaced_over world o change)
    (none_from_not_some (filesystem_at nat_eq world location).overlay plain))) (typing_or call)
