-- Both runs answer the calls of the set alike.
use Rattle.std.proofs.Common.{inl, inr, ◌≡◌, refl, sym, ap, subst, ◌∙◌, ℕ, nat_eq, nat_lt, Bool, true, false, cond, List, [], ◌∷◌, ◌++◌, ◌+◌, ◌||◌, Option, Some, None, length, map, arith, Contains}
use Rattle.vt_spec.proofs.Common.{cases_Bool, Asking, Call, Calling, Fresh, Grammar, IsWorld, Outcome, Request, Serves, TaskName, World, among_numbers, common_steps, contains_from_among, is_among, is_silent, longest_line, numbers_for, part_of, policy, request_of, same_name, sealed, used_alone, used_filesystems, ⊤}
use Rattle.vt_laws_containers.proofs.Common.{EndsAlike, HasNoMoreFootholds, IsCallOfTheirs, are_all_called, every_call_keeps_worlds, fewer_footholds_seal_too, grown, names_few_groups, outsiders_leave_a_sealed_set, same_used, still_called}
use Rattle.vt_laws_worlds.proofs.worlds.WordsFew.{lines_name_few, request_names_few}
use Rattle.vt_laws_containers.specs.Footholds.{GivesNoFoothold, LeavesOthersOut}
use Rattle.vt_laws_containers.specs.Scripts.{Along, Asked, IsSealedOffAt, LeavesItSealed, Stand, StaysOnItsSide, StaysSealed, after_theirs, asked, asked_by, moved, outcome_at, own_answers, told}
use Rattle.vt_laws_containers.proofs.scripts.Called.{members_stay_called}
use Rattle.vt_laws_containers.proofs.scripts.LineNumbers.{numbers_left, numbers_passed, serves_line}
use Rattle.vt_laws_containers.proofs.scripts.UsedThere.{used_is_there}

-- a call of theirs ends in the part of the set as in the world
abbrev pub EndsInThePart : Stand → TaskName → Call → Type 0
EndsInThePart at name call =
    IsCallOfTheirs at.world at.names name call → Serves nat_eq at.world (numbers_for at.number)
    → EndsAlike at.world at.names name call (numbers_for at.number) (numbers_for at.number)

-- a call of theirs gives others no foothold
abbrev pub KeepsOthersOut : Stand → TaskName → Call → Type 0
KeepsOthersOut at name call =
    IsCallOfTheirs at.world at.names name call → Serves nat_eq at.world (numbers_for at.number)
    → GivesNoFoothold at.world at.names name call (numbers_for at.number)

-- Each call of theirs does both.
pub record EachEndsAlike (others : Bool) (at : Stand) (calls : List Asked) : Type 0 where
  pub in_part : Along EndsInThePart others at calls
  pub footholds : Along KeepsOthersOut others at calls

-- Worlds with one part use the same filesystems.
pub used_by_parts : (world other : World ℕ) (names : List TaskName)
    → part_of nat_eq world names ≡ part_of nat_eq other names
    → used_filesystems nat_eq world names ≡ used_filesystems nat_eq other names
used_by_parts world other names same = cc (same_used world names, same_used other names)

-- Where two worlds have one part, and others no more footholds in the first, they have no more after changes of both
-- that leave one part and give others no foothold.
pub no_more_left : {full lone full_now lone_now : World ℕ} {names left : List TaskName}
    → LeavesOthersOut full full_now names left → LeavesOthersOut lone lone_now names left
    → part_of nat_eq full names ≡ part_of nat_eq lone names
    → part_of nat_eq full_now left ≡ part_of nat_eq lone_now left
    → HasNoMoreFootholds full lone names → HasNoMoreFootholds full_now lone_now left
no_more_left {full} {lone} {full_now} {lone_now} {names} {left} full_out lone_out parts parts_now no_more filesystem
    used free = elim (cases_Bool (is_among nat_eq filesystem (used_filesystems nat_eq full names))) [
      | inl was ↦ cc (
        full_out.as_before filesystem used was,
        no_more filesystem (contains_from_among _ _ (among_numbers _ _ was))
            (sym (lone_out.as_before filesystem used_too (cc (used_both, was))) ∙ free),
      )
      | inr new ↦ full_out.none_on_new filesystem used new
    ]
  where
    used_both : used_filesystems nat_eq full names ≡ used_filesystems nat_eq lone names
    used_both = used_by_parts full lone names parts

    used_too : Contains (used_filesystems nat_eq lone_now left) filesystem
    used_too = subst (λ list. Contains list filesystem) (used_by_parts full_now lone_now left parts_now) used

-- A run stands here.
abbrev stand : ℕ → World ℕ → List TaskName → Stand
stand number world names = record { number = number; world = world; names = names }

-- what both runs keep: the set is sealed off in both, has one part, and others have no more footholds in the first
record Both (number : ℕ) (full lone : World ℕ) (names : List TaskName) : Type 0 where
  of_full : IsSealedOffAt (stand number full names)
  of_lone : IsSealedOffAt (stand number lone names)
  parts : part_of nat_eq full names ≡ part_of nat_eq lone names
  no_more : HasNoMoreFootholds full lone names

later_line : (number : ℕ) (world : World ℕ) (names : List TaskName) → IsSealedOffAt (stand number world names)
    → IsSealedOffAt (stand (number + 1) world names)
later_line number world names at = grind (arith, common_steps, at, numbers_passed)

module _ {number : ℕ} {full lone : World ℕ} {names : List TaskName} (both : Both number full lone names)
    (name : TaskName) (call : Call) (few : names_few_groups call ≡ true)
    (side : StaysOnItsSide (stand number full names) name call) where
  abbrev fresh : Fresh ℕ
  fresh = numbers_for number

  full_serves : Serves nat_eq full fresh
  full_serves = serves_line number full both.of_full.counted both.of_full.numbers

  lone_serves : Serves nat_eq lone fresh
  lone_serves = serves_line number lone both.of_lone.counted both.of_lone.numbers

  abbrev of_full : Outcome ℕ
  of_full = policy nat_eq fresh full name call

  abbrev of_lone : Outcome ℕ
  of_lone = policy nat_eq fresh lone name call

  full_is : IsWorld nat_eq of_full.world
  full_is = every_call_keeps_worlds full fresh name call both.of_full.is full_serves few

  lone_is : IsWorld nat_eq of_lone.world
  lone_is = every_call_keeps_worlds lone fresh name call both.of_lone.is lone_serves few

  -- a call of others is made in the first run alone
  module _ (outside : is_among same_name name names ≡ false) where
    others_leave : Both (number + 1) of_full.world lone names
    others_leave =
        let leaves = outsiders_leave_a_sealed_set full fresh names name call (record {
          is = both.of_full.is;
          sealed_off = both.of_full.sealed_off;
          there = both.of_full.there;
          outside = outside;
          apart = λ member e. side member e ∙ outside;
          serves = full_serves;
          few_groups = few;
        }) in
        record {
          of_full = record {
            is = full_is;
            there = still_called full of_full.world names (ap (λ (part : World ℕ). part.tasks) leaves.part)
                both.of_full.there;
            sealed_off = leaves.sealed_off;
            counted = (let least = both.of_full.counted in omega (arith, least));
            numbers = numbers_left number full name call both.of_full.counted both.of_full.numbers;
          };
          of_lone = later_line number lone names both.of_lone;
          parts = leaves.part ∙ both.parts;
          no_more = λ filesystem used alone.
              let was : Contains (used_filesystems nat_eq full names) filesystem =
              subst (λ list. Contains list filesystem) (used_by_parts of_full.world full names leaves.part) used in
              let there = used_is_there full names both.of_full.is filesystem was in
              subst (λ n. used_alone nat_eq of_full.world names n ≡ true) there.2 (leaves.no_more there.0 there.1
              (subst (λ n. used_alone nat_eq full names n ≡ true) (sym there.2) (both.no_more filesystem was alone)));
        }

  -- a call of theirs is made in both
  module _ (theirs : is_among same_name name names ≡ true)
      (full_ends : EndsAlike full names name call fresh fresh) (lone_ends : EndsAlike lone names name call fresh fresh)
      (full_out : GivesNoFoothold full names name call fresh) (lone_out : GivesNoFoothold lone names name call fresh)
    where
      same_answer : of_full.answer ≡ of_lone.answer
      same_answer = cc (full_ends.answer, both.parts, lone_ends.answer)

      abbrev left : List TaskName
      left = grown names name call of_lone.answer

      same_left : grown names name call of_full.answer ≡ left
      same_left = ap (grown names name call) same_answer

      parts_left : part_of nat_eq of_full.world left ≡ part_of nat_eq of_lone.world left
      parts_left = cc (same_left, full_ends.part, both.parts, lone_ends.part)

      full_left : LeavesOthersOut full of_full.world names left
      full_left = subst (LeavesOthersOut full of_full.world names) same_left full_out

      still_no_more : HasNoMoreFootholds of_full.world of_lone.world left
      still_no_more = no_more_left full_left lone_out both.parts parts_left both.no_more

      module _ (stays : sealed nat_eq of_lone.world left ≡ true) where
        theirs_leave : Both (number + 1) of_full.world of_lone.world left
        theirs_leave = record {
          of_full = record {
            is = full_is;
            there = subst (λ set. are_all_called of_full.world set ≡ true) same_left
                (members_stay_called full fresh names name call both.of_full.there);
            sealed_off = fewer_footholds_seal_too of_full.world of_lone.world left (record {
              is = full_is;
              tasks = full_left.tasks;
              events = full_left.events;
              locations = full_left.locations;
            }) lone_is parts_left still_no_more stays;
            counted = (let least = both.of_full.counted in omega (arith, least));
            numbers = numbers_left number full name call both.of_full.counted both.of_full.numbers;
          };
          of_lone = record {
            is = lone_is;
            there = members_stay_called lone fresh names name call both.of_lone.there;
            sealed_off = stays;
            counted = (let least = both.of_lone.counted in omega (arith, least));
            numbers = numbers_left number lone name call both.of_lone.counted both.of_lone.numbers;
          };
          parts = parts_left;
          no_more = still_no_more;
        }

-- Of each call that a run may make no fork names many groups.
abbrev IsFew : Asked → Type 0
IsFew None = ⊤
IsFew (Some call) = names_few_groups call.1 ≡ true

abbrev pub AreFew : List Asked → Type 0
AreFew [] = ⊤
AreFew (call ∷ calls) = IsFew call × AreFew calls

-- what is given of the calls that are left
record Rest (number : ℕ) (full lone : World ℕ) (names set : List TaskName) (calls : List Asked) : Type 0 where
  alone : Along LeavesItSealed false (stand number lone set) calls
  sides : Along StaysOnItsSide true (stand number full names) calls
  full_ends : EachEndsAlike true (stand number full names) calls
  lone_ends : EachEndsAlike false (stand number lone set) calls

-- what is given after a call that is theirs or not
record After (at at_alone : Stand) (name : TaskName) (call : Call) (calls : List Asked) (b : Bool) : Type 0 where
  alone : Along LeavesItSealed false (moved false b at_alone name call) calls
  sides : Along StaysOnItsSide true (moved true b at name call) calls
  full_in : Along EndsInThePart true (moved true b at name call) calls
  full_out : Along KeepsOthersOut true (moved true b at name call) calls
  lone_in : Along EndsInThePart false (moved false b at_alone name call) calls
  lone_out : Along KeepsOthersOut false (moved false b at_alone name call) calls

-- so it is of the calls that are left
abbrev NextAlike : List Asked → Type 0
NextAlike calls = (number : ℕ) (full lone : World ℕ) (names : List TaskName) → Both number full lone names
    → Rest number full lone names names calls
    → own_answers true (stand number full names) calls ≡ own_answers false (stand number lone names) calls

alike : (calls : List Asked) → AreFew calls → (number : ℕ) (full lone : World ℕ) (names : List TaskName)
    → Both number full lone names → Rest number full lone names names calls
    → own_answers true (stand number full names) calls ≡ own_answers false (stand number lone names) calls
alike [] few number full lone names both rest = refl
alike (None ∷ calls) few number full lone names both rest = alike calls few.1 (number + 1) full lone names (record {
  of_full = later_line number full names both.of_full;
  of_lone = later_line number lone names both.of_lone;
  parts = both.parts;
  no_more = both.no_more;
}) (record {
  alone = rest.alone.1;
  sides = rest.sides.1;
  full_ends = record { in_part = rest.full_ends.in_part.1; footholds = rest.full_ends.footholds.1 };
  lone_ends = record { in_part = rest.lone_ends.in_part.1; footholds = rest.lone_ends.footholds.1 };
})
alike (Some call ∷ calls) few number full lone names both rest = by (λ now full_now lone_now set both_now rest_now.
    alike calls few.1 now full_now lone_now set both_now rest_now) (is_among same_name call.0 names) refl (record {
      alone = rest.alone.1;
      sides = rest.sides.1;
      full_in = rest.full_ends.in_part.1;
      full_out = rest.full_ends.footholds.1;
      lone_in = rest.lone_ends.in_part.1;
      lone_out = rest.lone_ends.footholds.1;
    })
  where
    at : Stand
    at = stand number full names

    at_alone : Stand
    at_alone = stand number lone names

    by : NextAlike calls → (b : Bool) → is_among same_name call.0 names ≡ b → After at at_alone call.0 call.1 calls b
        → told b (outcome_at at call.0 call.1) ++ own_answers true (moved true b at call.0 call.1) calls
        ≡ told b (outcome_at at_alone call.0 call.1) ++ own_answers false (moved false b at_alone call.0 call.1) calls
    by others_alike false outside after =
        let left = others_leave both call.0 call.1 few.0 rest.sides.0 outside in
        others_alike (number + 1) (outcome_at at call.0 call.1).world lone names left (record {
          alone = after.alone;
          sides = after.sides;
          full_ends = record { in_part = after.full_in; footholds = after.full_out };
          lone_ends = record { in_part = after.lone_in; footholds = after.lone_out };
        })
    by others_alike true theirs after =
        let full_call : IsCallOfTheirs full names call.0 call.1 = record {
          is = both.of_full.is;
          sealed_off = both.of_full.sealed_off;
          theirs = theirs;
          among_them = λ member e. rest.sides.0 member e ∙ theirs;
        } in
        let lone_call : IsCallOfTheirs lone names call.0 call.1 = record {
          is = both.of_lone.is;
          sealed_off = both.of_lone.sealed_off;
          theirs = theirs;
          among_them = λ member e. rest.sides.0 member e ∙ theirs;
        } in
        let serves = serves_line number full both.of_full.counted both.of_full.numbers in
        let serves_too = serves_line number lone both.of_lone.counted both.of_lone.numbers in
        answered (rest.full_ends.in_part.0 full_call serves) (rest.lone_ends.in_part.0 lone_call serves_too)
        (rest.full_ends.footholds.0 full_call serves) (rest.lone_ends.footholds.0 lone_call serves_too)
      where
        answered : EndsAlike full names call.0 call.1 (numbers_for number) (numbers_for number)
            → EndsAlike lone names call.0 call.1 (numbers_for number) (numbers_for number)
            → GivesNoFoothold full names call.0 call.1 (numbers_for number)
            → GivesNoFoothold lone names call.0 call.1 (numbers_for number)
            → (outcome_at at call.0 call.1).answer ∷ own_answers true (after_theirs at call.0 call.1) calls
            ≡ (outcome_at at_alone call.0 call.1).answer ∷ own_answers false (after_theirs at_alone call.0 call.1) calls
        answered ends ends_too out out_too =
            let same = same_answer both call.0 call.1 few.0 rest.sides.0 theirs ends ends_too out out_too in
            let set = same_left both call.0 call.1 few.0 rest.sides.0 theirs ends ends_too out out_too in
            let left = theirs_leave both call.0 call.1 few.0 rest.sides.0 theirs ends ends_too out out_too
            (rest.alone.0 theirs) in
            let given : Rest (number + 1) (outcome_at at call.0 call.1).world (outcome_at at_alone call.0 call.1).world
            (after_theirs at call.0 call.1).names (after_theirs at_alone call.0 call.1).names calls = record {
              alone = after.alone;
              sides = after.sides;
              full_ends = record { in_part = after.full_in; footholds = after.full_out };
              lone_ends = record { in_part = after.lone_in; footholds = after.lone_out };
            } in
            ap (λ answer. answer ∷ own_answers true (after_theirs at call.0 call.1) calls) same
            ∙ ap (λ names. (outcome_at at_alone call.0 call.1).answer
            ∷ own_answers true (stand (number + 1) (outcome_at at call.0 call.1).world names) calls) set
            ∙ ap (λ answers. (outcome_at at_alone call.0 call.1).answer ∷ answers)
            (others_alike (number + 1) (outcome_at at call.0 call.1).world
            (outcome_at at_alone call.0 call.1).world (after_theirs at_alone call.0 call.1).names left
            (subst (λ names. Rest (number + 1) (outcome_at at call.0 call.1).world
            (outcome_at at_alone call.0 call.1).world names (after_theirs at_alone call.0 call.1).names calls) set
            given))

-- The calls of a script's lines
pub lines_are_few : (grammar : Grammar) (lines : List (List ℕ)) → AreFew (map (asked grammar) lines)
lines_are_few grammar [] = tt
lines_are_few grammar (line ∷ lines) = (line_is_few, lines_are_few grammar lines)
  where
    request_few : (request : Option Request) → request_names_few request ≡ true → IsFew (asked_by request)
    request_few None few = tt
    request_few (Some (Calling name call)) few = few
    request_few (Some (Asking directive)) few = tt

    by : (b : Bool) → IsFew (cond b None (asked_by (request_of grammar line)))
    by true = tt
    by false = request_few (request_of grammar line) (lines_name_few grammar line)

    line_is_few : IsFew (asked grammar line)
    line_is_few = by (nat_lt longest_line (length line) || is_silent line)

-- So the calls of a set have the answers that they have alone, if each of them ends alike in the part of the set, with the
-- calls of others between them and without.
pub sets_are_answered_as_alone : (at : Stand) (grammar : Grammar) (lines : List (List ℕ)) → IsSealedOffAt at
    → StaysSealed at (map (asked grammar) lines)
    → EachEndsAlike true at (map (asked grammar) lines) → EachEndsAlike false at (map (asked grammar) lines)
    → own_answers true at (map (asked grammar) lines) ≡ own_answers false at (map (asked grammar) lines)
sets_are_answered_as_alone at grammar lines off stays full_ends lone_ends = alike _ (lines_are_few _ lines) _ _ _ _
    (record { of_full = off; of_lone = off; parts = refl; no_more = λ filesystem used alone. alone })
    (record { alone = stays.alone; sides = stays.sides; full_ends = full_ends; lone_ends = lone_ends })
