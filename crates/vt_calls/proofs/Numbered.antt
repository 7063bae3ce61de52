-- A kernel's world is that of its events but for its change number, so a call ends alike in both.
use Rattle.std.proofs.Common.{◌≡◌, refl, sym, subst, ◌∙◌, ℕ, nat_eq, Result, Ok, Err, inl, inr, OnErr, is_ok, true}
use Rattle.vt_spec.proofs.Common.{Call, Fresh, Outcome, SameWorlds, TaskName, policy}
use Rattle.vt_spec.specs.declared.errors.Deny.{Deny}
use Rattle.vt_laws_rules.specs.Numbers.{Allotment}
use Rattle.vt_laws_worlds.proofs.one_text.answered.AlikeAnswered.{any_same_worlds_are_answered_alike}
use Rattle.vt_laws_worlds.proofs.one_text.same.SameNumbers.{any_same_worlds_keep_to_numbers}
use Rattle.vt_laws_worlds.specs.OneText.Answered.{AreAlike}
use Rattle.vt_request.specs.declared.answer.Answer.{Answer}
use Rattle.vt_laws_trees.proofs.runs.answered.AlikeWorlds.{sameness_is_an_equivalence}
use Rattle.vt_laws_trees.specs.Runs.Handed.{may_be_given}
use Rattle.vt_laws_trees.specs.Runs.Runs.{ServesInHand}
use Rattle.vt_world.specs.Held.{IsHeld}
use Rattle.vt_world.specs.WorldValue.{world_of}
use Rattle.vt_answers.specs.Ends as any
use Rattle.vt_answers.specs.Ends.{MayBeRefusedMemory}
use Rattle.vt_calls.proofs.Finishing.{same_but_for_changes}
use Rattle.vt_calls.specs.KernelValue.{KernelValue, kernel_world}
use Rattle.vt_calls.specs.Meets.{Ends, Meets}

-- the same world
pub numbered : (kernel : KernelValue) → SameWorlds (world_of kernel.world) (kernel_world kernel)
numbered kernel = same_but_for_changes (world_of kernel.world) (kernel_world kernel) refl

-- the same numbers serve it
pub serves_numbered : (kernel : KernelValue) (allotment : Allotment)
    → ServesInHand may_be_given (world_of kernel.world) allotment
    → ServesInHand may_be_given (kernel_world kernel) allotment
serves_numbered kernel allotment it = record {
  serves = record {
    from_hand = it.serves.from_hand;
    keeps = any_same_worlds_keep_to_numbers _ (world_of kernel.world) (kernel_world kernel) (numbered kernel)
        it.serves.keeps;
  };
  stays = it.stays;
}

-- a call ends so
module _ (old : KernelValue) (held : IsHeld old.world) (name : TaskName) (call : Call) where
  alike : (fresh : Fresh ℕ)
      → AreAlike (policy nat_eq fresh (world_of old.world) name call) (policy nat_eq fresh (kernel_world old) name call)
  alike fresh =
      any_same_worlds_are_answered_alike (world_of old.world) (kernel_world old) (numbered old) held.in_world fresh name
      call

  -- with the kernel that it leaves
  module _ (new : KernelValue) where
    meets : (one other : Outcome ℕ) → AreAlike one other → (result : Result Answer Deny)
        → Meets call one result old.world new.world → OnErr result (new.world ≡ old.world → new ≡ old)
        → any.Meets kernel_world call other result old new
    meets one other same (Ok answer) it kept = (
      sym same.answer ∙ it.0,
      sameness_is_an_equivalence.onward other.world one.world (kernel_world new)
          (sameness_is_an_equivalence.back one.world other.world same.worlds)
          (sameness_is_an_equivalence.onward one.world (world_of new.world) (kernel_world new) it.1 (numbered new)),
    )
    meets one other same (Err deny) (inl denied, stays) kept = (inl (sym same.answer ∙ denied), kept stays)
    meets one other same (Err deny) (inr (short, may), stays) kept =
        (inr (short, subst (MayBeRefusedMemory call) same.answer may), kept stays)

    pub ends_numbered : (result : Result Answer Deny) → Ends old.world name call result new.world
        → OnErr result (new.world ≡ old.world → new ≡ old) → any.Ends kernel_world old name call result new
    ends_numbered result it kept = record {
      allotment = it.allotment;
      serves = serves_numbered old it.allotment it.serves;
      outcome = meets _ _ (alike it.allotment.new) result it.outcome kept;
      memory = λ none. it.memory none ∙ (alike it.allotment.new).answer;
      numbers = (it.numbers.0, serves_numbered new it.numbers.0 it.numbers.1);
    }

-- the same of a kernel as a function sees it
pub ends_seen : (seen old new : KernelValue) → seen ≡ old → IsHeld seen.world → (name : TaskName) (call : Call)
    → (result : Result Answer Deny) → Ends seen.world name call result new.world
    → OnErr result (new.world ≡ seen.world → new ≡ seen) → any.Ends kernel_world old name call result new
ends_seen seen old new is held name call result it kept =
    subst (λ kernel. any.Ends kernel_world kernel name call result new) is
    (ends_numbered seen held name call new result it kept)

-- a call that was done owes nothing of a world that was kept
pub kept_where_done : {T E : Type 0} (A : Type 0) (result : Result T E) → is_ok result ≡ true → OnErr result A
kept_where_done A (Ok t) done = tt
kept_where_done A (Err e) done = absurd cc

pub kept_always : {T E : Type 0} {A : Type 0} (result : Result T E) → A → OnErr result A
kept_always (Ok t) kept = tt
kept_always (Err e) kept = kept
