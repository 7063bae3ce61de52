-- Directives are answered as the definitions say.
use Rattle.std.proofs.Common.{◌≡◌, ℕ, nat_eq, Bool, true, false, List, [], ◌∷◌, Result, Ok, Err, inl, inr, map, refl, sym, ap, ◌∙◌}
use Rattle.vt_spec.proofs.Common.{AskPeers, AskSealed, Directive, TaskName, World, denial, directed, granted, judged, list_any, peer_lines, sealed}
use Rattle.vt_spec.specs.declared.errors.Deny.{Deny}
use Rattle.vt_spec.specs.declared.errors.Rule.TheVariants.{S2}
use Rattle.vt_spec.specs.Language.Answers as spec
use Rattle.vt_spec.specs.Machine.Sealed.{no_such_task}
use Rattle.vt_laws_worlds.proofs.one_text.answered.AlikeAnswered.{any_same_worlds_are_directed_alike}
use Rattle.std.specs.Global.{Vec}
use Rattle.vt_request.specs.Answers.{peer_line_of}
use Rattle.vt_request.specs.declared.answer.Answer.{Answer}
use Rattle.vt_request.specs.declared.answer.Answer.TheVariants.{PeerList, YesNo}
use Rattle.vt_request.specs.declared.answer.PeerLine.{PeerLine}
use Rattle.vt_world.specs.WorldValue.{world_of}
use Rattle.vt_answers.specs.Ends.{Directs}
use Rattle.vt_calls.proofs.Numbered.{numbered}
use Rattle.vt_calls.specs.KernelValue.{KernelValue, kernel_world}

-- a kernel's world is that of its events but for its change number
pub directs_numbered : (seen kernel : KernelValue) → seen ≡ kernel → (directive : Directive)
    (result : Result Answer Deny) → Directs (world_of seen.world) directive result
    → Directs (kernel_world kernel) directive result
directs_numbered seen kernel is directive result (inr short) = inr short
directs_numbered seen kernel is directive result (inl told) = inl (told
    ∙ (any_same_worlds_are_directed_alike (world_of seen.world) (kernel_world seen) (numbered seen) directive).answer
    ∙ ap (λ other. (directed nat_eq (kernel_world other) directive).answer) is)

module _ (world : World ℕ) (directive : Directive) where
  -- the list of peer groups
  pub peers_direct : directive ≡ AskPeers → (lines : Vec PeerLine) → map peer_line_of lines.items ≡ peer_lines nat_eq world
      → Directs world directive (Ok (PeerList lines))
  peers_direct is lines told = inl (ap (λ all. Ok (spec.Answer.PeerList all)) told
      ∙ ap (λ asked. (directed nat_eq world asked).answer) (sym is))

  module _ (names : List TaskName) (is : directive ≡ AskSealed names) where
    -- what is answered of these tasks, if one of them does not exist, or if all do
    abbrev answered : Bool → Result spec.Answer Deny
    answered none = (judged world ((none, S2) ∷ []) (granted (spec.Answer.YesNo (sealed nat_eq world names)) world)).answer

    is_answered : (none : Bool) → list_any (no_such_task world) names ≡ none
        → answered none ≡ (directed nat_eq world directive).answer
    is_answered none there = sym (ap answered there) ∙ ap (λ asked. (directed nat_eq world asked).answer) (sym is)

    pub sealed_direct : (is_sealed : Bool) → is_sealed ≡ sealed nat_eq world names
        → list_any (no_such_task world) names ≡ false → Directs world directive (Ok (YesNo is_sealed))
    sealed_direct is_sealed told there =
        inl (ap (λ yes_or_no. Ok (spec.Answer.YesNo yes_or_no)) told ∙ is_answered false there)

    pub unknown_direct : (deny : Deny) → deny ≡ denial S2 → (list_any (no_such_task world) names ≡ false → ⊥)
        → Directs world directive (Err deny)
    unknown_direct deny refused some = by (list_any (no_such_task world) names) refl
      where
        by : (none : Bool) → list_any (no_such_task world) names ≡ none → Directs world directive (Err deny)
        by true there = inl (ap Err refused ∙ is_answered true there)
        by false there = absurd (some there)
