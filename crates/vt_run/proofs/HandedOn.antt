-- What a buffer holds back is handed on to the writer behind it.
use Rattle.std.proofs.Common.{◌≡◌, ℕ, true≢false, List, [], Option, None, Some, Result, Ok, Err, IfOk, ap, sym, subst, ◌∙◌, append-nil, MatchResult, is_ok}
use Rattle.vt_spec.proofs.Common.{Version}
use Rattle.std.specs.Io.KnownBytes.{Keeps, append_known}
use Rattle.vt_run.specs.Answered.{AnswersKnown}

-- a value is known as before its error was mapped
pub known_mapped : {A E F : Type 0} (Q : E → Type 0) (old : Result A E) (new : Result A F) (value : A) (P : A → Type 0)
    → MatchResult old (λ a. new ≡ Ok a) Q → is_ok new ≡ is_ok old → new ≡ Ok value → IfOk old P → P value
known_mapped Q (Ok a) new value P cases variant is known =
    let both : Ok a ≡ Ok value = sym cases ∙ is in
    let same : a ≡ value = cc in
    subst P same known
known_mapped Q (Err e) new value P cases variant is known = absurd (true≢false (sym (ap is_ok is) ∙ variant))

-- known bytes that are kept are these
known_kept : (before after : Option (List ℕ)) (bytes : List ℕ) → before ≡ Some bytes → Keeps before after
    → after ≡ Some bytes
known_kept None after bytes is kept = cc
known_kept (Some x) None bytes is kept = absurd kept
known_kept (Some x) (Some y) bytes is kept = ap Some kept ∙ is

-- a buffer that began empty held the answers, and was handed on
pub handed_on :
    (version : Version) {source begun held_back kept_back : Option (List ℕ)} (script before after : Option (List ℕ))
    → AnswersKnown version source begun held_back → source ≡ script → begun ≡ append_known before []
    → kept_back ≡ held_back → Keeps kept_back after → AnswersKnown version script before after
handed_on version {source} {begun} {held_back} {kept_back} script before after answers same empty back kept =
    λ bytes held is_script short is_before.
    let was : begun ≡ Some held = empty ∙ ap (λ b. append_known b []) is_before ∙ ap Some (append-nil held) in
    let told = answers bytes held (same ∙ is_script) short was in
    (told.0, told.1, known_kept kept_back after _ (back ∙ told.2) kept)
