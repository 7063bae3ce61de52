-- What a run has told, from its opening on.
use Rattle.std.proofs.Common.{◌≡◌, ℕ, ◌+◌, ◌-◌, ◌≤◌, Bool, List, [], ◌++◌, length, map, false, take, drop, refl, sym, ap, ◌∙◌, append-nil, append_assoc, subst, Result, Ok, Err, arith, take-append-drop, OnOk, IsErrOf}
use Rattle.vt_spec.proofs.Common.{Version, first_world, lines_of, text_from}
use Rattle.std.proofs.Math.Seq.{take-append-add}
use Rattle.std.specs.Io.{StartsWith}
use Rattle.vt_spec.specs.Language.Script.{overlays}
use Rattle.vt_spec.specs.Machine.Run.{script_text_as}
use Rattle.vt_io.specs.declared.output.Sink.{Ghosts}
use Rattle.vt_io.specs.Sink.{WroteFront}
use Rattle.vt_io.proofs.Printing.{Wrote-append, WroteFront-append}
use Rattle.vt_script.specs.Session.{State, moment, Fed, Broke, Closed, BrokeLast, Closes, AnswersScriptIn, BeginsToAnswerIn, EndsAtOnceIn}
use Rattle.vt_script.specs.Progress.{Moment, Runs, HasNoNewline, IsOpening, whole_lines}
use Rattle.vt_script.specs.Refused.{MayBeRefusedIn}
use Rattle.vt_script.specs.Handed.{TellsHanded}
use Rattle.vt_script.proofs.RefusedLemmas.{may_be_refused-length, may_be_refused-padded, text_from-front, text_from-padded, told_as_policy}
use Rattle.vt_script.proofs.RunLemmas.{whole_lines-append, whole_lines-rest, told_whole, lines_of-whole}

-- what a sink took of a text, where it holds a beginning of all
pub rest_after_held : (held text new : List ℕ) → length held ≤ length new → StartsWith (held ++ text) new
    → (front : List ℕ) × (more : List ℕ) × (new ≡ held ++ front) × (text ≡ front ++ more)
rest_after_held held text new longer starts =
    let taken : length held + (length new - length held) ≡ length new = omega arith in (
      take (length new - length held) text,
      drop (length new - length held) text,
      sym starts ∙ ap (λ n. take n (held ++ text)) (sym taken) ∙ take-append-add held text (length new - length held),
      sym (take-append-drop (length new - length held) text),
    )

-- from an opening moment on
module _ {version : Version} {first : Moment} (opens : IsOpening version first) where
  -- what a run tells from the opening on is the text of its script, where only lines that may fail are refused
  as_policy : (script : List ℕ) (refused : List Bool) (text : List ℕ)
      → TellsHanded first.version first.world (first.answered + 1) (lines_of script) refused text
      → MayBeRefusedIn version (lines_of script) refused × (text ≡ script_text_as version refused script)
  as_policy script refused text told = told_as_policy version opens.0 opens.1 script refused text
      (subst (λ (moment : Moment). TellsHanded moment.version moment.world (moment.answered + 1) (lines_of script) refused text)
      opens.2 told)

  -- what was read is what ended, and what follows it
  parts : (read text : List ℕ) (new : Moment) (runs : Runs first read text new) → read ≡ runs.ended ++ new.line
  parts read text new runs = ap (λ (moment : Moment). moment.line ++ read) (sym opens.2) ∙ runs.split

  -- what was read is the lines that ended and what follows them
  whole_read : (read text : List ℕ) (new : Moment) (runs : Runs first read text new) → HasNoNewline new.line
      → whole_lines read ≡ runs.ended
  whole_read read text new runs none = ap whole_lines (parts read text new runs)
      ∙ whole_lines-rest runs.ended new.line none ∙ runs.whole

  -- the text of the lines that ended is the policy's text of the whole lines
  whole_told : (read text : List ℕ) (new : Moment) (runs : Runs first read text new) → HasNoNewline new.line
      → MayBeRefusedIn version (lines_of (whole_lines read)) runs.refused
      × (text ≡ script_text_as version runs.refused (whole_lines read))
  whole_told read text new runs none =
      let told = as_policy runs.ended runs.refused text (told_whole first read text new runs) in
      let whole = sym (whole_read read text new runs none) in (
        subst (λ ended. MayBeRefusedIn version (lines_of ended) runs.refused) whole told.0,
        told.1 ∙ ap (script_text_as version runs.refused) whole,
      )

  -- the text of all lines is the policy's text
  all_told : (script text : List ℕ) (new : Moment) (runs : Runs first script text new) (refused : List Bool)
      (last : List ℕ) → TellsHanded new.version new.world (new.answered + 1) (lines_of new.line) refused last →
      MayBeRefusedIn version (lines_of script) (runs.refused ++ refused)
      × (text ++ last ≡ script_text_as version (runs.refused ++ refused) script)
  all_told script text new runs refused last told =
      let whole = sym (parts script text new runs) in
      let all = as_policy (runs.ended ++ new.line) (runs.refused ++ refused) (text ++ last)
      (runs.goes_on new.line refused last told) in (
        subst (λ read. MayBeRefusedIn version (lines_of read) (runs.refused ++ refused)) whole all.0,
        all.1 ∙ ap (script_text_as version (runs.refused ++ refused)) whole,
      )

  -- the text of whole lines is a beginning of the policy's text, whatever follows them
  ended_told : (ended rest : List ℕ) (refused : List Bool) (text : List ℕ) → whole_lines ended ≡ ended
      → TellsHanded first.version first.world (first.answered + 1) (lines_of ended) refused text →
      (pad : List Bool) × MayBeRefusedIn version (lines_of (ended ++ rest)) (refused ++ pad) × (more : List ℕ)
      × (script_text_as version (refused ++ pad) (ended ++ rest) ≡ text ++ more)
  unfolding script_text_as
  ended_told ended rest refused text whole tells =
      let lines : lines_of (ended ++ rest) ≡ lines_of ended ++ lines_of rest = lines_of-whole ended rest whole in
      let others = lines_of rest in
      let pad : List Bool = map (λ line. false) others in
      let told = as_policy ended refused text tells in
      let front = text_from-front version first_world 1 (lines_of ended) others (refused ++ pad) in (
        pad,
        rw lines (may_be_refused-padded version first_world 1 (lines_of ended) others refused told.0),
        front.0,
        ap (λ xs. text_from (overlays version) first_world 1 xs (refused ++ pad)) lines ∙ front.1
            ∙ ap (λ xs. xs ++ front.0) (text_from-padded version first_world 1 (lines_of ended) refused pad
            (may_be_refused-length version first_world 1 (lines_of ended) refused told.0))
            ∙ ap (λ xs. xs ++ front.0) (sym told.1),
      )

  -- the text of the lines that ended is a beginning of the policy's text, whatever follows what was read
  front_told : (read unread text : List ℕ) (new : Moment) (runs : Runs first read text new) →
      (refused : List Bool) × MayBeRefusedIn version (lines_of (read ++ unread)) refused × (more : List ℕ)
      × (script_text_as version refused (read ++ unread) ≡ text ++ more)
  front_told read unread text new runs =
      let split : read ++ unread ≡ runs.ended ++ (new.line ++ unread) = ap (λ xs. xs ++ unread) (parts read text new runs)
      ∙ append_assoc runs.ended new.line unread in
      let told = ended_told runs.ended (new.line ++ unread) runs.refused text runs.whole
      (told_whole first read text new runs) in
      let refused = runs.refused ++ told.0 in (
        refused,
        subst (λ script. MayBeRefusedIn version (lines_of script) refused) (sym split) told.1,
        told.2,
        ap (script_text_as version refused) split ∙ told.3,
      )

  -- the same of the lines of two runs, one after the other
  both_told : (read text last last_text : List ℕ) (middle new : Moment) (runs : Runs first read text middle)
      (then : Runs middle last last_text new) (unread : List ℕ) →
      (refused : List Bool) × MayBeRefusedIn version (lines_of (read ++ last ++ unread)) (runs.refused ++ refused)
      × (more : List ℕ)
      × (script_text_as version (runs.refused ++ refused) (read ++ last ++ unread) ≡ (text ++ last_text) ++ more)
  both_told read text last last_text middle new runs then unread =
      let ended = runs.ended ++ then.ended in
      let rest = new.line ++ unread in
      let split : read ++ last ++ unread ≡ ended ++ rest = ap (λ xs. xs ++ last ++ unread) (parts read text middle runs)
      ∙ ap (λ xs. xs ++ unread) (append_assoc runs.ended middle.line last)
      ∙ ap (λ xs. runs.ended ++ xs ++ unread) then.split
      ∙ ap (λ xs. xs ++ unread) (sym (append_assoc runs.ended then.ended new.line))
      ∙ append_assoc ended new.line unread in
      let told = ended_told ended rest (runs.refused ++ then.refused) (text ++ last_text)
      (whole_lines-append runs.ended then.ended runs.whole then.whole)
      (runs.goes_on then.ended then.refused last_text (told_whole middle last last_text new then)) in
      let refused = then.refused ++ told.0 in
      let lists : (runs.refused ++ then.refused) ++ told.0 ≡ runs.refused ++ refused =
      append_assoc runs.refused then.refused told.0 in (
        refused,
        subst (λ script. MayBeRefusedIn version (lines_of script) (runs.refused ++ refused)) (sym split)
            (subst (MayBeRefusedIn version (lines_of (ended ++ rest))) lists told.1),
        told.2,
        ap (script_text_as version (runs.refused ++ refused)) split
            ∙ ap (λ all. script_text_as version all (ended ++ rest)) (sym lists) ∙ told.3,
      )

  module _ {W : Type 0} (sink : Ghosts W) where
    -- between two lines or in one, the sink holds the text of the whole lines
    pub whole_held : (read : List ℕ) (state : State) (x y : W) → Fed sink first read state x y → sink.tells x
        → AnswersScriptIn sink version (whole_lines read) x y
    whole_held read state x y fed tells =
        let told = whole_told read fed.text (moment state fed.line) fed.runs fed.reading.whole in
        (fed.runs.refused, told.0, fed.wrote.appended tells ∙ ap (λ text. sink.written x ++ text) told.1)

    -- a beginning of the text of some of the script is one of the policy's text
    front_held : (script read unread text : List ℕ) (new : Moment) (x y : W) → script ≡ read ++ unread
        → Runs first read text new → WroteFront sink x y text → sink.tells x → BeginsToAnswerIn sink version script x y
    front_held script read unread text new x y split runs wrote tells =
        let taken = rest_after_held (sink.written x) text (sink.written y) (wrote.no_shorter tells)
        (wrote.front tells) in
        let told = front_told read unread text new runs in (
          told.0,
          subst (λ script. MayBeRefusedIn version (lines_of script) told.0) (sym split) told.1,
          taken.0,
          taken.1 ++ told.2,
          taken.2,
          ap (script_text_as version told.0) split ∙ told.3 ∙ ap (λ xs. xs ++ told.2) taken.3
              ∙ append_assoc taken.0 taken.1 told.2,
        )

    -- a write failed while more was to come
    pub broke_held : (script read unread : List ℕ) (x y : W) → script ≡ read ++ unread → Broke sink first read x y
        → sink.tells x → BeginsToAnswerIn sink version script x y
    broke_held script read unread x y split broke tells =
        front_held script broke.read (broke.unread ++ unread) broke.text broke.new x y
        (split ∙ ap (λ xs. xs ++ unread) broke.split
        ∙ append_assoc broke.read broke.unread unread) broke.runs broke.wrote tells

    -- a write failed in the answer to the last line
    broke_last_held : (read : List ℕ) (state : State) (x y z : W) (fed : Fed sink first read state x y)
        → BrokeLast sink (moment state fed.line) y z → sink.tells x → BeginsToAnswerIn sink version read x z
    broke_last_held read state x y z fed broke tells =
        let wrote = WroteFront-append sink fed.wrote broke.wrote in
        let taken = rest_after_held (sink.written x) (fed.text ++ broke.text) (sink.written z) (wrote.no_shorter tells)
        (wrote.front tells) in
        let told = all_told read fed.text
        (moment state fed.line) fed.runs broke.told.refused broke.text broke.told.tells in
        (fed.runs.refused ++ broke.told.refused, told.0, taken.0, taken.1, taken.2, sym told.1 ∙ taken.3)

    -- What was told of lines that ended, and then of some of what a read gave: the first are answered, and in what that
    -- read gave a write failed.
    at_once : (script read last unread : List ℕ) (state : State) (x y z : W) (fed : Fed sink first read state x y)
        → script ≡ read ++ last ++ unread → (refused : List Bool) (told_text more : List ℕ)
        → MayBeRefusedIn version (lines_of (read ++ last)) (fed.runs.refused ++ refused)
        → script_text_as version (fed.runs.refused ++ refused) (read ++ last) ≡ (fed.text ++ told_text) ++ more
        → WroteFront sink y z told_text → sink.tells x → EndsAtOnceIn sink version script (length last) unread x z
    at_once script read last unread state x y z fed split refused told_text more may told wrote tells =
        let whole = whole_told read fed.text (moment state fed.line) fed.runs fed.reading.whole in
        let still = fed.wrote.still_tells tells in
        let taken = rest_after_held (sink.written y) told_text (sink.written z) (wrote.no_shorter still)
        (wrote.front still) in
        record {
          read = read;
          last = last;
          split = split;
          size = refl;
          answered = fed.runs.refused;
          refused = refused;
          front = taken.0;
          more = taken.1 ++ more;
          lines = whole.0;
          all_lines = may;
          written = taken.2 ∙ ap (λ held. held ++ taken.0) (fed.wrote.appended tells)
              ∙ ap (λ text. sink.written x ++ text ++ taken.0) whole.1;
          text = told ∙ ap (λ text. fed.text ++ text ++ more) taken.3
              ∙ ap (λ text. text ++ more) (sym (append_assoc fed.text taken.0 taken.1))
              ∙ append_assoc (fed.text ++ taken.0) taken.1 more
              ∙ ap (λ text. text ++ taken.0 ++ (taken.1 ++ more)) whole.1;
        }

    -- a write failed in the answers to what a read gave
    pub broke_at_once : (script read last unread : List ℕ) (given : ℕ) (state : State) (x y z : W)
        (fed : Fed sink first read state x y) → Broke sink (moment state fed.line) last y z
        → script ≡ read ++ last ++ unread → length last ≡ given
        → sink.tells x → EndsAtOnceIn sink version script given unread x z
    broke_at_once script read last unread given state x y z fed broke split size tells =
        let told = both_told read fed.text broke.read broke.text
        (moment state fed.line) broke.new fed.runs broke.runs broke.unread in
        let all : List Bool = fed.runs.refused ++ told.0 in
        let same : read ++ broke.read ++ broke.unread ≡ read ++ last = append_assoc read broke.read broke.unread
        ∙ ap (λ xs. read ++ xs) (sym broke.split) in
        subst (λ size. EndsAtOnceIn sink version script size unread x z) size
        (at_once script read last unread state x y z fed split told.0 broke.text told.2
        (subst (λ read. MayBeRefusedIn version (lines_of read) all) same told.1)
        (ap (script_text_as version all) (sym same) ∙ told.3) broke.wrote tells)

    -- a write failed in the answer to the last line
    pub last_at_once : {T E A : Type 0} (r : Result T E) (fault : E) (script read unread : List ℕ) (given : ℕ)
        (state : State) (x y z : W) (fed : Fed sink first read state x y)
        → Closes sink (moment state fed.line) r y z → (A → script ≡ read) → (A → unread ≡ []) → given ≡ 0
        → IsErrOf r fault → A → sink.tells x → EndsAtOnceIn sink version script given unread x z
    last_at_once (Ok t) fault script read unread given state x y z fed closes all none size is a tells = absurd cc
    last_at_once (Err other) fault script read unread given state x y z fed closes all none size is a tells =
        let told = all_told read fed.text (moment state fed.line) fed.runs closes.told.refused closes.text closes.told.tells in
        let refused : List Bool = fed.runs.refused ++ closes.told.refused in
        let same : read ++ [] ≡ read = append-nil read in
        subst (λ size. EndsAtOnceIn sink version script size unread x z) (sym size)
        (at_once script read [] unread state x y z fed
        (all a ∙ sym same ∙ sym (append-nil (read ++ [])) ∙ ap (λ rest. read ++ [] ++ rest) (sym (none a)))
        closes.told.refused closes.text [] (subst (λ read. MayBeRefusedIn version (lines_of read) refused) (sym same) told.0)
        (ap (script_text_as version refused) same ∙ sym told.1 ∙ sym (append-nil (fed.text ++ closes.text)))
        closes.wrote tells)

    -- all was answered
    closed_held : (read : List ℕ) (state : State) (x y z : W) (fed : Fed sink first read state x y)
        → Closed sink (moment state fed.line) y z → sink.tells x → AnswersScriptIn sink version read x z
    closed_held read state x y z fed closed tells =
        let told = all_told read fed.text
        (moment state fed.line) fed.runs closed.told.refused closed.text closed.told.tells in (
          fed.runs.refused ++ closed.told.refused,
          told.0,
          (Wrote-append sink fed.wrote closed.wrote).appended tells ∙ ap (λ text. sink.written x ++ text) told.1,
        )

    -- how a run ends that read all of its script
    pub ends_well : {T E A : Type 0} (r : Result T E) (script read : List ℕ) (state : State) (x y z : W)
        (fed : Fed sink first read state x y) → Closes sink (moment state fed.line) r y z → (A → script ≡ read) →
        OnOk r (A → sink.tells x → AnswersScriptIn sink version script x z)
    ends_well (Ok t) script read state x y z fed closes all =
        λ a tells. subst (λ xs. AnswersScriptIn sink version xs x z) (sym (all a)) (closed_held read state x y z fed closes tells)
    ends_well (Err fault) script read state x y z fed closes all = tt

    pub ends_badly : {T E A : Type 0} (r : Result T E) (fault : E) (script read : List ℕ) (state : State) (x y z : W)
        (fed : Fed sink first read state x y) → Closes sink (moment state fed.line) r y z → (A → script ≡ read) →
        IsErrOf r fault → A → sink.tells x → BeginsToAnswerIn sink version script x z
    ends_badly (Ok t) fault script read state x y z fed closes all is a tells = absurd cc
    ends_badly (Err other) fault script read state x y z fed closes all is a tells =
        subst (λ xs. BeginsToAnswerIn sink version xs x z) (sym (all a)) (broke_last_held read state x y z fed closes tells)
