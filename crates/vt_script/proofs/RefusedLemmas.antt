-- What is told of lines is the policy's text, and in which of them an allocation may have failed there.
use Rattle.std.proofs.Common.{◌≡◌, ◌∙◌, ◌+◌, ◌++◌, ◌==◌, ◌∷◌, [], ap, append-nil, append_assoc, arith, Bool, bytes_eq, Err, false, flat_map, get_or, IfErr, inl, inr, IsSomeAnd, length, List, map, nat_eq, None, Ok, Option, refl, Result, Some, subst, suc, sym, true, ℕ}
use Rattle.std.proofs.lemmas.List.{append_cancel_left}
use Rattle.vt_spec.proofs.Common.{Answer, Asking, Bind, Call, Calling, false≢true, Fresh, MountOverlay, MountPlain, MoveMount, Request, TaskName, Umount, Version, World, denial, first_world, handed, later, line_step, lines_of, numbers_for, opening, policy, printed_line, printed_value, reply_line, request_of, requested, spaced, step_text, step_world, text_from}
use Rattle.std.specs.Fmt.{digits}
use Rattle.std.specs.Prelude.{codes, decimal}
use Rattle.vt_spec.specs.Language.Printed.{printed_rows}
use Rattle.vt_spec.specs.Errors.{errno_name, number_of, rule_name}
use Rattle.vt_spec.specs.declared.errors.Deny.{Deny}
use Rattle.vt_spec.specs.declared.errors.Rule.{Rule}
use Rattle.vt_spec.specs.declared.errors.Rule.TheVariants.{M10, M8, M9}
use Rattle.vt_spec.specs.Language.Script.{overlays, with_line_byte}
use Rattle.vt_spec.specs.Machine.Run.{script_text_as}
use Rattle.vt_laws_rules.specs.Numbers.{Allotment}
use Rattle.vt_laws_rules.proofs.rules.OwnRules.{denial_has_error_of_rule}
use Rattle.vt_laws_trees.proofs.runs.answered.AlikeWorlds.{sameness_is_an_equivalence}
use Rattle.vt_laws_trees.specs.Runs.Handed.{may_be_given}
use Rattle.vt_laws_trees.specs.Runs.Runs.{OpensInHand, ServesInHand, TellsAlike}
use Rattle.vt_laws_worlds.proofs.one_text.runs.RunsTold.{every_program_has_one_text}
use Rattle.vt_permits.specs.Memory.{IsAfterReceivers}
use Rattle.vt_answers.specs.Ends.{MayBeRefusedMemory}
use Rattle.vt_script.specs.Handed.{TellsHanded}
use Rattle.vt_script.specs.Progress.{HasNoNewline}
use Rattle.vt_script.specs.Refused.{LineMayFail, MayBeRefusedFrom, MayBeRefusedIn, MayFail, world_left}
use Rattle.vt_script.proofs.ReplyLemmas.{step_refused, step_spoken}
use Rattle.vt_script.proofs.RunLemmas.{lines_of-newline}

-- A reply tells whether it is a denial, and by which rule

-- what a denial's reply has behind the line's number
abbrev denial_words : Deny → List ℕ
denial_words deny =
    spaced (codes "deny" ∷ decimal (number_of deny.errno) ∷ errno_name deny.errno ∷ rule_name deny.rule ∷ []) ++ codes "\n"

same_words : (number : ℕ) (one other : Deny) → reply_line number (Err one) ≡ reply_line number (Err other)
    → denial_words one ≡ denial_words other
same_words number one other told = append_cancel_left (decimal number) (denial_words one) (denial_words other) (
    sym (append_assoc (decimal number) _ (codes "\n")) ∙ told ∙ append_assoc (decimal number) _ (codes "\n"))

-- the rules that are checked after receivers are gathered have names of their own
rule_m8 : (rule : Rule) → denial_words (denial M8) ≡ denial_words (denial rule) → rule ≡ M8
unfolding digits
rule_m8 M8 e = refl
rule_m8 rule e = absurd (false≢true (ap (λ words. bytes_eq words (denial_words (denial rule))) e))

rule_m9 : (rule : Rule) → denial_words (denial M9) ≡ denial_words (denial rule) → rule ≡ M9
unfolding digits
rule_m9 M9 e = refl
rule_m9 rule e = absurd (false≢true (ap (λ words. bytes_eq words (denial_words (denial rule))) e))

rule_m10 : (rule : Rule) → denial_words (denial M10) ≡ denial_words (denial rule) → rule ≡ M10
unfolding digits
rule_m10 M10 e = refl
rule_m10 rule e = absurd (false≢true (ap (λ words. bytes_eq words (denial_words (denial rule))) e))

-- no answer is told as a denial
answer_is_no_denial : (number : ℕ) (answer : Answer) (deny : Deny)
    → reply_line number (Ok answer) ≡ reply_line number (Err deny) → ⊥
answer_is_no_denial number answer deny told =
    let rest = flat_map (printed_line number) (printed_rows answer) in
    let words = spaced (codes "ok" ∷ printed_value answer) in
    let behind : (words ++ codes "\n") ++ rest ≡ denial_words deny = append_cancel_left (decimal number) _ _ (
    sym (append_assoc (decimal number) (words ++ codes "\n") rest)
    ∙ ap (λ line. line ++ rest) (sym (append_assoc (decimal number) words (codes "\n")))
    ∙ told ∙ append_assoc (decimal number) _ (codes "\n")) in
    let letter : 111 ≡ 100 = ap (λ words. get_or words 1 0) behind in
    absurd (omega (arith, letter))

-- A request may fail alike where it is answered alike

module _ (number : ℕ) (deny other : Deny) (own : other ≡ denial other.rule)
    (told : reply_line number (Err deny) ≡ reply_line number (Err other)) where
  -- the refusal is the same, if its rule is
  same_rule : (rule : Rule) → ((named : Rule) → denial_words (denial rule) ≡ denial_words (denial named) → named ≡ rule)
      → deny ≡ denial rule → other ≡ denial rule
  same_rule rule named is = own ∙ ap denial (named other.rule (ap denial_words (sym is)
      ∙ same_words number deny other told ∙ ap denial_words own))

  receivers_alike : (call : Call) → IsAfterReceivers call deny → IsAfterReceivers call other
  receivers_alike (Umount path) (inl is) = inl (same_rule M8 rule_m8 is)
  receivers_alike (Umount path) (inr is) = inr (same_rule M10 rule_m10 is)
  receivers_alike (MountPlain path flags) is = same_rule M9 rule_m9 is
  receivers_alike (MountOverlay path options flags) is = same_rule M9 rule_m9 is
  receivers_alike (Bind source path recursive) is = same_rule M9 rule_m9 is
  receivers_alike (MoveMount source path) (inl is) = inl (same_rule M9 rule_m9 is)
  receivers_alike (MoveMount source path) (inr is) = inr (same_rule M10 rule_m10 is)
  receivers_alike call is = absurd is

memory_alike : (number : ℕ) (call : Call) (one other : Result Answer Deny)
    → IfErr other (λ deny. deny ≡ denial deny.rule) → reply_line number one ≡ reply_line number other
    → MayBeRefusedMemory call one → MayBeRefusedMemory call other
memory_alike number call one (Ok answer) own told may = tt
memory_alike number call (Ok answer) (Err deny) own told may = absurd (answer_is_no_denial number answer deny told)
memory_alike number call (Err refusal) (Err deny) own told may = receivers_alike number refusal deny own told call may

own_error : (fresh : Fresh ℕ) (world : World ℕ) (task : TaskName) (call : Call) (answer : Result Answer Deny)
    → (policy nat_eq fresh world task call).answer ≡ answer → IfErr answer (λ deny. deny ≡ denial deny.rule)
own_error fresh world task call (Ok answer) is = tt
own_error fresh world task call (Err deny) is = denial_has_error_of_rule fresh world task call deny is

module _ (number : ℕ) (world other : World ℕ) (fresh again : Fresh ℕ) where
  request_may_fail : (asked : Option Request)
      → reply_line number (requested nat_eq world asked fresh).answer
      ≡ reply_line number (requested nat_eq other asked again).answer
      → IsSomeAnd asked (MayFail world fresh) → IsSomeAnd asked (MayFail other again)
  request_may_fail None told may = may
  request_may_fail (Some (Calling task call)) told (inl kept) = inl kept
  request_may_fail (Some (Calling task call)) told (inr may) = inr (
    may.0,
    memory_alike number call _ _
        (own_error again other task call _ refl) told may.1,
  )
  request_may_fail (Some (Asking directive)) told may = tt

  line_may_fail : (version : Version) (line : List ℕ)
      → step_text number (line_step nat_eq (overlays version) world line (Some fresh))
      ≡ step_text number (line_step nat_eq (overlays version) other line (Some again))
      → LineMayFail version world fresh line → LineMayFail version other again line
  line_may_fail version line told may = (
    may.0,
    request_may_fail asked (
        ap (step_text number) (sym (step_spoken version world line fresh asked may.0 refl)) ∙ told
        ∙ ap (step_text number) (step_spoken version other line again asked may.0 refl)) may.1,
  )
    where
      asked : Option Request
      asked = request_of (overlays version) line

-- Lines of a script

-- no line of a script has a newline
abbrev AreLines : List (List ℕ) → Type 0
AreLines [] = Unit {0}
AreLines (line ∷ lines) = HasNoNewline line × AreLines lines

byte_before : (newline : Bool) (byte : ℕ) (lines : List (List ℕ)) → (byte == 10) ≡ newline → AreLines lines
    → AreLines (with_line_byte newline byte lines)
byte_before true byte lines is are = (tt, are)
byte_before false byte [] is are = ((is, tt), tt)
byte_before false byte (line ∷ lines) is are = ((is, are.0), are.1)

are_lines_of : (script : List ℕ) → AreLines (lines_of script)
are_lines_of [] = tt
are_lines_of (byte ∷ bytes) = byte_before (byte == 10) byte (lines_of bytes) refl (are_lines_of bytes)

-- lines as a script
abbrev as_script : List (List ℕ) → List ℕ
as_script lines = flat_map (λ line. line ++ 10 ∷ []) lines

lines_of_script : (lines : List (List ℕ)) → AreLines lines → lines_of (as_script lines) ≡ lines
lines_of_script [] are = refl
lines_of_script (line ∷ lines) are = ap lines_of (append_assoc line (10 ∷ []) (as_script lines))
    ∙ lines_of-newline line (as_script lines) are.0 ∙ ap (λ rest. line ∷ rest) (lines_of_script lines are.1)

are_lines-append : (lines more : List (List ℕ)) → AreLines lines → AreLines more → AreLines (lines ++ more)
are_lines-append [] more are also = also
are_lines-append (line ∷ lines) more are also = (are.0, are_lines-append lines more are.1 also)

module _ (version : Version) where
  -- The policy's text

  -- the text of lines that are not all is a beginning of the text of all
  pub text_from-front : (world : World ℕ) (number : ℕ) (front back : List (List ℕ)) (refused : List Bool) →
      (more : List ℕ) × (text_from (overlays version) world number (front ++ back) refused
      ≡ text_from (overlays version) world number front refused ++ more)
  text_from-front world number [] back refused = (text_from (overlays version) world number back refused, refl)
  text_from-front world number (line ∷ front) back refused =
      let step = line_step nat_eq (overlays version) world line (handed number refused) in
      let rest = text_from-front (step_world world step) (number + 1) front back (later refused) in
      (rest.0, ap (λ xs. step_text number step ++ xs) rest.1 ∙ sym (append_assoc (step_text number step) _ rest.0))

  -- what is said of lines that are not there changes no text
  pub text_from-padded : (world : World ℕ) (number : ℕ) (lines : List (List ℕ)) (refused pad : List Bool)
      → length refused ≡ length lines →
      text_from (overlays version) world number lines (refused ++ pad) ≡ text_from (overlays version) world number lines refused
  text_from-padded world number [] refused pad e = refl
  text_from-padded world number (line ∷ lines) [] pad e = absurd (omega (arith, e))
  text_from-padded world number (line ∷ lines) (true ∷ refused) pad e =
      let step = line_step nat_eq (overlays version) world line None in
      ap (λ rest. step_text number step ++ rest)
      (text_from-padded (step_world world step) (number + 1) lines refused pad (omega (arith, e)))
  text_from-padded world number (line ∷ lines) (false ∷ refused) pad e =
      let step = line_step nat_eq (overlays version) world line (Some (numbers_for number)) in
      ap (λ rest. step_text number step ++ rest)
      (text_from-padded (step_world world step) (number + 1) lines refused pad (omega (arith, e)))

  -- a truth value for each line
  pub may_be_refused-length : (world : World ℕ) (number : ℕ) (lines : List (List ℕ)) (refused : List Bool)
      → MayBeRefusedFrom version world number lines refused → length refused ≡ length lines
  may_be_refused-length world number [] [] may = refl
  may_be_refused-length world number [] (one ∷ refused) may = absurd may
  may_be_refused-length world number (line ∷ lines) [] may = absurd may
  may_be_refused-length world number (line ∷ lines) (true ∷ refused) may = ap suc
      (may_be_refused-length (world_left version world line None) (number + 1) lines refused may.1)
  may_be_refused-length world number (line ∷ lines) (false ∷ refused) may = ap suc
      (may_be_refused-length (world_left version world line (Some (numbers_for number))) (number + 1) lines refused may)

  -- no further line has to be refused
  may_be_refused-none : (world : World ℕ) (number : ℕ) (lines : List (List ℕ))
      → MayBeRefusedFrom version world number lines (map (λ line. false) lines)
  may_be_refused-none world number [] = tt
  may_be_refused-none world number (line ∷ lines) =
      may_be_refused-none (world_left version world line (Some (numbers_for number))) (number + 1) lines

  pub may_be_refused-padded : (world : World ℕ) (number : ℕ) (lines more : List (List ℕ)) (refused : List Bool)
      → MayBeRefusedFrom version world number lines refused
      → MayBeRefusedFrom version world number (lines ++ more) (refused ++ map (λ line. false) more)
  may_be_refused-padded world number [] more [] may = may_be_refused-none world number more
  may_be_refused-padded world number [] more (one ∷ refused) may = absurd may
  may_be_refused-padded world number (line ∷ lines) more [] may = absurd may
  may_be_refused-padded world number (line ∷ lines) more (true ∷ refused) may =
      (may.0, may_be_refused-padded (world_left version world line None) (number + 1) lines more refused may.1)
  may_be_refused-padded world number (line ∷ lines) more (false ∷ refused) may =
      may_be_refused-padded (world_left version world line (Some (numbers_for number))) (number + 1) lines more refused may

  -- What is told of lines that are handed numbers, or none

  tells_alike : (world : World ℕ) (number : ℕ) (lines : List (List ℕ)) (refused : List Bool) (text : List ℕ)
      → TellsHanded version world number lines refused text
      → TellsAlike (overlays version) may_be_given world number lines refused text
  tells_alike world number [] [] text tells = tells
  tells_alike world number [] (one ∷ refused) text tells = absurd tells
  tells_alike world number (line ∷ lines) [] text tells = absurd tells
  tells_alike world number (line ∷ lines) (true ∷ refused) text (None, is, serves, next, same, rest, split, more) =
      (next, same, rest, split, tells_alike next (number + 1) lines refused rest more)
  tells_alike world number (line ∷ lines) (true ∷ refused) text
      (Some allotment, is, serves, next, same, rest, split, more) = absurd (false≢true is)
  tells_alike world number (line ∷ lines) (false ∷ refused) text
      (None, is, serves, next, same, rest, split, more) = absurd (false≢true (sym is))
  tells_alike world number (line ∷ lines) (false ∷ refused) text
      (Some allotment, is, serves, next, same, rest, split, more) =
      (allotment, serves, next, same, rest, split, tells_alike next (number + 1) lines refused rest more)

  -- from an opening world
  module _ (fresh : Fresh ℕ) (opens : OpensInHand may_be_given fresh) where
    -- what is told of these lines is the policy's text
    one_text : (lines : List (List ℕ)) (refused : List Bool) (text : List ℕ) → AreLines lines
        → TellsAlike (overlays version) may_be_given (opening nat_eq fresh) 1 lines refused text
        → text ≡ text_from (overlays version) first_world 1 lines refused
    one_text lines refused text are tells =
        let these = lines_of_script lines are in
        every_program_has_one_text (overlays version) refused (as_script lines) text fresh opens
        (subst (λ lines. TellsAlike (overlays version) may_be_given (opening nat_eq fresh) 1 lines refused text) (sym these) tells)
        ∙ ap (λ lines. text_from (overlays version) first_world 1 lines refused) these

    -- Where a run stands after some lines, and where the policy's text stands after them: whatever is told next there is
    -- told behind the same.
    record Stands (lines : List (List ℕ)) (refused : List Bool) (number : ℕ) (world other : World ℕ) : Type 0 where
      are : AreLines lines
      told : List ℕ
      run : (more : List (List ℕ)) (others : List Bool) (rest : List ℕ)
          → TellsAlike (overlays version) may_be_given world number more others rest
          → TellsAlike (overlays version) may_be_given (opening nat_eq fresh) 1 (lines ++ more) (refused ++ others) (told ++ rest)
      policy : (more : List (List ℕ)) (others : List Bool)
          → text_from (overlays version) first_world 1 (lines ++ more) (refused ++ others)
          ≡ told ++ text_from (overlays version) other number more others

    -- one line more
    module _ (lines : List (List ℕ)) (refused : List Bool) (number : ℕ) (world other next : World ℕ) (line : List ℕ)
        (none : HasNoNewline line) (stands : Stands lines refused number world other) where
      -- which numbers a line is handed does not matter
      answered_alike : (allotment : Allotment) → ServesInHand may_be_given world allotment
          → step_text number (line_step nat_eq (overlays version) world line (Some allotment.new))
          ≡ step_text number (line_step nat_eq (overlays version) other line (Some (numbers_for number)))
      answered_alike allotment serves =
          let step = line_step nat_eq (overlays version) world line (Some allotment.new) in
          let reply = step_text number step in
          let tells = stands.run (line ∷ []) (false ∷ []) (reply ++ [])
          (allotment, serves, step_world world step, sameness_is_an_equivalence.itself (step_world world step), [], refl, refl) in
          let all = one_text (lines ++ line ∷ []) (refused ++ false ∷ []) (stands.told ++ (reply ++ []))
          (are_lines-append lines (line ∷ []) stands.are (none, tt)) tells in
          sym (append-nil reply) ∙ append_cancel_left stands.told (reply ++ []) _ (all ∙ stands.policy (line ∷ []) (false ∷ []))
          ∙ append-nil _

      -- a line that is told of like that, whether an allocation failed in it or not
      stands_then : (failed : Bool) (reply : List ℕ)
          → ((more : List (List ℕ)) (others : List Bool) (rest : List ℕ)
          → TellsAlike (overlays version) may_be_given next (number + 1) more others rest
          → TellsAlike (overlays version) may_be_given world number (line ∷ more) (failed ∷ others) (reply ++ rest))
          → reply ≡ step_text number (line_step nat_eq (overlays version) other line (handed number (failed ∷ [])))
          → Stands (lines ++ line ∷ []) (refused ++ failed ∷ []) (number + 1) next
          (world_left version other line (handed number (failed ∷ [])))
      unfolding world_left
      stands_then failed reply tells is = record {
        are = are_lines-append lines (line ∷ []) stands.are (none, tt);
        told = stands.told ++ reply;
        run = λ more others rest told.
            rw (append_assoc lines (line ∷ []) more, append_assoc refused (failed ∷ []) others, append_assoc stands.told reply rest)
            (stands.run (line ∷ more) (failed ∷ others) (reply ++ rest) (tells more others rest told));
        policy = λ more others.
            rw (append_assoc lines (line ∷ []) more, append_assoc refused (failed ∷ []) others, append_assoc stands.told reply _)
            (stands.policy (line ∷ more) (failed ∷ others) ∙ ap (λ text. stands.told ++ text) (first failed more others
            ∙ ap (λ text. text ++ text_from (overlays version)
            (world_left version other line (handed number (failed ∷ []))) (number + 1) more others) (sym is)));
      }
        where
          first : (failed : Bool) (more : List (List ℕ)) (others : List Bool)
              → text_from (overlays version) other number (line ∷ more) (failed ∷ others)
              ≡ step_text number (line_step nat_eq (overlays version) other line (handed number (failed ∷ [])))
              ++ text_from (overlays version) (world_left version other line (handed number (failed ∷ []))) (number + 1) more others
          first true more others = refl
          first false more others = refl

    -- only lines that may fail there are refused
    refused_rightly : (more lines : List (List ℕ)) (others refused : List Bool) (number : ℕ) (world other : World ℕ)
        (text : List ℕ) → Stands lines refused number world other → AreLines more
        → TellsHanded version world number more others text → MayBeRefusedFrom version other number more others
    refused_rightly [] lines [] refused number world other text stands are tells = tt
    refused_rightly [] lines (one ∷ others) refused number world other text stands are tells = absurd tells
    refused_rightly (line ∷ more) lines [] refused number world other text stands are tells = absurd tells
    refused_rightly (line ∷ more) lines (true ∷ others) refused number world other text stands are
        (None, is, serves, next, same, rest, split, tells) = (
          line_may_fail number world other serves.0.new (numbers_for number) version line
              (answered_alike lines refused number world other next line are.0 stands serves.0 serves.1) serves.2,
          refused_rightly more (lines ++ line ∷ []) others (refused ++ true ∷ []) (number + 1) next _ rest
              (stands_then lines refused number world other next line are.0 stands true _
              (λ more others rest told. (next, same, rest, refl, told))
              (ap (step_text number) (step_refused version world line serves.2.0)
              ∙ sym (ap (step_text number) (step_refused version other line serves.2.0)))) are.1 tells,
        )
    refused_rightly (line ∷ more) lines (true ∷ others) refused number world other text stands are
        (Some allotment, is, serves, next, same, rest, split, tells) = absurd (false≢true is)
    refused_rightly (line ∷ more) lines (false ∷ others) refused number world other text stands are
        (None, is, serves, next, same, rest, split, tells) = absurd (false≢true (sym is))
    refused_rightly (line ∷ more) lines (false ∷ others) refused number world other text stands are
        (Some allotment, is, serves, next, same, rest, split, tells) =
        refused_rightly more (lines ++ line ∷ []) others (refused ++ false ∷ []) (number + 1) next _ rest
        (stands_then lines refused number world other next line are.0 stands false _
        (λ more others rest told. (allotment, serves, next, same, rest, refl, told))
        (answered_alike lines refused number world other next line are.0 stands allotment serves)) are.1 tells

    opening_stands : Stands [] [] 1 (opening nat_eq fresh) first_world
    opening_stands = record {
      are = tt;
      told = [];
      run = λ more others rest tells. tells;
      policy = λ more others. refl;
    }

    -- what is told of a script is the policy's text of it, where only lines that may fail there are refused
    pub told_as_policy : (script : List ℕ) (refused : List Bool) (text : List ℕ)
        → TellsHanded version (opening nat_eq fresh) 1 (lines_of script) refused text
        → MayBeRefusedIn version (lines_of script) refused × (text ≡ script_text_as version refused script)
    unfolding script_text_as
    told_as_policy script refused text tells = (
      refused_rightly (lines_of script) [] refused [] 1 (opening nat_eq fresh) first_world text opening_stands
          (are_lines_of script) tells,
      every_program_has_one_text (overlays version) refused script text fresh opens
          (tells_alike (opening nat_eq fresh) 1 (lines_of script) refused text tells),
    )
