use Rattle.std.proofs.Common.{◌≡◌, ◌∷◌, ◌<◌, ℕ, List, Some, Err, length, not, option_map, sym, ap, ◌∙◌, subst}
use Rattle.vt_spec.proofs.Common.{Calling, Someone, asked_by, some_from_is_some, task_word}
use Rattle.vt_spec.specs.Language.Script.{overlays}
use Rattle.vt_request.specs.Requests.{call_of}
use Rattle.vt_line.specs.Calls.{IsRequestRead, call_named}
use Rattle.vt_line.specs.Versions.{version_of}
use Rattle.vt_line.proofs.RequestLemmas.{if_some, request-long, request-refused, task-named}
use Rattle.vt_line.proofs.WordLemmas.{task_word-known}
use Rattle.vt_line.proofs.line.task_call.Goals.{else-is_none-via-then-is_none+else-not-is_task_of_parts, else-is_none-via-else-is_none}
use Rattle.vt_line.proofs.line.task_call.Goals as goal

pub returns-in-Err : goal.returns-in-Err
returns-in-Err c =
    let task = c.args.task.now in
    let name = c.args.name.now in
    let words = c.args.words.now in
    let call = call_named (version_of c.args.version) c.in-Some.name words in
    let named : (named : List ℕ) × (task_word task ≡ Some named) = elim c.else-is_none.branch [
      | else-is_none-via-then-is_none+else-not-is_task_of_parts w ↦
          some_from_is_some (task_word task) (sym w.is_task_of_parts.ensures ∙ w.if-not-is_task_of_parts.false)
      | else-is_none-via-else-is_none w ↦
          task_word-known task c.short_task_name-known.result (c.is_none.ensures ∙ ap not w.if-is_none.false)
          c.short_task_name-known.ensures
    ] in
    let asked = task-named (version_of c.args.version) task name words named.0 c.in-Some.name named.1 c.in-Some.ensures.named in
    let all = asked_by (overlays (version_of c.args.version)) (option_map Someone (task_word task)) (name ∷ words) in
    subst (λ deny. IsRequestRead all (Err deny)) (sym c.from.ensures)
    (request-refused all named.0 call c.in-Err.error asked c.in-Err.ensures)

pub returns-in-Some-known : goal.returns-in-Some-known
returns-in-Some-known c =
    let task = c.args.task.now in
    let known = c.in-Some-known.known in
    let named = if_some (λ name. task_word task ≡ Some name) c.short_task_name-known.result known c.in-Some-known.is
    c.short_task_name-known.ensures in
    task-named (version_of c.args.version) task c.args.name.now c.args.words.now known c.in-Some.name named
    c.in-Some.ensures.named
    ∙ ap (option_map (Calling known)) c.in-Ok.ensures

pub returns-in_default-task_name_of_parts : goal.returns-in_default-task_name_of_parts
returns-in_default-task_name_of_parts c =
    let task = c.args.task.now in
    let name = c.args.name.now in
    let words = c.args.words.now in
    let call = call_named (version_of c.args.version) c.in-Some.name words in
    let named : (named : List ℕ) × (task_word task ≡ Some named) = elim c.else-is_none.branch [
      | else-is_none-via-then-is_none+else-not-is_task_of_parts w ↦
          some_from_is_some (task_word task) (sym w.is_task_of_parts.ensures ∙ w.if-not-is_task_of_parts.false)
      | else-is_none-via-else-is_none w ↦
          task_word-known task c.short_task_name-known.result (c.is_none.ensures ∙ ap not w.if-is_none.false)
          c.short_task_name-known.ensures
    ] in
    let asked = task-named (version_of c.args.version) task name words named.0 c.in-Some.name named.1 c.in-Some.ensures.named in
    let all = asked_by (overlays (version_of c.args.version)) (option_map Someone (task_word task)) (name ∷ words) in
    let long = if_some (λ name. 8 < length name) (task_word task) named.0 named.1
    c.in_default-task_name_of_parts.ensures.memory in
    subst (λ deny. IsRequestRead all (Err deny)) (sym c.given_up.ensures)
    (request-long all named.0 call (call_of c.in-Ok.call) asked c.in-Ok.ensures long)

pub returns : goal.returns
returns c =
    task-named (version_of c.args.version) c.args.task.now c.args.name.now c.args.words.now
    c.in-Ok-task_name_of_parts.task c.in-Some.name c.in-Ok-task_name_of_parts.ensures.value c.in-Some.ensures.named
    ∙ ap (option_map (Calling c.in-Ok-task_name_of_parts.task)) c.in-Ok.ensures
