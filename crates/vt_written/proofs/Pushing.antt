-- Texts that are appended one after the other.
use Rattle.std.proofs.Common.{List, [], false, ℕ, ◌++◌, ◌∷◌, ◌≡◌, ◌∙◌, ap, append_assoc, sym}
use Rattle.vt_written.specs.Objects.{Adds, Pushes, PushesEnd, PushesObject, PushesSome}
use Rattle.vt_written.specs.declared.text.Text.{Text}

-- one text and then another
pub Adds-then : (one other : List ℕ) (old between new : Text) → Adds one old between → Adds other between new
    → Adds (one ++ other) old new
Adds-then one other old between new first second = record {
  not_failed = first.not_failed;
  bytes = second.bytes ∙ ap (λ bytes. bytes ++ other) first.bytes ∙ append_assoc old.bytes.items one other;
}

-- an object's end, and what comes before it
pub PushesEnd-here : (old new : Text) → Pushes (125 ∷ 10 ∷ []) old new → PushesEnd old new
PushesEnd-here old new last fine = ([], last fine)

pub PushesEnd-some : (old between new : Text) → PushesSome old between → PushesEnd between new → PushesEnd old new
PushesEnd-some old between new first rest fine =
    let last = rest fine in
    let before = first last.1.not_failed in (
      before.0 ++ last.0,
      record {
        not_failed = before.1.not_failed;
        bytes = (Adds-then before.0 (last.0 ++ 125 ∷ 10 ∷ []) old between new before.1 last.1).bytes
            ∙ ap (λ text. old.bytes.items ++ text) (sym (append_assoc before.0 last.0 (125 ∷ 10 ∷ [])));
      },
    )

pub PushesEnd-push : (part : List ℕ) (old between new : Text) → Pushes part old between → PushesEnd between new
    → PushesEnd old new
PushesEnd-push part old between new push rest =
    PushesEnd-some old between new (λ fine. (part, push fine)) rest

-- a brace, and then an object's end
pub PushesObject-brace : (part : List ℕ) (old between new : Text) → Pushes (123 ∷ part) old between
    → PushesEnd between new → PushesObject old new
PushesObject-brace part old between new push rest fine =
    let last = rest fine in
    let first = push last.1.not_failed in (
      part ++ last.0,
      record {
        not_failed = first.not_failed;
        bytes = (Adds-then (123 ∷ part) (last.0 ++ 125 ∷ 10 ∷ []) old between new first last.1).bytes
            ∙ ap (λ text. old.bytes.items ++ 123 ∷ text) (sym (append_assoc part last.0 (125 ∷ 10 ∷ [])));
      },
    )
