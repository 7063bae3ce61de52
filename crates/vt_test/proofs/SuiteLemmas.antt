-- The calls of the scripts of a file, as they are read.
use Rattle.std.proofs.Common.{All, Bool, List, [], false, true, if◌then◌else◌, length, not, ℕ, ◌++◌, ◌<◌, ◌||◌, ◌∷◌, ◌≡◌, ◌∙◌, ap, append-nil, append_assoc, arith, refl, subst, sym}
use Rattle.std.specs.List.{flat_map, list_any}
use Rattle.std.proofs.lemmas.List.Concat.{flat_map-append}
use Rattle.std.proofs.lemmas.List.Elements.{All-nil, All-push}
use Rattle.vt_line.specs.Versions.{version_of}
use Rattle.vt_spec.proofs.Common.{Version, is_silent, lines_of, is_empty}
use Rattle.vt_test.specs.Suite.{HaveCalls, IsRead, ReadsOn, SaysMore, has_call, is_in, kept_after, lines_in, name_line}
use Rattle.vt_test.specs.declared.suite.Reading.{Reading}
use Rattle.vt_test.specs.declared.suite.Script.{Script}

-- a line that is silent, and one that is not
pub has_call-silent : (text line rest : List ℕ) → lines_of text ≡ line ∷ lines_of rest → is_silent line ≡ true
    → has_call text ≡ has_call rest
has_call-silent text line rest first silent =
    ap (list_any (λ line. not (is_silent line))) first ∙ ap (λ b. not b || has_call rest) silent

pub has_call-spoken : (text line rest : List ℕ) → lines_of text ≡ line ∷ lines_of rest → is_silent line ≡ false
    → has_call text ≡ true
has_call-spoken text line rest first spoken =
    ap (list_any (λ line. not (is_silent line))) first ∙ ap (λ b. not b || has_call rest) spoken

-- nothing is read yet
pub read-nothing : (version : Version) (done : List Script) (script : Script) → done ≡ [] → script.name.now ≡ []
    → is_in version script → script.text.items ≡ [] → IsRead version [] done script
read-nothing version done script none unnamed own empty = record {
  versions = subst (All (is_in version)) (sym none) (All-nil (is_in version));
  own_version = own;
  head = [];
  silent = refl;
  told = sym (λ i. flat_map lines_in (none i) ++ (name_line (unnamed i) ++ empty i));
  first = λ named. (none, refl);
}

-- a script that is read goes on
pub read-more : (version : Version) (calls more : List ℕ) (old new : Reading) → SaysMore more old new
    → IsRead version calls old.done.items old.script → IsRead version (calls ++ more) new.done.items new.script
read-more version calls more old new says was = record {
  versions = subst (All (is_in version)) (sym says.done) was.versions;
  own_version = ap version_of says.version ∙ was.own_version;
  head = was.head;
  silent = was.silent;
  told = ap (λ calls. calls ++ more) was.told
      ∙ further was.head (flat_map lines_in old.done.items) (name_line old.script.name.now) old.script.text.items more
      ∙ sym (λ i. was.head ++ (flat_map lines_in (says.done i) ++ (name_line (says.name i) ++ says.text i)));
  first = λ none. (says.done ∙ (was.first (sym says.name ∙ none)).0, (was.first (sym says.name ∙ none)).1);
}
  where
    further : (head done name text more : List ℕ)
        → (head ++ (done ++ (name ++ text))) ++ more ≡ head ++ (done ++ (name ++ (text ++ more)))
    further head done name text more = simp append_assoc

pub reads-more : (more : List ℕ) (old new : Reading) → (new.failed ≡ false → SaysMore more old new)
    → ReadsOn more old new
reads-more more old new says fine =
    ((says fine).not_failed, λ version calls was. read-more version calls more old new (says fine) was)

-- a script without a name or a call is left out, and it is the first
left_out : (version : Version) (calls : List ℕ) (done : List Script) (script : Script) (name : List ℕ)
    → script.name.now ≡ name → is_empty name ≡ true → has_call script.text.items ≡ false
    → IsRead version calls done script → HaveCalls version calls done
left_out version calls done script (byte ∷ name) named empty silent was = absurd cc
left_out version calls done script [] named empty silent was =
    let first = was.first named in record {
      versions = was.versions;
      head = script.text.items;
      silent = silent;
      told = was.told ∙ (λ i. first.1 i ++ (flat_map lines_in (first.0 i) ++ (name_line (named i) ++ script.text.items)))
          ∙ sym (append-nil script.text.items)
          ∙ ap (λ done. script.text.items ++ flat_map lines_in done) (sym first.0);
    }

-- a script that ends is one of those that were read, or it is left out
pub read-ended : (version : Version) (calls : List ℕ) (done : List Script) (script : Script)
    → IsRead version calls done script → HaveCalls version calls (kept_after done script)
read-ended version calls done script was = case (is_empty script.name.now) (has_call script.text.items) refl refl
  where
    kept : HaveCalls version calls (done ++ script ∷ [])
    kept = record {
      versions = All-push (is_in version) done script was.versions was.own_version;
      head = was.head;
      silent = was.silent;
      told = was.told ∙ ap (λ lines. was.head ++ lines) (sym (flat_map-append lines_in done (script ∷ [])
          ∙ ap (λ lines. flat_map lines_in done ++ lines) (append-nil (lines_in script))));
    }

    case : (unnamed called : Bool) → is_empty script.name.now ≡ unnamed → has_call script.text.items ≡ called
        → HaveCalls version calls (if not unnamed || called then done ++ script ∷ [] else done)
    case false called named calls = kept
    case true true empty calls = kept
    case true false empty silent = left_out version calls done script script.name.now refl empty silent was

-- a script begins behind those that were read
pub read-begun : (version : Version) (calls : List ℕ) (done : List Script) (next : Script) (name : List ℕ)
    → next.name.now ≡ name → 0 < length name → is_in version next → next.text.items ≡ []
    → HaveCalls version calls done → IsRead version (calls ++ 10 ∷ []) done next
read-begun version calls done next [] named some own none have = absurd (omega arith)
read-begun version calls done next (byte ∷ name) named some own none have = record {
  versions = have.versions;
  own_version = own;
  head = have.head;
  silent = have.silent;
  told = ap (λ calls. calls ++ 10 ∷ []) have.told ∙ append_assoc have.head (flat_map lines_in done) (10 ∷ [])
      ∙ sym (λ i. have.head ++ (flat_map lines_in done ++ (name_line (named i) ++ none i)));
  first = λ empty. absurd cc;
}
