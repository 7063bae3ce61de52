-- The groups that a line names are at most 32.
use Rattle.std.proofs.Common.{arith, ◌≡◌, refl, ◌∙◌, ℕ, Bool, true, false, cond, List, [], ◌∷◌, Option, Some, None, option_map, codes, length, nat_le, bytes_eq}
use Rattle.vt_spec.proofs.Common.{Access, Asking, Call, Calling, CapabilityWord, Creation, Fork, Grammar, Mkdir, MountOverlay, Nobody, One, OpenFile, Request, Someone, Two, Version, Who, asked_by, call_read, call_words, capabilities_word, common_steps, each_of, groups_word, identity_word, no_more, parts, path_word, raw_tokens, request_of, request_of_texts, then_some, token_text, word_then, ⊤}
use Rattle.vt_spec.specs.Language.Script.{access_word, bytes_word, descriptor_word, flags_word, kept_or_identity, mode_word, offset_word, type_word, yes_or_no_word, attribute_words, chown_call, creation_words, descriptor_words, fork_words, may_have, mount_words, mounting_words, naming_words, second_words, task_words, who_of}
use Rattle.vt_laws_trees.specs.Trees.Limits.{names_few_groups}

-- Groups
abbrev HasLength : {B : Type 0} → ℕ → Option (List B) → Type 0
HasLength n None = ⊤
HasLength n (Some list) = length list ≡ n

each_has_length : {A B : Type 0} (read : A → Option B) (list : List A) → HasLength (length list) (each_of read list)
each_has_length read [] = refl
each_has_length {B = B} read (a ∷ rest) = grind (arith, common_steps, each_has_length read rest)

few_numbers : Option (List ℕ) → Bool
few_numbers None = true
few_numbers (Some numbers) = nat_le (length numbers) 32

few_groups : (text : List ℕ) → few_numbers (groups_word text) ≡ true
unfolding few_numbers
few_groups text = by _ _ refl _ (each_has_length identity_word (parts 44 text))
  where
    by : (none few : Bool) → nat_le (length (parts 44 text)) 32 ≡ few → (each : Option (List ℕ))
        → HasLength (length (parts 44 text)) each → few_numbers (cond none (Some []) (cond few each None)) ≡ true
    by true few e each h = refl
    by false true e None h = refl
    by false true e (Some numbers) h = cc
    by false false e each h = refl

small : (text groups : List ℕ) → groups_word text ≡ Some groups → nat_le (length groups) 32 ≡ true
unfolding few_numbers
small text groups g = cc (few_groups text)

-- Calls
abbrev few : Option Call → Bool
few None = true
few (Some call) = names_few_groups call

record Few (o : Option Call) : Type 0 where
  passes : few o ≡ true

none : Few None
none = record { passes = refl }

few_if : (b : Bool) (one other : Option Call) → Few one → Few other → Few (cond b one other)
few_if true one other h k = h
few_if false one other h k = k

few_word : {A : Type 0} (read : List ℕ → Option A) (next : A → List (List ℕ) → Option Call) (words : List (List ℕ))
    → ((word : List ℕ) (rest : List (List ℕ)) (a : A) → read word ≡ Some a → Few (next a rest))
    → Few (word_then read next words)
few_word read next [] h = record { passes = refl }
few_word {A = A} read next (word ∷ rest) h = grind (arith, common_steps)

few_end : (call : Call) (words : List (List ℕ)) → names_few_groups call ≡ true → Few (no_more call words)
few_end call [] h = record { passes = h }
few_end call (word ∷ rest) h = record { passes = refl }

few_may_have : {A : Type 0} (read : List ℕ → Option A) (call : Option A → Call) (words : List (List ℕ))
    → ((o : Option A) → names_few_groups (call o) ≡ true) → Few (may_have read call words)
few_may_have read call [] h = record { passes = h None }
few_may_have {A = A} read call (word ∷ rest) h = grind (arith, common_steps, few_end)

abbrev forking : ℕ → ℕ → List ℕ → CapabilityWord → Call
forking uid gid groups capabilities =
    Fork (Some (record { uid = uid; gid = gid; groups = groups; capabilities = capabilities }))

few_forked : (words : List (List ℕ))
    → Few (word_then identity_word (λ uid. word_then identity_word (λ gid. word_then groups_word (λ groups.
    word_then capabilities_word (λ capabilities. no_more (forking uid gid groups capabilities))))) words)
few_forked words = few_word identity_word (λ uid. word_then identity_word (λ gid. word_then groups_word (λ groups.
    word_then capabilities_word (λ capabilities. no_more (forking uid gid groups capabilities))))) words
    (λ one others uid e.
    few_word identity_word (λ gid. word_then groups_word (λ groups.
    word_then capabilities_word (λ capabilities. no_more (forking uid gid groups capabilities)))) others
    (λ two more gid f.
    few_word groups_word (λ groups. word_then capabilities_word
    (λ capabilities. no_more (forking uid gid groups capabilities))) more (λ text still groups g.
    few_word capabilities_word (λ capabilities. no_more (forking uid gid groups capabilities)) still
    (λ three last capabilities k. few_end (forking uid gid groups capabilities) last (small text groups g)))))

few_fork : (words : List (List ℕ)) → Few (fork_words words)
few_fork [] = record { passes = refl }
few_fork (word ∷ rest) = few_forked (word ∷ rest)

few_chown : (path : List ℕ) (uid gid : Option ℕ) (rest : List (List ℕ)) → Few (chown_call path uid gid rest)
few_chown path None None rest = record { passes = refl }
few_chown path None (Some gid) rest = few_end _ rest refl
few_chown path (Some uid) gid rest = few_end _ rest refl

few_open : (path : List ℕ) (access : Access) (creation : Option Creation)
    → Few (option_map (OpenFile path access) creation)
few_open path access None = record { passes = refl }
few_open path access (Some how) = record { passes = refl }

few_mount : (version : Version) (kind : List ℕ) (words : List (List ℕ)) → Few (mount_words version kind words)
few_mount version kind words = grind (arith, common_steps, few_if, few_word, few_may_have, none)

-- a path, or two
few_path : (read : List ℕ → Option (List ℕ)) (call : List ℕ → Call) (words : List (List ℕ))
    → ((path : List ℕ) → names_few_groups (call path) ≡ true) → Few (word_then read (λ path. no_more (call path)) words)
few_path read call words h = few_word read _ words (λ one rest path e. few_end _ rest (h path))

few_paths : (read : List ℕ → Option (List ℕ)) (call : List ℕ → List ℕ → Call) (words : List (List ℕ))
    → ((first second : List ℕ) → names_few_groups (call first second) ≡ true)
    → Few (word_then read (λ first. word_then read (λ second. no_more (call first second))) words)
few_paths read call words h = few_word read _ words (λ one rest first e. few_word read _ rest
    (λ two more second f. few_end _ more (h first second)))

few_second : (version : Version) (name : List ℕ) (words : List (List ℕ)) → Few (second_words version name words)
few_second One name words = none
few_second Two name words = few_if (bytes_eq name (codes "pivot_root")) _ _
    (few_paths path_word _ words (λ first second. refl)) none

few_mounting : (version : Version) (name : List ℕ) (words : List (List ℕ)) → Few (mounting_words version name words)
few_mounting version name words = few_if (bytes_eq name (codes "mount")) _ _
    (few_word bytes_word _ words (λ one rest kind e. few_mount version kind rest))
    (few_if (bytes_eq name (codes "bind")) _ _ (few_paths path_word _ words (λ first second. refl))
    (few_if (bytes_eq name (codes "rbind")) _ _ (few_paths path_word _ words (λ first second. refl))
    (few_if (bytes_eq name (codes "move")) _ _ (few_paths path_word _ words (λ first second. refl))
    (few_if (bytes_eq name (codes "umount")) _ _ (few_path path_word _ words (λ path. refl))
    (few_if (bytes_eq name (codes "lazy")) _ _ (few_path path_word _ words (λ path. refl))
    (few_if (bytes_eq name (codes "remount")) _ _
    (few_word path_word _ words (λ one rest path e. few_word (flags_word version) _ rest
    (λ two more given f. few_end _ more refl))) (few_if (bytes_eq name (codes "type")) _ _
    (few_word path_word _ words (λ one rest path e. few_word type_word _ rest (λ two more word f. few_end _ more refl)))
    (few_if (bytes_eq name (codes "rtype")) _ _
    (few_word path_word _ words (λ one rest path e. few_word type_word _ rest (λ two more word f. few_end _ more refl)))
    (few_if (bytes_eq name (codes "mounts")) _ _ (few_end _ words refl) (few_second version name words))))))))))

few_task : (version : Version) (name : List ℕ) (words : List (List ℕ)) → Few (task_words version name words)
few_task version name words = few_if (bytes_eq name (codes "chdir")) _ _ (few_path path_word _ words (λ path. refl))
    (few_if (bytes_eq name (codes "chroot")) _ _ (few_path path_word _ words (λ path. refl))
    (few_if (bytes_eq name (codes "umask")) _ _ (few_word _ _ words (λ one rest mode e. few_end _ rest refl))
    (few_if (bytes_eq name (codes "drop")) _ _ (few_word _ _ words (λ one rest which e. few_end _ rest refl))
    (few_if (bytes_eq name (codes "fork")) _ _ (few_fork words) (few_if (bytes_eq name (codes "exit")) _ _
    (few_end _ words refl) (few_if (bytes_eq name (codes "unshare")) _ _ (few_end _ words refl)
    (few_if (bytes_eq name (codes "setns")) _ _ (few_word _ _ words (λ one rest task e. few_end _ rest refl))
    (few_mounting version name words))))))))

few_descriptor : (version : Version) (name : List ℕ) (words : List (List ℕ)) → Few (descriptor_words version name words)
few_descriptor version name words = few_if (bytes_eq name (codes "open")) _ _
    (few_word path_word _ words (λ one rest path e. few_word access_word _ rest
    (λ two more access f. few_open path access (creation_words more)))) (few_if (bytes_eq name (codes "pread")) _ _
    (few_word descriptor_word _ words (λ one rest number e. few_word offset_word _ rest
    (λ two more offset f. few_word offset_word _ more (λ three last size g. few_end _ last refl))))
    (few_if (bytes_eq name (codes "pwrite")) _ _ (few_word descriptor_word _ words
    (λ one rest number e. few_word offset_word _ rest
    (λ two more offset f. few_word bytes_word _ more (λ three last bytes g. few_end _ last refl))))
    (few_if (bytes_eq name (codes "close")) _ _
    (few_word descriptor_word _ words (λ one rest number e. few_end _ rest refl)) (few_task version name words))))

few_attribute : (version : Version) (name : List ℕ) (words : List (List ℕ)) → Few (attribute_words version name words)
few_attribute version name words = few_if (bytes_eq name (codes "chmod")) _ _
    (few_word path_word _ words (λ one rest path e. few_word mode_word _ rest (λ two more mode f. few_end _ more refl)))
    (few_if (bytes_eq name (codes "chown")) _ _
    (few_word path_word _ words (λ one rest path e. few_word kept_or_identity _ rest
    (λ two more uid f. few_word kept_or_identity _ more (λ three last gid g. few_chown path uid gid last))))
    (few_if (bytes_eq name (codes "opaque")) _ _
    (few_word path_word _ words (λ one rest path e. few_word yes_or_no_word _ rest
    (λ two more mark f. few_end _ more refl))) (few_descriptor version name words)))

few_naming : (version : Version) (name : List ℕ) (words : List (List ℕ)) → Few (naming_words version name words)
few_naming version name words = few_if (bytes_eq name (codes "mkdir")) _ _
    (few_word path_word _ words (λ one rest path e. few_may_have mode_word (Mkdir path) rest (λ o. refl)))
    (few_if (bytes_eq name (codes "symlink")) _ _ (few_paths path_word _ words (λ first second. refl))
    (few_if (bytes_eq name (codes "whiteout")) _ _ (few_path path_word _ words (λ path. refl))
    (few_if (bytes_eq name (codes "link")) _ _ (few_paths path_word _ words (λ first second. refl))
    (few_if (bytes_eq name (codes "unlink")) _ _ (few_path path_word _ words (λ path. refl))
    (few_if (bytes_eq name (codes "rmdir")) _ _ (few_path path_word _ words (λ path. refl))
    (few_if (bytes_eq name (codes "rename")) _ _ (few_paths path_word _ words (λ first second. refl))
    (few_attribute version name words)))))))

few_call : (version : Version) (name : List ℕ) (words : List (List ℕ)) → Few (call_words version name words)
few_call version name words = few_if (bytes_eq name (codes "ls")) _ _ (few_path path_word _ words (λ path. refl))
    (few_if (bytes_eq name (codes "stat")) _ _ (few_path path_word _ words (λ path. refl))
    (few_if (bytes_eq name (codes "lstat")) _ _ (few_path path_word _ words (λ path. refl))
    (few_if (bytes_eq name (codes "readlink")) _ _ (few_path path_word _ words (λ path. refl))
    (few_if (bytes_eq name (codes "read")) _ _ (few_path path_word _ words (λ path. refl))
    (few_if (bytes_eq name (codes "write")) _ _
    (few_word path_word _ words (λ one rest path e. few_word bytes_word _ rest
    (λ two more bytes f. few_end _ more refl)))
    (few_if (bytes_eq name (codes "exec")) _ _ (few_path path_word _ words (λ path. refl))
    (few_naming version name words)))))))

-- Requests
abbrev pub request_names_few : Option Request → Bool
request_names_few None = true
request_names_few (Some (Calling task call)) = names_few_groups call
request_names_few (Some (Asking directive)) = true

few_asked : (grammar : Grammar) (who : Option Who) (words : List (List ℕ))
    → request_names_few (asked_by grammar who words) ≡ true
few_asked grammar None words = refl
few_asked grammar (Some (Someone task)) [] = refl
few_asked grammar (Some (Someone task)) (name ∷ words) = by _ _ (few_call grammar.version name words)
  where
    read_few : (call : Call) → names_few_groups (call_read grammar.options call) ≡ names_few_groups call
    read_few (MountOverlay path options given) = refl
    read_few call = refl

    by : (b : Bool) (o : Option Call) → Few o
        → request_names_few (cond b (option_map (Calling task) (option_map (call_read grammar.options) o)) None) ≡ true
    by true None h = refl
    by true (Some call) h = read_few call ∙ h.passes
    by false o h = refl
few_asked grammar (Some Nobody) [] = refl
few_asked grammar (Some Nobody) (name ∷ words) = grind (arith, common_steps)

few_texts : (grammar : Grammar) (o : Option (List (List ℕ)))
    → request_names_few (then_some o (request_of_texts grammar)) ≡ true
few_texts grammar None = refl
few_texts grammar (Some []) = refl
few_texts grammar (Some (first ∷ words)) = few_asked grammar (who_of first) words

pub lines_name_few : (grammar : Grammar) (line : List ℕ) → request_names_few (request_of grammar line) ≡ true
unfolding request_of
lines_name_few grammar line = few_texts grammar (each_of token_text (raw_tokens line))
