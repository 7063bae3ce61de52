-- A script in which a mount is refused since its copy at a peer has no room.
use Rattle.std.proofs.Common.{◌≡◌, refl, sym, ap, ◌∙◌, ℕ, zero, suc, nat_eq, ◌+◌, ◌<◌, false, List, [], ◌∷◌, ◌++◌, None, Ok, Err, append_assoc, arith, codes, decimal}
use Rattle.vt_spec.proofs.Common.{Call, Done, Fork, Mkdir, MountPlain, One, Serves, SetType, TaskName, ToShared, Two, Umount, Unshare, Version, World, denial, denied, everything, first_world, granted, lines_of, most_mounts, numbers_for, plain_flags, policy, reply_line, request_of, text_from, whole}
use Rattle.vt_laws_later_calls.proofs.Common.{M9, digits, machine_text, mount_count}
use Rattle.vt_laws_later_calls.specs.Limits.FullNamespaces.{FullReceiverRefuses, numbered, receiver_script, repeated}
use Rattle.vt_laws_later_calls.proofs.limits.ScriptLines.{AsksFor, Fills, fills, lines_repeated, more_repeated, numbers_go_on, text_goes_on}
use Rattle.vt_laws_later_calls.proofs.limits.StackGrows.{stack_grows}
use Rattle.vt_laws_later_calls.proofs.limits.StackUnmounted.{top_is_unmounted}
use Rattle.vt_laws_later_calls.proofs.limits.Supplies.{HasNumbersUntil, next_numbers_serve}
use Rattle.vt_laws_later_calls.proofs.limits.full_namespace.ReceiverFilled.{IsFilled, fills_on, first_is_filled, full_receiver_refuses, one_less, one_less_is_kept, one_more, path_has_one_word, receiver_is_left, receiver_with_room_grants}
use Rattle.vt_laws_later_calls.proofs.limits.full_namespace.ReceiverWorld.{next_world, seven_are_reached, world_1, world_2, world_3, world_4, world_5, world_6, world_7}

-- the calls that the lines repeat
abbrev stacking : Call
stacking = MountPlain (codes "/q") plain_flags

abbrev mounting : Call
mounting = MountPlain (codes "/s/d") plain_flags

-- the lines that are repeated or come last, in each version of the language
stacking_is_asked : (version : Version) → AsksFor (whole version) (codes "t.1 mount plain /q") (1 ∷ []) stacking
unfolding request_of
stacking_is_asked One = record { short = refl; loud = refl; asks = refl }
stacking_is_asked Two = record { short = refl; loud = refl; asks = refl }

mounting_is_asked : (version : Version) → AsksFor (whole version) (codes "t mount plain /s/d") [] mounting
unfolding request_of
mounting_is_asked One = record { short = refl; loud = refl; asks = refl }
mounting_is_asked Two = record { short = refl; loud = refl; asks = refl }

unmounting_is_asked : (version : Version) → AsksFor (whole version) (codes "t.1 umount /q") (1 ∷ [])
    (Umount (codes "/q"))
unfolding request_of
unmounting_is_asked One = record { short = refl; loud = refl; asks = refl }
unmounting_is_asked Two = record { short = refl; loud = refl; asks = refl }

-- The text of the first seven lines
module _ (version : Version) where
  line_text : (last : ℕ) (world : World ℕ) (line : List ℕ) (name : TaskName) (call : Call)
      → AsksFor (whole version) line name call → (text : List ℕ)
      → reply_line (suc last) (policy nat_eq (numbers_for (suc last)) world name call).answer ≡ text
      → (lines : List (List ℕ)) → text_from (whole version) world (suc last) (line ∷ lines) []
      ≡ text ++ text_from (whole version) (next_world (suc last) world name call) (suc (suc last)) lines []
  line_text last world line name call asked text replied lines = cc (text_goes_on (whole version) line name call asked
      world last (policy nat_eq (numbers_for (suc last)) world name call) lines refl)

-- the answers to the first seven lines, computed
reply_1 : reply_line 1 (policy nat_eq (numbers_for 1) first_world [] (Mkdir (codes "/s") None)).answer ≡ codes "1 ok\n"
unfolding everything digits
reply_1 = refl

reply_2 : reply_line 2 (policy nat_eq (numbers_for 2) world_1 [] (Mkdir (codes "/q") None)).answer ≡ codes "2 ok\n"
unfolding everything digits
reply_2 = refl

reply_3 : reply_line 3 (policy nat_eq (numbers_for 3) world_2 [] (MountPlain (codes "/s") plain_flags)).answer
    ≡ codes "3 ok\n"
unfolding everything digits
reply_3 = refl

reply_4 : reply_line 4 (policy nat_eq (numbers_for 4) world_3 [] (SetType (codes "/s") ToShared false)).answer
    ≡ codes "4 ok\n"
unfolding everything digits
reply_4 = refl

reply_5 : reply_line 5 (policy nat_eq (numbers_for 5) world_4 [] (Mkdir (codes "/s/d") None)).answer ≡ codes "5 ok\n"
unfolding everything digits
reply_5 = refl

reply_6 : reply_line 6 (policy nat_eq (numbers_for 6) world_5 [] (Fork None)).answer ≡ codes "6 ok t.1\n"
unfolding everything digits
reply_6 = refl

reply_7 : reply_line 7 (policy nat_eq (numbers_for 7) world_6 (1 ∷ []) Unshare).answer ≡ codes "7 ok\n"
unfolding everything digits
reply_7 = refl

-- what these lines ask for
asked_1 : (version : Version) → AsksFor (whole version) (codes "t mkdir /s") [] (Mkdir (codes "/s") None)
unfolding request_of
asked_1 One = record { short = refl; loud = refl; asks = refl }
asked_1 Two = record { short = refl; loud = refl; asks = refl }

asked_2 : (version : Version) → AsksFor (whole version) (codes "t mkdir /q") [] (Mkdir (codes "/q") None)
unfolding request_of
asked_2 One = record { short = refl; loud = refl; asks = refl }
asked_2 Two = record { short = refl; loud = refl; asks = refl }

asked_3 : (version : Version) → AsksFor (whole version) (codes "t mount plain /s") []
    (MountPlain (codes "/s") plain_flags)
unfolding request_of
asked_3 One = record { short = refl; loud = refl; asks = refl }
asked_3 Two = record { short = refl; loud = refl; asks = refl }

asked_4 : (version : Version) → AsksFor (whole version) (codes "t type /s shared") []
    (SetType (codes "/s") ToShared false)
unfolding request_of
asked_4 One = record { short = refl; loud = refl; asks = refl }
asked_4 Two = record { short = refl; loud = refl; asks = refl }

asked_5 : (version : Version) → AsksFor (whole version) (codes "t mkdir /s/d") [] (Mkdir (codes "/s/d") None)
unfolding request_of
asked_5 One = record { short = refl; loud = refl; asks = refl }
asked_5 Two = record { short = refl; loud = refl; asks = refl }

asked_6 : (version : Version) → AsksFor (whole version) (codes "t fork") [] (Fork None)
unfolding request_of
asked_6 One = record { short = refl; loud = refl; asks = refl }
asked_6 Two = record { short = refl; loud = refl; asks = refl }

asked_7 : (version : Version) → AsksFor (whole version) (codes "t.1 unshare") (1 ∷ []) Unshare
unfolding request_of
asked_7 One = record { short = refl; loud = refl; asks = refl }
asked_7 Two = record { short = refl; loud = refl; asks = refl }

-- the lines from each of the seven on
abbrev lines_from_7 : List (List ℕ) → List (List ℕ)
lines_from_7 lines = codes "t.1 unshare" ∷ lines

abbrev lines_from_6 : List (List ℕ) → List (List ℕ)
lines_from_6 lines = codes "t fork" ∷ lines_from_7 lines

abbrev lines_from_5 : List (List ℕ) → List (List ℕ)
lines_from_5 lines = codes "t mkdir /s/d" ∷ lines_from_6 lines

abbrev lines_from_4 : List (List ℕ) → List (List ℕ)
lines_from_4 lines = codes "t type /s shared" ∷ lines_from_5 lines

abbrev lines_from_3 : List (List ℕ) → List (List ℕ)
lines_from_3 lines = codes "t mount plain /s" ∷ lines_from_4 lines

abbrev lines_from_2 : List (List ℕ) → List (List ℕ)
lines_from_2 lines = codes "t mkdir /q" ∷ lines_from_3 lines

abbrev lines_from_1 : List (List ℕ) → List (List ℕ)
lines_from_1 lines = codes "t mkdir /s" ∷ lines_from_2 lines

-- they lead to the world from which the second task fills its namespace
pub seven_lines : (version : Version) (lines : List (List ℕ))
    → text_from (whole version) first_world 1 (lines_from_1 lines) []
    ≡ codes "1 ok\n2 ok\n3 ok\n4 ok\n5 ok\n6 ok t.1\n7 ok\n" ++ text_from (whole version) world_7 8 lines []
seven_lines version lines =
    line_text version 0 first_world (codes "t mkdir /s") [] (Mkdir (codes "/s") None) (asked_1 version)
    (codes "1 ok\n") reply_1 (lines_from_2 lines) ∙ ap (λ rest. codes "1 ok\n" ++ rest)
    (line_text version 1 world_1 (codes "t mkdir /q") [] (Mkdir (codes "/q") None) (asked_2 version)
    (codes "2 ok\n") reply_2 (lines_from_3 lines)) ∙ ap (λ rest. codes "1 ok\n2 ok\n" ++ rest)
    (line_text version 2 world_2 (codes "t mount plain /s") [] (MountPlain (codes "/s") plain_flags) (asked_3 version)
    (codes "3 ok\n") reply_3 (lines_from_4 lines)) ∙ ap (λ rest. codes "1 ok\n2 ok\n3 ok\n" ++ rest)
    (line_text version 3 world_3 (codes "t type /s shared") [] (SetType (codes "/s") ToShared false) (asked_4 version)
    (codes "4 ok\n") reply_4 (lines_from_5 lines)) ∙ ap (λ rest. codes "1 ok\n2 ok\n3 ok\n4 ok\n" ++ rest)
    (line_text version 4 world_4 (codes "t mkdir /s/d") [] (Mkdir (codes "/s/d") None) (asked_5 version)
    (codes "5 ok\n") reply_5 (lines_from_6 lines)) ∙ ap (λ rest. codes "1 ok\n2 ok\n3 ok\n4 ok\n5 ok\n" ++ rest)
    (line_text version 5 world_5 (codes "t fork") [] (Fork None) (asked_6 version)
    (codes "6 ok t.1\n") reply_6 (lines_from_7 lines))
    ∙ ap (λ rest. codes "1 ok\n2 ok\n3 ok\n4 ok\n5 ok\n6 ok t.1\n" ++ rest)
    (line_text version 6 world_6 (codes "t.1 unshare") (1 ∷ []) Unshare (asked_7 version)
    (codes "7 ok\n") reply_7 lines)

-- The lines of the script
-- the three lines at its end
last_lines : List (List ℕ)
last_lines = codes "t mount plain /s/d" ∷ codes "t.1 umount /q" ∷ codes "t mount plain /s/d" ∷ []

-- the lines of the script behind the first seven
stacking_lines : (count : ℕ) → lines_of (repeated count (codes "t.1 mount plain /q\n")
    ++ codes "t mount plain /s/d\nt.1 umount /q\nt mount plain /s/d\n")
    ≡ lines_repeated count (codes "t.1 mount plain /q") last_lines
unfolding repeated lines_repeated last_lines
stacking_lines zero = refl
stacking_lines (suc count) = ap (λ lines. codes "t.1 mount plain /q" ∷ lines) (stacking_lines count)

-- all lines
script_lines : (count : ℕ)
    → lines_of (receiver_script count) ≡ lines_from_1 (lines_repeated count (codes "t.1 mount plain /q") last_lines)
script_lines count = cc (stacking_lines count)

-- a line once
one_line : (line : List ℕ) (lines : List (List ℕ)) → lines_repeated 1 line lines ≡ line ∷ lines
unfolding lines_repeated
one_line line lines = refl

-- answers to some lines, and then to more
numbered-more : (number count more : ℕ) (answer : List ℕ)
    → numbered number (count + more) answer ≡ numbered number count answer ++ numbered (number + count) more answer
unfolding numbered
numbered-more number zero more answer =
    let none : 0 + more ≡ more = omega arith in
    let same : number ≡ number + 0 = omega arith in
    (λ i. numbered (same i) (none i) answer)
numbered-more number (suc count) more answer =
    let all : suc count + more ≡ suc (count + more) = omega arith in
    let reached : (number + 1) + count ≡ number + suc count = omega arith in
    ap (λ n. numbered number n answer) all
    ∙ (λ i. decimal number ++ answer ++ (numbered-more (number + 1) count more answer
    ∙ ap (λ n. numbered (number + 1) count answer ++ numbered n more answer) reached) i)
    ∙ sym (append_assoc (decimal number ++ answer) (numbered (number + 1) count answer)
    (numbered (number + suc count) more answer))

-- the last answers, printed
last_granted : numbered 4101 1 (codes " ok\n") ≡ codes "4101 ok\n"
unfolding numbered digits
last_granted = refl

-- the answers to the last lines, printed
ok_4101 : reply_line 4101 (Ok Done) ≡ codes "4101 ok\n"
unfolding digits
ok_4101 = refl

full_4102 : reply_line 4102 (Err (denial M9)) ≡ codes "4102 deny 28 ENOSPC M9\n"
unfolding digits
full_4102 = refl

ok_4103 : reply_line 4103 (Ok Done) ≡ codes "4103 ok\n"
unfolding digits
ok_4103 = refl

ok_4104 : reply_line 4104 (Ok Done) ≡ codes "4104 ok\n"
unfolding digits
ok_4104 = refl

module _ (version : Version) where
  -- the second task stacks all mounts but one
  stacked : Fills (whole version) (codes "t.1 mount plain /q") (1 ∷ []) stacking (stacking_is_asked version) IsFilled
      (λ count world fresh filled serves room. (
        one_more filled serves room,
        stack_grows
            path_has_one_word filled.stack fresh plain_flags serves room,
        fills_on filled serves room,
      )) 2 7 4093 world_7 (codes "t.1 mount plain /q" ∷ last_lines)
  stacked = fills (whole version) (codes "t.1 mount plain /q") (1 ∷ []) stacking
      (stacking_is_asked version) IsFilled _ 4093 2 7
      world_7 (codes "t.1 mount plain /q" ∷ last_lines) first_is_filled seven_are_reached.has (omega arith)

  -- the world in which one more mount has room, and what its lines lead to
  module _ (world : World ℕ) (filled : IsFilled 4095 world) (has : HasNumbersUntil 4100 world) where
    serves_4101 : Serves nat_eq world (numbers_for 4101)
    serves_4101 = next_numbers_serve world 4100 has

    -- there is room for one more
    room : 4095 < most_mounts
    room = omega arith

    -- the world with it
    abbrev full : World ℕ
    full = one_more filled serves_4101 room

    -- in which the namespace is full
    abbrev fuller : IsFilled 4096 full
    fuller = fills_on filled serves_4101 room

    -- the world without it again
    abbrev left : World ℕ
    left = one_less filled serves_4101 room

    -- the last mount is granted
    line_4101 : policy nat_eq (numbers_for 4101) world (1 ∷ []) stacking ≡ granted Done full
    line_4101 = stack_grows path_has_one_word filled.stack (numbers_for 4101) plain_flags serves_4101 room

    -- the namespace has 4,096 mounts
    full_count : mount_count full 39 ≡ 4096
    full_count = cc (fuller.own, fuller.stack.counted)

    -- the mount on the shared one is refused
    line_4102 : policy nat_eq (numbers_for 4102) full [] mounting ≡ denied full (denial M9)
    line_4102 = full_receiver_refuses (fuller.stack.is, fuller.stack.plain) fuller.receiver full_count
        (numbers_for 4102) refl

    -- the numbers of the next line are not in use
    has_4102 : HasNumbersUntil 4102 full
    has_4102 =
        numbers_go_on (whole version) (codes "t mount plain /s/d") [] mounting (mounting_is_asked version) full 4101
        (denied full (denial M9)) (numbers_go_on (whole version) (codes "t.1 mount plain /q") (1 ∷ []) stacking
        (stacking_is_asked version) world 4100 (granted Done full) has line_4101) line_4102

    -- one mount is unmounted
    line_4103 : policy nat_eq (numbers_for 4103) full (1 ∷ []) (Umount (codes "/q")) ≡ granted Done left
    line_4103 = top_is_unmounted path_has_one_word filled.stack plain_flags serves_4101 room (numbers_for 4103)

    -- the mount on the shared one is granted
    line_4104 : (policy nat_eq (numbers_for 4104) left [] mounting).answer ≡ Ok Done
    line_4104 = receiver_with_room_grants
        (one_less_is_kept filled serves_4101 room (numbers_for 4103) (next_numbers_serve full 4102 has_4102))
        (receiver_is_left filled serves_4101 room)
        (ap (mount_count left) (sym filled.own) ∙ filled.stack.counted) (numbers_for 4104) refl

    -- the text of these lines
    last_text : text_from (whole version) world 4101 (codes "t.1 mount plain /q" ∷ last_lines) []
        ≡ codes "4101 ok\n4102 deny 28 ENOSPC M9\n4103 ok\n4104 ok\n"
    unfolding last_lines
    last_text = text_goes_on (whole version) (codes "t.1 mount plain /q") (1 ∷ []) stacking
        (stacking_is_asked version) world 4100 (granted Done full) last_lines line_4101
        ∙ (λ i. ok_4101 i ++ text_goes_on (whole version) (codes "t mount plain /s/d") [] mounting
        (mounting_is_asked version) full 4101 (denied full (denial M9))
        (codes "t.1 umount /q" ∷ codes "t mount plain /s/d" ∷ []) line_4102 i)
        ∙ (λ i. codes "4101 ok\n" ++ (full_4102 i ++ text_goes_on (whole version) (codes "t.1 umount /q") (1 ∷ [])
        (Umount (codes "/q")) (unmounting_is_asked version) full 4102 (granted Done left)
        (codes "t mount plain /s/d" ∷ []) line_4103 i))
        ∙ (λ i. codes "4101 ok\n4102 deny 28 ENOSPC M9\n" ++ (ok_4103 i ++ text_goes_on (whole version)
        (codes "t mount plain /s/d") [] mounting (mounting_is_asked version) left 4103
        (policy nat_eq (numbers_for 4104) left [] mounting) [] refl i))
        ∙ ap (λ answer. codes "4101 ok\n4102 deny 28 ENOSPC M9\n4103 ok\n" ++ (reply_line 4104 answer ++ [])) line_4104
        ∙ ap (λ last. codes "4101 ok\n4102 deny 28 ENOSPC M9\n4103 ok\n" ++ (last ++ [])) ok_4104

-- the whole text
pub full_receiver_is_refused : FullReceiverRefuses
unfolding machine_text
full_receiver_is_refused version =
    let filled = stacked version in
    ap (λ lines. text_from (whole version) first_world 1 lines []) (script_lines 4094)
    ∙ seven_lines version (lines_repeated 4094 (codes "t.1 mount plain /q") last_lines)
    ∙ ap (λ rest. codes "1 ok\n2 ok\n3 ok\n4 ok\n5 ok\n6 ok t.1\n7 ok\n" ++ rest)
    (ap (λ lines. text_from (whole version) world_7 8 lines [])
    (more_repeated 4093 1 (codes "t.1 mount plain /q") last_lines
    ∙ ap (lines_repeated 4093 (codes "t.1 mount plain /q")) (one_line (codes "t.1 mount plain /q") last_lines))
    ∙ filled.text
    ∙ ap (λ rest. numbered 8 4093 (codes " ok\n") ++ rest) (last_text version filled.later filled.state filled.has)
    ∙ sym (append_assoc (numbered 8 4093 (codes " ok\n")) (codes "4101 ok\n")
    (codes "4102 deny 28 ENOSPC M9\n4103 ok\n4104 ok\n"))
    ∙ ap (λ answers. answers ++ codes "4102 deny 28 ENOSPC M9\n4103 ok\n4104 ok\n")
    (ap (λ last. numbered 8 4093 (codes " ok\n") ++ last) (sym last_granted)
    ∙ sym (numbered-more 8 4093 1 (codes " ok\n"))))
