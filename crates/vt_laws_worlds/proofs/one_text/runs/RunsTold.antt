-- Every run writes the one text of its script: each line leaves a world with all invariants.
use Rattle.std.proofs.Common.{nat_eq, length, nat_lt}
use Rattle.vt_spec.proofs.Common.{IsWorld, is_silent, longest_line, ⊤}
use Rattle.vt_laws_rules.proofs.same.SameNames.{worlds_have_one_name}
use Rattle.vt_laws_trees.proofs.runs.handed.Counts.{endless}
use Rattle.vt_laws_trees.proofs.runs.runs.RunsTold.{kept_runs_have_one_text}
use Rattle.vt_laws_trees.specs.Runs.Handed.{may_be_given}
use Rattle.vt_laws_worlds.proofs.one_text.answered.CopiesOfWorlds.{copies_of_worlds}
use Rattle.vt_laws_worlds.proofs.opening.OpeningWorld.{opening_is_a_world}
use Rattle.vt_laws_worlds.proofs.overlay_permits.worlds.EveryScript.{line_keeps}
use Rattle.vt_laws_worlds.specs.OneText.Runs.{EveryProgramHasOneText, EveryRunHasOneText}

pub every_run_has_one_text : EveryRunHasOneText
every_run_has_one_text grammar refused script text in_hand fresh leaves opens tells =
    kept_runs_have_one_text grammar in_hand (λ line. ⊤) (IsWorld nat_eq) (record {
      first = (opening_is_a_world (λ place. place) (λ j k e. e)).0;
      named = worlds_have_one_name;
      copies = copies_of_worlds;
      stays = λ world line fresh asks is serves.
          line_keeps (nat_lt longest_line (length line)) (is_silent line) grammar world line fresh is serves;
    }) refused script text fresh leaves opens (λ k d below. tt) tells

pub every_program_has_one_text : EveryProgramHasOneText
every_program_has_one_text grammar refused script text fresh opens tells =
    every_run_has_one_text grammar refused script text may_be_given fresh endless opens tells
