-- Worlds, outcomes, lines and turns commute with renamings of their numbers.
use Rattle.std.proofs.Common.{arith, ◌≡◌, refl, sym, ap, ◌∙◌, ℕ, nat_eq, List, Option, map, option_map}
use Rattle.vt_spec.proofs.Common.{FileTree, Filesystem, Fresh, Layer, Mount, Outcome, Overlay, Progress, Propagation, Real, Sched, Step, Task, Turned, World, common_steps, line_step, policy, renamed, renamed_filesystem, renamed_mount, renamed_overlay, renamed_task}
use Rattle.vt_spec.specs.Machine.Renaming.{renamed_files, renamed_layer, renamed_propagation, renamed_real}
use Rattle.vt_laws_rules.specs.Renaming.{Renaming}
use Rattle.vt_laws_rules.proofs.numbers.Commuting.{Named, commutes_nat, map_itself, node_itself, option_itself}
use Rattle.vt_laws_rules.specs.Numbers.{CallsDoNotSeeNumbers, LinesDoNotSeeNumbers, renamed_outcome, renamed_progress, renamed_sched, renamed_step, renamed_supply, renamed_turned, SameWorldsAnswerAlike}

-- With each number for itself nothing is renamed.
module _ {N : Type 0} where
  files_itself : (files : FileTree N) → renamed_files (λ n. n) (λ n. n) files ≡ files
  files_itself files = grind (arith, common_steps, option_itself, node_itself, map_itself)

  pub real_itself : (real : Real N) → renamed_real (λ n. n) (λ n. n) real ≡ real
  real_itself real = grind (arith, common_steps)

  layers_itself : (layers : List (Layer N)) → map (renamed_layer (λ n. n) (λ n. n)) layers ≡ layers
  layers_itself = map_itself (renamed_layer (λ n. n) (λ n. n)) (λ layer. refl)

  layer_itself : (layer : Option (Layer N)) → option_map (renamed_layer (λ n. n) (λ n. n)) layer ≡ layer
  layer_itself = option_itself (renamed_layer (λ n. n) (λ n. n)) (λ layer. refl)

  pub overlay_itself : (overlay : Overlay N) → renamed_overlay (λ n. n) (λ n. n) overlay ≡ overlay
  overlay_itself overlay = grind (arith, common_steps, layer_itself, layers_itself, option_itself, real_itself)

  filesystem_itself : (filesystem : Filesystem N) → renamed_filesystem (λ n. n) (λ n. n) filesystem ≡ filesystem
  filesystem_itself filesystem = grind (arith, common_steps, files_itself, option_itself, overlay_itself)

  propagation_itself : (kind : Propagation N) → renamed_propagation (λ n. n) (λ n. n) kind ≡ kind
  propagation_itself kind = grind (arith, common_steps)

  mount_itself : (mount : Mount N) → renamed_mount (λ n. n) (λ n. n) mount ≡ mount
  mount_itself mount = grind (arith, common_steps, option_itself, propagation_itself)

  task_itself : (task : Task N) → renamed_task (λ n. n) (λ n. n) task ≡ task
  task_itself task = grind (arith, common_steps, map_itself)

  pub renamed_itself : (world : World N) → renamed (λ n. n) (λ n. n) world ≡ world
  renamed_itself world =
      grind (arith, common_steps, map_itself, mount_itself, option_itself, filesystem_itself, task_itself)

  pub outcome_itself : (outcome : Outcome N) → renamed_outcome (λ n. n) (λ n. n) outcome ≡ outcome
  outcome_itself outcome = λ i. record { answer = outcome.answer; world = renamed_itself outcome.world i }

  pub step_itself : (step : Step N) → renamed_step (λ n. n) (λ n. n) step ≡ step
  step_itself step = grind (arith, common_steps, outcome_itself)

  pub supply_itself : (fresh : Option (Fresh N)) → option_map (renamed_supply (λ n. n) (λ n. n)) fresh ≡ fresh
  supply_itself = option_itself (renamed_supply (λ n. n) (λ n. n)) (λ fresh. refl)

  progress_itself : (progress : Progress N) → renamed_progress (λ n. n) (λ n. n) progress ≡ progress
  progress_itself progress = grind (arith, common_steps, map_itself)

  pub sched_itself : (sched : Sched N) → renamed_sched (λ n. n) (λ n. n) sched ≡ sched
  sched_itself sched = grind (arith, common_steps, renamed_itself, map_itself, progress_itself)

  pub turned_itself : (turned : Turned N) → renamed_turned (λ n. n) (λ n. n) turned ≡ turned
  turned_itself turned = λ i. record { sched = sched_itself turned.sched i; reply = turned.reply }

abbrev pub named_world : Named World
named_world = record {
  rename = λ A B there back world. renamed there back world;
  itself = λ A world. renamed_itself world;
}

abbrev pub named_outcome : Named Outcome
named_outcome = record {
  rename = λ A B there back outcome. renamed_outcome there back outcome;
  itself = λ A outcome. outcome_itself outcome;
}

abbrev pub named_step : Named Step
named_step = record {
  rename = λ A B there back step. renamed_step there back step;
  itself = λ A step. step_itself step;
}

abbrev pub named_turned : Named Turned
named_turned = record {
  rename = λ A B there back turned. renamed_turned there back turned;
  itself = λ A turned. turned_itself turned;
}

-- a supply of new numbers beside a world, or beside calls under way
abbrev pub Handed : Type 0 → Type 0
Handed A = Fresh A × World A

abbrev pub named_handed : Named Handed
named_handed = record {
  rename = λ A B there back handed. (renamed_supply there back handed.0, renamed there back handed.1);
  itself = λ A handed i. (handed.0, renamed_itself handed.1 i);
}

abbrev pub HandedLine : Type 0 → Type 0
HandedLine A = Option (Fresh A) × World A

abbrev pub named_line : Named HandedLine
named_line = record {
  rename = λ A B there back handed. (option_map (renamed_supply there back) handed.0, renamed there back handed.1);
  itself = λ A handed i. (supply_itself handed.0 i, renamed_itself handed.1 i);
}

abbrev pub HandedTurn : Type 0 → Type 0
HandedTurn A = Option (Fresh A) × Sched A

abbrev pub named_turn : Named HandedTurn
named_turn = record {
  rename = λ A B there back handed.
      (option_map (renamed_supply there back) handed.0, renamed_sched there back handed.1);
  itself = λ A handed i. (supply_itself handed.0 i, sched_itself handed.1 i);
}

-- calls and lines
pub calls_renamed : CallsDoNotSeeNumbers
calls_renamed renaming fresh world name call = commutes_nat Handed Outcome named_handed named_outcome
    (λ A eq handed. policy eq handed.0 handed.1 name call) renaming (fresh, world)

pub lines_renamed : LinesDoNotSeeNumbers
lines_renamed renaming grammar fresh world line = commutes_nat HandedLine Step named_line named_step
    (λ A eq handed. line_step eq grammar handed.1 line handed.0) renaming (fresh, world)

-- worlds that are the same but for their numbers
pub same_worlds_answer_alike : SameWorldsAnswerAlike
same_worlds_answer_alike world other same fresh name call =
    let renaming : Renaming ℕ ℕ =
    record { there = same.there; back = same.back; there_back = same.there_back; back_there = same.back_there } in
    let alike : policy nat_eq (renamed_supply same.there same.back fresh) other name call
    ≡ renamed_outcome same.there same.back (policy nat_eq fresh world name call) =
    ap (λ w. policy nat_eq (renamed_supply same.there same.back fresh) w name call) (sym same.same)
    ∙ calls_renamed renaming fresh world name call in (
      ap (λ outcome. outcome.answer) alike,
      record {
        there = same.there;
        back = same.back;
        there_back = same.there_back;
        back_there = same.back_there;
        same = sym (ap (λ outcome. outcome.world) alike);
      },
    )
