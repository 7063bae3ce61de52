-- What the definitions see of queues.
use Rattle.std.specs.Prelude.{List, None, Option, Some, map}
use Rattle.vt_spec.specs.Errors.{denial}
use Rattle.vt_spec.specs.declared.errors.Rule.TheVariants.{S1}
use Rattle.vt_spec.specs.Language.Calls.{Call}
use Rattle.vt_spec.specs.Language.Script as spec
use Rattle.vt_spec.specs.Machine.Turns as meant
use Rattle.vt_line.specs.Versions.{version_of}
use Rattle.vt_request.specs.Requests.{directive_of}
use Rattle.vt_queues.specs.CallLines.{line_call}
use Rattle.vt_queues.specs.declared.call_line.CallLine.{CallLine}
use Rattle.vt_queues.specs.declared.item.Item.{Item}
use Rattle.vt_queues.specs.declared.item.Item.TheVariants.{Ask, Refused, Run}
use Rattle.vt_queues.specs.declared.item.Queued.{Queued}
use Rattle.vt_queues.specs.declared.item.Who.{Who}
use Rattle.vt_queues.specs.declared.item.Who.TheVariants.{Nobody, Task}
use Rattle.vt_queues.specs.declared.queues.Queue.{Queue}
use Rattle.vt_queues.specs.declared.queues.Queues.{Queues}

abbrev pub who_meant : Who → spec.Who
who_meant (Task name) = spec.Who.Someone name
who_meant Nobody = spec.Who.Nobody

-- the call that a line asks for, which it always does
abbrev pub call_in : CallLine → Option Call
call_in line = line_call (version_of line.version) line.text.items

-- a call in a queue; a line without one would be refused
abbrev pub called : Option Call → meant.Item
called None = meant.Item.Refused (denial S1)
called (Some call) = meant.Item.Calls call

abbrev pub item_meant : Item → meant.Item
item_meant (Run line) = called (call_in line)
item_meant (Ask directive) = meant.Item.Asks (directive_of directive)
item_meant (Refused deny) = meant.Item.Refused deny

abbrev pub queued_meant : Queued → meant.Queued
queued_meant queued = record { line = queued.line; item = item_meant queued.item }

abbrev pub queue_meant : Queue → meant.Queue
queue_meant queue = record { who = who_meant queue.who; items = map queued_meant queue.items.items }

abbrev pub queues_meant : Queues → List meant.Queue
queues_meant queues = map queue_meant queues.queues.items
