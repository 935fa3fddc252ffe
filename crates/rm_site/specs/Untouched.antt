-- What leaves all as it was.
use Rattle.std.specs.Prelude.{◌≡◌, ◌||◌, Bool, Option, List}
use Rattle.rm_base.specs.Store.{Held}
use Rattle.rm_catalog.specs.declared.record.Record.{Record}
use Rattle.rm_lang_statement.specs.declared.command.Command.{Command}
use Rattle.rm_machine.specs.Laws.{only_tells}
use Rattle.rm_report.specs.declared.line.Reply.{Reply}

-- the statement was refused, or it only tells
abbrev pub is_quiet : Command → Reply → Bool
is_quiet c reply = reply.refused || only_tells c

-- the store and the keeper hold what they held
abbrev pub AreSame : Option Held → Option (List Record) → Option Held → Option (List Record) → Type 0
AreSame held kept held' kept' = (held' ≡ held) × (kept' ≡ kept)

-- and the site is as it was, or its database
abbrev pub IsUntouched : {S : Type 0} → Option Held → Option (List Record) → S → Option Held → Option (List Record) → S → Type 0
IsUntouched held kept s held' kept' s' = AreSame held kept held' kept' × (s' ≡ s)
