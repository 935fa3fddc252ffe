-- A RUN: its statements, one after another, up to the first that is refused.
use Rattle.std.specs.Prelude.{ℕ, ◌≡◌, ◌≤◌, ◌+◌, ◌++◌, ◌⊎◌, ◌||◌, nat_lt, if◌then◌else◌, MatchBool, is_some, Bool, true, false, Option, Some, None, List, [], ◌∷◌}
use Rattle.std.specs.Option.{option_or}
use Rattle.rm_base.specs.declared.refusal.{Limit.TheVariants.{Channels}, Refusal.TheVariants.{Rm02, Rm11}}
use Rattle.rm_lang_statement.specs.{IsCommand.{is_until_or_none}, declared.command.Command.{Command}}
use Rattle.rm_lang_statement.specs.declared.command.Command.TheVariants.{ArchiveLogCurrent, Backup, BackupFrom, BackupLogs, BlockRecover, CatalogName, ChangeBackup, Corrupt, CreateDatabase, CreateDatafile, Crosscheck, Cut, Damage, DeleteBackup, DeleteExpired, DeleteObsolete, Dump, ListArchived, ListBackup, ListCopy, ListCorruption, ListIncarnation, LoseDatafile, LoseLog, Mount, OpenPlain, OpenResetlogs, Parallelism, Preview, Recover, RecoverCopy, RecoverTest, Remove, Rename, ReportNeedBackup, ReportObsolete, ReportSchema, ResetDatabase, Restore, Retention, ShowAll, SwitchLogfile, SwitchThread, Tracking, ValidateAll, Write}
use Rattle.rm_lang_statement.specs.declared.command.Inner.{Inner, TheVariants.{SetUntil, AllocateChannel, Plain as PlainInner}}
use Rattle.rm_lang_statement.specs.declared.command.Until.{Until}
use Rattle.rm_report.specs.{Reply.{said, refused_by}, declared.line.{Line.TheVariants.{UntilSet, ChannelAllocated}, Reply.{Reply}}}
use Rattle.rm_machine.specs.{Honest.{IsHonest}, Machine.{Machine}, Rest.{Rest, at_rest}, Step.{Step}, declared.state.State.{State}}
use Rattle.rm_machine_laws.specs.{Moments.{moment_of}, Saves.{applies}, Stopped.{Stopped}}
use Rattle.rm_tool.specs.declared.block.Settings.{Settings}

-- at the start of a RUN nothing is set
abbrev pub unset : Settings
unset = record { until = None; channels = 0 }

-- what a RUN may have set: an until of the grammar, or none, and at most 16 channels
pub record AreSet (x : Settings) : Type 0 where
  pub until : is_until_or_none x.until ≡ true
  pub channels : x.channels ≤ 16

-- the command with the until that is set, if it takes one and has none
abbrev pub with_until : Option Until → Command → Command
with_until set (Restore file until) = Restore file (option_or until set)
with_until set (Preview until) = Preview (option_or until set)
with_until set (Recover until) = Recover (option_or until set)
with_until set (RecoverTest until inc) = RecoverTest (option_or until set) inc
with_until set (RecoverCopy tag until) = RecoverCopy tag (option_or until set)
with_until set (CreateDatabase dbid threads scn) = CreateDatabase dbid threads scn
with_until set (CreateDatafile blocks) = CreateDatafile blocks
with_until set (Write w) = Write w
with_until set (SwitchLogfile thread) = SwitchLogfile thread
with_until set ArchiveLogCurrent = ArchiveLogCurrent
with_until set Mount = Mount
with_until set OpenPlain = OpenPlain
with_until set OpenResetlogs = OpenResetlogs
with_until set (Tracking on) = Tracking on
with_until set (SwitchThread thread on) = SwitchThread thread on
with_until set (ResetDatabase inc) = ResetDatabase inc
with_until set (Backup b) = Backup b
with_until set BackupLogs = BackupLogs
with_until set (BackupFrom scn) = BackupFrom scn
with_until set (BlockRecover form) = BlockRecover form
with_until set (Crosscheck class) = Crosscheck class
with_until set ValidateAll = ValidateAll
with_until set (ChangeBackup id to) = ChangeBackup id to
with_until set DeleteObsolete = DeleteObsolete
with_until set (DeleteBackup id) = DeleteBackup id
with_until set (DeleteExpired class) = DeleteExpired class
with_until set ReportObsolete = ReportObsolete
with_until set ReportNeedBackup = ReportNeedBackup
with_until set ReportSchema = ReportSchema
with_until set ListIncarnation = ListIncarnation
with_until set ListBackup = ListBackup
with_until set ListCopy = ListCopy
with_until set ListArchived = ListArchived
with_until set ListCorruption = ListCorruption
with_until set ShowAll = ShowAll
with_until set (Dump file block) = Dump file block
with_until set (Retention form) = Retention form
with_until set (Parallelism channels) = Parallelism channels
with_until set (CatalogName name) = CatalogName name
with_until set (LoseDatafile file) = LoseDatafile file
with_until set (LoseLog thread) = LoseLog thread
with_until set (Corrupt file block) = Corrupt file block
with_until set (Remove name) = Remove name
with_until set (Damage name at) = Damage name at
with_until set (Cut name to) = Cut name to
with_until set (Rename old new) = Rename old new

-- what is set behind a statement
abbrev pub after_inner : Settings → Inner → Settings
after_inner x (PlainInner c) = x
after_inner x (SetUntil until) = record { until = Some until; channels = x.channels }
after_inner x AllocateChannel = record { until = x.until; channels = x.channels + 1 }

-- How many channels a BACKUP or RECOVER asks for: as many as the RUN has allocated, if it has any, or else those of the words. Where none are
-- asked for it has as many as are configured.
abbrev pub channels_of : ℕ → Option ℕ → Option ℕ
channels_of allocated words = if nat_lt 0 allocated then Some allocated else words

-- the reply to SET UNTIL
abbrev pub set_reply : Option State → Reply
set_reply o = if is_some o then said (UntilSet ∷ []) else refused_by Rm02

-- the reply to ALLOCATE CHANNEL, where the RUN has so many channels
abbrev pub channel_reply : Option State → ℕ → Reply
channel_reply o channels = if is_some o then (if nat_lt channels 16 then said (ChannelAllocated ∷ []) else refused_by (Rm11 Channels)) else refused_by Rm02

-- A statement of a RUN, where the clock gave this answer to the RUN: a command is a step of the machine, and no other one
-- changes it.
abbrev pub InnerStep : Settings → Machine → Inner → ℕ → Reply → Machine → Type 0
InnerStep x m (PlainInner c) clock reply n = Step m (with_until x.until c) (moment_of m.state clock) reply n
InnerStep x m (SetUntil until) clock reply n = (reply ≡ set_reply m.state) × (n ≡ m)
InnerStep x m AllocateChannel clock reply n = (reply ≡ channel_reply m.state x.channels) × (n ≡ m)

-- a list of edits was applied for it
abbrev pub inner_applies : Settings → Inner → Reply → Bool
inner_applies x (PlainInner c) reply = applies (with_until x.until c) reply
inner_applies x (SetUntil until) reply = false
inner_applies x AllocateChannel reply = false

-- the lines of one reply and then those of the last
abbrev pub joined : Reply → Reply → Reply
joined first last = record { lines = first.lines ++ last.lines; refused = last.refused }

-- The statements of a RUN, one after another, up to the first that is refused: the reply to them all, whether a list of
-- edits was applied, and the machine behind them.
abbrev pub BlockSteps : Settings → Machine → List Inner → ℕ → Reply → Bool → Machine → Type 0
BlockSteps x m [] clock reply applied n = (reply ≡ said []) × (applied ≡ false) × (n ≡ m)
BlockSteps x m (y ∷ ys) clock reply applied n =
    (first : Reply) × (mid : Machine) × InnerStep x m y clock first mid
    × MatchBool first.refused
    ((reply ≡ first) × (applied ≡ false) × (n ≡ mid))
    ((rest : Reply) × (more : Bool) × BlockSteps (after_inner x y) mid ys clock rest more n × (reply ≡ joined first rest) × (applied ≡ (inner_applies x y first || more)))

-- the world is honest at a statement of a RUN: only of a command anything is asked
abbrev pub IsHonestAt : Settings → Machine → Inner → Type 0
IsHonestAt x m (PlainInner c) = IsHonest m (with_until x.until c)
IsHonestAt x m (SetUntil until) = Unit {0}
IsHonestAt x m AllocateChannel = Unit {0}

-- and at each machine from which one of these statements goes on
abbrev pub IsHonestInside : Settings → Machine → List Inner → ℕ → Type 0
IsHonestInside x m [] clock = Unit {0}
IsHonestInside x m (y ∷ ys) clock =
    IsHonestAt x m y × ((reply : Reply) (n : Machine) → InnerStep x m y clock reply n → reply.refused ≡ false → IsHonestInside (after_inner x y) n ys clock)

-- what is left where a statement of a RUN was cut short: nothing of it was done, or a stop of the command leaves this
abbrev pub InnerLeaves : Settings → Machine → Inner → ℕ → Rest → Type 0
InnerLeaves x m (PlainInner c) clock r = (r ≡ at_rest m) ⊎ Stopped m (with_until x.until c) (moment_of m.state clock) r
InnerLeaves x m (SetUntil until) clock r = r ≡ at_rest m
InnerLeaves x m AllocateChannel clock r = r ≡ at_rest m

-- What is left where a RUN was cut short: some of its statements were done, and the next one was cut short, or there was
-- none.
abbrev pub BlockLeaves : Settings → Machine → List Inner → ℕ → Rest → Type 0
BlockLeaves x m [] clock r = r ≡ at_rest m
BlockLeaves x m (y ∷ ys) clock r =
    InnerLeaves x m y clock r
    ⊎ ((first : Reply) × (mid : Machine) × InnerStep x m y clock first mid × MatchBool first.refused (r ≡ at_rest mid) (BlockLeaves (after_inner x y) mid ys clock r))
