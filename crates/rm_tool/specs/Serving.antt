-- What serving the statements of a script leaves.
use Rattle.std.specs.Prelude.{ℕ, ◌≡◌, ◌<◌, ◌+◌, ◌++◌, ◌⊎◌, ◌||◌, Bool, true, false, Option, Some, None, IfSome, List, [], ◌∷◌, slice_get, take, length, All}
use Rattle.std.specs.List.{list_any}
use Rattle.rm_base.specs.{Outside.{Appends}, Store.{Held, Answers, Both}}
use Rattle.rm_catalog.specs.declared.record.Record.{Record}
use Rattle.rm_commit.specs.declared.commit.Stop.{Stop}
use Rattle.rm_commit.specs.declared.commit.Stop.TheVariants as stop
use Rattle.rm_lang_statement.specs.declared.command.{Command.{Command}, Inner.{Inner}, Statement.{Statement}}
use Rattle.rm_lang_statement.specs.declared.command.Statement.TheVariants.{Plain, Run as Block}
use Rattle.rm_tool.specs.Block.{BlockLeaves, BlockSteps, InnerLeaves, InnerStep, IsHonestAt, IsHonestInside, unset}
use Rattle.rm_tool.specs.{Built.{statement_built_at}, Comes.{AtHand, BlockComes, ComeWith, StatementComes, at_hand}}
use Rattle.rm_tool.specs.Quiet.{are_quiet, is_quiet_statement, only_tells_statement}
use Rattle.rm_tool.specs.Drill.{IsTally, drill_line, output_of, output_so_far}
use Rattle.rm_tool.specs.Run.{StatementStep, Run, RunsWhereHonest, IsHonestAlong, IsHonestWithin, past, behind, AreToCome, Watch, WasAskedFor, asks, replies_text}
use Rattle.rm_tool.specs.declared.{block.Settings.{Settings}, early.Halt.{Halt}, tally.Tally.{Tally}}
use Rattle.rm_tool.specs.declared.early.Halt.TheVariants as halt
use Rattle.rm_lang_token.specs.declared.token.Token.{Token}
use Rattle.rm_report.specs.{Reply.{IsFlagged}, Text.{reply_text}, declared.line.Reply.{Reply}}
use Rattle.rm_machine.specs.{Machine.{Machine}, Rest.{Rest, at_rest}, declared.state.State.{State}}
use Rattle.rm_machine_laws.specs.{Holds.{Holds, HoldsRest, Stands, View}, Moments.{moment_of}, Saves.{IsEnded}, Stopped.{IsLeft, Stopped}}
use Rattle.rm_tool_opening.specs.{Saved.{EndsOut}, Untouched.{AreSame, IsUntouched}}

-- what ends a session where the site was stopped
abbrev pub halt_of : Stop → Halt
halt_of stop.StoreFault = halt.Store
halt_of stop.KeeperFault = halt.Keeper
halt_of stop.NoMemory = halt.NoMemory

-- Whatever machine the site stands for: where the world is honest, the step of a RUN's statement is that machine's, and the site
-- stands for the one after it.
abbrev pub InnerSteps : Option Held → Option (List Record) → View → Settings → Inner → ℕ → Reply → Option Held → Option (List Record) → View → Type 0
InnerSteps held kept v x y clock reply held' kept' v' =
    (m : Machine) → Stands v m → Holds held kept m → IsHonestAt x m y
    → (n : Machine) × InnerStep x m y clock reply n × Stands v' n × Holds held' kept' n

-- and where it was cut short, this is left of that machine
abbrev pub InnerStops : Option Held → Option (List Record) → View → Settings → Inner → ℕ → Option Held → Option (List Record) → Type 0
InnerStops held kept v x y clock held' kept' =
    (m : Machine) → Stands v m → Holds held kept m → IsHonestAt x m y → (r : Rest) × InnerLeaves x m y clock r × HoldsRest held' kept' r

-- the same of a whole RUN; the site knows whether a list was applied
abbrev pub RunSteps : Option Held → Option (List Record) → View → List Inner → ℕ → Reply → Option Held → Option (List Record) → View → Type 0
RunSteps held kept v inner clock reply held' kept' v' =
    (m : Machine) → Stands v m → Holds held kept m → IsHonestInside unset m inner clock
    → (n : Machine) × (applied : Bool) × BlockSteps unset m inner clock reply applied n × Stands v' n × Holds held' kept' n × (v'.applied ≡ (v.applied || applied))

abbrev pub RunStops : Option Held → Option (List Record) → View → List Inner → ℕ → Option Held → Option (List Record) → Type 0
RunStops held kept v inner clock held' kept' =
    (m : Machine) → Stands v m → Holds held kept m → IsHonestInside unset m inner clock → (r : Rest) × BlockLeaves unset m inner clock r × HoldsRest held' kept' r

-- Whatever the store and the keeper hold, this comes of the statements of a RUN; the site knows whether a list was applied.
abbrev pub RunComes : Option Held → Option (List Record) → View → List Inner → ℕ → Reply → Option Held → Option (List Record) → View → Type 0
RunComes held kept v inner clock reply held' kept' v' =
    (applied : Bool) × BlockComes unset (at_hand held kept v) inner clock reply applied (at_hand held' kept' v') × (v'.applied ≡ (v.applied || applied))

-- the clock was asked once for a statement, and not for what is none
abbrev pub IsPast : Option Statement → Answers → Answers → Type 0
IsPast s before after = (i : ℕ) → after i ≡ past s before i

pub record HasPassed (s : Option Statement) (clock later : Watch) : Type 0 where
  pub coming : Both (IsPast s) clock.coming later.coming
  pub often : later.asked ≡ clock.asked + asks s

-- Whatever machine the site stands for: where the world is honest, the step is that machine's, where the clock answered
-- so, and the site stands for the one after it, and knows whether a list was applied.
abbrev pub StatementSteps : Option Held → Option (List Record) → View → ℕ × List Token → ℕ → Reply → Option Held → Option (List Record) → View → Type 0
StatementSteps held kept v s clock reply held' kept' v' =
    (m : Machine) → Stands v m → Holds held kept m → IsHonestWithin (statement_built_at s.1) m clock
    → (n : Machine) × (applied : Bool) × StatementStep m s clock reply applied n × Stands v' n × Holds held' kept' n × (v'.applied ≡ (v.applied || applied))

-- Whatever the store and the keeper hold, this comes of the statement, where the clock answered so; the site knows whether a list was applied.
abbrev pub ComesOfIt : Option Held → Option (List Record) → View → ℕ × List Token → ℕ → Reply → Option Held → Option (List Record) → View → Type 0
ComesOfIt held kept v s clock reply held' kept' v' =
    (applied : Bool) × StatementComes (statement_built_at s.1) (at_hand held kept v) s.0 clock reply applied (at_hand held' kept' v') × (v'.applied ≡ (v.applied || applied))

-- A step of the machine at the clock's next answer, and what comes of it whatever the store and the keeper hold. Where the statement is quiet
-- all is as it was.
pub record IsServed (held : Option Held) (kept : Option (List Record)) (v : View) (clock : Watch) (s : ℕ × List Token) (reply : Reply) (held' : Option Held) (kept' : Option (List Record)) (v' : View) (clock' : Watch) : Type 0 where
  pub answer : ℕ
  pub next : IfSome clock.coming (λ coming. answer ≡ coming 0)
  pub past : HasPassed (statement_built_at s.1) clock clock'
  pub quiet : is_quiet_statement (statement_built_at s.1) reply ≡ true → IsUntouched held kept v held' kept' v'
  pub steps : StatementSteps held kept v s answer reply held' kept' v'
  pub comes : ComesOfIt held kept v s answer reply held' kept' v'

-- What is left of the machine where a statement was cut short: it is held at rest as it was, or what a stop of the
-- command leaves is held, where the clock answered so, or what is left of a RUN.
pub data IsCut (m : Machine) (s : ℕ × List Token) (answer : ℕ) (held : Option Held) (kept : Option (List Record)) : Type 0 where
  untouched : HoldsRest held kept (at_rest m) → IsCut m s answer held kept
  stopped : (c : Command) (r : Rest) → statement_built_at s.1 ≡ Some (Plain c) → Stopped m c (moment_of m.state answer) r → HoldsRest held kept r → IsCut m s answer held kept
  inside : (inner : List Inner) (r : Rest) → statement_built_at s.1 ≡ Some (Block inner) → BlockLeaves unset m inner answer r → HoldsRest held kept r → IsCut m s answer held kept

-- The statement was cut short, and the clock asked for it, or not yet. Whatever machine the site stands for, where the world is honest this
-- is left of it. Where it only tells all is as it was, whatever the store and the keeper hold.
pub record IsCutShort (held : Option Held) (kept : Option (List Record)) (v : View) (clock : Watch) (s : ℕ × List Token) (held' : Option Held) (kept' : Option (List Record)) (clock' : Watch) : Type 0 where
  pub answer : ℕ
  pub next : IfSome clock.coming (λ coming. answer ≡ coming 0)
  pub asked : (clock' ≡ clock) ⊎ HasPassed (statement_built_at s.1) clock clock'
  pub quiet : only_tells_statement (statement_built_at s.1) ≡ true → AreSame held kept held' kept'
  pub cut : (m : Machine) → Stands v m → Holds held kept m → IsHonestWithin (statement_built_at s.1) m answer → IsCut m s answer held' kept'

-- whatever machine the site stands for, this is so of it
abbrev pub FromEach : Option Held → Option (List Record) → View → (Machine → Type 0) → Type 0
FromEach held kept v Is = (m : Machine) → Stands v m → Holds held kept m → Is m

-- what is at hand is what there is over this site, which knows whether a list was applied
pub record IsOver (v v' : View) (held : Option Held) (kept : Option (List Record)) (applied : Bool) (b : AtHand) : Type 0 where
  pub is : b ≡ at_hand held kept v'
  pub knows : v'.applied ≡ (v.applied || applied)

-- what is at hand shows this database, which the store and the keeper still stand with
pub record IsStill (shown : Option State) (held : Option Held) (kept : Option (List Record)) (b : AtHand) : Type 0 where
  pub shows : b.state ≡ shown
  pub same : AreSame b.held b.kept held kept

-- what is at hand shows this database, and the session ends over it
pub record IsClosed (shown : Option State) (held : Option Held) (kept : Option (List Record)) (applied : Bool) (b : AtHand) : Type 0 where
  pub shows : b.state ≡ shown
  pub ends : EndsOut applied b.held b.kept b.state held kept

-- the same, where the save was stopped: without a list that was applied there was none
pub record IsUnsaved (shown : Option State) (held : Option Held) (kept : Option (List Record)) (applied : Bool) (b : AtHand) : Type 0 where
  pub shows : b.state ≡ shown
  pub same : applied ≡ false → AreSame b.held b.kept held kept

-- All replies were written, `sum` is their tally, each is a refusal exactly where a line of it is one, and the clock was asked for each
-- statement that is built. They are those of a run from whatever machine the site stands for, and the site, the store and the keeper hold
-- what the machine has at its end. Whatever the store and the keeper hold the replies are those of the statements, and where all were quiet
-- nothing changed.
pub record Serves (clock later : Watch) (before now : Option (List ℕ)) (held : Option Held) (kept : Option (List Record)) (v : View) (held' : Option Held) (kept' : Option (List Record)) (v' : View) (sum : Tally) (ss : List (ℕ × List Token)) : Type 0 where
  pub answers : Answers
  pub told : AreToCome clock.coming answers
  pub asked : WasAskedFor clock later answers ss
  pub replies : List Reply
  pub many : length replies ≡ length ss
  pub written : Appends before now (replies_text replies)
  pub tally : IsTally sum replies
  pub flags : All IsFlagged replies
  pub quiet : are_quiet ss replies ≡ true → IsUntouched held kept v held' kept' v'
  pub comes : ComeWith (at_hand held kept v) answers ss replies (IsOver v v' held' kept')
  pub run : FromEach held kept v (λ first. RunsWhereHonest first answers ss replies (λ applied m. Stands v' m × Holds held' kept' m × (v'.applied ≡ (v.applied || applied))))

-- The same, where what the session writes was written: the replies, or the line of a drill. `refused` says whether one is refused.
pub record Shows (drill : Option ℕ) (clock later : Watch) (before now : Option (List ℕ)) (held : Option Held) (kept : Option (List Record)) (v : View) (held' : Option Held) (kept' : Option (List Record)) (v' : View) (refused : Bool) (ss : List (ℕ × List Token)) : Type 0 where
  pub answers : Answers
  pub told : AreToCome clock.coming answers
  pub asked : WasAskedFor clock later answers ss
  pub replies : List Reply
  pub many : length replies ≡ length ss
  pub written : Appends before now (output_of drill replies v'.state)
  pub some : refused ≡ list_any (λ r. r.refused) replies
  pub flags : All IsFlagged replies
  pub quiet : are_quiet ss replies ≡ true → IsUntouched held kept v held' kept' v'
  pub comes : ComeWith (at_hand held kept v) answers ss replies (IsOver v v' held' kept')
  pub run : FromEach held kept v (λ first. RunsWhereHonest first answers ss replies (λ applied m. Stands v' m × Holds held' kept' m × (v'.applied ≡ (v.applied || applied))))

-- All statements were served, and what the session writes was written; `shown` is the database at the end. Then the session ended: its site
-- was saved, where a list was applied. From the machines that are meant, the store and the keeper hold what is at rest then.
pub record Closes (From : (Machine → Type 0) → Type 0) (opened : Option State) (drill : Option ℕ) (clock later : Watch) (before now : Option (List ℕ)) (held : Option Held) (kept : Option (List Record)) (held' : Option Held) (kept' : Option (List Record)) (refused : Bool) (ss : List (ℕ × List Token)) : Type 0 where
  pub answers : Answers
  pub told : AreToCome clock.coming answers
  pub asked : WasAskedFor clock later answers ss
  pub replies : List Reply
  pub many : length replies ≡ length ss
  pub shown : Option State
  pub written : Appends before now (output_of drill replies shown)
  pub some : refused ≡ list_any (λ r. r.refused) replies
  pub flags : All IsFlagged replies
  pub quiet : are_quiet ss replies ≡ true → AreSame held kept held' kept'
  pub comes : ComeWith (record { held = held; kept = kept; state = opened }) answers ss replies (IsClosed shown held' kept')
  pub run : From (λ first. RunsWhereHonest first answers ss replies (λ applied m. (m.state ≡ shown) × ((r : Rest) × IsEnded applied m r × HoldsRest held' kept' r)))

-- The replies to the first statements were written, of a drill nothing, and nothing else. The statement after them was cut short: the clock was asked for
-- those before it, and for none behind it. Where those were quiet and it only tells nothing changed. From the machines that are meant the
-- replies are those of a run, and the store and the keeper hold what is left.
pub record EndsAtStatement (From : (Machine → Type 0) → Type 0) (opened : Option State) (drill : Option ℕ) (clock later : Watch) (before now : Option (List ℕ)) (held : Option Held) (kept : Option (List Record)) (held' : Option Held) (kept' : Option (List Record)) (ss : List (ℕ × List Token)) : Type 0 where
  pub answers : Answers
  pub told : AreToCome clock.coming answers
  pub replies : List Reply
  pub written : Appends before now (output_so_far drill replies)
  pub statement : ℕ × List Token
  pub next : slice_get ss (length replies) ≡ Some statement
  pub asked : WasAskedFor clock later answers (take (length replies) ss) ⊎ WasAskedFor clock later answers (take (length replies + 1) ss)
  pub quiet : are_quiet (take (length replies) ss) replies ≡ true → only_tells_statement (statement_built_at statement.1) ≡ true → AreSame held kept held' kept'
  pub comes : ComeWith (record { held = held; kept = kept; state = opened }) answers (take (length replies) ss) replies (λ applied b. only_tells_statement (statement_built_at statement.1) ≡ true → AreSame b.held b.kept held' kept')
  pub run : From
      (λ first. IsHonestAlong first answers ss replies
      → (last : Machine) × (applied : Bool) × Run first answers (take (length replies) ss) replies applied last × IsCut last statement (behind (take (length replies) ss) answers 0) held' kept')

-- What the session writes was written, from the machines that are meant by a run, and the save after it was stopped: nothing of it is
-- recorded, or all of it. The store and the keeper hold what is left.
pub record EndsAtSaving (From : (Machine → Type 0) → Type 0) (opened : Option State) (drill : Option ℕ) (clock later : Watch) (before now : Option (List ℕ)) (held : Option Held) (kept : Option (List Record)) (held' : Option Held) (kept' : Option (List Record)) (ss : List (ℕ × List Token)) : Type 0 where
  pub answers : Answers
  pub told : AreToCome clock.coming answers
  pub asked : WasAskedFor clock later answers ss
  pub replies : List Reply
  pub many : length replies ≡ length ss
  pub shown : Option State
  pub written : Appends before now (output_of drill replies shown)
  pub quiet : are_quiet ss replies ≡ true → AreSame held kept held' kept'
  pub comes : ComeWith (record { held = held; kept = kept; state = opened }) answers ss replies (IsUnsaved shown held' kept')
  pub run : From
      (λ first. RunsWhereHonest first answers ss replies (λ applied m. (m.state ≡ shown) × ((r : Rest) × (IsLeft [] m r ⊎ IsEnded applied m r) × HoldsRest held' kept' r)))

-- the session ended at a statement, or at its save
pub data EndsMidway (From : (Machine → Type 0) → Type 0) (opened : Option State) (drill : Option ℕ) (clock later : Watch) (before now : Option (List ℕ)) (held : Option Held) (kept : Option (List Record)) (held' : Option Held) (kept' : Option (List Record)) (ss : List (ℕ × List Token)) : Type 0 where
  at_statement : EndsAtStatement From opened drill clock later before now held kept held' kept' ss → EndsMidway From opened drill clock later before now held kept held' kept' ss
  at_saving : EndsAtSaving From opened drill clock later before now held kept held' kept' ss → EndsMidway From opened drill clock later before now held kept held' kept' ss

-- The sink failed in a reply: those before it were written, and a front of it that is not all of it. The clock was asked for no statement
-- behind. From the machines that are meant they are the replies of a run, and the store and the keeper hold, at rest, what the machine has
-- after the statement of the last. Where all were quiet nothing changed.
pub record EndsInReplies (From : (Machine → Type 0) → Type 0) (opened : Option State) (clock later : Watch) (before now : Option (List ℕ)) (held : Option Held) (kept : Option (List Record)) (held' : Option Held) (kept' : Option (List Record)) (ss : List (ℕ × List Token)) : Type 0 where
  pub answers : Answers
  pub told : AreToCome clock.coming answers
  pub replies : List Reply
  pub last : Reply
  pub many : length replies < length ss
  pub asked : WasAskedFor clock later answers (take (length replies + 1) ss)
  pub part : ℕ
  pub within : part < length (reply_text last)
  pub flags : All IsFlagged (replies ++ last ∷ [])
  pub written : Appends before now (replies_text replies ++ take part (reply_text last))
  pub quiet : are_quiet (take (length replies + 1) ss) (replies ++ last ∷ []) ≡ true → AreSame held kept held' kept'
  pub comes : ComeWith (record { held = held; kept = kept; state = opened }) answers (take (length replies + 1) ss) (replies ++ last ∷ []) (λ applied b. AreSame b.held b.kept held' kept')
  pub run : From (λ first. RunsWhereHonest first answers (take (length replies + 1) ss) (replies ++ last ∷ []) (λ applied m. HoldsRest held' kept' (at_rest m)))

-- The sink failed in the line of a drill, behind all its statements: a front of it was written that is not all of it. From the machines that
-- are meant their replies are those of a run, and the store and the keeper hold, at rest, what the machine has at its end.
pub record EndsInLine (From : (Machine → Type 0) → Type 0) (opened : Option State) (drill : ℕ) (clock later : Watch) (before now : Option (List ℕ)) (held : Option Held) (kept : Option (List Record)) (held' : Option Held) (kept' : Option (List Record)) (ss : List (ℕ × List Token)) : Type 0 where
  pub answers : Answers
  pub told : AreToCome clock.coming answers
  pub asked : WasAskedFor clock later answers ss
  pub replies : List Reply
  pub many : length replies ≡ length ss
  pub shown : Option State
  pub part : ℕ
  pub within : part < length (drill_line drill replies shown)
  pub flags : All IsFlagged replies
  pub written : Appends before now (take part (drill_line drill replies shown))
  pub quiet : are_quiet ss replies ≡ true → AreSame held kept held' kept'
  pub comes : ComeWith (record { held = held; kept = kept; state = opened }) answers ss replies (λ applied b. IsStill shown held' kept' b)
  pub run : From (λ first. RunsWhereHonest first answers ss replies (λ applied m. (m.state ≡ shown) × HoldsRest held' kept' (at_rest m)))

-- the sink failed in what the session writes
abbrev pub EndsInOutput : (From : (Machine → Type 0) → Type 0) (opened : Option State) (drill : Option ℕ) (clock later : Watch) (before now : Option (List ℕ)) (held : Option Held) (kept : Option (List Record)) (held' : Option Held) (kept' : Option (List Record)) (ss : List (ℕ × List Token)) → Type 0
EndsInOutput From opened None clock later before now held kept held' kept' ss = EndsInReplies From opened clock later before now held kept held' kept' ss
EndsInOutput From opened (Some n) clock later before now held kept held' kept' ss = EndsInLine From opened n clock later before now held kept held' kept' ss
