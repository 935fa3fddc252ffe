-- What the state refuses, and how it is answered.
use Rattle.std.specs.Prelude.{ℕ, ◌≡◌, nat_lt, if◌then◌else◌, true, Option, Some, None}
use Rattle.rm_base.specs.declared.refusal.{Refusal.{Refusal, TheVariants.{Rm02, Rm11}}, Limit.TheVariants.{Threads}}
use Rattle.rm_lang_statement.specs.declared.command.Command.{Command, TheVariants.{CreateDatabase}}
use Rattle.rm_report.specs.{Reply.{refused_by}, declared.line.Reply.{Reply}}
use Rattle.rm_machine.specs.{Comes.{looks_at_objects}, State.{at_moment}, Step.{refusal_of}, declared.state.State.{State}}

-- why CREATE DATABASE is refused where there is no database
abbrev pub create_refusal : ℕ → Option Refusal
create_refusal threads = if nat_lt 4 threads then Some (Rm11 Threads) else None

-- why a statement is refused where there is no database
abbrev pub refusal_without : Command → Option Refusal
refusal_without (CreateDatabase dbid threads scn) = create_refusal threads
refusal_without _ = Some Rm02

-- why the state alone refuses a statement, at this moment
abbrev pub refusal_in : Option State → Command → ℕ → Option Refusal
refusal_in None c moment = refusal_without c
refusal_in (Some s) c moment = refusal_of (at_moment s moment) c

-- The state did not refuse the statement: only what the objects hold may, and that changes nothing.
pub record IsAccepted {S : Type 0} (c : Command) (reply : Reply) (s t : S) : Type 0 where
  pub objects : reply.refused ≡ true → looks_at_objects c ≡ true
  pub same : reply.refused ≡ true → t ≡ s

-- Where the state refuses the statement, the reply is that refusal, and nothing changes.
abbrev pub AnsweredBy : {S : Type 0} → Option Refusal → Command → Reply → S → S → Type 0
AnsweredBy (Some r) c reply s t = (reply ≡ refused_by r) × (t ≡ s)
AnsweredBy None c reply s t = IsAccepted c reply s t
