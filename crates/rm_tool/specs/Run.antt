-- The machine's run over the statements of a script, and the clock's answers to them.
use Rattle.std.specs.{Prelude.{ℕ, suc, ◌≡◌, ◌+◌, ◌||◌, Bool, false, Option, Some, None, IfSome, List, [], ◌∷◌}, List.{flat_map, list_any}}
use Rattle.rm_base.specs.{Store.{Answers}, declared.refusal.Refusal.TheVariants.{Rm01}}
use Rattle.rm_lang_token.specs.declared.token.Token.{Token}
use Rattle.rm_lang_statement.specs.declared.command.Inner.{Inner, TheVariants.{AllocateChannel, Plain as PlainInner, SetUntil}}
use Rattle.rm_lang_statement.specs.declared.command.Statement.{Statement, TheVariants.{Plain, Run as Block}}
use Rattle.rm_tool.specs.{Block.{BlockSteps, IsHonestInside, unset}, Built.{statement_built_at}}
use Rattle.rm_report.specs.{Reply.{refused_by}, Text.{reply_text}, declared.line.Reply.{Reply}}
use Rattle.rm_machine.specs.{Honest.{IsHonest}, Machine.{Machine}, Nature.{gives_name, nature_of}, Step.{Step}}
use Rattle.rm_machine_laws.specs.{Moments.{moment_of}, Saves.{applies}}

-- A statement of this line, where the clock answers so: one that is not of the grammar, or not built, is refused
-- and changes nothing, a command is a step of the machine at its moment, and a RUN is the steps of its statements. And
-- whether a list of edits was applied for it.
abbrev pub StepOf : Option Statement → Machine → ℕ → ℕ → Reply → Bool → Machine → Type 0
StepOf None old line clock reply applied new = (reply ≡ refused_by (Rm01 line)) × (applied ≡ false) × (new ≡ old)
StepOf (Some (Plain c)) old line clock reply applied new = Step old c (moment_of old.state clock) reply new × (applied ≡ applies c reply)
StepOf (Some (Block inner)) old line clock reply applied new = BlockSteps unset old inner clock reply applied new

-- a statement with the line of its first token
abbrev pub StatementStep : Machine → ℕ × List Token → ℕ → Reply → Bool → Machine → Type 0
StatementStep old s clock reply applied new = StepOf (statement_built_at s.1) old s.0 clock reply applied new

-- the answers after a statement: one of the grammar uses one, a RUN too, and what is none uses none
abbrev pub past : Option Statement → Answers → Answers
past None answers = answers
past (Some s) answers = λ i. answers (suc i)

-- The machine gives these replies to these statements, one step after another, where the clock gives these answers. And
-- whether a list of edits was applied for one of them.
abbrev pub Run : Machine → Answers → List (ℕ × List Token) → List Reply → Bool → Machine → Type 0
Run old answers [] [] applied new = (applied ≡ false) × (new ≡ old)
Run old answers (s ∷ ss) (r ∷ rs) applied new =
    (mid : Machine) × (here : Bool) × (more : Bool) × StatementStep old s (answers 0) r here mid × Run mid (past (statement_built_at s.1) answers) ss rs more new
    × (applied ≡ (here || more))
Run old answers [] (r ∷ rs) applied new = ⊥
Run old answers (s ∷ ss) [] applied new = ⊥

-- the world is honest at each machine from which the statement goes on: a command from the one before it, a RUN from
-- those before its statements
abbrev pub IsHonestWithin : Option Statement → Machine → ℕ → Type 0
IsHonestWithin None m clock = Unit {0}
IsHonestWithin (Some (Plain c)) m clock = IsHonest m c
IsHonestWithin (Some (Block inner)) m clock = IsHonestInside unset m inner clock

-- The world is honest along a run: within each of these statements, from the machine to which those before it lead, where the clock
-- gives these answers and the machine these replies. That is asked of the first statement without a reply too, which was cut
-- short, and of none behind it.
abbrev pub IsHonestAlong : Machine → Answers → List (ℕ × List Token) → List Reply → Type 0
IsHonestAlong first answers [] replies = Unit {0}
IsHonestAlong first answers (s ∷ ss) [] = IsHonestWithin (statement_built_at s.1) first (answers 0)
IsHonestAlong first answers (s ∷ ss) (r ∷ rs) =
    IsHonestWithin (statement_built_at s.1) first (answers 0)
    × ((applied : Bool) (m : Machine) → StatementStep first s (answers 0) r applied m → IsHonestAlong m (past (statement_built_at s.1) answers) ss rs)

-- a statement gives a name of an object: one of HOST, or CATALOG
abbrev pub gives_in : Inner → Bool
gives_in (PlainInner c) = gives_name (nature_of c)
gives_in (SetUntil until) = false
gives_in AllocateChannel = false

abbrev pub gives_names : Option Statement → Bool
gives_names None = false
gives_names (Some (Plain c)) = gives_name (nature_of c)
gives_names (Some (Block inner)) = list_any gives_in inner

-- none of these statements gives a name of an object
abbrev pub GiveNoName : List (ℕ × List Token) → Type 0
GiveNoName [] = Unit {0}
GiveNoName (s ∷ ss) = (gives_names (statement_built_at s.1) ≡ false) × GiveNoName ss

-- Where the world is honest along it, the machine has a run over these statements with these replies, and this is so of the
-- machine at its end, and of whether a list of edits was applied.
abbrev pub RunsWhereHonest : Machine → Answers → List (ℕ × List Token) → List Reply → (Bool → Machine → Type 0) → Type 0
RunsWhereHonest first answers ss replies Is =
    IsHonestAlong first answers ss replies → (last : Machine) × (applied : Bool) × Run first answers ss replies applied last × Is applied last

-- the answers behind those that these statements use
abbrev pub behind : List (ℕ × List Token) → Answers → Answers
behind [] answers = answers
behind (s ∷ ss) answers = behind ss (past (statement_built_at s.1) answers)

-- where the clock tells its answers to come, they are these
abbrev pub AreToCome : Option Answers → Answers → Type 0
AreToCome told answers = IfSome told (λ coming. (i : ℕ) → answers i ≡ coming i)

-- how often the clock is asked for a statement: once for one of the grammar, a RUN too, and not for what is none
abbrev pub asks : Option Statement → ℕ
asks None = 0
asks (Some s) = 1

-- and for these
abbrev pub asks_for : List (ℕ × List Token) → ℕ
asks_for [] = 0
asks_for (s ∷ ss) = asks (statement_built_at s.1) + asks_for ss

-- what is known of a clock: its answers to come, where it tells them, and how often it was asked
pub record Watch : Type 0 where
  pub coming : Option Answers
  pub asked : ℕ

abbrev pub watch : Option Answers → ℕ → Watch
watch coming asked = record { coming = coming; asked = asked }

-- the clock, of these answers, was asked for these statements, and for no others
pub record WasAskedFor (clock later : Watch) (answers : Answers) (ss : List (ℕ × List Token)) : Type 0 where
  pub coming : AreToCome later.coming (behind ss answers)
  pub often : later.asked ≡ clock.asked + asks_for ss

-- the texts of the replies, one after another
abbrev pub replies_text : List Reply → List ℕ
replies_text replies = flat_map reply_text replies
