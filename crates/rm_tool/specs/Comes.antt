-- What the statements of a script come to by what is at hand, whatever the store and the keeper hold.
use Rattle.std.specs.Prelude.{ℕ, ◌≡◌, ◌||◌, MatchBool, Bool, true, false, Option, Some, None, IfSome, List, [], ◌∷◌}
use Rattle.rm_base.specs.{Store.{Answers, Held}, declared.refusal.Refusal.TheVariants.{Rm01}}
use Rattle.rm_catalog.specs.declared.record.Record.{Record}
use Rattle.rm_lang_statement.specs.declared.command.{Command.{Command}, Inner.{Inner}}
use Rattle.rm_lang_statement.specs.declared.command.Inner.TheVariants.{AllocateChannel, Plain as PlainInner, SetUntil}
use Rattle.rm_lang_statement.specs.declared.command.Statement.{Statement, TheVariants.{Plain, Run as Block}}
use Rattle.rm_lang_token.specs.declared.token.Token.{Token}
use Rattle.rm_machine.specs.{Marks.{lacks_ids}, declared.state.State.{State}}
use Rattle.rm_machine_laws.specs.{Holds.{View}, Moments.{moment_of}, Refused.{AnsweredBy, refusal_in}, Saves.{applies}}
use Rattle.rm_report.specs.{Reply.{refused_by, said}, declared.line.Reply.{Reply}}
use Rattle.rm_tool_opening.specs.{ComesOut.{ComesOut}, Untouched.{is_quiet}}
use Rattle.rm_tool.specs.Block.{after_inner, channel_reply, inner_applies, joined, set_reply, unset, with_until}
use Rattle.rm_tool.specs.{Built.{statement_built_at}, Run.{past}, declared.block.Settings.{Settings}}

-- what is at hand: what the store and the keeper hold, where they tell it, and the database, if there is one
pub record AtHand : Type 0 where
  pub held : Option Held
  pub kept : Option (List Record)
  pub state : Option State

-- what is at hand over a site
abbrev pub at_hand : Option Held → Option (List Record) → View → AtHand
at_hand held kept v = record { held = held; kept = kept; state = v.state }

-- A command, where the clock answered so: it comes out by what the objects and the database are; it is refused where the database refuses it,
-- and by nothing else but the objects; where it is refused, or only tells, all is as it was; and what does more had the ids of a save left.
pub record CommandComes (a : AtHand) (c : Command) (clock : ℕ) (reply : Reply) (b : AtHand) : Type 0 where
  pub out : ComesOut a.held a.kept a.state c (moment_of a.state clock) reply b.held b.kept b.state
  pub answered : AnsweredBy (refusal_in a.state c (moment_of a.state clock)) c reply a.state b.state
  pub quiet : is_quiet c reply ≡ true → b ≡ a
  pub ids : applies c reply ≡ true → IfSome a.state (λ s. lacks_ids s 0 ≡ false)

-- a statement of a RUN, where this is set
abbrev pub InnerComes : Settings → AtHand → Inner → ℕ → Reply → AtHand → Type 0
InnerComes x a (PlainInner c) clock reply b = CommandComes a (with_until x.until c) clock reply b
InnerComes x a (SetUntil until) clock reply b = (reply ≡ set_reply a.state) × (b ≡ a)
InnerComes x a AllocateChannel clock reply b = (reply ≡ channel_reply a.state x.channels) × (b ≡ a)

-- The statements of a RUN, one after another, up to the first that is refused: the reply to them all, whether a list of edits was applied, and
-- what is at hand behind them.
abbrev pub BlockComes : Settings → AtHand → List Inner → ℕ → Reply → Bool → AtHand → Type 0
BlockComes x a [] clock reply applied b = (reply ≡ said []) × (applied ≡ false) × (b ≡ a)
BlockComes x a (y ∷ ys) clock reply applied b =
    (first : Reply) × (mid : AtHand) × InnerComes x a y clock first mid
    × MatchBool first.refused
    ((reply ≡ first) × (applied ≡ false) × (b ≡ mid))
    ((rest : Reply) × (more : Bool) × BlockComes (after_inner x y) mid ys clock rest more b × (reply ≡ joined first rest) × (applied ≡ (inner_applies x y first || more)))

-- A statement of this line: one that is not of the grammar is refused, and all is as it was.
abbrev pub StatementComes : Option Statement → AtHand → ℕ → ℕ → Reply → Bool → AtHand → Type 0
StatementComes None a line clock reply applied b = (reply ≡ refused_by (Rm01 line)) × (applied ≡ false) × (b ≡ a)
StatementComes (Some (Plain c)) a line clock reply applied b = CommandComes a c clock reply b × (applied ≡ applies c reply)
StatementComes (Some (Block inner)) a line clock reply applied b = BlockComes unset a inner clock reply applied b

-- These replies come to these statements, one after another, where the clock gives these answers. And whether a list of edits was applied for one
-- of them, and what is at hand behind them.
abbrev pub AllCome : AtHand → Answers → List (ℕ × List Token) → List Reply → Bool → AtHand → Type 0
AllCome a answers [] [] applied b = (applied ≡ false) × (b ≡ a)
AllCome a answers (s ∷ ss) (r ∷ rs) applied b =
    (mid : AtHand) × (here : Bool) × (more : Bool) × StatementComes (statement_built_at s.1) a s.0 (answers 0) r here mid × AllCome mid (past (statement_built_at s.1) answers) ss rs more b
    × (applied ≡ (here || more))
AllCome a answers [] (r ∷ rs) applied b = ⊥
AllCome a answers (s ∷ ss) [] applied b = ⊥

-- from this on these replies come to these statements, and this is so of what is at hand behind them, and of whether a list of edits was applied
abbrev pub ComeWith : AtHand → Answers → List (ℕ × List Token) → List Reply → (Bool → AtHand → Type 0) → Type 0
ComeWith a answers ss replies Is = (applied : Bool) × (b : AtHand) × AllCome a answers ss replies applied b × Is applied b
