-- The world is honest along every run whose statements give no name of an object.
use Rattle.std.specs.List.{list_any}
use Rattle.std.proofs.Common.{◌≡◌, ◌∙◌, ℕ, List, [], ◌∷◌, ◌++◌, Option, Some, None, IfSome, Bool, true, false, MatchBool, Contains, ap, subst, sym, refl}
use Rattle.std.proofs.lemmas.Bool.{or_parts}
use Rattle.rm_base.{specs.Store.{Answers, Held}, proofs.Members.{none-in}}
use Rattle.rm_lang_statement.specs.declared.command.{Command.{Command, TheVariants.{Cut, Damage, Remove, Rename}}, Inner.{Inner}}
use Rattle.rm_lang_statement.specs.declared.command.Inner.TheVariants.{SetUntil, AllocateChannel, Plain as PlainInner}
use Rattle.rm_lang_statement.specs.declared.command.{Statement.{Statement, TheVariants.{Plain, Run as Block}}, Until.{Until}}
use Rattle.rm_report.specs.declared.line.Reply.{Reply}
use Rattle.rm_lang_token.specs.declared.token.Token.{Token}
use Rattle.rm_machine.specs.{Effect.{Outcome, refused, told, done}, Honest.{IsHonest}, Machine.{Machine}, Nature.{gives_name, nature_of}}
use Rattle.rm_machine.specs.{Rest.{PartsTell, Rest, Wakes}, State.{at_moment}, Step.{StepBy, StepIn, names_in}}
use Rattle.rm_machine.specs.declared.state.State.{State}
use Rattle.rm_machine_laws.{specs.{Holds.{HoldsRest, nothing}, Moments.{moment_of}}, proofs.Agreeing.{untouched-tell}}
use Rattle.rm_tool.specs.Block.{BlockSteps, InnerStep, IsHonestAt, IsHonestInside, after_inner, unset, with_until}
use Rattle.rm_tool.specs.{Built.{statement_built_at}, Run.{IsHonestAlong, GiveNoName, StepOf, IsHonestWithin, gives_in, gives_names, past}}
use Rattle.rm_tool.{specs.declared.block.Settings.{Settings}, proofs.Setting.{nature_with}}

-- a step touches no name but those that its statement gives
by-outcome : (o : Option State) (m n : Machine) (c : Command) (x : Outcome) (r : Reply) → names_in c ≡ [] → m.touched ≡ [] → StepBy o m c x r n → n.touched ≡ []
by-outcome o m n c (refused why) r free none step = ap (λ (x : Machine). x.touched) step.1 ∙ none
by-outcome o m n c (told lines) r free none step = ap (λ (x : Machine). x.touched) step.1 ∙ none
by-outcome o m n c (done lines effect t) r free none step = step.1.touched ∙ ap (λ (names : List (List ℕ)). names ++ m.touched) free ∙ none

by-step : (o : Option State) (m n : Machine) (c : Command) (moment : ℕ) (r : Reply) → names_in c ≡ [] → m.touched ≡ [] → StepIn o m c moment r n → n.touched ≡ []
by-step None m n c moment r free none step = by-outcome None m n c step.0 r free none step.2
by-step (Some s) m n c moment r free none step = by-outcome (Some (at_moment s moment)) m n c step.0 r free none step.2

-- one that gives no name touches none
no-names : (c : Command) → gives_name (nature_of c) ≡ false → names_in c ≡ []
no-names (Remove name) free = absurd cc
no-names (Damage name at) free = absurd cc
no-names (Cut name to) free = absurd cc
no-names (Rename old new) free = absurd cc
no-names _ free = refl

-- the until of a RUN gives none
free-with : (set : Option Until) (c : Command) → gives_name (nature_of c) ≡ false → gives_name (nature_of (with_until set c)) ≡ false
free-with set c free = ap gives_name (nature_with set c) ∙ free

by-inner : (x : Settings) (y : Inner) (m n : Machine) (clock : ℕ) (r : Reply) → gives_in y ≡ false → m.touched ≡ [] → InnerStep x m y clock r n → n.touched ≡ []
by-inner x (PlainInner c) m n clock r free none step = by-step m.state m n (with_until x.until c) (moment_of m.state clock) r (no-names (with_until x.until c) (free-with x.until c free)) none step
by-inner x (SetUntil until) m n clock r free none step = ap (λ (o : Machine). o.touched) step.1 ∙ none
by-inner x AllocateChannel m n clock r free none step = ap (λ (o : Machine). o.touched) step.1 ∙ none

either : (b : Bool) (P Q R : Type 0) → (P → R) → (Q → R) → MatchBool b P Q → R
either true P Q R f g p = f p
either false P Q R f g q = g q

-- and so does a RUN
by-block : (x : Settings) (ys : List Inner) (m n : Machine) (clock : ℕ) (r : Reply) (applied : Bool) → list_any gives_in ys ≡ false → m.touched ≡ [] → BlockSteps x m ys clock r applied n → n.touched ≡ []
by-block x [] m n clock r applied free none steps = ap (λ (o : Machine). o.touched) steps.2 ∙ none
by-block x (y ∷ ys) m n clock r applied free none (first, mid, step, after) =
    let each = or_parts (gives_in y) (list_any gives_in ys) free in
    let here : mid.touched ≡ [] = by-inner x y m mid clock first each.0 none step in
    either first.refused _ _ _ (λ ended. ap (λ (o : Machine). o.touched) ended.2 ∙ here) (λ rest. by-block (after_inner x y) ys mid n clock rest.0 rest.1 each.1 here rest.2) after

by-statement : (o : Option Statement) (m n : Machine) (line clock : ℕ) (r : Reply) (applied : Bool) → gives_names o ≡ false → m.touched ≡ [] → StepOf o m line clock r applied n → n.touched ≡ []
by-statement None m n line clock r applied free none step = ap (λ (x : Machine). x.touched) step.2 ∙ none
by-statement (Some (Plain c)) m n line clock r applied free none step = by-step m.state m n c (moment_of m.state clock) r (no-names c free) none step.0
by-statement (Some (Block block)) m n line clock r applied free none steps = by-block unset block m n clock r applied free none steps

-- At a command that gives no name the world is honest
honest-at : (m : Machine) (c : Command) → gives_name (nature_of c) ≡ false → m.touched ≡ [] → IsHonest m c
honest-at m c free none = record {
  digests = untouched-tell m none;
  catalogues = λ name bytes s t moment lines effect is at comes there. absurd (let clash : true ≡ false = sym (ap (λ (x : Command). gives_name (nature_of x)) is) ∙ free in cc);
}

-- and within a RUN
honest-inner : (x : Settings) (y : Inner) (m : Machine) → gives_in y ≡ false → m.touched ≡ [] → IsHonestAt x m y
honest-inner x (PlainInner c) m free none = honest-at m (with_until x.until c) (free-with x.until c free) none
honest-inner x (SetUntil until) m free none = tt
honest-inner x AllocateChannel m free none = tt

honest-inside : (x : Settings) (ys : List Inner) (m : Machine) (clock : ℕ) → list_any gives_in ys ≡ false → m.touched ≡ [] → IsHonestInside x m ys clock
honest-inside x [] m clock free none = tt
honest-inside x (y ∷ ys) m clock free none =
    let each = or_parts (gives_in y) (list_any gives_in ys) free in (
      honest-inner x y m each.0 none,
      λ r n step accepted. honest-inside (after_inner x y) ys n clock each.1 (by-inner x y m n clock r each.0 none step),
    )

honest-within : (o : Option Statement) (m : Machine) (clock : ℕ) → gives_names o ≡ false → m.touched ≡ [] → IsHonestWithin o m clock
honest-within None m clock free none = tt
honest-within (Some (Plain c)) m clock free none = honest-at m c free none
honest-within (Some (Block block)) m clock free none = honest-inside unset block m clock free none

pub honest-along : (first : Machine) → first.touched ≡ [] → (answers : Answers) (ss : List (ℕ × List Token)) (replies : List Reply) → GiveNoName ss → IsHonestAlong first answers ss replies
honest-along first none answers [] replies free = tt
honest-along first none answers (s ∷ ss) [] free = honest-within (statement_built_at s.1) first (answers 0) free.0 none
honest-along first none answers (s ∷ ss) (r ∷ rs) free =
    let o : Option Statement = statement_built_at s.1 in (
      honest-within o first (answers 0) free.0 none,
      λ applied m step. honest-along m (by-statement o first m s.0 (answers 0) r applied free.0 none step) (past o answers) ss rs free.1,
    )

-- the machine that wakes before the first statement ever is one of which no name was touched
pub untouched-first : (objects : Held) (first : Machine) → Wakes (nothing objects) first → first.touched ≡ []
untouched-first objects first wakes = ap (λ (r : Rest). r.touched) wakes.rest

if-some : {A : Type 0} {P : A → Type 0} → ((a : A) → P a) → (o : Option A) → IfSome o P
if-some f None = tt
if-some f (Some a) = f a

none-of : {names : List (List ℕ)} {name : List ℕ} → names ≡ [] → Contains names name → ⊥
none-of {name = name} none given = none-in name (subst (λ (ns : List (List ℕ)). Contains ns name) none given)

-- where no name was touched, digests tell of a saved site
pub untouched-parts-tell : (r : Rest) → r.touched ≡ [] → PartsTell r
untouched-parts-tell r none = if-some (λ c. if-some (λ site. record { parts = λ p a bytes given. absurd (none-of none given) }) c.saved) r.catalog

-- no database is held over an empty keeper
pub nothing-held : (objects : Held) → HoldsRest (Some objects) (Some []) (nothing objects)
nothing-held objects = record { store = refl; keeper = refl; sound = (refl, refl) }
