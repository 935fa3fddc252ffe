-- A run goes on by one statement.
use Rattle.std.proofs.Common.{◌≡◌, ◌+◌, ◌≤◌, ◌∙◌, ◌++◌, ◌||◌, ◌&&◌, ◌⊎◌, inl, inr, ℕ, zero, suc, List, [], ◌∷◌, Option, Some, None, IfSome, Bool, true, false, refl, ap, sym, subst, arith, append-nil, slice_get, take, drop, length, All}
use Rattle.std.proofs.lemmas.{Bool.{and_parts}, Grind.{flat_map-append}, List.{drop_more, length-take-le, length_push, take-append-drop}}
use Rattle.std.proofs.lemmas.{List.Elements.{All-append, All-cons, All-nil}, Option.{get_or_from_slice_get, slice_get_within}}
use Rattle.std.proofs.Math.Bool.{or-false, or_assoc}
use Rattle.rm_base.{specs.{Outside.{Appends}, Store.{Held, Answers, Both}}, proofs.Lists.{take_more}}
use Rattle.rm_base.proofs.Streams.{appends-then, appends-nothing}
use Rattle.rm_catalog.specs.declared.record.Record.{Record}
use Rattle.rm_lang_statement.specs.declared.command.Statement.{Statement}
use Rattle.rm_tool.specs.{Built.{statement_built_at}, Comes.{AtHand, ComeWith, StatementComes, at_hand}, Drill.{IsTally}}
use Rattle.rm_tool.specs.Quiet.{are_quiet, is_quiet_statement, only_tells_statement}
use Rattle.rm_tool.specs.Run.{StepOf, StatementStep, past, behind, Run, IsHonestAlong, IsHonestWithin, RunsWhereHonest, AreToCome, Watch, WasAskedFor, asks, asks_for, replies_text}
use Rattle.rm_tool.specs.Serving.{FromEach, HasPassed, IsPast, IsServed, IsCut, IsCutShort, IsOver, Serves, EndsAtStatement, EndsInReplies}
use Rattle.rm_tool.{specs.declared.tally.Tally.{Tally}, proofs.{Coming.{come-more}, Quiet.{same-then, untouched-then}}}
use Rattle.rm_lang_token.specs.declared.token.Token.{Token}
use Rattle.rm_report.specs.{Reply.{IsFlagged}, Text.{reply_text}, declared.line.Reply.{Reply}}
use Rattle.rm_machine.specs.{Machine.{Machine}, Rest.{at_rest}}
use Rattle.rm_machine_laws.{specs.Holds.{Holds, HoldsRest, Stands, View}, proofs.Halting.{rests}}
use Rattle.rm_tool_opening.specs.Untouched.{AreSame, IsUntouched}
use Rattle.rm_tool_ends.specs.Writing.{WritesFront}

-- The machine's run over these statements, with these replies, as far as it came: each course of the clock from
-- here on is that of a whole one. Whatever machine the site stood for at the start, where digests tell along the run this is so of the
-- machine at its end. And so it is of what is at hand, whatever the store and the keeper hold.
abbrev pub Extends : Option Held → Option (List Record) → View → Watch → List (ℕ × List Token) → List Reply → Watch → (Bool → Machine → Type 0) → (Bool → AtHand → Type 0) → Type 0
Extends held kept origin told ss rs now Is Over =
    (answers : Answers) → AreToCome now.coming answers → (all : Answers) × AreToCome told.coming all × (behind ss all ≡ answers) × FromEach held kept origin (λ first. RunsWhereHonest first all ss rs Is)
    × ComeWith (at_hand held kept origin) all ss rs Over

-- the site stands for the machine, which the store and the keeper hold, and knows whether a list was applied
abbrev pub IsAt : View → View → Option Held → Option (List Record) → Bool → Machine → Type 0
IsAt origin site held kept applied m = Stands site m × Holds held kept m × (site.applied ≡ (origin.applied || applied))

-- a run over these statements from where the site was at the start on to where it is, whose replies were written
pub record Progress (ss : List (ℕ × List Token)) (told now : Watch) (before written : Option (List ℕ)) (first_held : Option Held) (first_kept : Option (List Record)) (origin : View) (held : Option Held) (kept : Option (List Record)) (site : View) (sum : Tally) : Type 0 where
  pub replies : List Reply
  pub many : length replies ≡ length ss
  pub often : now.asked ≡ told.asked + asks_for ss
  pub appends : Appends before written (replies_text replies)
  pub tally : IsTally sum replies
  pub flags : All IsFlagged replies
  pub quiet : are_quiet ss replies ≡ true → IsUntouched first_held first_kept origin held kept site
  pub extends : Extends first_held first_kept origin told ss replies now (IsAt origin site held kept) (IsOver origin site held kept)

-- a statement was served, and its reply was not written yet
pub record Reached (ss : List (ℕ × List Token)) (told now : Watch) (before written : Option (List ℕ)) (first_held : Option Held) (first_kept : Option (List Record)) (origin : View) (held : Option Held) (kept : Option (List Record)) (site : View) (sum : Tally) (r : Reply) : Type 0 where
  pub replies : List Reply
  pub many : length replies + 1 ≡ length ss
  pub often : now.asked ≡ told.asked + asks_for ss
  pub appends : Appends before written (replies_text replies)
  pub tally : IsTally sum replies
  pub flags : All IsFlagged (replies ++ r ∷ [])
  pub quiet : are_quiet ss (replies ++ r ∷ []) ≡ true → IsUntouched first_held first_kept origin held kept site
  pub extends : Extends first_held first_kept origin told ss (replies ++ r ∷ []) now (IsAt origin site held kept) (IsOver origin site held kept)

-- an answer before others
abbrev before_all : ℕ → Answers → Answers
before_all a f zero = a
before_all a f (suc i) = f i

-- the answers from a statement on
abbrev from : Option Statement → ℕ → Answers → Answers
from None a f = f
from (Some s) a f = before_all a f

step-from : (o : Option Statement) (old new : Machine) (line a : ℕ) (f : Answers) (r : Reply) (applied : Bool) → StepOf o old line a r applied new → StepOf o old line (from o a f 0) r applied new
step-from None old new line a f r applied h = h
step-from (Some s) old new line a f r applied h = h

within-from : (o : Option Statement) (m : Machine) (a : ℕ) (f : Answers) → IsHonestWithin o m (from o a f 0) → IsHonestWithin o m a
within-from None m a f h = h
within-from (Some s) m a f h = h

past-from : (o : Option Statement) (a : ℕ) (f : Answers) → past o (from o a f) ≡ f
past-from None a f = refl
past-from (Some s) a f = refl

told-from : (o : Option Statement) (a : ℕ) (f : Answers) (now later : Option Answers) → IfSome now (λ coming. a ≡ coming 0) → Both (IsPast o) now later → AreToCome later f → AreToCome now (from o a f)
told-from o a f None later next passed told = tt
told-from o a f (Some b) None next passed told = absurd passed
told-from None a f (Some b) (Some l) next passed told = λ i. told i ∙ passed i
told-from (Some s) a f (Some b) (Some l) next passed told = at
  where
    at : (i : ℕ) → before_all a f i ≡ b i
    at zero = next
    at (suc i) = told i ∙ passed i

-- the answers behind two lists of statements
behind-both : (ss ts : List (ℕ × List Token)) (f : Answers) → behind (ss ++ ts) f ≡ behind ts (behind ss f)
behind-both [] ts f = refl
behind-both (s ∷ ss) ts f = behind-both ss ts (past (statement_built_at s.1) f)

-- how often the clock is asked for one statement more
asks-push : (ss : List (ℕ × List Token)) (s : ℕ × List Token) → asks_for (ss ++ s ∷ []) ≡ asks_for ss + asks (statement_built_at s.1)
asks-push [] s = omega arith
asks-push (t ∷ ss) s = let more = asks-push ss s in omega arith

-- a run, and the step of the statement after it
run-more : (ss : List (ℕ × List Token)) (rs : List Reply) (first mid new : Machine) (all : Answers) (s : ℕ × List Token) (r : Reply) (before here : Bool)
    → Run first all ss rs before mid → StatementStep mid s (behind ss all 0) r here new → Run first all (ss ++ s ∷ []) (rs ++ r ∷ []) (before || here) new
run-more [] [] first mid new all s r before here run step =
    (new, here, false, subst (λ (m : Machine). StatementStep m s (all 0) r here new) run.1 step, (refl, refl), ap (λ b. b || here) run.0 ∙ sym (or-false here))
run-more [] (q ∷ qs) first mid new all s r before here run step = absurd run
run-more (t ∷ ts) [] first mid new all s r before here run step = absurd run
run-more (t ∷ ts) (q ∷ qs) first mid new all s r before here run step =
    let more = run-more ts qs run.0 mid new (past (statement_built_at t.1) all) s r run.2 here run.4 step in
    (run.0, run.1, run.2 || here, run.3, more, ap (λ b. b || here) run.5 ∙ or_assoc run.1 run.2 here)

-- digests tell along the first statements of a run
along-first : (ss ts : List (ℕ × List Token)) (rs qs : List Reply) (first : Machine) (all : Answers) → length rs ≡ length ss → IsHonestAlong first all (ss ++ ts) (rs ++ qs) → IsHonestAlong first all ss rs
along-first [] ts rs qs first all many tells = tt
along-first (s ∷ ss) ts [] qs first all many tells = absurd (omega (arith, many))
along-first (s ∷ ss) ts (r ∷ rs) qs first all many tells =
    (tells.0, λ applied m step. along-first ss ts rs qs m (past (statement_built_at s.1) all) (omega (arith, many)) (tells.1 applied m step))

at-head : (s : ℕ × List Token) (ss : List (ℕ × List Token)) (rs : List Reply) (m : Machine) (all : Answers) → IsHonestAlong m all (s ∷ ss) rs → IsHonestWithin (statement_built_at s.1) m (all 0)
at-head s ss [] m all tells = tells
at-head s ss (r ∷ rs) m all tells = tells.0

-- and within the statement behind them
along-next : (ss ts : List (ℕ × List Token)) (s : ℕ × List Token) (rs qs : List Reply) (first last : Machine) (all : Answers) (applied : Bool)
    → Run first all ss rs applied last → IsHonestAlong first all (ss ++ s ∷ ts) (rs ++ qs) → IsHonestWithin (statement_built_at s.1) last (behind ss all 0)
along-next [] ts s [] qs first last all applied run tells = subst (λ (m : Machine). IsHonestWithin (statement_built_at s.1) m (all 0)) (sym run.1) (at-head s ts qs first all tells)
along-next [] ts s (r ∷ rs) qs first last all applied run tells = absurd run
along-next (t ∷ ss) ts s [] qs first last all applied run tells = absurd run
along-next (t ∷ ss) ts s (r ∷ rs) qs first last all applied run tells = along-next ss ts s rs qs run.0 last (past (statement_built_at t.1) all) run.2 run.4 (tells.1 run.1 run.0 run.3)

-- a statement that was asked of the clock, or none
pub comes-from : (o : Option Statement) (start end : AtHand) (line a : ℕ) (f : Answers) (r : Reply) (applied : Bool) → StatementComes o start line a r applied end → StatementComes o start line (from o a f 0) r applied end
comes-from None start end line a f r applied h = h
comes-from (Some s) start end line a f r applied h = h

-- one statement more
extends-more : (held : Option Held) (kept : Option (List Record)) (origin : View) (told now later : Watch) (ss : List (ℕ × List Token)) (rs : List Reply) (s : ℕ × List Token) (r : Reply) (a : ℕ) (Is Becomes : Bool → Machine → Type 0) (Over Comes : Bool → AtHand → Type 0)
    → length rs ≡ length ss → IfSome now.coming (λ coming. a ≡ coming 0) → Both (IsPast (statement_built_at s.1)) now.coming later.coming
    → ((applied : Bool) (m : Machine) → Is applied m → IsHonestWithin (statement_built_at s.1) m a → (n : Machine) × (here : Bool) × StatementStep m s a r here n × Becomes (applied || here) n)
    → ((applied : Bool) (b : AtHand) → Over applied b → (d : AtHand) × (here : Bool) × StatementComes (statement_built_at s.1) b s.0 a r here d × Comes (applied || here) d)
    → Extends held kept origin told ss rs now Is Over → Extends held kept origin told (ss ++ s ∷ []) (rs ++ r ∷ []) later Becomes Comes
extends-more held kept origin told now later ss rs s r a Is Becomes Over Comes many next passed step comes extends = λ answers come.
    let o : Option Statement = statement_built_at s.1 in
    let all = extends (from o a answers) (told-from o a answers now.coming later.coming next passed come) in
    let goes : FromEach held kept origin (λ first. RunsWhereHonest first all.0 (ss ++ s ∷ []) (rs ++ r ∷ []) Becomes) = λ first stands holds tells.
    let mid = all.3 first stands holds (along-first ss (s ∷ []) rs (r ∷ []) first all.0 many tells) in
    let here : IsHonestWithin o mid.0 (behind ss all.0 0) = along-next ss [] s rs (r ∷ []) first mid.0 all.0 mid.1 mid.2 tells in
    let n = step mid.1 mid.0 mid.3 (within-from o mid.0 a answers (subst (λ (f : Answers). IsHonestWithin o mid.0 (f 0)) all.2 here)) in
    let at : StatementStep mid.0 s (behind ss all.0 0) r n.1 n.0 = subst (λ (f : Answers). StatementStep mid.0 s (f 0) r n.1 n.0) (sym all.2) (step-from o mid.0 n.0 s.0 a answers r n.1 n.2) in
    (n.0, mid.1 || n.1, run-more ss rs first mid.0 n.0 all.0 s r mid.1 n.1 mid.2 at, n.3) in
    let was = all.4 in
    let is = comes was.0 was.1 was.3 in
    let here : StatementComes o was.1 s.0 (behind ss all.0 0) r is.1 is.0 = subst (λ (f : Answers). StatementComes o was.1 s.0 (f 0) r is.1 is.0) (sym all.2) (comes-from o was.1 is.0 s.0 a answers r is.1 is.2) in
    let come : ComeWith (at_hand held kept origin) all.0 (ss ++ s ∷ []) (rs ++ r ∷ []) Comes =
    (was.0 || is.1, is.0, come-more ss rs (at_hand held kept origin) was.1 is.0 all.0 s r was.0 is.1 was.2 here, is.3) in
    (all.0, all.1, behind-both ss (s ∷ []) all.0 ∙ ap (past o) all.2 ∙ past-from o a answers, goes, come)

-- where a statement more leaves all quiet, those before it did, and it does
quiet-push : (ss : List (ℕ × List Token)) (rs : List Reply) (s : ℕ × List Token) (r : Reply) → length rs ≡ length ss → are_quiet (ss ++ s ∷ []) (rs ++ r ∷ []) ≡ true
    → (are_quiet ss rs ≡ true) × (is_quiet_statement (statement_built_at s.1) r ≡ true)
quiet-push [] [] s r many is = (refl, (and_parts (is_quiet_statement (statement_built_at s.1) r) true is).0)
quiet-push [] (q ∷ rs) s r many is = absurd (omega (arith, many))
quiet-push (t ∷ ss) [] s r many is = absurd (omega (arith, many))
quiet-push (t ∷ ss) (q ∷ rs) s r many is =
    let parts = and_parts (is_quiet_statement (statement_built_at t.1) q) (are_quiet (ss ++ s ∷ []) (rs ++ r ∷ [])) is in
    let behind = quiet-push ss rs s r (omega (arith, many)) parts.1 in
    (ap (λ b. b && are_quiet ss rs) parts.0 ∙ behind.0, behind.1)

text-push : (rs : List Reply) (r : Reply) → replies_text (rs ++ r ∷ []) ≡ replies_text rs ++ reply_text r
text-push rs r = flat_map-append reply_text rs (r ∷ []) ∙ ap (λ t. replies_text rs ++ t) (append-nil (reply_text r))

-- before the first statement
pub progress-none : {told : Watch} {o : Option (List ℕ)} {held : Option Held} {kept : Option (List Record)} {site : View} {sum : Tally} → IsTally sum [] → Progress [] told told o o held kept site held kept site sum
progress-none {held = held} {kept = kept} {site = site} tally =
    record {
      replies = [];
      many = refl;
      often = omega arith;
      appends = appends-nothing _;
      tally = tally;
      flags = All-nil IsFlagged;
      quiet = λ is. ((refl, refl), refl);
      extends = λ answers come. (answers, come, refl, λ first stands holds tells. (first, false, (refl, refl), (stands, holds, sym (or-false site.applied))), (false, at_hand held kept site, (refl, refl), record { is = refl; knows = sym (or-false site.applied) }));
    }

-- answers that a clock may give from here on
abbrev pub answers_from : Option Answers → Answers
answers_from None = λ i. 0
answers_from (Some coming) = coming

come-from : (now : Option Answers) → AreToCome now (answers_from now)
come-from None = tt
come-from (Some coming) = λ i. refl

-- answers that a clock may give from here on, of which this is the next
answers-with : (now : Option Answers) (a : ℕ) → IfSome now (λ coming. a ≡ coming 0) → (f : Answers) × AreToCome now f × (f 0 ≡ a)
answers-with None a next = ((λ i. a), tt, refl)
answers-with (Some coming) a next = (coming, (λ i. refl), sym next)

told-past : (o : Option Statement) (f : Answers) (now later : Option Answers) → Both (IsPast o) now later → AreToCome now f → AreToCome later (past o f)
told-past o f None None passed told = tt
told-past o f None (Some l) passed told = absurd (cc)
told-past o f (Some b) None passed told = absurd passed
told-past None f (Some b) (Some l) passed told = λ i. told i ∙ sym (passed i)
told-past (Some s) f (Some b) (Some l) passed told = λ i. told (suc i) ∙ sym (passed i)

-- how often it was asked for one statement more
often-more : (told now later : Watch) (ss ts : List (ℕ × List Token)) (s : ℕ × List Token) → ts ≡ ss ++ s ∷ [] → now.asked ≡ told.asked + asks_for ss → later.asked ≡ now.asked + asks (statement_built_at s.1)
    → later.asked ≡ told.asked + asks_for ts
often-more told now later ss ts s more before here =
    let all : asks_for ts ≡ asks_for ss + asks (statement_built_at s.1) = ap asks_for more ∙ asks-push ss s in
    omega arith

-- the clock was asked for the statements before one, or for it too
asked-so : (told now later : Watch) (ss ts : List (ℕ × List Token)) (s : ℕ × List Token) (f all : Answers) → ts ≡ ss ++ s ∷ [] → now.asked ≡ told.asked + asks_for ss → behind ss all ≡ f → AreToCome now.coming f
    → (later ≡ now) ⊎ HasPassed (statement_built_at s.1) now later → WasAskedFor told later all ss ⊎ WasAskedFor told later all ts
asked-so told now later ss ts s f all more often is come (inl same) =
    inl (subst (λ (w : Watch). WasAskedFor told w all ss) (sym same) (record { coming = subst (AreToCome now.coming) (sym is) come; often = often }))
asked-so told now later ss ts s f all more often is come (inr passed) =
    let behind-it : behind ts all ≡ past (statement_built_at s.1) f = ap (λ (us : List (ℕ × List Token)). behind us all) more ∙ behind-both ss (s ∷ []) all ∙ ap (past (statement_built_at s.1)) is in
    inr
    (record {
      coming = subst (AreToCome later.coming) (sym behind-it) (told-past (statement_built_at s.1) f now.coming later.coming passed.coming come);
      often = often-more told now later ss ts s more often passed.often;
    })

-- the statements before one, it, and those behind it
in-two : (ss : List (ℕ × List Token)) (i : ℕ) (s : ℕ × List Token) → slice_get ss i ≡ Some s → ss ≡ take i ss ++ s ∷ drop (i + 1) ss
in-two ss i s there =
    let rest : List (ℕ × List Token) = drop (i + 1) ss in
    sym (take-append-drop i ss) ∙ ap (λ (ts : List (ℕ × List Token)). take i ss ++ ts) (drop_more ss i s (slice_get_within ss i s there) ∙ ap (λ (t : ℕ × List Token). t ∷ rest) (get_or_from_slice_get ss i s s there))

-- From one point of a session on
module _ {told now : Watch} {before written : Option (List ℕ)} {first_held : Option Held} {first_kept : Option (List Record)} {origin : View} {held : Option Held} {kept : Option (List Record)} {site : View} {sum : Tally} (ss : List (ℕ × List Token)) where
  -- all statements were served
  pub progress-serves : Progress ss told now before written first_held first_kept origin held kept site sum → Serves told now before written first_held first_kept origin held kept site sum ss
  progress-serves p =
      let all = p.extends (answers_from now.coming) (come-from now.coming) in
      record {
        answers = all.0;
        told = all.1;
        asked = record { coming = subst (AreToCome now.coming) (sym all.2) (come-from now.coming); often = p.often };
        replies = p.replies;
        many = p.many;
        written = p.appends;
        tally = p.tally;
        flags = p.flags;
        quiet = p.quiet;
        comes = all.4;
        run = all.3;
      }

  -- the statement i is served
  pub progress-reached : {held' : Option Held} {kept' : Option (List Record)} {site' : View} {later : Watch} {s : ℕ × List Token} {r : Reply} (i : ℕ) → slice_get ss i ≡ Some s
      → Progress (take i ss) told now before written first_held first_kept origin held kept site sum → IsServed held kept site now s r held' kept' site' later → IsFlagged r
      → Reached (take (i + 1) ss) told later before written first_held first_kept origin held' kept' site' sum r
  progress-reached {held' = held'} {kept' = kept'} {site' = site'} {later = later} {s = s} {r = r} i there p served flagged =
      let more : take (i + 1) ss ≡ take i ss ++ s ∷ [] = take_more ss i s (slice_get_within ss i s there) (sym (get_or_from_slice_get ss i s s there)) in
      subst (λ (ts : List (ℕ × List Token)). Reached ts told later before written first_held first_kept origin held' kept' site' sum r) (sym more)
      (record {
        replies = p.replies;
        many = omega (arith, p.many, length_push (take i ss) s);
        often = often-more told now later (take i ss) (take i ss ++ s ∷ []) s refl p.often served.past.often;
        appends = p.appends;
        tally = p.tally;
        flags = All-append IsFlagged p.replies (r ∷ []) p.flags (All-cons IsFlagged r [] flagged (All-nil IsFlagged));
        quiet = λ is. let parts = quiet-push (take i ss) p.replies s r p.many is in untouched-then (p.quiet parts.0) (served.quiet parts.1);
        extends =
            extends-more first_held first_kept origin told now later (take i ss) p.replies s r served.answer (IsAt origin site held kept) (IsAt origin site' held' kept') (IsOver origin site held kept) (IsOver origin site' held' kept') p.many served.next served.past.coming
            (λ applied m is tell.
            let n = served.steps m is.0 is.1 tell in
            (n.0, n.1, n.2, (n.3, n.4, n.5 ∙ ap (λ b. b || n.1) is.2 ∙ or_assoc origin.applied applied n.1)))
            (λ applied b over.
            let came = served.comes in
            let at : AtHand = at_hand held' kept' site' in (
              at,
              came.0,
              subst (λ (x : AtHand). StatementComes (statement_built_at s.1) x s.0 served.answer r came.0 at) (sym over.is) came.1,
              record { is = refl; knows = came.2 ∙ ap (λ b. b || came.0) over.knows ∙ or_assoc origin.applied applied came.0 },
            ))
            p.extends;
      })

  -- the statement i was cut short
  pub progress-cut : {held' : Option Held} {kept' : Option (List Record)} {later : Watch} {s : ℕ × List Token} (i : ℕ) → slice_get ss i ≡ Some s
      → Progress (take i ss) told now before written first_held first_kept origin held kept site sum → IsCutShort held kept site now s held' kept' later
      → EndsAtStatement (FromEach first_held first_kept origin) origin.state None told later before written first_held first_kept held' kept' ss
  progress-cut {held' = held'} {kept' = kept'} {later = later} {s = s} i there p short =
      let f = answers-with now.coming short.answer short.next in
      let all = p.extends f.0 f.1 in
      let count : length p.replies ≡ i = p.many ∙ length-take-le i ss (omega (arith, slice_get_within ss i s there)) in
      let rest : List (ℕ × List Token) = drop (i + 1) ss in
      let parts : ss ≡ take i ss ++ s ∷ rest = in-two ss i s there in
      let cut : FromEach first_held first_kept origin (λ first. IsHonestAlong first all.0 ss p.replies
      → (last : Machine) × (applied : Bool) × Run first all.0 (take i ss) p.replies applied last × IsCut last s (behind (take i ss) all.0 0) held' kept') = λ first stands holds tells.
      let along : IsHonestAlong first all.0 (take i ss ++ s ∷ rest) (p.replies ++ []) =
      subst (λ (ts : List (ℕ × List Token)). IsHonestAlong first all.0 ts (p.replies ++ [])) parts (subst (λ (qs : List Reply). IsHonestAlong first all.0 ss qs) (sym (append-nil p.replies)) tells) in
      let last = all.3 first stands holds (along-first (take i ss) (s ∷ rest) p.replies [] first all.0 p.many along) in
      let here : IsHonestWithin (statement_built_at s.1) last.0 (behind (take i ss) all.0 0) = along-next (take i ss) rest s p.replies [] first last.0 all.0 last.1 last.2 along in
      let same : behind (take i ss) all.0 0 ≡ short.answer = ap (λ (g : Answers). g 0) all.2 ∙ f.2 in (
        last.0,
        last.1,
        last.2,
        subst (λ (a : ℕ). IsCut last.0 s a held' kept') (sym same) (short.cut last.0 last.3.0 last.3.1 (subst (λ (a : ℕ). IsHonestWithin (statement_built_at s.1) last.0 a) same here)),
      ) in
      let more : take (i + 1) ss ≡ take i ss ++ s ∷ [] = take_more ss i s (slice_get_within ss i s there) (sym (get_or_from_slice_get ss i s s there)) in
      let cut-here : Bool → AtHand → Type 0 = λ applied b. only_tells_statement (statement_built_at s.1) ≡ true → AreSame b.held b.kept held' kept' in
      let was = all.4 in
      let came : ComeWith (at_hand first_held first_kept origin) all.0 (take i ss) p.replies cut-here =
      (was.0, was.1, was.2, λ tells. subst (λ (b : AtHand). AreSame b.held b.kept held' kept') (sym was.3.is) (short.quiet tells)) in
      let asked : WasAskedFor told later all.0 (take i ss) ⊎ WasAskedFor told later all.0 (take (i + 1) ss) =
      asked-so told now later (take i ss) (take (i + 1) ss) s f.0 all.0 more p.often all.2 f.1 short.asked in
      record {
        answers = all.0;
        told = all.1;
        asked = subst (λ (n : ℕ). WasAskedFor told later all.0 (take n ss) ⊎ WasAskedFor told later all.0 (take (n + 1) ss)) (sym count) asked;
        replies = p.replies;
        written = p.appends;
        statement = s;
        next = subst (λ (n : ℕ). slice_get ss n ≡ Some s) (sym count) there;
        quiet = λ are tells.
            let was = p.quiet (subst (λ (n : ℕ). are_quiet (take n ss) p.replies ≡ true) count are) in
            same-then was.0 (short.quiet tells);
        comes = subst (λ (n : ℕ). ComeWith (at_hand first_held first_kept origin) all.0 (take n ss) p.replies cut-here) (sym count) came;
        run =
            subst (λ (n : ℕ). FromEach first_held first_kept origin (λ first. IsHonestAlong first all.0 ss p.replies
            → (last : Machine) × (applied : Bool) × Run first all.0 (take n ss) p.replies applied last × IsCut last s (behind (take n ss) all.0 0) held' kept'))
            (sym count) cut;
      }

  -- the reply to the last statement was written
  pub reached-more : {after : Option (List ℕ)} {r : Reply} {next : Tally} → Reached ss told now before written first_held first_kept origin held kept site sum r → Appends written after (reply_text r)
      → ((replies : List Reply) → IsTally sum replies → IsTally next (replies ++ r ∷ [])) → Progress ss told now before after first_held first_kept origin held kept site next
  reached-more {after = after} {r = r} p grows tallies =
      record {
        replies = p.replies ++ r ∷ [];
        many = length_push p.replies r ∙ p.many;
        often = p.often;
        appends = subst (Appends before after) (sym (text-push p.replies r)) (appends-then before written after (replies_text p.replies) (reply_text r) p.appends grows);
        tally = tallies p.replies p.tally;
        flags = p.flags;
        quiet = p.quiet;
        extends = p.extends;
      }

  -- the sink failed in the reply to the statement before n
  pub reached-ends : {after : Option (List ℕ)} {r : Reply} (n : ℕ) → n ≤ length ss → Reached (take n ss) told now before written first_held first_kept origin held kept site sum r → WritesFront written after (reply_text r)
      → EndsInReplies (FromEach first_held first_kept origin) origin.state told now before after first_held first_kept held kept ss
  reached-ends {after = after} {r = r} n low p front =
      let replies : List Reply = p.replies ++ r ∷ [] in
      let all = p.extends (answers_from now.coming) (come-from now.coming) in
      let count : length p.replies + 1 ≡ n = p.many ∙ length-take-le n ss low in
      let was = all.4 in
      let came : ComeWith (at_hand first_held first_kept origin) all.0 (take n ss) replies (λ applied b. AreSame b.held b.kept held kept) =
      (was.0, was.1, was.2, (ap (λ (b : AtHand). b.held) (sym was.3.is), ap (λ (b : AtHand). b.kept) (sym was.3.is))) in
      let run : FromEach first_held first_kept origin (λ first. RunsWhereHonest first all.0 (take n ss) replies (λ applied m. HoldsRest held kept (at_rest m))) = λ first stands holds tells.
      let last = all.3 first stands holds tells in (last.0, last.1, last.2, rests held kept last.0 last.3.1) in
      record {
        answers = all.0;
        told = all.1;
        replies = p.replies;
        last = r;
        many = omega (arith, count, low);
        asked = subst (λ (k : ℕ). WasAskedFor told now all.0 (take k ss)) (sym count) (record { coming = subst (AreToCome now.coming) (sym all.2) (come-from now.coming); often = p.often });
        part = front.0;
        within = front.1;
        flags = p.flags;
        written = appends-then before written after (replies_text p.replies) (take front.0 (reply_text r)) p.appends front.2;
        quiet = λ is. (p.quiet (subst (λ (k : ℕ). are_quiet (take k ss) replies ≡ true) count is)).0;
        comes = subst (λ (k : ℕ). ComeWith (at_hand first_held first_kept origin) all.0 (take k ss) replies (λ applied b. AreSame b.held b.kept held kept)) (sym count) came;
        run = subst (λ (k : ℕ). FromEach first_held first_kept origin (λ first. RunsWhereHonest first all.0 (take k ss) replies (λ applied m. HoldsRest held kept (at_rest m)))) (sym count) run;
      }
