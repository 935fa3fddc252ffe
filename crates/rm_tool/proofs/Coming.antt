-- What statements come to by what is at hand, one after another.
use Rattle.std.proofs.Common.{◌≡◌, ◌∙◌, ◌++◌, ◌||◌, ℕ, List, [], ◌∷◌, Option, Some, None, IfSome, Result, Ok, Err, IfOk, Bool, true, false, refl, ap, sym, subst, append-nil, append_assoc, length}
use Rattle.std.proofs.{lemmas.List.{nil_from_length}, Math.Bool.{or-false, or_assoc}}
use Rattle.rm_base.specs.{Store.{Answers, Held}, declared.refusal.Refusal.{Refusal}}
use Rattle.rm_catalog.specs.declared.record.Record.{Record}
use Rattle.rm_lang_statement.specs.declared.command.{Command.{Command}, Inner.{Inner, TheVariants.{Plain as PlainInner}}}
use Rattle.rm_lang_token.specs.declared.token.Token.{Token}
use Rattle.rm_machine.specs.Marks.{lacks_ids}
use Rattle.rm_machine_laws.specs.{Holds.{View}, Moments.{moment_of}, Refused.{AnsweredBy, refusal_in}, Saves.{applies}}
use Rattle.rm_report.specs.{Reply.{said}, declared.line.{Line.{Line}, Reply.{Reply}}}
use Rattle.rm_tool_opening.specs.{ComesOut.{ComesOut}, Untouched.{IsUntouched, is_quiet}}
use Rattle.rm_tool.specs.{Block.{after_inner, inner_applies, joined, unset, with_until}, Built.{statement_built_at}}
use Rattle.rm_tool.specs.{Comes.{AllCome, AtHand, BlockComes, CommandComes, InnerComes, StatementComes, at_hand}, Run.{behind, past}}
use Rattle.rm_tool.{specs.declared.block.Settings.{Settings}, proofs.Blocks.{match-false, match-true, refused-applies}}

-- the site shows the same database
answered-state : (why : Option Refusal) (c : Command) (reply : Reply) (v w : View) → AnsweredBy why c reply v w → AnsweredBy why c reply v.state w.state
answered-state None c reply v w is = record { objects = is.objects; same = λ refused. ap (λ (u : View). u.state) (is.same refused) }
answered-state (Some r) c reply v w is = (is.0, ap (λ (u : View). u.state) is.1)

-- a step of the site is what the command comes to
command-comes : (held : Option Held) (kept : Option (List Record)) (v : View) (c : Command) (clock : ℕ) (reply : Reply) (held' : Option Held) (kept' : Option (List Record)) (v' : View)
    → ComesOut held kept v.state c (moment_of v.state clock) reply held' kept' v'.state → AnsweredBy (refusal_in v.state c (moment_of v.state clock)) c reply v v'
    → (is_quiet c reply ≡ true → IsUntouched held kept v held' kept' v') → (applies c reply ≡ true → IfSome v.state (λ s. lacks_ids s 0 ≡ false)) → CommandComes (at_hand held kept v) c clock reply (at_hand held' kept' v')
command-comes held kept v c clock reply held' kept' v' out answered quiet ids = record {
  out = out;
  answered = answered-state (refusal_in v.state c (moment_of v.state clock)) c reply v v' answered;
  quiet = λ is. let same = quiet is in λ i. record { held = same.0.0 i; kept = same.0.1 i; state = (same.1 i).state };
  ids = ids;
}

-- where there is a reply
pub step-comes : {E : Type 0} (r : Result Reply E) (held : Option Held) (kept : Option (List Record)) (v : View) (c : Command) (clock : ℕ) (held' : Option Held) (kept' : Option (List Record)) (v' : View)
    → IfOk r (λ reply. ComesOut held kept v.state c (moment_of v.state clock) reply held' kept' v'.state) → IfOk r (λ reply. AnsweredBy (refusal_in v.state c (moment_of v.state clock)) c reply v v')
    → IfOk r (λ reply. is_quiet c reply ≡ true → IsUntouched held kept v held' kept' v') → IfOk r (λ reply. applies c reply ≡ true → IfSome v.state (λ s. lacks_ids s 0 ≡ false))
    → IfOk r (λ reply. CommandComes (at_hand held kept v) c clock reply (at_hand held' kept' v'))
step-comes (Ok reply) held kept v c clock held' kept' v' out answered quiet ids = command-comes held kept v c clock reply held' kept' v' out answered quiet ids
step-comes (Err e) held kept v c clock held' kept' v' out answered quiet ids = tt

-- and of a RUN
pub inner-comes : (x : Settings) (y : Inner) (c d : Command) (a b : AtHand) (clock : ℕ) (reply : Reply) → y ≡ PlainInner c → d ≡ with_until x.until c → CommandComes a d clock reply b → InnerComes x a y clock reply b
inner-comes x y c d a b clock reply is set comes =
    subst (λ (z : Inner). InnerComes x a z clock reply b) (sym is) (subst (λ (e : Command). CommandComes a e clock reply b) set comes)

-- As far as a RUN came, with these lines: what comes of the whole by what comes of those that are left.
pub record Comes (origin v : View) (x : Settings) (block left : List Inner) (clock : ℕ) (lines : List Line) (start here : AtHand) : Type 0 where
  pub applied : Bool
  pub knows : v.applied ≡ (origin.applied || applied)
  pub goes : (reply : Reply) (more : Bool) (end : AtHand) → BlockComes x here left clock reply more end → BlockComes unset start block clock (joined (said lines) reply) (applied || more) end

-- the reply to a whole RUN
abbrev pub IsComing : View → View → List Inner → ℕ → Reply → AtHand → AtHand → Type 0
IsComing origin v block clock reply start end = (applied : Bool) × BlockComes unset start block clock reply applied end × (v.applied ≡ (origin.applied || applied))

module _ {origin v : View} {x : Settings} {y : Inner} {block left others : List Inner} {clock : ℕ} {lines : List Line} {start here : AtHand} (at : Comes origin v x block left clock lines start here) (is : left ≡ y ∷ others) where
  next : Comes origin v x block (y ∷ others) clock lines start here
  next = subst (λ (ys : List Inner). Comes origin v x block ys clock lines start here) is at

  module _ (v' : View) (then : AtHand) (reply : Reply) (comes : InnerComes x here y clock reply then) (all : List Line) (added : all ≡ lines ++ reply.lines) (applied : v'.applied ≡ (v.applied || inner_applies x y reply)) where
    -- it was done
    pub comes-more : (z : Settings) → z ≡ after_inner x y → reply.refused ≡ false → Comes origin v' z block others clock all start then
    comes-more z set accepted =
        let once : Bool = inner_applies x y reply in
        subst (λ (w : Settings). Comes origin v' w block others clock all start then) (sym set)
        (subst (λ (ls : List Line). Comes origin v' (after_inner x y) block others clock ls start then) (sym added)
        (record {
          applied = next.applied || once;
          knows = applied ∙ ap (λ b. b || once) next.knows ∙ or_assoc origin.applied next.applied once;
          goes = λ last more end after.
              subst (λ (b : Bool). BlockComes unset start block clock (joined (said (lines ++ reply.lines)) last) b end) (sym (or_assoc next.applied once more))
              (subst (λ (ls : List Line). BlockComes unset start block clock (record { lines = ls; refused = last.refused }) (next.applied || (once || more)) end) (sym (append_assoc lines reply.lines last.lines))
              (next.goes (joined reply last) (once || more) end (reply, then, comes, match-false _ _ accepted (last, more, after, refl, refl))));
        }))

    -- it was refused
    pub comes-refused : reply.refused ≡ true → IsComing origin v' block clock (record { lines = all; refused = true }) start then
    comes-refused refused =
        let none : v'.applied ≡ v.applied = applied ∙ ap (λ b. v.applied || b) (refused-applies x y reply refused) ∙ or-false v.applied in
        let whole : BlockComes unset start block clock (joined (said lines) reply) (next.applied || false) then = next.goes reply false then (reply, then, comes, match-true _ _ refused (refl, refl, refl)) in
        let ends : BlockComes unset start block clock (joined (said lines) reply) next.applied then = subst (λ (b : Bool). BlockComes unset start block clock (joined (said lines) reply) b then) (or-false next.applied) whole in
        let refuses : BlockComes unset start block clock (record { lines = lines ++ reply.lines; refused = true }) next.applied then =
        subst (λ (b : Bool). BlockComes unset start block clock (record { lines = lines ++ reply.lines; refused = b }) next.applied then) refused ends in
        (next.applied, subst (λ (ls : List Line). BlockComes unset start block clock (record { lines = ls; refused = true }) next.applied then) (sym added) refuses, none ∙ next.knows)

-- all were done
pub comes-all : {origin v : View} {x : Settings} {block left : List Inner} {clock : ℕ} {lines : List Line} {start here : AtHand} → Comes origin v x block left clock lines start here → length left ≡ 0
    → (reply : Reply) → reply ≡ said lines → IsComing origin v block clock reply start here
comes-all {origin = origin} {v = v} {x = x} {block = block} {left = left} {clock = clock} {lines = lines} {start = start} {here = here} at none reply is =
    let p : Comes origin v x block [] clock lines start here = subst (λ (ys : List Inner). Comes origin v x block ys clock lines start here) (nil_from_length left none) at in
    let whole : BlockComes unset start block clock (joined (said lines) (said [])) (p.applied || false) here = p.goes (said []) false here (refl, refl, refl) in
    let ends : BlockComes unset start block clock (joined (said lines) (said [])) p.applied here = subst (λ (b : Bool). BlockComes unset start block clock (joined (said lines) (said [])) b here) (or-false p.applied) whole in
    (p.applied, subst (λ (r : Reply). BlockComes unset start block clock r p.applied here) (ap said (append-nil lines) ∙ sym is) ends, p.knows)

-- these statements, and one more
pub come-more : (ss : List (ℕ × List Token)) (rs : List Reply) (start mid end : AtHand) (all : Answers) (s : ℕ × List Token) (r : Reply) (before here : Bool)
    → AllCome start all ss rs before mid → StatementComes (statement_built_at s.1) mid s.0 (behind ss all 0) r here end → AllCome start all (ss ++ s ∷ []) (rs ++ r ∷ []) (before || here) end
come-more [] [] start mid end all s r before here come step =
    (end, here, false, subst (λ (m : AtHand). StatementComes (statement_built_at s.1) m s.0 (all 0) r here end) come.1 step, (refl, refl), ap (λ b. b || here) come.0 ∙ sym (or-false here))
come-more [] (q ∷ qs) start mid end all s r before here come step = absurd come
come-more (t ∷ ts) [] start mid end all s r before here come step = absurd come
come-more (t ∷ ts) (q ∷ qs) start mid end all s r before here come step =
    let more = come-more ts qs come.0 mid end (past (statement_built_at t.1) all) s r come.2 here come.4 step in
    (come.0, come.1, come.2 || here, come.3, more, ap (λ b. b || here) come.5 ∙ or_assoc come.1 come.2 here)
