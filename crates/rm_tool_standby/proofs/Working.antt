-- What a task comes to, of the calls below it.
use Rattle.std.{specs.Prelude.{IsSomeAnd}, proofs.Common.{◌≡◌, ◌++◌, ℕ, List, [], ◌∷◌, Option, Some, None, refl, sym, subst}}
use Rattle.rm_apply.specs.{Recover.{TellsAll}, declared.recovering.Recovered.{Recovered}}
use Rattle.rm_base.specs.{Store.{Held}, declared.{block.Change.{Change}, refusal.Refusal.{Refusal}}}
use Rattle.rm_catalog.specs.declared.record.Record.{Record}
use Rattle.rm_catalog_typed.specs.TypedCatalog.{records_of}
use Rattle.rm_history.specs.History.{IsHistory}
use Rattle.rm_lang_statement.specs.declared.command.Until.TheVariants.{Scn}
use Rattle.rm_lang_words.specs.declared.standby.StandbyTask.{StandbyTask, TheVariants.{Dump, Make, Roll}}
use Rattle.rm_machine.specs.{Recovery.{AreMadeAt, in_place, skipped_lines}, RecoverTest.{test_refusal}, Sound.{IsSound}}
use Rattle.rm_machine.specs.{State.{current_of, ledger, tree, world}, Until.{or_else}, declared.state.State.{State}}
use Rattle.rm_machine_laws.specs.Holds.{View}
use Rattle.rm_piece.specs.{Sets.{IsSet}, declared.set.Set.{Set}}
use Rattle.rm_report.specs.declared.line.Line.{Line}
use Rattle.rm_standby.specs.{Image.{imaged}, Rolling.{Meets, changed, rolled}, Standby.{HoldsSince, HoldsStates}}
use Rattle.rm_tool_opening.specs.Opening.{IsSource}
use Rattle.rm_tool_standby.specs.{Asked.{sides}, Done.{ComesTo, dump_lines, dumped, made, made_line, rolled_line, was_rolled}, Kept.{Finds}}
use Rattle.rm_tool_standby.specs.Prepared.{IsReady, IsWork, OfShown, ready_of}
use Rattle.rm_tool_standby.specs.Refused.{FindsIncrement, Refuses, RefusesBy, make_refusal, number_refusal}
use Rattle.rm_tool_standby.{specs.declared.{preparing.Ready.{Ready}, work.Work.{Work}}, proofs.Dated.{dump-dated, made-dated, one-dated}}
use Rattle.rm_tool_standby.proofs.Exact.{made-exact, rolled-exact}

-- where none of two reasons is there
pub both-none : {X : Type 0} (o p : Option X) → or_else o p ≡ None → (o ≡ None) × (p ≡ None)
both-none None p none = (refl, none)
both-none (Some x) p none = absurd (cc)

module _ (from : Option Held) (s : State) where
  -- a standby that was made
  pub made-work : (until : ℕ) (found : Option (ℕ × Set)) (back : Recovered) (new : Set) (lines : List Line) → make_refusal s until found ≡ None
      → TellsAll from (records_of s.catalog) (in_place s) (current_of s) until back → new ≡ imaged (world s) (ledger s).base.dbid (current_of s) until back.files → IsSet new
      → ((h : List Change) → IsHistory (world s) h → AreMadeAt (world s) h (current_of s) until back.files → HoldsStates (world s) h new)
      → lines ≡ skipped_lines back.skipped ++ made_line found new ∷ [] → IsWork from s found (Make until) (record { new = Some new; lines = lines })
  made-work until found back new lines accepted tells is valid holds told = record {
    comes = λ to records v source shown. subst (λ (ls : List Line). ComesTo (sides from records to) s (Make until) found (Some new) ls) (sym told) (made until found back new (record {
      accepted = accepted;
      tells = tells;
      is = is;
      valid = valid;
      exact = made-exact from records v source s shown (current_of s) until back new tells holds;
    }));
    fit = ((both-none (test_refusal s (Some (Scn until)) None) (number_refusal found) accepted).1, valid);
    dated = made-dated back.skipped (made_line found new) lines tt told;
  }

  -- one that was rolled
  pub rolled-work : (n : ℕ) (found : Option (ℕ × Set)) (x : ℕ × Set) (increment new : Set) (lines : List Line) → found ≡ Some x → number_refusal found ≡ None → FindsIncrement from n (Some increment)
      → Meets (tree s) x.1 increment → new ≡ rolled x.1 increment → IsSet new
      → ((h : List Change) (at : ℕ) → IsHistory (world s) h → HoldsStates (world s) h x.1 → HoldsSince (world s) h at increment → HoldsStates (world s) h new)
      → lines ≡ rolled_line found new (changed x.1 increment) ∷ [] → IsWork from s found (Roll n) (record { new = Some new; lines = lines })
  rolled-work n found x increment new lines at left there met is valid holds told = record {
    comes = λ to records v source shown. subst (λ (ls : List Line). ComesTo (sides from records to) s (Roll n) found (Some new) ls) (sym told)
        (subst (λ (o : Option (ℕ × Set)). ComesTo (sides from records to) s (Roll n) o (Some new) (rolled_line o new (changed x.1 increment) ∷ [])) (sym at) (was_rolled n x.0 x.1 increment new (record {
          left = subst (λ (o : Option (ℕ × Set)). number_refusal o ≡ None) at left;
          there = there;
          met = met;
          is = is;
          valid = valid;
          exact = rolled-exact from records v source s shown x.1 increment new holds;
        })));
    fit = (left, valid);
    dated = one-dated (rolled_line found new (changed x.1 increment)) lines tt told;
  }

  -- one that is told
  pub dumped-work : (found : Option (ℕ × Set)) (x : ℕ × Set) (lines : List Line) → found ≡ Some x → lines ≡ dump_lines x.1 → IsWork from s found Dump (record { new = None; lines = lines })
  dumped-work found x lines at told = record {
    comes = λ to records v source shown. subst (λ (ls : List Line). ComesTo (sides from records to) s Dump found None ls) (sym told)
        (subst (λ (o : Option (ℕ × Set)). ComesTo (sides from records to) s Dump o None (dump_lines x.1)) (sym at) (dumped x.0 x.1));
    fit = tt;
    dated = dump-dated x.1 lines told;
  }

  -- and so it is ready
  pub is-ready : (to : Option Held) (task : StandbyTask) (found : Option (ℕ × Set)) (w : Work) → IsSound s → Finds to found → IsWork from s found task w
      → OfShown from to s (λ a. IsReady a task (ready_of found w.new w.lines))
  is-ready to task found w sound finds work = λ records v source shown. record {
    found = found;
    new = w.new;
    lines = w.lines;
    comes = record { view = v; source = source; state = s; shown = shown; sound = sound; finds = finds; is = work.comes to records v source shown };
    fit = work.fit;
    is = refl;
  }

-- the task is refused, of what the site shows
pub refuses : (from to : Option Held) (records : Option (List Record)) (task : StandbyTask) (v : View) (o : Option State) (r : Refusal) → o ≡ v.state → IsSource from records v → RefusesBy from to task o r
    → Refuses (sides from records to) task r
refuses from to records task v o r shown source refused = record { view = v; source = source; refused = subst (λ p. RefusesBy from to task p r) shown refused }

-- it is ready over what the site shows
pub ready-shown : (from to : Option Held) (task : StandbyTask) (ready : Ready) (o : Option State) (v : View) → o ≡ v.state → IsSomeAnd o (λ s. OfShown from to s (λ a. IsReady a task ready))
    → (records : Option (List Record)) → IsSource from records v → IsReady (sides from records to) task ready
ready-shown from to task ready None v shown some = absurd some
ready-shown from to task ready (Some s) v shown some = λ records source. some records v source (sym shown)
